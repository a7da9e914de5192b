-- An expression with its names resolved has the value of the expression.
use Rattle.std.proofs.Common.{◌≡◌, ℕ, zero, suc, ◌+◌, ◌-◌, ◌<◌, ℤ, pos, List, [], ◌∷◌, map, drop, take, length, ◌≤◌, ◌∙◌, true, false, Some, Result, Ok, Err, if◌then◌else◌, nat_abs, refl, ap, add-one, arith}
use Rattle.std.proofs.lemmas.List.{drop-drop, take_all}
use Rattle.aol_shape.specs.Lists.{same}
use Rattle.aol_shape.specs.Shape.{size, rank}
use Rattle.aol_shape.specs.Vectors.{is_inside}
use Rattle.aol_expr_tree.specs.declared.node.ExprNode.{ExprNode}
use Rattle.aol_eval.specs.declared.place.Place.{Place}
use Rattle.aol_expr_tree.specs.declared.port.Port.{Port}
use Rattle.aol_eval.specs.declared.step.Step.{Step}
use Rattle.aol_expr_tree.specs.declared.value.Kind.{Kind}
use Rattle.aol_expr_tree.specs.declared.value.Kind.TheVariants.{Index}
use Rattle.aol_expr_tree.specs.Meaning.{◌>>=◌, Given, value, values, element, variable, nth_number, summed}
use Rattle.aol_expr_tree.specs.Node.{tree_of, trees_of}
use Rattle.aol_eval.specs.Places.{number_at, rank_from, rank_in}
use Rattle.aol_eval.specs.Resolved.{Plan, Plans, plans, plan_of, plans_of, resolved, all_resolved, run, run_all, depth_of, shape_of, start_of}
use Rattle.aol_expr_tree.specs.Tree.{Tree, num, index, var, read, bin, if_else, sum, Trees, no_trees, tree_and}
use Rattle.aol_eval.proofs.Evaluation.{then_same}
use Rattle.aol_eval.proofs.Places.{pattern-number}

-- the names of variables
abbrev names : List (List ℕ × ℤ) → List (List ℕ)
names [] = []
names (v ∷ vs) = v.0 ∷ names vs

-- their values
abbrev numbers : List (List ℕ × ℤ) → List ℤ
numbers [] = []
numbers (v ∷ vs) = v.1 ∷ numbers vs

-- a variable stands as deep as its name
variable-depth : (vars : List (List ℕ × ℤ)) (x : List ℕ) → nth_number (numbers vars) (depth_of (names vars) x) ≡ variable vars x
variable-depth [] x = refl
variable-depth (v ∷ vs) x =
    elim (same v.0 x) as (λ b. nth_number (v.1 ∷ numbers vs) (if b then 0 else depth_of (names vs) x + 1) ≡ (if b then v.1 else variable vs x))
    [ true ↦ refl | false ↦ rw add-one (variable-depth vs x) ]

-- an element of the first port with the name
element-start : (ins : List Port) (nums : List ℤ) (p : List ℕ) (at : List ℤ) → number_at (drop (start_of ins p) nums) (rank_in (shape_of ins p) at) ≡ element ins nums p at
element-start [] nums p at = refl
element-start (q ∷ qs) nums p at =
    let later : number_at (drop (size q.shape + start_of qs p) nums) (rank_in (shape_of qs p) at) ≡ element qs (drop (size q.shape) nums) p at
    = rw (← drop-drop (start_of qs p) (size q.shape) nums) (element-start qs (drop (size q.shape) nums) p at) in
    elim (same q.name p) as (λ b. number_at (drop (if b then 0 else size q.shape + start_of qs p) nums) (rank_in (if b then Some q.shape else shape_of qs p) at)
    ≡ (if b then (if is_inside q.shape at then Ok (nth_number nums (rank q.shape (map nat_abs at))) else Err Index) else element qs (drop (size q.shape) nums) p at))
    [ true ↦ pattern-number q.shape nums at | false ↦ later ]

-- equal terms have equal sums
summed-same : (f h : ℤ → Result ℤ Kind) (n : ℕ) → ((k : ℤ) → f k ≡ h k) → summed f n ≡ summed h n
summed-same f h zero same = refl
summed-same f h (suc n) same = rw (summed-same f h n same, same (pos n)) refl

module _ (g : Given) where
  mutual
    run-in : (vars : List (List ℕ × ℤ)) (t : Tree) → run g.nums g.at (numbers vars) (resolved g.ins (names vars) t) ≡ value g vars t
    run-in vars (num z) = refl
    run-in vars (index k) = refl
    run-in vars (var x) = ap Ok (variable-depth vars x)
    run-in vars (read p ts) = rw (run-all-in vars ts) (then_same (values g vars ts) _ _ (element-start g.ins g.nums p))
    run-in vars (bin op l r) = rw (run-in vars l, run-in vars r) refl
    run-in vars (if_else c a b) = rw (run-in vars c, run-in vars a, run-in vars b) refl
    run-in vars (sum x n e) = summed-same _ _ n (λ k. run-in ((x, k) ∷ vars) e)

    run-all-in : (vars : List (List ℕ × ℤ)) (ts : Trees) → run_all g.nums g.at (numbers vars) (all_resolved g.ins (names vars) ts) ≡ values g vars ts
    run-all-in vars no_trees = refl
    run-all-in vars (tree_and t ts) = rw (run-in vars t, run-all-in vars ts) refl

  -- outside any sum
  pub run-resolved : (t : Tree) → run g.nums g.at [] (resolved g.ins [] t) ≡ value g [] t
  run-resolved t = run-in [] t

-- the plan of a node inside sums that bind these names
abbrev pub plan_at : List Port → List (List ℕ) → ExprNode → Plan
plan_at ins bound node = resolved ins bound (tree_of node)

one_by_one : (ins : List Port) (bound : List (List ℕ)) (nodes : List ExprNode) → plans (map (plan_at ins bound) nodes) ≡ all_resolved ins bound (trees_of nodes)
one_by_one ins bound [] = refl
one_by_one ins bound (node ∷ nodes) = rw (one_by_one ins bound nodes) refl

-- a list of nodes is resolved one by one
pub plans_made : (ins : List Port) (bound : List (List ℕ)) (nodes : List ExprNode) (steps : List Step) (k : ℕ) → map plan_of steps ≡ map (plan_at ins bound) (take k nodes)
    → length nodes ≤ k → plans_of steps ≡ all_resolved ins bound (trees_of nodes)
plans_made ins bound nodes steps k made all =
    ap plans (made ∙ ap (map (plan_at ins bound)) (take_all k nodes all)) ∙ one_by_one ins bound nodes

-- a variable further out
pub number_behind : (z : ℤ) (zs : List ℤ) (k : ℕ) → 0 < k → nth_number (z ∷ zs) k ≡ nth_number zs (k - 1)
number_behind z zs zero some = absurd (omega arith)
number_behind z zs (suc k) some = let e : suc k - 1 ≡ k = omega arith in rw e refl

-- the number at a place, with the indices that are left
abbrev pub run_on : List ℤ → List ℕ → List ℤ → ℕ → Place → Plans → Result ℤ Kind
run_on nums at vars start place ps = run_all nums at vars ps >>= (λ is. number_at (drop start nums) (rank_from place is))
