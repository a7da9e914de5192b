-- Expressions whose names are resolved: a variable is the number of sums between it and its own, a port the shape and the start of its pattern.
use Rattle.std.specs.Prelude.{ℕ, ◌+◌, ℤ, pos, List, [], ◌∷◌, map, drop, Option, Some, None, Result, Ok, slice_index, if◌then◌else◌}
use Rattle.aol_shape.specs.Lists.{same}
use Rattle.aol_shape.specs.Shape.{size}
use Rattle.aol_expr_tree.specs.declared.op.ExprOp.{ExprOp}
use Rattle.aol_expr_tree.specs.declared.port.Port.{Port}
use Rattle.aol_eval.specs.declared.step.Step.{Step}
use Rattle.aol_eval.specs.declared.step.Step.TheOpen.{Step-F}
use Rattle.aol_eval.specs.declared.step.Step.TheFolds.{fold-Step}
use Rattle.aol_expr_tree.specs.declared.value.Kind.{Kind}
use Rattle.aol_expr_tree.specs.Meaning.{◌>>=◌, applied, is_zero, nth_number, summed}
use Rattle.aol_eval.specs.Places.{number_at, rank_in}
use Rattle.aol_expr_tree.specs.Tree.{Tree, num, index, var, read, bin, if_else, sum, Trees, no_trees, tree_and}

mutual
  -- an expression without names
  pub data Plan : Type 0 where
    number : ℤ → Plan
    entry : ℕ → Plan
    outer : ℕ → Plan
    element_at : Option (List ℕ) → ℕ → Plans → Plan
    operation : ExprOp → Plan → Plan → Plan
    choice : Plan → Plan → Plan → Plan
    series : ℕ → Plan → Plan

  pub data Plans : Type 0 where
    no_plans : Plans
    plan_and : Plan → Plans → Plans

-- a list of them
abbrev pub plans : List Plan → Plans
plans [] = no_plans
plans (p ∷ ps) = plan_and p (plans ps)

-- how many bound names stand before the name
abbrev pub depth_of : List (List ℕ) → List ℕ → ℕ
depth_of [] x = 0
depth_of (y ∷ ys) x = if same y x then 0 else depth_of ys x + 1

-- the shape of the first port with the name
abbrev pub shape_of : List Port → List ℕ → Option (List ℕ)
shape_of [] name = None
shape_of (p ∷ ps) name = if same p.name name then Some p.shape else shape_of ps name

-- how many numbers stand before its pattern
abbrev pub start_of : List Port → List ℕ → ℕ
start_of [] name = 0
start_of (p ∷ ps) name = if same p.name name then 0 else size p.shape + start_of ps name

-- a tree with its names resolved, inside sums that bind these names
abbrev mutual
  pub resolved : List Port → List (List ℕ) → Tree → Plan
  resolved ins bound (num z) = number z
  resolved ins bound (index k) = entry k
  resolved ins bound (var x) = outer (depth_of bound x)
  resolved ins bound (read p at) = element_at (shape_of ins p) (start_of ins p) (all_resolved ins bound at)
  resolved ins bound (bin op l r) = operation op (resolved ins bound l) (resolved ins bound r)
  resolved ins bound (if_else c a b) = choice (resolved ins bound c) (resolved ins bound a) (resolved ins bound b)
  resolved ins bound (sum x n e) = series n (resolved ins (x ∷ bound) e)

  pub all_resolved : List Port → List (List ℕ) → Trees → Plans
  all_resolved ins bound no_trees = no_plans
  all_resolved ins bound (tree_and t ts) = plan_and (resolved ins bound t) (all_resolved ins bound ts)

-- what it computes from the patterns, the output point and the variables, the innermost first
abbrev mutual
  pub run : List ℤ → List ℕ → List ℤ → Plan → Result ℤ Kind
  run nums at vars (number z) = Ok z
  run nums at vars (entry k) = Ok (pos (slice_index at k))
  run nums at vars (outer k) = Ok (nth_number vars k)
  run nums at vars (element_at shape start ps) = run_all nums at vars ps >>= (λ is. number_at (drop start nums) (rank_in shape is))
  run nums at vars (operation op l r) = run nums at vars l >>= (λ a. run nums at vars r >>= (λ b. applied op a b))
  run nums at vars (choice c a b) = run nums at vars c >>= (λ z. if is_zero z then run nums at vars b else run nums at vars a)
  run nums at vars (series n e) = summed (λ k. run nums at (k ∷ vars) e) n

  pub run_all : List ℤ → List ℕ → List ℤ → Plans → Result (List ℤ) Kind
  run_all nums at vars no_plans = Ok []
  run_all nums at vars (plan_and p ps) = run nums at vars p >>= (λ z. run_all nums at vars ps >>= (λ zs. Ok (z ∷ zs)))

-- one level, with each step inside already seen as its plan
abbrev pub level_plan : Step-F Plan → Plan
level_plan (Step-F.Num z) = number z
level_plan (Step-F.Index k) = entry k
level_plan (Step-F.Var k) = outer k
level_plan (Step-F.Read shape start ps) = element_at shape start (plans ps)
level_plan (Step-F.Bin op l r) = operation op l.value r.value
level_plan (Step-F.If c a b) = choice c.value a.value b.value
level_plan (Step-F.Sum n e) = series n e.value

-- the plan of a step
abbrev pub plan_of : Step → Plan
plan_of = fold-Step Plan level_plan

-- the plans of a list of steps
abbrev pub plans_of : List Step → Plans
plans_of ss = plans (map plan_of ss)
