-- How reads and sums are evaluated step by step.
use Rattle.std.proofs.Common.{◌≡◌, ℕ, zero, suc, ◌+◌, ◌<◌, ◌≤◌, ◌-◌, ℤ, pos, List, ◌∷◌, Result, Ok, Err, refl, arith, ◌∙◌, ap, sym, length, get_or, drop, drop-cons, add-one, add-zero, add-suc}
use Rattle.aol_expr_tree.specs.declared.node.ExprNode.{ExprNode}
use Rattle.aol_expr_tree.specs.declared.op.ExprOp.TheVariants.{Add}
use Rattle.aol_eval.specs.declared.place.Place.{Place}
use Rattle.aol_expr_tree.specs.declared.value.Kind.{Kind}
use Rattle.aol_expr_tree.specs.Meaning.{◌>>=◌, Given, value, values, element, summed, applied}
use Rattle.aol_expr_tree.specs.Node.{tree_of, trees_of}
use Rattle.aol_eval.specs.Places.{rank_from, number_at}
use Rattle.aol_expr_tree.specs.Tree.{Tree, read, Trees, tree_and}

-- an equal step behind the same result
pub then_same : {A B : Type 0} (r : Result A Kind) (f h : A → Result B Kind) → ((x : A) → f x ≡ h x) → (r >>= f) ≡ (r >>= h)
then_same (Ok x) f h e = e x
then_same (Err k) f h e = refl

-- a result is put before others, and they are used together
pub with_front : {A : Type 0} (r : Result (List ℤ) Kind) (z : ℤ) (f : List ℤ → Result A Kind) → (r >>= (λ zs. Ok (z ∷ zs)) >>= f) ≡ (r >>= (λ zs. f (z ∷ zs)))
with_front (Ok zs) z f = refl
with_front (Err k) z f = refl

-- the number at a place, with the indices that are left
abbrev pub read_on : Given → List (List ℕ × ℤ) → List ℤ → Place → Trees → Result ℤ Kind
read_on g vars nums place ts = values g vars ts >>= (λ at. number_at nums (rank_from place at))

-- the indices that are left behind the first of them
pub nodes-left : (nodes : List ExprNode) (k : ℕ) (node : ExprNode) → k < length nodes → node ≡ get_or nodes k node → trees_of (drop k nodes) ≡ tree_and (tree_of node) (trees_of (drop (k + 1) nodes))
nodes-left nodes k node below is = rw (drop-cons nodes k node, ← is, add-one) refl

module _ (g : Given) (vars : List (List ℕ × ℤ)) (nums : List ℤ) (place : Place) where
  -- before the first index
  pub read-start : (name : List ℕ) (ts : Trees) → ((at : List ℤ) → element g.ins g.nums name at ≡ number_at nums (rank_from place at)) → value g vars (read name ts) ≡ read_on g vars nums place ts
  read-start name ts same = then_same (values g vars ts) _ _ same

  -- one more index
  pub read-more : (t : Tree) (ts : Trees) (z : ℤ) (next : Place) → value g vars t ≡ Ok z → ((more : List ℤ) → rank_from next more ≡ rank_from place (z ∷ more)) → read_on g vars nums place (tree_and t ts) ≡ read_on g vars nums next ts
  read-more t ts z next is same = rw is (with_front (values g vars ts) z (λ at. number_at nums (rank_from place at)) ∙ then_same (values g vars ts) _ _ (λ at. ap (number_at nums) (sym (same at))))

  -- an index that is a fault
  pub read-fault : (t : Tree) (ts : Trees) (k : Kind) → value g vars t ≡ Err k → read_on g vars nums place (tree_and t ts) ≡ Err k
  read-fault t ts k is = rw is refl

-- one more term
pub sum-more : (term : ℤ → Result ℤ Kind) (n : ℕ) (s z : ℤ) (r : Result ℤ Kind) → summed term n ≡ Ok s → term (pos n) ≡ Ok z → r ≡ applied Add s z → summed term (n + 1) ≡ r
sum-more term n s z r so_far is sum = rw (add-one, so_far, is) (sym sum)

-- a term that is a fault
pub sum-fault : (term : ℤ → Result ℤ Kind) (n : ℕ) (s : ℤ) (k : Kind) → summed term n ≡ Ok s → term (pos n) ≡ Err k → summed term (n + 1) ≡ Err k
sum-fault term n s k so_far is = rw (add-one, so_far, is) refl

-- a fault stays
pub fault-stays : (term : ℤ → Result ℤ Kind) (n : ℕ) (k : Kind) (more : ℕ) → summed term n ≡ Err k → summed term (n + more) ≡ Err k
fault-stays term n k zero is = rw add-zero is
fault-stays term n k (suc more) is = rw (add-suc, fault-stays term n k more is) refl

-- a fault below the number of terms is the sum
pub fault-below : (term : ℤ → Result ℤ Kind) (n terms : ℕ) (k : Kind) → n ≤ terms → summed term n ≡ Err k → summed term terms ≡ Err k
fault-below term n terms k below is =
    let e : n + (terms - n) ≡ terms = omega arith in
    rw (← e) (fault-stays term n k (terms - n) is)
