-- A value is a number, or a fault of another kind than that of a width.
use Rattle.std.proofs.Common.{◌≡◌, ℕ, zero, suc, ℤ, pos, nat_abs, ◌+ℤ◌, ◌-ℤ◌, ◌*ℤ◌, List, [], ◌∷◌, map, drop, Bool, true, false, Result, Ok, Err, refl, sym, ◌∙◌, ap, if◌then◌else◌}
use Rattle.std.specs.Prelude.{int_lt, int_le, int_div, int_rem}
use Rattle.std.proofs.lemmas.Bool.{false≢true}
use Rattle.aol_shape.specs.Lists.{same}
use Rattle.aol_shape.specs.Numbers.{fits_64}
use Rattle.aol_shape.specs.Shape.{size, rank}
use Rattle.aol_shape.specs.Vectors.{is_inside}
use Rattle.aol_expr_tree.specs.declared.op.ExprOp.{ExprOp}
use Rattle.aol_expr_tree.specs.declared.op.ExprOp.TheVariants.{Add, Sub, Mul, Div, Rem, Lt, Le, Eq, Min, Max}
use Rattle.aol_expr_tree.specs.declared.port.Port.{Port}
use Rattle.aol_expr_tree.specs.declared.value.Kind.{Kind}
use Rattle.aol_expr_tree.specs.declared.value.Kind.TheVariants.{Overflow, Divide, Index, Range}
use Rattle.aol_expr_tree.specs.Tree.{Tree, num, index, var, read, bin, if_else, sum, Trees, no_trees, tree_and}
use Rattle.aol_expr_tree.specs.Meaning.{◌>>=◌, checked, truth, is_zero, applied, Given, element, nth_number, summed, value, values}

abbrev is_range : Kind → Bool
is_range Range = true
is_range Overflow = false
is_range Divide = false
is_range Index = false

-- a number, or a fault of another kind
abbrev IsNoRange : {A : Type 0} → Result A Kind → Type 0
IsNoRange (Ok x) = Unit {0}
IsNoRange (Err k) = is_range k ≡ false

then_none : {A B : Type 0} (r : Result A Kind) (f : A → Result B Kind) → IsNoRange r → ((x : A) → IsNoRange (f x)) → IsNoRange (r >>= f)
then_none (Ok x) f h k = k x
then_none (Err e) f h k = h

either_none : {A : Type 0} (b : Bool) (r q : Result A Kind) → IsNoRange r → IsNoRange q → IsNoRange (if b then r else q)
either_none true r q h k = h
either_none false r q h k = k

checked_none : (z : ℤ) → IsNoRange (checked z)
checked_none z = either_none (fits_64 z) (Ok z) (Err Overflow) tt refl

truth_none : (b : Bool) → IsNoRange (truth b)
truth_none true = tt
truth_none false = tt

applied_none : (op : ExprOp) (a b : ℤ) → IsNoRange (applied op a b)
applied_none Add a b = checked_none (a +ℤ b)
applied_none Sub a b = checked_none (a -ℤ b)
applied_none Mul a b = checked_none (a *ℤ b)
applied_none Div a b = either_none (is_zero b) (Err Divide) (checked (int_div a b)) refl (checked_none (int_div a b))
applied_none Rem a b = either_none (is_zero b) (Err Divide) (if fits_64 (int_div a b) then Ok (int_rem a b) else Err Overflow) refl (either_none (fits_64 (int_div a b)) (Ok (int_rem a b)) (Err Overflow) tt refl)
applied_none Lt a b = truth_none (int_lt a b)
applied_none Le a b = truth_none (int_le a b)
applied_none Eq a b = truth_none (is_zero (a -ℤ b))
applied_none Min a b = tt
applied_none Max a b = tt

element_none : (ps : List Port) (nums : List ℤ) (name : List ℕ) (at : List ℤ) → IsNoRange (element ps nums name at)
element_none [] nums name at = refl
element_none (p ∷ ps) nums name at =
    either_none (same p.name name) (if is_inside p.shape at then Ok (nth_number nums (rank p.shape (map nat_abs at))) else Err Index) (element ps (drop (size p.shape) nums) name at)
    (either_none (is_inside p.shape at) (Ok (nth_number nums (rank p.shape (map nat_abs at)))) (Err Index) tt refl) (element_none ps (drop (size p.shape) nums) name at)

summed_none : (term : ℤ → Result ℤ Kind) → ((z : ℤ) → IsNoRange (term z)) → (n : ℕ) → IsNoRange (summed term n)
summed_none term h zero = tt
summed_none term h (suc n) =
    then_none (summed term n) _ (summed_none term h n) (λ s. then_none (term (pos n)) (λ z. checked (s +ℤ z)) (h (pos n)) (λ z. checked_none (s +ℤ z)))

mutual
  value_none : (g : Given) (vars : List (List ℕ × ℤ)) (t : Tree) → IsNoRange (value g vars t)
  value_none g vars (num z) = tt
  value_none g vars (index k) = tt
  value_none g vars (var x) = tt
  value_none g vars (read p at) = then_none (values g vars at) _ (values_none g vars at) (λ indices. element_none g.ins g.nums p indices)
  value_none g vars (bin op l r) = then_none (value g vars l) _ (value_none g vars l) (λ a. then_none (value g vars r) (λ b. applied op a b) (value_none g vars r) (λ b. applied_none op a b))
  value_none g vars (if_else c a b) = then_none (value g vars c) _ (value_none g vars c) (λ z. either_none (is_zero z) (value g vars b) (value g vars a) (value_none g vars b) (value_none g vars a))
  value_none g vars (sum x n e) = summed_none (λ k. value g ((x, k) ∷ vars) e) (λ z. value_none g ((x, z) ∷ vars) e) n

  values_none : (g : Given) (vars : List (List ℕ × ℤ)) (ts : Trees) → IsNoRange (values g vars ts)
  values_none g vars no_trees = tt
  values_none g vars (tree_and t ts) = then_none (value g vars t) _ (value_none g vars t) (λ z. then_none (values g vars ts) (λ zs. Ok (z ∷ zs)) (values_none g vars ts) (λ zs. tt))

other_kind : (r : Result ℤ Kind) → IsNoRange r → r ≡ Err Range → ⊥
other_kind (Ok x) h e = cc
other_kind (Err k) h e = let is : k ≡ Range = cc in false≢true (sym h ∙ ap is_range is)

-- no value is a fault of a width
pub value_is_no_range : (g : Given) (vars : List (List ℕ × ℤ)) (t : Tree) → value g vars t ≡ Err Range → ⊥
value_is_no_range g vars t = other_kind (value g vars t) (value_none g vars t)
