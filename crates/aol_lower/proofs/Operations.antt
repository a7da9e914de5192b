-- What the statements of an operator leave.
use Rattle.std.specs.Prelude.{◌≡◌, ℕ, zero, suc, ◌+◌, ◌<◌, ◌^◌, ◌-◌, ℤ, pos, negsuc, ◌+ℤ◌, ◌-ℤ◌, ◌*ℤ◌, int_le, int_lt, int_div, int_rem, Bool, true, false, List, [], ◌∷◌, length, slice_get, Some, Result, Ok, Err, if◌then◌else◌}
use Rattle.std.proofs.Common.{refl, sym, ap, subst, arith, ◌∙◌}
use Rattle.std.proofs.Math.Dec.{leb-zero, eqb-suc-zero}
use Rattle.std.proofs.lemmas.Int.{ints}
use Rattle.std.proofs.lemmas.Bool.{eqb-true}
use Rattle.aol_shape.specs.Numbers.{fits_64}
use Rattle.aol_expr_tree.specs.declared.op.ExprOp.{ExprOp}
use Rattle.aol_expr_tree.specs.declared.op.ExprOp.TheVariants.{Add, Sub, Mul, Div, Rem, Lt, Le, Eq, Min, Max}
use Rattle.aol_expr_tree.specs.declared.value.Kind.{Kind}
use Rattle.aol_expr_tree.specs.declared.value.Kind.TheVariants.{Overflow, Divide}
use Rattle.aol_expr_tree.specs.Meaning.{applied, checked, is_zero, truth as holding}
use Rattle.aol_csyn.specs.declared.program.COp.{COp}
use Rattle.aol_csyn.specs.declared.program.COp.TheVariants.{Add as Plus, Sub as Minus, Mul as Times, Div as Over, Rem as Rest, Lt as Below, Le as AtMost, Eq as Equal}
use Rattle.aol_csyn.specs.Tree.{Expr, num as number, var as variable, bin as between, Stmt, set_var}
use Rattle.aol_csyn.specs.Meaning.{State, value, truth, applied as gives, checked as checks, is_zero as is_none}
use Rattle.aol_lower.specs.Effect.{IsSound, Leaves}
use Rattle.aol_lower.specs.Lowered.{greatest, least, nought, fail, assign, attempt, either, at_most, plus, minus, times, times_above, times_below, divided, operation}
use Rattle.aol_lower.proofs.Arithmetic.{G, L, plus_up, plus_up_fits, plus_down, plus_down_fits, minus_up, minus_up_fits, minus_down, minus_down_fits, times_up, times_left, times_right, times_down, none_left, none_right, times_none, greatest_over, greatest_under, least_over, over_positive, over_less, over_minus_one, rest_fits}
use Rattle.aol_lower.proofs.Steps.{set_leaves, fail_leaves, nothing_leaves, between_is, first_leaves, second_leaves, either_leaves}

-- two numbers in variables, of which the first takes the result
pub record Operands (d y : ℕ) (s : State) (a b : ℤ) : Type 0 where
  pub some : 0 < d
  pub inside : d < length s.vars
  pub left : slice_get s.vars d ≡ Some a
  pub right : slice_get s.vars y ≡ Some b
  pub left_fits : fits_64 a ≡ true
  pub right_fits : fits_64 b ≡ true
  pub sound : IsSound s

-- ---- what an operator of the program gives

checks_small : (z : ℤ) → fits_64 z ≡ true → checks z ≡ Some z
checks_small z h = rw h refl

-- not 0
some_above : (n : ℕ) → is_none (pos (suc n)) ≡ false
some_above n = eqb-suc-zero n

over_is : (a b : ℤ) → is_none b ≡ false → fits_64 (int_div a b) ≡ true → gives Over a b ≡ Some (int_div a b)
over_is a b some h = rw (some, h) refl

rest_is : (a b : ℤ) → is_none b ≡ false → fits_64 (int_div a b) ≡ true → gives Rest a b ≡ Some (int_rem a b)
rest_is a b some h = rw (some, h) refl

-- a number that is none is 0
none_is : (z : ℤ) → is_none z ≡ true → z ≡ pos 0
none_is (pos n) h = ap pos (eqb-true n 0 h)
none_is (negsuc n) h = absurd (cc)

not_true : (t : Bool) → (t ≡ true → ⊥) → t ≡ false
not_true true h = absurd (h refl)
not_true false h = refl

-- two numbers that differ
equal_none : (a b : ℤ) → (a ≡ b → ⊥) → gives Equal a b ≡ Some (pos 0)
equal_none a b h =
    let differ : is_none (a -ℤ b) ≡ false = not_true (is_none (a -ℤ b)) (λ e. h (let none : a -ℤ b ≡ pos 0 = none_is (a -ℤ b) e in omega (arith, ints, none))) in
    ap (λ t. Some (truth t)) differ

module _ (tables : List (List ℤ)) (d y : ℕ) (s : State) where
  -- the operator is applied where the test says that the result has 64 bits
  attempt_leaves : (test : Expr) (op : COp) (a b z : ℤ) (ok : Bool) → Operands d y s a b → value tables s test ≡ Some (truth ok) → (ok ≡ true → (gives op a b ≡ Some z) × (fits_64 z ≡ true))
      → Leaves tables (attempt test op d y) d s (if ok then Ok z else Err Overflow)
  attempt_leaves test op a b z true o is right = let r = right refl in
      first_leaves tables test (assign op d y) (fail Overflow ∷ []) d s (Ok z) is
      (set_leaves tables d (between op (variable d) (variable y)) z s (between_is tables op (variable d) (variable y) a b s o.left o.right ∙ r.0) r.1 o.some o.inside o.sound)
  attempt_leaves test op a b z false o is right = second_leaves tables test (assign op d y) (fail Overflow ∷ []) d s (Err Overflow) is (fail_leaves tables d Overflow s (omega (arith, o.some, o.inside)))

  -- the operator is applied
  assign_leaves : (op : COp) (a b z : ℤ) → Operands d y s a b → gives op a b ≡ Some z → fits_64 z ≡ true → Leaves tables (assign op d y) d s (Ok z)
  assign_leaves op a b z o is fits = set_leaves tables d (between op (variable d) (variable y)) z s (between_is tables op (variable d) (variable y) a b s o.left o.right ∙ is) fits o.some o.inside o.sound

  -- ---- signs

  not_negative : (x : ℕ) (n : ℕ) → slice_get s.vars x ≡ Some (pos n) → value tables s (at_most nought (variable x)) ≡ Some (pos 1)
  not_negative x n is = between_is tables AtMost nought (variable x) (pos 0) (pos n) s refl is ∙ ap (λ t. Some (truth t)) (leb-zero n)

  negative : (x : ℕ) (n : ℕ) → slice_get s.vars x ≡ Some (negsuc n) → value tables s (at_most nought (variable x)) ≡ Some (pos 0)
  negative x n is = between_is tables AtMost nought (variable x) (pos 0) (negsuc n) s refl is

  above : (x : ℕ) (n : ℕ) → slice_get s.vars x ≡ Some (pos (suc n)) → value tables s (between Below nought (variable x)) ≡ Some (pos 1)
  above x n is = between_is tables Below nought (variable x) (pos 0) (pos (suc n)) s refl is ∙ ap (λ t. Some (truth t)) (zero_below n)
    where
      zero_below : (n : ℕ) → int_lt (pos 0) (pos (suc n)) ≡ true
      zero_below n = grind arith

  not_above : (x : ℕ) → slice_get s.vars x ≡ Some (pos 0) → value tables s (between Below nought (variable x)) ≡ Some (pos 0)
  not_above x is = between_is tables Below nought (variable x) (pos 0) (pos 0) s refl is

  under : (x n : ℕ) → slice_get s.vars x ≡ Some (negsuc n) → value tables s (between Below nought (variable x)) ≡ Some (pos 0)
  under x n is = between_is tables Below nought (variable x) (pos 0) (negsuc n) s refl is

  -- a bound in an expression
  bound_is : (op : COp) (e : Expr) (z b w : ℤ) (x : ℕ) → value tables s e ≡ Some z → slice_get s.vars x ≡ Some b → gives op z b ≡ Some w → value tables s (between op e (variable x)) ≡ Some w
  bound_is op e z b w x is there given = between_is tables op e (variable x) z b s is there ∙ given

  -- a number at most a bound, and a bound at most a number
  under_bound : (x : ℕ) (e : Expr) (a w : ℤ) (ok : Bool) → slice_get s.vars x ≡ Some a → value tables s e ≡ Some w → int_le a w ≡ ok → value tables s (at_most (variable x) e) ≡ Some (truth ok)
  under_bound x e a w ok there is same = between_is tables AtMost (variable x) e a w s there is ∙ ap (λ t. Some (truth t)) same

  over_bound : (x : ℕ) (e : Expr) (a w : ℤ) (ok : Bool) → slice_get s.vars x ≡ Some a → value tables s e ≡ Some w → int_le w a ≡ ok → value tables s (at_most e (variable x)) ≡ Some (truth ok)
  over_bound x e a w ok there is same = between_is tables AtMost e (variable x) w a s is there ∙ ap (λ t. Some (truth t)) same

  -- ---- sums

  checked_by : (z : ℤ) (op : COp) (a b : ℤ) → gives op a b ≡ checks z → fits_64 z ≡ true → (gives op a b ≡ Some z) × (fits_64 z ≡ true)
  checked_by z op a b is h = (is ∙ checks_small z h, h)

  pub plus_leaves : (a b : ℤ) → Operands d y s a b → Leaves tables (plus d y) d s (checked (a +ℤ b))
  plus_leaves a (pos n) o =
      let bound = between Minus greatest (variable y) in let low = between Minus least (variable y) in
      let is = bound_is Minus greatest G (pos n) (G -ℤ pos n) y refl o.right (checks_small (G -ℤ pos n) (plus_up_fits a n o.left_fits o.right_fits)) in
      first_leaves tables (at_most nought (variable y)) (attempt (at_most (variable d) bound) Plus d y) (attempt (at_most low (variable d)) Plus d y) d s (checked (a +ℤ pos n)) (not_negative y n o.right)
      (attempt_leaves (at_most (variable d) bound) Plus a (pos n) (a +ℤ pos n) (fits_64 (a +ℤ pos n)) o (under_bound d bound a (G -ℤ pos n) (fits_64 (a +ℤ pos n)) o.left is (plus_up a n o.left_fits))
      (checked_by (a +ℤ pos n) Plus a (pos n) refl))
  plus_leaves a (negsuc n) o =
      let bound = between Minus greatest (variable y) in let low = between Minus least (variable y) in
      let is = bound_is Minus least L (negsuc n) (L -ℤ negsuc n) y refl o.right (checks_small (L -ℤ negsuc n) (plus_down_fits a n o.left_fits o.right_fits)) in
      second_leaves tables (at_most nought (variable y)) (attempt (at_most (variable d) bound) Plus d y) (attempt (at_most low (variable d)) Plus d y) d s (checked (a +ℤ negsuc n)) (negative y n o.right)
      (attempt_leaves (at_most low (variable d)) Plus a (negsuc n) (a +ℤ negsuc n) (fits_64 (a +ℤ negsuc n)) o (over_bound d low a (L -ℤ negsuc n) (fits_64 (a +ℤ negsuc n)) o.left is (plus_down a n o.left_fits))
      (checked_by (a +ℤ negsuc n) Plus a (negsuc n) refl))

  minus_leaves : (a b : ℤ) → Operands d y s a b → Leaves tables (minus d y) d s (checked (a -ℤ b))
  minus_leaves a (pos n) o =
      let low = between Plus least (variable y) in let bound = between Plus greatest (variable y) in
      let is = bound_is Plus least L (pos n) (L +ℤ pos n) y refl o.right (checks_small (L +ℤ pos n) (minus_down_fits a n o.left_fits o.right_fits)) in
      first_leaves tables (at_most nought (variable y)) (attempt (at_most low (variable d)) Minus d y) (attempt (at_most (variable d) bound) Minus d y) d s (checked (a -ℤ pos n)) (not_negative y n o.right)
      (attempt_leaves (at_most low (variable d)) Minus a (pos n) (a -ℤ pos n) (fits_64 (a -ℤ pos n)) o (over_bound d low a (L +ℤ pos n) (fits_64 (a -ℤ pos n)) o.left is (minus_down a n o.left_fits))
      (checked_by (a -ℤ pos n) Minus a (pos n) refl))
  minus_leaves a (negsuc n) o =
      let low = between Plus least (variable y) in let bound = between Plus greatest (variable y) in
      let is = bound_is Plus greatest G (negsuc n) (G +ℤ negsuc n) y refl o.right (checks_small (G +ℤ negsuc n) (minus_up_fits a n o.left_fits o.right_fits)) in
      second_leaves tables (at_most nought (variable y)) (attempt (at_most low (variable d)) Minus d y) (attempt (at_most (variable d) bound) Minus d y) d s (checked (a -ℤ negsuc n)) (negative y n o.right)
      (attempt_leaves (at_most (variable d) bound) Minus a (negsuc n) (a -ℤ negsuc n) (fits_64 (a -ℤ negsuc n)) o (under_bound d bound a (G +ℤ negsuc n) (fits_64 (a -ℤ negsuc n)) o.left is (minus_up a n o.left_fits))
      (checked_by (a -ℤ negsuc n) Minus a (negsuc n) refl))

  -- ---- products

  abbrev up : List Stmt
  up = attempt (at_most (variable d) (between Over greatest (variable y))) Times d y

  abbrev left_down : List Stmt
  left_down = attempt (at_most (between Over least (variable y)) (variable d)) Times d y

  abbrev right_down : List Stmt
  right_down = attempt (at_most (between Over least (variable d)) (variable y)) Times d y

  abbrev down : List Stmt
  down = attempt (at_most (between Over greatest (variable y)) (variable d)) Times d y

  abbrev by_left : List Stmt
  by_left = times_above d y

  abbrev by_none : List Stmt
  by_none = times_below d y

  abbrev by_right : List Stmt
  by_right = either (between Below nought (variable d)) right_down by_none

  -- the second factor above 0
  above_leaves : (a : ℤ) (n : ℕ) → Operands d y s a (pos (suc n)) → Leaves tables by_left d s (checked (a *ℤ pos (suc n)))
  above_leaves (pos m) n o =
      let z = pos m *ℤ pos (suc n) in
      let is = bound_is Over greatest G (pos (suc n)) (int_div G (pos (suc n))) y refl o.right (over_is G (pos (suc n)) (some_above n) (greatest_over n)) in
      first_leaves tables (at_most nought (variable d)) up left_down d s (checked z) (not_negative d m o.left)
      (attempt_leaves (at_most (variable d) (between Over greatest (variable y))) Times (pos m) (pos (suc n)) z (fits_64 z) o
      (under_bound d (between Over greatest (variable y)) (pos m) (int_div G (pos (suc n))) (fits_64 z) o.left is (times_up m n)) (checked_by z Times (pos m) (pos (suc n)) refl))
  above_leaves (negsuc m) n o =
      let z = negsuc m *ℤ pos (suc n) in
      let is = bound_is Over least L (pos (suc n)) (int_div L (pos (suc n))) y refl o.right (over_is L (pos (suc n)) (some_above n) (least_over n)) in
      second_leaves tables (at_most nought (variable d)) up left_down d s (checked z) (negative d m o.left)
      (attempt_leaves (at_most (between Over least (variable y)) (variable d)) Times (negsuc m) (pos (suc n)) z (fits_64 z) o
      (over_bound d (between Over least (variable y)) (negsuc m) (int_div L (pos (suc n))) (fits_64 z) o.left is (times_left m n)) (checked_by z Times (negsuc m) (pos (suc n)) refl))

  -- it is 0
  zero_leaves : (a : ℤ) → Operands d y s a (pos 0) → Leaves tables by_none d s (checked (a *ℤ pos 0))
  zero_leaves a o =
      let none : checked (a *ℤ pos 0) ≡ Ok (pos 0) = ap checked (times_none a) in
      subst (λ r. Leaves tables by_none d s r) (sym none)
      (first_leaves tables (between Equal (variable y) nought) (set_var d nought ∷ []) down d s (Ok (pos 0)) (between_is tables Equal (variable y) nought (pos 0) (pos 0) s o.right refl)
      (set_leaves tables d nought (pos 0) s refl refl o.some o.inside o.sound))

  -- it is below 0
  less_leaves : (a : ℤ) (n : ℕ) → Operands d y s a (negsuc n) → int_le (int_div G (negsuc n)) a ≡ fits_64 (a *ℤ negsuc n) → Leaves tables by_none d s (checked (a *ℤ negsuc n))
  less_leaves a n o test =
      let z = a *ℤ negsuc n in
      let is = bound_is Over greatest G (negsuc n) (int_div G (negsuc n)) y refl o.right (over_is G (negsuc n) refl (greatest_under n)) in
      second_leaves tables (between Equal (variable y) nought) (set_var d nought ∷ []) down d s (checked z) (between_is tables Equal (variable y) nought (negsuc n) (pos 0) s o.right refl ∙ equal_none (negsuc n) (pos 0) (λ e. absurd (cc)))
      (attempt_leaves (at_most (between Over greatest (variable y)) (variable d)) Times a (negsuc n) z (fits_64 z) o
      (over_bound d (between Over greatest (variable y)) a (int_div G (negsuc n)) (fits_64 z) o.left is test) (checked_by z Times a (negsuc n) refl))

  -- the first factor above 0, and the second not
  right_leaves : (m : ℕ) (b : ℤ) → Operands d y s (pos (suc m)) b → int_le (int_div L (pos (suc m))) b ≡ fits_64 (pos (suc m) *ℤ b) → Leaves tables by_right d s (checked (pos (suc m) *ℤ b))
  right_leaves m b o test =
      let z = pos (suc m) *ℤ b in
      let is = bound_is Over least L (pos (suc m)) (int_div L (pos (suc m))) d refl o.left (over_is L (pos (suc m)) (some_above m) (least_over m)) in
      first_leaves tables (between Below nought (variable d)) right_down by_none d s (checked z) (above d m o.left)
      (attempt_leaves (at_most (between Over least (variable d)) (variable y)) Times (pos (suc m)) b z (fits_64 z) o
      (over_bound y (between Over least (variable d)) b (int_div L (pos (suc m))) (fits_64 z) o.right is test) (checked_by z Times (pos (suc m)) b refl))

  -- neither factor above 0
  not_right : (a : ℤ) (r : Result ℤ Kind) → value tables s (between Below nought (variable d)) ≡ Some (pos 0) → Leaves tables by_none d s r → Leaves tables by_right d s r
  not_right a r is l = second_leaves tables (between Below nought (variable d)) right_down by_none d s r is l

  -- the second factor above 0
  left_leaves : (a : ℤ) (n : ℕ) → Operands d y s a (pos (suc n)) → Leaves tables (times d y) d s (checked (a *ℤ pos (suc n)))
  left_leaves a n o = first_leaves tables (between Below nought (variable y)) by_left by_right d s (checked (a *ℤ pos (suc n))) (above y n o.right) (above_leaves a n o)

  -- it is not
  other_leaves : (r : Result ℤ Kind) → value tables s (between Below nought (variable y)) ≡ Some (pos 0) → Leaves tables by_right d s r → Leaves tables (times d y) d s r
  other_leaves r is l = second_leaves tables (between Below nought (variable y)) by_left by_right d s r is l

  pub times_leaves : (a b : ℤ) → Operands d y s a b → Leaves tables (times d y) d s (checked (a *ℤ b))
  times_leaves a (pos (suc n)) o = left_leaves a n o
  times_leaves (pos (suc m)) (pos zero) o =
      let none = none_right m in
      other_leaves (checked (pos (suc m) *ℤ pos 0)) (not_above y o.right) (right_leaves m (pos 0) o (none.0 ∙ sym none.1))
  times_leaves (pos zero) (pos zero) o = other_leaves (checked (pos 0 *ℤ pos 0)) (not_above y o.right) (not_right (pos 0) (checked (pos 0 *ℤ pos 0)) (not_above d o.left) (zero_leaves (pos 0) o))
  times_leaves (negsuc m) (pos zero) o = other_leaves (checked (negsuc m *ℤ pos 0)) (not_above y o.right) (not_right (negsuc m) (checked (negsuc m *ℤ pos 0)) (under d m o.left) (zero_leaves (negsuc m) o))
  times_leaves (pos (suc m)) (negsuc n) o = other_leaves (checked (pos (suc m) *ℤ negsuc n)) (under y n o.right) (right_leaves m (negsuc n) o (times_right m n))
  times_leaves (pos zero) (negsuc n) o =
      let none = none_left n in
      other_leaves (checked (pos 0 *ℤ negsuc n)) (under y n o.right) (not_right (pos 0) (checked (pos 0 *ℤ negsuc n)) (not_above d o.left) (less_leaves (pos 0) n o (none.0 ∙ sym none.1)))
  times_leaves (negsuc m) (negsuc n) o =
      other_leaves (checked (negsuc m *ℤ negsuc n)) (under y n o.right) (not_right (negsuc m) (checked (negsuc m *ℤ negsuc n)) (under d m o.left) (less_leaves (negsuc m) n o (times_down m n)))

  -- ---- quotients and remainders

  -- what follows where the divisor isn't 0, by whether it is -1
  abbrev by_one : COp → List Stmt
  by_one op = either (between Equal (variable y) (number (negsuc 0))) (attempt (between Below least (variable d)) op d y) (assign op d y)

  -- by 0
  by_zero : (op : COp) (a : ℤ) → Operands d y s a (pos 0) → Leaves tables (divided op d y) d s (Err Divide)
  by_zero op a o = first_leaves tables (between Equal (variable y) nought) (fail Divide ∷ []) (by_one op) d s (Err Divide) (between_is tables Equal (variable y) nought (pos 0) (pos 0) s o.right refl)
      (fail_leaves tables d Divide s (omega (arith, o.some, o.inside)))

  -- by -1
  by_minus_one : (op : COp) (a z : ℤ) → Operands d y s a (negsuc 0) → (fits_64 (int_div a (negsuc 0)) ≡ true → (gives op a (negsuc 0) ≡ Some z) × (fits_64 z ≡ true))
      → Leaves tables (divided op d y) d s (if fits_64 (int_div a (negsuc 0)) then Ok z else Err Overflow)
  by_minus_one op a z o is =
      let ok = fits_64 (int_div a (negsuc 0)) in
      let r : Result ℤ Kind = if ok then Ok z else Err Overflow in
      second_leaves tables (between Equal (variable y) nought) (fail Divide ∷ []) (by_one op) d s r (between_is tables Equal (variable y) nought (negsuc 0) (pos 0) s o.right refl)
      (first_leaves tables (between Equal (variable y) (number (negsuc 0))) (attempt (between Below least (variable d)) op d y) (assign op d y) d s r
      (between_is tables Equal (variable y) (number (negsuc 0)) (negsuc 0) (negsuc 0) s o.right refl)
      (attempt_leaves (between Below least (variable d)) op a (negsuc 0) z ok o (between_is tables Below least (variable d) L a s refl o.left ∙ ap (λ t. Some (truth t)) (over_minus_one a o.left_fits)) is))

  -- by another number
  by_other : (op : COp) (a b z : ℤ) → Operands d y s a b → gives Equal b (pos 0) ≡ Some (pos 0) → gives Equal b (negsuc 0) ≡ Some (pos 0) → gives op a b ≡ Some z → fits_64 z ≡ true → Leaves tables (divided op d y) d s (Ok z)
  by_other op a b z o some other is fits =
      second_leaves tables (between Equal (variable y) nought) (fail Divide ∷ []) (by_one op) d s (Ok z) (between_is tables Equal (variable y) nought b (pos 0) s o.right refl ∙ some)
      (second_leaves tables (between Equal (variable y) (number (negsuc 0))) (attempt (between Below least (variable d)) op d y) (assign op d y) d s (Ok z) (between_is tables Equal (variable y) (number (negsuc 0)) b (negsuc 0) s o.right refl ∙ other)
      (assign_leaves op a b z o is fits))

  quotient_is : (a b : ℤ) → is_zero b ≡ false → fits_64 (int_div a b) ≡ true → applied Div a b ≡ Ok (int_div a b)
  quotient_is a b some fits = rw (some, fits) refl

  remainder_is : (a b : ℤ) → is_zero b ≡ false → fits_64 (int_div a b) ≡ true → applied Rem a b ≡ Ok (int_rem a b)
  remainder_is a b some fits = rw (some, fits) refl

  -- a number that is neither 0 nor -1
  over_other : (a b : ℤ) → Operands d y s a b → is_zero b ≡ false → (b ≡ pos 0 → ⊥) → (b ≡ negsuc 0 → ⊥) → fits_64 (int_div a b) ≡ true → Leaves tables (divided Over d y) d s (applied Div a b)
  over_other a b o some none one fits = subst (λ r. Leaves tables (divided Over d y) d s r) (sym (quotient_is a b some fits))
      (by_other Over a b (int_div a b) o (equal_none b (pos 0) none) (equal_none b (negsuc 0) one) (over_is a b some fits) fits)

  rest_other : (a b : ℤ) → Operands d y s a b → is_zero b ≡ false → (b ≡ pos 0 → ⊥) → (b ≡ negsuc 0 → ⊥) → fits_64 (int_div a b) ≡ true → Leaves tables (divided Rest d y) d s (applied Rem a b)
  rest_other a b o some none one fits = subst (λ r. Leaves tables (divided Rest d y) d s r) (sym (remainder_is a b some fits))
      (by_other Rest a b (int_rem a b) o (equal_none b (pos 0) none) (equal_none b (negsuc 0) one) (rest_is a b some fits) (rest_fits a b o.left_fits))

  over_leaves : (a b : ℤ) → Operands d y s a b → Leaves tables (divided Over d y) d s (applied Div a b)
  over_leaves a (pos zero) o = by_zero Over a o
  over_leaves a (pos (suc n)) o = over_other a (pos (suc n)) o (some_above n) (λ e. absurd (cc)) (λ e. absurd (cc)) (over_positive a n o.left_fits)
  over_leaves a (negsuc zero) o = by_minus_one Over a (int_div a (negsuc 0)) o (λ h. (over_is a (negsuc 0) refl h, h))
  over_leaves a (negsuc (suc n)) o = over_other a (negsuc (suc n)) o refl (λ e. absurd (cc)) (λ e. absurd (cc)) (over_less a n o.left_fits)

  rest_leaves : (a b : ℤ) → Operands d y s a b → Leaves tables (divided Rest d y) d s (applied Rem a b)
  rest_leaves a (pos zero) o = by_zero Rest a o
  rest_leaves a (pos (suc n)) o = rest_other a (pos (suc n)) o (some_above n) (λ e. absurd (cc)) (λ e. absurd (cc)) (over_positive a n o.left_fits)
  rest_leaves a (negsuc zero) o = by_minus_one Rest a (int_rem a (negsuc 0)) o (λ h. (rest_is a (negsuc 0) refl h, rest_fits a (negsuc 0) o.left_fits))
  rest_leaves a (negsuc (suc n)) o = rest_other a (negsuc (suc n)) o refl (λ e. absurd (cc)) (λ e. absurd (cc)) (over_less a n o.left_fits)

  -- ---- comparisons, the lesser and the greater of two

  compared : (op : COp) (a b : ℤ) (t : Bool) → Operands d y s a b → gives op a b ≡ Some (truth t) → Leaves tables (assign op d y) d s (holding t)
  compared op a b true o is = assign_leaves op a b (pos 1) o is refl
  compared op a b false o is = assign_leaves op a b (pos 0) o is refl

  -- the other number is taken
  other_taken : (a b : ℤ) → Operands d y s a b → Leaves tables (set_var d (variable y) ∷ []) d s (Ok b)
  other_taken a b o = set_leaves tables d (variable y) b s o.right o.right_fits o.some o.inside o.sound

  -- the number stays
  own_taken : (a b : ℤ) → Operands d y s a b → Leaves tables [] d s (Ok a)
  own_taken a b o = nothing_leaves tables d a s (o.left, o.left_fits, o.sound)

  order_is : (a b : ℤ) → Operands d y s a b → value tables s (at_most (variable d) (variable y)) ≡ Some (truth (int_le a b))
  order_is a b o = between_is tables AtMost (variable d) (variable y) a b s o.left o.right

  lesser : (a b : ℤ) (t : Bool) → Operands d y s a b → value tables s (at_most (variable d) (variable y)) ≡ Some (truth t) → Leaves tables (operation Min d y) d s (Ok (if t then a else b))
  lesser a b true o is = first_leaves tables (at_most (variable d) (variable y)) [] (set_var d (variable y) ∷ []) d s (Ok a) is (own_taken a b o)
  lesser a b false o is = second_leaves tables (at_most (variable d) (variable y)) [] (set_var d (variable y) ∷ []) d s (Ok b) is (other_taken a b o)

  greater : (a b : ℤ) (t : Bool) → Operands d y s a b → value tables s (at_most (variable d) (variable y)) ≡ Some (truth t) → Leaves tables (operation Max d y) d s (Ok (if t then b else a))
  greater a b true o is = first_leaves tables (at_most (variable d) (variable y)) (set_var d (variable y) ∷ []) [] d s (Ok b) is (other_taken a b o)
  greater a b false o is = second_leaves tables (at_most (variable d) (variable y)) (set_var d (variable y) ∷ []) [] d s (Ok a) is (own_taken a b o)

  -- ---- any operator

  pub operation_leaves : (op : ExprOp) (a b : ℤ) → Operands d y s a b → Leaves tables (operation op d y) d s (applied op a b)
  operation_leaves Add a b o = plus_leaves a b o
  operation_leaves Sub a b o = minus_leaves a b o
  operation_leaves Mul a b o = times_leaves a b o
  operation_leaves Div a b o = over_leaves a b o
  operation_leaves Rem a b o = rest_leaves a b o
  operation_leaves Lt a b o = compared Below a b (int_lt a b) o refl
  operation_leaves Le a b o = compared AtMost a b (int_le a b) o refl
  operation_leaves Eq a b o = compared Equal a b (is_zero (a -ℤ b)) o refl
  operation_leaves Min a b o = lesser a b (int_le a b) o (order_is a b o)
  operation_leaves Max a b o = greater a b (int_le a b) o (order_is a b o)
