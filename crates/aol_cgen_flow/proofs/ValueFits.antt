-- The values of instances have 64 bits: their statements leave them.
use Rattle.std.specs.Prelude.{◌≡◌, ℕ, zero, suc, ◌+◌, ◌<◌, ◌≤◌, ◌^◌, ℤ, pos, negsuc, true, false, Bool, List, [], ◌∷◌, ◌++◌, map, length, slice_get, replicate, Option, Some, Result, Ok, Err, if◌then◌else◌}
use Rattle.std.proofs.Common.{refl, sym, ap, subst, arith, ◌∙◌}
use Rattle.std.proofs.lemmas.List.{length-append, length-replicate}
use Rattle.aol_shape.specs.Lists.{numbers_from, numbers_below}
use Rattle.aol_shape.specs.Numbers.{fits_64}
use Rattle.aol_expr_tree.specs.declared.value.Kind.{Kind}
use Rattle.aol_expr_tree.specs.declared.value.Kind.TheVariants.{Range}
use Rattle.aol_expr_tree.specs.declared.value.Val.{Val}
use Rattle.aol_expr_tree.specs.declared.value.Val.TheVariants.{Num, Bad}
use Rattle.aol_expr_tree.specs.declared.value.Width.{Width}
use Rattle.aol_expr_tree.specs.Meaning.{Given, nth_number, value, holds}
use Rattle.aol_expr_tree.specs.Tree.{Tree}
use Rattle.aol_csyn.specs.Meaning.{State}
use Rattle.aol_flat.specs.InstanceValue.{number_of, in_width}
use Rattle.aol_lower.specs.declared.reads.Reads.{Reads}
use Rattle.aol_lower.specs.Effect.{AreShapes, patterns_size, Holds, IsGiven, IsRead}
use Rattle.aol_lower.specs.Lowered.{Setting}
use Rattle.aol_lower.specs.Small.{room, IsSmall}
use Rattle.aol_lower.proofs.Expressions.{lowered_leaves_the_value}
use Rattle.aol_cinstance.proofs.Lists.{get_before, map_get, map_length}
use Rattle.aol_cinstance.proofs.Progress.{small_fits}
use Rattle.aol_cinstance.proofs.Taken.{numbers_get}

nth_at : (zs : List ℤ) (k : ℕ) → k < length zs → slice_get zs k ≡ Some (nth_number zs k)
nth_at [] k h = absurd (omega (arith, h))
nth_at (z ∷ zs) zero h = refl
nth_at (z ∷ zs) (suc k) h = nth_at zs k (omega (arith, h))

-- a state that holds what an expression is evaluated with
module _ (g : Given) (e : Tree) (whole : length g.nums ≡ patterns_size g.ins) (fits : (k : ℕ) → fits_64 (nth_number g.nums k) ≡ true) (few : length g.nums < 2 ^ 63) (point : (k i : ℕ) → slice_get g.at k ≡ Some i → i < 2 ^ 63) where
  abbrev Vars : List ℤ
  Vars = pos 0 ∷ pos 0 ∷ (map pos g.at ++ replicate (room e) (pos 0))

  abbrev S : State
  S = record { v = g.nums; f = []; vars = Vars }

  abbrev Tb : List (List ℤ)
  Tb = map pos (numbers_below (length g.nums)) ∷ (pos 0 ∷ []) ∷ []

  abbrev R : Reads
  R = record { entries = 0; numbers = 1 }

  abbrev D : ℕ
  D = length g.at + 2

  read_each : (k : ℕ) → k < length g.nums → IsRead Tb R g.nums (0 + k) (nth_number g.nums k)
  read_each k below = record {
    entry = pos k;
    there = map_get pos (numbers_below (length g.nums)) (0 + k) k (ap (slice_get (numbers_below (length g.nums))) (same k) ∙ (numbers_get 0 (length g.nums) k below ∙ ap (λ n. Some n) (same k)));
    fits = small_fits k (omega (arith, below, few));
    leads = nth_at g.nums k below;
  }
    where
      same : (k : ℕ) → 0 + k ≡ k
      same k = omega arith

  point_at : (k i : ℕ) → slice_get g.at k ≡ Some i → (slice_get Vars (k + 2) ≡ Some (pos i)) × (i < 2 ^ 63)
  point_at k i at =
      let two : k + 2 ≡ suc (suc k) = omega arith in
      (ap (slice_get Vars) two ∙ get_before (map pos g.at) (replicate (room e) (pos 0)) k (pos i) (map_get pos g.at k i at), point k i at)

  given : IsGiven Tb R g D S
  given = record {
    sound = refl;
    whole = whole;
    fits = fits;
    are_read = record { from = 0; from_is = refl; within = omega (arith, few); each = read_each };
    point = point_at;
    above = omega arith;
  }

  enough : D + room e ≤ length Vars
  enough =
      let a = length-append (map pos g.at) (replicate (room e) (pos 0)) in
      let b = map_length pos g.at in
      let c = length-replicate (room e) (pos 0) in
      omega (arith, a, b, c)

  pub value_fits : IsSmall e → AreShapes g.ins → (z : ℤ) → value g [] e ≡ Ok z → fits_64 z ≡ true
  value_fits small shapes z is =
      let c : Setting = record { reads = R; ins = g.ins; rank = length g.at } in
      let l = lowered_leaves_the_value c D e small shapes Tb g S refl refl given enough in
      let h : Holds l.end D (Ok z) = subst (λ r. Holds l.end D r) is l.holds in
      h.1

-- a port's value
pub width_fits : (w : Width) (fault : Kind → Val) (r : Result ℤ Kind) → ((kind : Kind) → fits_64 (number_of (fault kind)) ≡ true) → ((z : ℤ) → r ≡ Ok z → fits_64 z ≡ true) → fits_64 (number_of (in_width w fault r)) ≡ true
width_fits w fault (Ok z) bad h = elim (holds w z) as (λ b. fits_64 (number_of (if b then Num z else fault Range)) ≡ true) [ true ↦ h z refl | false ↦ bad Range ]
width_fits w fault (Err kind) bad h = bad kind
