-- A repetition less a distance: whether it is one of the space, and its indices modulo the space.
use Rattle.std.proofs.Common.{◌≡◌, ℕ, zero, suc, ◌<◌, ◌%◌, ℤ, pos, negsuc, List, [], ◌∷◌, length, Bool, true, false, ◌&&◌, Some, None, cond, refl, sym, ◌∙◌, ap, get_or, arith}
use Rattle.std.specs.Prelude.{◌-ℤ◌, nat_lt}
use Rattle.std.specs.List.{AllByRecursion}
use Rattle.std.proofs.Math.Nat.{mod-eq_of_lt}
use Rattle.std.proofs.lemmas.Bool.{ltb-true, lt-ltb, le-ltb, false≢true}
use Rattle.std.proofs.lemmas.Int.{ints, to_z-of_z}
use Rattle.std.specs.Prelude.{◌≤ℤ◌, ◌<ℤ◌}
use Rattle.std.specs.Int.Signed.{lt_z, le_z}
use mir.Syntax.{Width}
use mir.Val.{SFits, of_z, to_z}
use Rattle.aol_shape.specs.Shape.{IsEntry, IsPointOf}
use Rattle.aol_shape.specs.Vectors.{wrapped, wrapped_point}
use Rattle.aol_link.specs.declared.link.When.{When}
use Rattle.aol_link.specs.declared.link.When.TheVariants.{Always, Low, High}
use Rattle.aol_link.specs.declared.link.Choice.{Choice}
use Rattle.aol_shape.specs.Vectors.{is_inside}
use Rattle.aol_link.specs.Links.{stepped_back, is_low, is_high, naturals, source_repetition, applies, is_always, ends_in_always}

both : (a b : Bool) → (a && b) ≡ true → (a ≡ true) × (b ≡ true)
both true b h = (refl, h)
both false b h = absurd (false≢true h)

-- a point has as many indices as its shape has entries
pub length-point : (shape point : List ℕ) → IsPointOf shape point → length point ≡ length shape
length-point [] [] p = refl
length-point [] (i ∷ point) p = absurd p
length-point (n ∷ shape) [] p = absurd p
length-point (n ∷ shape) (i ∷ point) p = ap suc (length-point shape point p.1)

-- a point of the space is itself modulo the space
naturals-inside : (space : List ℕ) (zs : List ℤ) → is_inside space zs ≡ true → naturals zs ≡ wrapped_point zs space
naturals-inside [] [] h = refl
naturals-inside [] (z ∷ zs) h = absurd (false≢true h)
naturals-inside (n ∷ space) [] h = absurd (false≢true h)
naturals-inside (n ∷ space) (pos i ∷ zs) h =
    let parts = both (nat_lt i n) (is_inside space zs) h in
    ap (λ j. j ∷ naturals zs) (sym (mod-eq_of_lt (ltb-true i n parts.0))) ∙ ap (λ js. (i % n) ∷ js) (naturals-inside space zs parts.1)
naturals-inside (n ∷ space) (negsuc i ∷ zs) h = absurd (false≢true h)

module _ (wraps : Bool) (distance : List ℤ) (space r found : List ℕ) where
  pub wraps_back : wraps ≡ true → found ≡ wrapped_point (stepped_back r distance) space → source_repetition wraps distance space r ≡ Some found
  wraps_back h e = rw (h, e)

  pub leads_back : is_inside space (stepped_back r distance) ≡ true → found ≡ wrapped_point (stepped_back r distance) space → source_repetition wraps distance space r ≡ Some found
  leads_back h e = rw (h, e, naturals-inside space (stepped_back r distance) h) (either wraps)
    where
      either : (w : Bool) → cond w (Some (wrapped_point (stepped_back r distance) space)) (Some (wrapped_point (stepped_back r distance) space)) ≡ Some (wrapped_point (stepped_back r distance) space)
      either true = refl
      either false = refl

pub leads_nowhere : (wraps : Bool) (distance : List ℤ) (space r : List ℕ) → wraps ≡ false → is_inside space (stepped_back r distance) ≡ false → source_repetition wraps distance space r ≡ None
leads_nowhere wraps distance space r h e = rw (h, e)

-- a number in range is that of its bits
pub to_z_back : (w : Width) (z : ℤ) → SFits w z → to_z w (of_z w z) ≡ z
to_z_back = to_z-of_z

-- the first index decides, or else the others do
pub inside_at : (n : ℕ) (z : ℤ) (space : List ℕ) (zs : List ℤ) → pos 0 ≤ℤ z → z <ℤ pos n → is_inside (n ∷ space) (z ∷ zs) ≡ is_inside space zs
inside_at n (pos i) space zs h k = rw (lt-ltb i n (omega (arith, ints, k)))
inside_at n (negsuc i) space zs h k = absurd (omega (arith, ints, h))

pub outside_low : (n : ℕ) (z : ℤ) (space : List ℕ) (zs : List ℤ) → z <ℤ pos 0 → is_inside (n ∷ space) (z ∷ zs) ≡ false
outside_low n (pos i) space zs h = absurd (omega (arith, ints, h))
outside_low n (negsuc i) space zs h = refl

pub outside_high : (n : ℕ) (z : ℤ) (space : List ℕ) (zs : List ℤ) → pos n ≤ℤ z → is_inside (n ∷ space) (z ∷ zs) ≡ false
outside_high n (pos i) space zs h = rw (le-ltb i n (omega (arith, ints, h)))
outside_high n (negsuc i) space zs h = refl

-- the side of a dimension on which a vector leaves the space
low_by : (z : ℤ) (zs : List ℤ) → is_low 0 (z ∷ zs) ≡ lt_z z (pos 0)
low_by (pos i) zs = sym (le-ltb i 0 (omega arith))
low_by (negsuc i) zs = refl

pub low_at : (k : ℕ) (r : List ℕ) (ds : List ℤ) → k < length r → k < length ds → is_low k (stepped_back r ds) ≡ lt_z (pos (get_or r k 0) -ℤ get_or ds k (pos 0)) (pos 0)
low_at k [] ds h e = absurd (omega (arith, h))
low_at k (i ∷ r) [] h e = absurd (omega (arith, e))
low_at zero (i ∷ r) (d ∷ ds) h e = low_by (pos i -ℤ d) (stepped_back r ds)
low_at (suc k) (i ∷ r) (d ∷ ds) h e = low_at k r ds (omega (arith, h)) (omega (arith, e))

high_by : (n : ℕ) (space : List ℕ) (z : ℤ) (zs : List ℤ) → is_high 0 (n ∷ space) (z ∷ zs) ≡ le_z (pos n) z
high_by n space (pos i) zs = refl
high_by n space (negsuc i) zs = refl

pub high_at : (k : ℕ) (space r : List ℕ) (ds : List ℤ) → k < length space → k < length r → k < length ds
    → is_high k space (stepped_back r ds) ≡ le_z (pos (get_or space k 0)) (pos (get_or r k 0) -ℤ get_or ds k (pos 0))
high_at k [] r ds g h e = absurd (omega (arith, g))
high_at k (n ∷ space) [] ds g h e = absurd (omega (arith, h))
high_at k (n ∷ space) (i ∷ r) [] g h e = absurd (omega (arith, e))
high_at zero (n ∷ space) (i ∷ r) (d ∷ ds) g h e = high_by n space (pos i -ℤ d) (stepped_back r ds)
high_at (suc k) (n ∷ space) (i ∷ r) (d ∷ ds) g h e = high_at k space r ds (omega (arith, g)) (omega (arith, h)) (omega (arith, e))

-- index k modulo the space
pub wrapped_at : (space r : List ℕ) (ds : List ℤ) (k : ℕ) → k < length space → length r ≡ length space → length ds ≡ length space
    → get_or (wrapped_point (stepped_back r ds) space) k 0 ≡ wrapped (pos (get_or r k 0) -ℤ get_or ds k (pos 0)) (get_or space k 0)
wrapped_at [] r ds k h e f = absurd (omega (arith, h))
wrapped_at (n ∷ space) [] ds k h e f = absurd (omega (arith, e))
wrapped_at (n ∷ space) (i ∷ r) [] k h e f = absurd (omega (arith, f))
wrapped_at (n ∷ space) (i ∷ r) (d ∷ ds) zero h e f = refl
wrapped_at (n ∷ space) (i ∷ r) (d ∷ ds) (suc k) h e f = wrapped_at space r ds k (omega (arith, h)) (omega (arith, e)) (omega (arith, f))

pub length-wrapped_back : (space r : List ℕ) (ds : List ℤ) → length r ≡ length space → length ds ≡ length space → length (wrapped_point (stepped_back r ds) space) ≡ length space
length-wrapped_back [] [] ds e f = refl
length-wrapped_back [] (i ∷ r) ds e f = absurd (omega (arith, e))
length-wrapped_back (n ∷ space) [] ds e f = absurd (omega (arith, e))
length-wrapped_back (n ∷ space) (i ∷ r) [] e f = absurd (omega (arith, f))
length-wrapped_back (n ∷ space) (i ∷ r) (d ∷ ds) e f = ap suc (length-wrapped_back space r ds (omega (arith, e)) (omega (arith, f)))

pub positive_at : (space : List ℕ) (k : ℕ) → AllByRecursion IsEntry space → k < length space → 0 < get_or space k 0
positive_at [] k p h = absurd (omega (arith, h))
positive_at (n ∷ space) zero p h = p.0.0
positive_at (n ∷ space) (suc k) p h = positive_at space k p.1 (omega (arith, h))

-- after a choice that is not for a vector the last one is still for all
pub last_stays : (c : Choice) (cs : List Choice) (space : List ℕ) (q : List ℤ) → applies c.when space q ≡ false → ends_in_always (c ∷ cs) ≡ true → ends_in_always cs ≡ true
last_stays c [] space q h e = absurd (never c.when h e)
  where
    never : (w : When) → applies w space q ≡ false → is_always w ≡ true → ⊥
    never Always h e = false≢true (sym h)
    never (Low k) h e = false≢true e
    never (High k) h e = false≢true e
last_stays c (d ∷ cs) space q h e = e
