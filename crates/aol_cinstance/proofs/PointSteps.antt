-- The variables from 2 on hold the point of a rank.
use Rattle.std.specs.Prelude.{◌≡◌, ℕ, zero, suc, ◌+◌, ◌/◌, ◌%◌, ◌<◌, ◌≤◌, ◌^◌, ℤ, pos, true, false, List, [], ◌∷◌, length, slice_get, Some}
use Rattle.std.specs.List.{AllByRecursion}
use Rattle.std.proofs.Common.{refl, sym, ap, arith, ◌∙◌}
use Rattle.std.proofs.Math.Dec.{eqb-suc-zero}
use Rattle.std.proofs.Math.Nat.{div-le_self, mod-le, mod-lt}
use Rattle.std.proofs.lemmas.List.{length-set}
use Rattle.aol_shape.specs.Numbers.{fits_64}
use Rattle.aol_shape.specs.Shape.{size, point_at, IsEntry}
use Rattle.aol_shape.proofs.Sizes.{size_positive}
use Rattle.aol_csyn.specs.declared.program.COp.TheVariants.{Div as Over, Rem as Rest}
use Rattle.aol_csyn.specs.Tree.{num as number, var as variable, bin as between, set_var}
use Rattle.aol_csyn.specs.Meaning.{State, applied, is_zero}
use Rattle.aol_lower.proofs.Steps.{put, put_there, put_other, between_is}
use Rattle.aol_cinstance.specs.declared.layout.TheConstants.{REST}
use Rattle.aol_cinstance.specs.Statements.{indices}
use Rattle.aol_cinstance.proofs.Does.{Does, does_then, does_nothing, does_set}
use Rattle.aol_cinstance.proofs.Progress.{small_fits}

some_test : (m : ℕ) → 1 ≤ m → is_zero (pos m) ≡ false
some_test zero h = absurd (omega (arith, h))
some_test (suc n) h = eqb-suc-zero n

-- a quotient and a remainder of ranks
over_is : (r m : ℕ) → 1 ≤ m → r < 2 ^ 63 → applied Over (pos r) (pos m) ≡ Some (pos (r / m))
over_is r m some few = let low = div-le_self r m in let fits : fits_64 (pos (r / m)) ≡ true = small_fits (r / m) (omega (arith, low, few)) in rw (some_test m some, fits) refl

rest_is : (r m : ℕ) → 1 ≤ m → r < 2 ^ 63 → applied Rest (pos r) (pos m) ≡ Some (pos (r % m))
rest_is r m some few = let low = div-le_self r m in let fits : fits_64 (pos (r / m)) ≡ true = small_fits (r / m) (omega (arith, low, few)) in rw (some_test m some, fits) refl

-- the state after the indices from a variable on are set
pub record Pointed (shape : List ℕ) (k r : ℕ) (u w : State) : Type 0 where
  pub v : w.v ≡ u.v
  pub f : w.f ≡ u.f
  pub size : length w.vars ≡ length u.vars
  pub others : (j : ℕ) → (j ≡ REST → ⊥) → (k ≤ j → j < 14 → ⊥) → slice_get w.vars j ≡ slice_get u.vars j
  pub point : (i index : ℕ) → slice_get (point_at shape r) i ≡ Some index → (slice_get w.vars (k + i) ≡ Some (pos index)) × (index < 2 ^ 63)

pub record Sets (tables : List (List ℤ)) (shape : List ℕ) (k r : ℕ) (u : State) : Type 0 where
  pub end : State
  pub does : Does tables (indices k shape) u end []
  pub pointed : Pointed shape k r u end

-- one more index before the others
pointed_more : (shape : List ℕ) (n k r : ℕ) (u w : State) → k < 14 → k < length u.vars → r / size shape < 2 ^ 63
    → Pointed shape (k + 1) (r % size shape) (put REST (pos (r % size shape)) (put k (pos (r / size shape)) u)) w
    → (i index : ℕ) → slice_get (point_at (n ∷ shape) r) i ≡ Some index → (slice_get w.vars (k + i) ≡ Some (pos index)) × (index < 2 ^ 63)
pointed_more shape n k r u w low inside few p zero index h =
    let u1 : State = put k (pos (r / size shape)) u in
    let same : r / size shape ≡ index = cc in
    let at : k + 0 ≡ k = omega arith in
    let there : slice_get w.vars k ≡ Some (pos (r / size shape))
    = p.others k (λ e. omega (arith, e, low)) (λ le lt. omega (arith, le)) ∙ (put_other REST k (pos (r % size shape)) u1 (λ e. omega (arith, e, low)) ∙ put_there k (pos (r / size shape)) u inside) in
    (ap (slice_get w.vars) at ∙ (there ∙ ap (λ j. Some (pos j)) same), omega (arith, same, few))
pointed_more shape n k r u w low inside few p (suc i) index h =
    let q = p.point i index h in
    let at : k + suc i ≡ k + 1 + i = omega arith in
    (ap (slice_get w.vars) at ∙ q.0, q.1)

module _ (tables : List (List ℤ)) where
  pub sets_indices : (shape : List ℕ) (k r : ℕ) (u : State) → AllByRecursion IsEntry shape → r < size shape → r < 2 ^ 63 → 2 ≤ k → k + length shape ≤ 14 → slice_get u.vars REST ≡ Some (pos r) → REST < length u.vars
      → Sets tables shape k r u
  sets_indices [] k r u entries below few low high rest inside = record {
    end = u;
    does = does_nothing tables u;
    pointed = record { v = refl; f = refl; size = refl; others = λ j h g. refl; point = λ i index h. absurd (none i index h) };
  }
    where
      none : (i index : ℕ) → slice_get (point_at [] r) i ≡ Some index → ⊥
      none zero index h = cc
      none (suc i) index h = cc
  sets_indices (n ∷ shape) k r u entries below few low high rest inside =
      let m : ℕ = size shape in
      let some : 1 ≤ m = size_positive shape entries.1 in
      let u1 : State = put k (pos (r / m)) u in
      let k_inside : k < length u.vars = omega (arith, high, inside) in
      let first : Does tables (set_var k (between Over (variable REST) (number (pos m))) ∷ []) u u1 []
      = does_set tables k (between Over (variable REST) (number (pos m))) (pos (r / m)) u (between_is tables Over (variable REST) (number (pos m)) (pos r) (pos m) u rest refl ∙ over_is r m some few) k_inside in
      let still : slice_get u1.vars REST ≡ Some (pos r) = put_other k REST (pos (r / m)) u (λ e. omega (arith, e, high)) ∙ rest in
      let inside1 : REST < length u1.vars = rw (length-set u.vars k (pos (r / m))) inside in
      let u2 : State = put REST (pos (r % m)) u1 in
      let second : Does tables (set_var REST (between Rest (variable REST) (number (pos m))) ∷ []) u1 u2 []
      = does_set tables REST (between Rest (variable REST) (number (pos m))) (pos (r % m)) u1 (between_is tables Rest (variable REST) (number (pos m)) (pos r) (pos m) u1 still refl ∙ rest_is r m some few) inside1 in
      let under : r % m < m = mod-lt r some in
      let inside2 : REST < length u2.vars = rw (length-set u1.vars REST (pos (r % m))) inside1 in
      let less = mod-le r m in
      let others = sets_indices shape (k + 1) (r % m) u2 entries.1 under (omega (arith, less, few)) (omega arith) (omega (arith, high)) (put_there REST (pos (r % m)) u1 inside1) inside2 in
      record {
        end = others.end;
        does = does_then tables (set_var k (between Over (variable REST) (number (pos m))) ∷ []) (set_var REST (between Rest (variable REST) (number (pos m))) ∷ indices (k + 1) shape) u u1 others.end [] [] first
            (does_then tables (set_var REST (between Rest (variable REST) (number (pos m))) ∷ []) (indices (k + 1) shape) u1 u2 others.end [] [] second others.does);
        pointed = record {
          v = others.pointed.v;
          f = others.pointed.f;
          size = others.pointed.size ∙ (length-set u1.vars REST (pos (r % m)) ∙ length-set u.vars k (pos (r / m)));
          others = λ j h g.
              others.pointed.others j h (λ le lt. g (omega (arith, le)) lt)
              ∙ (put_other REST j (pos (r % m)) u1 (λ e. h (sym e)) ∙ put_other k j (pos (r / m)) u (λ e. g (omega (arith, e)) (omega (arith, e, high))));
          point = pointed_more shape n k r u others.end (omega (arith, high)) k_inside (let low = div-le_self r m in omega (arith, low, few)) others.pointed;
        };
      }
