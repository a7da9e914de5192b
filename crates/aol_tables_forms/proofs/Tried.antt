-- Tilers with one column in each matrix fit what the tests do with them.
use Rattle.std.proofs.Common.{◌≡◌, ℕ, ◌+◌, ◌≤◌, ◌==◌, ℤ, List, [], ◌∷◌, ◌++◌, length, Bool, true, false, ◌&&◌, refl, sym, ◌∙◌, ap, subst, arith}
use Rattle.std.proofs.lemmas.Bool.{eqb-true, false≢true}
use Rattle.aol_shape.specs.Vectors.{IsVector}
use Rattle.aol_tiler.specs.Matrices.{TilerOf}
use Rattle.aol_tiler.specs.Tiler.{IsTiler, has_entries, Fits}
use Rattle.aol_tiler.specs.Makers.{IsIndex, IsAddressed, AreComposable, IsBlockable, AreSubstitutable}
use Rattle.aol_tiler.proofs.Addresses.{even, fits-parts}

pub tiler_line : (o p f : List ℤ) (P F P' F' : List (List ℤ)) → IsVector o → IsVector p → IsVector f → P ≡ P' ++ p ∷ [] → F ≡ F' ++ f ∷ [] → P' ≡ [] → F' ≡ []
    → IsTiler (record { origin = o; paving = P; fitting = F })
tiler_line o p f P F P' F' h k l e g a b = rw (e, g, a, b) record { origin = h; paving = omega arith; fitting = omega arith; in_paving = (k, tt); in_fitting = (l, tt) }

module _ (t : TilerOf) (array line : List ℕ) (fits : Fits t array line line) (one : length line ≡ 1) where
  pub addressed_line : (r i : ℕ) → IsIndex r → IsIndex i → IsAddressed t array (r ∷ []) (i ∷ [])
  addressed_line r i h k =
      let parts = fits-parts t array line line fits in
      record { over = parts.over; repetition = omega (arith, one, parts.paving); element = omega (arith, one, parts.fitting); repetition_small = (h, tt); element_small = (k, tt) }

  own_rank : has_entries t (length t.origin) ≡ true
  own_rank =
      let parts = fits-parts t array line line fits in
      subst (λ n. has_entries t n ≡ true) (sym (even t (length array) parts.over).origin) parts.over

  pub blockable_line : IsBlockable t line
  blockable_line =
      let parts = fits-parts t array line line fits in
      record { block_rank = sym parts.paving; fitting_room = omega (arith, one, parts.paving, parts.fitting) }

  module _ (other : TilerOf) (within : Fits other line line line) where
    pub composable_line : AreComposable t other
    composable_line =
        let parts = fits-parts t array line line fits in
        let inside = fits-parts other line line line within in
        record { outer_even = own_rank; inner_even = subst (λ n. has_entries other n ≡ true) (sym parts.fitting) inside.over; paving_room = omega (arith, one, parts.paving, inside.paving) }

    pub substitutable_line : AreSubstitutable t other
    substitutable_line =
        let parts = fits-parts t array line line fits in
        let inside = fits-parts other line line line within in
        record { even = own_rank; by_even = subst (λ n. has_entries other n ≡ true) (sym parts.paving) inside.over; fitting_room = omega (arith, one, parts.fitting, inside.fitting) }
