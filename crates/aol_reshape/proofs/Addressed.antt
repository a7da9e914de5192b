-- A copy's pair of indices is one that its tilers address.
use Rattle.std.proofs.Common.{◌≡◌, ℕ, suc, ◌==◌, List, [], ◌∷◌, length, Bool, true, false, ◌&&◌, refl, sym, ◌∙◌, ap, arith}
use Rattle.std.specs.List.{AllByRecursion}
use Rattle.std.proofs.lemmas.Bool.{eqb-true, false≢true}
use Rattle.aol_shape.specs.Shape.{IsShape, IsEntry, IsPointOf}
use Rattle.aol_tiler.specs.Matrices.{TilerOf}
use Rattle.aol_tiler.specs.Tiler.{Fits, has_entries}
use Rattle.aol_tiler.specs.Makers.{IsIndex, IsAddressed}

both : (a b : Bool) → (a && b) ≡ true → (a ≡ true) × (b ≡ true)
both true b h = (refl, h)
both false b h = absurd (false≢true h)

-- a point has as many indices as its shape has entries
pub length-point : (shape point : List ℕ) → IsPointOf shape point → length point ≡ length shape
length-point [] [] p = refl
length-point [] (i ∷ point) p = absurd p
length-point (n ∷ shape) [] p = absurd p
length-point (n ∷ shape) (i ∷ point) p = ap suc (length-point shape point p.1)

-- and each is below the most points
pub small_point : (shape point : List ℕ) → AllByRecursion IsEntry shape → IsPointOf shape point → AllByRecursion IsIndex point
small_point [] [] e p = tt
small_point [] (i ∷ point) e p = absurd p
small_point (n ∷ shape) [] e p = absurd p
small_point (n ∷ shape) (i ∷ point) e p = (omega (arith, p.0, e.0.1), small_point shape point e.1 p.1)

pub addressed : (t : TilerOf) (array space pattern r i : List ℕ) → Fits t array space pattern → IsShape space → IsShape pattern → IsPointOf space r → IsPointOf pattern i → IsAddressed t array r i
addressed t array space pattern r i fits s p at element =
    let outer = both (has_entries t (length array) && length t.paving == length space) (length t.fitting == length pattern) fits in
    let inner = both (has_entries t (length array)) (length t.paving == length space) outer.0 in
    record {
      over = inner.0;
      repetition = length-point space r at ∙ sym (eqb-true (length t.paving) (length space) inner.1);
      element = length-point pattern i element ∙ sym (eqb-true (length t.fitting) (length pattern) outer.1);
      repetition_small = small_point space r s.entry at;
      element_small = small_point pattern i p.entry element;
    }
