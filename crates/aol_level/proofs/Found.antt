-- The leaf of an instance, by the numbers of the first instances of the leaves.
use Rattle.std.proofs.Common.{◌≡◌, ℕ, zero, suc, ◌+◌, ◌<◌, ◌≤◌, List, [], ◌∷◌, length, take, slice_get, sym, ◌∙◌, ap, arith}
use Rattle.std.proofs.lemmas.List.{take_all}
use Rattle.aol_model_types.specs.declared.document.Model.{Model}
use Rattle.aol_flat.specs.Instance.{Leaf, leaves, instances}
use Rattle.aol_flat.specs.LeafCursor.{first_on, instances_on, leaf_size}
use Rattle.aol_flat.specs.Leaves.{instances_of}
use Rattle.aol_flat.proofs.Totals.{length-instances}
use Rattle.aol_level.specs.Made.{IsLeafOf}

more_leaves : (ls : List Leaf) (k : ℕ) → k < length ls → instances_of (take (suc k) ls) ≡ instances_of (take k ls) + leaf_size (slice_get ls k)
more_leaves [] k h = absurd (omega (arith, h))
more_leaves (x ∷ ls) zero h = omega arith
more_leaves (x ∷ ls) (suc k) h = omega (arith, more_leaves ls k (omega (arith, h)))

-- all leaves have all instances
pub first_after : (m : Model) (high : ℕ) → high ≡ length (leaves m) → first_on m high ≡ length (instances m)
first_after m high all = ap instances_of (take_all high (leaves m) (omega (arith, all))) ∙ sym (length-instances m)

-- so there is a leaf, where there is an instance
pub some_leaf : (m : Model) (high instance : ℕ) → high ≡ length (leaves m) → instance < length (instances m) → 0 < high
some_leaf m zero instance all low = absurd (omega (arith, low, first_after m zero all))
some_leaf m (suc high) instance all low = omega arith

-- a leaf whose next one begins behind the instance
pub leaf_between : (m : Model) (low high instance : ℕ) → low < high → high ≤ low + 1 → high ≤ length (leaves m) → first_on m low ≤ instance → instance < first_on m high → IsLeafOf m instance low
leaf_between m low high instance order next within from before =
    let e : high ≡ suc low = omega (arith, order, next) in
    let more : first_on m (suc low) ≡ first_on m low + instances_on m low = more_leaves (leaves m) low (omega (arith, order, within)) in
    record { listed = omega (arith, order, within); from = from; before = omega (arith, before, ap (first_on m) e, more) }
