-- The instances of a leaf by their numbers.
use Rattle.std.proofs.Common.{◌≡◌, ℕ, zero, suc, ◌+◌, ◌<◌, List, [], ◌∷◌, length, map, flat_map, take, Some, slice_get, sym, ◌∙◌, ap, arith}
use Rattle.std.proofs.lemmas.List.{length-map}
use Rattle.std.proofs.lemmas.Option.{none-some}
use Rattle.aol_shape.specs.Lists.{numbers_from, numbers_below}
use Rattle.aol_shape.specs.Shape.{size, point_at, points}
use Rattle.aol_model_types.specs.declared.document.Model.{Model}
use Rattle.aol_flat.specs.Instance.{Leaf, leaves, leaf_instances, instance_on, instances}
use Rattle.aol_flat.specs.LeafCursor.{first_on}
use Rattle.aol_flat.specs.Leaves.{instances_of}
use Rattle.aol_flat.proofs.Names.{slice_get-left, slice_get-right}
use Rattle.aol_flat.proofs.Totals.{length-numbers}

mapped_at : {A B : Type 0} (h : A → B) (q : ℕ → A) (a n k : ℕ) → k < n → slice_get (map h (map q (numbers_from a n))) k ≡ Some (h (q (a + k)))
mapped_at h q a zero k low = absurd (omega (arith, low))
mapped_at h q a (suc n) zero low = let e : a ≡ a + 0 = omega arith in ap (λ j. Some (h (q j))) e
mapped_at h q a (suc n) (suc k) low = let e : (a + 1) + k ≡ a + suc k = omega arith in mapped_at h q (a + 1) n k (omega (arith, low)) ∙ ap (λ j. Some (h (q j))) e

in_leaf : (l : Leaf) (n : ℕ) → n < size l.space → slice_get (leaf_instances l) n ≡ Some (instance_on l (point_at l.space n))
in_leaf l n low = let e : 0 + n ≡ n = omega arith in mapped_at (instance_on l) (point_at l.space) 0 (size l.space) n low ∙ ap (λ j. Some (instance_on l (point_at l.space j))) e

length-leaf : (l : Leaf) → length (leaf_instances l) ≡ size l.space
length-leaf l = length-map (points l.space) (instance_on l) ∙ (length-map (numbers_below (size l.space)) (point_at l.space) ∙ length-numbers 0 (size l.space))

among_leaves : (ls : List Leaf) (k : ℕ) (l : Leaf) (n : ℕ) → slice_get ls k ≡ Some l → n < size l.space → slice_get (flat_map leaf_instances ls) (instances_of (take k ls) + n) ≡ Some (instance_on l (point_at l.space n))
among_leaves [] k l n at low = absurd (none-some l at)
among_leaves (x ∷ ls) zero l n at low =
    let same : l ≡ x = cc in
    let number : 0 + n ≡ n = omega arith in
    ap (slice_get (flat_map leaf_instances (x ∷ ls))) number
    ∙ slice_get-left (leaf_instances x) (flat_map leaf_instances ls) n (instance_on l (point_at l.space n)) (ap (λ y. slice_get (leaf_instances y) n) (sym same) ∙ in_leaf l n low)
among_leaves (x ∷ ls) (suc k) l n at low =
    let number : (size x.space + instances_of (take k ls)) + n ≡ length (leaf_instances x) + (instances_of (take k ls) + n) = omega (arith, length-leaf x) in
    ap (slice_get (flat_map leaf_instances (x ∷ ls))) number
    ∙ (slice_get-right (leaf_instances x) (flat_map leaf_instances ls) (instances_of (take k ls) + n) ∙ among_leaves ls k l n at low)

-- an instance of a leaf has the number after those of the leaves before, and so many of its own
pub instance_at : (m : Model) (leaf : ℕ) (l : Leaf) (number : ℕ) → slice_get (leaves m) leaf ≡ Some l → number < size l.space → slice_get (instances m) (first_on m leaf + number) ≡ Some (instance_on l (point_at l.space number))
instance_at m leaf l number at low = among_leaves (leaves m) leaf l number at low
