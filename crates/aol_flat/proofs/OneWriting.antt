-- Where nothing is written twice, a point that is written has its one writing.
use Rattle.std.proofs.Common.{◌≡◌, ℕ, ◌<◌, List, map, Option, Some, None, option_map, find, slice_get, sym, ◌∙◌, ap, refl, arith, ◌⊎◌, inl, inr}
use Rattle.std.specs.List.{IsAmong}
use Rattle.std.specs.Prelude.{option_and_then}
use Rattle.aol_shape.specs.Lists.{same}
use Rattle.aol_shape.specs.Shape.{points, IsPointOf}
use Rattle.aol_tiler.specs.Matrices.{TilerOf}
use Rattle.aol_tiler.specs.Tiler.{address_point}
use Rattle.aol_expr_tree.specs.declared.port.Port.{Port}
use Rattle.aol_model_types.specs.declared.document.Model.{Model}
use Rattle.aol_flat.specs.Targets.{Writing, Target, writings_of, targets, earlier_writing, IsSingleAssignment}
use Rattle.aol_flat.specs.Sources.{written_by}
use Rattle.aol_flat.proofs.Among.{among_get, map_among}
use Rattle.aol_flat.proofs.Inside.{flat_map_among, point_among}
use Rattle.aol_flat.proofs.Names.{same-equal}
use Rattle.aol_flat.proofs.Sites.{find-passes}
use Rattle.aol_flat.proofs.Twice.{earlier_at, none_earlier}

-- the writing of a pair is one of its tiler's
pub pair_among : (k : ℕ) (t : TilerOf) (array space pattern r i : List ℕ) → IsPointOf space r → IsPointOf pattern i
    → IsAmong (writings_of k t array space pattern) (record { item = k; rep = r; pattern = i }, address_point t array r i)
pair_among k t array space pattern r i inside inside' =
    flat_map_among (λ (s : List ℕ). map (λ (j : List ℕ). (record { item = k; rep = s; pattern = j }, address_point t array s j)) (points pattern)) (points space) r
    (record { item = k; rep = r; pattern = i }, address_point t array r i) (point_among space r inside)
    (map_among (λ (j : List ℕ). (record { item = k; rep = r; pattern = j }, address_point t array r j)) (points pattern) i (point_among pattern i inside'))

three_ways : (j k : ℕ) → (j ≡ k) ⊎ ((j < k) ⊎ (k < j))
three_ways j k = grind arith

-- the first writing of its point is itself
pub only_writing : (m : Model) → IsSingleAssignment m → (t : Target) → IsAmong (targets m) t → (w : Writing) (x : List ℕ) → IsAmong t.writings w → w.1 ≡ x → earlier_writing t.writings x ≡ Some w
only_writing m single t listed w x a e = go (earlier_writing t.writings x) refl
  where
    at : slice_get t.writings a.0 ≡ Some w
    at = among_get t.writings a.0 w a.1.0 a.1.1

    told : (v : Writing) (j : ℕ) → earlier_writing t.writings x ≡ Some v → slice_get t.writings j ≡ Some v → v.1 ≡ x → (j ≡ a.0) ⊎ ((j < a.0) ⊎ (a.0 < j)) → earlier_writing t.writings x ≡ Some w
    told v j f g h (inl same_place) = f ∙ (sym g ∙ (ap (slice_get t.writings) same_place ∙ at))
    told v j f g h (inr (inl l)) =
        absurd (single (record { target = t; listed = listed; first = j; second = a.0; apart = l; one = v; other = w; at_first = g; at_second = at; same_point = h ∙ sym e }))
    told v j f g h (inr (inr l)) =
        absurd (single (record { target = t; listed = listed; first = a.0; second = j; apart = l; one = w; other = v; at_first = at; at_second = g; same_point = e ∙ sym h }))

    go : (o : Option Writing) → earlier_writing t.writings x ≡ o → earlier_writing t.writings x ≡ Some w
    go None f = absurd (none_earlier t.writings x f a.0 w at e)
    go (Some v) f = let r = earlier_at t.writings x v f in told v r.0 f r.1 r.2 (three_ways r.0 a.0)

-- the port that is found by a name that some port has
pub found_by_name : (ports : List Port) (name shape : List ℕ) → option_map (λ (p : Port). p.shape) (find (λ (p : Port). same p.name name) ports) ≡ Some shape
    → (p : Port) × (find (λ (q : Port). same q.name name) ports ≡ Some p) × (p.name ≡ name) × (p.shape ≡ shape)
found_by_name ports name shape h = go (find (λ (p : Port). same p.name name) ports) refl h
  where
    go : (o : Option Port) → find (λ (p : Port). same p.name name) ports ≡ o → option_map (λ (p : Port). p.shape) o ≡ Some shape
        → (p : Port) × (find (λ (q : Port). same q.name name) ports ≡ Some p) × (p.name ≡ name) × (p.shape ≡ shape)
    go None e k = cc
    go (Some p) e k = let f : p.shape ≡ shape = cc in (p, e, same-equal p.name name (find-passes (λ (q : Port). same q.name name) ports p e), f)

-- the writing of a point of a port that is found
pub written_there : (writings : Port → List Writing) (ports : List Port) (port : List ℕ) (y : Port) (x : List ℕ) (w : Writing) → find (λ (p : Port). same p.name port) ports ≡ Some y
    → earlier_writing (writings y) x ≡ Some w → written_by writings ports port x ≡ Some w
written_there writings ports port y x w found h = ap (option_and_then (λ (p : Port). earlier_writing (writings p) x)) found ∙ h
