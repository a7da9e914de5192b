-- Entries without a cause place each point once.
use Rattle.std.proofs.Common.{◌≡◌, ℕ, zero, suc, ◌+◌, ◌<◌, Bool, true, false, cond, ◌||◌, List, [], ◌∷◌, ◌++◌, length, Option, Some, None, slice_get, sym, ◌∙◌, ap, refl, arith, ◌⊎◌, inl, inr}
use Rattle.std.specs.List.{IsAmong, list_any}
use Rattle.aol_shape.specs.Lists.{same}
use Rattle.aol_shape.specs.Shape.{points}
use Rattle.aol_model_types.specs.declared.document.Model.{Model}
use Rattle.aol_model_types.specs.declared.job.Entry.{Entry}
use Rattle.aol_flat.specs.Instance.{Leaf}
use Rattle.aol_flat.proofs.Inside.{point_among}
use Rattle.aol_flat.proofs.Names.{same-self, same-equal, slice_get-left, slice_get-right}
use Rattle.aol_allocate.specs.declared.cause.PlaceCause.{PlaceCause}
use Rattle.aol_allocate.specs.declared.cause.PlaceCause.TheVariants.{NoLeaf, Shape}
use Rattle.aol_allocate.specs.Placement.{Placing, placings, leaf_of_path, fits_leaf, is_placed, first_again, first_missing, points_cause, space_cause, leaf_cause, entry_cause, cause_at, first_refused, IsPlacedOnce, EntriesPlaceOnce}

-- ---- points that are placed

-- a pair that places the point
record Placed (ps : List Placing) (x : List ℕ) : Type 0 where
  number : ℕ
  pair : Placing
  at : slice_get ps number ≡ Some pair
  places : pair.0 ≡ x

placed_by : (ps : List Placing) (x : List ℕ) → is_placed ps x ≡ true → Placed ps x
placed_by [] x h = cc
placed_by (p ∷ ps) x h = go (same p.0 x) refl (placed_by ps x)
  where
    go : (b : Bool) → same p.0 x ≡ b → (is_placed ps x ≡ true → Placed ps x) → Placed (p ∷ ps) x
    go true e rest = record { number = 0; pair = p; at = refl; places = same-equal p.0 x e }
    go false e rest =
        let r = rest (sym (ap (λ b. b || is_placed ps x) e) ∙ h) in
        record { number = suc r.number; pair = r.pair; at = r.at; places = r.places }

placed_there : (ps : List Placing) (x : List ℕ) (i : ℕ) (p : Placing) → slice_get ps i ≡ Some p → p.0 ≡ x → is_placed ps x ≡ true
placed_there [] x i p at h = cc
placed_there (q ∷ ps) x zero p at h =
    let first : q ≡ p = cc in
    ap (λ (r : Placing). same r.0 x || is_placed ps x) first ∙ (ap (λ y. same y x || is_placed ps x) h ∙ ap (λ b. b || is_placed ps x) (same-self x))
placed_there (q ∷ ps) x (suc i) p at h = go (same q.0 x) refl (placed_there ps x i p at h)
  where
    go : (b : Bool) → same q.0 x ≡ b → is_placed ps x ≡ true → (same q.0 x || is_placed ps x) ≡ true
    go true e rest = ap (λ b. b || is_placed ps x) e
    go false e rest = ap (λ b. b || is_placed ps x) e ∙ rest

-- each of the points is placed where none is missing
none_missing : (ps : List Placing) (xs : List (List ℕ)) → first_missing ps xs ≡ None → (x : List ℕ) → IsAmong xs x → is_placed ps x ≡ true
none_missing ps [] h x a = absurd (omega (arith, a.1.0))
none_missing ps (y ∷ xs) h x a = go (is_placed ps y) refl h a (λ k b. none_missing ps xs k x b)
  where
    go : (b : Bool) → is_placed ps y ≡ b → cond b (first_missing ps xs) (Some y) ≡ None → IsAmong (y ∷ xs) x → (first_missing ps xs ≡ None → IsAmong xs x → is_placed ps x ≡ true) → is_placed ps x ≡ true
    go false e k l rest = cc
    go true e k (zero, l) rest = ap (is_placed ps) l.1 ∙ e
    go true e k (suc i, l) rest = rest k (i, (omega (arith, l.0), l.1))

-- ---- points that are placed twice

-- what the test of the first pair leaves
again_rest : (seen : List Placing) (p : Placing) (ps : List Placing) → first_again seen (p ∷ ps) ≡ None → (is_placed seen p.0 ≡ false) × (first_again (seen ++ p ∷ []) ps ≡ None)
again_rest seen p ps h = go (is_placed seen p.0) refl h
  where
    go : (b : Bool) → is_placed seen p.0 ≡ b → cond b (Some p.0) (first_again (seen ++ p ∷ []) ps) ≡ None → (is_placed seen p.0 ≡ false) × (first_again (seen ++ p ∷ []) ps ≡ None)
    go true e k = cc
    go false e k = (e, k)

-- no pair's point is one of those before
again_new : (seen ps : List Placing) → first_again seen ps ≡ None → (k : ℕ) (q : Placing) → slice_get ps k ≡ Some q → is_placed seen q.0 ≡ true → ⊥
again_new seen [] h k q at placed = cc
again_new seen (p ∷ ps) h zero q at placed =
    let first : p ≡ q = cc in
    let no : true ≡ false = sym placed ∙ (ap (λ (r : Placing). is_placed seen r.0) (sym first) ∙ (again_rest seen p ps h).0) in
    cc
again_new seen (p ∷ ps) h (suc k) q at placed =
    let r = placed_by seen q.0 placed in
    again_new (seen ++ p ∷ []) ps (again_rest seen p ps h).1 k q at (placed_there (seen ++ p ∷ []) q.0 r.number r.pair (slice_get-left seen (p ∷ []) r.number r.pair r.at) r.places)

again_apart : (seen ps : List Placing) → first_again seen ps ≡ None → (j k : ℕ) (p q : Placing) → j < k → slice_get ps j ≡ Some p → slice_get ps k ≡ Some q → p.0 ≡ q.0 → ⊥
again_apart seen [] h j k p q less at at' e = cc
again_apart seen (r ∷ ps) h j zero p q less at at' e = omega (arith, less)
again_apart seen (r ∷ ps) h zero (suc k) p q less at at' e =
    let first : r ≡ p = cc in
    let point : r.0 ≡ q.0 = ap (λ (s : Placing). s.0) first ∙ e in
    again_new (seen ++ r ∷ []) ps (again_rest seen r ps h).1 k q at' (placed_there (seen ++ r ∷ []) q.0 (length seen + 0) r (slice_get-right seen (r ∷ []) 0) point)
again_apart seen (r ∷ ps) h (suc j) (suc k) p q less at at' e = again_apart (seen ++ r ∷ []) ps (again_rest seen r ps h).1 j k p q (omega (arith, less)) at at' e

three_ways : (j k : ℕ) → (j ≡ k) ⊎ ((j < k) ⊎ (k < j))
three_ways j k = grind arith

-- ---- an entry without a cause

no_points_cause : (a b : Option (List ℕ)) → points_cause a b ≡ None → (a ≡ None) × (b ≡ None)
no_points_cause None None h = (refl, refl)
no_points_cause None (Some x) h = cc
no_points_cause (Some x) b h = cc

-- a condition that gives no cause
no_else : (b : Bool) (o : Option PlaceCause) (c : PlaceCause) → cond b o (Some c) ≡ None → o ≡ None
no_else true o c h = h
no_else false o c h = cc

no_then : (b : Bool) (o : Option PlaceCause) (c : PlaceCause) → cond b (Some c) o ≡ None → o ≡ None
no_then true o c h = cc
no_then false o c h = h

placed_once : (e : Entry) (space : List ℕ) → space_cause e space ≡ None → (x : List ℕ) → IsAmong (points space) x → IsPlacedOnce e space x
placed_once e space h x a =
    let ps : List Placing = placings e space in
    let parts = no_points_cause (first_again [] ps) (first_missing ps (points space)) (no_else (fits_leaf e space) (points_cause (first_again [] ps) (first_missing ps (points space))) Shape h) in
    let r = placed_by ps x (none_missing ps (points space) parts.1 x a) in
    let told : (j : ℕ) (q : Placing) → slice_get ps j ≡ Some q → q.0 ≡ x → (j ≡ r.number) ⊎ ((j < r.number) ⊎ (r.number < j)) → j ≡ r.number =
    λ j q at places ways.
    elim ways [
      | inl same_number ↦ same_number
      | inr other ↦
          elim other [
            | inl less ↦ absurd (again_apart [] ps parts.0 j r.number q r.pair less at r.at (places ∙ sym r.places))
            | inr more ↦ absurd (again_apart [] ps parts.0 r.number j r.pair q more r.at at (r.places ∙ sym places))
          ]
    ] in
    record { number = r.number; pair = r.pair; at = r.at; places = r.places; alone = λ j q at places. told j q at places (three_ways j r.number) }

leaf_there : (e : Entry) (o : Option Leaf) → leaf_cause e o ≡ None → (l : Leaf) × (o ≡ Some l) × (space_cause e l.space ≡ None)
leaf_there e None h = cc
leaf_there e (Some l) h = (l, refl, h)

no_cause_at : (k : ℕ) (o : Option PlaceCause) (later : Option (ℕ × PlaceCause)) → cause_at k o later ≡ None → (o ≡ None) × (later ≡ None)
no_cause_at k None later h = (refl, h)
no_cause_at k (Some c) later h = cc

-- each entry has no cause after those before it
no_cause : (m : Model) (earlier entries : List Entry) → first_refused m earlier entries ≡ None → (e : Entry) → IsAmong entries e → (before : List Entry) × (entry_cause m before e ≡ None)
no_cause m earlier [] h e a = absurd (omega (arith, a.1.0))
no_cause m earlier (d ∷ entries) h e (zero, a) =
    let parts = no_cause_at (length earlier) (entry_cause m earlier d) (first_refused m (earlier ++ d ∷ []) entries) h in
    (earlier, ap (entry_cause m earlier) a.1 ∙ parts.0)
no_cause m earlier (d ∷ entries) h e (suc i, a) =
    let parts = no_cause_at (length earlier) (entry_cause m earlier d) (first_refused m (earlier ++ d ∷ []) entries) h in
    no_cause m (earlier ++ d ∷ []) entries parts.1 e (i, (omega (arith, a.0), a.1))

pub entries_place_once : EntriesPlaceOnce
entries_place_once m entries h e a =
    let cause = no_cause m [] entries h e a in
    let leaf = leaf_there e (leaf_of_path m e.leaf) (no_then (list_any (λ (d : Entry). same d.leaf e.leaf) cause.0) (leaf_cause e (leaf_of_path m e.leaf)) NoLeaf cause.1) in
    (leaf.0, leaf.1, λ x inside. placed_once e leaf.0.space leaf.2 x (point_among leaf.0.space x inside))
