-- The cause of an entry over a space, by what its parts tell.
use Rattle.std.proofs.Common.{◌≡◌, ℕ, ◌<◌, ◌≤◌, ◌==◌, true, cond, ◌&&◌, not, nat_lt, List, [], length, position, Some, None, sym, ◌∙◌, ap, arith}
use Rattle.std.proofs.lemmas.Bool.Decides.{nat_tests}
use Rattle.aol_shape.specs.Shape.{max_rank, max_points, size, point_at, points, IsShape}
use Rattle.aol_tiler.specs.Tiler.{fits}
use Rattle.aol_model_types.specs.declared.job.Entry.{Entry}
use Rattle.aol_allocate.specs.declared.cause.PlaceCause.TheVariants.{Shape, Unplaced}
use Rattle.aol_allocate.specs.Placement.{placings, first_again, first_missing, fits_leaf, points_cause, missing_cause, space_cause}
use Rattle.aol_allocate.specs.Marks.{placed_workers, MarksAll}
use Rattle.aol_allocate.proofs.Missing.{all_placed, none_is_missing, missing_at, marks_are_workers}

not_less : (a b : ℕ) → a ≤ b → not (nat_lt b a) ≡ true
not_less a b h = grind (arith, nat_tests)

-- over a shape the tilers alone are left to test
pub shape_fits : (e : Entry) (space : List ℕ) → IsShape space → fits_leaf e space ≡ (fits e.from space e.space e.pattern && fits e.to e.processors e.space e.pattern)
shape_fits e space shape =
    ap (λ b. b && not (nat_lt max_points (size space)) && fits e.from space e.space e.pattern && fits e.to e.processors e.space e.pattern) (not_less (length space) max_rank shape.rank)
    ∙ ap (λ b. b && fits e.from space e.space e.pattern && fits e.to e.processors e.space e.pattern) (not_less (size space) max_points shape.points)

pub points_told : (e : Entry) (space : List ℕ) → fits_leaf e space ≡ true → space_cause e space ≡ points_cause (first_again [] (placings e space)) (first_missing (placings e space) (points space))
points_told e space h = ap (λ b. cond b (points_cause (first_again [] (placings e space)) (first_missing (placings e space) (points space))) (Some Shape)) h

-- all pairs have marked their points, and one point is not marked
pub unplaced_told : (e : Entry) (workers : ℕ) (space marks : List ℕ) (k : ℕ) (x : List ℕ) → 1 ≤ workers → workers ≤ 64 → fits_leaf e space ≡ true → MarksAll e workers space None marks
    → position (λ mark. mark == 255) marks ≡ Some k → x ≡ point_at space k → space_cause e space ≡ Some (Unplaced x)
unplaced_told e workers space marks k x some bound h all found is =
    let missing = missing_at e workers space (placings e space) k some bound (sym (ap (position (λ mark. mark == 255)) all.1) ∙ found) in
    points_told e space h
    ∙ (ap (λ o. points_cause o (first_missing (placings e space) (points space))) all.0
    ∙ (ap missing_cause missing.1 ∙ ap (λ y. Some (Unplaced y)) (sym is)))

-- or every point is
pub none_told : (e : Entry) (workers : ℕ) (space marks : List ℕ) → fits_leaf e space ≡ true → MarksAll e workers space None marks → position (λ mark. mark == 255) marks ≡ None
    → (space_cause e space ≡ None) × (marks ≡ placed_workers e workers space)
none_told e workers space marks h all found =
    let placed = all_placed e workers space (placings e space) (sym (ap (position (λ mark. mark == 255)) all.1) ∙ found) in (
      points_told e space h
          ∙ (ap (λ o. points_cause o (first_missing (placings e space) (points space))) all.0
          ∙ ap missing_cause (none_is_missing space (placings e space) placed)),
      all.1 ∙ marks_are_workers e workers space placed,
    )

-- a rank that is not marked is in the space
pub unplaced_below : (e : Entry) (workers : ℕ) (space marks : List ℕ) (k : ℕ) → 1 ≤ workers → workers ≤ 64 → MarksAll e workers space None marks → position (λ mark. mark == 255) marks ≡ Some k
    → k < size space
unplaced_below e workers space marks k some bound all found =
    (missing_at e workers space (placings e space) k some bound (sym (ap (position (λ mark. mark == 255)) all.1) ∙ found)).0
