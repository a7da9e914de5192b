-- The first point that no pair places, and the workers where each is placed.
use Rattle.std.proofs.Common.{◌≡◌, ℕ, zero, suc, ◌+◌, ◌<◌, ◌≤◌, ◌==◌, Bool, true, false, cond, List, [], ◌∷◌, length, replicate, get_or, position, slice_get, Some, None, sym, ◌∙◌, ap, refl, arith}
use Rattle.std.specs.List.{position_from}
use Rattle.std.proofs.lemmas.Iterator.Adapters.{position_from-zero}
use Rattle.std.proofs.lemmas.Bool.{eqb-true, eq-eqb}
use Rattle.std.proofs.lemmas.List.{length-map}
use Rattle.std.proofs.lemmas.List.Quantifiers.{position-Some}
use Rattle.std.proofs.lemmas.Option.{none-some}
use Rattle.std.proofs.lemmas.Simd.{splat_is_map}
use Rattle.aol_shape.specs.Shape.{size, point_at, points}
use Rattle.aol_model_types.specs.declared.job.Entry.{Entry}
use Rattle.aol_allocate.specs.Placement.{Placing, placings, is_placed, first_missing, worker_at, placed_worker}
use Rattle.aol_allocate.specs.Marks.{mark_of, mark_at, marks_after, placed_workers}
use Rattle.aol_allocate.proofs.Points.{points_at, points_number, points_same, point_there, length_points}
use Rattle.aol_allocate.proofs.Marking.{placer_some, mark_free, mark_taken}

-- ---- what a mark tells

unplaced_not_placed : (e : Entry) (workers : ℕ) (ps : List Placing) (x : List ℕ) → 1 ≤ workers → workers ≤ 64 → mark_of e workers ps x == 255 ≡ true → is_placed ps x ≡ false
unplaced_not_placed e workers ps x some bound h = go (is_placed ps x) refl
  where
    go : (b : Bool) → is_placed ps x ≡ b → is_placed ps x ≡ false
    go true t = absurd (omega (arith, mark_taken e workers ps x some bound t, eqb-true (mark_of e workers ps x) 255 h))
    go false t = t

worker_is_placed : (e : Entry) (workers : ℕ) (ps : List Placing) (x : List ℕ) → mark_of e workers ps x == 255 ≡ false → is_placed ps x ≡ true
worker_is_placed e workers ps x h = go (is_placed ps x) refl
  where
    go : (b : Bool) → is_placed ps x ≡ b → is_placed ps x ≡ true
    go true t = t
    go false t = let no : true ≡ false = sym (eq-eqb (mark_of e workers ps x) 255 (mark_free e workers ps x t)) ∙ h in cc

-- nothing is marked before the first pair
pub nothing_marked : (e : Entry) (workers : ℕ) (space : List ℕ) → replicate (size space) 255 ≡ marks_after e workers space []
nothing_marked e workers space = splat_is_map (points space) (size space) 255 (length_points space)

-- ---- the first missing point

missing_none : (ps : List Placing) (xs : List (List ℕ)) → ((k : ℕ) (x : List ℕ) → slice_get xs k ≡ Some x → is_placed ps x ≡ true) → first_missing ps xs ≡ None
missing_none ps [] h = refl
missing_none ps (x ∷ xs) h = ap (λ b. cond b (first_missing ps xs) (Some x)) (h 0 x refl) ∙ missing_none ps xs (λ k y at. h (suc k) y at)

missing_some : (ps : List Placing) (xs : List (List ℕ)) (k : ℕ) (x : List ℕ) → slice_get xs k ≡ Some x → is_placed ps x ≡ false
    → ((j : ℕ) (y : List ℕ) → j < k → slice_get xs j ≡ Some y → is_placed ps y ≡ true) → first_missing ps xs ≡ Some x
missing_some ps [] k x at free before = absurd (none-some x at)
missing_some ps (y ∷ xs) zero x at free before =
    let here : y ≡ x = cc in
    ap (λ b. cond b (first_missing ps xs) (Some y)) (ap (is_placed ps) here ∙ free) ∙ ap Some here
missing_some ps (y ∷ xs) (suc k) x at free before =
    ap (λ b. cond b (first_missing ps xs) (Some y)) (before 0 y (omega arith) refl) ∙ missing_some ps xs k x at free (λ j z less there. before (suc j) z (omega (arith, less)) there)

-- ---- all points

-- each point is placed
abbrev pub AllPlaced : List Placing → List ℕ → Type 0
AllPlaced ps space = (j : ℕ) → j < size space → is_placed ps (point_at space j) ≡ true

-- where no element passes a test
none_passes : {X : Type 0} (p : X → Bool) (xs : List X) (from k : ℕ) (d : X) → position_from p from xs ≡ None → k < length xs → p (get_or xs k d) ≡ false
none_passes p [] from k d h below = absurd (omega (arith, below))
none_passes {X = X} p (x ∷ xs) from k d h below = go (p x) refl k below (λ j rest less. none_passes p xs (from + 1) j d rest less)
  where
    go : (b : Bool) → p x ≡ b → (j : ℕ) → j < length (x ∷ xs) → ((i : ℕ) → position_from p (from + 1) xs ≡ None → i < length xs → p (get_or xs i d) ≡ false) → p (get_or (x ∷ xs) j d) ≡ false
    go true t j less later = let no : Some from ≡ None = sym (ap (λ b. cond b (Some from) (position_from p (from + 1) xs)) t) ∙ h in cc
    go false t zero less later = t
    go false t (suc j) less later = later j (sym (ap (λ b. cond b (Some from) (position_from p (from + 1) xs)) t) ∙ h) (omega (arith, less))

pub all_placed : (e : Entry) (workers : ℕ) (space : List ℕ) (ps : List Placing) → position (λ mark. mark == 255) (marks_after e workers space ps) ≡ None → AllPlaced ps space
all_placed e workers space ps h j below =
    let marks : List ℕ = marks_after e workers space ps in
    let within : j < length marks = omega (arith, below, length-map (points space) (mark_of e workers ps), length_points space) in
    let unmarked : position_from (λ mark. mark == 255) 0 marks ≡ None = sym (position_from-zero (λ mark. mark == 255) marks) ∙ h in
    worker_is_placed e workers ps (point_at space j)
    (ap (λ mark. mark == 255) (sym (points_at (mark_of e workers ps) space j 0 below)) ∙ none_passes (λ mark. mark == 255) marks 0 j 0 unmarked within)

pub none_is_missing : (space : List ℕ) (ps : List Placing) → AllPlaced ps space → first_missing ps (points space) ≡ None
none_is_missing space ps h = missing_none ps (points space) (λ k x at. let n = points_number space k x at in ap (is_placed ps) n.1 ∙ h k n.0)

pub missing_at : (e : Entry) (workers : ℕ) (space : List ℕ) (ps : List Placing) (k : ℕ) → 1 ≤ workers → workers ≤ 64
    → position (λ mark. mark == 255) (marks_after e workers space ps) ≡ Some k → (k < size space) × (first_missing ps (points space) ≡ Some (point_at space k))
missing_at e workers space ps k some bound h =
    let found = position-Some (λ mark. mark == 255) (marks_after e workers space ps) k 0 h in
    let many : length (marks_after e workers space ps) ≡ size space = length-map (points space) (mark_of e workers ps) ∙ length_points space in
    let within : k < size space = omega (arith, found.0, many) in
    let free : is_placed ps (point_at space k) ≡ false =
    unplaced_not_placed e workers ps (point_at space k) some bound (ap (λ mark. mark == 255) (sym (points_at (mark_of e workers ps) space k 0 within)) ∙ found.1) in
    let before : (j : ℕ) (y : List ℕ) → j < k → slice_get (points space) j ≡ Some y → is_placed ps y ≡ true = λ j y less at.
    let n = points_number space j y at in
    worker_is_placed e workers ps y
    (ap (λ x. mark_of e workers ps x == 255) n.1 ∙ (ap (λ mark. mark == 255) (sym (points_at (mark_of e workers ps) space j 0 n.0)) ∙ found.2 j less)) in
    (within, missing_some ps (points space) k (point_at space k) (point_there space k within) free before)

-- the marks are then the workers
pub marks_are_workers : (e : Entry) (workers : ℕ) (space : List ℕ) → AllPlaced (placings e space) space → marks_after e workers space (placings e space) ≡ placed_workers e workers space
marks_are_workers e workers space h =
    points_same (mark_of e workers (placings e space)) (placed_worker e space workers) space
    (λ j below.
    let p = placer_some (placings e space) (point_at space j) (h j below) in
    ap (mark_at e workers) p.1 ∙ sym (ap (worker_at e workers) p.1))
