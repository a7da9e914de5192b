-- The marks of a leaf's points while an entry places them.
use Rattle.std.specs.Prelude.{◌≡◌, ◌<◌, ℕ, ◌%◌, List, [], map, find, Option, Some, None, Result, Ok, Err}
use Rattle.aol_shape.specs.Lists.{same}
use Rattle.aol_shape.specs.Shape.{size, rank, point_at, points}
use Rattle.aol_model_types.specs.declared.job.Entry.{Entry}
use Rattle.aol_allocate.specs.declared.cause.PlaceCause.{PlaceCause}
use Rattle.aol_allocate.specs.declared.fault.PlaceFault.{PlaceFault}
use Rattle.aol_allocate.specs.declared.fault.PlaceFault.TheVariants.{Cause, NoMemory}
use Rattle.aol_allocate.specs.declared.marks.TheConstants.{UNPLACED}
use Rattle.aol_allocate.specs.Placement.{Placing, placings, placed_worker, first_again, space_cause}

-- the worker of the processor on which a pair places a point, or the mark of a point that none places
abbrev pub mark_at : Entry → ℕ → Option Placing → ℕ
mark_at e workers None = UNPLACED
mark_at e workers (Some p) = rank e.processors p.1 % workers

-- the mark of a point after these pairs
abbrev pub mark_of : Entry → ℕ → List Placing → List ℕ → ℕ
mark_of e workers ps x = mark_at e workers (find (λ (p : Placing). same p.0 x) ps)

-- the marks of all points of a space after these pairs
abbrev pub marks_after : Entry → ℕ → List ℕ → List Placing → List ℕ
marks_after e workers space ps = map (mark_of e workers ps) (points space)

-- the rank of a point that is placed twice, or else the marks after all pairs
abbrev pub MarksAll : Entry → ℕ → List ℕ → Option ℕ → List ℕ → Type 0
MarksAll e workers space None marks = (first_again [] (placings e space) ≡ None) × (marks ≡ marks_after e workers space (placings e space))
MarksAll e workers space (Some x) marks = (x < size space) × (first_again [] (placings e space) ≡ Some (point_at space x))

-- the workers of the points of a space, as an entry places them
abbrev pub placed_workers : Entry → ℕ → List ℕ → List ℕ
placed_workers e workers space = map (placed_worker e space workers) (points space)

-- the cause of an entry over a space, or else each point is marked by its worker
abbrev pub MarksSpace : Entry → ℕ → List ℕ → Option PlaceCause → List ℕ → Type 0
MarksSpace e workers space None marks = (space_cause e space ≡ None) × (marks ≡ placed_workers e workers space)
MarksSpace e workers space (Some c) marks = space_cause e space ≡ Some c

-- an entry has no cause over a space and places all its points, or has a cause
abbrev pub PlacesSpace : Entry → ℕ → List ℕ → Result (List ℕ) PlaceFault → Type 0
PlacesSpace e workers space (Ok placed) = (space_cause e space ≡ None) × (placed ≡ placed_workers e workers space)
PlacesSpace e workers space (Err (Cause c)) = space_cause e space ≡ Some c
PlacesSpace e workers space (Err NoMemory) = Unit {0}
