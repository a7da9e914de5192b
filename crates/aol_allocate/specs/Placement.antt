-- Which worker runs each instance, and the first entry that places nothing.
use Rattle.std.specs.Prelude.{◌≡◌, ◌<◌, ◌≤◌, slice_get, ℕ, ◌+◌, ◌*◌, ◌/◌, ◌%◌, nat_lt, Bool, true, false, ◌&&◌, ◌==◌, not, List, [], ◌∷◌, ◌++◌, map, flat_map, find, length, Option, Some, None, option_and_then, if◌then◌else◌}
use Rattle.std.specs.List.{IsAmong, list_any, enumerate_from}
use Rattle.aol_shape.specs.Lists.{same}
use Rattle.aol_shape.specs.Shape.{max_rank, max_points, size, rank, points, IsPointOf}
use Rattle.aol_tiler.specs.Tiler.{address_point, fits}
use Rattle.aol_model_types.specs.declared.document.Model.{Model}
use Rattle.aol_model_types.specs.declared.job.Entry.{Entry}
use Rattle.aol_flat.specs.Instance.{Work, Computes, Copies, Leaf, leaves, leaf_path, instances}
use Rattle.aol_allocate.specs.declared.cause.PlaceCause.{PlaceCause}
use Rattle.aol_allocate.specs.declared.cause.PlaceCause.TheVariants.{NoLeaf, Shape, Twice, Unplaced}
use Rattle.aol_allocate.specs.declared.limits.TheConstants.{MAX_WORKERS}

-- a point of the leaf's space, and the processor on which it is placed
abbrev pub Placing : Type 0
Placing = List ℕ × List ℕ

-- what an entry places by one pair of a repetition and a pattern index
abbrev pub placing_of : Entry → List ℕ → List ℕ → List ℕ → Placing
placing_of e space r i = (address_point e.from space r i, address_point e.to e.processors r i)

-- what an entry places, repetition by repetition
abbrev pub placings : Entry → List ℕ → List Placing
placings e space = flat_map (λ r. map (λ i. placing_of e space r i) (points e.pattern)) (points e.space)

-- ---- the leaf of an entry

-- the leaf computes an elementary task
abbrev pub computes : Work → Bool
computes Computes = true
computes (Copies k n) = false

-- the number of the first elementary leaf with this path, where the first leaf of the list has the number `from`
abbrev pub leaf_from : Model → ℕ → List Leaf → List ℕ → Option ℕ
leaf_from m from [] path = None
leaf_from m from (l ∷ ls) path = if computes l.work && same (leaf_path m l) path then Some from else leaf_from m (from + 1) ls path

-- the number of the elementary leaf with this path
abbrev pub leaf_number : Model → List ℕ → Option ℕ
leaf_number m path = leaf_from m 0 (leaves m) path

-- that leaf
abbrev pub leaf_of_path : Model → List ℕ → Option Leaf
leaf_of_path m path = option_and_then (slice_get (leaves m)) (leaf_number m path)

-- ---- causes

-- the leaf's space is within the limits of a shape, and both tilers are over their arrays
abbrev pub fits_leaf : Entry → List ℕ → Bool
fits_leaf e space =
    not (nat_lt max_rank (length space)) && not (nat_lt max_points (size space)) && fits e.from space e.space e.pattern && fits e.to e.processors e.space e.pattern

-- one of the pairs places the point
abbrev pub is_placed : List Placing → List ℕ → Bool
is_placed ps x = list_any (λ (p : Placing). same p.0 x) ps

-- the point of the first pair whose point an earlier pair has placed
abbrev pub first_again : List Placing → List Placing → Option (List ℕ)
first_again seen [] = None
first_again seen (p ∷ ps) = if is_placed seen p.0 then Some p.0 else first_again (seen ++ p ∷ []) ps

-- the first of the points that no pair places
abbrev pub first_missing : List Placing → List (List ℕ) → Option (List ℕ)
first_missing ps [] = None
first_missing ps (x ∷ xs) = if is_placed ps x then first_missing ps xs else Some x

-- the cause that a missing point is
abbrev pub missing_cause : Option (List ℕ) → Option PlaceCause
missing_cause None = None
missing_cause (Some x) = Some (Unplaced x)

-- a point that is placed twice comes before one that is missing
abbrev pub points_cause : Option (List ℕ) → Option (List ℕ) → Option PlaceCause
points_cause (Some x) missing = Some (Twice x)
points_cause None missing = missing_cause missing

-- the cause of an entry over this space
abbrev pub space_cause : Entry → List ℕ → Option PlaceCause
space_cause e space = if fits_leaf e space then points_cause (first_again [] (placings e space)) (first_missing (placings e space) (points space)) else Some Shape

-- the same over the space of its leaf, where there is one
abbrev pub leaf_cause : Entry → Option Leaf → Option PlaceCause
leaf_cause e None = Some NoLeaf
leaf_cause e (Some l) = space_cause e l.space

-- the cause of an entry after these earlier ones, of which none may name its leaf
abbrev pub entry_cause : Model → List Entry → Entry → Option PlaceCause
entry_cause m earlier e = if list_any (λ (f : Entry). same f.leaf e.leaf) earlier then Some NoLeaf else leaf_cause e (leaf_of_path m e.leaf)

-- the number of an entry with its cause, or else what comes later
abbrev pub cause_at : ℕ → Option PlaceCause → Option (ℕ × PlaceCause) → Option (ℕ × PlaceCause)
cause_at k (Some c) later = Some (k, c)
cause_at k None later = later

-- the first entry after these earlier ones that has a cause
abbrev pub first_refused : Model → List Entry → List Entry → Option (ℕ × PlaceCause)
first_refused m earlier [] = None
first_refused m earlier (e ∷ entries) = cause_at (length earlier) (entry_cause m earlier e) (first_refused m (earlier ++ e ∷ []) entries)

-- the first of all
abbrev pub first_cause : Model → List Entry → Option (ℕ × PlaceCause)
first_cause m entries = first_refused m [] entries

-- one pair alone places the point
pub record IsPlacedOnce (e : Entry) (space x : List ℕ) : Type 0 where
  pub number : ℕ
  pub pair : Placing
  pub at : slice_get (placings e space) number ≡ Some pair
  pub places : pair.0 ≡ x
  pub alone : (j : ℕ) (q : Placing) → slice_get (placings e space) j ≡ Some q → q.0 ≡ x → j ≡ number

-- where no entry has a cause, each has its leaf, and places each point of the leaf's space once
abbrev pub EntriesPlaceOnce : Type 0
EntriesPlaceOnce =
    (m : Model) (entries : List Entry) → first_cause m entries ≡ None → (e : Entry) → IsAmong entries e
    → (l : Leaf) × (leaf_of_path m e.leaf ≡ Some l) × ((x : List ℕ) → IsPointOf l.space x → IsPlacedOnce e l.space x)

-- ---- workers

-- the entry names the k-th leaf
abbrev pub is_number : Option ℕ → ℕ → Bool
is_number None k = false
is_number (Some j) k = j == k

-- the entry of the k-th leaf: copies have none
abbrev pub entry_of : Model → List Entry → ℕ → Option Entry
entry_of m entries k = find (λ (e : Entry). is_number (leaf_number m e.leaf) k) entries

-- the worker of the processor on which a pair places a point
abbrev pub worker_at : Entry → ℕ → Option Placing → ℕ
worker_at e workers None = 0
worker_at e workers (Some p) = rank e.processors p.1 % workers

-- the worker of a point of the leaf's space, by the leaf's entry
abbrev pub placed_worker : Entry → List ℕ → ℕ → List ℕ → ℕ
placed_worker e space workers x = worker_at e workers (find (λ (p : Placing). same p.0 x) (placings e space))

-- the worker of the instance with this rank among so many: they are shared out evenly, in order
abbrev pub even_worker : ℕ → ℕ → ℕ → ℕ
even_worker workers count x = (x * workers) / count

-- the worker of a point of a space, by an entry or else evenly
abbrev pub point_worker : Option Entry → List ℕ → ℕ → List ℕ → ℕ
point_worker (Some e) space workers x = placed_worker e space workers x
point_worker None space workers x = even_worker workers (size space) (rank space x)

-- the workers of the instances of a leaf with its number
abbrev pub leaf_workers : Model → List Entry → ℕ → ℕ × Leaf → List ℕ
leaf_workers m entries workers l = map (point_worker (entry_of m entries l.0) l.1.space workers) (points l.1.space)

-- the worker of each instance, in order
abbrev pub workers_of : Model → List Entry → ℕ → List ℕ
workers_of m entries workers = flat_map (leaf_workers m entries workers) (enumerate_from 0 (leaves m))

-- the most workers
abbrev pub max_workers : ℕ
max_workers = MAX_WORKERS

-- from one worker to the most, and one of them for each instance
pub record IsPlacement (m : Model) (of_instance : List ℕ) (workers : ℕ) : Type 0 where
  pub some : 1 ≤ workers
  pub bound : workers ≤ max_workers
  pub many : length of_instance ≡ length (instances m)
  pub each : (j w : ℕ) → slice_get of_instance j ≡ Some w → w < workers

-- whatever the entries, each instance has one of the workers
abbrev pub WorkersAreAPlacement : Type 0
WorkersAreAPlacement = (m : Model) (entries : List Entry) (workers : ℕ) → 1 ≤ workers → workers ≤ max_workers → IsPlacement m (workers_of m entries workers) workers
