-- Runs: the cells of instance after instance along the last index, from those of the first one.
use Rattle.std.specs.Prelude.{◌≡◌, ℕ, ◌+◌, ◌*◌, ◌^◌, ◌<◌, List, [], ◌∷◌, ◌++◌, map, length, slice_get, Some, Bool, IsTrue}
use Rattle.std.specs.List.{AllZip, AllByRecursion}
use Rattle.aol_shape.specs.Shape.{size}
use Rattle.aol_trail.specs.Further.{further}
use Rattle.aol_trail.specs.Trail.{TrailOf, IsTrailAt, trail_at}
use Rattle.aol_expr_tree.specs.declared.port.Port.{Port}
use Rattle.aol_model_types.specs.declared.task.Task.{Task}
use Rattle.aol_flat.specs.declared.nodes.LeafSpot.{LeafSpot}
use Rattle.aol_flat.specs.declared.route.Route.{Route}
use Rattle.aol_flat.specs.declared.view.Read.{Read}
use Rattle.aol_flat.specs.declared.view.Read.TheVariants.{Cell}
use Rattle.aol_flat.specs.Instance.{Leaf, Computes, leaves}
use Rattle.aol_flat.specs.Laid.{Laid}
use Rattle.aol_flat.specs.LeafCursor.{first_on}
use Rattle.aol_flat.specs.Level.{AreReadsOf, AreWritesOf}
use Rattle.aol_flat.specs.Node.{Node}
use Rattle.aol_flat.specs.NodeTable.{IsNode}
use Rattle.aol_flat.specs.Route.{CanGive, AreTrailCells, IsCursorOn}

-- the cells along a route of the instance that comes so many after the first of the run
abbrev pub run_of : ℕ → Route → List ℕ
run_of i w = map (λ c. c + i * w.stride) w.cells.items

-- those along some routes, one after another
abbrev pub runs : ℕ → List Route → List ℕ
runs i [] = []
runs i (w ∷ ws) = run_of i w ++ runs i ws

-- as reads
abbrev pub as_reads : List ℕ → List Read
as_reads cells = map (λ c. Cell c) cells

-- a route is known, and keeps a cell for each element of the port
abbrev pub FitsPort : Port → Route → Type 0
FitsPort p w = IsTrue w.known × (length w.cells.items ≡ size p.shape)

-- the leaf computes, and each of its ports has such a route
pub record AreWhole (f : Laid) (ports : Task → List Port) (leaf node : ℕ) (routes : List Route) : Type 0 where
  pub computes : (l : Leaf) → slice_get (leaves f.model) leaf ≡ Some l → l.work ≡ Computes
  pub each : (n : Node) (t : Task) → IsNode f.model node n t → AllZip FitsPort (ports t) routes

-- ---- a run is made

-- the cells of a route can be taken at so many instances along the last index
pub record CanFill (at : List ℕ) (most : ℕ) (w : Route) : Type 0 where
  pub there : IsTrailAt at w.trail
  pub few : length w.cells.items < 2 ^ 32
  pub gives : (i : ℕ) → i < most → CanGive (trail_at (further i at) w.trail) (length w.cells.items)

-- the trail of a route went to an instance
pub record IsMovedTo (at : List ℕ) (old new : Route) : Type 0 where
  pub known : new.known ≡ old.known
  pub trail : new.trail ≡ trail_at at old.trail
  pub many : length new.cells.items ≡ length old.cells.items

-- the cells are those at the instance so much further along the last index
abbrev pub HoldsAt : ℕ → List ℕ → Route → Route → Type 0
HoldsAt i at old new = AreTrailCells (trail_at (further i at) old.trail) (run_of i new)

-- ---- a cursor's run

-- so many instances from one on have these cells
pub record RunsTo (gives : ℕ → List ℕ → Type 0) (begin run many : ℕ) (routes : List Route) : Type 0 where
  pub each : (i : ℕ) → i < run → gives (begin + i) (runs i routes)
  pub many_are : (i : ℕ) → i < run → length (runs i routes) ≡ many
  pub small : (i : ℕ) → i < run → AllByRecursion (λ c. c < 2 ^ 32) (runs i routes)

-- the instance of a leaf with this number reads these cells
abbrev pub ReadsCells : Laid → ℕ → ℕ → List ℕ → Type 0
ReadsCells f leaf number cells = AreReadsOf f (first_on f.model leaf + number) (as_reads cells)

-- it writes them
abbrev pub WritesCells : Laid → ℕ → ℕ → List ℕ → Type 0
WritesCells f leaf number cells = AreWritesOf f (first_on f.model leaf + number) cells

-- a cursor is at an instance, from which on a run goes
pub record IsRunning (gives : Laid → ℕ → ℕ → List ℕ → Type 0) (f : Laid) (ports : Task → List Port) (leaf number : ℕ) (at : List ℕ) (many each : ℕ) (spot : LeafSpot) (routes : List Route) (whole : Bool) (run : ℕ) : Type 0 where
  pub on : IsCursorOn f ports leaf number at many each spot routes
  pub whole_is : IsTrue whole → AreWhole f ports leaf spot.node routes
  pub runs_are : RunsTo (gives f leaf) number run many routes
