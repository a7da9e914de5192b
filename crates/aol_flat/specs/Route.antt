-- Trails from the ports of a node to the homes of their elements.
use Rattle.std.specs.Prelude.{◌≡◌, ℕ, ◌^◌, ◌<◌, List, [], ◌∷◌, ◌++◌, map, length, slice_get, Some, IsTrue}
use Rattle.aol_shape.specs.Shape.{size}
use Rattle.aol_trail.specs.Trail.{StepOf, TrailOf, IsStepAt, IsTrailAt, Reaches, step_at, step_rank, cell_on, trail_at}
use Rattle.aol_expr_tree.specs.declared.port.Port.{Port}
use Rattle.aol_model_types.specs.declared.document.Model.{Model}
use Rattle.aol_model_types.specs.declared.task.Task.{Task}
use Rattle.aol_flat.specs.declared.route.Route.{Route}
use Rattle.aol_flat.specs.Follow.{IsElementOf, LeadsTo}
use Rattle.aol_flat.specs.Laid.{Laid, IsCellOf}
use Rattle.aol_flat.specs.LeafCursor.{IsAlong}
use Rattle.aol_flat.specs.Node.{Node, space_around}
use Rattle.aol_flat.specs.NodeTable.{IsNode, IsLeafSpot}
use Rattle.aol_flat.specs.declared.nodes.LeafSpot.{LeafSpot}
use Rattle.aol_flat.specs.declared.view.Read.{Read}
use Rattle.aol_flat.specs.declared.view.Read.TheVariants.{Cell}
use Rattle.aol_flat.specs.Place.{Element}

-- the trail leads from the element of rank x at a port to its cell, for the instance with these indices
pub record IsOnTrail (f : Laid) (e : Element) (at : List ℕ) (t : TrailOf) (x : ℕ) : Type 0 where
  pub there : IsTrailAt at t
  pub reaches : Reaches (map (step_at at) t.steps) x
  pub cell : IsCellOf f e (cell_on (trail_at at t) x)

-- so it does for each element of the k-th port of a node, at each instance; more indices may follow those of the node
abbrev pub LeadsHome : Laid → (Task → List Port) → ℕ → ℕ → TrailOf → Type 0
LeadsHome f ports number k t = (at rest : List ℕ) (x : ℕ) (e : Element) → IsElementOf f.model ports number k at x e → IsOnTrail f e (at ++ rest) t x

-- the port has an element for these indices
abbrev pub HasSome : Model → (Task → List Port) → ℕ → ℕ → List ℕ → Type 0
HasSome m ports number k at = (x : ℕ) × (e : Element) × IsElementOf m ports number k at x e

-- the entries are those of the repetitions around the node
abbrev pub IsSpaceOf : Model → ℕ → List ℕ → Type 0
IsSpaceOf m number space = (node : Node) (t : Task) → IsNode m number node t → space ≡ space_around node

-- a tiler's step leads from an element of a body's port to one of the j-th port of the repeated task
pub record StepLeads (m : Model) (e : Element) (others : Task → List Port) (up j : ℕ) (at rest : List ℕ) (s : StepOf) (x : ℕ) : Type 0 where
  pub around : List ℕ
  pub last : List ℕ
  pub whole : at ≡ around ++ last
  pub there : IsStepAt (at ++ rest) s
  pub within : x < size s.pattern
  pub leads : LeadsTo m e others up j around (step_rank (step_at (at ++ rest) s) x)

-- so it does for each element of the body's port
abbrev pub IsStepBetween : Model → (Task → List Port) → ℕ → ℕ → ℕ → ℕ → StepOf → Type 0
IsStepBetween m ports number k up j s = (at rest : List ℕ) (x : ℕ) (e : Element) → IsElementOf m ports number k at x e → StepLeads m e ports up j at rest s x

-- such a step is put after others
abbrev pub PushesStep : Model → (Task → List Port) → ℕ → ℕ → ℕ → ℕ → List StepOf → List StepOf → Type 0
PushesStep m ports number k up j old new = (s : StepOf) × (new ≡ old ++ s ∷ []) × IsStepBetween m ports number k up j s

-- a trail of some steps to an array that is stored
abbrev pub trail_to : List StepOf → List ℕ → ℕ → ℕ → TrailOf
trail_to steps around first many = record { steps = steps; around = around; first = first; many = many; base = first }

-- more steps were put after others, and these lead home
pub record WayOn (f : Laid) (ports : Task → List Port) (number k : ℕ) (old new : List StepOf) (around : List ℕ) (first many : ℕ) : Type 0 where
  pub more : List StepOf
  pub added : new ≡ old ++ more
  pub leads : LeadsHome f ports number k (trail_to more around first many)

-- each trail that is known leads home
abbrev pub IsRoute : Laid → (Task → List Port) → ℕ → ℕ → Route → Type 0
IsRoute f ports node k w = IsTrue w.known → LeadsHome f ports node k w.trail

abbrev pub AreRoutes : Laid → (Task → List Port) → ℕ → List Route → Type 0
AreRoutes f ports node routes = (k : ℕ) (w : Route) → slice_get routes k ≡ Some w → IsRoute f ports node k w

-- so many are there
abbrev pub AreRoutesBefore : Laid → (Task → List Port) → ℕ → ℕ → List Route → Type 0
AreRoutesBefore f ports node k routes = AreRoutes f ports node routes × (length routes ≡ k)

-- ---- along a trail that stands at an instance

-- it can be asked for so many elements
abbrev pub CanGive : TrailOf → ℕ → Type 0
CanGive t many = (x : ℕ) → x < many → Reaches t.steps x × (cell_on t x < 2 ^ 32)

-- these are the reads of its elements
abbrev pub AreTrailReads : TrailOf → List Read → Type 0
AreTrailReads t reads = (x : ℕ) (read : Read) → slice_get reads x ≡ Some read → read ≡ Cell (cell_on t x)

-- and these their cells
abbrev pub AreTrailCells : TrailOf → List ℕ → Type 0
AreTrailCells t cells = (x cell : ℕ) → slice_get cells x ≡ Some cell → cell ≡ cell_on t x

-- a cursor is at an instance of its leaf, each of which has so many elements, and has the routes from the leaf's ports
pub record IsCursorOn (f : Laid) (ports : Task → List Port) (leaf number : ℕ) (at : List ℕ) (many each : ℕ) (spot : LeafSpot) (routes : List Route) : Type 0 where
  pub along : IsAlong f.model leaf number at
  pub many_is : many ≡ each
  pub spot_is : IsLeafSpot f.model leaf spot
  pub routes_are : AreRoutes f ports spot.node routes
