-- How far the table of nodes is filled, in preorder.
use Rattle.std.specs.Prelude.{◌≡◌, ℕ, ◌+◌, ◌<◌, List, [], ◌∷◌, ◌++◌, length, map, slice_get, Some, Result, OnOk}
use Rattle.std.specs.List.{enumerate_from}
use Rattle.aol_shape.specs.Lists.{numbers_below}
use Rattle.aol_shape.specs.Shape.{size}
use Rattle.aol_model_types.specs.declared.document.Model.{Model}
use Rattle.aol_model_types.specs.declared.task.Compound.{Compound}
use Rattle.aol_model_types.specs.declared.task.Task.{Task}
use Rattle.aol_model_types.specs.Rules.{task_name, task_named}
use Rattle.aol_shape.specs.declared.memory.NoMemory.{NoMemory}
use Rattle.aol_flat.specs.declared.nodes.LeafSpot.{LeafSpot}
use Rattle.aol_flat.specs.declared.nodes.NodeRow.{NodeRow}
use Rattle.aol_flat.specs.declared.place.Table.{Table}
use Rattle.aol_flat.specs.declared.place.Way.{Way}
use Rattle.aol_flat.specs.Instance.{Leaf, leaves_below}
use Rattle.aol_flat.specs.Leaves.{narrowed}
use Rattle.aol_flat.specs.Node.{Node, ToPart, ToBody, space_around, nodes_below}
use Rattle.aol_flat.specs.NodeTable.{reshape_number}
use Rattle.aol_flat.specs.Numbered.{number_named}
use Rattle.aol_flat.specs.Saturated.{saturated}
use Rattle.aol_flat.specs.Walked.{AreBelow, nodes_in, leaves_in}

-- among these nodes, one with this number is reached from the one with the number `up`, by that part or a body
pub data IsReached (ns : List (Node × Task)) (number up part : ℕ) : Node → Type 0 where
  at_root : number ≡ 0 → IsReached ns number up part []
  by_part : {node : Node} {t : Task} (n k : ℕ) → n < number → up ≡ narrowed n → part ≡ narrowed k → slice_get ns n ≡ Some (node, t) → IsReached ns number up part (ToPart k ∷ node)
  by_body : {node : Node} {t : Task} {space : List ℕ} (n : ℕ) → n < number → up ≡ narrowed n → slice_get ns n ≡ Some (node, t) → IsReached ns number up part (ToBody space ∷ node)

-- the row of a node with this number
pub record IsRowAmong (m : Model) (ns : List (Node × Task)) (number : ℕ) (x : Node × Task) (row : NodeRow) : Type 0 where
  pub listed : slice_get m.tasks row.task ≡ Some x.1
  pub first : number_named m.tasks (task_name x.1) ≡ Some row.task
  pub around : row.around ≡ narrowed (length (space_around x.0))
  pub instances : row.instances ≡ saturated (size (space_around x.0))
  pub above : IsReached ns number row.up row.part x.0

-- the rows of some nodes from this number on
abbrev pub AreRowsAmong : Model → List (Node × Task) → ℕ → List (Node × Task) → List NodeRow → Type 0
AreRowsAmong m ns number [] [] = Unit {0}
AreRowsAmong m ns number [] (row ∷ rows) = ⊥
AreRowsAmong m ns number (x ∷ xs) [] = ⊥
AreRowsAmong m ns number (x ∷ xs) (row ∷ rows) = IsRowAmong m ns number x row × AreRowsAmong m ns (number + 1) xs rows

-- where a leaf stands among these nodes
pub record IsSpotAmong (ns : List (Node × Task)) (l : Leaf) (spot : LeafSpot) : Type 0 where
  pub number : ℕ
  pub task : Task
  pub node : spot.node ≡ narrowed number
  pub at : slice_get ns number ≡ Some (l.node, task)
  pub reshape : spot.reshape ≡ narrowed (reshape_number l.work)

-- where some leaves stand
abbrev pub AreSpotsAmong : List (Node × Task) → List Leaf → List LeafSpot → Type 0
AreSpotsAmong ns [] [] = Unit {0}
AreSpotsAmong ns [] (spot ∷ spots) = ⊥
AreSpotsAmong ns (l ∷ ls) [] = ⊥
AreSpotsAmong ns (l ∷ ls) (spot ∷ spots) = IsSpotAmong ns l spot × AreSpotsAmong ns ls spots

-- the table has the rows of these nodes and the places of these leaves
pub record Placed (m : Model) (ns : List (Node × Task)) (ls : List Leaf) (table : Table) : Type 0 where
  pub rows : AreRowsAmong m ns 0 ns table.rows
  pub spots : AreSpotsAmong ns ls table.spots

-- a way leads to a node that comes after these
pub record LeadsTo (ns : List (Node × Task)) (node : Node) (way : Way) : Type 0 where
  pub above : IsReached ns (length ns) way.up way.part node
  pub around : way.around ≡ narrowed (length (space_around node))
  pub instances : way.instances ≡ saturated (size (space_around node))

-- the table goes on with these nodes and leaves
abbrev pub Places : Model → List (Node × Task) → List Leaf → List (Node × Task) → List Leaf → Table → Table → Result (Unit {0}) NoMemory → Type 0
Places m ns ls more more_leaves old new result = Placed m ns ls old → OnOk result (Placed m (ns ++ more) (ls ++ more_leaves) new)

-- it goes on with a node with the task of this number and all that is below
abbrev pub PlacesBelow : Model → ℕ → Way → Table → Table → Result (Unit {0}) NoMemory → Type 0
PlacesBelow m number way old new result =
    (node : Node) (t : Task) (fuel : ℕ) (ns : List (Node × Task)) (ls : List Leaf) → slice_get m.tasks number ≡ Some t → number_named m.tasks (task_name t) ≡ Some number → number < fuel → LeadsTo ns node way
    → Places m ns ls (nodes_below fuel m (Some t) node) (leaves_below fuel m (Some t) node) old new result

-- it goes on with a node with the task of this name and all that is below
abbrev pub PlacesDown : Model → List ℕ → Way → Table → Table → Result (Unit {0}) NoMemory → Type 0
PlacesDown m name way old new result =
    (node : Node) (fuel : ℕ) (ns : List (Node × Task)) (ls : List Leaf) → ((j : ℕ) → number_named m.tasks name ≡ Some j → j < fuel) → LeadsTo ns node way
    → Places m ns ls (nodes_below fuel m (task_named m.tasks name) node) (leaves_below fuel m (task_named m.tasks name) node) old new result

-- a way leads to the parts of a node that is one of these
pub record LeadsToParts (ns : List (Node × Task)) (node : Node) (way : Way) : Type 0 where
  pub number : ℕ
  pub task : Task
  pub up : way.up ≡ narrowed number
  pub at : slice_get ns number ≡ Some (node, task)
  pub around : way.around ≡ narrowed (length (space_around node))
  pub instances : way.instances ≡ saturated (size (space_around node))

-- it goes on with the nodes of the parts of a compound task and all that is below
abbrev pub PlacesParts : Model → Compound → Way → Table → Table → Result (Unit {0}) NoMemory → Type 0
PlacesParts m c way old new result =
    (node : Node) (fuel : ℕ) (ns : List (Node × Task)) (ls : List Leaf) → AreBelow m fuel c.parts → LeadsToParts ns node way
    → Places m ns ls (nodes_in fuel m node (enumerate_from 0 c.parts)) (leaves_in fuel m node (enumerate_from 0 c.parts)) old new result

-- it goes on with so many leaves of reshapes of a node
abbrev pub PlacesCopies : ℕ → ℕ → Table → Table → Result (Unit {0}) NoMemory → Type 0
PlacesCopies node count old new result =
    OnOk result ((new.rows ≡ old.rows) × (new.spots ≡ old.spots ++ map (λ (k : ℕ). record { node = node; reshape = narrowed k }) (numbers_below count)))
