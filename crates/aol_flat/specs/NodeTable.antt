-- What the table of nodes says of a model that is laid out.
use Rattle.std.specs.Prelude.{◌≡◌, ℕ, ◌+◌, ◌<◌, List, [], ◌∷◌, ◌++◌, length, slice_get, Bool, true, false, Some}
use Rattle.aol_shape.specs.Shape.{IsPointOf, rank}
use Rattle.aol_expr_tree.specs.declared.port.Port.{Port}
use Rattle.aol_model_types.specs.declared.document.Model.{Model}
use Rattle.aol_model_types.specs.declared.task.Compound.{Compound}
use Rattle.aol_model_types.specs.declared.task.Task.{Task}
use Rattle.aol_model_types.specs.declared.task.Task.TheVariants as tasks
use Rattle.aol_model_types.specs.Rules.{inputs_of, outputs_of}
use Rattle.aol_flat.specs.declared.nodes.NodeRow.{NodeRow}
use Rattle.aol_flat.specs.declared.nodes.LeafSpot.{LeafSpot}
use Rattle.aol_flat.specs.Node.{ToPart, ToBody, Node, space_around, node_task, nodes}
use Rattle.aol_flat.specs.Instance.{Leaf, Work, Computes, Copies, leaves}
use Rattle.aol_flat.specs.Laid.{cell_at, homes_of, stores_input, stores_output}

-- the node with this number, and its task
abbrev pub IsNode : Model → ℕ → Node → Task → Type 0
IsNode m number node t = slice_get (nodes m) number ≡ Some (node, t)

-- the row says how a node is reached from the node above
pub data IsAbove (m : Model) (number : ℕ) (row : NodeRow) : Node → Type 0 where
  root : number ≡ 0 → IsAbove m number row []
  part : {up : Node} {t : Task} → row.up < number → IsNode m row.up up t → IsAbove m number row (ToPart row.part ∷ up)
  body : {up : Node} {t : Task} {space : List ℕ} → row.up < number → IsNode m row.up up t → IsAbove m number row (ToBody space ∷ up)

-- the row of the node with this number
pub record IsNodeRow (m : Model) (number : ℕ) (row : NodeRow) : Type 0 where
  pub node : Node
  pub task : Task
  pub at : IsNode m number node task
  pub listed : slice_get m.tasks row.task ≡ Some task
  pub around : row.around ≡ length (space_around node)
  pub above : IsAbove m number row node

-- the node with this number is compound, and its task has a part with that number
abbrev pub HasPart : Model → ℕ → ℕ → Type 0
HasPart m number k = (node : Node) × (c : Compound) × IsNode m number node (tasks.Compound c) × (k < length c.parts)

-- the number of the node of that part
abbrev pub IsPartNode : Model → ℕ → ℕ → ℕ → Type 0
IsPartNode m number k below = (node : Node) (c : Compound) → IsNode m number node (tasks.Compound c) → (t : Task) × IsNode m below (ToPart k ∷ node) t

-- the task of the node with this number has an input with that number
abbrev pub HasInput : Model → ℕ → ℕ → Type 0
HasInput m number k = (node : Node) × (t : Task) × IsNode m number node t × (k < length (inputs_of t))

-- or an output
abbrev pub HasOutput : Model → ℕ → ℕ → Type 0
HasOutput m number k = (node : Node) × (t : Task) × IsNode m number node t × (k < length (outputs_of t))

-- the array at a port of a node is stored by itself
abbrev pub stores_at : Model → Node → Bool → List ℕ → Bool
stores_at m [] input port = true
stores_at m (b ∷ up) true port = stores_input (node_task m up) b port
stores_at m (b ∷ up) false port = stores_output (node_task m up) b port

-- the cells of that array begin at this one, and follow in row-major order: the indices around the node, then those of the port
abbrev pub BeginsAt : Model → Node → Port → ℕ → Type 0
BeginsAt m node p first =
    (at : List ℕ) → IsPointOf (space_around node ++ p.shape) at
    → slice_get (homes_of m) (first + rank (space_around node ++ p.shape) at) ≡ Some (cell_at node p.name (length (space_around node)) at)

-- so it is for the k-th input of a node, where it is stored
abbrev pub IsFirstOfInput : Model → ℕ → ℕ → ℕ → Type 0
IsFirstOfInput m number k first =
    (node : Node) (t : Task) (p : Port) → IsNode m number node t → slice_get (inputs_of t) k ≡ Some p → stores_at m node true p.name ≡ true → BeginsAt m node p first

-- and for its k-th output
abbrev pub IsFirstOfOutput : Model → ℕ → ℕ → ℕ → Type 0
IsFirstOfOutput m number k first =
    (node : Node) (t : Task) (p : Port) → IsNode m number node t → slice_get (outputs_of t) k ≡ Some p → stores_at m node false p.name ≡ true → BeginsAt m node p first

-- the number of a leaf's reshape
abbrev pub reshape_number : Work → ℕ
reshape_number Computes = 0
reshape_number (Copies k entries) = k

-- where the leaf with this number stands
pub record IsLeafSpot (m : Model) (number : ℕ) (spot : LeafSpot) : Type 0 where
  pub leaf : Leaf
  pub task : Task
  pub at : slice_get (leaves m) number ≡ Some leaf
  pub node : IsNode m spot.node leaf.node task
  pub reshape : spot.reshape ≡ reshape_number leaf.work
