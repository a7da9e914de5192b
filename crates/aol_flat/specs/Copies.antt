-- One copy of a reshape, at an instance of its compound task, and the elements at its two ends.
use Rattle.std.specs.Prelude.{◌≡◌, ℕ, List, ◌∷◌, ◌++◌, slice_get, Option, Some, None}
use Rattle.aol_shape.specs.Shape.{IsPointOf}
use Rattle.aol_tiler.specs.Matrices.{TilerOf}
use Rattle.aol_tiler.specs.Tiler.{Fits, address_point}
use Rattle.aol_expr_tree.specs.declared.port.Port.{Port}
use Rattle.aol_model_types.specs.declared.document.Model.{Model}
use Rattle.aol_model_types.specs.declared.task.Compound.{Compound}
use Rattle.aol_model_types.specs.declared.task.Copied.{Copied}
use Rattle.aol_model_types.specs.declared.task.Hook.{Hook}
use Rattle.aol_model_types.specs.declared.task.Task.{Task}
use Rattle.aol_model_types.specs.declared.task.Task.TheVariants as tasks
use Rattle.aol_model_types.specs.Rules.{port_shape}
use Rattle.aol_flat.specs.declared.view.Read.{Read}
use Rattle.aol_flat.specs.Follow.{IsElementOf}
use Rattle.aol_flat.specs.Instance.{leaves, reshape_leaf, end_shape, copy_source, copy_target}
use Rattle.aol_flat.specs.Laid.{Laid, IsReadOf, IsCellOf}
use Rattle.aol_flat.specs.Node.{Node, ToPart, space_around, place_on, node_task}
use Rattle.aol_flat.specs.NodeTable.{IsNode}
use Rattle.aol_flat.specs.Place.{end_element}
use Rattle.aol_flat.specs.Tasks.{part_number}

-- a reshape of the compound task of a node, with indices around that node, a repetition and an element of the pattern
pub record IsCopyAt (m : Model) (number : ℕ) (c : Compound) (copied : Copied) (around r i : List ℕ) : Type 0 where
  pub node : Node
  pub at_node : IsNode m number node (tasks.Compound c)
  pub reshape : ℕ
  pub listed : slice_get c.reshapes reshape ≡ Some copied
  pub around_inside : IsPointOf (space_around node) around
  pub repetition_inside : IsPointOf copied.by.space r
  pub part_inside : IsPointOf copied.by.pattern i

-- it is the copy of the leaf with this number at this point
pub record IsLeafCopy (m : Model) (leaf : ℕ) (at : List ℕ) (number : ℕ) (c : Compound) (copied : Copied) (around r i : List ℕ) : Type 0 where
  pub place : IsCopyAt m number c copied around r i
  pub leaf_is : slice_get (leaves m) leaf ≡ Some (reshape_leaf place.node (place.reshape, copied))
  pub whole : at ≡ around ++ r ++ i

-- ---- its ends

-- the node at an end: that of the compound, or that of a part
abbrev pub node_of_end : Compound → Node → Option (List ℕ) → Node
node_of_end c up None = up
node_of_end c up (Some part) = ToPart (part_number c part) ∷ up

-- there is such a node
abbrev pub HasEndNode : Model → ℕ → Compound → Hook → Type 0
HasEndNode m number c h = (up : Node) → IsNode m number up (tasks.Compound c) → (t : Task) × (node_task m (node_of_end c up h.part) ≡ Some t)

-- the node with this number is that of the end
abbrev pub IsEndNode : Model → ℕ → Compound → Hook → ℕ → Type 0
IsEndNode m number c h below = (up : Node) → IsNode m number up (tasks.Compound c) → (t : Task) × IsNode m below (node_of_end c up h.part) t

-- the task at an end has the port, and the tiler fits its shape
pub record IsFitting (m : Model) (ports : Task → List Port) (c : Compound) (copied : Copied) (h : Hook) (tiler : TilerOf) (up : Node) : Type 0 where
  pub task : Task
  pub at_end : node_task m (node_of_end c up h.part) ≡ Some task
  pub shape : List ℕ
  pub at_port : port_shape (ports task) h.port ≡ Some shape
  pub fits : Fits tiler shape copied.by.space copied.by.pattern

-- so it is at the node with this number
abbrev pub HasEnd : Model → (Task → List Port) → ℕ → Compound → Copied → Hook → TilerOf → Type 0
HasEnd m ports number c copied h tiler = (up : Node) → IsNode m number up (tasks.Compound c) → IsFitting m ports c copied h tiler up

-- the element at an end is that of rank x at the k-th port of the node `below`
abbrev pub IsAtEnd : Model → (Task → List Port) → ℕ → Compound → Hook → TilerOf → List ℕ → List ℕ → List ℕ → ℕ → ℕ → ℕ → Type 0
IsAtEnd m ports number c h tiler around r i below k x =
    (up : Node) → IsNode m number up (tasks.Compound c) → IsPointOf (space_around up) around
    → IsElementOf m ports below k around x (end_element c (place_on up around) h (address_point tiler (end_shape m c (place_on up around) h) r i))

-- ---- what it reads and writes

-- this is what reading its source means
abbrev pub IsReadOfCopy : Laid → ℕ → Compound → Copied → List ℕ → List ℕ → List ℕ → Read → Type 0
IsReadOfCopy f number c copied around r i read =
    (up : Node) → IsNode f.model number up (tasks.Compound c) → IsReadOf f (copy_source f.model c (place_on up around) copied r i) read

-- this is the cell of its target
abbrev pub IsCellOfCopy : Laid → ℕ → Compound → Copied → List ℕ → List ℕ → List ℕ → ℕ → Type 0
IsCellOfCopy f number c copied around r i cell =
    (up : Node) → IsNode f.model number up (tasks.Compound c) → IsCellOf f (copy_target f.model c (place_on up around) copied r i) cell
