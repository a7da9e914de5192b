-- One instance of a leaf after another: its indices, what it reads and what it writes.
use Rattle.std.specs.Prelude.{◌≡◌, ℕ, ◌+◌, ◌<◌, List, sum_by, take, drop, slice_get, Option, Some, None}
use Rattle.std.specs.List.{AllZip}
use Rattle.aol_shape.specs.Shape.{IsPointOf, size, point_at}
use Rattle.aol_expr_tree.specs.declared.port.Port.{Port}
use Rattle.aol_model_types.specs.declared.document.Model.{Model}
use Rattle.aol_model_types.specs.declared.task.Task.{Task}
use Rattle.aol_model_types.specs.Rules.{inputs_of, outputs_of}
use Rattle.aol_flat.specs.declared.view.Read.{Read}
use Rattle.aol_flat.specs.Cursor.{CursorOf, IsReadCount, IsWriteCount}
use Rattle.aol_flat.specs.Instance.{Leaf, Computes, Copies, leaves}
use Rattle.aol_flat.specs.Laid.{Laid, IsReadOf, IsCellOf}
use Rattle.aol_flat.specs.Leaves.{instances_of}
use Rattle.aol_flat.specs.Node.{Node, space_around, place_on, node_task}
use Rattle.aol_flat.specs.NodeTable.{IsNode}
use Rattle.aol_flat.specs.Place.{elements_of}

-- how many elements some ports have
abbrev pub elements_at : List Port → ℕ
elements_at ports = sum_by (λ (p : Port). size p.shape) ports

-- ---- the ports of one instance of a node, from one on

-- there are indices, and so many elements at the ports from the k-th on
pub record HasPortsFrom (m : Model) (ports : Task → List Port) (number k many : ℕ) (at : List ℕ) : Type 0 where
  pub node : Node
  pub task : Task
  pub at_node : IsNode m number node task
  pub around : IsPointOf (space_around node) at
  pub many_is : many ≡ elements_at (drop k (ports task))

-- the reads of all elements of the inputs from the k-th on, by port and rank
abbrev pub AreReadsFrom : Laid → ℕ → ℕ → List ℕ → List Read → Type 0
AreReadsFrom f number k at reads = (node : Node) (t : Task) → IsNode f.model number node t → AllZip (IsReadOf f) (elements_of (place_on node at) (drop k (inputs_of t))) reads

-- the cells of all elements of the outputs from the k-th on
abbrev pub AreCellsFrom : Laid → ℕ → ℕ → List ℕ → List ℕ → Type 0
AreCellsFrom f number k at cells = (node : Node) (t : Task) → IsNode f.model number node t → AllZip (IsCellOf f) (elements_of (place_on node at) (drop k (outputs_of t))) cells

-- ---- how much a leaf reads and writes

-- the elements at the ports of a task, where there is one
abbrev pub task_elements : (Task → List Port) → Option Task → ℕ
task_elements ports None = 0
task_elements ports (Some t) = elements_at (ports t)

-- the elements of one instance of a leaf: those of the ports of its task, or the one that it copies
abbrev pub leaf_elements : (Task → List Port) → Model → Option Leaf → ℕ
leaf_elements ports m None = 0
leaf_elements ports m (Some l) = elim l.work [ Computes ↦ task_elements ports (node_task m l.node) | Copies k n ↦ 1 ]

-- so many elements each instance of the leaf with this number reads
abbrev pub reads_each : Model → ℕ → ℕ
reads_each m leaf = leaf_elements inputs_of m (slice_get (leaves m) leaf)

-- and writes
abbrev pub writes_each : Model → ℕ → ℕ
writes_each m leaf = leaf_elements outputs_of m (slice_get (leaves m) leaf)

-- ---- the instances of a leaf

-- how many instances a leaf has, where there is one
abbrev pub leaf_size : Option Leaf → ℕ
leaf_size None = 0
leaf_size (Some l) = size l.space

-- how many instances the leaf with this number has
abbrev pub instances_on : Model → ℕ → ℕ
instances_on m leaf = leaf_size (slice_get (leaves m) leaf)

-- the number of its first one
abbrev pub first_on : Model → ℕ → ℕ
first_on m leaf = instances_of (take leaf (leaves m))

-- each instance of the leaf reads so many elements
abbrev pub ReadsEach : CursorOf → ℕ → Type 0
ReadsEach c many = (number : ℕ) → number < instances_on c.flat.model c.leaf → IsReadCount c.flat (first_on c.flat.model c.leaf + number) many

-- each writes so many
abbrev pub WritesEach : CursorOf → ℕ → Type 0
WritesEach c many = (number : ℕ) → number < instances_on c.flat.model c.leaf → IsWriteCount c.flat (first_on c.flat.model c.leaf + number) many

-- the indices are those of an instance of the leaf with this number
pub record IsLeafPoint (m : Model) (number : ℕ) (at : List ℕ) : Type 0 where
  pub leaf : Leaf
  pub listed : slice_get (leaves m) number ≡ Some leaf
  pub inside : IsPointOf leaf.space at

-- the indices are those of this instance of the leaf
pub record IsAlong (m : Model) (leaf number : ℕ) (at : List ℕ) : Type 0 where
  pub of_leaf : Leaf
  pub listed : slice_get (leaves m) leaf ≡ Some of_leaf
  pub within : number < size of_leaf.space
  pub is : at ≡ point_at of_leaf.space number
