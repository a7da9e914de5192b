-- What the instances of a leaf read and write, one after another.
use Rattle.std.specs.Prelude.{◌≡◌, ℕ, ◌<◌, ◌^◌, List, slice_get, Some, sum}
use Rattle.std.specs.List.{AllZip}
use Rattle.aol_shape.specs.Shape.{IsPointOf, size}
use Rattle.aol_expr_tree.specs.declared.port.Port.{Port}
use Rattle.aol_model_types.specs.declared.document.Model.{Model}
use Rattle.aol_model_types.specs.declared.task.Task.{Task}
use Rattle.aol_model_types.specs.Rules.{outputs_of}
use Rattle.aol_flat.specs.declared.view.Read.{Read}
use Rattle.aol_flat.specs.Follow.{IsReadOfInput, IsCellOfPort}
use Rattle.aol_flat.specs.Instance.{Leaf, Computes, Copies, leaves, Instance, instances, instance_on, read_elements, written_elements, read_sizes, written_sizes}
use Rattle.aol_flat.specs.Laid.{Laid, IsReadOf, IsCellOf}
use Rattle.aol_flat.specs.Node.{Node, space_around}
use Rattle.aol_flat.specs.NodeTable.{IsNode}

-- a cursor over the instances of a leaf of a model that is laid out
pub record CursorOf : Type 0 where
  pub flat : Laid
  pub leaf : ℕ

-- so many elements each instance of a leaf that begins with this one reads
abbrev pub IsReadCount : Laid → ℕ → ℕ → Type 0
IsReadCount f number many = (i : Instance) → slice_get (instances f.model) number ≡ Some i → many ≡ sum (read_sizes f.model i)

-- and writes
abbrev pub IsWriteCount : Laid → ℕ → ℕ → Type 0
IsWriteCount f number many = (i : Instance) → slice_get (instances f.model) number ≡ Some i → many ≡ sum (written_sizes f.model i)

-- ---- the ports of one instance of a node

-- there are indices and a port
pub record HasPortAt (m : Model) (ports : Task → List Port) (number k many : ℕ) (at : List ℕ) : Type 0 where
  pub node : Node
  pub task : Task
  pub at_node : IsNode m number node task
  pub around : IsPointOf (space_around node) at
  pub port : Port
  pub listed : slice_get (ports task) k ≡ Some port
  pub many_is : many ≡ size port.shape
  pub few : many < 2 ^ 32

-- the reads of the elements of the k-th input, in order of rank
abbrev pub ArePortReads : Laid → ℕ → ℕ → List ℕ → List Read → Type 0
ArePortReads f number k at reads = (x : ℕ) (read : Read) → slice_get reads x ≡ Some read → IsReadOfInput f number k at x read

-- the cells of the elements of the k-th output
abbrev pub ArePortCells : Laid → ℕ → ℕ → List ℕ → List ℕ → Type 0
ArePortCells f number k at cells = (x : ℕ) (cell : ℕ) → slice_get cells x ≡ Some cell → IsCellOfPort f outputs_of number k at x cell

-- ---- the points of a leaf

-- the indices are those of an instance of the leaf with this number, which computes
pub record IsRunPoint (m : Model) (number : ℕ) (at : List ℕ) : Type 0 where
  pub leaf : Leaf
  pub listed : slice_get (leaves m) number ≡ Some leaf
  pub computes : leaf.work ≡ Computes
  pub inside : IsPointOf leaf.space at

-- the same of a leaf that copies
pub record IsCopyPoint (m : Model) (number : ℕ) (at : List ℕ) : Type 0 where
  pub leaf : Leaf
  pub listed : slice_get (leaves m) number ≡ Some leaf
  pub reshape : ℕ
  pub entries : ℕ
  pub copies : leaf.work ≡ Copies reshape entries
  pub inside : IsPointOf leaf.space at

-- these are the reads of the instance of the leaf with this number at a point of its space
abbrev pub AreReadsAt : Laid → ℕ → List ℕ → List Read → Type 0
AreReadsAt f number at reads = (l : Leaf) → slice_get (leaves f.model) number ≡ Some l → AllZip (IsReadOf f) (read_elements f.model (instance_on l at)) reads

-- these are the cells that it writes
abbrev pub AreWritesAt : Laid → ℕ → List ℕ → List ℕ → Type 0
AreWritesAt f number at cells = (l : Leaf) → slice_get (leaves f.model) number ≡ Some l → AllZip (IsCellOf f) (written_elements f.model (instance_on l at)) cells
