-- What the parts of finding the old numbers answer.
use Rattle.std.specs.Prelude.{◌≡◌, ℕ, List, ◌++◌, length, take, slice_get, Option, Some, Result, OnOk}
use Rattle.std.specs.declared.alloc.AllocError.{AllocError}
use Rattle.aol_model_types.specs.declared.document.Model.{Model}
use Rattle.aol_model_types.specs.declared.task.Repeated.{Repeated}
use Rattle.aol_model_types.specs.declared.task.Task.{Task}
use Rattle.aol_flat.specs.Instance.{Leaf, leaves}
use Rattle.aol_flat.specs.Leaves.{instances_of}
use Rattle.aol_flat.specs.Node.{Node}
use Rattle.aol_flat.specs.NodeTable.{IsNode}
use Rattle.aol_change.specs.Unblocked.{entries_before, numbers_in_leaf}

-- this is how many entries stand before those of the task of this name around the node with this number
abbrev pub IsEntriesBefore : Model → List ℕ → ℕ → Option ℕ → Type 0
IsEntriesBefore m name number before = (node : Node) (t : Task) → IsNode m number node t → before ≡ entries_before m name node

-- the spaces of blocks and of one block have as many entries as the space
pub record HaveRank (space outer block : List ℕ) : Type 0 where
  pub outer_rank : length outer ≡ length space
  pub block_rank : length block ≡ length space

-- the old numbers of the instances of the leaf with this number come after the others
abbrev pub PushesLeaf : Model → Repeated → List ℕ → List ℕ → ℕ → List ℕ → List ℕ → Result (Unit {0}) AllocError → Type 0
PushesLeaf m t outer block k old new result =
    (l : Leaf) → slice_get (leaves m) k ≡ Some l → OnOk result (new ≡ old ++ numbers_in_leaf t.space outer block (instances_of (take k (leaves m))) l.space (entries_before m t.name l.node))
