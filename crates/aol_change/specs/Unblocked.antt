-- The old instances of a model in which one repetition is in blocks, by their numbers.
use Rattle.std.specs.Prelude.{ℕ, ◌+◌, ◌*◌, List, [], ◌∷◌, ◌++◌, flat_map, take, drop, length, Option, Some, None, option_map, if◌then◌else◌}
use Rattle.aol_shape.specs.Lists.{numbers_from, numbers_below}
use Rattle.aol_shape.specs.Shape.{size, rank, point_at}
use Rattle.aol_model_types.specs.declared.document.Model.{Model}
use Rattle.aol_model_types.specs.declared.task.Repeated.{Repeated}
use Rattle.aol_model_types.specs.Rules.{task_name}
use Rattle.aol_flat.specs.Instance.{Leaf, leaves}
use Rattle.aol_flat.specs.Node.{Node, space_around, node_task}
use Rattle.aol_change.specs.Change.{is_named, unblocked}

-- how many entries stand before those of the task of this name around a node, where the node is below that task
abbrev pub entries_before : Model → List ℕ → Node → Option ℕ
entries_before m name [] = None
entries_before m name (b ∷ up) = if is_named (option_map task_name (node_task m up)) name then Some (length (space_around up)) else entries_before m name up

-- the rank of the repetition that stands at a position inside a block, by the ranks of the block and of the position
abbrev pub unblocked_rank : List ℕ → List ℕ → List ℕ → ℕ → ℕ → ℕ
unblocked_rank space outer block number position = rank space (unblocked space block (point_at outer number) (point_at block position))

-- for the instances inside one block, the old numbers, where each repetition has `each` instances and the first of the task has the number `first`
abbrev pub numbers_in_block : List ℕ → List ℕ → List ℕ → ℕ → ℕ → ℕ → List ℕ
numbers_in_block space outer block first each number =
    flat_map (λ position. numbers_from (first + unblocked_rank space outer block number position * each) each) (numbers_below (size block))

-- the same for all blocks
abbrev pub numbers_in_blocks : List ℕ → List ℕ → List ℕ → ℕ → ℕ → List ℕ
numbers_in_blocks space outer block first each = flat_map (numbers_in_block space outer block first each) (numbers_below (size outer))

-- the same for so many instances of the task
abbrev pub numbers_in_tasks : List ℕ → List ℕ → List ℕ → ℕ → ℕ → ℕ → List ℕ
numbers_in_tasks space outer block many first each =
    flat_map (λ k. numbers_in_blocks space outer block (first + k * (size space * each)) each) (numbers_below many)

-- the same for a leaf with this space, whose first instance had this number, by the entries before those of the task
abbrev pub numbers_in_leaf : List ℕ → List ℕ → List ℕ → ℕ → List ℕ → Option ℕ → List ℕ
numbers_in_leaf space outer block first around None = numbers_from first (size around)
numbers_in_leaf space outer block first around (Some before) =
    numbers_in_tasks space outer block (size (take before around)) first (size (drop (before + length space) around))

-- the same for some leaves
abbrev pub numbers_in_leaves : Model → Repeated → List ℕ → List ℕ → ℕ → List Leaf → List ℕ
numbers_in_leaves m t outer block first [] = []
numbers_in_leaves m t outer block first (l ∷ ls) =
    numbers_in_leaf t.space outer block first l.space (entries_before m t.name l.node) ++ numbers_in_leaves m t outer block (first + size l.space) ls

-- for each instance of the model with this repetition in blocks, the old number
abbrev pub old_numbers : Model → Repeated → List ℕ → List ℕ → List ℕ
old_numbers m t outer block = numbers_in_leaves m t outer block 0 (leaves m)
