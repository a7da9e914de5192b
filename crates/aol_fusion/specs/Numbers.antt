-- The old numbers of the instances of a fused model, leaf by leaf.
use Rattle.std.specs.Prelude.{ℕ, ◌+◌, ◌-◌, ◌*◌, ◌==◌, List, [], ◌∷◌, flat_map, take, drop, length, slice_get, Option, Some, None, unwrap_or, option_map, if◌then◌else◌}
use Rattle.aol_shape.specs.Lists.{same, numbers_from, numbers_below}
use Rattle.aol_shape.specs.Shape.{size, rank, point_at}
use Rattle.aol_tiler.specs.Tiler.{address_point}
use Rattle.aol_model_types.specs.declared.document.Model.{Model}
use Rattle.aol_model_types.specs.declared.task.Part.{Part}
use Rattle.aol_model_types.specs.declared.task.Task.{Task}
use Rattle.aol_model_types.specs.declared.task.Task.TheVariants as tasks
use Rattle.aol_model_types.specs.Rules.{task_named}
use Rattle.aol_flat.specs.Instance.{Leaf, Computes, Copies, leaves_below, leaves}
use Rattle.aol_flat.specs.LeafCursor.{first_on}
use Rattle.aol_flat.specs.Node.{ToPart, ToBody, Node, node_task}
use Rattle.aol_flat.specs.Tasks.{part_number}
use Rattle.aol_change.specs.Unblocked.{entries_before}
use Rattle.aol_fusion_parts.specs.Fuse.{Fusing}
use Rattle.aol_fusion_parts.specs.Made.{fused_names}
use Rattle.aol_fusion.specs.Map.{old_part, old_reshape}

-- ---- leaves

-- how many leaves a task of this name has
abbrev pub leaves_in : Model → List ℕ → ℕ
leaves_in m name = length (leaves_below (length m.tasks) m (task_named m.tasks name) [])

-- how many some parts have
abbrev pub leaves_of : Model → List Part → ℕ
leaves_of m [] = 0
leaves_of m (p ∷ parts) = leaves_in m p.task + leaves_of m parts

-- how many leaves of the compound come before those of its part with this number
abbrev pub before_part : Fusing → ℕ → ℕ
before_part f k = leaves_of f.model (take k f.compound.parts)

-- the leaves between a new node and its part: from the compound to the second part none, since they come with the pair's parts
abbrev pub part_leaves : Fusing → Option Task → ℕ → ℕ
part_leaves f (Some (tasks.Compound x)) k =
    if same x.name f.compound.name then (if old_part f k == part_number f.compound f.args.second then 0 else before_part f (old_part f k))
    else (if same x.name (fused_names f.model f.compound.name).pair then before_part f (part_number f.compound (if k == 0 then f.args.first else f.args.second))
    else leaves_of f.model (take k x.parts))
part_leaves f _ k = 0

-- the number of the first of the old leaves from which those at and below a new node come
abbrev pub first_leaf : Fusing → Model → Node → ℕ
first_leaf f next [] = 0
first_leaf f next (ToPart k ∷ up) = first_leaf f next up + part_leaves f (node_task next up) k
first_leaf f next (ToBody s ∷ up) = first_leaf f next up

-- how many old leaves come before that of a reshape of a task
abbrev pub copy_leaves : Fusing → Option Task → ℕ → ℕ
copy_leaves f (Some (tasks.Compound x)) k = if same x.name f.compound.name then leaves_of f.model f.compound.parts + old_reshape f k else leaves_of f.model x.parts + k
copy_leaves f _ k = k

-- the number of the old leaf of a new one
abbrev pub old_leaf : Fusing → Model → Leaf → ℕ
old_leaf f next l = elim l.work [ Computes ↦ first_leaf f next l.node | Copies k n ↦ first_leaf f next l.node + copy_leaves f (node_task next l.node) k ]

-- ---- numbers

-- the rank of the repetition of the first part at a position of the block of a repetition of the second
abbrev pub placed_rank : Fusing → ℕ → ℕ → ℕ
placed_rank f number position = rank f.one.space (address_point f.args.tiler f.one.space (point_at f.two.space number) (point_at f.args.block position))

-- the old numbers inside one block, where each repetition of the first part has `each` instances
abbrev pub numbers_in_block : Fusing → ℕ → ℕ → ℕ → List ℕ
numbers_in_block f first each number = flat_map (λ position. numbers_from (first + placed_rank f number position * each) each) (numbers_below (size f.args.block))

-- the same for all repetitions of the second part
abbrev pub numbers_in_blocks : Fusing → ℕ → ℕ → List ℕ
numbers_in_blocks f first each = flat_map (numbers_in_block f first each) (numbers_below (size f.two.space))

-- the same for so many instances of the compound
abbrev pub numbers_in_compounds : Fusing → ℕ → ℕ → ℕ → List ℕ
numbers_in_compounds f many first each = flat_map (λ k. numbers_in_blocks f (first + k * (size f.one.space * each)) each) (numbers_below many)

-- the same for a new leaf, by the space of the old one, the first number there, and the entries before a block's
abbrev pub numbers_in_leaf : Fusing → ℕ → List ℕ → Option ℕ → List ℕ
numbers_in_leaf f first space None = numbers_from first (size space)
numbers_in_leaf f first space (Some before) =
    let around = before - length f.two.space in
    numbers_in_compounds f (size (take around space)) first (size (drop (around + length f.one.space) space))

-- the same by the old leaf's number
abbrev pub numbers_of_leaf : Fusing → Model → Leaf → List ℕ
numbers_of_leaf f next l =
    let k = old_leaf f next l in
    let space = unwrap_or (option_map (λ (x : Leaf). x.space) (slice_get (leaves f.model) k)) [] in
    numbers_in_leaf f (first_on f.model k) space (entries_before next (fused_names f.model f.compound.name).block l.node)

-- for each instance of the fused model, the old number
abbrev pub fused_numbers : Fusing → Model → List ℕ
fused_numbers f next = flat_map (numbers_of_leaf f next) (leaves next)
