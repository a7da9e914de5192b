-- Tiling: a repetition becomes a repetition of blocks.
use Rattle.std.specs.Prelude.{◌≡◌, ℕ, List, [], ◌∷◌, map, Option, Some, if◌then◌else◌}
use Rattle.aol_shape.specs.declared.limit.LimitName.{LimitName}
use Rattle.aol_shape.specs.Lists.{first_some, or_else}
use Rattle.aol_tiler.specs.Tiler.{blocked}
use Rattle.aol_model_types.specs.declared.document.Model.{Model}
use Rattle.aol_model_types.specs.declared.task.Repeated.{Repeated}
use Rattle.aol_model_types.specs.declared.task.Task.{Task}
use Rattle.aol_model_types.specs.declared.task.Task.TheVariants as tasks
use Rattle.aol_model_types.specs.declared.task.TilerOn.{TilerOn}
use Rattle.aol_model_types.specs.Rules.{task_named}
use Rattle.aol_flat.specs.Instance.{Instance}
use Rattle.aol_flat.specs.Accept.{IsSound}
use Rattle.aol_change.specs.declared.refused.StepRefused.TheVariants.{NotRepeated, HasLinks, Rank}
use Rattle.aol_change.specs.Blocks.{block_task, block_name, block_limit, untile}
use Rattle.aol_change.specs.Change.{Stepped, Changed, Refused, KeepsTasks, within_limits, bounded, changed_model, name_limit, tiler_limit, has_links, have_rank, old_instance, same_reshape}

-- ---- the repetition over the blocks

-- the old tiler, in blocks
abbrev pub outer_tiler : List ℕ → TilerOn → TilerOn
outer_tiler block o = record { outer = o.outer; inner = o.inner; tiler = blocked o.tiler block }

-- a repetition with the ports of the old one, and its tilers in blocks
abbrev pub filled_blocks : Repeated → List ℕ → Repeated → Repeated
filled_blocks t block made = record made { ins = t.ins; outs = t.outs; tilers = map (outer_tiler block) t.tilers }

-- the repetition over the blocks, each a task of this name
abbrev pub blocks_task : Repeated → List ℕ → List ℕ → List ℕ → Repeated
blocks_task t outer block name = filled_blocks t block (record { name = t.name; ins = []; outs = []; space = outer; task = name; tilers = []; links = [] })

-- the model with the repetition over one block and that over the blocks
abbrev pub tiled_model : Model → Repeated → List ℕ → List ℕ → Model
tiled_model m t outer block =
    changed_model m t.name (tasks.Repeated (block_task m t block (block_name m t)) ∷ []) (tasks.Repeated (blocks_task t outer block (block_name m t)))

-- ---- limits and causes

-- the first limit that old tilers in blocks pass
abbrev pub outer_limit : List ℕ → List TilerOn → Option LimitName
outer_limit block tilers = first_some (map (λ (o : TilerOn). tiler_limit (blocked o.tiler block)) tilers)

-- the first limit that is passed, in the order in which the parts are made
abbrev pub tile_limit : Model → Repeated → List ℕ → Option LimitName
tile_limit m t block = or_else (name_limit (block_name m t)) (or_else (block_limit m t block) (outer_limit block t.tilers))

-- the tiling of this task, or the first cause, but for the limits of the hierarchy
abbrev pub tiled_task : Model → Option Task → List ℕ → List ℕ → Stepped
tiled_task m (Some (tasks.Repeated t)) outer block =
    if has_links t then Refused HasLinks
    else (if have_rank t outer block then within_limits (tiled_model m t outer block) (tile_limit m t block) else Refused Rank)
tiled_task m _ outer block = Refused NotRepeated

-- the tiling of the task of this name, or the first cause
abbrev pub tile : Model → List ℕ → List ℕ → List ℕ → Stepped
tile m name outer block = bounded (tiled_task m (task_named m.tasks name) outer block)

-- ---- the map

-- the old instance of one of the tiled model
abbrev pub tile_origin : Model → Repeated → List ℕ → Model → Instance → Instance
tile_origin m t block new = old_instance (untile (block_name m t) t.space block) same_reshape new

-- the same by the task that is tiled, if there is one
abbrev pub tiled_from : Option Task → Model → List ℕ → Model → Instance → Instance
tiled_from (Some (tasks.Repeated t)) m block new i = tile_origin m t block new i
tiled_from _ m block new i = i

-- the tiled model of a sound one keeps its tasks
abbrev pub TiledKeepsTasks : Type 0
TiledKeepsTasks = (m next : Model) (name outer block : List ℕ) → IsSound m → tile m name outer block ≡ Changed next → KeepsTasks m next
