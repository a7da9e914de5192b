-- A change of paving: of a repetition of repetitions, blocks of the outer level move into the inner one.
use Rattle.std.specs.Prelude.{◌≡◌, ℕ, ◌||◌, List, [], ◌∷◌, ◌++◌, map, take, drop, length, Option, Some, if◌then◌else◌}
use Rattle.aol_shape.specs.declared.limit.LimitName.{LimitName}
use Rattle.aol_shape.specs.Lists.{first_some, or_else}
use Rattle.aol_tiler.specs.Tiler.{composed, inner_of}
use Rattle.aol_expr_tree.specs.declared.port.Port.{Port}
use Rattle.aol_model_types.specs.declared.document.Model.{Model}
use Rattle.aol_model_types.specs.declared.task.Repeated.{Repeated}
use Rattle.aol_model_types.specs.declared.task.Task.{Task}
use Rattle.aol_model_types.specs.declared.task.Task.TheVariants as tasks
use Rattle.aol_model_types.specs.declared.task.TilerOn.{TilerOn}
use Rattle.aol_model_types.specs.Rules.{task_named}
use Rattle.aol_flat.specs.Accept.{IsSound}
use Rattle.aol_flat.specs.Instance.{Instance}
use Rattle.aol_flat.specs.Place.{IntoRepetition}
use Rattle.aol_change.specs.declared.refused.StepRefused.TheVariants.{NotRepeated, NotTwoLevels, HasLinks, Rank}
use Rattle.aol_change.specs.Change.{Stepped, Changed, Refused, StepBack, KeepsTasks, within_limits, bounded, new_name, changed_model, name_limit, joined_limit, ports_limit, tiler_limit, has_links, have_rank, is_named, old_instance, same_reshape, unblocked}
use Rattle.aol_paving.specs.declared.crossing.Crossing.{Crossing}
use Rattle.aol_paving.specs.Crossings.{input_crossings, output_crossings, crossed_tiler}

-- ---- the inner repetition, over a block of the outer space and the inner space

-- an innermost port over the whole of its space
abbrev pub whole_port : List ℕ → Crossing → Port
whole_port space c = record { name = c.port.name; shape = space ++ c.port.shape }

-- the tiler that leads from it to the innermost port of each repetition
abbrev pub whole_tiler : List ℕ → Crossing → TilerOn
whole_tiler space c = record { outer = c.port.name; inner = c.port.name; tiler = inner_of space c.port.shape }

-- a repetition with the ports and tilers that these inputs and outputs give over a space
abbrev pub filled_inner : List ℕ → List Crossing → List Crossing → Repeated → Repeated
filled_inner space ins outs made = record made { ins = map (whole_port space) ins; outs = map (whole_port space) outs; tilers = map (whole_tiler space) (ins ++ outs) }

-- the inner repetition over this space
abbrev pub inner_task : Repeated → List Crossing → List Crossing → List ℕ → List ℕ → Repeated
inner_task u ins outs space name = filled_inner space ins outs (record { name = name; ins = []; outs = []; space = space; task = u.task; tilers = []; links = [] })

-- ---- the outer repetition, over the blocks

-- the tiler from an outer port to an innermost port over a block and the inner space
abbrev pub outer_tiler : List ℕ → Crossing → TilerOn
outer_tiler block c = record { outer = c.outer.outer; inner = c.port.name; tiler = crossed_tiler block c }

-- a repetition with the ports of the old one, and these tilers
abbrev pub filled_outer : Repeated → List ℕ → List Crossing → Repeated → Repeated
filled_outer t block cs made = record made { ins = t.ins; outs = t.outs; tilers = map (outer_tiler block) cs }

-- the outer repetition, each a task of this name
abbrev pub outer_task : Repeated → List Crossing → List ℕ → List ℕ → List ℕ → Repeated
outer_task t cs outer block name = filled_outer t block cs (record { name = t.name; ins = []; outs = []; space = outer; task = name; tilers = []; links = [] })

-- the name of the inner repetition
abbrev pub inner_name : Model → Repeated → List ℕ
inner_name m t = new_name m [] t.name

-- the inner repetition of the paved model, under this name
abbrev pub paved_inner : Model → Repeated → Repeated → List ℕ → List ℕ → Repeated
paved_inner m t u block name = inner_task u (input_crossings m t u) (output_crossings m t u) (block ++ u.space) name

-- the outer one, over tasks of this name
abbrev pub paved_outer : Model → Repeated → Repeated → List ℕ → List ℕ → List ℕ → Repeated
paved_outer m t u outer block name = outer_task t (input_crossings m t u ++ output_crossings m t u) outer block name

-- the model with both
abbrev pub paved_model : Model → Repeated → Repeated → List ℕ → List ℕ → Model
paved_model m t u outer block =
    changed_model m t.name (tasks.Repeated (paved_inner m t u block (inner_name m t)) ∷ []) (tasks.Repeated (paved_outer m t u outer block (inner_name m t)))

-- ---- limits and causes

-- the first limit that the shapes of these ports pass
abbrev pub whole_limit : List ℕ → List Crossing → Option LimitName
whole_limit space cs = first_some (map (λ (c : Crossing). joined_limit space c.port.shape) cs)

-- the first limit that the inner repetition passes: shapes of inputs, shapes of outputs, the number of ports
abbrev pub inner_limit : List ℕ → List Crossing → List Crossing → Option LimitName
inner_limit space ins outs = or_else (whole_limit space ins) (or_else (whole_limit space outs) (ports_limit (map (whole_port space) ins) (map (whole_port space) outs)))

-- the first limit that a tiler of the outer repetition passes: both as one, and then in blocks
abbrev pub crossing_limit : List ℕ → Crossing → Option LimitName
crossing_limit block c = or_else (tiler_limit (composed c.outer.tiler c.inner.tiler)) (tiler_limit (crossed_tiler block c))

-- the first limit that these tilers pass
abbrev pub outer_limit : List ℕ → List Crossing → Option LimitName
outer_limit block cs = first_some (map (crossing_limit block) cs)

-- the first limit that both repetitions pass, with the space of the inner one
abbrev pub tasks_limit : List ℕ → List ℕ → List Crossing → List Crossing → Option LimitName
tasks_limit block space ins outs = or_else (joined_limit block space) (or_else (inner_limit (block ++ space) ins outs) (or_else (outer_limit block ins) (outer_limit block outs)))

-- the first limit that is passed, in the order in which the parts are made
abbrev pub pave_limit : Model → Repeated → Repeated → List ℕ → Option LimitName
pave_limit m t u block = or_else (name_limit (inner_name m t)) (tasks_limit block u.space (input_crossings m t u) (output_crossings m t u))

-- the change at a repetition t of this inner task, or the first cause, but for the limits of the hierarchy
abbrev pub paved_levels : Model → Repeated → Option Task → List ℕ → List ℕ → Stepped
paved_levels m t (Some (tasks.Repeated u)) outer block =
    if has_links t || has_links u then Refused HasLinks
    else (if have_rank t outer block then within_limits (paved_model m t u outer block) (pave_limit m t u block) else Refused Rank)
paved_levels m t _ outer block = Refused NotTwoLevels

-- the same at this task
abbrev pub paved_task : Model → Option Task → List ℕ → List ℕ → Stepped
paved_task m (Some (tasks.Repeated t)) outer block = paved_levels m t (task_named m.tasks t.task) outer block
paved_task m _ outer block = Refused NotRepeated

-- the change of paving of the task of this name, or the first cause
abbrev pub pave : Model → List ℕ → List ℕ → List ℕ → Stepped
pave m name outer block = bounded (paved_task m (task_named m.tasks name) outer block)

-- ---- the map

-- the inner step has the position inside the block, and after it the old inner step
abbrev pub unpave : List ℕ → List ℕ → List ℕ → StepBack
unpave name space block above (IntoRepetition i) (IntoRepetition r ∷ up) =
    if is_named above name then IntoRepetition (drop (length block) i) ∷ IntoRepetition (unblocked space block r (take (length block) i)) ∷ up
    else IntoRepetition i ∷ IntoRepetition r ∷ up
unpave name space block above d up = d ∷ up

-- the old instance of one of the paved model
abbrev pub pave_origin : Model → Repeated → List ℕ → Model → Instance → Instance
pave_origin m t block new = old_instance (unpave (inner_name m t) t.space block) same_reshape new

-- the same by the task that is changed, if there is one
abbrev pub paved_from : Option Task → Model → List ℕ → Model → Instance → Instance
paved_from (Some (tasks.Repeated t)) m block new i = pave_origin m t block new i
paved_from _ m block new i = i

-- the paved model of a sound one keeps its tasks
abbrev pub PavedKeepsTasks : Type 0
PavedKeepsTasks = (m next : Model) (name outer block : List ℕ) → IsSound m → pave m name outer block ≡ Changed next → KeepsTasks m next
