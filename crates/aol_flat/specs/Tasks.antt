-- The main task, and the numbers by which tasks and parts are known.
use Rattle.std.specs.Prelude.{ℕ, Bool, true, false, List, [], filter, Option, option_map, unwrap_or}
use Rattle.std.specs.List.{position_or_len}
use Rattle.aol_shape.specs.Lists.{same}
use Rattle.aol_expr_tree.specs.declared.port.Port.{Port}
use Rattle.aol_model_types.specs.declared.document.Model.{Model}
use Rattle.aol_model_types.specs.declared.task.Compound.{Compound}
use Rattle.aol_model_types.specs.declared.task.Part.{Part}
use Rattle.aol_model_types.specs.declared.task.Task.{Task}
use Rattle.aol_model_types.specs.declared.task.Task.TheVariants as tasks
use Rattle.aol_model_types.specs.Rules.{task_name, task_named, inputs_of, outputs_of}

-- the first task that has the name of the main task
abbrev pub main_task : Model → Option Task
main_task m = task_named m.tasks m.main

-- its inputs
abbrev pub main_inputs : Model → List Port
main_inputs m = unwrap_or (option_map inputs_of (main_task m)) []

-- its outputs
abbrev pub main_outputs : Model → List Port
main_outputs m = unwrap_or (option_map outputs_of (main_task m)) []

-- the task computes
abbrev pub is_elementary : Task → Bool
is_elementary (tasks.Elementary e) = true
is_elementary _ = false

-- the tasks that compute, in the order of the model
abbrev pub elementary_tasks : Model → List Task
elementary_tasks m = filter is_elementary m.tasks

-- the number among them of the first that has this name
abbrev pub elementary_number : Model → List ℕ → ℕ
elementary_number m name = position_or_len (λ t. same (task_name t) name) (elementary_tasks m)

-- the number of the first part that has this name
abbrev pub part_number : Compound → List ℕ → ℕ
part_number c name = position_or_len (λ (p : Part). same p.name name) c.parts
