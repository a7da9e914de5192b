-- What a step's new tasks have to keep, so that the changed model is sound.
use Rattle.std.specs.Prelude.{◌≡◌, List, map, false}
use Rattle.std.specs.List.{IsAmong}
use Rattle.aol_model_types.specs.declared.document.Model.{Model}
use Rattle.aol_model_types.specs.declared.task.Task.{Task}
use Rattle.aol_model_types.specs.Rules.{task_name, inputs_of, outputs_of}
use Rattle.aol_change.specs.Change.{is_taken}

-- the changed task has the name and the ports of the old one, and the new tasks' names are no old task's
pub record IsChange (m : Model) (t : Task) (made : List Task) (changed : Task) : Type 0 where
  pub named : task_name changed ≡ task_name t
  pub ins : inputs_of changed ≡ inputs_of t
  pub outs : outputs_of changed ≡ outputs_of t
  pub apart : (u : Task) → IsAmong m.tasks u → is_taken (map task_name made) (task_name u) ≡ false
