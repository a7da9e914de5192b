-- Models in which each task is made of tasks that are there.
use Rattle.std.specs.Prelude.{◌≡◌, ℕ, List, Some}
use Rattle.std.specs.List.{IsAmong}
use Rattle.aol_model_types.specs.declared.document.Model.{Model}
use Rattle.aol_model_types.specs.declared.task.Task.{Task}
use Rattle.aol_model_types.specs.Rules.{task_named}
use Rattle.aol_flat.specs.Numbered.{inner_names}

-- every task that others are made of is there
abbrev pub AreThere : Model → Type 0
AreThere m = (n inner : List ℕ) (u : Task) → task_named m.tasks n ≡ Some u → IsAmong (inner_names u) inner → (v : Task) × (task_named m.tasks inner ≡ Some v)
