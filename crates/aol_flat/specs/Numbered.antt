-- The numbers of tasks by their names, and tasks that stand on earlier ones.
use Rattle.std.specs.Prelude.{◌≡◌, ℕ, ◌+◌, ◌<◌, List, [], ◌∷◌, map, slice_get, Option, Some, None, String, if◌then◌else◌}
use Rattle.std.specs.List.{IsAmong}
use Rattle.std.specs.BTreeMap.{BTreeMap, get_by_text}
use Rattle.std.specs.declared.alloc.Global.{Global}
use Rattle.aol_shape.specs.Lists.{same}
use Rattle.aol_model_types.specs.declared.task.Part.{Part}
use Rattle.aol_model_types.specs.declared.task.Task.{Task}
use Rattle.aol_model_types.specs.declared.task.Task.TheVariants as tasks
use Rattle.aol_model_types.specs.Rules.{task_name}

-- the number of the first task that has this name, where the first task of the list has the number `from`
abbrev pub number_from : ℕ → List Task → List ℕ → Option ℕ
number_from from [] name = None
number_from from (t ∷ ts) name = if same (task_name t) name then Some from else number_from (from + 1) ts name

-- the number of the first task that has this name
abbrev pub number_named : List Task → List ℕ → Option ℕ
number_named ts name = number_from 0 ts name

-- a map that finds the numbers of the tasks by their names
abbrev pub FindsNumbers : List Task → BTreeMap (String Global) ℕ → Type 0
FindsNumbers ts m = (name : List ℕ) → get_by_text m name ≡ number_named ts name

-- the names of the tasks that a task is made of
abbrev pub inner_names : Task → List (List ℕ)
inner_names (tasks.Elementary e) = []
inner_names (tasks.Compound c) = map (λ (p : Part). p.task) c.parts
inner_names (tasks.Repeated r) = r.task ∷ []

-- each task is made of earlier ones
abbrev pub StandOnEarlier : List Task → Type 0
StandOnEarlier ts = (k j : ℕ) (t : Task) (name : List ℕ) → slice_get ts k ≡ Some t → IsAmong (inner_names t) name → number_named ts name ≡ Some j → j < k
