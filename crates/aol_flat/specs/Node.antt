-- The nodes of the hierarchy in preorder, and their paths.
use Rattle.std.specs.Prelude.{ℕ, zero, suc, ◌-◌, List, [], ◌∷◌, ◌++◌, flat_map, take, drop, length, slice_get, Option, Some, None, unwrap_or, option_map, option_and_then, codes}
use Rattle.std.specs.List.{enumerate_from}
use Rattle.aol_model_types.specs.declared.document.Model.{Model}
use Rattle.aol_model_types.specs.declared.task.Part.{Part}
use Rattle.aol_model_types.specs.declared.task.Task.{Task}
use Rattle.aol_model_types.specs.declared.task.Task.TheVariants as tasks
use Rattle.aol_model_types.specs.Rules.{task_named}
use Rattle.aol_flat.specs.Tasks.{main_task}
use Rattle.aol_flat.specs.Place.{Place, IntoPart, IntoRepetition}

-- one step down to a node: to part k, or to the body of a repetition with this space
pub data Branch : Type 0 where
  ToPart : ℕ → Branch
  ToBody : List ℕ → Branch

-- a node: the steps that lead to it, the last one first
abbrev pub Node : Type 0
Node = List Branch

-- the entries of the spaces of all repetitions around a node, the outermost first
abbrev pub space_around : Node → List ℕ
space_around [] = []
space_around (ToPart k ∷ up) = space_around up
space_around (ToBody space ∷ up) = space_around up ++ space

-- the instance of a node with these indices, one for each of those entries
abbrev pub place_on : Node → List ℕ → Place
place_on [] at = []
place_on (ToPart k ∷ up) at = IntoPart k ∷ place_on up at
place_on (ToBody space ∷ up) at = IntoRepetition (drop (length at - length space) at) ∷ place_on up (take (length at - length space) at)

-- the indices of all repetitions around an instance, the outermost first
abbrev pub indices_of : Place → List ℕ
indices_of [] = []
indices_of (IntoPart k ∷ up) = indices_of up
indices_of (IntoRepetition r ∷ up) = indices_of up ++ r

-- the task to which a step from a task leads
abbrev pub task_under : Model → Task → Branch → Option Task
task_under m (tasks.Compound c) (ToPart k) = option_and_then (λ (p : Part). task_named m.tasks p.task) (slice_get c.parts k)
task_under m (tasks.Repeated t) (ToBody space) = task_named m.tasks t.task
task_under m _ _ = None

-- the task at a node
abbrev pub node_task : Model → Node → Option Task
node_task m [] = main_task m
node_task m (b ∷ up) = option_and_then (λ t. task_under m t b) (node_task m up)

-- a node with the task that stands there and all nodes below it, in preorder; so many steps down, which is enough where they are as many as the tasks
abbrev pub nodes_below : ℕ → Model → Option Task → Node → List (Node × Task)
nodes_below zero m t node = []
nodes_below (suc depth) m None node = []
nodes_below (suc depth) m (Some (tasks.Elementary e)) node = (node, tasks.Elementary e) ∷ []
nodes_below (suc depth) m (Some (tasks.Compound c)) node =
    (node, tasks.Compound c) ∷ flat_map (λ (p : ℕ × Part). nodes_below depth m (task_named m.tasks p.1.task) (ToPart p.0 ∷ node)) (enumerate_from 0 c.parts)
nodes_below (suc depth) m (Some (tasks.Repeated t)) node = (node, tasks.Repeated t) ∷ nodes_below depth m (task_named m.tasks t.task) (ToBody t.space ∷ node)

-- all nodes, each with its task
abbrev pub nodes : Model → List (Node × Task)
nodes m = nodes_below (length m.tasks) m (main_task m) []

-- ---- paths

-- a part adds its name, the body of a repetition a star
abbrev pub branch_text : Option Task → Branch → List ℕ
branch_text (Some (tasks.Compound c)) (ToPart k) = unwrap_or (option_map (λ (p : Part). p.name) (slice_get c.parts k)) []
branch_text _ b = codes "*"

-- each step after a `/`
abbrev pub steps_text : Model → Node → List ℕ
steps_text m [] = []
steps_text m (b ∷ up) = steps_text m up ++ codes "/" ++ branch_text (node_task m up) b

-- no steps are `/` alone
abbrev pub root_or : List ℕ → List ℕ
root_or [] = codes "/"
root_or (c ∷ text) = c ∷ text

-- the path of a node, as `/` or `/h/*`
abbrev pub node_path : Model → Node → List ℕ
node_path m node = root_or (steps_text m node)
