-- How far after a node the nodes of its parts come.
use Rattle.std.specs.Prelude.{◌≡◌, ℕ, suc, ◌+◌, ◌<◌, ◌≤◌, List, [], take, length, get_or, slice_get, Some}
use Rattle.std.specs.List.{IsAmong, enumerate_from}
use Rattle.aol_model_types.specs.declared.document.Model.{Model}
use Rattle.aol_model_types.specs.declared.task.Compound.{Compound}
use Rattle.aol_model_types.specs.declared.task.Part.{Part}
use Rattle.aol_model_types.specs.declared.task.Task.{Task}
use Rattle.aol_model_types.specs.declared.task.Task.TheVariants as tasks
use Rattle.aol_model_types.specs.Rules.{task_named}
use Rattle.aol_flat.specs.Leaves.{narrowed}
use Rattle.aol_flat.specs.Node.{Node, nodes_below}
use Rattle.aol_flat.specs.Numbered.{number_named, inner_names}
use Rattle.aol_flat.specs.Walked.{AreBelow, nodes_in}

-- how many nodes there are at and below each of the first tasks, wherever it stands
abbrev pub AreCounts : Model → List ℕ → Type 0
AreCounts m counts =
    (i fuel : ℕ) (node : Node) (t : Task) → i < length counts → slice_get m.tasks i ≡ Some t → i < fuel
    → get_or counts i 0 ≡ narrowed (length (nodes_below fuel m (Some t) node))

-- a name leads to one of the first tasks, and so many steps down are enough there
abbrev pub IsCountable : Model → List ℕ → ℕ → List ℕ → Type 0
IsCountable m counts fuel name = (j : ℕ) → number_named m.tasks name ≡ Some j → (j < fuel) × (j < length counts)

-- how many there are at and below the task of a name
abbrev pub IsCountNamed : Model → List ℕ → List ℕ → ℕ → Type 0
IsCountNamed m name counts count =
    (fuel : ℕ) (node : Node) → AreCounts m counts → IsCountable m counts fuel name → count ≡ narrowed (length (nodes_below fuel m (task_named m.tasks name) node))

-- how far after a node its part comes, with so many steps down
abbrev pub step_to : ℕ → Model → Node → List Part → ℕ → ℕ
step_to fuel m node parts k = narrowed (1 + length (nodes_in fuel m node (enumerate_from 0 (take k parts))))

-- the steps have this one at a part
abbrev pub IsStepAt : List ℕ → ℕ → ℕ → Type 0
IsStepAt own k step = (k < length own) × (get_or own k 0 ≡ step)

-- how far after a node with these parts each of them comes, and how many nodes there are at and below it
pub record IsStepped (fuel : ℕ) (m : Model) (node : Node) (parts : List Part) (own : List ℕ) (count : ℕ) : Type 0 where
  pub each : (k : ℕ) → k < length parts → IsStepAt own k (step_to fuel m node parts k)
  pub all : count ≡ narrowed (1 + length (nodes_in fuel m node (enumerate_from 0 parts)))

-- so it is for a compound task with these parts, wherever it stands
abbrev pub AreStepsIn : Model → List Part → List ℕ → List ℕ → ℕ → Type 0
AreStepsIn m parts counts own count =
    (fuel : ℕ) (node : Node) → AreCounts m counts → AreBelow m fuel parts → AreBelow m (length counts) parts → IsStepped fuel m node parts own count

-- and for a task: how many nodes there are, and where its parts come
pub record IsSteppedUnder (fuel : ℕ) (m : Model) (node : Node) (t : Task) (own : List ℕ) (count : ℕ) : Type 0 where
  pub each : (c : Compound) (k : ℕ) → t ≡ tasks.Compound c → k < length c.parts → IsStepAt own k (step_to fuel m node c.parts k)
  pub all : count ≡ narrowed (length (nodes_below (suc fuel) m (Some t) node))

-- so it is wherever the task stands
abbrev pub AreStepsUnder : Model → Task → List ℕ → List ℕ → ℕ → Type 0
AreStepsUnder m t counts own count =
    (fuel : ℕ) (node : Node) → AreCounts m counts → ((name : List ℕ) → IsAmong (inner_names t) name → IsCountable m counts fuel name) → IsSteppedUnder fuel m node t own count

-- for each of the first tasks where its parts come
abbrev pub AreStepsBefore : Model → ℕ → List (List ℕ) → Type 0
AreStepsBefore m count steps =
    (i fuel k : ℕ) (node : Node) (c : Compound) → i < count → slice_get m.tasks i ≡ Some (tasks.Compound c) → i ≤ fuel → k < length c.parts
    → IsStepAt (get_or steps i []) k (step_to fuel m node c.parts k)

-- for each task
abbrev pub AreSteps : Model → List (List ℕ) → Type 0
AreSteps m steps = (length steps ≡ length m.tasks) × AreStepsBefore m (length m.tasks) steps
