-- How far a walk over the nodes has come without a point that is written twice.
use Rattle.std.specs.Prelude.{◌≡◌, ◌⊎◌, ℕ, ◌<◌, List, [], ◌∷◌, flat_map, map, Bool, true, false, slice_get, slice_index_or, Option, Some, None, Result, Ok, Err}
use Rattle.std.specs.List.{enumerate_from}
use Rattle.aol_shape.specs.Lists.{first_some}
use Rattle.aol_model_types.specs.declared.document.Model.{Model}
use Rattle.aol_model_types.specs.declared.task.Compound.{Compound}
use Rattle.aol_model_types.specs.declared.task.Task.{Task}
use Rattle.aol_model_types.specs.declared.task.Task.TheVariants as tasks
use Rattle.aol_model_types.specs.Rules.{task_named}
use Rattle.aol_flat.specs.Node.{Node, Branch, node_task, nodes_below, node_path, steps_text}
use Rattle.aol_flat.specs.Numbered.{number_named}
use Rattle.aol_flat.specs.Targets.{Twice, target_twice, node_targets}
use Rattle.aol_flat.specs.Walked.{StandsAt, IsStep, AreBelow, nodes_in}
use Rattle.aol_assign.specs.declared.refused.AssignRefused.{AssignRefused}
use Rattle.aol_assign.specs.declared.refused.AssignRefused.TheVariants as refused
use Rattle.aol_assign.specs.declared.targets.Found.{Found}
use Rattle.aol_assign.specs.Found.{found_in}

-- the refusal tells what is found at a node with this path
abbrev pub IsRefusal : List ℕ → Found → AssignRefused → Type 0
IsRefusal path f e = e ≡ refused.Twice path f.part f.port f.repeat.point f.repeat.first f.repeat.second

-- the first point that is written twice at some nodes
abbrev pub twice_at : Model → List (Node × Task) → Option Twice
twice_at m ns = first_some (map target_twice (flat_map (node_targets m) ns))

-- the targets of tasks that are marked are written once at every node
abbrev pub AreTested : Model → List Bool → Type 0
AreTested m tested = (k : ℕ) (t : Task) (node : Node) → slice_index_or tested k false ≡ true → slice_get m.tasks k ≡ Some t → found_in (node_targets m (node, t)) ≡ None

-- the refusal tells the first point that is written twice at some nodes
pub record TellsTwice (m : Model) (ns : List (Node × Task)) (e : AssignRefused) : Type 0 where
  pub twice : Twice
  pub first : twice_at m ns ≡ Some twice
  pub told : e ≡ refused.Twice (node_path m twice.target.node) twice.target.part twice.target.port twice.point twice.first twice.second

-- a walk over some nodes ends so
abbrev pub EndsSo : Model → List (Node × Task) → List Bool → Result (Unit {0}) AssignRefused → Type 0
EndsSo m ns tested (Ok done) = (twice_at m ns ≡ None) × AreTested m tested
EndsSo m ns tested (Err e) = (e ≡ refused.NoMemory) ⊎ TellsTwice m ns e

-- it goes over these nodes
abbrev pub GoesOver : Model → List (Node × Task) → List Bool → List Bool → Result (Unit {0}) AssignRefused → Type 0
GoesOver m ns old new result = AreTested m old → EndsSo m ns new result

-- it tests a node with the task of this number
abbrev pub TestsNode : Model → ℕ → List ℕ → List Bool → List Bool → Result (Unit {0}) AssignRefused → Type 0
TestsNode m number steps old new result = (node : Node) (t : Task) → steps ≡ steps_text m node → slice_get m.tasks number ≡ Some t → GoesOver m ((node, t) ∷ []) old new result

-- it goes over such a node and all that is below
abbrev pub GoesBelow : Model → ℕ → List ℕ → List Bool → List Bool → Result (Unit {0}) AssignRefused → Type 0
GoesBelow m number steps old new result =
    (node : Node) (t : Task) (fuel : ℕ) → steps ≡ steps_text m node → StandsAt m node number t → number < fuel → GoesOver m (nodes_below fuel m (Some t) node) old new result

-- it goes over the node to which a step with this text leads, and all that is below
abbrev pub GoesDown : Model → List ℕ → List ℕ → List ℕ → List Bool → List Bool → Result (Unit {0}) AssignRefused → Type 0
GoesDown m name text steps old new result =
    (node : Node) (branch : Branch) (space : List ℕ) (fuel : ℕ) → steps ≡ steps_text m node → IsStep m node branch name text space → ((j : ℕ) → number_named m.tasks name ≡ Some j → j < fuel)
    → GoesOver m (nodes_below fuel m (task_named m.tasks name) (branch ∷ node)) old new result

-- it goes over the parts of a compound task
abbrev pub GoesOverParts : Model → Compound → List ℕ → List Bool → List Bool → Result (Unit {0}) AssignRefused → Type 0
GoesOverParts m c steps old new result =
    (node : Node) (fuel : ℕ) → steps ≡ steps_text m node → node_task m node ≡ Some (tasks.Compound c) → AreBelow m fuel c.parts
    → GoesOver m (nodes_in fuel m node (enumerate_from 0 c.parts)) old new result
