-- How far a walk of the hierarchy in preorder has come.
use Rattle.std.specs.Prelude.{◌≡◌, ◌⊎◌, ℕ, ◌+◌, ◌<◌, List, [], ◌∷◌, ◌++◌, length, slice_get, flat_map, map, Some, Result, Ok, Err, string_bytes}
use Rattle.std.specs.List.{enumerate_from}
use Rattle.aol_shape.specs.declared.limit.LimitName.{LimitName}
use Rattle.aol_model_types.specs.declared.document.Model.{Model}
use Rattle.aol_model_types.specs.declared.task.Compound.{Compound}
use Rattle.aol_model_types.specs.declared.task.Copied.{Copied}
use Rattle.aol_model_types.specs.declared.task.Part.{Part}
use Rattle.aol_model_types.specs.declared.task.Task.{Task}
use Rattle.aol_model_types.specs.declared.task.Task.TheVariants as tasks
use Rattle.aol_model_types.specs.Rules.{task_name, task_named}
use Rattle.aol_flat.specs.declared.refused.FlatRefused.{FlatRefused}
use Rattle.aol_flat.specs.declared.refused.FlatRefused.TheVariants.{Limit, NoMemory}
use Rattle.aol_flat.specs.declared.spot.Spot.{Spot}
use Rattle.aol_flat.specs.declared.walk.Walk.{Walk}
use Rattle.aol_flat.specs.Counted.{first_after}
use Rattle.aol_flat.specs.Instance.{Leaf, Computes, leaves_below, reshape_leaf}
use Rattle.aol_flat.specs.Leaves.{rows_after, instances_of}
use Rattle.aol_flat.specs.Limits.{first_past}
use Rattle.aol_flat.specs.Node.{Node, Branch, ToPart, space_around, node_task, nodes_below, branch_text, steps_text, node_path}
use Rattle.aol_flat.specs.Numbered.{number_named}
use Rattle.aol_flat.specs.Saturated.{saturated}

-- what a walk keeps of a node: its depth, the spaces around it, and its path without the root's `/`
pub record IsSpot (m : Model) (node : Node) (spot : Spot) : Type 0 where
  pub depth : spot.depth ≡ length node + 1
  pub space : spot.space ≡ space_around node
  pub path : string_bytes spot.path ≡ steps_text m node

-- the task with this number stands at a node
pub record StandsAt (m : Model) (node : Node) (number : ℕ) (t : Task) : Type 0 where
  pub at_node : node_task m node ≡ Some t
  pub listed : slice_get m.tasks number ≡ Some t
  pub first : number_named m.tasks (task_name t) ≡ Some number

-- a walk has gone over these nodes and these leaves, and no limit is passed so far
pub record HasPassed (m : Model) (nodes : List (Node × Task)) (leaves : List Leaf) (walk : Walk) : Type 0 where
  pub counts : (rest : List (Node × Task)) → first_past 0 0 0 (nodes ++ rest) ≡ first_after walk.counts rest
  pub instances : walk.instances ≡ saturated (instances_of leaves)
  pub rows : walk.leaves ≡ rows_after m 0 leaves

-- a limit is passed at one of these nodes, and the refusal tells it
pub record PassesLimit (m : Model) (nodes : List (Node × Task)) (e : FlatRefused) : Type 0 where
  pub node : Node
  pub limit : LimitName
  pub told : e ≡ Limit (node_path m node) limit
  pub first : (rest : List (Node × Task)) → first_past 0 0 0 (nodes ++ rest) ≡ Some (node, limit)

-- a walk over all these nodes and leaves ends so
abbrev pub EndsSo : Model → List (Node × Task) → List Leaf → Walk → Result (Unit {0}) FlatRefused → Type 0
EndsSo m nodes leaves walk (Ok done) = HasPassed m nodes leaves walk
EndsSo m nodes leaves walk (Err e) = (e ≡ NoMemory) ⊎ PassesLimit m nodes e

-- the walk goes on over these nodes and leaves
abbrev pub GoesOver : Model → List (Node × Task) → List Leaf → Walk → Walk → Result (Unit {0}) FlatRefused → Type 0
GoesOver m more more_leaves old new result =
    (before : List (Node × Task)) (leaves : List Leaf) → HasPassed m before leaves old → EndsSo m (before ++ more) (leaves ++ more_leaves) new result

-- it goes on over a node with the task of this number and all that is below
abbrev pub GoesBelow : Model → ℕ → Spot → Walk → Walk → Result (Unit {0}) FlatRefused → Type 0
GoesBelow m number spot old new result =
    (node : Node) (t : Task) (fuel : ℕ) → IsSpot m node spot → StandsAt m node number t → number < fuel
    → GoesOver m (nodes_below fuel m (Some t) node) (leaves_below fuel m (Some t) node) old new result

-- a step down from a node leads to the task of this name, adds this text to its path, and these entries to its spaces
pub record IsStep (m : Model) (node : Node) (branch : Branch) (name text space : List ℕ) : Type 0 where
  pub task : node_task m (branch ∷ node) ≡ task_named m.tasks name
  pub text_is : branch_text (node_task m node) branch ≡ text
  pub around : space_around (branch ∷ node) ≡ space_around node ++ space

-- it goes on over the node to which such a step leads, and all that is below
abbrev pub GoesDown : Model → List ℕ → List ℕ → List ℕ → Spot → Walk → Walk → Result (Unit {0}) FlatRefused → Type 0
GoesDown m name text space spot old new result =
    (node : Node) (branch : Branch) (fuel : ℕ) → IsSpot m node spot → IsStep m node branch name text space → ((j : ℕ) → number_named m.tasks name ≡ Some j → j < fuel)
    → GoesOver m (nodes_below fuel m (task_named m.tasks name) (branch ∷ node)) (leaves_below fuel m (task_named m.tasks name) (branch ∷ node)) old new result

-- the nodes at and below the parts of a compound task, each part with its number
abbrev pub nodes_in : ℕ → Model → Node → List (ℕ × Part) → List (Node × Task)
nodes_in fuel m node parts = flat_map (λ (p : ℕ × Part). nodes_below fuel m (task_named m.tasks p.1.task) (ToPart p.0 ∷ node)) parts

-- their leaves
abbrev pub leaves_in : ℕ → Model → Node → List (ℕ × Part) → List Leaf
leaves_in fuel m node parts = flat_map (λ (p : ℕ × Part). leaves_below fuel m (task_named m.tasks p.1.task) (ToPart p.0 ∷ node)) parts

-- each name leads to a task with a lower number
abbrev pub AreBelow : Model → ℕ → List Part → Type 0
AreBelow m fuel parts = (k j : ℕ) (p : Part) → slice_get parts k ≡ Some p → number_named m.tasks p.task ≡ Some j → j < fuel

-- it goes on over the parts of a compound task at a node
abbrev pub GoesOverParts : Model → Compound → Spot → Walk → Walk → Result (Unit {0}) FlatRefused → Type 0
GoesOverParts m c spot old new result =
    (node : Node) (fuel : ℕ) → IsSpot m node spot → node_task m node ≡ Some (tasks.Compound c) → AreBelow m fuel c.parts
    → GoesOver m (nodes_in fuel m node (enumerate_from 0 c.parts)) (leaves_in fuel m node (enumerate_from 0 c.parts)) old new result

-- it goes on over the one leaf of a node with an elementary task of this number
abbrev pub GoesOverRun : ℕ → Spot → Walk → Walk → Result (Unit {0}) FlatRefused → Type 0
GoesOverRun number spot old new result =
    (m : Model) (node : Node) (t : Task) → IsSpot m node spot → StandsAt m node number t
    → GoesOver m [] (record { node = node; work = Computes; space = space_around node } ∷ []) old new result

-- it goes on over the leaf of a reshape with this number at a node
abbrev pub GoesOverCopy : ℕ → Copied → Spot → Walk → Walk → Result (Unit {0}) FlatRefused → Type 0
GoesOverCopy number r spot old new result =
    (m : Model) (node : Node) → IsSpot m node spot → GoesOver m [] (reshape_leaf node (number, r) ∷ []) old new result

-- it goes on over the leaves of some reshapes at a node
abbrev pub GoesOverCopies : List Copied → Spot → Walk → Walk → Result (Unit {0}) FlatRefused → Type 0
GoesOverCopies reshapes spot old new result =
    (m : Model) (node : Node) → IsSpot m node spot → GoesOver m [] (map (reshape_leaf node) (enumerate_from 0 reshapes)) old new result
