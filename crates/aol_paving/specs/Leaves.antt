-- The leaves of the paved model.
use Rattle.std.specs.Prelude.{◌≡◌, ℕ, Bool, false, List, [], ◌∷◌, ◌++◌, map, length, drop, Some, option_map, cond}
use Rattle.aol_model_types.specs.declared.document.Model.{Model}
use Rattle.aol_model_types.specs.declared.task.Repeated.{Repeated}
use Rattle.aol_model_types.specs.declared.task.Task.TheVariants as tasks
use Rattle.aol_model_types.specs.Rules.{task_name, task_named}
use Rattle.aol_flat.specs.Accept.{IsSound}
use Rattle.aol_flat.specs.Instance.{Leaf, leaves}
use Rattle.aol_flat.specs.Node.{ToPart, ToBody, Node, space_around, node_task}
use Rattle.aol_change.specs.Change.{is_named}
use Rattle.aol_paving.specs.Pave.{paved_model}

-- the task at a node has this name
abbrev pub is_at : Model → List ℕ → Node → Bool
is_at m name node = is_named (option_map task_name (node_task m node)) name

-- a node is the body of the task of this name
abbrev pub is_body_of : Model → List ℕ → Node → Bool
is_body_of m name [] = false
is_body_of m name (ToPart k ∷ up) = false
is_body_of m name (ToBody s ∷ up) = is_at m name up

-- where a node of the old model stands in the new one: the body of the task is that of the blocks, and the body inside it has a block more
abbrev pub new_node : Model → List ℕ → List ℕ → List ℕ → Node → Node
new_node m name outer block [] = []
new_node m name outer block (ToPart k ∷ up) = ToPart k ∷ new_node m name outer block up
new_node m name outer block (ToBody s ∷ up) = ToBody (cond (is_at m name up) outer (cond (is_body_of m name up) (block ++ s) s)) ∷ new_node m name outer block up

-- the leaf of the new model that an old one is
abbrev pub new_leaf : Model → List ℕ → List ℕ → List ℕ → Leaf → Leaf
new_leaf m name outer block l =
    let node = new_node m name outer block l.node in
    record { node = node; work = l.work; space = space_around node ++ drop (length (space_around l.node)) l.space }

-- the leaves of the paved model are the old ones in their order
abbrev pub PavedLeaves : Type 0
PavedLeaves =
    (m : Model) (t u : Repeated) (outer block : List ℕ) → IsSound m → IsSound (paved_model m t u outer block) → task_named m.tasks t.name ≡ Some (tasks.Repeated t) → task_named m.tasks t.task ≡ Some (tasks.Repeated u)
    → leaves (paved_model m t u outer block) ≡ map (new_leaf m t.name outer block) (leaves m)
