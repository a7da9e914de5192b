-- The leaves of the tiled model.
use Rattle.std.specs.Prelude.{◌≡◌, ℕ, List, [], ◌∷◌, ◌++◌, map, length, drop, Some, option_map, cond}
use Rattle.aol_model_types.specs.declared.document.Model.{Model}
use Rattle.aol_model_types.specs.declared.task.Repeated.{Repeated}
use Rattle.aol_model_types.specs.declared.task.Task.TheVariants as tasks
use Rattle.aol_model_types.specs.Rules.{task_name, task_named}
use Rattle.aol_flat.specs.Accept.{IsSound}
use Rattle.aol_flat.specs.Instance.{Leaf, leaves}
use Rattle.aol_flat.specs.Node.{ToPart, ToBody, Node, space_around, node_task}
use Rattle.aol_change.specs.Change.{is_named}
use Rattle.aol_tiling.specs.Tile.{tiled_model}

-- where a node of the old model stands in the new one: below the task, the body of its repetition is that of one block in a block
abbrev pub new_node : Model → List ℕ → List ℕ → List ℕ → Node → Node
new_node m name outer block [] = []
new_node m name outer block (ToPart k ∷ up) = ToPart k ∷ new_node m name outer block up
new_node m name outer block (ToBody s ∷ up) =
    cond (is_named (option_map task_name (node_task m up)) name) (ToBody block ∷ ToBody outer ∷ new_node m name outer block up) (ToBody s ∷ new_node m name outer block up)

-- the leaf of the new model that an old one is
abbrev pub new_leaf : Model → List ℕ → List ℕ → List ℕ → Leaf → Leaf
new_leaf m name outer block l =
    let node = new_node m name outer block l.node in
    record { node = node; work = l.work; space = space_around node ++ drop (length (space_around l.node)) l.space }

-- the leaves of the tiled model are the old ones in their order
abbrev pub TiledLeaves : Type 0
TiledLeaves =
    (m : Model) (t : Repeated) (outer block : List ℕ) → IsSound m → IsSound (tiled_model m t outer block) → task_named m.tasks t.name ≡ Some (tasks.Repeated t)
    → leaves (tiled_model m t outer block) ≡ map (new_leaf m t.name outer block) (leaves m)
