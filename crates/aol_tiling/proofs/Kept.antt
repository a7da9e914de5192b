-- A tiled model keeps the tasks.
use Rattle.std.proofs.Common.{◌≡◌, ℕ, ◌^◌, ◌<◌, Bool, true, false, ◌||◌, List, [], ◌∷◌, Option, Some, None, if◌then◌else◌, sym, ◌∙◌, ap, subst, refl, arith}
use Rattle.aol_shape.specs.Lists.{same}
use Rattle.aol_model_types.specs.declared.document.Model.{Model}
use Rattle.aol_model_types.specs.declared.task.Repeated.{Repeated}
use Rattle.aol_model_types.specs.declared.task.Task.{Task}
use Rattle.aol_model_types.specs.declared.task.Task.TheVariants as tasks
use Rattle.aol_model_types.specs.Rules.{task_named}
use Rattle.aol_flat.specs.Accept.{IsSound}
use Rattle.aol_change.specs.Change.{Changed, Refused, bounded, within_limits, new_name, has_links, have_rank, KeepsTasks}
use Rattle.aol_change.specs.declared.refused.StepRefused.TheVariants.{HasLinks, Rank}
use Rattle.aol_change.proofs.ChangedTasks.{within_changed, bounded_changed}
use Rattle.aol_change.proofs.KeptTasks.{apart_from_main, keeps_tasks}
use Rattle.aol_tiling.specs.Tile.{tiled_model, tiled_task, tile_limit, blocks_task, TiledKeepsTasks}
use Rattle.aol_change.specs.Blocks.{block_task, block_name}

one_apart : (m : Model) (name : List ℕ) → IsSound m → (same (new_name m [] name) m.main || false) ≡ false
one_apart m name sound = let few : 0 < 2 ^ 32 = omega arith in ap (λ b. b || false) (apart_from_main m [] name sound few)

pub tiled_keeps_tasks : TiledKeepsTasks
tiled_keeps_tasks m next name outer block sound h = go (task_named m.tasks name) refl (bounded_changed (tiled_task m (task_named m.tasks name) outer block) next h)
  where
    done : (t : Repeated) → task_named m.tasks name ≡ Some (tasks.Repeated t) → next ≡ tiled_model m t outer block → KeepsTasks m next
    done t e k =
        subst (KeepsTasks m) (sym k)
        (keeps_tasks m name (tasks.Repeated (block_task m t block (block_name m t)) ∷ []) (tasks.Repeated t) (tasks.Repeated (blocks_task t outer block (block_name m t)))
        e refl (λ rest. refl) refl refl refl (one_apart m t.name sound))

    by_rank : (t : Repeated) → task_named m.tasks name ≡ Some (tasks.Repeated t) → (b : Bool)
        → (if b then within_limits (tiled_model m t outer block) (tile_limit m t block) else Refused Rank) ≡ Changed next → KeepsTasks m next
    by_rank t e true k = done t e (within_changed (tiled_model m t outer block) next (tile_limit m t block) k)
    by_rank t e false k = cc

    by_links : (t : Repeated) → task_named m.tasks name ≡ Some (tasks.Repeated t) → (b : Bool)
        → (if b then Refused HasLinks else (if have_rank t outer block then within_limits (tiled_model m t outer block) (tile_limit m t block) else Refused Rank)) ≡ Changed next
        → KeepsTasks m next
    by_links t e true k = cc
    by_links t e false k = by_rank t e (have_rank t outer block) k

    go : (o : Option Task) → task_named m.tasks name ≡ o → tiled_task m o outer block ≡ Changed next → KeepsTasks m next
    go None e k = cc
    go (Some (tasks.Elementary x)) e k = cc
    go (Some (tasks.Compound c)) e k = cc
    go (Some (tasks.Repeated t)) e k = by_links t e (has_links t) k

-- so does the model that the code lays out
pub laid_keeps : (m model next laid : Model) (name outer block : List ℕ) → model ≡ m → IsSound m → tiled_task model (task_named model.tasks name) outer block ≡ Changed next → laid ≡ next
    → bounded (Changed next) ≡ Changed next → KeepsTasks m laid
laid_keeps m model next laid name outer block same sound step is fits =
    tiled_keeps_tasks m laid name outer block sound
    (ap bounded (ap (λ x. tiled_task x (task_named x.tasks name) outer block) (sym same) ∙ step) ∙ (fits ∙ ap (λ x. Changed x) (sym is)))
