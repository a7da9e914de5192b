-- The fused model that is laid out keeps the tasks.
use Rattle.std.proofs.Common.{◌≡◌, ℕ, List, sym, ◌∙◌, ap}
use Rattle.aol_model_types.specs.declared.document.Model.{Model}
use Rattle.aol_model_types.specs.declared.job.FuseArgs.{FuseArgs}
use Rattle.aol_model_types.specs.Rules.{task_named}
use Rattle.aol_flat.specs.Accept.{IsSound}
use Rattle.aol_change.specs.Change.{Changed, bounded, KeepsTasks}
use Rattle.aol_fusion_parts.specs.Fuse.{fused_task}
use Rattle.aol_fusion_parts.proofs.Kept.{fused_keeps_tasks}

pub laid_keeps : (m model next laid : Model) (name : List ℕ) (args : FuseArgs) → model ≡ m → IsSound m → fused_task model (task_named model.tasks name) args ≡ Changed next → laid ≡ next
    → bounded (Changed next) ≡ Changed next → KeepsTasks m laid
laid_keeps m model next laid name args same sound step is fits =
    fused_keeps_tasks m laid name args sound
    (ap bounded (ap (λ x. fused_task x (task_named x.tasks name) args) (sym same) ∙ step) ∙ (fits ∙ ap (λ x. Changed x) (sym is)))
