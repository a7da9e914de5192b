-- The old numbers are the map of a fusion.
use Rattle.std.specs.Prelude.{◌≡◌, ℕ, ◌+◌, ◌<◌, ◌^◌, List, length, Some}
use Rattle.std.specs.List.{AllByRecursion}
use Rattle.aol_shape.specs.Shape.{IsShape}
use Rattle.aol_model_types.specs.declared.document.Model.{Model}
use Rattle.aol_model_types.specs.declared.job.FuseArgs.{FuseArgs}
use Rattle.aol_model_types.specs.declared.task.Compound.{Compound}
use Rattle.aol_model_types.specs.declared.task.Repeated.{Repeated}
use Rattle.aol_model_types.specs.declared.task.Task.TheVariants as tasks
use Rattle.aol_model_types.specs.Rules.{task_named}
use Rattle.aol_model_types.specs.Types.{IsPick}
use Rattle.aol_flat.specs.Accept.{IsSound}
use Rattle.aol_flat.specs.Keep.{AreAlike}
use Rattle.aol_change.specs.Change.{Changed, IsMapOf}
use Rattle.aol_fusion_parts.specs.Fuse.{fusing, fuse}
use Rattle.aol_fusion_parts.specs.Joined.{task_of_part}
use Rattle.aol_fusion.specs.Map.{fused_from}
use Rattle.aol_fusion.specs.Numbers.{fused_numbers}

-- they are the map of the fused model, and each instance runs the task that the old one runs
pub record AreTold (m next : Model) (name : List ℕ) (args : FuseArgs) (numbers : List ℕ) : Type 0 where
  pub map : IsMapOf m next (fused_from (task_named m.tasks name) m args next) numbers
  pub alike : AreAlike m next numbers

-- the fused model of a sound one has its map by the old numbers
abbrev pub OldNumbersAreTold : Type 0
OldNumbersAreTold =
    (m next : Model) (name : List ℕ) (args : FuseArgs) (c : Compound) (one two : Repeated) → IsSound m → IsShape args.block → AllByRecursion IsPick args.picks → length m.tasks + 4 < 2 ^ 32 → fuse m name args ≡ Changed next
    → task_named m.tasks name ≡ Some (tasks.Compound c) → task_of_part m.tasks c args.first ≡ Some (tasks.Repeated one) → task_of_part m.tasks c args.second ≡ Some (tasks.Repeated two) → AreTold m next name args (fused_numbers (fusing m c one two args) next)
