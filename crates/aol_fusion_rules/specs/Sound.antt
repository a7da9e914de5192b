-- The model that a fusion makes of a sound one is sound.
use Rattle.std.specs.Prelude.{◌≡◌, ℕ, ◌+◌, ◌<◌, ◌^◌, ◌&&◌, Bool, true, nat_lt, List, length}
use Rattle.std.specs.List.{AllByRecursion, list_all}
use Rattle.aol_shape.specs.Shape.{IsShape}
use Rattle.aol_model_types.specs.declared.document.Model.{Model}
use Rattle.aol_model_types.specs.declared.job.FuseArgs.{FuseArgs}
use Rattle.aol_model_types.specs.declared.task.Task.{Task}
use Rattle.aol_model_types.specs.declared.task.Task.TheVariants as tasks
use Rattle.aol_model_types.specs.Rules.{task_named}
use Rattle.aol_model_types.specs.Types.{IsPick}
use Rattle.aol_flat.specs.Accept.{IsSound}
use Rattle.aol_change.specs.Change.{Changed}
use Rattle.aol_fusion_parts.specs.Fuse.{fused_task}

-- a u32 counts the links and the reshapes of a task
abbrev pub is_countable : Task → Bool
is_countable (tasks.Compound c) = nat_lt (length c.links) (2 ^ 32) && nat_lt (length c.reshapes) (2 ^ 32)
is_countable _ = true

-- the fused model of a sound one is sound, where a u32 counts its lists
abbrev pub FusedIsSound : Type 0
FusedIsSound =
    (m next : Model) (name : List ℕ) (args : FuseArgs) → IsSound m → IsShape args.block → AllByRecursion IsPick args.picks → length m.tasks + 4 < 2 ^ 32 → list_all is_countable next.tasks ≡ true
    → fused_task m (task_named m.tasks name) args ≡ Changed next → IsSound next
