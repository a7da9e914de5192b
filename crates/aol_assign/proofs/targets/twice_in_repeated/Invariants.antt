use Rattle.std.proofs.Common.{◌≡◌, drop, map, Some}
use Rattle.aol_model_types.specs.declared.document.Model.{Model}
use Rattle.aol_model_types.specs.Rules.{task_named}
use Rattle.aol_flat.specs.Node.{Node}
use Rattle.aol_flat.specs.Targets.{output_target}
use Rattle.aol_assign.specs.Found.{found_in}
use Rattle.aol_assign.proofs.targets.twice_in_repeated.Given as goal

abbrev pub invariant-loop-output : goal.invariant-loop-output
invariant-loop-output l =
    (m : Model) (node : Node) → task_named m.tasks l.task.task ≡ Some l.inner
    → found_in (map (output_target m node l.task) l.task.outs) ≡ found_in (map (output_target m node l.task) (drop l.output-index l.task.outs))
