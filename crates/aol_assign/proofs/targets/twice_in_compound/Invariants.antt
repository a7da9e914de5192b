use Rattle.std.proofs.Common.{◌≡◌, ◌++◌, drop, map, flat_map, Some, None}
use Rattle.aol_model_types.specs.declared.task.Part.{Part}
use Rattle.aol_model_types.specs.declared.task.Task.TheVariants as tasks
use Rattle.aol_model_types.specs.Rules.{inputs_named}
use Rattle.aol_flat.specs.Node.{Node}
use Rattle.aol_flat.specs.Targets.{reshape_target, node_targets}
use Rattle.aol_assign.specs.Found.{found_in}
use Rattle.aol_assign.proofs.targets.twice_in_compound.Given as goal

abbrev pub invariant-loop-part : goal.invariant-loop-part
invariant-loop-part l =
    (node : Node)
    → found_in (node_targets l.from.model.now (node, tasks.Compound l.task))
    ≡ found_in (flat_map (λ (p : Part). map (reshape_target node l.task (Some p.name)) (inputs_named l.from.model.now.tasks p.task)) (drop l.part-index l.task.parts)
    ++ map (reshape_target node l.task None) l.task.outs)
