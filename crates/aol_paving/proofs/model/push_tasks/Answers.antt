use Rattle.std.proofs.Common.{ap, ◌∙◌}
use Rattle.aol_model_types.specs.Rules.{task_named}
use Rattle.aol_paving.proofs.Meets.{meet_ins, meet_outs}
use Rattle.aol_paving.proofs.model.push_tasks.Goals as goal

pub push_levels-requires-clause-inputs : goal.push_levels-requires-clause-inputs
push_levels-requires-clause-inputs c =
    meet_ins c.args.model.now c.args.task.now c.args.inner.now c.args.args.now.outer c.args.args.now.block c.requires.sound c.requires.found c.requires.below c.requires.plain c.requires.inner_plain c.requires.rank
    _ c.as_slice-2.result.now _ _ (c.task_named-innermost.ensures ∙ ap (λ ts. task_named ts c.args.inner.now.task) c.as_slice.ensures) c.as_slice-2.ensures c.in_ok-push_inputs.ensures c.new-ins.ensures

pub push_levels-requires-clause-outputs : goal.push_levels-requires-clause-outputs
push_levels-requires-clause-outputs c =
    meet_outs c.args.model.now c.args.task.now c.args.inner.now c.args.args.now.outer c.args.args.now.block c.requires.sound c.requires.found c.requires.below c.requires.plain c.requires.inner_plain c.requires.rank
    _ c.as_slice-3.result.now _ _ (c.task_named-innermost.ensures ∙ ap (λ ts. task_named ts c.args.inner.now.task) c.as_slice.ensures) c.as_slice-3.ensures c.in_ok-push_outputs.ensures c.new-outs.ensures
