use Rattle.aol_eval.proofs.LineSteps.{if_some-map}
use Rattle.aol_eval.proofs.Programs.{pushes-apply}
use Rattle.aol_eval.proofs.compile.apply_to.Goals as goal

pub returns-in_default : goal.returns-in_default
returns-in_default c = if_some-map c.push.result (λ s pushed. pushes-apply c.args.operations.now c.push.new.operations c.operation_of.result c.args.op c.args.left c.args.right s c.operation_of.ensures c.requires.left c.requires.right pushed) c.push.ensures
