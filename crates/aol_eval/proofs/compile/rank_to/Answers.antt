use Rattle.aol_eval.proofs.LineSteps.{if_some-map}
use Rattle.aol_eval.proofs.Programs.{pushes-rank}
use Rattle.aol_eval.proofs.compile.rank_to.Goals as goal

pub returns-in_default : goal.returns-in_default
returns-in_default c = if_some-map c.push.result (λ s pushed. pushes-rank c.args.operations.now c.push.new.operations c.args.entry c.args.rank c.args.index s c.requires.rank c.requires.index pushed) c.push.ensures
