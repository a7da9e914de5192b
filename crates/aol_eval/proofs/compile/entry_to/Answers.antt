use Rattle.std.proofs.Common.{refl}
use Rattle.aol_eval.specs.declared.program.Operation.TheVariants.{Entry}
use Rattle.aol_eval.proofs.LineSteps.{if_some-map}
use Rattle.aol_eval.proofs.Programs.{makes-given, pushes-makes}
use Rattle.aol_eval.proofs.compile.entry_to.Goals as goal

pub returns-in-Some : goal.returns-in-Some
returns-in-Some c = makes-given c.args.operations.now c.in-Some.number (Entry c.args.k) _ (λ nums at given. refl) (rw c.as_slice.ensures at c.in-Some.ensures)

pub returns-in-None : goal.returns-in-None
returns-in-None c = if_some-map c.push.result (λ s pushed. pushes-makes _ _ (Entry c.args.k) s _ (λ nums at given. refl) pushed) c.push.ensures
