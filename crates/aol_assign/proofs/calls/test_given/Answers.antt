use Rattle.std.proofs.Common.{subst}
use Rattle.aol_assign.specs.Holes.{AreWrittenFrom}
use Rattle.aol_assign.proofs.AllWritten.{all_given}
use Rattle.aol_assign.proofs.calls.test_given.Goals as goal

pub returns-then-are_written : goal.returns-then-are_written
returns-then-are_written c =
    let f = c.args.flat.now in
    let flat = c.model.ensures.flat in
    all_given f flat.sound flat.laid c.requires.single c.args.found.now c.requires.writers c.in_ok-inputs.inputs c.in_ok-inputs.ensures
    (subst (AreWrittenFrom c.in_ok-inputs.inputs) c.list.ensures (c.are_written.ensures c.if-are_written.true))
