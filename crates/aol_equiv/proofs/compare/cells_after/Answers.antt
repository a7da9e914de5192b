use Rattle.aol_equiv.proofs.Spotting.{cell_added}
use Rattle.aol_equiv.proofs.compare.cells_after.Goals as goal

pub loop-number-preserved : goal.loop-number-preserved
loop-number-preserved c = cell_added c.args.first c.loop-number.number c.loop-number.reads.items c.push.new.self.items c.loop-number.invariant c.in_ok-push.ensures.items
