use Rattle.std.proofs.Common.{arith}
use Rattle.aol_equiv.proofs.Paths.{first_resolved, next_resolved, all_resolved}
use Rattle.aol_equiv.proofs.resolve.resolve.Goals as goal

pub loop-cell-init : goal.loop-cell-init
loop-cell-init c = first_resolved c.args.leads.now c.requires.within

pub loop-cell-preserved : goal.loop-cell-preserved
loop-cell-preserved c = next_resolved c.loop-cell.cell c.args.leads.now c.loop-cell.leads c.walk.new.leads c.loop-cell.invariant c.in_ok-walk.ensures

pub returns : goal.returns
returns c = all_resolved c.loop-cell.cell c.args.leads.now c.loop-cell.leads c.loop-cell.invariant (omega arith)
