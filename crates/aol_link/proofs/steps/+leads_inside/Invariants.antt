use Rattle.std.proofs.Common.{length}
use Rattle.aol_link.proofs.steps.+leads_inside.Given as goal

abbrev pub decreases-leads_inside : goal.decreases-leads_inside
decreases-leads_inside l = length l.space.now
