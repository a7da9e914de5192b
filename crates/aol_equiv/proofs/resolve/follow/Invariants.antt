use Rattle.std.specs.List.{sum_by}
use Rattle.aol_equiv.specs.Resolved.{IsPath}
use Rattle.aol_equiv.proofs.Paths.{copying}
use Rattle.aol_equiv.proofs.resolve.follow.Given as goal

abbrev pub invariant-loop-leads : goal.invariant-loop-leads
invariant-loop-leads l = IsPath l.initial.leads l.leads l.path.items l.start l.cell

abbrev pub decreases-loop-leads : goal.decreases-loop-leads
decreases-loop-leads l = sum_by copying l.leads
