use Rattle.aol_equiv.specs.Resolved.{IsResolvedTo}
use Rattle.aol_equiv.proofs.resolve.resolve.Given as goal

abbrev pub invariant-loop-cell : goal.invariant-loop-cell
invariant-loop-cell l = IsResolvedTo l.cell l.initial.leads l.leads
