use Rattle.std.proofs.Common.{◌≡◌, drop}
use Rattle.aol_equiv.specs.Leads.{set_each}
use Rattle.aol_equiv.proofs.resolve.settle.Given as goal

abbrev pub invariant-loop-cell : goal.invariant-loop-cell
invariant-loop-cell l = set_each l.initial.leads l.path l.lead ≡ set_each l.leads (drop l.cell-index l.path) l.lead
