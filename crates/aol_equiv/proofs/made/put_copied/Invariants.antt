use Rattle.std.proofs.Common.{◌≡◌, drop, map}
use Rattle.aol_equiv.specs.Leads.{put_leads, lead_of}
use Rattle.aol_equiv.proofs.made.put_copied.Given as goal

abbrev pub invariant-loop-number : goal.invariant-loop-number
invariant-loop-number l = put_leads l.initial.leads l.cells (map lead_of l.reads) ≡ put_leads l.leads (drop l.number l.cells) (map lead_of (drop l.number l.reads))
