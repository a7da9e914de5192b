use Rattle.std.proofs.Common.{◌≡◌, drop, map}
use Rattle.aol_equiv.specs.Leads.{put_leads}
use Rattle.aol_equiv.specs.Table.{made_by}
use Rattle.aol_equiv.proofs.made.put_made.Given as goal

abbrev pub invariant-loop-number : goal.invariant-loop-number
invariant-loop-number l =
    put_leads l.initial.leads l.cells (map (made_by l.instance) l.spots) ≡ put_leads l.leads (drop l.number l.cells) (map (made_by l.instance) (drop l.number l.spots))
