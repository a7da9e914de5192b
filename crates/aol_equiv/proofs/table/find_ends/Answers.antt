use Rattle.aol_equiv.proofs.Ended.{all_ends}
use Rattle.aol_equiv.proofs.MainLeads.{led_within}
use Rattle.aol_equiv.proofs.table.find_ends.Goals as goal

pub resolve-requires-clause-within : goal.resolve-requires-clause-within
resolve-requires-clause-within c = led_within c.args.flat.now c.lead_all.new.leads c.in_ok-lead_all.ensures

pub returns : goal.returns
returns c = all_ends c.args.flat.now c.requires.flat.sound c.requires.single c.lead_all.new.leads c.in_ok-lead_all.ensures c.resolve.new.leads c.in_ok-resolve.ensures
