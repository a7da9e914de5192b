use Rattle.std.proofs.Common.{sym, ◌∙◌}
use Rattle.aol_flat.proofs.Positions.{number_found, number_there}
use Rattle.aol_flat.proofs.feed.port_number.Goals as goal

pub unreachable-requires : goal.unreachable-requires
unreachable-requires c = number_there c.args.ports.now c.args.name.now (sym c.place_of.ensures ∙ c.in-None.is) c.requires.there

pub returns : goal.returns
returns c = number_found c.args.ports.now c.args.name.now c.in-Some.number (sym c.place_of.ensures ∙ c.in-Some.is)
