use Rattle.std.proofs.Common.{arith}
use Rattle.aol_rules.proofs.NamePlaces.{finds_more}
use Rattle.aol_rules.proofs.agree.names.places_of.Goals as goal

pub loop-place-preserved : goal.loop-place-preserved
loop-place-preserved g c = finds_more g.T.Named.name c.args.list.now c.loop-place.place _ _ c.loop-place.places c.add.new.places c.loop-place.invariant c.in_ok-add.ensures (omega arith) c.name.ensures c.index-list-place.is
