use Rattle.aol_equiv.proofs.Spotting.{rank_added}
use Rattle.aol_equiv.proofs.places.push_port.Goals as goal

pub loop-rank-preserved : goal.loop-rank-preserved
loop-rank-preserved c = rank_added c.args.spots.now.items c.args.port c.loop-rank.rank c.push.new.self.items c.loop-rank.spots.items c.loop-rank.invariant c.in_ok-push.ensures.items
