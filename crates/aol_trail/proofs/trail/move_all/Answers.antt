use Rattle.std.proofs.Common.{arith}
use Rattle.aol_trail.proofs.Trails.{moved_one}
use Rattle.aol_trail.proofs.trail.move_all.Goals as goal

pub loop-k-preserved : goal.loop-k-preserved
loop-k-preserved c = moved_one c.args.at.now c.args.levels.now c.loop-k.levels c.loop-k.k c.go_to.new.self c.index-levels-k.result (omega (arith, c.loop-k-test.true)) c.loop-k.invariant c.go_to.ensures
