use Rattle.std.proofs.Common.{◌∙◌, ap, get_or, ◌+◌}
use Rattle.std.proofs.Math.ListN.{set}
use Rattle.aol_io.proofs.Over.{over_next}
use Rattle.aol_io.proofs.memory.write_over.Goals as goal

pub loop-k-preserved : goal.loop-k-preserved
loop-k-preserved c = c.set.ensures ∙ ap (λ r. set r (c.args.place + c.loop-k.k) (get_or c.args.piece.now c.loop-k.k 0)) c.loop-k.invariant
    ∙ over_next c.args.room.now c.args.piece.now c.args.place c.loop-k.k c.requires.fits c.loop-k-test.true
