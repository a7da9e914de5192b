use Rattle.std.proofs.Common.{length}
use Rattle.aol_level.proofs.outputs.+put_outputs.Given as goal

abbrev pub decreases-put_outputs : goal.decreases-put_outputs
decreases-put_outputs l = length l.outs.now
