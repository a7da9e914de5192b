use Rattle.std.proofs.Common.{length}
use Rattle.aol_flat.proofs.instance.+inputs_hold.Given as goal

abbrev pub decreases-inputs_hold : goal.decreases-inputs_hold
decreases-inputs_hold l = length l.ports.now
