use Rattle.std.proofs.Common.{length}
use Rattle.aol_cinstance.proofs.ports.+ports.Given as goal

abbrev pub decreases-ports : goal.decreases-ports
decreases-ports l = length l.outs.now
