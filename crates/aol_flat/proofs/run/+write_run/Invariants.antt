use Rattle.std.proofs.Common.{length}
use Rattle.aol_flat.proofs.run.+write_run.Given as goal

abbrev pub decreases-write_run : goal.decreases-write_run
decreases-write_run l = length l.routes.now
