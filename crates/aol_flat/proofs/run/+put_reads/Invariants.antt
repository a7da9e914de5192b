use Rattle.std.proofs.Common.{length}
use Rattle.aol_flat.proofs.run.+put_reads.Given as goal

abbrev pub decreases-put_reads : goal.decreases-put_reads
decreases-put_reads l = length l.cells.now
