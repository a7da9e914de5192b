use Rattle.std.proofs.Common.{length}
use Rattle.aol_tiler.proofs.columns.+wide_entry_at.Given as goal

abbrev pub decreases-wide_entry_at : goal.decreases-wide_entry_at
decreases-wide_entry_at l = length l.columns.now
