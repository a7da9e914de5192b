use Rattle.std.proofs.Common.{length}
use Rattle.aol_trail.proofs.residues.+room.Given as goal

abbrev pub decreases-room : goal.decreases-room
decreases-room l = length l.offset.now
