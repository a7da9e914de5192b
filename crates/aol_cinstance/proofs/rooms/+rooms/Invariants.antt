use Rattle.std.proofs.Common.{length}
use Rattle.aol_cinstance.proofs.rooms.+rooms.Given as goal

abbrev pub decreases-rooms : goal.decreases-rooms
decreases-rooms l = length l.outs.now
