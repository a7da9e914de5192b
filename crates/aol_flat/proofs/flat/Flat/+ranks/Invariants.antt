use Rattle.std.proofs.Common.{◌+◌, ◌*◌}
use Rattle.aol_flat.proofs.flat.Flat.+ranks.Given as goal

abbrev pub decreases-rank_around : goal.decreases-rank_around
decreases-rank_around l = 2 * l.number + 1

abbrev pub decreases-rank_below : goal.decreases-rank_below
decreases-rank_below l = 2 * l.body.number
