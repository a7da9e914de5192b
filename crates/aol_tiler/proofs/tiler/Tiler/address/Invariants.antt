use Rattle.aol_tiler.specs.Tiler.{place}
use Rattle.aol_tiler.proofs.Ranked.{Ranked}
use Rattle.aol_tiler.proofs.tiler.Tiler.address.Given as goal

abbrev pub invariant-loop-k : goal.invariant-loop-k
invariant-loop-k l = Ranked l.array (place l.self l.r l.i) l.k l.rank
