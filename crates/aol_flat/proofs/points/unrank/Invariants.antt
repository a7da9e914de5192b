use Rattle.std.proofs.Common.{take, drop}
use Rattle.aol_shape.specs.Shape.{point_at}
use Rattle.aol_flat.proofs.Unranking.{Unranks}
use Rattle.aol_flat.proofs.points.unrank.Given as goal

-- the indices so far, and those of what is left, are the point
abbrev pub invariant-loop-k : goal.invariant-loop-k
invariant-loop-k l = Unranks (drop l.k l.entries) (take l.k l.point) (point_at l.entries l.fn.x) l.after l.x
