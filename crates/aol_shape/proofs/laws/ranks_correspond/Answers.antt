use Rattle.aol_shape.proofs.Points.{rank-lt-size, point_at-rank, point_at-is, rank-point_at}
use Rattle.aol_shape.proofs.laws.ranks_correspond.Goals as goal

pub returns : goal.returns
returns c = (λ shape point p. (rank-lt-size shape point p, point_at-rank shape point p), λ shape x h. (point_at-is shape x h, rank-point_at shape x h))
