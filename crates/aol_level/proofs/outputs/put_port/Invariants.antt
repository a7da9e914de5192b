use Rattle.std.proofs.Common.{◌≡◌, ◌<◌}
use Rattle.aol_shape.specs.Shape.{size, point_at}
use Rattle.aol_flat.specs.InstanceValue.{computed}
use Rattle.aol_level.specs.Puts.{put_from}
use Rattle.aol_level.proofs.Putting.{kept_below}
use Rattle.aol_level.proofs.outputs.put_port.Given as goal

-- the values so far stand in the share, and the point is the next one
abbrev pub invariant-loop-x : goal.invariant-loop-x
invariant-loop-x l = record {
  name : l.share.name ≡ l.fn.share.name;
  cells : l.share.cells ≡ l.fn.share.cells;
  values : l.share.values ≡ put_from l.fn.share.values l.place (kept_below (computed l.number l.task l.nums l.k l.out) l.out.port.shape l.worker l.x);
  point : l.x < size l.out.port.shape → l.point ≡ point_at l.out.port.shape l.x;
}
