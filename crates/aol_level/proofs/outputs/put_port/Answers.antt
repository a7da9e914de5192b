use Rattle.std.proofs.Common.{◌≡◌, ◌+◌, ◌<◌, ◌∙◌, length, take, replicate, sym, ap, subst, refl, arith}
use Rattle.aol_shape.specs.Shape.{IsPointOf, size, rank, point_at}
use Rattle.aol_shape.proofs.Points.{point_at-is, rank-point_at}
use Rattle.aol_flat.specs.InstanceValue.{computed}
use Rattle.aol_level.specs.Puts.{put_from}
use Rattle.aol_level.proofs.Putting.{first_point, kept_below, kept_all, put_more, at_next}
use Rattle.aol_level.proofs.outputs.put_port.Goals as goal

pub loop-x-init : goal.loop-x-init
loop-x-init c = record {
  name = refl;
  cells = refl;
  values = refl;
  point = λ _. ap (λ s. take (length s) (replicate 12 0)) c.as_slice-rank.ensures.entries ∙ first_point c.args.out.now.port.shape 12 c.as_slice-rank.ensures.limits.rank;
}

pub element-val-requires-clause-rank : goal.element-val-requires-clause-rank
element-val-requires-clause-rank c =
    let less : c.loop-x.x < size c.args.out.now.port.shape = omega (arith, c.loop-x-test.true, c.size-x-end.ensures.points) in
    sym (ap (rank c.args.out.now.port.shape) (c.loop-x.invariant.point less) ∙ rank-point_at c.args.out.now.port.shape c.loop-x.x less)

pub next_point-requires : goal.next_point-requires
next_point-requires c =
    let less : c.loop-x.x < size c.args.out.now.port.shape = omega (arith, c.loop-x-test.true, c.size-x-end.ensures.points) in
    subst (IsPointOf c.args.out.now.port.shape) (sym (c.loop-x.invariant.point less)) (point_at-is c.args.out.now.port.shape c.loop-x.x less)

pub loop-x-preserved : goal.loop-x-preserved
loop-x-preserved c =
    let shape = c.args.out.now.port.shape in
    let less : c.loop-x.x < size c.args.out.now.port.shape = omega (arith, c.loop-x-test.true, c.size-x-end.ensures.points) in
    let number : rank c.args.out.now.port.shape c.loop-x.point ≡ c.loop-x.x = ap (rank c.args.out.now.port.shape) (c.loop-x.invariant.point less) ∙ rank-point_at c.args.out.now.port.shape c.loop-x.x less in
    record {
      name = c.put.ensures.same.0 ∙ c.loop-x.invariant.name;
      cells = c.put.ensures.same.1 ∙ c.loop-x.invariant.cells;
      values = put_more (computed c.args.number c.args.task.now c.args.nums.now c.args.k c.args.out.now) c.args.out.now.port.shape c.args.worker
          c.args.share.now.values c.loop-x.share.values c.put.new.self.values c.args.place c.loop-x.x c.element-val.result c.loop-x.invariant.values
          (c.element-val.ensures ∙ ap (computed c.args.number c.args.task.now c.args.nums.now c.args.k c.args.out.now) (c.loop-x.invariant.point less)) c.put.ensures.values;
      point = λ more. at_next c.next_point.result _ _ (c.next_point.ensures.more.1 (omega (arith, number, more))) c.next_point.ensures.next ∙ ap (λ x. point_at c.args.out.now.port.shape (x + 1)) number;
    }

pub returns-clause-values : goal.returns-clause-values
returns-clause-values c =
    let all : c.loop-x.x ≡ size c.args.out.now.port.shape = omega (arith, c.loop-x-test.false, c.loop-x.auto.x-end, c.size-x-end.ensures.points) in
    let f = computed c.args.number c.args.task.now c.args.nums.now c.args.k c.args.out.now in
    c.loop-x.invariant.values
    ∙ ap (λ n. put_from c.args.share.now.values c.args.place (kept_below f c.args.out.now.port.shape c.args.worker n)) all
    ∙ ap (put_from c.args.share.now.values c.args.place) (kept_all f c.args.out.now.port.shape c.args.worker)
