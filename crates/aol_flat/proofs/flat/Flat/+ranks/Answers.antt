use Rattle.std.proofs.Common.{rules, ◌≡◌, ◌+◌, ◌*◌, ◌∷◌, ◌++◌, ◌∙◌, length, sym, ap, subst, arith}
use Rattle.aol_shape.specs.Shape.{IsPointOf, rank, size}
use Rattle.aol_shape.proofs.Points.{rank-lt-size}
use Rattle.aol_model_types.specs.declared.task.Task.{Task}
use Rattle.aol_model_types.specs.declared.task.Task.TheVariants as tasks
use Rattle.aol_flat.specs.Node.{Node, ToBody, space_around}
use Rattle.aol_flat.specs.NodeTable.{IsNode}
use Rattle.aol_flat.proofs.Few.{space_few}
use Rattle.aol_flat.proofs.Inside.{point_both}
use Rattle.aol_flat.proofs.Repetitions.{reached_body, reached_part, body_longer, repetition_split, rank_of_repetition}
use Rattle.aol_flat.proofs.flat.Flat.+ranks.Goals as goal

pub rank_around-overflow_sub-at : goal.rank_around-overflow_sub-at
rank_around-overflow_sub-at t c =
    let m = c.args.self.now.model in
    let above = c.task.ensures.task in
    let P : Task → Type 0 = λ x. IsNode m c.row-up.result.up above.0 x in
    let b = reached_body m c.task.ensures.flat.sound c.args.number c.row-up.result c.requires.0 c.requires.1 c.if-number-eq0.false c.row-up.ensures c.requires.2 c.in-Repeated.task above.0 (subst P c.in-Repeated.is above.1) in
    let longer = body_longer c.args.number c.row-up.result.up c.requires.0 above.0 c.in-Repeated.task c.args.at.now b c.requires.3 in
    omega (arith, longer, ap length c.as_slice.ensures.entries)

pub rank_around-rank_below-requires : goal.rank_around-rank_below-requires
rank_around-rank_below-requires t c =
    let m = c.args.self.now.model in
    let above = c.task.ensures.task in
    let P : Task → Type 0 = λ x. IsNode m c.row-up.result.up above.0 x in
    let b = reached_body m c.task.ensures.flat.sound c.args.number c.row-up.result c.requires.0 c.requires.1 c.if-number-eq0.false c.row-up.ensures c.requires.2 c.in-Repeated.task above.0 (subst P c.in-Repeated.is above.1) in
    let low = b.lower in (
      search rules,
      (
        repetition_split m c.args.number c.row-up.result.up (length c.as_slice.result.now) c.requires.0 above.0 c.requires.1 c.in-Repeated.task c.args.at.now c.split_at.result.0.now c.split_at.result.1.now
            c.requires.2 (subst P c.in-Repeated.is above.1) b c.requires.3 (ap length c.as_slice.ensures.entries) c.split_at.ensures.front c.split_at.ensures.back,
        c.task.ensures.flat,
      ),
    )

pub rank_around-rank_around-requires : goal.rank_around-rank_around-requires
rank_around-rank_around-requires t c =
    let m = c.args.self.now.model in
    let above = c.task.ensures.task in
    let p = reached_part m c.task.ensures.flat.sound c.args.number c.row-up.result c.requires.0 c.requires.1 c.if-number-eq0.false c.row-up.ensures c.requires.2 c.task.result.now above.0 c.in_default.not-Repeated above.1 in
    let P : Node → Type 0 = λ n. IsPointOf (space_around n) c.args.at.now in
    let low = p.lower in
    (search rules, (above.0, c.task.result.now, above.1, subst P p.is c.requires.3))

pub rank_around-returns-in_default : goal.rank_around-returns-in_default
rank_around-returns-in_default t c = λ node u at.
    let m = c.args.self.now.model in
    let above = c.task.ensures.task in
    let p = reached_part m c.task.ensures.flat.sound c.args.number c.row-up.result node u c.if-number-eq0.false c.row-up.ensures at c.task.result.now above.0 c.in_default.not-Repeated above.1 in
    c.rank_around.ensures above.0 c.task.result.now above.1 ∙ sym (ap (λ n. rank (space_around n) c.args.at.now) p.is)

pub rank_below-place_in-requires : goal.rank_below-place_in-requires
rank_below-place_in-requires t c =
    let m = c.args.self.now.model in
    let b = c.args.body in
    let p = c.requires.place in
    let whole = rank_of_repetition m b.number b.up b.task.now b.around.now b.r.now p (ToBody b.task.now.space ∷ p.node) p.inner p.at_body in
    let small = rank-lt-size (space_around p.node ++ b.task.now.space) (b.around.now ++ b.r.now) (point_both (space_around p.node) b.task.now.space b.around.now b.r.now p.around_inside p.inside) in
    let few = space_few m c.requires.flat.sound c.requires.flat.limits b.number (ToBody b.task.now.space ∷ p.node) p.inner p.at_body in
    let here : c.rank_around.result * size b.task.now.space + c.rank_of.result ≡ rank (space_around p.node ++ b.task.now.space) (b.around.now ++ b.r.now) =
    ap (λ z. z * size b.task.now.space + c.rank_of.result) (c.rank_around.ensures p.node (tasks.Repeated b.task.now) p.at_up)
    ∙ (ap (λ z. rank (space_around p.node) b.around.now * size b.task.now.space + z) c.rank_of.ensures.rank ∙ sym whole) in
    omega (arith, here, small, few)

pub rank_below-returns : goal.rank_below-returns
rank_below-returns t c = λ node u at.
    let m = c.args.self.now.model in
    let b = c.args.body in
    let p = c.requires.place in
    let whole = rank_of_repetition m b.number b.up b.task.now b.around.now b.r.now p node u at in
    c.place_in.ensures
    ∙ (ap (λ z. z * size b.task.now.space + c.rank_of.result) (c.rank_around.ensures p.node (tasks.Repeated b.task.now) p.at_up)
    ∙ (ap (λ z. rank (space_around p.node) b.around.now * size b.task.now.space + z) c.rank_of.ensures.rank ∙ sym whole))
