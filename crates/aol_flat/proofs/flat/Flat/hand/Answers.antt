use Rattle.std.proofs.Common.{◌≡◌, ◌<◌, ◌∙◌, length, sym, ap, subst}
use Rattle.aol_expr_tree.specs.declared.port.Port.{Port}
use Rattle.aol_model_types.specs.declared.task.Task.{Task}
use Rattle.aol_model_types.specs.declared.task.Task.TheVariants as tasks
use Rattle.aol_model_types.specs.Rules.{outputs_of}
use Rattle.aol_model_types.specs.Types.{IsTask}
use Rattle.aol_flat.specs.Node.{task_under}
use Rattle.aol_flat.specs.Feed.{PartHands, BodyHands}
use Rattle.aol_flat.proofs.Among.{among_get}
use Rattle.aol_flat.proofs.Checked.{IsTaskOf}
use Rattle.aol_flat.proofs.Hands.{hands_to_outputs, tiles_outputs, to_body, no_step, part_hands, body_hands}
use Rattle.aol_flat.proofs.NodeAt.{one_node, is_under, above_same, task_known, limits_known, read_port}
use Rattle.aol_flat.proofs.flat.Flat.hand.Goals as goal

pub part_hand-requires-clause-there : goal.part_hand-requires-clause-there
part_hand-requires-clause-there c =
    let m = c.args.self.now.model in
    let above = c.task-2.ensures.task in
    hands_to_outputs m c.task.ensures.flat.sound c.in-Compound.up (subst (IsTaskOf m) c.in-Compound.is (task_known m c.task.ensures.flat.sound c.row-row.result.up above.0 c.task-2.result.now above.1))

pub part_hand-requires-clause-few : goal.part_hand-requires-clause-few
part_hand-requires-clause-few c =
    let m = c.args.self.now.model in
    let above = c.task-2.ensures.task in
    (subst IsTask c.in-Compound.is (limits_known m c.task.ensures.flat.sound c.row-row.result.up above.0 c.task-2.result.now above.1)).out_count

pub body_hand-requires-clause-there : goal.body_hand-requires-clause-there
body_hand-requires-clause-there c =
    let m = c.args.self.now.model in
    let sound = c.task.ensures.flat.sound in
    let above = c.task-2.ensures.task in
    let here = c.task.ensures.task in
    let t = c.task.result.now in
    let r = c.in-Repeated.up in
    let u = is_under m sound c.args.number c.row-row.result here.0 t c.if-number-eq0.false c.row-row.ensures here.1 in
    let is : u.above ≡ tasks.Repeated r = above_same m c.args.number c.row-row.result here.0 above.0 t c.task-2.result.now u above.1 ∙ c.in-Repeated.is in
    let b = to_body m r u.branch t (sym (ap (λ a. task_under m a u.branch) is) ∙ u.leads) in
    let same_task : c.requires.1 ≡ t = (one_node m c.args.number c.requires.0 here.0 c.requires.1 t c.requires.2 here.1).1 in
    let P : Task → Type 0 = λ x. c.args.port < length (outputs_of x) in
    tiles_outputs m sound r t c.output.result.now c.args.port
    (subst (IsTaskOf m) c.in-Repeated.is (task_known m sound c.row-row.result.up above.0 c.task-2.result.now above.1))
    (task_known m sound c.args.number here.0 t here.1) b.2
    (among_get (outputs_of t) c.args.port c.output.result.now (subst P same_task c.requires.3) c.output.ensures)

pub body_hand-requires-clause-tilers : goal.body_hand-requires-clause-tilers
body_hand-requires-clause-tilers c =
    let m = c.args.self.now.model in
    let above = c.task-2.ensures.task in
    (subst IsTask c.in-Repeated.is (limits_known m c.task.ensures.flat.sound c.row-row.result.up above.0 c.task-2.result.now above.1)).tiler_count

pub body_hand-requires-clause-few : goal.body_hand-requires-clause-few
body_hand-requires-clause-few c =
    let m = c.args.self.now.model in
    let above = c.task-2.ensures.task in
    (subst IsTask c.in-Repeated.is (limits_known m c.task.ensures.flat.sound c.row-row.result.up above.0 c.task-2.result.now above.1)).out_count

pub unreachable-requires : goal.unreachable-requires
unreachable-requires c =
    let m = c.args.self.now.model in
    let above = c.task-2.ensures.task in
    let here = c.task.ensures.task in
    let t = c.task.result.now in
    let u = is_under m c.task.ensures.flat.sound c.args.number c.row-row.result here.0 t c.if-number-eq0.false c.row-row.ensures here.1 in
    let is : u.above ≡ tasks.Elementary c.in-Elementary.field-0 = above_same m c.args.number c.row-row.result here.0 above.0 t c.task-2.result.now u above.1 ∙ c.in-Elementary.is in
    no_step m c.in-Elementary.field-0 u.branch t (sym (ap (λ a. task_under m a u.branch) is) ∙ u.leads)

pub returns-in-Compound : goal.returns-in-Compound
returns-in-Compound c = record {
  hand = λ node t p at listed.
      let m = c.args.self.now.model in
      let sound = c.task.ensures.flat.sound in
      let above = c.task-2.ensures.task in
      let here = c.task.ensures.task in
      let u = is_under m sound c.args.number c.row-row.result node t c.if-number-eq0.false c.row-row.ensures at in
      let is : u.above ≡ tasks.Compound c.in-Compound.up = above_same m c.args.number c.row-row.result node above.0 t c.task-2.result.now u above.1 ∙ c.in-Compound.is in
      let same_task : t ≡ c.task.result.now = (one_node m c.args.number node here.0 t c.task.result.now at here.1).1 in
      let same_port : c.output.result.now ≡ p = read_port outputs_of t c.task.result.now c.args.port p c.output.result.now same_task listed c.output.ensures in
      let P : Port → Type 0 = λ q. PartHands c.in-Compound.up c.row-row.result.part q.name c.part_hand.result in
      part_hands m c.args.number c.row-row.result node t p c.in-Compound.up c.part_hand.result u is (subst P same_port c.part_hand.ensures);
  flat = c.task.ensures.flat;
}

pub returns-in-Repeated : goal.returns-in-Repeated
returns-in-Repeated c = record {
  hand = λ node t p at listed.
      let m = c.args.self.now.model in
      let sound = c.task.ensures.flat.sound in
      let above = c.task-2.ensures.task in
      let here = c.task.ensures.task in
      let u = is_under m sound c.args.number c.row-row.result node t c.if-number-eq0.false c.row-row.ensures at in
      let is : u.above ≡ tasks.Repeated c.in-Repeated.up = above_same m c.args.number c.row-row.result node above.0 t c.task-2.result.now u above.1 ∙ c.in-Repeated.is in
      let same_task : t ≡ c.task.result.now = (one_node m c.args.number node here.0 t c.task.result.now at here.1).1 in
      let same_port : c.output.result.now ≡ p = read_port outputs_of t c.task.result.now c.args.port p c.output.result.now same_task listed c.output.ensures in
      let P : Port → Type 0 = λ q. BodyHands c.in-Repeated.up q.name c.body_hand.result in
      body_hands m c.args.number c.row-row.result node t p c.in-Repeated.up c.body_hand.result u is at (subst P same_port c.body_hand.ensures);
  flat = c.task.ensures.flat;
}
