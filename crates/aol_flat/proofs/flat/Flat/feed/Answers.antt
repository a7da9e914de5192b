use Rattle.std.proofs.Common.{◌≡◌, ◌<◌, ◌∙◌, length, sym, ap, subst}
use Rattle.aol_expr_tree.specs.declared.port.Port.{Port}
use Rattle.aol_model_types.specs.declared.task.Task.{Task}
use Rattle.aol_model_types.specs.declared.task.Task.TheVariants as tasks
use Rattle.aol_model_types.specs.Rules.{inputs_of}
use Rattle.aol_model_types.specs.Types.{IsTask}
use Rattle.aol_flat.specs.Node.{Node, task_under}
use Rattle.aol_flat.specs.NodeTable.{IsNode}
use Rattle.aol_flat.specs.Feed.{PartFeeds, BodyFeeds}
use Rattle.aol_flat.proofs.Among.{among_get}
use Rattle.aol_flat.proofs.Checked.{IsTaskOf}
use Rattle.aol_flat.proofs.Fitting.{inner_before}
use Rattle.aol_flat.proofs.Hands.{to_body, no_step, body_place}
use Rattle.aol_flat.proofs.InputFeeds.{tiles_inputs, links_outputs, outputs_few, part_feeds, body_feeds}
use Rattle.aol_flat.proofs.NodeAt.{one_node, is_under, above_same, task_known, limits_known, read_port}
use Rattle.aol_flat.proofs.flat.Flat.feed.Goals as goal

pub body_feed-requires-clause-tiled : goal.body_feed-requires-clause-tiled
body_feed-requires-clause-tiled c =
    let m = c.args.self.now.model in
    let sound = c.task.ensures.flat.sound in
    let above = c.task.ensures.task in
    let here = c.task-task.ensures.task in
    let t = c.task-task.result.now in
    let r = c.in-Repeated.up in
    let u = is_under m sound c.args.number c.row-row.result here.0 t c.if-number-eq0.false c.row-row.ensures here.1 in
    let is : u.above ≡ tasks.Repeated r = above_same m c.args.number c.row-row.result here.0 above.0 t c.task.result.now u above.1 ∙ c.in-Repeated.is in
    let b = to_body m r u.branch t (sym (ap (λ a. task_under m a u.branch) is) ∙ u.leads) in
    let same_task : c.requires.1 ≡ t = (one_node m c.args.number c.requires.0 here.0 c.requires.1 t c.requires.2 here.1).1 in
    let P : Task → Type 0 = λ x. c.args.port < length (inputs_of x) in
    tiles_inputs m r t c.input.result.now c.args.port
    (subst (IsTaskOf m) c.in-Repeated.is (task_known m sound c.row-row.result.up above.0 c.task.result.now above.1))
    (task_known m sound c.args.number here.0 t here.1) b.2
    (among_get (inputs_of t) c.args.port c.input.result.now (subst P same_task c.requires.3) c.input.ensures)

pub body_feed-requires-clause-linked : goal.body_feed-requires-clause-linked
body_feed-requires-clause-linked c =
    let m = c.args.self.now.model in
    let sound = c.task.ensures.flat.sound in
    let above = c.task.ensures.task in
    let here = c.task-task.ensures.task in
    let t = c.task-task.result.now in
    let r = c.in-Repeated.up in
    let u = is_under m sound c.args.number c.row-row.result here.0 t c.if-number-eq0.false c.row-row.ensures here.1 in
    let is : u.above ≡ tasks.Repeated r = above_same m c.args.number c.row-row.result here.0 above.0 t c.task.result.now u above.1 ∙ c.in-Repeated.is in
    let b = to_body m r u.branch t (sym (ap (λ a. task_under m a u.branch) is) ∙ u.leads) in
    let place = body_place m c.args.number c.row-row.result here.0 t r u is here.1 in
    let same_task : c.requires.1 ≡ t = (one_node m c.args.number c.requires.0 here.0 c.requires.1 t c.requires.2 here.1).1 in
    let P : Task → Type 0 = λ x. c.args.port < length (inputs_of x) in
    let Q : Node → Type 0 = λ n. IsNode m c.args.number n t in
    let R : Task → Type 0 = λ z. IsNode m c.row-row.result.up u.up z in
    let s = subst (IsTaskOf m) c.in-Repeated.is (task_known m sound c.row-row.result.up above.0 c.task.result.now above.1) in
    links_outputs m r t c.input.result.now c.args.port s
    (task_known m sound c.args.number here.0 t here.1) b.2 (inner_before m sound c.args.number c.row-row.result.up u.up r t (subst Q place.is here.1) (subst R is u.at_up) s)
    (among_get (inputs_of t) c.args.port c.input.result.now (subst P same_task c.requires.3) c.input.ensures)

pub body_feed-requires-clause-up_limits : goal.body_feed-requires-clause-up_limits
body_feed-requires-clause-up_limits c =
    let above = c.task.ensures.task in
    subst IsTask c.in-Repeated.is (limits_known c.args.self.now.model c.task.ensures.flat.sound c.row-row.result.up above.0 c.task.result.now above.1)

pub body_feed-requires-clause-few : goal.body_feed-requires-clause-few
body_feed-requires-clause-few c =
    let here = c.task-task.ensures.task in
    outputs_few c.task-task.result.now (limits_known c.args.self.now.model c.task.ensures.flat.sound c.args.number here.0 c.task-task.result.now here.1)

pub unreachable-requires : goal.unreachable-requires
unreachable-requires c =
    let m = c.args.self.now.model in
    let above = c.task.ensures.task in
    let here = c.task-task.ensures.task in
    let t = c.task-task.result.now in
    let u = is_under m c.task.ensures.flat.sound c.args.number c.row-row.result here.0 t c.if-number-eq0.false c.row-row.ensures here.1 in
    let is : u.above ≡ tasks.Elementary c.in-Elementary.field-0 = above_same m c.args.number c.row-row.result here.0 above.0 t c.task.result.now u above.1 ∙ c.in-Elementary.is in
    no_step m c.in-Elementary.field-0 u.branch t (sym (ap (λ a. task_under m a u.branch) is) ∙ u.leads)

pub returns-in-Compound-clause-feed : goal.returns-in-Compound-clause-feed
returns-in-Compound-clause-feed c = λ node t p at listed.
    let m = c.args.self.now.model in
    let sound = c.task.ensures.flat.sound in
    let above = c.task.ensures.task in
    let here = c.task-task.ensures.task in
    let u = is_under m sound c.args.number c.row-row.result node t c.if-number-eq0.false c.row-row.ensures at in
    let is : u.above ≡ tasks.Compound c.in-Compound.up = above_same m c.args.number c.row-row.result node above.0 t c.task.result.now u above.1 ∙ c.in-Compound.is in
    let same_task : t ≡ c.task-task.result.now = (one_node m c.args.number node here.0 t c.task-task.result.now at here.1).1 in
    let same_port : c.input.result.now ≡ p = read_port inputs_of t c.task-task.result.now c.args.port p c.input.result.now same_task listed c.input.ensures in
    let P : Port → Type 0 = λ q. PartFeeds m u.up c.in-Compound.up c.row-row.result.part q.name c.part_feed.result in
    let R : Task → Type 0 = λ z. IsNode m c.row-row.result.up u.up z in
    part_feeds m c.args.number c.row-row.result node t p c.in-Compound.up c.part_feed.result u is (subst P same_port (c.part_feed.ensures u.up (subst R is u.at_up)))

pub returns-in-Repeated-clause-feed : goal.returns-in-Repeated-clause-feed
returns-in-Repeated-clause-feed c = λ node t p at listed.
    let m = c.args.self.now.model in
    let sound = c.task.ensures.flat.sound in
    let above = c.task.ensures.task in
    let here = c.task-task.ensures.task in
    let u = is_under m sound c.args.number c.row-row.result node t c.if-number-eq0.false c.row-row.ensures at in
    let is : u.above ≡ tasks.Repeated c.in-Repeated.up = above_same m c.args.number c.row-row.result node above.0 t c.task.result.now u above.1 ∙ c.in-Repeated.is in
    let same_task : t ≡ c.task-task.result.now = (one_node m c.args.number node here.0 t c.task-task.result.now at here.1).1 in
    let same_port : c.input.result.now ≡ p = read_port inputs_of t c.task-task.result.now c.args.port p c.input.result.now same_task listed c.input.ensures in
    let P : Port → Type 0 = λ q. BodyFeeds c.in-Repeated.up t q.name c.body_feed.result in
    let S : Task → Type 0 = λ z. BodyFeeds c.in-Repeated.up z c.input.result.now.name c.body_feed.result in
    body_feeds m c.args.number c.row-row.result node t p c.in-Repeated.up c.body_feed.result u is at (subst P same_port (subst S (sym same_task) c.body_feed.ensures))
