use Rattle.std.proofs.Common.{rules, ◌≡◌, ◌<◌, ◌^◌, ◌∷◌, ◌∙◌, length, ℕ, Some, is_some, sym, ap, subst, arith}
use Rattle.std.specs.Option.{option_copied}
use Rattle.aol_model_types.specs.declared.task.Task.TheVariants as tasks
use Rattle.aol_model_types.specs.Rules.{port_shape, outputs_of}
use Rattle.aol_flat.specs.Home.{link_into_part}
use Rattle.aol_flat.specs.Node.{ToPart}
use Rattle.aol_flat.specs.NodeTable.{IsNode}
use Rattle.aol_flat.specs.Tasks.{part_number}
use Rattle.aol_flat.proofs.InputFeeds.{feeds_own, feeds_part, giver_has, outputs_few}
use Rattle.aol_flat.proofs.NodeAt.{one_node, task_known, limits_known, number_within}
use Rattle.aol_flat.proofs.flat.Flat.part_feed.Goals as goal

pub port_number-requires-clause-there : goal.port_number-requires-clause-there
port_number-requires-clause-there c =
    let m = c.args.self.now.model in
    let up = c.args.up.now in
    let there = c.requires.there in
    let s = task_known m c.requires.flat.sound c.args.above there.0 (tasks.Compound up) there.1 in
    let found : link_into_part up c.args.k c.args.name.now ≡ Some c.in-Some.link.now = sym c.link_into_part.ensures ∙ ap option_copied c.in-Some.is in
    ap (λ ps. is_some (port_shape ps c.in-Some.link.now.from.port)) c.as_slice.ensures ∙ feeds_own m up s c.args.k c.args.name.now c.in-Some.link.now found c.in_default-part.is

pub port_number-requires-clause-few : goal.port_number-requires-clause-few
port_number-requires-clause-few c =
    let there = c.requires.there in
    let few = (limits_known c.args.self.now.model c.requires.flat.sound c.args.above there.0 (tasks.Compound c.args.up.now) there.1).in_count in
    omega (arith, few, ap length c.as_slice.ensures)

pub overflow_cast-part_number : goal.overflow_cast-part_number
overflow_cast-part_number c =
    let m = c.args.self.now.model in
    let up = c.args.up.now in
    let there = c.requires.there in
    let s = task_known m c.requires.flat.sound c.args.above there.0 (tasks.Compound up) there.1 in
    let found : link_into_part up c.args.k c.args.name.now ≡ Some c.in-Some.link.now = sym c.link_into_part.ensures ∙ ap option_copied c.in-Some.is in
    let g = feeds_part m up s c.args.k c.args.name.now c.in-Some.link.now c.in-Some-part.giver found c.in-Some-part.is in
    let few = (limits_known m c.requires.flat.sound c.args.above there.0 (tasks.Compound up) there.1).part_count in
    let small : c.part_number.result < 2 ^ 32 = omega (arith, few, g.within, c.part_number.ensures) in
    search rules

pub below-node-requires : goal.below-node-requires
below-node-requires c =
    let m = c.args.self.now.model in
    let up = c.args.up.now in
    let there = c.requires.there in
    let s = task_known m c.requires.flat.sound c.args.above there.0 (tasks.Compound up) there.1 in
    let found : link_into_part up c.args.k c.args.name.now ≡ Some c.in-Some.link.now = sym c.link_into_part.ensures ∙ ap option_copied c.in-Some.is in
    let g = feeds_part m up s c.args.k c.args.name.now c.in-Some.link.now c.in-Some-part.giver found c.in-Some-part.is in
    (there.0, up, there.1, omega (arith, g.within, c.part_number.ensures))

pub task-requires : goal.task-requires
task-requires c =
    let m = c.args.self.now.model in
    let there = c.requires.there in
    let b = c.below-node.ensures there.0 c.args.up.now there.1 in
    number_within m c.below-node.result (ToPart c.part_number.result ∷ there.0) b.0 b.1

pub output_number-requires-clause-there : goal.output_number-requires-clause-there
output_number-requires-clause-there c =
    let m = c.args.self.now.model in
    let up = c.args.up.now in
    let there = c.requires.there in
    let s = task_known m c.requires.flat.sound c.args.above there.0 (tasks.Compound up) there.1 in
    let found : link_into_part up c.args.k c.args.name.now ≡ Some c.in-Some.link.now = sym c.link_into_part.ensures ∙ ap option_copied c.in-Some.is in
    let g = feeds_part m up s c.args.k c.args.name.now c.in-Some.link.now c.in-Some-part.giver found c.in-Some-part.is in
    let b = c.below-node.ensures there.0 up there.1 in
    let here = c.task.ensures.task in
    let P : ℕ → Type 0 = λ n. IsNode m c.below-node.result (ToPart n ∷ there.0) b.0 in
    let at = subst P c.part_number.ensures b.1 in
    let is = (one_node m c.below-node.result here.0 (ToPart (part_number up c.in-Some-part.giver) ∷ there.0) c.task.result.now b.0 here.1 at).1 in
    ap (λ t. is_some (port_shape (outputs_of t) c.in-Some.link.now.from.port)) is
    ∙ giver_has m c.args.above c.below-node.result there.0 up c.in-Some-part.giver c.in-Some.link.now.from.port b.0 g there.1 at

pub output_number-requires-clause-few : goal.output_number-requires-clause-few
output_number-requires-clause-few c =
    let here = c.task.ensures.task in
    outputs_few c.task.result.now (limits_known c.args.self.now.model c.requires.flat.sound c.below-node.result here.0 c.task.result.now here.1)
