use Rattle.std.proofs.Common.{rules, ◌≡◌, ◌∙◌, ◌<◌, ◌^◌, ◌∷◌, Some, sym, ap, arith}
use Rattle.aol_model_types.specs.declared.task.Task.TheVariants as tasks
use Rattle.aol_flat.specs.Copies.{node_of_end}
use Rattle.aol_flat.specs.Node.{ToPart, node_task}
use Rattle.aol_flat.specs.Tasks.{part_number}
use Rattle.aol_flat.proofs.CopyEnds.{part_within}
use Rattle.aol_flat.proofs.NodeAt.{known, limits_known}
use Rattle.aol_flat.proofs.flat.Flat.end_node.Goals as goal

pub overflow_cast-part_number : goal.overflow_cast-part_number
overflow_cast-part_number c =
    let m = c.args.self.now.model in
    let up = c.args.task.now in
    let there = c.requires.there in
    let e = c.requires.end there.0 there.1 in
    let here : node_task m (ToPart (part_number up c.in-Some.part) ∷ there.0) ≡ Some e.0 = sym (ap (λ o. node_task m (node_of_end up there.0 o)) c.in-Some.is) ∙ e.1 in
    let within = part_within m up there.0 c.in-Some.part e.0 (known m c.args.number there.0 (tasks.Compound up) there.1).task here in
    let few = (limits_known m c.requires.flat.sound c.args.number there.0 (tasks.Compound up) there.1).part_count in
    let small : c.part_number.result < 2 ^ 32 = omega (arith, few, within, c.part_number.ensures) in
    search rules

pub below-requires : goal.below-requires
below-requires c =
    let m = c.args.self.now.model in
    let up = c.args.task.now in
    let there = c.requires.there in
    let e = c.requires.end there.0 there.1 in
    let here : node_task m (ToPart (part_number up c.in-Some.part) ∷ there.0) ≡ Some e.0 = sym (ap (λ o. node_task m (node_of_end up there.0 o)) c.in-Some.is) ∙ e.1 in
    let within = part_within m up there.0 c.in-Some.part e.0 (known m c.args.number there.0 (tasks.Compound up) there.1).task here in
    (there.0, up, there.1, omega (arith, within, c.part_number.ensures))
