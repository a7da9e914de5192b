use Rattle.std.proofs.Common.{subst}
use Rattle.aol_flat.specs.Instance.{copy_target}
use Rattle.aol_flat.specs.Laid.{IsReadOf}
use Rattle.aol_flat.specs.Node.{place_on}
use Rattle.aol_flat.specs.declared.view.Read.{Read}
use Rattle.aol_flat.proofs.CopyEnds.{has_target_own, has_target_part, around_of}
use Rattle.aol_flat.proofs.CopyTargets.{target_is_stored}
use Rattle.aol_flat.proofs.flat.Flat.cell_of.Goals as goal

pub output_at-e-requires-clause-end : goal.output_at-e-requires-clause-end
output_at-e-requires-clause-end c =
    let k = c.args.copy in
    has_target_own c.args.self.now.model c.requires.flat.sound k.number k.task.now k.reshape.now k.around.now k.r.now k.i.now c.requires.place c.in-None.is

pub follow_output-requires : goal.follow_output-requires
follow_output-requires c = let p = c.requires.place in (_, c.output_at-e.ensures p.node p.at_node p.around_inside)

pub returns-in-None : goal.returns-in-None
returns-in-None c = λ up at.
    let k = c.args.copy in
    let inside = around_of c.args.self.now.model c.requires.flat.sound k.number k.task.now k.reshape.now k.around.now k.r.now k.i.now c.requires.place up at in
    c.follow_output.ensures _ (c.output_at-e.ensures up at inside)

pub input_at-e-requires-clause-end : goal.input_at-e-requires-clause-end
input_at-e-requires-clause-end c =
    let k = c.args.copy in
    has_target_part c.args.self.now.model c.requires.flat.sound k.number k.task.now k.reshape.now k.around.now k.r.now k.i.now c.requires.place c.in-Some.field-0 c.in-Some.is

pub follow_input-requires : goal.follow_input-requires
follow_input-requires c = let p = c.requires.place in (_, c.input_at-e.ensures p.node p.at_node p.around_inside)

pub unreachable-requires : goal.unreachable-requires
unreachable-requires c =
    let k = c.args.copy in
    let p = c.requires.place in
    let m = c.args.self.now.model in
    let P : Read → Type 0 = λ x. IsReadOf c.args.self.now (copy_target m k.task.now (place_on p.node k.around.now) k.reshape.now k.r.now k.i.now) x in
    target_is_stored m c.requires.flat.sound k.number k.task.now k.reshape.now p.node p.at_node p.reshape p.listed c.in-Some.field-0 c.in-Some.is k.around.now k.r.now k.i.now c.in-Const.field-0 p.around_inside
    (subst P c.in-Const.is (c.follow_input.ensures _ (c.input_at-e.ensures p.node p.at_node p.around_inside)))

pub returns-in-Cell : goal.returns-in-Cell
returns-in-Cell c = λ up at.
    let k = c.args.copy in
    let m = c.args.self.now.model in
    let inside = around_of m c.requires.flat.sound k.number k.task.now k.reshape.now k.around.now k.r.now k.i.now c.requires.place up at in
    let P : Read → Type 0 = λ x. IsReadOf c.args.self.now (copy_target m k.task.now (place_on up k.around.now) k.reshape.now k.r.now k.i.now) x in
    subst P c.in-Cell.is (c.follow_input.ensures _ (c.input_at-e.ensures up at inside))
