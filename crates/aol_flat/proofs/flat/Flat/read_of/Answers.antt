use Rattle.aol_flat.proofs.CopyEnds.{has_source_own, has_source_part, around_of}
use Rattle.aol_flat.proofs.flat.Flat.read_of.Goals as goal

pub input_at-e-requires-clause-end : goal.input_at-e-requires-clause-end
input_at-e-requires-clause-end c =
    let k = c.args.copy in
    has_source_own c.args.self.now.model c.requires.flat.sound k.number k.task.now k.reshape.now k.around.now k.r.now k.i.now c.requires.place c.in-None.is

pub follow_input-requires : goal.follow_input-requires
follow_input-requires c = let p = c.requires.place in (_, c.input_at-e.ensures p.node p.at_node p.around_inside)

pub returns-in-None : goal.returns-in-None
returns-in-None c = λ up at.
    let k = c.args.copy in
    let inside = around_of c.args.self.now.model c.requires.flat.sound k.number k.task.now k.reshape.now k.around.now k.r.now k.i.now c.requires.place up at in
    c.follow_input.ensures _ (c.input_at-e.ensures up at inside)

pub output_at-e-requires-clause-end : goal.output_at-e-requires-clause-end
output_at-e-requires-clause-end c =
    let k = c.args.copy in
    has_source_part c.args.self.now.model c.requires.flat.sound k.number k.task.now k.reshape.now k.around.now k.r.now k.i.now c.requires.place c.in-Some.field-0 c.in-Some.is

pub follow_output-requires : goal.follow_output-requires
follow_output-requires c = let p = c.requires.place in (_, c.output_at-e.ensures p.node p.at_node p.around_inside)

pub returns-in-Some : goal.returns-in-Some
returns-in-Some c = λ up at.
    let k = c.args.copy in
    let inside = around_of c.args.self.now.model c.requires.flat.sound k.number k.task.now k.reshape.now k.around.now k.r.now k.i.now c.requires.place up at in
    c.follow_output.ensures _ (c.output_at-e.ensures up at inside)
