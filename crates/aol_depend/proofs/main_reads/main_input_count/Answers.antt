use Rattle.std.proofs.Common.{[], length, ap, sym, ◌∙◌, arith}
use Rattle.aol_flat.specs.Place.{elements_of}
use Rattle.aol_depend.proofs.MainReads.{main_few, root_inputs}
use Rattle.aol_depend.proofs.main_reads.main_input_count.Goals as goal

pub element_count-requires : goal.element_count-requires
element_count-requires c =
    let f = c.args.flat.now in
    let flat = c.model.ensures.flat in
    let ports = c.inputs_of.ensures ∙ sym (root_inputs f.model flat.sound c.row-row.result c.task_of.result.now c.row-row.ensures c.task_of.ensures.task) in
    omega (arith, ap (λ ps. length (elements_of [] ps)) ports, main_few f flat.laid, c.cells-cells.ensures)

pub returns : goal.returns
returns c =
    let f = c.args.flat.now in
    let ports = c.inputs_of.ensures ∙ sym (root_inputs f.model c.model.ensures.flat.sound c.row-row.result c.task_of.result.now c.row-row.ensures c.task_of.ensures.task) in
    c.element_count.ensures ∙ ap (λ ps. length (elements_of [] ps)) ports
