use Rattle.std.proofs.Common.{◌∙◌, List, length, map, Some, sym, ap, arith, subst}
use Rattle.std.specs.Prelude.{ℕ, ◌<◌, EachIndex, slice_index}
use Rattle.std.proofs.lemmas.List.{length-map}
use Rattle.aol_model_types.specs.declared.job.InputArray.{InputArray}
use Rattle.aol_flat.specs.InstanceNeed.{level_count}
use Rattle.aol_flat.specs.Laid.{main_output_elements}
use Rattle.aol_flat.specs.Net.{flat_inputs}
use Rattle.aol_flat.specs.Tasks.{main_outputs}
use Rattle.aol_assign.proofs.MainCells.{main_within}
use Rattle.aol_runner.specs.Outputs.{taken_outputs}
use Rattle.aol_runner.specs.Through.{AreThrough}
use Rattle.aol_runner.proofs.FirstCells.{inputs_within, main_count}
use Rattle.aol_runner.proofs.WholeRun.{levels_below, fresh_many}
use Rattle.aol_runner.proofs.Finished.{finished, taken_right}
use Rattle.aol_runner.proofs.running.run.Goals as goal

pub of-requires-clause-below : goal.of-requires-clause-below
of-requires-clause-below g c =
    let P : List ℕ → Type 0 = λ levels. EachIndex levels (λ j. slice_index levels j < c.count.result) in
    subst P (sym c.list.ensures) (levels_below c.args.levels.now c.count.result c.count.ensures)

pub numbers_in-first-requires : goal.numbers_in-first-requires
numbers_in-first-requires g c =
    let within = inputs_within c.args.flat.now c.args.inputs.now c.model-model.ensures.flat.sound c.model-model.ensures.flat.laid c.requires.inputs in
    let same = ap (λ xs. length (flat_inputs xs)) c.as_slice-2.ensures in
    omega (arith, within, same, c.cells-cells.ensures, c.cells-cells.type_inv)

pub take_outputs-requires : goal.take_outputs-requires
take_outputs-requires g c =
    let within = main_within c.args.flat.now c.model-model.ensures.flat.sound c.model-model.ensures.flat.laid in
    let count = main_count c.args.flat.now c.args.inputs.now c.requires.inputs in
    let same = ap (λ xs. length (flat_inputs xs)) c.as_slice-2.ensures in
    let outputs = ap (λ m. length (main_output_elements m)) c.model-model.ensures.same in
    let many = fresh_many c.begin-rest.result.cells (length c.args.flat.now.cells) (c.begin-rest.ensures.cells ∙ ap (map Some) c.requires.memory) in
    let long = length-map c.finish-memory.result Some in
    let whole = ap length c.finish-memory.ensures.cells in
    omega (arith, within, count, same, outputs, many, long, whole, c.run_inputs-ran.ensures.cells, c.numbers_in-first.ensures)

pub returns-clause-memory : goal.returns-clause-memory
returns-clause-memory g c =
    let many = fresh_many c.begin-rest.result.cells (length c.args.flat.now.cells) (c.begin-rest.ensures.cells ∙ ap (map Some) c.requires.memory) in
    let P : List InputArray → Type 0 = λ inputs. AreThrough c.args.flat.now c.args.levels.now c.args.placed.now.of_instance inputs (level_count c.args.levels.now) c.run_inputs-ran.new.rest.cells in
    finished c.args.flat.now c.args.levels.now c.args.placed.now.of_instance c.args.inputs.now c.model-model.ensures.flat.sound c.requires.accepted c.model-model.ensures.flat.laid c.requires.levels
    c.requires.placement.many c.run_inputs-ran.new.rest.cells c.finish-memory.result c.finish-memory.ensures.cells (c.run_inputs-ran.ensures.cells ∙ many)
    (subst P c.as_slice.ensures c.in_ok-ran.ensures.through)

pub returns-clause-outputs : goal.returns-clause-outputs
returns-clause-outputs g c =
    taken_right c.args.flat.now c.args.placed.now.of_instance c.args.inputs.now c.model-model.ensures.flat.sound c.requires.accepted c.model-model.ensures.flat.laid c.requires.inputs c.finish-memory.result
    (returns-clause-memory g c) c.numbers_in-first.result c.in_ok-outputs.outputs.ports (c.numbers_in-first.ensures ∙ ap (λ xs. length (flat_inputs xs)) c.as_slice-2.ensures)
    (c.in_ok-outputs.ensures ∙ ap (λ m. taken_outputs c.finish-memory.result c.numbers_in-first.result (main_outputs m)) c.model-model.ensures.same)
