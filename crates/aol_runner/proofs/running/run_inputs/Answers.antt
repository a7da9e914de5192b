use Rattle.std.proofs.Common.{length, arith}
use Rattle.aol_runner.proofs.FirstCells.{inputs_within}
use Rattle.aol_runner.proofs.WholeRun.{fresh_many}
use Rattle.aol_runner.proofs.running.run_inputs.Goals as goal

pub put_inputs-requires-clause-room : goal.put_inputs-requires-clause-room
put_inputs-requires-clause-room g c =
    let within = inputs_within c.args.flat.now c.args.inputs.now c.model-model.ensures.flat.sound c.model-model.ensures.flat.laid c.requires.inputs in
    let many = fresh_many c.args.rest.now.cells (length c.args.flat.now.cells) c.requires.fresh in
    omega (arith, within, many)
