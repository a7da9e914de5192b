use Rattle.aol_runner.proofs.EveryCell.{memory_is_every_solution}
use Rattle.aol_runner.proofs.laws.memory_is_every_solution.Goals as goal

pub returns : goal.returns
returns c = memory_is_every_solution
