use Rattle.aol_flat_laws.proofs.LevelsBridge.{loops_are_cycles}
use Rattle.aol_flat_laws.proofs.loops_are_cycles.Goals as goal

pub returns : goal.returns
returns c = loops_are_cycles
