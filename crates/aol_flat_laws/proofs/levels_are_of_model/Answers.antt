use Rattle.aol_flat_laws.proofs.LevelsBridge.{levels_are_of_model}
use Rattle.aol_flat_laws.proofs.levels_are_of_model.Goals as goal

pub returns : goal.returns
returns c = levels_are_of_model
