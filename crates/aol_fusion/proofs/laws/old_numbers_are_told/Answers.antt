use Rattle.aol_fusion.proofs.Told.{old_numbers_are_told}
use Rattle.aol_fusion.proofs.laws.old_numbers_are_told.Goals as goal

pub returns : goal.returns
returns c = old_numbers_are_told
