use Rattle.aol_flat_laws.proofs.LaidHomes.{laid_cells_are_homes}
use Rattle.aol_flat_laws.proofs.laid_cells_are_homes.Goals as goal

pub returns : goal.returns
returns c = laid_cells_are_homes
