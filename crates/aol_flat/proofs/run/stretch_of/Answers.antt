use Rattle.aol_trail.proofs.Furthers.{cell_here}
use Rattle.aol_flat.proofs.run.stretch_of.Goals as goal

pub returns-then-own-first-clause-even : goal.returns-then-own-first-clause-even
returns-then-own-first-clause-even c = λ i x le low. cell_here c.args.trail.now c.args.at.now x i 0 c.requires.stands le
