use Rattle.std.proofs.Common.{length}
use Rattle.aol_link.proofs.steps.+first_for.Given as goal

abbrev pub decreases-first_for : goal.decreases-first_for
decreases-first_for l = length l.choices.now
