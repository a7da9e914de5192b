use Rattle.std.proofs.Common.{◌≡◌, List, Some, drop}
use Rattle.aol_shape.specs.Machine.{stuck_from}
use Rattle.aol_vsl.specs.Reading.{Goal}
use Rattle.aol_vsl.specs.Passing.{parts, Allows}
use Rattle.aol_vsl.proofs.recognizer.past_blanks.Given as goal

abbrev pub invariant-loop-at : goal.invariant-loop-at
invariant-loop-at l = (gs : List Goal) → Allows gs → stuck_from parts l.fn.start (Some gs) (drop l.fn.start l.fn.text) ≡ stuck_from parts l.at (Some gs) (drop l.at l.fn.text)
