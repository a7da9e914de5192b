use Rattle.std.proofs.Common.{◌≡◌, List, Some, ◌∷◌, ◌++◌, drop}
use Rattle.aol_shape.specs.Machine.{stuck_from}
use Rattle.aol_vsl.specs.Reading.{Goal, first_entry}
use Rattle.aol_vsl.specs.Passing.{parts, entries_goals}
use Rattle.aol_vsl.proofs.recognizer.past_entries.Given as goal

abbrev pub invariant-loop-at : goal.invariant-loop-at
invariant-loop-at l = (gs : List Goal) → stuck_from parts l.fn.start (Some (first_entry ∷ gs)) (drop l.fn.start l.fn.text) ≡ stuck_from parts l.at (Some (entries_goals l.entries ++ gs)) (drop l.at l.fn.text)
