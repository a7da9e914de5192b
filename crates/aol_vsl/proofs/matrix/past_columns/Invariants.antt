use Rattle.std.proofs.Common.{◌≡◌, List, Some, ◌∷◌, drop}
use Rattle.aol_shape.specs.Machine.{stuck_from}
use Rattle.aol_vsl.specs.Reading.{Goal, first_column}
use Rattle.aol_vsl.specs.Passing.{parts, columns_above}
use Rattle.aol_vsl.proofs.matrix.past_columns.Given as goal

abbrev pub invariant-loop-place : goal.invariant-loop-place
invariant-loop-place l = (gs : List Goal) → stuck_from parts l.fn.start (Some (first_column ∷ gs)) (drop l.fn.start l.fn.text) ≡ stuck_from parts l.place (Some (columns_above l.columns gs)) (drop l.place l.fn.text)
