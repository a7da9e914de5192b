-- The values of variables that a chain of frames holds.
use Rattle.std.specs.Prelude.{ℤ, List, [], ◌∷◌}
use Rattle.aol_eval.specs.declared.run.Frame.{Frame}
use Rattle.aol_eval.specs.declared.run.Frame.TheOpen.{Frame-F}
use Rattle.aol_eval.specs.declared.run.Frame.TheFolds.{fold-Frame}

-- one frame, with those around it already seen as values
abbrev pub level_numbers : Frame-F (List ℤ) → List ℤ
level_numbers Frame-F.Outermost = []
level_numbers (Frame-F.Inside z outer) = z ∷ outer.now

-- the values, the innermost first
abbrev pub numbers_of : Frame → List ℤ
numbers_of = fold-Frame (List ℤ) level_numbers
