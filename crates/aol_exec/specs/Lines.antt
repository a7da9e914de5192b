-- The lines of the two arrays.
use Rattle.std.specs.Prelude.{ℕ, ℤ, List, ◌++◌, flat_map, codes}
use Rattle.std.specs.Fmt.{signed_decimal}
use Rattle.aol_shape.specs.Lines.{line}
use Rattle.aol_csyn.specs.Meaning.{Arrays}

-- a number after a blank
abbrev pub entry_text : ℤ → List ℕ
entry_text z = codes " " ++ signed_decimal z

-- an array: its name, and its numbers in order
abbrev pub array_line : List ℕ → List ℤ → List ℕ
array_line name numbers = line (name ++ flat_map entry_text numbers)

-- V, and then F
abbrev pub arrays_lines : Arrays → List ℕ
arrays_lines a = array_line (codes "V") a.0 ++ array_line (codes "F") a.1
