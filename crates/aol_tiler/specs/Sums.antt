-- One entry of a vector plus columns times numbers.
use Rattle.std.specs.Prelude.{ℕ, ℤ, pos, ◌+ℤ◌, ◌*ℤ◌, List, [], ◌∷◌, slice_index_or}

-- entry k of a vector, or 0 past its end
abbrev pub entry : List ℤ → ℕ → ℤ
entry v k = slice_index_or v k (pos 0)

-- a number, plus entry k of each column times the column's number
abbrev pub entry_plus : ℤ → List (List ℤ) → List ℤ → ℕ → ℤ
entry_plus z [] xs k = z
entry_plus z (c ∷ cs) [] k = z
entry_plus z (c ∷ cs) (x ∷ xs) k = entry_plus (z +ℤ (x *ℤ entry c k)) cs xs k
