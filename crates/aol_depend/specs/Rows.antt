-- Rows of numbers in one list.
use Rattle.std.specs.Prelude.{◌≡◌, ◌≤◌, ◌<◌, ◌^◌, ℕ, ◌+◌, ◌-◌, List, map, length, slice_index, slice_range}
use Rattle.std.specs.List.{range_with_len}

-- the row with this number: from its start to the start of the next
abbrev pub row_at : List ℕ → List ℕ → ℕ → List ℕ
row_at starts list j = slice_range list (slice_index starts j) (slice_index starts (j + 1))

-- all rows; there is one start more than there are rows
abbrev pub rows_of : List ℕ → List ℕ → List (List ℕ)
rows_of starts list = map (row_at starts list) (range_with_len 0 (length starts - 1))

-- the starts ascend up to the end of the list
pub record AreStarts (starts list : List ℕ) : Type 0 where
  pub some : 1 ≤ length starts
  pub few : length starts ≤ 2 ^ 32
  pub ascend : (j : ℕ) → j + 1 < length starts → slice_index starts j ≤ slice_index starts (j + 1)
  pub last : slice_index starts (length starts - 1) ≡ length list
