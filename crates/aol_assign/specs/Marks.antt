-- Marks of the points that pairs write, and the first pair whose point an earlier one has.
use Rattle.std.specs.Prelude.{◌≡◌, ℕ, ◌<◌, List, [], ◌++◌, take, Bool, false, is_some, length, slice_get, slice_index_or, Option, Some, None, option_map}
use Rattle.aol_shape.specs.Shape.{IsPointOf, rank}
use Rattle.aol_flat.specs.Targets.{Writing, earlier_writing, first_repeat}
use Rattle.aol_flat.specs.declared.view.Writer.{Writer}
use Rattle.aol_assign.specs.declared.marks.Repeat.{Repeat}
use Rattle.aol_assign.specs.declared.marks.Hit.{Hit}

-- a point of the array is marked exactly where one of these writes it
abbrev pub AreMarks : List ℕ → List Writing → List Bool → Type 0
AreMarks array seen marks = (x : List ℕ) → IsPointOf array x → slice_index_or marks (rank array x) false ≡ is_some (earlier_writing seen x)

-- a pair by its number and address: its point is one that `seen` or an earlier pair writes, and it is the first such pair
pub record IsHit (array : List ℕ) (seen ws : List Writing) (hit : Hit) : Type 0 where
  pub writing : Writing
  pub before : Writing
  pub at : slice_get ws hit.number ≡ Some writing
  pub inside : IsPointOf array writing.1
  pub address : hit.address ≡ rank array writing.1
  pub earlier : earlier_writing (seen ++ take hit.number ws) writing.1 ≡ Some before
  pub first : (rest : List Writing) → first_repeat seen (ws ++ rest) ≡ Some (before, writing)

-- all points are new, and marked now
pub record AreNew (array : List ℕ) (seen ws : List Writing) (marks : List Bool) : Type 0 where
  pub marked : AreMarks array (seen ++ ws) marks
  pub none : (rest : List Writing) → first_repeat seen (ws ++ rest) ≡ first_repeat (seen ++ ws) rest

-- what going over these writings answers, where those of `seen` are marked
abbrev pub MarksOn : List ℕ → List Writing → List Bool → List Bool → Option Hit → Type 0
MarksOn array ws old new None = (seen : List Writing) → AreMarks array seen old → AreNew array seen ws new
MarksOn array ws old new (Some hit) = (seen : List Writing) → AreMarks array seen old → IsHit array seen ws hit

-- the number of the earliest writing that has this point
abbrev pub IsEarliest : List Writing → List ℕ → Option ℕ → Type 0
IsEarliest ws x None = earlier_writing ws x ≡ None
IsEarliest ws x (Some n) = (n < length ws) × (earlier_writing ws x ≡ slice_get ws n)

-- a pair, with the earlier one where there is one
abbrev pub told_as : Option Writing → Writer → List ℕ → Option Repeat
told_as before second point = option_map (λ (w : Writing). record { first = w.0; second = second; point = point }) before

-- the first pair whose point an earlier one has
abbrev pub repeat_of : List Writing → Option Repeat
repeat_of ws = option_map (λ (p : Writing × Writing). record { first = p.0.0; second = p.1.0; point = p.1.1 }) (first_repeat [] ws)
