-- What the parts of the recognizer in the code answer.
use Rattle.std.specs.Prelude.{◌≡◌, ℕ, ◌≤◌, List, [], ◌∷◌, ◌++◌, length, drop, Bool, true, false, ◌&&◌, Option, Some, None, Result, Ok, Err, if◌then◌else◌}
use Rattle.aol_shape.specs.Texts.{is_blank, is_letter}
use Rattle.aol_shape.specs.Machine.{Machine, stuck_from}
use Rattle.aol_vsl.specs.Reading.{Goal, sign, tight, number, digit, digits, first_entry, next_entry, first_column, next_column, step, recognizer}
use Rattle.aol_vsl.specs.declared.recognizer.Entries.{Entries}
use Rattle.aol_vsl.specs.declared.recognizer.Entries.TheVariants.{First, Next, Number, Digit, Digits}
use Rattle.aol_vsl.specs.declared.recognizer.Progress.{Progress}
use Rattle.aol_vsl.specs.declared.recognizer.Progress.TheVariants.{On, Done, Stuck}
use Rattle.aol_vsl.specs.declared.matrix.Columns.{Columns}
use Rattle.aol_vsl.specs.declared.matrix.Columns.TheVariants.{FirstColumn, NextColumn, Open, Inside}
use Rattle.aol_vsl.specs.declared.matrix.ColumnsStep.{ColumnsStep}
use Rattle.aol_vsl.specs.declared.matrix.ColumnsStep.TheVariants.{Further, Closed, Unfit}

-- what recognizes a part: the goals below it don't matter
abbrev pub parts : Machine (List Goal)
parts = recognizer []

-- the text from `at` to `to` meets the goals, or is stuck at a byte before they are met, whatever comes below them
abbrev pub Passes : List Goal → List ℕ → ℕ → Result ℕ ℕ → Type 0
Passes part text at (Ok to) = (gs : List Goal) → stuck_from parts at (Some (part ++ gs)) (drop at text) ≡ stuck_from parts to (Some gs) (drop to text)
Passes part text at (Err byte) = (gs : List Goal) → stuck_from parts at (Some (part ++ gs)) (drop at text) ≡ Some byte

-- the goals that a reader of entries has
abbrev pub entries_goals : Entries → List Goal
entries_goals First = first_entry ∷ []
entries_goals Next = next_entry ∷ []
entries_goals Number = number ∷ next_entry ∷ []
entries_goals Digit = digit ∷ next_entry ∷ []
entries_goals (Digits left) = digits left ∷ next_entry ∷ []

-- the goals after a byte, above those that come below
abbrev pub stepped : Progress → List Goal → Option (List Goal)
stepped (On entries) gs = Some (entries_goals entries ++ gs)
stepped Done gs = Some gs
stepped Stuck gs = None

-- the goals allow blanks before them
abbrev pub Allows : List Goal → Type 0
Allows gs = (b : ℕ) → is_blank b ≡ true → step gs b ≡ Some gs

-- the goal of a byte of a literal: a letter after a letter comes at once
abbrev pub part_of : Bool → ℕ → Goal
part_of in_word c = if in_word && is_letter c then tight c else sign c

-- the goals of a literal of signs and words, after a letter or not
abbrev pub literal_goals : Bool → List ℕ → List Goal
literal_goals in_word [] = []
literal_goals in_word (c ∷ cs) = part_of in_word c ∷ literal_goals (is_letter c) cs

-- the goals that a reader of columns has, above those that come below
abbrev pub columns_above : Columns → List Goal → List Goal
columns_above FirstColumn gs = first_column ∷ gs
columns_above NextColumn gs = next_column ∷ gs
columns_above Open gs = sign 123 ∷ first_entry ∷ next_column ∷ gs
columns_above (Inside entries) gs = entries_goals entries ++ next_column ∷ gs

-- the goals after a byte of columns
abbrev pub columns_stepped : ColumnsStep → List Goal → Option (List Goal)
columns_stepped (Further columns) gs = Some (columns_above columns gs)
columns_stepped Closed gs = Some gs
columns_stepped Unfit gs = None
