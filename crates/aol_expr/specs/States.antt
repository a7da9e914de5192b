-- States of the reader by what is held and the mode.
use Rattle.std.specs.Prelude.{◌≡◌, ℕ, List, Bool, true, false, Option, Some, None}
use Rattle.aol_expr_tree.specs.declared.byte.Byte.{Byte}
use Rattle.aol_expr_tree.specs.declared.byte.Byte.TheVariants.{Blank, Digit, Letter}
use Rattle.aol_expr_tree.specs.declared.reader.Bracket.{Bracket}
use Rattle.aol_expr_tree.specs.declared.reader.Held.{Held}
use Rattle.aol_expr_tree.specs.declared.reader.Level.{Level}
use Rattle.aol_expr_tree.specs.declared.reader.Mode.{Mode}
use Rattle.aol_expr_tree.specs.declared.reader.Numeral.{Numeral}
use Rattle.aol_expr_tree.specs.declared.reader.Reader.{Reader}
use Rattle.aol_expr_tree.specs.Decimals.{with_digit}
use Rattle.aol_expr_tree.specs.Reading.{longer, stepped}

-- the state in the mode, where there is one
abbrev pub in_mode : Held → Option Mode → Option Reader
in_mode h None = None
in_mode h (Some m) = Some (record { held = h; mode = m })

-- an open bracket, inside what is held
abbrev pub level_of : Bracket → Held → Level
level_of k h = record { bracket = k; waiting = h.waiting; around = h.around }

-- a blank leaves the mode as it is, whatever is held
abbrev pub StaysAtBlank : Mode → Bool → Type 0
StaysAtBlank m true = (h : Held) (b : ℕ) → stepped h m Blank b ≡ Some (record { held = h; mode = m })
StaysAtBlank m false = Unit {0}

-- the byte is a digit, with which the number goes on, or the number stays
abbrev pub AddsDigit : Numeral → Byte → ℕ → Numeral → Bool → Type 0
AddsDigit old k b new true = (k ≡ Digit) × (new.start ≡ old.start) × (new.negative ≡ old.negative) × (with_digit 19 old.digits b ≡ Some new.digits)
AddsDigit old k b new false = new ≡ old

-- the byte is a letter or a digit, with which the letters go on, or the letters stay
abbrev pub AddsLetter : List ℕ → Byte → ℕ → List ℕ → Bool → Type 0
AddsLetter old k b new true = (IsWordByte k) × (longer old b ≡ Some new)
  where
    IsWordByte : Byte → Type 0
    IsWordByte Letter = Unit {0}
    IsWordByte Digit = Unit {0}
    IsWordByte k = ⊥
AddsLetter old k b new false = new ≡ old

-- the byte leads from one mode to the other, whatever is held, or the mode stays
abbrev pub Stays : Mode → Byte → ℕ → Mode → Bool → Type 0
Stays old k b new true = (h : Held) → stepped h old k b ≡ Some (record { held = h; mode = new })
Stays old k b new false = new ≡ old
