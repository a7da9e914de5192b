-- Which program a text is the text of, and the first line at which a text is none.
use Rattle.std.specs.Prelude.{◌≡◌, ℕ, ◌+◌, ◌==◌, not, true, List, [], ◌∷◌, ◌++◌, length, Result, Ok, Err}
use Rattle.std.specs.List.{list_all}
use Rattle.aol_csyn.specs.Tree.{Program}
use Rattle.aol_csyn.specs.Form.{IsWellFormed}
use Rattle.aol_csyn.specs.Text.{program_text}
use Rattle.aol_cread.specs.declared.read.ReadCRefused.{ReadCRefused}
use Rattle.aol_cread.specs.declared.read.ReadCRefused.TheVariants.{At, NoMemory}

-- the text is that of this program
pub record IsTextOf (p : Program) (text : List ℕ) : Type 0 where
  pub formed : IsWellFormed p
  pub whole : program_text p ≡ text

-- some program's text begins so
pub record BeginsProgram (front : List ℕ) : Type 0 where
  pub program : Program
  pub formed : IsWellFormed program
  pub rest : List ℕ
  pub whole : program_text program ≡ front ++ rest

-- one whole line: a line feed stands at its end alone
pub record IsLine (line : List ℕ) : Type 0 where
  pub body : List ℕ
  pub plain : list_all (λ b. not (b == 10)) body ≡ true
  pub whole : line ≡ body ++ 10 ∷ []

-- whole lines
abbrev pub AreLines : List (List ℕ) → Type 0
AreLines [] = Unit {0}
AreLines (line ∷ lines) = IsLine line × AreLines lines

-- lines, in front of something
abbrev pub in_front : List (List ℕ) → List ℕ → List ℕ
in_front [] r = r
in_front (line ∷ lines) r = line ++ in_front lines r

-- The text is no program's, and its whole lines before this one begin some program's text. No program goes on with this line, or the text has no whole line there. Lines are counted from 1.
pub record IsFirstWrongLine (text : List ℕ) (line : ℕ) : Type 0 where
  pub no_program : (p : Program) → IsTextOf p text → ⊥
  pub lines : List (List ℕ)
  pub whole : AreLines lines
  pub counted : length lines + 1 ≡ line
  pub rest : List ℕ
  pub cut : text ≡ in_front lines rest
  pub begins : BeginsProgram (in_front lines [])
  pub stops : (this more : List ℕ) → IsLine this → rest ≡ this ++ more → BeginsProgram (in_front lines this) → ⊥

-- what holds of the line, where a text is no program's
abbrev pub IfAt : {A : Type 0} → Result A ReadCRefused → (ℕ → Type 0) → Type 0
IfAt (Ok a) P = Unit {0}
IfAt (Err (At line)) P = P line
IfAt (Err NoMemory) P = Unit {0}
