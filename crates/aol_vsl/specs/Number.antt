-- Numbers and lexemes as the code reads them.
use Rattle.std.specs.Prelude.{◌≡◌, ℕ, ◌-◌, ℤ, pos, neg_ℤ, List, [], ◌∷◌, take, drop, Option, Some, None, if◌then◌else◌}
use Rattle.aol_shape.specs.Grammar.{Lexeme, lexemes_from}
use Rattle.aol_vsl.specs.Reading.{joins}
use Rattle.aol_vsl.specs.declared.number.Number.{Number}
use Rattle.aol_vsl.specs.declared.lexeme.Found.{Found}

-- the number of a sign and a magnitude
abbrev pub number_value : Number → ℤ
number_value n = if n.negative then neg_ℤ (pos n.magnitude) else pos n.magnitude

-- the lexeme that was found in a text
abbrev pub lexeme_of : List ℕ → Found → Lexeme
lexeme_of text found = record { start = found.start; text = take (found.end - found.start) (drop found.start text) }

-- the lexemes of a text from a place on
abbrev pub lexemes_at : List ℕ → ℕ → List Lexeme
lexemes_at text place = lexemes_from joins place (drop place text)

-- the next lexeme of a text from a place on, and those after it
abbrev pub Finds : List ℕ → ℕ → Option Found → Type 0
Finds text place (Some found) = lexemes_at text place ≡ lexeme_of text found ∷ lexemes_at text found.end
Finds text place None = lexemes_at text place ≡ []
