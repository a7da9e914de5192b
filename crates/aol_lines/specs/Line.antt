-- The words of a line.
use Rattle.std.specs.Prelude.{ℕ, List, ◌++◌, flat_map, codes, decimal}
use Rattle.std.specs.Fmt.{signed_decimal}
use Rattle.aol_vsl.specs.Text.{shape_text}
use Rattle.aol_model_types.specs.Places.{place_text, limit_text}
use Rattle.aol_lines.specs.declared.line.Word.{Word}
use Rattle.aol_lines.specs.declared.line.Word.TheVariants.{Text, Number, Count, Integer, Point, Place, Limit}

-- the text of a word
abbrev pub word_text : Word → List ℕ
word_text (Text t) = t.now
word_text (Number n) = decimal n
word_text (Count n) = decimal n
word_text (Integer n) = signed_decimal n
word_text (Point p) = shape_text p.now
word_text (Place p) = place_text p.now
word_text (Limit name) = limit_text name

-- a word after a blank
abbrev pub blank_before : List ℕ → List ℕ
blank_before word = codes " " ++ word

-- words, each after a blank
abbrev pub after_blanks : List (List ℕ) → List ℕ
after_blanks words = flat_map blank_before words
