use Rattle.std.proofs.Common.{◌≡◌, ◌++◌, take, map, string_bytes}
use Rattle.aol_lines.specs.Line.{word_text, after_blanks}
use Rattle.aol_lines.proofs.line.push_words.Given as goal

-- the words so far
abbrev pub invariant-loop-word : goal.invariant-loop-word
invariant-loop-word l = string_bytes l.text ≡ string_bytes l.initial.text ++ after_blanks (map word_text (take l.word-index l.words))
