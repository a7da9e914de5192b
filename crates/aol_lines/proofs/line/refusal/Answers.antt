use Rattle.std.proofs.Common.{string_bytes, map}
use Rattle.aol_lines.specs.Line.{word_text}
use Rattle.aol_lines.proofs.LineWords.{built}
use Rattle.aol_lines.proofs.line.refusal.Goals as goal

pub returns : goal.returns
returns c = built c.args.status (map word_text c.args.words.now) (string_bytes c.in_ok-text.text) (string_bytes c.push_words.new.text) c.ended.result c.in_ok-text.ensures c.in_ok-push_words.ensures c.ended.ensures
