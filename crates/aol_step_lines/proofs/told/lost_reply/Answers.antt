use Rattle.std.proofs.Common.{◌≡◌, [], ◌∷◌, ◌++◌, codes, decimal, string_bytes}
use Rattle.aol_lines.specs.declared.status.StatusKind.TheVariants.{Transform}
use Rattle.aol_lines.specs.Refused.{reading_words}
use Rattle.aol_lines.proofs.LineWords.{added_both, built}
use Rattle.aol_step_lines.specs.Words.{end_words}
use Rattle.aol_step_lines.proofs.told.lost_reply.Goals as goal

pub returns : goal.returns
returns c =
    let start = decimal c.args.step ∷ codes "lost" ∷ [] in
    let reading = reading_words c.args.next.now.model c.args.reader c.args.port c.args.point in
    let rest = codes "needs" ∷ end_words c.args.old.now.model c.args.required in
    let first = string_bytes c.in_ok-text.text in
    let second = string_bytes c.push_words.new.text in
    let third = string_bytes c.push_reading.new.text in
    let fourth = string_bytes c.push_words-2.new.text in
    let last = string_bytes c.push_end.new.text in
    let from_third = added_both third fourth last (codes "needs" ∷ []) (end_words c.args.old.now.model c.args.required) c.in_ok-push_words-2.ensures c.in_ok-push_end.ensures in
    let from_second = added_both second third last reading rest c.in_ok-push_reading.ensures from_third in
    built Transform (start ++ reading ++ rest) first last c.ended.result c.in_ok-text.ensures (added_both first second last start (reading ++ rest) c.in_ok-push_words.ensures from_second) c.ended.ensures
