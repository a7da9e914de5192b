use Rattle.std.proofs.Common.{string_bytes}
use Rattle.aol_lines.specs.declared.status.StatusKind.TheVariants as statuses
use Rattle.aol_lines.specs.Refused.{reading_words}
use Rattle.aol_lines.proofs.LineWords.{built}
use Rattle.aol_lines.proofs.refused.unwritten_reply.Goals as goal

pub returns : goal.returns
returns c =
    built statuses.Unwritten (reading_words c.args.flat.now.model c.args.reader c.args.port c.args.point) (string_bytes c.in_ok-text.text) (string_bytes c.push_reading.new.text) c.ended.result
    c.in_ok-text.ensures c.in_ok-push_reading.ensures c.ended.ensures
