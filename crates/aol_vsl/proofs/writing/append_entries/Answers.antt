use Rattle.std.proofs.Common.{string_bytes}
use Rattle.aol_vsl.proofs.Written.{opened_more}
use Rattle.aol_vsl.proofs.writing.append_entries.Goals as goal

pub loop-before-preserved : goal.loop-before-preserved
loop-before-preserved g c =
    let more = opened_more g.I.Integer.text c.args.entries.now c.loop-before.before c.index-entries-before.result (string_bytes c.args.text.now) c.loop-before-test.true in
    cc (c.in_ok-push_str.ensures.bytes, c.in_ok-append_separator.ensures, c.format.ensures.text, c.index-entries-before.is, c.loop-before.invariant)
