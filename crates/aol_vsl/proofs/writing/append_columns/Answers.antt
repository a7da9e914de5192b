use Rattle.std.proofs.Common.{string_bytes}
use Rattle.aol_vsl.specs.Text.{vector_text}
use Rattle.aol_vsl.proofs.Written.{opened_more}
use Rattle.aol_vsl.proofs.writing.append_columns.Goals as goal

pub loop-before-preserved : goal.loop-before-preserved
loop-before-preserved c =
    let more = opened_more vector_text c.args.columns.now c.loop-before.before c.index-columns-before.result (string_bytes c.args.text.now) c.loop-before-test.true in
    cc (c.in_ok-append_entries.ensures, c.in_ok-append_separator.ensures, c.as_slice.ensures.entries, c.index-columns-before.is, c.loop-before.invariant)
