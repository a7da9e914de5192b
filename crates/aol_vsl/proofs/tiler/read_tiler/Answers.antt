use Rattle.aol_vsl.specs.Text.{tiler_grammar}
use Rattle.aol_vsl.specs.Reading.{tiler_reading}
use Rattle.aol_vsl.proofs.Answered.{right_of}
use Rattle.aol_vsl.proofs.TilerGrammar.{tiler_right}
use Rattle.aol_vsl.proofs.tiler.read_tiler.Goals as goal

pub returns-clause-right : goal.returns-clause-right
returns-clause-right c = right_of tiler_grammar c.args.text.now c.tiler_by.result (tiler_reading c.args.text.now) (rw c.as_bytes.ensures.value at c.tiler_by.ensures.read) (tiler_right c.args.text.now)
