use Rattle.std.proofs.Common.{subst, sym}
use Rattle.aol_vsl.specs.Answers.{Gives}
use Rattle.aol_vsl.specs.Text.{vector_grammar}
use Rattle.aol_vsl.specs.Reading.{vector_reading}
use Rattle.aol_vsl.proofs.Answered.{right_of}
use Rattle.aol_vsl.proofs.Grammars.{vector_right}
use Rattle.aol_vsl.proofs.vector.read_vector.Goals as goal

pub returns-clause-right : goal.returns-clause-right
returns-clause-right c = right_of vector_grammar c.args.text.now c.vector_by.result (vector_reading c.args.text.now) (rw c.as_bytes.ensures.value at c.vector_by.ensures.read) (vector_right c.args.text.now)
