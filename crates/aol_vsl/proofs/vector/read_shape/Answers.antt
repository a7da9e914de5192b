use Rattle.std.proofs.Common.{subst, sym}
use Rattle.aol_vsl.specs.Answers.{Gives}
use Rattle.aol_vsl.specs.Text.{shape_grammar}
use Rattle.aol_vsl.specs.Reading.{shape_reading}
use Rattle.aol_vsl.proofs.Answered.{right_of}
use Rattle.aol_vsl.proofs.Grammars.{shape_right}
use Rattle.aol_vsl.proofs.vector.read_shape.Goals as goal

pub returns-clause-right : goal.returns-clause-right
returns-clause-right c = right_of shape_grammar c.args.text.now c.shape_by.result (shape_reading c.args.text.now) (rw c.as_bytes.ensures.value at c.shape_by.ensures.read) (shape_right c.args.text.now)
