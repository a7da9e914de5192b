use Rattle.std.proofs.Common.{false, codes}
use Rattle.aol_vsl.specs.Passing.{literal_goals}
use Rattle.aol_vsl.specs.Reading.{vector_goals}
use Rattle.aol_vsl.proofs.Parts.{passes_then}
use Rattle.aol_vsl.proofs.matrix.past_origin.Goals as goal

pub returns-clause-passes : goal.returns-clause-passes
returns-clause-passes c = passes_then (literal_goals false (codes "(origin=")) vector_goals c.args.text.now 0 c.in_ok-past_literal.field-0 c.past_vector.result c.in_ok-past_literal.ensures.passes c.past_vector.ensures.passes
