use Rattle.std.proofs.Common.{false, codes}
use Rattle.aol_vsl.specs.Passing.{literal_goals}
use Rattle.aol_vsl.specs.Reading.{matrix_goals}
use Rattle.aol_vsl.proofs.Parts.{passes_then}
use Rattle.aol_vsl.proofs.matrix.past_fitting.Goals as goal

pub returns-clause-passes : goal.returns-clause-passes
returns-clause-passes c = passes_then (literal_goals false (codes ",fitting=")) matrix_goals c.args.text.now c.args.start c.in_ok-past_literal.field-0 c.past_matrix.result c.in_ok-past_literal.ensures.passes c.past_matrix.ensures.passes
