use Rattle.std.proofs.Common.{[], ◌∷◌}
use Rattle.aol_vsl.specs.Reading.{sign, first_column}
use Rattle.aol_vsl.proofs.Parts.{passes_then}
use Rattle.aol_vsl.proofs.matrix.past_matrix.Goals as goal

pub returns-clause-passes : goal.returns-clause-passes
returns-clause-passes c = passes_then (sign 123 ∷ []) (first_column ∷ []) c.args.text.now c.args.start c.in_ok-past_sign.field-0 c.past_columns.result c.in_ok-past_sign.ensures.passes c.past_columns.ensures.passes
