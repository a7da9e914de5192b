use Rattle.std.proofs.Common.{[], ◌∷◌}
use Rattle.aol_vsl.specs.Reading.{sign, first_entry}
use Rattle.aol_vsl.proofs.Parts.{passes_then}
use Rattle.aol_vsl.proofs.recognizer.past_vector.Goals as goal

pub returns-clause-passes : goal.returns-clause-passes
returns-clause-passes c = passes_then (sign 123 ∷ []) (first_entry ∷ []) c.args.text.now c.args.start c.in_ok-past_sign.field-0 c.past_entries.result c.in_ok-past_sign.ensures.passes c.past_entries.ensures.passes
