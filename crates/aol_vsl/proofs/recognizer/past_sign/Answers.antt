use Rattle.aol_vsl.proofs.Parts.{passes_sign}
use Rattle.aol_vsl.proofs.recognizer.past_sign.Goals as goal

pub returns-clause-passes : goal.returns-clause-passes
returns-clause-passes c = passes_sign _ _ _ _ _ c.requires.no_blank c.past_blanks.ensures.blanks c.past_blanks.ensures.end c.past_byte.ensures.passes
