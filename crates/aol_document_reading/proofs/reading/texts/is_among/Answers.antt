use Rattle.std.proofs.Common.{List, ℕ, Bor, sym, ◌∙◌}
use Rattle.aol_shape.specs.Lists.{same}
use Rattle.aol_document_reading.proofs.Tasks.{any_mapped}
use Rattle.aol_document_reading.proofs.reading.texts.is_among.Goals as goal

pub returns : goal.returns
returns c = c.is_one_of.ensures ∙ sym (any_mapped (same c.args.kind.now) (λ (k : Bor (List ℕ)). k.now) c.args.kinds.now)
