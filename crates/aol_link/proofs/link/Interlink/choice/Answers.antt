use Rattle.std.proofs.Common.{ℕ, length, sym, ◌∙◌, ap}
use Rattle.aol_link.proofs.Outside.{length-point}
use Rattle.aol_link.proofs.link.Interlink.choice.Goals as goal

pub first_for-requires-clause-indices : goal.first_for-requires-clause-indices
first_for-requires-clause-indices c = length-point _ _ c.requires.linked.repetition ∙ ap (length {A = ℕ}) (sym c.as_slice-2.ensures.entries)
