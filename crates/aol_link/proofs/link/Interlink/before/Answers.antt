use Rattle.std.proofs.Common.{ℕ, length, sym, ◌∙◌, ap}
use Rattle.aol_link.proofs.Outside.{length-point}
use Rattle.aol_link.proofs.link.Interlink.before.Goals as goal

pub step_back-requires-clause-indices : goal.step_back-requires-clause-indices
step_back-requires-clause-indices c = length-point _ _ c.requires.linked.repetition ∙ ap (length {A = ℕ}) (sym c.as_slice-entries.ensures.entries)
