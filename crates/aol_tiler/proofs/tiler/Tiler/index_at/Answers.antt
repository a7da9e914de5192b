use Rattle.std.proofs.Common.{ap, ◌∙◌, arith}
use Rattle.std.proofs.lemmas.Int.{to_z-of_z}
use Rattle.aol_tiler.specs.Matrices.{TilerOf}
use Rattle.aol_tiler.proofs.Addresses.{paving_long, fitting_long, entry-place}
use Rattle.aol_tiler.proofs.tiler.Tiler.index_at.Goals as goal

pub entry_at-reference-requires-clause-long : goal.entry_at-reference-requires-clause-long
entry_at-reference-requires-clause-long c =
    rw (c.as_slice-2.ensures ∙ ap (λ (t : TilerOf). t.paving) c.self.view_is) (paving_long _ _ _ c.requires.addressed.over c.requires.dimension)

pub entry_at-element-requires-clause-long : goal.entry_at-element-requires-clause-long
entry_at-element-requires-clause-long c =
    rw (c.as_slice-3.ensures ∙ ap (λ (t : TilerOf). t.fitting) c.self.view_is) (fitting_long _ _ _ c.requires.addressed.over c.requires.dimension)

pub returns-clause-index : goal.returns-clause-index
returns-clause-index c = grind (arith, to_z-of_z, entry-place)
