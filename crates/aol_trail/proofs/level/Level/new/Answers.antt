use Rattle.std.proofs.Common.{◌∙◌, ap}
use Rattle.aol_tiler.specs.Matrices.{TilerOf}
use Rattle.aol_trail.proofs.Levels.{small_point, level_made}
use Rattle.aol_trail.proofs.level.Level.new.Goals as goal

pub write_residues-requires-clause-indices : goal.write_residues-requires-clause-indices
write_residues-requires-clause-indices c = small_point c.args.space.now c.args.r.now c.as_slice-space.ensures.limits.entry c.requires.inside

pub invariant_of-result : goal.invariant_of-result
invariant_of-result c =
    level_made c.args.tiler.now c.args.array.now c.args.space.now c.args.pattern.now c.args.r.now c.as_slice-entries.result.now c.write_moduli.new.moduli c.write_residues.new.places c.write_step.new.step c.in_ok-offsets.offsets.items
    c.in_ok-from_slice.field-0.items _ _ _ _ _ _ c.as_slice-entries.ensures.limits c.as_slice-space.ensures.limits c.as_slice-pattern.ensures.limits c.requires.fits c.requires.inside c.as_slice-entries.ensures.entries
    (c.as_slice.ensures.entries ∙ ap (λ (t : TilerOf). t.origin) c.tiler.view_is) (c.as_slice-paving.ensures ∙ ap (λ (t : TilerOf). t.paving) c.tiler.view_is) (c.as_slice-2.ensures ∙ ap (λ (t : TilerOf). t.fitting) c.tiler.view_is)
    c.write_moduli.ensures.moduli c.write_residues.ensures.places c.write_step.ensures c.in_ok-offsets.ensures c.in_ok-from_slice.ensures.items
