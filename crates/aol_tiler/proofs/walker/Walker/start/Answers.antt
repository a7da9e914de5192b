use Rattle.std.proofs.Common.{◌≡◌, ◌*◌, ◌++◌, length, take, ◌∙◌, ap, arith}
use Rattle.aol_tiler.specs.Matrices.{TilerOf}
use Rattle.aol_tiler.specs.Walk.{to_come}
use Rattle.aol_shape.specs.Shape.{size}
use Rattle.aol_tiler.proofs.Started.{started, fitting_even, paving_even}
use Rattle.aol_tiler.proofs.walker.Walker.start.Goals as goal

pub write_columns-requires-clause-even : goal.write_columns-requires-clause-even
write_columns-requires-clause-even c =
    fitting_even c.args.tiler.now c.args.array.now c.args.space.now c.args.pattern.now _ _ c.requires c.as_slice-entries.ensures.entries (c.as_slice-3.ensures ∙ ap (λ (t : TilerOf). t.fitting) c.tiler.view_is)

pub write_columns-requires-2-clause-even : goal.write_columns-requires-2-clause-even
write_columns-requires-2-clause-even c =
    paving_even c.args.tiler.now c.args.array.now c.args.space.now c.args.pattern.now _ _ c.requires c.as_slice-entries.ensures.entries (c.as_slice-5.ensures ∙ ap (λ (t : TilerOf). t.paving) c.tiler.view_is)

pub invariant_of-result : goal.invariant_of-result
invariant_of-result c =
    let b = started c.args.tiler.now c.args.array.now c.args.space.now c.args.pattern.now c.as_slice-entries.result.now c.as_slice-4.result.now c.as_slice-2.result.now c.as_slice-6.result.now
    c.write_moduli.new.moduli c.write_residues.new.places c.as_slice.result.now c.as_slice-3.result.now c.as_slice-5.result.now c.write_columns.new.columns c.write_columns-2.new.columns c.split_at_mut-inner.result.0.now c.split_at_mut-inner.result.1.now
    c.requires c.as_slice-entries.ensures.limits c.as_slice-6.ensures.limits c.as_slice-4.ensures.limits c.as_slice-entries.ensures.entries c.as_slice-4.ensures.entries c.as_slice-2.ensures.entries c.as_slice-6.ensures.entries
    (c.as_slice.ensures.entries ∙ ap (λ (t : TilerOf). t.origin) c.tiler.view_is) (c.as_slice-3.ensures ∙ ap (λ (t : TilerOf). t.fitting) c.tiler.view_is) (c.as_slice-5.ensures ∙ ap (λ (t : TilerOf). t.paving) c.tiler.view_is)
    c.write_moduli.ensures.moduli c.write_residues.ensures.places c.split_at_mut-inner.ensures.front_len c.write_columns.ensures c.split_at_mut-inner.ensures.back c.write_columns-2.ensures in
    (omega (arith, c.as_slice-entries.ensures.limits.rank, ap length c.as_slice-entries.ensures.entries), omega (arith, b.rank, ap length c.as_slice-entries.ensures.entries), b.walk)

pub returns : goal.returns
returns c =
    let b = started c.args.tiler.now c.args.array.now c.args.space.now c.args.pattern.now c.as_slice-entries.result.now c.as_slice-4.result.now c.as_slice-2.result.now c.as_slice-6.result.now
    c.write_moduli.new.moduli c.write_residues.new.places c.as_slice.result.now c.as_slice-3.result.now c.as_slice-5.result.now c.write_columns.new.columns c.write_columns-2.new.columns c.split_at_mut-inner.result.0.now c.split_at_mut-inner.result.1.now
    c.requires c.as_slice-entries.ensures.limits c.as_slice-6.ensures.limits c.as_slice-4.ensures.limits c.as_slice-entries.ensures.entries c.as_slice-4.ensures.entries c.as_slice-2.ensures.entries c.as_slice-6.ensures.entries
    (c.as_slice.ensures.entries ∙ ap (λ (t : TilerOf). t.origin) c.tiler.view_is) (c.as_slice-3.ensures ∙ ap (λ (t : TilerOf). t.fitting) c.tiler.view_is) (c.as_slice-5.ensures ∙ ap (λ (t : TilerOf). t.paving) c.tiler.view_is)
    c.write_moduli.ensures.moduli c.write_residues.ensures.places c.split_at_mut-inner.ensures.front_len c.write_columns.ensures c.split_at_mut-inner.ensures.back c.write_columns-2.ensures in
    let first : c.from.result ≡ size c.args.space.now = c.from.ensures ∙ c.size.ensures.points in
    let last : c.from-2.result ≡ size c.args.pattern.now = c.from-2.ensures ∙ c.size-2.ensures.points in
    ap (λ n. to_come (take (length c.as_slice-entries.result.now) c.write_moduli.new.moduli) n (c.write_columns.new.columns ++ c.write_columns-2.new.columns) (take (length c.as_slice-entries.result.now) c.write_residues.new.places))
    (ap (λ n. n * c.from-2.result) first ∙ ap (λ n. size c.args.space.now * n) last)
    ∙ b.gives
