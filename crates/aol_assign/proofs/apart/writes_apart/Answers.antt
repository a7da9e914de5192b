use Rattle.std.proofs.Common.{ap, ◌∙◌}
use Rattle.aol_tiler.specs.Matrices.{TilerOf}
use Rattle.aol_assign.proofs.MixedRadix.{apart, moves_by}
use Rattle.aol_assign.proofs.apart.writes_apart.Goals as goal

pub returns : goal.returns
returns c done =
    let b = c.args.member.now in
    let paving = moves_by (c.as_slice.ensures ∙ ap (λ (t : TilerOf). t.paving) c.tiler.view_is) c.as_slice-2.ensures.entries (c.each_moves.ensures c.if-not-each_moves.false) in
    let fitting = moves_by (c.as_slice-3.ensures ∙ ap (λ (t : TilerOf). t.fitting) c.tiler.view_is) c.as_slice-4.ensures.entries (c.each_moves-2.ensures c.if-not-each_moves-2.false) in
    apart b.tiler.now c.args.array.now b.space.now b.pattern.now c.requires.fits (c.all_count.ensures done) paving fitting
