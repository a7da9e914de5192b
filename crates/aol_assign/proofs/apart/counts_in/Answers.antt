use Rattle.std.proofs.Common.{length, get_or, ap, ◌∙◌}
use Rattle.aol_tiler.specs.Matrices.{TilerOf}
use Rattle.aol_tiler.proofs.Addresses.{fits-parts, paving_long, fitting_long}
use Rattle.aol_assign.proofs.MixedRadix.{count_by, long_by, some_by}
use Rattle.aol_assign.proofs.apart.counts_in.Goals as goal

pub count_in-requires-clause-long : goal.count_in-requires-clause-long
count_in-requires-clause-long c =
    let b = c.args.member.now in
    let parts = fits-parts b.tiler.now c.args.array.now b.space.now b.pattern.now c.requires.fits.fits in
    long_by c.args.k (c.as_slice-fitting.ensures ∙ ap (λ (t : TilerOf). t.fitting) c.tiler.view_is) (fitting_long b.tiler.now (length c.args.array.now) c.args.k parts.over c.requires.within)

pub count_in-requires-clause-some : goal.count_in-requires-clause-some
count_in-requires-clause-some c = some_by c.as_slice-2.ensures.entries c.requires.fits.pattern_shape

pub count_in-requires-2-clause-long : goal.count_in-requires-2-clause-long
count_in-requires-2-clause-long c =
    let b = c.args.member.now in
    let parts = fits-parts b.tiler.now c.args.array.now b.space.now b.pattern.now c.requires.fits.fits in
    long_by c.args.k (c.as_slice-paving.ensures ∙ ap (λ (t : TilerOf). t.paving) c.tiler.view_is) (paving_long b.tiler.now (length c.args.array.now) c.args.k parts.over c.requires.within)

pub count_in-requires-2-clause-some : goal.count_in-requires-2-clause-some
count_in-requires-2-clause-some c = some_by c.as_slice-3.ensures.entries c.requires.fits.space_shape

pub returns : goal.returns
returns c done =
    let b = c.args.member.now in
    count_by b.tiler.now c.args.array.now b.space.now b.pattern.now c.args.k _ _ _ _ c.in-Some.inner c.in-Some-count_in._outer _ (c.as_slice-fitting.ensures ∙ ap (λ (t : TilerOf). t.fitting) c.tiler.view_is)
    (c.as_slice-paving.ensures ∙ ap (λ (t : TilerOf). t.paving) c.tiler.view_is) c.as_slice-2.ensures.entries c.as_slice-3.ensures.entries c.in-Some.ensures.counts c.in-Some-count_in.ensures.counts c.in-Some-count_in.ensures.below
    (c.from-limit.ensures ∙ ap (λ ns. get_or ns c.args.k 0) c.as_slice.ensures.entries)
