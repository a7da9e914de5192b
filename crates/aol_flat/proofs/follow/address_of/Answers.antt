use Rattle.std.proofs.Common.{List, ℕ, sym, subst}
use Rattle.aol_shape.proofs.Points.{point_at-is}
use Rattle.aol_tiler.specs.Makers.{IsAddressed}
use Rattle.aol_flat.proofs.Arrays.{addressed}
use Rattle.aol_flat.proofs.follow.address_of.Goals as goal

pub address-requires : goal.address-requires
address-requires c =
    let P : List ℕ → Type 0 = λ i. IsAddressed c.args.tiler.now c.args.array.now c.args.r.now i in
    subst P (sym c.unrank_into.ensures)
    (addressed c.args.tiler.now c.args.array.now c.args.space.now c.args.pattern.now c.args.r.now _ c.requires.fits c.requires.space c.as_slice.ensures.limits c.requires.repetition
    (point_at-is c.args.pattern.now c.args.x c.requires.element))
