use Rattle.std.proofs.Common.{length, get_or, sym, ap, ◌∙◌, arith}
use Rattle.aol_scatter.proofs.Places.{length-held, get_or-held}
use Rattle.aol_scatter.proofs.lending.Field.get.Goals as goal

pub get-requires : goal.get-requires
get-requires g c =
    let cs = c.self.inside.part.cells in let all = c.self.invariant.5 in
    (sym c.self.invariant.0, all c.args.k (omega (arith, length-held cs all, ap length c.self.view_is, c.requires)))

pub returns : goal.returns
returns g c = let r = c.get.result.now in
    sym (get_or-held c.self.inside.part.cells c.args.k r r c.self.invariant.5 c.get.ensures) ∙ ap (λ l. get_or l c.args.k r) c.self.view_is
