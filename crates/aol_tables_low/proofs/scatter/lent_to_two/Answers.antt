use Rattle.std.proofs.Common.{get_or, sym, ap, ◌∙◌, subst, arith}
use Rattle.aol_scatter.specs.Cells.{is_listed, IsHeld}
use Rattle.aol_scatter.proofs.Places.{any_default, unlisted}
use Rattle.aol_scatter.proofs.Settling.{not_both, begun_held, claimed_held, settled_held}
use Rattle.aol_tables_low.proofs.scatter.lent_to_two.Goals as goal

pub claim-one-requires-clause-unclaimed : goal.claim-one-requires-clause-unclaimed
claim-one-requires-clause-unclaimed g c = λ j d lt. begun_held c.args.field c.begin-rest.result.cells c.begin-rest.ensures.cells (get_or c.args.evens j d) (c.requires.within.0 j d lt)

pub claim-two-requires-clause-unclaimed : goal.claim-two-requires-clause-unclaimed
claim-two-requires-clause-unclaimed g c = λ j d lt.
    let evens = c.args.evens in let odds = c.args.odds in let r = c.begin-rest.result.cells in let k = get_or odds j d in
    let out = unlisted k evens (not_both evens odds k c.requires.apart (j, lt, any_default odds j k d lt)) in
    subst (λ cs. IsHeld cs k) (sym c.claim-one.ensures.rest) (claimed_held r evens k out (begun_held c.args.field r c.begin-rest.ensures.cells k (c.requires.within.1 j d lt)))

pub finish-requires : goal.finish-requires
finish-requires g c =
    let r = c.begin-rest.result.cells in let one = c.put_both.new.evens in let two = c.put_both.new.odds in
    let evens_are = c.put_both.ensures.evens.1 ∙ c.claim-one.ensures.cells in let odds_are = c.put_both.ensures.odds.1 ∙ c.claim-two.ensures.cells in
    let name = c.settle-odds.ensures.name ∙ c.settle-evens.ensures.name ∙ c.claim-two.ensures.name.1 ∙ c.claim-one.ensures.name.1 in
    let long = ap (λ v. v.len) name ∙ c.begin-rest.ensures.len in λ k lt.
    settled_held c.settle-evens.new.self.cells c.settle-odds.new.self.cells two.cells two.values c.settle-odds.ensures.values c.settle-odds.ensures.others k (λ not_odd.
    settled_held c.claim-two.new.self.cells c.settle-evens.new.self.cells one.cells one.values c.settle-evens.ensures.values c.settle-evens.ensures.others k (λ not_even.
    subst (λ cs. IsHeld cs k) (sym c.claim-two.ensures.rest) (claimed_held c.claim-one.new.self.cells c.args.odds k (ap (λ l. is_listed k l) (sym odds_are) ∙ not_odd)
    (subst (λ cs. IsHeld cs k) (sym c.claim-one.ensures.rest) (claimed_held r c.args.evens k (ap (λ l. is_listed k l) (sym evens_are) ∙ not_even) (begun_held c.args.field r c.begin-rest.ensures.cells k (omega (arith, lt, long))))))))
