use Rattle.std.proofs.Common.{length, get_or, ◌∙◌, subst, arith, Contains}
use Rattle.aol_scatter.specs.Cells.{cell, AreApart}
use Rattle.aol_scatter.proofs.Settling.{one_more, last_at, before_it, after}
use Rattle.aol_scatter.proofs.lending.Rest.settle_all.Goals as goal

pub loop-share-preserved : goal.loop-share-preserved
loop-share-preserved g c =
    let all = c.args.shares.items in let cur = c.loop-share.shares.items in let left = c.pop.new.self.items in let share = c.in-Some.share in let m = length left in
    let r = c.loop-share.self.cells in let q = c.settle-cells.new.self.cells in let inv = c.loop-share.invariant in
    let ends = c.in-Some.ensures.items in let at = last_at all cur left share ends inv.2 inv.1 in let more = one_more all cur left share ends inv.2 inv.1 in (
      c.settle-cells.ensures.name ∙ inv.0,
      omega (arith, more, inv.1),
      before_it all cur left share ends inv.2 inv.1,
      after (λ s. s.cells) (λ s. s.values) (λ k. cell r k) (λ k. cell q k) all m share at c.settle-cells.ensures.values c.settle-cells.ensures.others
          (λ w d lt below. subst (λ s. AreApart s.cells (get_or all w d).cells) (at d) (c.requires.apart m w d lt below)) (λ w d le lt. inv.3 w d (omega (arith, le, more)) lt),
      λ k out. c.settle-cells.ensures.others k (subst (λ s. ¬ Contains s.cells k) (at share) (out m share (omega arith) (omega (arith, more, inv.1)))) ∙ inv.4 k (λ w d le lt. out w d (omega (arith, le, more)) lt),
      c.settle-cells.ensures.len ∙ inv.5,
    )

pub returns-clause-others : goal.returns-clause-others
returns-clause-others g c = λ k out. c.loop-share.invariant.4 k (λ w d le lt. out w d lt)
