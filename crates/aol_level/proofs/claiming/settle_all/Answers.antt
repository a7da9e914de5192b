use Rattle.std.proofs.Common.{length, get_or, ◌∙◌, subst, arith, Contains}
use Rattle.aol_scatter.specs.Cells.{cell, AreApart}
use Rattle.aol_scatter.proofs.Settling.{one_more, last_at, before_it, after}
use Rattle.aol_level.specs.Made.{IsHand}
use Rattle.aol_level.proofs.claiming.settle_all.Goals as goal

pub loop-job-preserved : goal.loop-job-preserved
loop-job-preserved c =
    let all = c.args.jobs.items in let cur = c.loop-job.jobs.items in let left = c.pop.new.self.items in let job = c.in-Some.job in let m = length left in
    let r = c.loop-job.rest.cells in let q = c.settle-cells.new.self.cells in let inv = c.loop-job.invariant in
    let ends = c.in-Some.ensures.items in let at = last_at all cur left job ends inv.2 inv.1 in let more = one_more all cur left job ends inv.2 inv.1 in (
      c.settle-cells.ensures.name ∙ inv.0,
      omega (arith, more, inv.1),
      before_it all cur left job ends inv.2 inv.1,
      after (λ j. j.share.cells) (λ j. j.share.values) (λ k. cell r k) (λ k. cell q k) all m job at c.settle-cells.ensures.values c.settle-cells.ensures.others
          (λ w d lt below. subst (λ j. AreApart j.share.cells (get_or all w d).share.cells) (at d) (c.requires.apart m w d lt below)) (λ w d le lt. inv.3 w d (omega (arith, le, more)) lt),
      λ k out. c.settle-cells.ensures.others k (subst (λ j. ¬ Contains j.share.cells k) (at job) (out m job (omega arith) (omega (arith, more, inv.1)))) ∙ inv.4 k (λ w d le lt. out w d (omega (arith, le, more)) lt),
      c.settle-cells.ensures.len ∙ inv.5,
      λ f pool own. c.keep.ensures f (inv.6 f pool own) (subst (λ j. IsHand f j.part.hand) (at job) (own m job (omega (arith, more, inv.1)))),
    )

pub returns-clause-others : goal.returns-clause-others
returns-clause-others c = λ k out. c.loop-job.invariant.4 k (λ w d le lt. out w d lt)
