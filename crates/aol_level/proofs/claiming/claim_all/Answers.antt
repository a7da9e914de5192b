use Rattle.std.proofs.Common.{rules, ◌∙◌, refl}
use Rattle.aol_level.proofs.Claimed.{moved_over, can_next, without_next}
use Rattle.aol_level.proofs.claiming.claim_all.Goals as goal

pub loop-plan-preserved : goal.loop-plan-preserved
loop-plan-preserved c =
    let inv = c.loop-plan.invariant in
    let js = c.loop-plan.jobs.items in
    let more = c.push.new.self.items in
    let ps = c.loop-plan.plan-iterator.rest.items in
    let less = c.next.new.self.rest.items in
    let plan = c.in-Some.plan in
    let taken = c.in-Some.ensures.steps.0 in
    let grown = c.in-Ok.ensures.items in
    record {
      name = c.claim-share.ensures.name.1 ∙ inv.name;
      parts = moved_over (λ j. j.part) (λ p. p.part) js more ps less _ plan _ grown taken refl inv.parts;
      shares = moved_over (λ j. j.share.cells) (λ p. p.cells) js more ps less _ plan _ grown taken c.claim-share.ensures.cells inv.shares;
      names = search rules;
      as_many = search rules;
      can = can_next (λ p. p.cells) ps less plan taken c.loop-plan.rest.cells c.claim-share.new.self.cells c.claim-share.ensures.rest inv.can;
      cells = without_next (λ p. p.cells) ps less plan taken c.loop-plan.rest.cells c.claim-share.new.self.cells c.claim-share.ensures.rest ∙ inv.cells;
      room = search rules;
    }
