use Rattle.aol_flat.proofs.Among.{among_get}
use Rattle.aol_flat.proofs.Stepping.{steps_none, steps_more, steps_all}
use Rattle.aol_flat.proofs.below.steps_in.Goals as goal

pub loop-part-init : goal.loop-part-init
loop-part-init c = steps_none c.args.from.model.now c.args.parts.now c.args.counts.now c.alone-steps.result.own c.alone-steps.result.count c.alone-steps.ensures.own c.alone-steps.ensures.count

pub loop-part-preserved : goal.loop-part-preserved
loop-part-preserved c =
    let i = c.loop-part.part-index in
    let part = c.part-item.result in
    steps_more c.args.from.model.now c.args.parts.now c.args.counts.now i part c.loop-part.steps.own c.push.new.self c.loop-part.steps.count c.count_named.result c.saturating_add.result
    c.loop-part-test.true c.part-item.is (among_get c.args.parts.now i part c.loop-part-test.true c.part-item.is) c.loop-part.invariant c.in_ok-push.ensures.ok c.count_named.ensures c.saturating_add.ensures

pub returns : goal.returns
returns c =
    steps_all c.args.from.model.now c.args.parts.now c.args.counts.now c.loop-part.part-index c.loop-part.steps.own c.loop-part.steps.count
    c.loop-part-test.false c.loop-part.auto.part-index-end c.loop-part.invariant
