use Rattle.std.proofs.Common.{◌∙◌, sym}
use Rattle.aol_eval.proofs.Places.{element-here, element-later}
use Rattle.aol_eval.proofs.pattern.pattern_of.Goals as goal

pub loop-port-preserved : goal.loop-port-preserved
loop-port-preserved c at =
    let later = element-later c.args.ins.now c.loop-port.port-index c.port-item.result c.loop-port.rest.now c.args.name.now c.loop-port-test.true c.port-item.is (sym c.are_same.ensures ∙ c.if-are_same.false) at in
    rw (c.behind-rest.ensures, c.size.ensures.points) (c.loop-port.invariant at ∙ later)

pub returns-then-are_same-clause-element : goal.returns-then-are_same-clause-element
returns-then-are_same-clause-element c at =
    let here = element-here c.args.ins.now c.loop-port.port-index c.port-item.result c.loop-port.rest.now c.args.name.now c.loop-port-test.true c.port-item.is (sym c.are_same.ensures ∙ c.if-are_same.true) at in
    rw c.as_slice.ensures.entries (c.loop-port.invariant at ∙ here)
