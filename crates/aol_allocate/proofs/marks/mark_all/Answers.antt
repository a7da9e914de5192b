use Rattle.std.proofs.Common.{◌∙◌}
use Rattle.aol_allocate.proofs.Missing.{nothing_marked}
use Rattle.aol_allocate.proofs.Marking.{IsNext, marking_starts, marking_next}
use Rattle.aol_allocate.proofs.marks.mark_all.Goals as goal

pub loop-point-init : goal.loop-point-init
loop-point-init c =
    marking_starts c.args.entry.now c.args.workers c.args.space.now c.args.marks.now c.start-from.result c.start-to.result (c.requires.empty ∙ nothing_marked c.args.entry.now c.args.workers c.args.space.now) c.start-from.ensures c.start-to.ensures

pub bounds-marks-point : goal.bounds-marks-point
bounds-marks-point c =
    (marking_next c.args.entry.now c.args.workers c.args.space.now c.loop-point.marks c.loop-point.from c.in-Some.point c.next.new.self c.loop-point.to c.requires.from c.requires.shape
    c.requires.some c.requires.bound c.loop-point.invariant c.in-Some.ensures).within

pub returns-then-mark : goal.returns-then-mark
returns-then-mark c =
    let next : IsNext c.args.entry.now c.args.workers c.args.space.now c.loop-point.marks c.in-Some.point c.next.new.self c.loop-point.to =
    marking_next c.args.entry.now c.args.workers c.args.space.now c.loop-point.marks c.loop-point.from c.in-Some.point c.next.new.self c.loop-point.to c.requires.from c.requires.shape
    c.requires.some c.requires.bound c.loop-point.invariant c.in-Some.ensures in
    (next.few, next.again c.if-mark.true)

pub loop-point-preserved : goal.loop-point-preserved
loop-point-preserved c =
    (marking_next c.args.entry.now c.args.workers c.args.space.now c.loop-point.marks c.loop-point.from c.in-Some.point c.next.new.self c.loop-point.to c.requires.from c.requires.shape
    c.requires.some c.requires.bound c.loop-point.invariant c.in-Some.ensures).goes_on c.in-Some-next.processor c.next-in-Some.new.self c.in-Some-next.ensures c.if-mark.false
