use Rattle.std.proofs.Common.{◌<◌, ◌^◌, length, sym, ◌∙◌, refl, arith}
use Rattle.aol_shape.specs.Shape.{size}
use Rattle.aol_assign.specs.Pairs.{member_writings}
use Rattle.aol_assign.proofs.Members.{writings_walked, writings_inside, few_writings}
use Rattle.aol_assign.proofs.Marking.{marking_begins, marks_more, marked_already, marking_ends, address_within, number_within}
use Rattle.aol_assign.proofs.marks.mark.Goals as goal

pub loop-address-init : goal.loop-address-init
loop-address-init c =
    let array = c.args.array.now in
    let b = c.args.member.now in
    marking_begins array (member_writings array b) c.args.marks.now c.start-walker.result c.requires.room (writings_walked array b ∙ sym c.start-walker.ensures)

pub bounds-marks-address : goal.bounds-marks-address
bounds-marks-address c =
    let array = c.args.array.now in
    let ws = member_writings array c.args.member.now in
    let within : c.in-Some.address < size array =
    address_within array ws c.args.marks.now (writings_inside array c.args.member.now c.requires.fits) c.loop-address.number c.in-Some.address c.loop-address.walker c.next.new.self c.loop-address.marks
    c.loop-address.invariant c.in-Some.ensures in
    omega (arith, within, c.loop-address.invariant.room)

pub returns-then-marks-address : goal.returns-then-marks-address
returns-then-marks-address c =
    let array = c.args.array.now in
    let ws = member_writings array c.args.member.now in
    marked_already array ws c.args.marks.now (writings_inside array c.args.member.now c.requires.fits) c.loop-address.number c.in-Some.address c.loop-address.walker c.next.new.self c.loop-address.marks
    c.loop-address.invariant c.in-Some.ensures c.if-marks-address.true (record { number = c.loop-address.number; address = c.in-Some.address }) refl refl c.loop-address.marks

pub bounds-marks-address-in-Some : goal.bounds-marks-address-in-Some
bounds-marks-address-in-Some c =
    let array = c.args.array.now in
    let ws = member_writings array c.args.member.now in
    let within : c.in-Some.address < size array =
    address_within array ws c.args.marks.now (writings_inside array c.args.member.now c.requires.fits) c.loop-address.number c.in-Some.address c.loop-address.walker c.next.new.self c.loop-address.marks
    c.loop-address.invariant c.in-Some.ensures in
    omega (arith, within, c.loop-address.invariant.room)

pub overflow_add-number : goal.overflow_add-number
overflow_add-number c =
    let array = c.args.array.now in
    let ws = member_writings array c.args.member.now in
    let within : c.loop-address.number < length ws =
    number_within array ws c.args.marks.now (writings_inside array c.args.member.now c.requires.fits) c.loop-address.number c.in-Some.address c.loop-address.walker c.next.new.self c.loop-address.marks
    c.loop-address.invariant c.in-Some.ensures in
    let few : length ws < 2 ^ 64 = few_writings array c.args.member.now c.requires.fits in
    omega (arith, within, few)

pub loop-address-preserved : goal.loop-address-preserved
loop-address-preserved c =
    let array = c.args.array.now in
    let ws = member_writings array c.args.member.now in
    marks_more array ws c.args.marks.now (writings_inside array c.args.member.now c.requires.fits) c.loop-address.number c.in-Some.address c.loop-address.walker c.next.new.self c.loop-address.marks
    c.loop-address.invariant c.in-Some.ensures c.if-marks-address.false

pub returns : goal.returns
returns c =
    marking_ends c.args.array.now (member_writings c.args.array.now c.args.member.now) c.args.marks.now c.loop-address.number c.loop-address.walker c.loop-address.marks
    c.loop-address.invariant c.in_default.ensures.0
