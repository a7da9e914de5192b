use Rattle.std.proofs.Common.{◌<◌, ◌^◌, length, sym, ◌∙◌, arith}
use Rattle.aol_assign.specs.Pairs.{member_writings}
use Rattle.aol_assign.proofs.Members.{writings_walked, writings_inside, few_writings}
use Rattle.aol_assign.proofs.Marking.{seeking_begins, seeks_more, sought_found, seeking_ends, sought_within}
use Rattle.aol_assign.proofs.marks.found.Goals as goal

pub loop-address-init : goal.loop-address-init
loop-address-init c =
    let array = c.args.array.now in
    let b = c.args.member.now in
    seeking_begins array (member_writings array b) c.args.x c.requires.within c.start-walker.result (writings_walked array b ∙ sym c.start-walker.ensures)

pub returns-then-address-x : goal.returns-then-address-x
returns-then-address-x c =
    let array = c.args.array.now in
    let b = c.args.member.now in
    sought_found array (member_writings array b) c.args.x c.requires.within (writings_inside array b c.requires.fits) c.loop-address.number c.in-Some.address c.loop-address.walker c.next.new.self
    c.loop-address.invariant c.in-Some.ensures c.if-address-x.true

pub overflow_add-number : goal.overflow_add-number
overflow_add-number c =
    let array = c.args.array.now in
    let b = c.args.member.now in
    let within : c.loop-address.number < length (member_writings array b) =
    sought_within array (member_writings array b) c.args.x c.requires.within (writings_inside array b c.requires.fits) c.loop-address.number c.in-Some.address c.loop-address.walker c.next.new.self
    c.loop-address.invariant c.in-Some.ensures in
    let few : length (member_writings array b) < 2 ^ 64 = few_writings array b c.requires.fits in
    omega (arith, within, few)

pub loop-address-preserved : goal.loop-address-preserved
loop-address-preserved c =
    let array = c.args.array.now in
    let b = c.args.member.now in
    seeks_more array (member_writings array b) c.args.x c.requires.within (writings_inside array b c.requires.fits) c.loop-address.number c.in-Some.address c.loop-address.walker c.next.new.self
    c.loop-address.invariant c.in-Some.ensures c.if-address-x.false

pub returns : goal.returns
returns c =
    seeking_ends c.args.array.now (member_writings c.args.array.now c.args.member.now) c.args.x c.requires.within c.loop-address.number c.loop-address.walker
    c.loop-address.invariant c.in_default.ensures.0
