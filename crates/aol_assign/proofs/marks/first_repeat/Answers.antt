use Rattle.std.proofs.Common.{◌∙◌, arith}
use Rattle.aol_assign.proofs.Members.{at_place, marks_all, hit_address, hit_number, hit_told}
use Rattle.aol_assign.proofs.marks.first_repeat.Goals as goal

pub told-requires-clause-within : goal.told-requires-clause-within
told-requires-clause-within c =
    hit_address c.args.array.now c.args.members.now c.loop-member.member-index c.member-item.result (at_place c.args.members.now c.loop-member.member-index c.member-item.result (omega arith) c.member-item.is)
    c.loop-member.marks c.mark.new.marks c.loop-member.invariant.marked c.loop-member.invariant.none c.in-Some.hit c.in-Some.ensures

pub told-requires-clause-pair : goal.told-requires-clause-pair
told-requires-clause-pair c =
    hit_number c.args.array.now c.args.members.now c.loop-member.member-index c.member-item.result (at_place c.args.members.now c.loop-member.member-index c.member-item.result (omega arith) c.member-item.is)
    c.loop-member.marks c.mark.new.marks c.loop-member.invariant.marked c.loop-member.invariant.none c.in-Some.hit c.in-Some.ensures

pub returns-in-Some : goal.returns-in-Some
returns-in-Some c =
    hit_told c.args.array.now c.args.members.now c.loop-member.member-index c.member-item.result (at_place c.args.members.now c.loop-member.member-index c.member-item.result (omega arith) c.member-item.is)
    c.loop-member.marks c.mark.new.marks c.loop-member.invariant.marked c.loop-member.invariant.none c.in-Some.hit c.in-Some.ensures c.told.result c.told.ensures

pub loop-member-preserved : goal.loop-member-preserved
loop-member-preserved c =
    let r =
    marks_all c.args.array.now c.args.members.now c.loop-member.member-index c.member-item.result (at_place c.args.members.now c.loop-member.member-index c.member-item.result (omega arith) c.member-item.is)
    c.loop-member.marks c.mark.new.marks c.loop-member.invariant.marked c.loop-member.invariant.none c.in_default.ensures in
    record { room = c.mark.auto.marks ∙ c.loop-member.invariant.room; marked = r.0; none = r.1 }
