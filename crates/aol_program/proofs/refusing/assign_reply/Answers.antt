use Rattle.std.proofs.Common.{subst}
use Rattle.aol_assign.specs.Answers.{IsRightlyTold, TwiceIs}
use Rattle.aol_program.specs.ModelAnswer.{ModelRefused}
use Rattle.aol_program.proofs.refusing.assign_reply.Goals as goal
use Rattle.aol_program.proofs.Replies.{made_of}
use Rattle.aol_program.proofs.Tested.{twice_told, read_told, unwritten_told}

pub unwritten_reply-requires : goal.unwritten_reply-requires
unwritten_reply-requires c = read_told _ _ _ _ (subst (IsRightlyTold c.args.flat.now.model) c.in-Unwritten.is c.requires.told).1

pub returns-in-Unwritten : goal.returns-in-Unwritten
returns-in-Unwritten c =
    let told = subst (IsRightlyTold c.args.flat.now.model) c.in-Unwritten.is c.requires.told in
    made_of (ModelRefused c.args.flat.now.model) c.unwritten_reply.result _ c.unwritten_reply.ensures (unwritten_told _ _ _ _ c.requires.bounded told.0 told.1)

pub returns-in-Twice : goal.returns-in-Twice
returns-in-Twice c =
    let m = c.args.flat.now.model in
    let t = c.in-Twice in
    let told : TwiceIs m t.path t.part t.port t.point t.first t.second = subst (IsRightlyTold m) t.is c.requires.told in
    made_of (ModelRefused m) c.twice_reply.result _ c.twice_reply.ensures
    (rw (c.as_str.ensures, c.text_of.ensures, c.as_str-in-Twice.ensures, c.as_slice.ensures.entries) (twice_told m t.path t.part t.port t.point t.first t.second c.requires.bounded told))
