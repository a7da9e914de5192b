use Rattle.std.proofs.Common.{◌≡◌, Some, length, slice_get, ap, sym, ◌∙◌, arith}
use Rattle.std.proofs.lemmas.Option.{slice_get-get_or}
use Rattle.aol_assign.proofs.Unrepeated.{one_apart}
use Rattle.aol_assign.proofs.marks.are_apart.Goals as goal

pub returns : goal.returns
returns c done =
    let members = c.args.members.now in
    let one : length members ≡ 1 = omega (arith, c.if-members-ne1.false) in
    let at : slice_get members 0 ≡ Some c.index-members-0.result = slice_get-get_or members 0 c.index-members-0.result (omega (arith, one)) ∙ ap Some (sym c.index-members-0.is) in
    one_apart c.args.array.now members c.index-members-0.result one at c.requires (c.writes_apart.ensures done)
