use Rattle.std.proofs.Common.{rules, ◌<◌, length, sym, w64, FitsSigned, arith}
use Rattle.std.proofs.lemmas.Int.{to_z-of_z}
use Rattle.aol_eval.proofs.Programs.{follows-more, follows-all}
use Rattle.aol_eval.proofs.program.outcome_in.Goals as goal

pub loop-k-preserved : goal.loop-k-preserved
loop-k-preserved c =
    let fits : FitsSigned w64 c.in_ok-z.z = search rules in
    let inside : c.loop-k.k < length c.loop-k.given = first_of (omega arith, search rules, grind arith) in
    rw (to_z-of_z w64 c.in_ok-z.z fits) (follows-more c.as_slice-operations.result.now c.args.nums.now c.args.at.now c.loop-k.given c.loop-k.k _ c.in_ok-z.z c.loop-k.invariant inside c.in_ok-z.ensures)

pub returns : goal.returns
returns c =
    let all = rw c.as_slice-operations.ensures at (follows-all c.as_slice-operations.result.now c.args.nums.now c.args.at.now c.loop-k.given c.loop-k.k c.loop-k.invariant (first_of (omega arith, search rules))) in
    let fits : FitsSigned w64 c.number.result = search rules in
    rw (to_z-of_z w64 c.number.result fits) (c.loop-k.given, (all, sym c.number.ensures))
