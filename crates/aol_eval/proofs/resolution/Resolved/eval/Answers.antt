use Rattle.std.proofs.Common.{rules, w64, FitsSigned, sym}
use Rattle.std.proofs.lemmas.Int.{to_z-of_z}
use Rattle.std.proofs.Math.Logic.{∥∥₁_elim}
use Rattle.std.proofs.Props.{props}
use Rattle.aol_eval.specs.Resolved.{plan_of}
use Rattle.aol_eval.proofs.Programs.{by_program}
use Rattle.aol_eval.proofs.resolution.Resolved.eval.Goals as goal

pub returns-in-Some : goal.returns-in-Some
returns-in-Some c =
    let fits : FitsSigned w64 c.in-Some.z = search rules in
    let r = c.args.self.now in
    rw (to_z-of_z w64 c.in-Some.z fits)
    (∥∥₁_elim r.same (hlevel props) (λ computes. sym (by_program r.program (plan_of r.root) c.args.nums.now c.args.at.now c.in-Some.z computes c.in-Some.ensures)))
