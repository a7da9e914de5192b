use Rattle.std.proofs.Common.{◌≡◌, w64, FitsSigned}
use Rattle.std.proofs.lemmas.Int.{to_z-of_z}
use Rattle.aol_csyn.specs.Meaning.{turn_count}
use Rattle.aol_csyn.specs.Stored.{stmts_of}
use Rattle.aol_cexec.specs.Work.{stmts_work}
use Rattle.aol_cexec.proofs.Works.{for_saturated}
use Rattle.aol_cexec.proofs.work.+work.Goals as goal

pub work_of_for-returns : goal.work_of_for-returns
work_of_for-returns t c =
    let fits_a : FitsSigned w64 c.args.a = c.ranges.a in
    let fits_b : FitsSigned w64 c.args.b = c.ranges.b in
    let turns : c.turns_of.result ≡ turn_count c.args.a c.args.b = simp (to_z-of_z w64) at c.turns_of.ensures in
    for_saturated c.args.a c.args.b (stmts_work (stmts_of c.args.body.now)) _ _ _ _ _ c.work_of_stmts.ensures c.saturating_add-body.ensures turns c.saturating_mul.ensures c.saturating_add.ensures
