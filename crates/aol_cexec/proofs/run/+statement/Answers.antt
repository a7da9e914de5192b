use Rattle.std.proofs.Common.{rules, pos, ◌+ℤ◌, ◌<ℤ◌, sym, ◌∙◌, ap, w64, FitsSigned, to_z, of_z}
use Rattle.std.proofs.lemmas.Int.{to_z-of_z}
use Rattle.aol_csyn.specs.Meaning.{run_all, turns, turn_count, with_var}
use Rattle.aol_csyn.specs.Stored.{stmts_of, tables_of}
use Rattle.aol_cexec.specs.Machine.{state_of}
use Rattle.aol_cexec.proofs.Runs.{went, turn_done}
use Rattle.aol_cexec.proofs.run.+statement.Goals as goal

pub run_for-loop-number-preserved : goal.run_for-loop-number-preserved
run_for-loop-number-preserved t c =
    let number = to_z w64 c.loop-number.number-bits in
    let body = run_all (tables_of c.args.tables.now) (stmts_of c.args.body.now) in
    let below : number <ℤ to_z w64 (of_z w64 c.args.b) = search rules in
    let fits : FitsSigned w64 (number +ℤ pos 1) = search rules in
    c.loop-number.invariant
    ∙ turn_done c.args.k body number (to_z w64 (of_z w64 c.args.b)) (state_of c.loop-number.machine) (state_of c.set.new.machine) (state_of c.run_stmts.new.machine) below
    (went (with_var c.args.k number (state_of c.loop-number.machine)) c.set.result (state_of c.set.new.machine) c.set.ensures c.if-not-set.false)
    (went (body (state_of c.set.new.machine)) c.run_stmts.result (state_of c.run_stmts.new.machine) c.run_stmts.ensures c.if-not-run_stmts.false)
    ∙ ap (λ z. turns (turn_count z (to_z w64 (of_z w64 c.args.b))) c.args.k z body (state_of c.run_stmts.new.machine)) (sym (to_z-of_z w64 (number +ℤ pos 1) fits))
