use Rattle.std.proofs.Common.{◌≡◌, drop}
use Rattle.aol_csyn.specs.Meaning.{run_all, turns, turn_count}
use Rattle.aol_csyn.specs.Stored.{stmts_of, tables_of}
use Rattle.aol_cexec.specs.Machine.{state_of}
use Rattle.aol_cexec.proofs.run.+statement.Given as goal

abbrev pub invariant-run_for-loop-number : goal.invariant-run_for-loop-number
invariant-run_for-loop-number l =
    turns (turn_count l.a l.b) l.k l.a (run_all (tables_of l.tables) (stmts_of l.body)) (state_of l.initial.machine)
    ≡ turns (turn_count l.number l.b) l.k l.number (run_all (tables_of l.tables) (stmts_of l.body)) (state_of l.machine)

abbrev pub invariant-run_stmts-loop-stmt : goal.invariant-run_stmts-loop-stmt
invariant-run_stmts-loop-stmt l =
    run_all (tables_of l.tables) (stmts_of l.body) (state_of l.initial.machine)
    ≡ run_all (tables_of l.tables) (stmts_of (drop l.stmt-index l.body)) (state_of l.machine)
