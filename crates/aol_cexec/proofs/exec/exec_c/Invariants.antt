use Rattle.std.proofs.Common.{◌≡◌, take, Some}
use Rattle.aol_csyn.specs.Meaning.{arrays_of, levels_run}
use Rattle.aol_csyn.specs.Stored.{program_of}
use Rattle.aol_cexec.specs.Exec.{orders_in, opened}
use Rattle.aol_cexec.specs.Machine.{state_of}
use Rattle.aol_cexec.proofs.exec.exec_c.Given as goal

abbrev pub invariant-loop-level : goal.invariant-loop-level
invariant-loop-level l =
    levels_run (program_of l.program) 0 (take l.level (orders_in l.order (program_of l.program))) (opened l.program.cells l.memory) ≡ Some (arrays_of (state_of l.machine))
