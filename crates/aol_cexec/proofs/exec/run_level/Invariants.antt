use Rattle.std.proofs.Common.{◌≡◌, take, Some}
use Rattle.aol_csyn.specs.Meaning.{arrays_of, level_run}
use Rattle.aol_csyn.specs.Stored.{program_of}
use Rattle.aol_cexec.specs.Exec.{workers_in}
use Rattle.aol_cexec.specs.Machine.{state_of}
use Rattle.aol_cexec.proofs.exec.run_level.Given as goal

abbrev pub invariant-loop-place : goal.invariant-loop-place
invariant-loop-place l =
    level_run (program_of l.program) l.level (take l.place (workers_in l.order l.program.workers)) (arrays_of (state_of l.initial.machine)) ≡ Some (arrays_of (state_of l.machine))
