use Rattle.std.proofs.Common.{arith}
use Rattle.aol_csyn.specs.Meaning.{arrays_of}
use Rattle.aol_csyn.specs.Stored.{program_of}
use Rattle.aol_cexec.specs.Exec.{opened}
use Rattle.aol_cexec.specs.Machine.{state_of}
use Rattle.aol_cexec.proofs.Runs.{level_done}
use Rattle.aol_cexec.proofs.exec.exec_c.Goals as goal

pub loop-level-preserved : goal.loop-level-preserved
loop-level-preserved c =
    level_done (program_of c.args.program.now) c.args.order c.loop-level.level (opened c.args.program.now.cells c.args.memory.now) (arrays_of (state_of c.loop-level.machine)) (arrays_of (state_of c.run_level.new.machine))
    (omega arith) c.loop-level.invariant c.in_ok-run_level.ensures.ran
