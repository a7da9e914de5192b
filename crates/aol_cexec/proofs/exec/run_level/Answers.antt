use Rattle.std.proofs.Common.{arith, subst, sym}
use Rattle.std.proofs.lemmas.Result.{err_from_is_err_and}
use Rattle.aol_csyn.specs.Meaning.{arrays_of}
use Rattle.aol_csyn.specs.Stored.{program_of}
use Rattle.aol_cexec.specs.Exec.{IsStuckIn}
use Rattle.aol_cexec.specs.Machine.{state_of}
use Rattle.aol_cexec.proofs.Runs.{worker_done, worker_stuck, workers_done, stuck_from}
use Rattle.aol_cexec.proofs.exec.run_level.Goals as goal

pub returns-in_err-run_worker-clause-stuck : goal.returns-in_err-run_worker-clause-stuck
returns-in_err-run_worker-clause-stuck c =
    let p = err_from_is_err_and c.from_residual.result c.from_residual.ensures.1 in
    stuck_from c.run_worker.result c.from_residual.result c.in_err-run_worker.field-0.0 c.in_err-run_worker.was (rw (p.1, p.2)) c.run_worker.ensures.stuck
    (λ l w h. (
      h.0,
      subst (λ v. IsStuckIn (program_of c.args.program.now) c.args.order c.args.level v (arrays_of (state_of c.args.machine.now))) (sym h.1)
          (worker_stuck (program_of c.args.program.now) c.args.order c.args.level c.loop-place.place c.worker_of-worker.result (arrays_of (state_of c.args.machine.now)) (arrays_of (state_of c.loop-place.machine)) (arrays_of (state_of c.loop-place.machine))
          (omega arith) c.worker_of-worker.ensures c.loop-place.invariant h.2),
    ))

pub loop-place-preserved : goal.loop-place-preserved
loop-place-preserved c =
    worker_done (program_of c.args.program.now) c.args.order c.args.level c.loop-place.place c.worker_of-worker.result (arrays_of (state_of c.args.machine.now)) (arrays_of (state_of c.loop-place.machine)) (arrays_of (state_of c.run_worker.new.machine))
    (omega arith) c.worker_of-worker.ensures c.loop-place.invariant c.in_ok-run_worker.ensures.ran

pub returns-clause-ran : goal.returns-clause-ran
returns-clause-ran c =
    let a = arrays_of (state_of c.loop-place.machine) in
    workers_done (program_of c.args.program.now) c.args.order c.args.level c.loop-place.place 0 (arrays_of (state_of c.args.machine.now)) a a (omega arith) c.loop-place.invariant
