use Rattle.std.proofs.Common.{◌≡◌, ◌+◌, ◌<◌, ◌^◌, drop, map, sum}
use Rattle.aol_csyn.specs.Stored.{step_of}
use Rattle.aol_cexec.specs.Work.{saturated, step_work}
use Rattle.aol_cexec.proofs.work.c_work.Given as goal

abbrev pub invariant-loop-step : goal.invariant-loop-step
invariant-loop-step l = record {
  left : saturated (l.work + sum (map step_work (map step_of (drop l.step-index l.step-items)))) ≡ saturated (sum (map step_work (map step_of l.step-items)));
  fits : l.work < 2 ^ 64;
}
