use Rattle.std.proofs.Common.{◌≡◌, ◌+◌, ◌<◌, ◌^◌, drop}
use Rattle.aol_csyn.specs.Stored.{stmts_of}
use Rattle.aol_cexec.specs.Work.{saturated, stmts_work}
use Rattle.aol_cexec.proofs.work.+work.Given as goal

abbrev pub invariant-work_of_stmts-loop-stmt : goal.invariant-work_of_stmts-loop-stmt
invariant-work_of_stmts-loop-stmt l = record {
  left : saturated (l.work + stmts_work (stmts_of (drop l.stmt-index l.body))) ≡ saturated (stmts_work (stmts_of l.body));
  fits : l.work < 2 ^ 64;
}
