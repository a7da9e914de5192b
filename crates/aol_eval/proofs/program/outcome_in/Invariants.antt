use Rattle.aol_eval.specs.Programs.{FollowsUpTo}
use Rattle.aol_eval.proofs.program.outcome_in.Given as goal

abbrev pub invariant-loop-k : goal.invariant-loop-k
invariant-loop-k l = FollowsUpTo l.k l.operations l.nums l.at l.given
