use Rattle.std.proofs.Common.{◌∷◌, drop}
use Rattle.aol_expr_tree.specs.Meaning.{summed}
use Rattle.aol_eval.specs.Frames.{numbers_of}
use Rattle.aol_eval.specs.Programs.{Makes}
use Rattle.aol_eval.specs.Resolved.{plan_of, plans_of, run}
use Rattle.aol_eval.proofs.Programs.{MakesRank}
use Rattle.aol_eval.proofs.compile.+compile.Given as goal

abbrev pub invariant-read_operand-loop-k : goal.invariant-read_operand-loop-k
invariant-read_operand-loop-k l = MakesRank l.initial.operations l.operations (numbers_of l.vars) l.shape l.start (plans_of l.indices) l.rank l.entries (plans_of (drop l.k l.indices))

abbrev pub invariant-sum_operand-loop-k : goal.invariant-sum_operand-loop-k
invariant-sum_operand-loop-k l = Makes l.initial.operations l.operations (λ nums at given. summed (λ k. run nums at (k ∷ numbers_of l.vars) (plan_of l.term)) l.k) l.sum
