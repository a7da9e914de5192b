use Rattle.std.proofs.Common.{◌≡◌, ℕ, ◌<◌, ◌≤◌, pos, get_or, Ok}
use Rattle.aol_expr_tree.specs.declared.op.ExprOp.TheVariants.{Rem}
use Rattle.aol_expr_tree.specs.Meaning.{applied}
use Rattle.aol_eval.proofs.columns.remainder_each.Given as goal

abbrev pub invariant-loop-k : goal.invariant-loop-k
invariant-loop-k l = record {
  done : (i : ℕ) → i < l.k → applied Rem (get_or l.initial.out i (pos 0)) (get_or l.right i (pos 0)) ≡ Ok (get_or l.out i (pos 0));
  rest : (i : ℕ) → l.k ≤ i → get_or l.out i (pos 0) ≡ get_or l.initial.out i (pos 0);
}
