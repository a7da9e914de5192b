-- What a resolved expression computes.
use Rattle.std.specs.Prelude.{ℕ, ℤ, List, [], Result}
use Rattle.aol_eval.specs.declared.resolution.Resolved.{Resolved}
use Rattle.aol_expr_tree.specs.declared.value.Kind.{Kind}
use Rattle.aol_eval.specs.Resolved.{plan_of, run}

-- from the patterns and the output point, outside any sum
abbrev pub computed : Resolved → List ℤ → List ℕ → Result ℤ Kind
computed r nums at = run nums at [] (plan_of r.root)
