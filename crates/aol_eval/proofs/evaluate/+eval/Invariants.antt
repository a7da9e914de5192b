use Rattle.std.proofs.Common.{◌≡◌, drop, Ok, ◌∷◌}
use Rattle.aol_eval.specs.Inputs.{given_of}
use Rattle.aol_expr_tree.specs.Meaning.{value, summed}
use Rattle.aol_expr_tree.specs.Node.{tree_of, trees_of}
use Rattle.aol_eval.specs.Places.{IsPlace}
use Rattle.aol_expr_tree.specs.Tree.{read}
use Rattle.aol_eval.specs.Vars.{vars_of}
use Rattle.aol_eval.proofs.Evaluation.{read_on}
use Rattle.aol_eval.proofs.evaluate.+eval.Given as goal

abbrev pub invariant-element_of-loop-index : goal.invariant-element_of-loop-index
invariant-element_of-loop-index l = record {
  place : IsPlace l.place;
  left : value (given_of l.inputs) (vars_of l.vars) (read l.port (trees_of l.indices)) ≡ read_on (given_of l.inputs) (vars_of l.vars) l.nums l.place (trees_of (drop l.index-index l.indices));
}

abbrev pub invariant-sum_of-loop-k : goal.invariant-sum_of-loop-k
invariant-sum_of-loop-k l = summed (λ k. value (given_of l.inputs) ((l.name, k) ∷ vars_of l.vars) (tree_of l.term)) l.k ≡ Ok l.sum
