use Rattle.std.proofs.Common.{sym, ◌∙◌}
use Rattle.aol_expr_tree.specs.Node.{tree_of}
use Rattle.aol_eval.specs.declared.inputs.Inputs.{Inputs}
use Rattle.aol_eval.specs.declared.vars.Vars.TheVariants.{Unbound}
use Rattle.aol_eval.specs.Inputs.{given_of}
use Rattle.aol_eval.specs.Vars.{vars_of}
use Rattle.aol_eval.proofs.NoRange.{value_is_no_range}
use Rattle.aol_eval.proofs.evaluate.eval.Goals as goal

pub returns-clause-no_range : goal.returns-clause-no_range
returns-clause-no_range c e =
    let inputs : Inputs = record { ins = c.args.ins; nums = c.args.nums; at = c.args.at } in
    value_is_no_range (given_of inputs) (vars_of Unbound) (tree_of c.root.result.now) (sym c.value_of.ensures ∙ e)
