use Rattle.std.proofs.Common.{refl, sym, subst}
use Rattle.aol_lower.specs.Contract.{AreWellFormed, LeaveValue}
use Rattle.aol_lower.specs.Stored.{trees_of}
use Rattle.aol_lower.proofs.Made.{if_ok_map, made_formed, made_value}
use Rattle.aol_lower.proofs.lower.lower_expr.Goals as goal

pub returns-clause-value : goal.returns-clause-value
returns-clause-value c = if_ok_map c.lower_tree.result (λ body made. made_value c.args.reads c.args.ins.now c.args.rank c.args.d c.args.e.now (trees_of body) c.lower_tree.ensures.limits made) c.lower_tree.ensures.made

pub returns-clause-formed : goal.returns-clause-formed
returns-clause-formed c = if_ok_map c.lower_tree.result (λ body made. made_formed c.args.reads c.args.ins.now c.args.rank c.args.d c.args.e.now (trees_of body) c.lower_tree.ensures.limits c.requires.above made) c.lower_tree.ensures.made
