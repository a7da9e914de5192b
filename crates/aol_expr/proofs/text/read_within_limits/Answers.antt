use Rattle.std.proofs.Common.{sym, subst}
use Rattle.aol_expr_tree.specs.Tree.{IsExpr}
use Rattle.aol_expr.proofs.Spelled.{read_spelled}
use Rattle.aol_expr.proofs.text.read_within_limits.Goals as goal

pub expr_of-requires : goal.expr_of-requires
expr_of-requires c = subst IsExpr (sym c.into_node.ensures.tree) (record {
  spelled = read_spelled c.args.text.now c.in_ok-tree.tree c.in_ok-tree.ensures;
  small = c.into_node.ensures.small;
  shallow = c.into_node.ensures.shallow;
})
