use Rattle.std.proofs.Common.{arith}
use Rattle.aol_expr_tree.specs.Node.{trees_of}
use Rattle.aol_expr_tree.proofs.Nodes.{nodes_counted}
use Rattle.aol_lower.proofs.Rooms.{count_fits}
use Rattle.aol_lower.proofs.lower.count_of.Goals as goal

pub overflow_cast-result : goal.overflow_cast-result
overflow_cast-result c =
    let counted = nodes_counted c.args.nodes.now in
    let fits = count_fits (trees_of c.args.nodes.now) in
    omega (arith, counted, fits, c.len.ensures, c.requires)

pub returns-clause-within : goal.returns-clause-within
returns-clause-within c =
    let counted = nodes_counted c.args.nodes.now in
    let fits = count_fits (trees_of c.args.nodes.now) in
    omega (arith, counted, fits, c.len.ensures, c.requires)
