use Rattle.std.proofs.Common.{List, Some, sym, subst}
use Rattle.aol_expr_tree.specs.declared.port.Port.{Port}
use Rattle.aol_assign.specs.Found.{ReshapesFit}
use Rattle.aol_assign.proofs.targets.twice_in_part.Goals as goal

pub twice_in_ports-requires-clause-fits : goal.twice_in_ports-requires-clause-fits
twice_in_ports-requires-clause-fits c =
    let P : List Port → Type 0 = λ ports. ReshapesFit c.args.task.now (Some c.args.part.now.name) ports in
    subst P (sym c.inputs_named.ensures) c.requires.fits
