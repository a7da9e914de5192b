use Rattle.std.proofs.Common.{true, List, Ok, refl, subst}
use Rattle.aol_expr_tree.specs.declared.port.Port.{Port}
use Rattle.aol_flat.specs.Cells.{PushesPorts}
use Rattle.aol_flat.proofs.Firsts.{node_there}
use Rattle.aol_flat.proofs.cells.Cells.push_node.Goals as goal

pub returns : goal.returns
returns c =
    let s = c.args.stand in
    let P : List Port → Type 0 = λ ports. PushesPorts s.root s.above.now s.part true c.args.instances ports c.args.self.now c.push_ports.new.self (Ok tt) in
    node_there s.root s.above.now s.part c.args.instances c.args.task.now c.args.self.now c.push_ports.new.self c.push_outputs.new.self (record c.push_outputs.new.self { begins = c.push.new.self }) tt tt
    c.len-ins.result c.len-outs.result c.len-ins.ensures (subst P c.inputs.ensures c.in_ok-push_ports.ensures) c.len-outs.ensures c.in_ok-push_outputs.ensures refl refl c.in_ok-push.ensures.ok
