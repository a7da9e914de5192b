use Rattle.std.proofs.Common.{List, take, Ok, sym, subst}
use Rattle.std.proofs.lemmas.List.{take_all}
use Rattle.aol_expr_tree.specs.declared.port.Port.{Port}
use Rattle.aol_flat.specs.Cells.{PushesPorts}
use Rattle.aol_flat.proofs.Firsts.{ports_more, take_next}
use Rattle.aol_flat.proofs.cells.Cells.push_ports.Goals as goal

pub loop-port-preserved : goal.loop-port-preserved
loop-port-preserved c =
    let s = c.args.stand in
    let i = c.loop-port.port-index in
    let p = c.port-item.result in
    let P : List Port → Type 0 = λ ports. PushesPorts s.root s.above.now s.part c.args.input c.args.instances ports c.args.self.now c.push_port.new.self (Ok tt) in
    subst P (sym (take_next c.args.ports.now i p c.loop-port-test.true c.port-item.is))
    (ports_more s.root s.above.now s.part c.args.input c.args.instances (take i c.args.ports.now) p c.args.self.now c.loop-port.self c.push_port.new.self c.stores.result tt c.loop-port.invariant
    c.stores.ensures c.in_ok-push_port.ensures.firsts c.in_ok-push_port.ensures.count c.push_port.ensures.begins)

pub returns : goal.returns
returns c =
    let s = c.args.stand in
    let P : List Port → Type 0 = λ ports. PushesPorts s.root s.above.now s.part c.args.input c.args.instances ports c.args.self.now c.loop-port.self (Ok tt) in
    subst P (take_all c.loop-port.port-index c.args.ports.now c.loop-port-test.false) c.loop-port.invariant
