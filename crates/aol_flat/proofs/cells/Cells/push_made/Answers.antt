use Rattle.std.proofs.Common.{false, List, ◌∷◌, [], map, take, Ok, sym, ◌∙◌, ap, subst}
use Rattle.std.proofs.lemmas.List.{take_all, map-append}
use Rattle.aol_expr_tree.specs.declared.port.Port.{Port}
use Rattle.aol_model_types.specs.declared.task.OutPort.{OutPort}
use Rattle.aol_flat.specs.Cells.{PushesPorts}
use Rattle.aol_flat.proofs.Firsts.{ports_more, take_next}
use Rattle.aol_flat.proofs.cells.Cells.push_made.Goals as goal

pub loop-out-preserved : goal.loop-out-preserved
loop-out-preserved c =
    let s = c.args.stand in
    let i = c.loop-out.out-index in
    let o = c.out-item.result in
    let port : OutPort → Port = λ out. out.port in
    let P : List Port → Type 0 = λ ports. PushesPorts s.root s.above.now s.part false c.args.instances ports c.args.self.now c.push_port.new.self (Ok tt) in
    subst P (sym (ap (map port) (take_next c.args.outs.now i o c.loop-out-test.true c.out-item.is) ∙ map-append port (take i c.args.outs.now) (o ∷ [])))
    (ports_more s.root s.above.now s.part false c.args.instances (map port (take i c.args.outs.now)) o.port c.args.self.now c.loop-out.self c.push_port.new.self c.stores.result tt c.loop-out.invariant
    c.stores.ensures c.in_ok-push_port.ensures.firsts c.in_ok-push_port.ensures.count c.push_port.ensures.begins)

pub returns : goal.returns
returns c =
    let s = c.args.stand in
    let port : OutPort → Port = λ out. out.port in
    let P : List OutPort → Type 0 = λ outs. PushesPorts s.root s.above.now s.part false c.args.instances (map port outs) c.args.self.now c.loop-out.self (Ok tt) in
    subst P (take_all c.loop-out.out-index c.args.outs.now c.loop-out-test.false) c.loop-out.invariant
