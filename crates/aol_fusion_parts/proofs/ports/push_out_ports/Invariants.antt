use Rattle.std.proofs.Common.{◌≡◌, ◌++◌, drop, map}
use Rattle.aol_expr_tree.specs.declared.port.Port.{Port}
use Rattle.aol_model_types.specs.declared.task.OutPort.{OutPort}
use Rattle.aol_fusion_parts.proofs.ports.push_out_ports.Given as goal

abbrev pub invariant-loop-out : goal.invariant-loop-out
invariant-loop-out l =
    let port : OutPort → Port = λ o. o.port in
    l.initial.made ++ map port l.outs ≡ l.made ++ map port (drop l.out-index l.outs)
