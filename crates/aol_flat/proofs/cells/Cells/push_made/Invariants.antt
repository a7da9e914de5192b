use Rattle.std.proofs.Common.{false, map, take, Ok}
use Rattle.aol_model_types.specs.declared.task.OutPort.{OutPort}
use Rattle.aol_flat.specs.Cells.{PushesPorts}
use Rattle.aol_flat.proofs.cells.Cells.push_made.Given as goal

abbrev pub invariant-loop-out : goal.invariant-loop-out
invariant-loop-out l = PushesPorts l.stand.root l.stand.above.now l.stand.part false l.instances (map (λ (o : OutPort). o.port) (take l.out-index l.outs)) l.initial.self l.self (Ok tt)
