use Rattle.std.proofs.Common.{take, Ok}
use Rattle.aol_flat.specs.Cells.{PushesPorts}
use Rattle.aol_flat.proofs.cells.Cells.push_ports.Given as goal

abbrev pub invariant-loop-port : goal.invariant-loop-port
invariant-loop-port l = PushesPorts l.stand.root l.stand.above.now l.stand.part l.input l.instances (take l.port-index l.ports) l.initial.self l.self (Ok tt)
