use Rattle.std.proofs.Common.{◌≡◌, ◌++◌, drop}
use Rattle.aol_paving.specs.Crossings.{crossings}
use Rattle.aol_paving.proofs.crossing.push_ports.Given as goal

abbrev pub invariant-loop-port : goal.invariant-loop-port
invariant-loop-port l = l.initial.into ++ crossings l.task l.inner l.ports ≡ l.into ++ crossings l.task l.inner (drop l.port-index l.ports)
