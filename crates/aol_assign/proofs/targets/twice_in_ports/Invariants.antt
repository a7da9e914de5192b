use Rattle.std.proofs.Common.{◌≡◌, drop, map}
use Rattle.std.specs.Option.{option_copied}
use Rattle.aol_flat.specs.Node.{Node}
use Rattle.aol_flat.specs.Targets.{reshape_target}
use Rattle.aol_assign.specs.Found.{found_in}
use Rattle.aol_assign.proofs.targets.twice_in_ports.Given as goal

abbrev pub invariant-loop-port : goal.invariant-loop-port
invariant-loop-port l =
    (node : Node) → found_in (map (reshape_target node l.task (option_copied l.part)) l.ports) ≡ found_in (map (reshape_target node l.task (option_copied l.part)) (drop l.port-index l.ports))
