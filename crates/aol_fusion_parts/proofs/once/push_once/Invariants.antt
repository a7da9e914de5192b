use Rattle.std.proofs.Common.{◌≡◌, ◌++◌, drop, map, Option}
use Rattle.aol_shape.specs.declared.limit.LimitName.{LimitName}
use Rattle.aol_shape.specs.Lists.{first_some}
use Rattle.aol_expr_tree.specs.declared.port.Port.{Port}
use Rattle.aol_fusion_parts.specs.Joined.{pick_to}
use Rattle.aol_fusion_parts.specs.Made.{once_port, once_port_limit}
use Rattle.aol_fusion_parts.proofs.once.push_once.Given as goal

abbrev pub invariant-loop-port : goal.invariant-loop-port
invariant-loop-port l = record {
  made : l.initial.made ++ map (once_port l.block l.sources l.picks) l.ports ≡ l.made ++ map (once_port l.block l.sources l.picks) (drop l.port-index l.ports);
  limit : (let limit : Port → Option LimitName = λ v. once_port_limit l.block l.sources (pick_to l.picks v.name) in
      first_some (map limit l.ports) ≡ first_some (map limit (drop l.port-index l.ports)));
}
