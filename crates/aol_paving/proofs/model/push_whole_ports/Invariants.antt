use Rattle.std.proofs.Common.{◌≡◌, ◌++◌, drop, map}
use Rattle.aol_paving.specs.Pave.{whole_port, whole_limit}
use Rattle.aol_paving.proofs.model.push_whole_ports.Given as goal

abbrev pub invariant-loop-crossing : goal.invariant-loop-crossing
invariant-loop-crossing l = record {
  made : l.initial.ports ++ map (whole_port l.space) l.crossings ≡ l.ports ++ map (whole_port l.space) (drop l.crossing-index l.crossings);
  limit : whole_limit l.space l.crossings ≡ whole_limit l.space (drop l.crossing-index l.crossings);
}
