use Rattle.std.proofs.Common.{◌≡◌, ◌+◌, ◌++◌, drop, length}
use Rattle.aol_fusion_parts.specs.Whole.{moved_tilers}
use Rattle.aol_fusion_parts.proofs.whole.push_moved.Given as goal

abbrev pub invariant-loop-port : goal.invariant-loop-port
invariant-loop-port l = record {
  count : l.number ≡ length l.first + l.port-index;
  made : l.initial.made ++ moved_tilers l.two l.at.side (length l.at.before.now) l.at.outer.now (length l.first) l.ports
      ≡ l.made ++ moved_tilers l.two l.at.side (length l.at.before.now) l.at.outer.now l.number (drop l.port-index l.ports);
}
