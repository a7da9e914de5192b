use Rattle.std.proofs.Common.{◌≡◌, ◌++◌, drop}
use Rattle.std.specs.Option.{option_copied}
use Rattle.aol_change.specs.Blocks.{ports_over, tilers_on, ports_on, shapes_limit}
use Rattle.aol_change.proofs.blocks.push_ports.Given as goal

abbrev pub invariant-loop-tiler : goal.invariant-loop-tiler
invariant-loop-tiler l = record {
  made : (let inner = option_copied l.inner in let ports = ports_on l.side inner in
      l.initial.ports ++ ports_over inner l.block (tilers_on ports l.tilers) ≡ l.ports ++ ports_over inner l.block (tilers_on ports (drop l.tiler-index l.tilers)));
  limit : (let inner = option_copied l.inner in let ports = ports_on l.side inner in
      shapes_limit inner l.block (tilers_on ports l.tilers) ≡ shapes_limit inner l.block (tilers_on ports (drop l.tiler-index l.tilers)));
}
