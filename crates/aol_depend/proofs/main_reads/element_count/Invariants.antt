use Rattle.std.proofs.Common.{◌≡◌, [], length, take}
use Rattle.aol_flat.specs.Place.{elements_of}
use Rattle.aol_depend.proofs.main_reads.element_count.Given as goal

abbrev pub invariant-loop-port : goal.invariant-loop-port
invariant-loop-port l = l.count ≡ length (elements_of [] (take l.port-index l.ports))
