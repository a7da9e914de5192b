use Rattle.std.proofs.Common.{map, take}
use Rattle.aol_rules.specs.Names.{Finds}
use Rattle.aol_rules.proofs.agree.names.places_of.Given as goal

abbrev pub invariant-loop-place : goal.invariant-loop-place
invariant-loop-place g l = Finds (map g.T.Named.name (take l.place l.list)) l.places
