use Rattle.std.proofs.Common.{◌≡◌, not, drop}
use Rattle.std.specs.List.{position_from}
use Rattle.aol_assign.specs.Holes.{is_given_by}
use Rattle.aol_assign.proofs.holes.first_hole.Given as goal

abbrev pub invariant-loop-number : goal.invariant-loop-number
invariant-loop-number l =
    position_from (λ r. not (is_given_by l.list l.inputs r)) 0 l.reads ≡ position_from (λ r. not (is_given_by l.list l.inputs r)) l.number (drop l.number l.reads)
