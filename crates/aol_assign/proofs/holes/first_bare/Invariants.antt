use Rattle.std.proofs.Common.{◌≡◌, ◌+◌, ◌-◌, not}
use Rattle.std.specs.List.{position_from}
use Rattle.aol_assign.specs.Holes.{is_given_by, cells_from}
use Rattle.aol_assign.proofs.holes.first_bare.Given as goal

abbrev pub invariant-loop-number : goal.invariant-loop-number
invariant-loop-number l =
    position_from (λ r. not (is_given_by l.list l.inputs r)) 0 (cells_from l.inputs l.count)
    ≡ position_from (λ r. not (is_given_by l.list l.inputs r)) l.number (cells_from (l.inputs + l.number) (l.count - l.number))
