use Rattle.aol_assign.proofs.apart.moves.Given as goal

abbrev pub invariant-loop-entry : goal.invariant-loop-entry
invariant-loop-entry l = Unit {0}
