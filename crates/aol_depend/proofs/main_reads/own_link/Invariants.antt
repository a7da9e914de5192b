use Rattle.aol_depend.proofs.main_reads.own_link.Given as goal

abbrev pub invariant-loop-link : goal.invariant-loop-link
invariant-loop-link l = Unit {0}
