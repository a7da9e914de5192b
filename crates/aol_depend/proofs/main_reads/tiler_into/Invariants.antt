use Rattle.aol_depend.proofs.main_reads.tiler_into.Given as goal

abbrev pub invariant-loop-on : goal.invariant-loop-on
invariant-loop-on l = Unit {0}
