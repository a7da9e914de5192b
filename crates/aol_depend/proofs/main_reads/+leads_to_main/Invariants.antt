use Rattle.aol_depend.proofs.main_reads.+leads_to_main.Given as goal

abbrev pub decreases-leads_to_main : goal.decreases-leads_to_main
decreases-leads_to_main l = l.number
