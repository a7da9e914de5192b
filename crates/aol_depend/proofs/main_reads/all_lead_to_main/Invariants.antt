use Rattle.std.proofs.Common.{◌≡◌, ◌<◌, ℕ, Some, slice_get}
use Rattle.aol_expr_tree.specs.declared.port.Port.{Port}
use Rattle.aol_depend.specs.MainReads.{LeadsToMain}
use Rattle.aol_depend.proofs.main_reads.all_lead_to_main.Given as goal

abbrev pub invariant-loop-port : goal.invariant-loop-port
invariant-loop-port l = (k : ℕ) (p : Port) → k < l.port-index → slice_get l.ports k ≡ Some p → LeadsToMain l.flat.model l.node p.name
