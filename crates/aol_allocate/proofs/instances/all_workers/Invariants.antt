use Rattle.std.proofs.Common.{◌≡◌, ◌++◌, drop}
use Rattle.aol_flat.specs.Instance.{leaves}
use Rattle.aol_allocate.specs.Tables.{rows_workers}
use Rattle.aol_allocate.proofs.instances.all_workers.Given as goal

abbrev pub invariant-loop-number : goal.invariant-loop-number
invariant-loop-number l =
    l.of_instance.items ++ rows_workers l.workers (drop l.number (leaves l.flat.model)) (drop l.number l.rows) ≡ rows_workers l.workers (leaves l.flat.model) l.rows
