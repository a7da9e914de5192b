-- A placement as contracts see it.
use Rattle.std.specs.Prelude.{ℕ, List}

-- the worker of each instance in order, and how many workers there are
pub record InstanceWorkers : Type 0 where
  pub of_instance : List ℕ
  pub workers : ℕ
