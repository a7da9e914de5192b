-- Why a run came to no end.
use Rattle.std.specs.Prelude.{ℕ, Result, Ok, Err}
use Rattle.aol_cexec.specs.declared.exec.ExecRefused.{ExecRefused}
use Rattle.aol_cexec.specs.declared.exec.ExecRefused.TheVariants.{Stuck, NoMemory}

-- what holds of the level and the worker, where a step is stuck
abbrev pub IfStuck : {A : Type 0} → Result A ExecRefused → (ℕ → ℕ → Type 0) → Type 0
IfStuck (Ok a) P = Unit {0}
IfStuck (Err (Stuck level worker)) P = P level worker
IfStuck (Err NoMemory) P = Unit {0}
