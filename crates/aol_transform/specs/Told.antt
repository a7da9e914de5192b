-- The answer of one step's crate among those of all steps.
use Rattle.std.specs.Prelude.{◌≡◌, ◌≢◌, Result, Ok, Err}
use Rattle.aol_flat.specs.Laid.{Laid}
use Rattle.aol_change.specs.declared.refused.StepRefused.{StepRefused}
use Rattle.aol_change.specs.declared.refused.StepRefused.TheVariants as refusing
use Rattle.aol_change.specs.declared.remap.Remap.{Remap}
use Rattle.aol_transform.specs.declared.cause.StepCause.{StepCause}
use Rattle.aol_transform.specs.declared.cause.StepCause.TheVariants.{NoResult, NoMemory}

-- a result stays; a cause is told as one of a step; want of memory is want of memory
abbrev pub IsToldAs : Result (Laid × Remap) StepRefused → Result (Laid × Remap) StepCause → Type 0
IsToldAs (Ok made) (Ok told) = told ≡ made
IsToldAs (Ok made) (Err cause) = ⊥
IsToldAs (Err why) (Ok told) = ⊥
IsToldAs (Err why) (Err NoMemory) = why ≡ refusing.NoMemory
IsToldAs (Err why) (Err (NoResult told)) = (told ≡ why) × (why ≢ refusing.NoMemory)
IsToldAs (Err why) (Err cause) = ⊥
