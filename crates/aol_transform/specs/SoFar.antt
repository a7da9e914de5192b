-- How far a list of steps has been taken.
use Rattle.std.specs.Prelude.{ℕ, List, take}
use Rattle.aol_model_types.specs.declared.job.Step.{Step}
use Rattle.aol_flat.specs.Accept.{IsAccepted}
use Rattle.aol_flat.specs.Level.{AreWriters}
use Rattle.aol_transform.specs.declared.steps.Transformed.{Transformed}
use Rattle.aol_transform.specs.Steps.{StepsTo}

-- so many steps were kept, and have made this model
pub record IsSoFar (first : Transformed) (steps : List Step) (number : ℕ) (now : Transformed) : Type 0 where
  pub accepted : IsAccepted now.flat.model
  pub writers : AreWriters now.flat now.writers
  pub made : StepsTo first.flat.model (take number steps) now.flat.model
