-- Lists of proposed steps: what they make of a model where each is kept, and the first that isn't.
use Rattle.std.specs.Prelude.{◌≡◌, ◌≢◌, ℕ, List, [], ◌∷◌, ◌++◌, length, Option, Some, None}
use Rattle.aol_model_types.specs.declared.document.Model.{Model}
use Rattle.aol_model_types.specs.declared.job.Step.{Step}
use Rattle.aol_model_types.specs.declared.job.Step.TheVariants as steps
use Rattle.aol_model_types.specs.Rules.{task_named}
use Rattle.aol_flat.specs.Accept.{IsSound, IsAccepted}
use Rattle.aol_flat.specs.Instance.{Instance}
use Rattle.aol_flat.specs.Keep.{AreAlike, Keeps, KeepsOutputs}
use Rattle.aol_flat.specs.Limits.{IsBounded}
use Rattle.aol_flat.specs.Targets.{IsSingleAssignment}
use Rattle.aol_assign.specs.Answers.{IsTwiceTold}
use Rattle.aol_assign.specs.declared.refused.AssignRefused.TheVariants as assigning
use Rattle.aol_change.specs.Change.{Stepped, Changed, Refused, IsMapOf}
use Rattle.aol_change.specs.declared.refused.StepRefused.TheVariants as refusing
use Rattle.aol_tiling.specs.Tile.{tile, tiled_from}
use Rattle.aol_paving.specs.Pave.{pave, paved_from}
use Rattle.aol_equiv.specs.Answers.{IsRightlyLost}
use Rattle.aol_equiv.specs.declared.lost.Lost.TheVariants as losing
use Rattle.aol_transform.specs.declared.cause.StepCause.{StepCause}
use Rattle.aol_transform.specs.declared.cause.StepCause.TheVariants.{Unbuilt, NoResult, Twice, Lost, NoMemory}

-- ---- one step

-- what a step makes of a model; nothing where its kind isn't built
abbrev pub proposed : Model → Step → Option Stepped
proposed m (steps.Tile task outer block) = Some (tile m task outer block)
proposed m (steps.Pave task args) = Some (pave m task args.outer args.block)
proposed m _ = None

-- the old instance of one of the model that a step makes
abbrev pub step_origin : Model → Step → Model → Instance → Instance
step_origin m (steps.Tile task outer block) next i = tiled_from (task_named m.tasks task) m block next i
step_origin m (steps.Pave task args) next i = paved_from (task_named m.tasks task) m args.block next i
step_origin m _ next i = i

-- a step makes this model, which is sound, and within the limits
pub record IsProposed (m : Model) (s : Step) (next : Model) : Type 0 where
  pub makes : proposed m s ≡ Some (Changed next)
  pub sound : IsSound next
  pub bounded : IsBounded next

-- the map of a step's instances
pub record IsStepMap (m : Model) (s : Step) (next : Model) (old_of : List ℕ) : Type 0 where
  pub map : IsMapOf m next (step_origin m s next) old_of
  pub alike : AreAlike m next old_of

-- a step is kept: by the map of its instances the model that it makes keeps the old one
pub record IsKept (m : Model) (s : Step) (next : Model) : Type 0 where
  pub proposed : IsProposed m s next
  pub old_of : List ℕ
  pub map : IsStepMap m s next old_of
  pub keeps : Keeps m next old_of

-- why a step isn't kept; want of memory has no cause in it
abbrev pub IsCause : Model → Step → StepCause → Type 0
IsCause m s Unbuilt = proposed m s ≡ None
IsCause m s (NoResult why) = (proposed m s ≡ Some (Refused why)) × (why ≢ refusing.NoMemory)
IsCause m s (Twice next e) = IsProposed m s next.model × IsTwiceTold next.model e × (e ≢ assigning.NoMemory)
IsCause m s (Lost old next e) = (old.model ≡ m) × IsProposed m s next.model × IsSingleAssignment next.model × ((old_of : List ℕ) × IsStepMap m s next.model old_of × IsRightlyLost m next.model old_of e) × (e ≢ losing.NoMemory)
IsCause m s NoMemory = Unit {0}

-- ---- a list of steps

-- each step is kept, of the model that those before it have made
pub data StepsTo : Model → List Step → Model → Type 0 where
  none : {m : Model} → StepsTo m [] m
  more : {m next last : Model} {s : Step} {rest : List Step} → IsKept m s next → StepsTo next rest last → StepsTo m (s ∷ rest) last

-- so many steps are kept, and for this cause the next one isn't
pub record IsFirstCause (m : Model) (steps : List Step) (number : ℕ) (cause : StepCause) : Type 0 where
  pub before : List Step
  pub step : Step
  pub after : List Step
  pub list : steps ≡ before ++ step ∷ after
  pub many : number ≡ length before
  pub made : Model
  pub kept : StepsTo m before made
  pub is_cause : IsCause made step cause

-- a model that kept steps have made is accepted, and its solutions have the first one's main outputs
abbrev pub KeptStepsAgree : Type 0
KeptStepsAgree = (m last : Model) (list : List Step) → IsSound m → IsAccepted m → StepsTo m list last → KeepsOutputs m last
