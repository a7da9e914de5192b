-- What the parts of a step answer.
use Rattle.std.specs.Prelude.{◌≡◌, ◌⊎◌, List, [], ◌∷◌, ◌++◌, Option, Some, None, Result, Ok, Err}
use Rattle.aol_shape.specs.declared.limit.LimitName.{LimitName}
use Rattle.aol_model_types.specs.declared.document.Model.{Model}
use Rattle.aol_change.specs.declared.refused.StepRefused.{StepRefused}
use Rattle.aol_change.specs.declared.refused.StepRefused.TheVariants.{Limit, NoMemory}
use Rattle.aol_change.specs.Change.{Stepped, Changed, Refused}

-- no limit is passed; else it is this one; or want of memory
abbrev pub IsWithin : {X : Type 0} → Result X StepRefused → Option LimitName → Type 0
IsWithin (Ok x) limit = limit ≡ None
IsWithin (Err (Limit l)) limit = limit ≡ Some l
IsWithin (Err NoMemory) limit = Unit {0}
IsWithin (Err _) limit = ⊥

-- the step's new model, or its first cause, or want of memory
abbrev pub IsStep : Result Model StepRefused → Stepped → Type 0
IsStep (Ok m) step = step ≡ Changed m
IsStep (Err NoMemory) step = Unit {0}
IsStep (Err cause) step = step ≡ Refused cause

-- the list without its last element, or the empty list
abbrev pub MatchesLast : {X : Type 0} → List X → List X → Type 0
MatchesLast {X} old new = ((old ≡ []) × (new ≡ [])) ⊎ ((last : X) × (old ≡ new ++ last ∷ []))
