-- Taking one step more of a list.
use native.Mathlib.Omega.{arith}
use Rattle.std.specs.Prelude.{◌≡◌, ℕ, ◌+◌, suc, ◌<◌, List, ◌∷◌, ◌++◌, take, drop, length, slice_index_or}
use Rattle.std.proofs.Common.{sym, ◌∙◌, ap, subst, ◌≤◌}
use Rattle.std.proofs.Math.ListN.{get_or}
use Rattle.std.proofs.Math.Seq.{split_at}
use Rattle.std.proofs.lemmas.List.{length-take-le, take_all}
use Rattle.aol_model_types.specs.declared.job.Step.{Step}
use Rattle.aol_flat.specs.Accept.{IsAccepted}
use Rattle.aol_flat.specs.Keep.{KeepsOutputs}
use Rattle.aol_flat.specs.Level.{AreWriters}
use Rattle.aol_flat.proofs.Firsts.{take_next}
use Rattle.aol_transform.specs.declared.cause.StepCause.{StepCause}
use Rattle.aol_transform.specs.declared.steps.Transformed.{Transformed}
use Rattle.aol_transform.specs.Steps.{IsKept, IsCause, IsFirstCause, StepsTo, none}
use Rattle.aol_transform.specs.SoFar.{IsSoFar}
use Rattle.aol_transform.proofs.Agree.{one_more}

-- the next step is refused
pub refused_at : {first now : Transformed} {steps : List Step} {number : ℕ} {s : Step} {cause : StepCause} → IsSoFar first steps number now → number < length steps
    → s ≡ slice_index_or steps number s → IsCause now.flat.model s cause → IsFirstCause first.flat.model steps number cause
refused_at {first} {now} {steps} {number} {s} {cause} far inside is why =
    record {
      before = take number steps;
      step = s;
      after = drop (suc number) steps;
      list = split_at steps number s inside ∙ ap (λ x. take number steps ++ x ∷ drop (suc number) steps) (sym is);
      many = sym (length-take-le number steps (omega (arith, inside)));
      made = now.flat.model;
      kept = far.made;
      is_cause = why;
    }

-- the next step is kept
pub kept_at : {first now next : Transformed} {steps : List Step} {number : ℕ} {s : Step} → IsSoFar first steps number now → number < length steps
    → s ≡ slice_index_or steps number s → IsKept now.flat.model s next.flat.model → KeepsOutputs now.flat.model next.flat.model → AreWriters next.flat next.writers
    → IsSoFar first steps (number + 1) next
kept_at {first} {now} {next} {steps} {number} {s} far inside is kept keeps writers =
    record {
      accepted = keeps.accepted;
      writers = writers;
      made = subst (λ xs. StepsTo first.flat.model xs next.flat.model) (sym (take_next steps number s inside is)) (one_more far.made kept);
    }

-- at the start none is taken
pub none_yet : (first : Transformed) (steps : List Step) → IsAccepted first.flat.model → AreWriters first.flat first.writers → IsSoFar first steps 0 first
none_yet first steps accepted writers = record { accepted = accepted; writers = writers; made = none }

-- at the end all are
pub all_taken : {first now : Transformed} {steps : List Step} {number : ℕ} → IsSoFar first steps number now → length steps ≤ number → StepsTo first.flat.model steps now.flat.model
all_taken {first} {now} {steps} {number} far past = subst (λ xs. StepsTo first.flat.model xs now.flat.model) (take_all number steps past) far.made
