-- Kept steps keep the outputs.
use Rattle.std.specs.Prelude.{◌≡◌, refl, List, [], ◌∷◌, ◌++◌}
use Rattle.std.proofs.Common.{sym, ◌∙◌, subst}
use Rattle.std.specs.List.{IsAmong, AllByRecursion}
use Rattle.aol_model_types.specs.declared.document.Model.{Model}
use Rattle.aol_model_types.specs.declared.job.Step.{Step}
use Rattle.aol_flat.specs.Accept.{IsSound, IsAccepted}
use Rattle.aol_flat.specs.Equation.{Valuation, IsSolution}
use Rattle.aol_flat.specs.Inputs.{InputsFit, IsGivenFor}
use Rattle.aol_flat.specs.Keep.{KeepsOutputs}
use Rattle.aol_flat.specs.Laid.{main_output_elements}
use Rattle.aol_flat.specs.Place.{elements_of}
use Rattle.aol_flat.specs.Tasks.{main_inputs, main_outputs}
use Rattle.aol_flat.specs.Reads.{by_caller}
use Rattle.aol_flat.proofs.Elements.{read_values_agree}
use Rattle.aol_flat.proofs.KeptAccepted.{kept_models_agree}
use Rattle.aol_flat.proofs.Solved.{solution_exists}
use Rattle.aol_transform.specs.Steps.{IsKept, StepsTo, none, more, KeptStepsAgree}

-- an accepted model keeps its own outputs
pub keeps_own : (m : Model) → IsSound m → IsAccepted m → KeepsOutputs m m
keeps_own m sound accepted =
    record { accepted = accepted; outputs = λ inputs v w fit sv sw p among. read_values_agree m sound accepted inputs w v fit sw sv p (by_caller among) }

-- kept steps leave the main outputs
same_outputs : {m last : Model} {list : List Step} → StepsTo m list last → main_outputs last ≡ main_outputs m
same_outputs none = refl
same_outputs (more first rest) = same_outputs rest ∙ first.map.alike.same_outs

-- two models that keep outputs one after the other do so together
kept_after : (m n last : Model) → main_inputs n ≡ main_inputs m → main_outputs last ≡ main_outputs n → IsSound n
    → KeepsOutputs m n → KeepsOutputs n last → KeepsOutputs m last
kept_after m n last ins outs sound first later =
    record {
      accepted = later.accepted;
      outputs = λ inputs v w fit sv sw p among.
          let fits : InputsFit n inputs = subst (λ ports. AllByRecursion (IsGivenFor inputs) ports) (sym ins) fit in
          let between : (u : Valuation) × IsSolution n inputs u = solution_exists n inputs sound first.accepted fits in
          let told : IsAmong (main_output_elements n) p = subst (λ ports. IsAmong (elements_of [] ports) p) outs among in
          later.outputs inputs between.0 w fits between.1 sw p among ∙ first.outputs inputs v between.0 fit sv between.1 p told;
    }

pub kept_steps_agree : KeptStepsAgree
kept_steps_agree m last list sound accepted none = keeps_own m sound accepted
kept_steps_agree m last (s ∷ list) sound accepted (more {next = n} first rest) =
    let kept : KeepsOutputs m n = kept_models_agree m n first.old_of sound first.proposed.sound first.proposed.bounded (record { accepted = accepted; alike = first.map.alike }) first.keeps
    in kept_after m n last first.map.alike.same_ins (same_outputs rest) first.proposed.sound kept (kept_steps_agree n last list first.proposed.sound kept.accepted rest)

-- one step more is kept
pub one_more : {m n next : Model} {list : List Step} {s : Step} → StepsTo m list n → IsKept n s next → StepsTo m (list ++ s ∷ []) next
one_more none kept = more kept none
one_more (more first rest) kept = more first (one_more rest kept)
