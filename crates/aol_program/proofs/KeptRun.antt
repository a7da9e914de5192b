-- What a run of the model that steps make prints is what every solution of the first model prints.
use Rattle.std.proofs.Common.{◌≡◌, ℕ, List, [], ◌∷◌, ◌++◌, map, flat_map, Option, Some, None, option_map, unwrap_or, slice_get, codes, refl, sym, ◌∙◌, ap, subst, arith}
use Rattle.std.specs.List.{IsAmong, AllByRecursion}
use Rattle.aol_shape.specs.Lines.{line, spaced}
use Rattle.aol_shape.specs.Shape.{point_at}
use Rattle.aol_vsl.specs.Text.{shape_text}
use Rattle.aol_expr_tree.specs.declared.port.Port.{Port}
use Rattle.aol_expr_tree.specs.declared.value.Site.{Site}
use Rattle.aol_expr_tree.specs.declared.value.Val.{Val}
use Rattle.aol_model_types.specs.declared.document.Model.{Model}
use Rattle.aol_model_types.specs.declared.job.InputArray.{InputArray}
use Rattle.aol_model_types.specs.declared.job.Step.{Step}
use Rattle.aol_model_types.specs.declared.task.Task.{Task}
use Rattle.aol_model_types.specs.Rules.{task_name, outputs_of}
use Rattle.aol_flat.specs.Accept.{IsSound, IsAccepted}
use Rattle.aol_flat.specs.Equation.{Valuation, IsSolution}
use Rattle.aol_flat.specs.Inputs.{IsGivenFor, InputsFit}
use Rattle.aol_flat.specs.InstanceValue.{first_fault}
use Rattle.aol_flat.specs.Keep.{KeepsOutputs}
use Rattle.aol_flat.specs.Laid.{main_output_elements}
use Rattle.aol_flat.specs.Place.{Element, port_elements, elements_of}
use Rattle.aol_flat.specs.Printed.{kind_text, output_line, output_lines, main_values, fault_line}
use Rattle.aol_flat.specs.Tasks.{elementary_tasks, main_inputs, main_outputs}
use Rattle.aol_flat.proofs.Inside.{among_left, among_right}
use Rattle.aol_flat.proofs.Solved.{solution_exists}
use Rattle.aol_transform.specs.Steps.{StepsTo, none, more}
use Rattle.aol_lines.specs.declared.status.StatusKind.TheVariants.{Fault}
use Rattle.aol_lines.specs.Reply.{ReplyOf, reply}
use Rattle.aol_flat.specs.InstanceNeed.{AreLevelsOf}
use Rattle.aol_flat.specs.Laid.{Laid}
use Rattle.aol_transform.proofs.Agree.{keeps_own}
use Rattle.aol_program.specs.Made.{IsLevelled}
use Rattle.aol_program.specs.Run.{fault_or_lines, run_reply, IsRunReply}

-- ---- what all kept steps leave

pub same_ins : {m last : Model} {list : List Step} → StepsTo m list last → main_inputs last ≡ main_inputs m
same_ins none = refl
same_ins (more first rest) = same_ins rest ∙ first.map.alike.same_ins

pub same_outs : {m last : Model} {list : List Step} → StepsTo m list last → main_outputs last ≡ main_outputs m
same_outs none = refl
same_outs (more first rest) = same_outs rest ∙ first.map.alike.same_outs

pub same_elementary : {m last : Model} {list : List Step} → StepsTo m list last → elementary_tasks last ≡ elementary_tasks m
same_elementary none = refl
same_elementary (more first rest) = same_elementary rest ∙ first.map.alike.elementary

pub inputs_fit : {m last : Model} {list : List Step} → StepsTo m list last → (inputs : List InputArray) → InputsFit m inputs → InputsFit last inputs
inputs_fit steps inputs fit = subst (λ ports. AllByRecursion (IsGivenFor inputs) ports) (sym (same_ins steps)) fit

-- ---- what is printed of values that agree

-- the line of a fault, by the elementary tasks
abbrev line_by : List Task → Site → List ℕ
line_by ts s =
    line (spaced (codes "fault" ∷ kind_text s.kind ∷ unwrap_or (option_map task_name (slice_get ts s.task)) []
    ∷ unwrap_or (option_map (λ (p : Port). p.name) (slice_get (unwrap_or (option_map outputs_of (slice_get ts s.task)) []) s.port)) []
    ∷ unwrap_or (option_map (λ (p : Port). shape_text (point_at p.shape s.point)) (slice_get (unwrap_or (option_map outputs_of (slice_get ts s.task)) []) s.port)) [] ∷ []))

by_tasks : (m : Model) (s : Site) → fault_line m s ≡ line_by (elementary_tasks m) s
by_tasks m s = refl

same_line : (m last : Model) (s : Site) → elementary_tasks last ≡ elementary_tasks m → fault_line last s ≡ fault_line m s
same_line m last s same = by_tasks last s ∙ (ap (λ ts. line_by ts s) same ∙ sym (by_tasks m s))

same_reply : (m last : Model) (lines : List ℕ) (o : Option Site) → elementary_tasks last ≡ elementary_tasks m → fault_or_lines last lines o ≡ fault_or_lines m lines o
same_reply m last lines None same = refl
same_reply m last lines (Some s) same = ap (reply Fault) (same_line m last s same)

module _ (v w : Valuation) where
  same_values : (es : List Element) → ((p : Element) → IsAmong es p → w p ≡ v p) → map w es ≡ map v es
  same_values [] agree = refl
  same_values (e ∷ es) agree =
      ap (λ x. x ∷ map w es) (agree e (among_left (e ∷ []) es e (0, (omega arith, refl)))) ∙ ap (λ xs. v e ∷ xs) (same_values es (λ p a. agree p (among_right (e ∷ []) es p a)))

  same_lines : (ports : List Port) → ((p : Element) → IsAmong (elements_of [] ports) p → w p ≡ v p)
      → flat_map (λ (y : Port). output_line y (map w (port_elements [] y))) ports ≡ flat_map (λ (y : Port). output_line y (map v (port_elements [] y))) ports
  same_lines [] agree = refl
  same_lines (y ∷ ports) agree =
      ap (λ vs. output_line y vs ++ flat_map (λ (z : Port). output_line z (map w (port_elements [] z))) ports)
      (same_values (port_elements [] y) (λ p a. agree p (among_left (port_elements [] y) (elements_of [] ports) p a)))
      ∙ ap (λ rest. output_line y (map v (port_elements [] y)) ++ rest) (same_lines ports (λ p a. agree p (among_right (port_elements [] y) (elements_of [] ports) p a)))

-- what two models print whose outputs and elementary tasks are the same, where the values of the outputs agree
printed_same : (m last : Model) (v w : Valuation) → main_outputs last ≡ main_outputs m → elementary_tasks last ≡ elementary_tasks m → ((p : Element) → IsAmong (main_output_elements m) p → w p ≡ v p)
    → run_reply last w ≡ run_reply m v
printed_same m last v w outs elementary agree =
    let values : main_values last w ≡ main_values m v = ap (λ ports. map w (elements_of [] ports)) outs ∙ same_values v w (elements_of [] (main_outputs m)) agree in
    let lines : output_lines last w ≡ output_lines m v = ap (λ ports. flat_map (λ (y : Port). output_line y (map w (port_elements [] y))) ports) outs ∙ same_lines v w (main_outputs m) agree in
    ap (λ vs. fault_or_lines last (output_lines last w) (first_fault vs)) values ∙ (ap (λ ls. fault_or_lines last ls (first_fault (main_values m v))) lines
    ∙ same_reply m last (output_lines m v) (first_fault (main_values m v)) elementary)

-- so the reply of a run of the model that steps make is that of the first model
pub kept_run : (m last : Model) (list : List Step) (inputs : List InputArray) (r : ReplyOf) → IsSound m → IsAccepted m → StepsTo m list last → KeepsOutputs m last → InputsFit m inputs → IsRunReply last inputs r → IsRunReply m inputs r
kept_run m last list inputs r sound accepted steps keeps fit run =
    record {
      exists = solution_exists m inputs sound accepted fit;
      of_every = λ v sv.
          let w = run.exists.0 in
          let agree : (p : Element) → IsAmong (main_output_elements m) p → w p ≡ v p =
          λ p a. keeps.outputs inputs v w fit sv run.exists.1 p (subst (λ ports. IsAmong (elements_of [] ports) p) (sym (same_outs steps)) a) in
          run.of_every w run.exists.1 ∙ printed_same m last v w (same_outs steps) (same_elementary steps) agree;
    }

-- where there are no steps the model is the one that they make
pub no_steps_level : (f : Laid) (levels : List ℕ) (steps : List Step) → steps ≡ [] → IsSound f.model → IsAccepted f.model → AreLevelsOf f.model levels → IsLevelled f.model steps (record { flat = f; levels = levels })
no_steps_level f levels steps is sound accepted are =
    subst (λ xs. IsLevelled f.model xs (record { flat = f; levels = levels })) (sym is) (record { made = none; keeps = keeps_own f.model sound accepted; levels = are })
