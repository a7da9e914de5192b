-- What the outputs of a run print is what every solution prints.
use Rattle.std.proofs.Common.{◌≡◌, ℕ, ℤ, zero, suc, ◌+◌, ◌<◌, Bool, true, false, cond, List, [], ◌∷◌, ◌++◌, map, flat_map, find, length, drop, get_or, Option, Some, None, option_map, unwrap_or, slice_get, sym, ◌∙◌, ap, refl, subst, ◌⊎◌, inl, inr}
use Rattle.std.specs.List.{AllByRecursion, AllZip}
use Rattle.std.proofs.lemmas.List.{map-append, drop_more}
use Rattle.std.proofs.lemmas.Option.{none-some}
use Rattle.aol_shape.specs.Lists.{same}
use Rattle.aol_shape.specs.Shape.{rank}
use Rattle.aol_expr_tree.specs.declared.port.Port.{Port}
use Rattle.aol_expr_tree.specs.declared.value.Site.{Site}
use Rattle.aol_expr_tree.specs.declared.value.Val.{Val}
use Rattle.aol_expr_tree.specs.declared.value.Val.TheVariants.{Num, Bad}
use Rattle.aol_model_types.specs.declared.document.Model.{Model}
use Rattle.aol_model_types.specs.declared.job.InputArray.{InputArray}
use Rattle.aol_model_types.specs.declared.task.Task.{Task}
use Rattle.aol_model_types.specs.Rules.{inputs_of}
use Rattle.aol_flat.specs.Tasks.{main_task, main_inputs, main_outputs}
use Rattle.aol_flat.specs.Place.{Element, port_elements, elements_of}
use Rattle.aol_flat.specs.Inputs.{numbers_named, IsGivenFor, InputsFit}
use Rattle.aol_flat.specs.InstanceValue.{first_fault}
use Rattle.aol_flat.specs.Equation.{Valuation, MainInput, IsSolution}
use Rattle.aol_flat.specs.Net.{IsInputOf, AreMainInputs}
use Rattle.aol_flat.specs.Printed.{output_line, output_lines, main_values}
use Rattle.aol_flat.proofs.Names.{same-self, same-equal}
use Rattle.aol_runner.specs.declared.outputs.OutputArray.{OutputArray}
use Rattle.aol_runner.specs.Outputs.{output_of, AreOutputs}
use Rattle.aol_program.specs.Inputs.{given_arrays}
use Rattle.aol_program.specs.Outputs.{array_line, values_of, outputs_reply}
use Rattle.aol_program.specs.Ran.{IsRunCode}
use Rattle.aol_lines.specs.Reply.{ReplyOf}
use Rattle.aol_program.specs.Run.{fault_or_lines, run_reply, IsRunReply}
use Rattle.aol_lines.specs.Status.{code_of}

-- ---- the inputs that are handed to a run

-- they are the main inputs, where the document's fit
arrays-given : (inputs : List InputArray) (ports : List Port) → AllByRecursion (IsGivenFor inputs) ports → AllZip IsInputOf ports (given_arrays inputs ports)
arrays-given inputs [] h = tt
arrays-given inputs (p ∷ ports) h = ((refl, h.0), arrays-given inputs ports h.1)

pub main_inputs_given : (m : Model) (inputs : List InputArray) → InputsFit m inputs → AreMainInputs m (given_arrays inputs (main_inputs m))
main_inputs_given m inputs fit = arrays-given inputs (main_inputs m) fit

-- by a port's name they have the same numbers
named-given : (inputs : List InputArray) (ports : List Port) (k : ℕ) (p : Port) → slice_get ports k ≡ Some p → numbers_named (given_arrays inputs ports) p.name ≡ numbers_named inputs p.name
named-given inputs [] k p at = absurd (none-some p at)
named-given inputs (q ∷ ports) k p at = by_name (same q.name p.name) refl k at (λ j there. named-given inputs ports j p there)
  where
    by_name : (b : Bool) → same q.name p.name ≡ b → (k : ℕ) → slice_get (q ∷ ports) k ≡ Some p
        → ((j : ℕ) → slice_get ports j ≡ Some p → numbers_named (given_arrays inputs ports) p.name ≡ numbers_named inputs p.name)
        → unwrap_or (option_map (λ (a : InputArray). a.nums) (cond b (Some (record { name = q.name; nums = numbers_named inputs q.name })) (find (λ (a : InputArray). same a.name p.name) (given_arrays inputs ports)))) []
        ≡ numbers_named inputs p.name
    by_name true e k at rest = ap (numbers_named inputs) (same-equal q.name p.name e)
    by_name false e zero at rest = let one : q ≡ p = cc in let no : false ≡ true = sym e ∙ (ap (λ (r : Port). same r.name p.name) one ∙ same-self p.name) in cc
    by_name false e (suc k) at rest = rest k at

-- ---- solutions for them are solutions for the document's inputs

module _ (m : Model) (inputs : List InputArray) where
  same-numbers : (p : Element) (a : MainInput m p) → numbers_named (given_arrays inputs (main_inputs m)) p.port ≡ numbers_named inputs p.port
  same-numbers p a =
      let listed : slice_get (main_inputs m) a.number ≡ Some a.port = ap (λ (t : Option Task). slice_get (unwrap_or (option_map inputs_of t) []) a.number) a.at_place ∙ a.listed in
      ap (numbers_named (given_arrays inputs (main_inputs m))) a.named ∙ named-given inputs (main_inputs m) a.number a.port listed ∙ ap (numbers_named inputs) (sym a.named)

  with_inputs : (given other : List InputArray) (v : Valuation) → ((p : Element) (a : MainInput m p) → numbers_named other p.port ≡ numbers_named given p.port) → IsSolution m given v → IsSolution m other v
  with_inputs given other v same s = record {
    main_input = λ p a n at. s.main_input p a n (ap (λ ns. slice_get ns (rank a.port.shape p.index)) (sym (same p a)) ∙ at);
    elementary_output = s.elementary_output;
    part_input = s.part_input;
    own_output = s.own_output;
    tiled_input = s.tiled_input;
    linked_input = s.linked_input;
    default_number = s.default_number;
    default_element = s.default_element;
    outer_output = s.outer_output;
    copied = s.copied;
  }

  to_given : (v : Valuation) → IsSolution m inputs v → IsSolution m (given_arrays inputs (main_inputs m)) v
  to_given v s = with_inputs inputs (given_arrays inputs (main_inputs m)) v same-numbers s

  of_given : (v : Valuation) → IsSolution m (given_arrays inputs (main_inputs m)) v → IsSolution m inputs v
  of_given v s = with_inputs (given_arrays inputs (main_inputs m)) inputs v (λ p a. sym (same-numbers p a)) s

-- ---- what is printed

module _ (v : Valuation) where
  lines-of_outputs : (ports : List Port) → flat_map array_line (map (output_of v) ports) ≡ flat_map (λ y. output_line y (map v (port_elements [] y))) ports
  lines-of_outputs [] = refl
  lines-of_outputs (p ∷ ports) = ap (λ t. output_line p (map v (port_elements [] p)) ++ t) (lines-of_outputs ports)

  values-of_outputs : (ports : List Port) → values_of (map (output_of v) ports) ≡ map v (elements_of [] ports)
  values-of_outputs [] = refl
  values-of_outputs (p ∷ ports) = ap (λ t. map v (port_elements [] p) ++ t) (values-of_outputs ports) ∙ sym (map-append v (port_elements [] p) (elements_of [] ports))

  outputs-printed : (m : Model) (outputs : List OutputArray) → outputs ≡ map (output_of v) (main_outputs m) → outputs_reply m outputs ≡ run_reply m v
  outputs-printed m outputs is =
      ap (outputs_reply m) is ∙ ap (λ lines. fault_or_lines m lines (first_fault (values_of (map (output_of v) (main_outputs m))))) (lines-of_outputs (main_outputs m))
      ∙ ap (λ vs. fault_or_lines m (output_lines m v) (first_fault vs)) (values-of_outputs (main_outputs m))

-- ---- the first fault of some outputs

pub fault_after : (vs ws : List Val) → None ≡ first_fault vs → first_fault (vs ++ ws) ≡ first_fault ws
fault_after [] ws h = refl
fault_after (Num z ∷ vs) ws h = fault_after vs ws h
fault_after (Bad s ∷ vs) ws h = cc

pub fault_front : (vs ws : List Val) (s : Site) → Some s ≡ first_fault vs → Some s ≡ first_fault (vs ++ ws)
fault_front [] ws s h = cc
fault_front (Num z ∷ vs) ws s h = fault_front vs ws s h
fault_front (Bad r ∷ vs) ws s h = h

-- the values from one output on
pub values_more : (outputs : List OutputArray) (i : ℕ) (o : OutputArray) → i < length outputs → o ≡ get_or outputs i o → values_of (drop i outputs) ≡ o.vals ++ values_of (drop (i + 1) outputs)
values_more outputs i o within is = ap values_of (drop_more outputs i o within ∙ ap (λ x. x ∷ drop (i + 1) outputs) (sym is))

-- what the outputs of a run print
pub outputs_run : (m : Model) (inputs : List InputArray) (outputs : List OutputArray) → AreOutputs m (given_arrays inputs (main_inputs m)) outputs → IsRunReply m inputs (outputs_reply m outputs)
outputs_run m inputs outputs a = record {
  exists = (a.exists.0, of_given m inputs a.exists.0 a.exists.1);
  of_every = λ v s. outputs-printed v m outputs (a.of_every v (to_given m inputs v s));
}

-- it is the reply of a run that came to its end
pub run_ended : (m : Model) (inputs : List InputArray) (r : ReplyOf) → IsRunReply m inputs r → IsRunCode (code_of r.status)
run_ended m inputs r h = subst (λ (q : ReplyOf). IsRunCode (code_of q.status)) (sym (h.of_every h.exists.0 h.exists.1)) (by_fault (first_fault (main_values m h.exists.0)))
  where
    by_fault : (s : Option Site) → IsRunCode (code_of (fault_or_lines m (output_lines m h.exists.0) s).status)
    by_fault None = inl refl
    by_fault (Some s) = inr refl
