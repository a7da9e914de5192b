-- What is printed of a model whose main task is elementary.
use Rattle.std.proofs.Common.{◌≡◌, ℕ, suc, ◌+◌, List, [], ◌∷◌, ◌++◌, map, flat_map, Some, slice_get, option_map, unwrap_or, ◌∙◌, ap, refl, arith}
use Rattle.std.specs.List.{enumerate_from}
use Rattle.std.proofs.lemmas.List.{map-append}
use Rattle.std.proofs.lemmas.List.Folds.{flat_map-map}
use Rattle.aol_shape.specs.Shape.{points}
use Rattle.aol_expr_tree.specs.declared.port.Port.{Port}
use Rattle.aol_expr_tree.specs.declared.value.Val.{Val}
use Rattle.aol_model_types.specs.declared.document.Model.{Model}
use Rattle.aol_model_types.specs.declared.job.InputArray.{InputArray}
use Rattle.aol_model_types.specs.declared.task.Elementary.{Elementary}
use Rattle.aol_model_types.specs.declared.task.OutPort.{OutPort}
use Rattle.aol_model_types.specs.declared.task.Task.TheVariants as tasks
use Rattle.aol_model_types.specs.Rules.{outputs_of}
use Rattle.aol_flat.specs.Tasks.{main_task, main_outputs}
use Rattle.aol_flat.specs.Place.{port_elements, elements_of}
use Rattle.aol_flat.specs.Equation.{Valuation, IsSolution}
use Rattle.aol_flat.specs.ElementaryMain.{main_value, IsSolvedBy}
use Rattle.aol_flat.specs.Printed.{output_line, output_lines, main_values}

-- what follows for each member of a list with its number
by_number : {X A : Type 0} (f : X → List A) (g : ℕ × X → List A) (xs : List X) (k : ℕ) → ((i : ℕ) (x : X) → slice_get xs i ≡ Some x → f x ≡ g (k + i, x)) → flat_map f xs ≡ flat_map g (enumerate_from k xs)
by_number f g [] k h = refl
by_number f g (x ∷ xs) k h =
    let first : f x ≡ g (k, x) = let e : k + 0 ≡ k = omega arith in h 0 x refl ∙ ap (λ n. g (n, x)) e in
    let rest : flat_map f xs ≡ flat_map g (enumerate_from (k + 1) xs) =
    by_number f g xs (k + 1) (λ i y at. let e : k + suc i ≡ (k + 1) + i = omega arith in h (suc i) y at ∙ ap (λ n. g (n, y)) e) in
    cc

-- port after port
values-by_port : (v : Valuation) (ports : List Port) → map v (elements_of [] ports) ≡ flat_map (λ p. map v (port_elements [] p)) ports
values-by_port v [] = refl
values-by_port v (p ∷ ps) = map-append v (port_elements [] p) (elements_of [] ps) ∙ ap (λ vs. map v (port_elements [] p) ++ vs) (values-by_port v ps)

module _ (m : Model) (e : Elementary) (inputs : List InputArray) (main : main_task m ≡ Some (tasks.Elementary e)) (solved : IsSolvedBy m e inputs) (v : Valuation) (s : IsSolution m inputs v) where
  -- the computed values of an output port with its number
  abbrev pub values_at : ℕ × OutPort → List Val
  values_at o = map (main_value m e inputs o.0 o.1) (points o.1.port.shape)

  own_outputs : main_outputs m ≡ map (λ (o : OutPort). o.port) e.outs
  own_outputs = ap (λ t. unwrap_or (option_map outputs_of t) []) main

  -- the main outputs' values, by port and rank
  pub values_computed : main_values m v ≡ flat_map values_at (enumerate_from 0 e.outs)
  values_computed =
      values-by_port v (main_outputs m)
      ∙ ap (flat_map (λ p. map v (port_elements [] p))) own_outputs
      ∙ flat_map-map (λ p. map v (port_elements [] p)) (λ (o : OutPort). o.port) e.outs
      ∙ by_number (λ (o : OutPort). map v (port_elements [] o.port)) values_at e.outs 0
      (λ i o at. let n : i ≡ 0 + i = omega arith in solved.outputs v s i o at ∙ ap (λ j. values_at (j, o)) n)

  -- their lines
  pub lines_computed : output_lines m v ≡ flat_map (λ o. output_line o.1.port (values_at o)) (enumerate_from 0 e.outs)
  lines_computed =
      ap (flat_map (λ p. output_line p (map v (port_elements [] p)))) own_outputs
      ∙ flat_map-map (λ p. output_line p (map v (port_elements [] p))) (λ (o : OutPort). o.port) e.outs
      ∙ by_number (λ (o : OutPort). output_line o.port (map v (port_elements [] o.port))) (λ o. output_line o.1.port (values_at o)) e.outs 0
      (λ i o at. let n : i ≡ 0 + i = omega arith in ap (output_line o.port) (solved.outputs v s i o at ∙ ap (λ j. values_at (j, o)) n))
