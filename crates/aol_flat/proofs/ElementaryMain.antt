-- The solution of a model whose main task is elementary.
use Rattle.std.proofs.Common.{◌≡◌, ℕ, suc, ◌+◌, ◌-◌, ℤ, pos, List, [], ◌∷◌, length, map, get_or, Option, Some, None, slice_get, option_map, unwrap_or, sym, ◌∙◌, ap, subst, refl, arith}
use Rattle.std.specs.List.{AllByRecursion}
use Rattle.std.proofs.lemmas.List.{length-map}
use Rattle.std.proofs.lemmas.Simd.{map-map}
use Rattle.std.proofs.lemmas.Option.{none-some, slice_get-map, slice_get_past, get_or_from_slice_get, option_and_then_some}
use Rattle.aol_shape.specs.Shape.{rank, points, IsPointOf}
use Rattle.aol_expr_tree.specs.declared.port.Port.{Port}
use Rattle.aol_expr_tree.specs.declared.value.Val.{Val}
use Rattle.aol_expr_tree.specs.declared.value.Val.TheVariants.{Num}
use Rattle.aol_model_types.specs.declared.document.Model.{Model}
use Rattle.aol_model_types.specs.declared.job.InputArray.{InputArray}
use Rattle.aol_model_types.specs.declared.task.Compound.{Compound}
use Rattle.aol_model_types.specs.declared.task.Elementary.{Elementary}
use Rattle.aol_model_types.specs.declared.task.OutPort.{OutPort}
use Rattle.aol_model_types.specs.declared.task.Repeated.{Repeated}
use Rattle.aol_model_types.specs.declared.task.Task.{Task}
use Rattle.aol_model_types.specs.declared.task.Task.TheVariants as tasks
use Rattle.aol_model_types.specs.Rules.{inputs_of}
use Rattle.aol_flat.specs.Tasks.{main_task, main_inputs, elementary_number}
use Rattle.aol_flat.specs.Place.{Place, Element, task_at, task_below, port_elements, elements_of}
use Rattle.aol_flat.specs.Inputs.{numbers_named, numbers_for, IsGivenFor, InputsFit}
use Rattle.aol_flat.specs.InstanceValue.{instance_value}
use Rattle.aol_flat.specs.Equation.{Valuation, MainInput, ElementaryOutput, IsSolution}
use Rattle.aol_flat.specs.ElementaryMain.{AreDifferent, port_names, main_value, ElementaryMainIsSolved}
use Rattle.aol_flat.proofs.Names.{place_of, place_of-different, slice_get-left, slice_get-right}
use Rattle.aol_flat.proofs.Values.{map_points, IsNumbered, port_values, ports_values, instance_value-numbers}

-- a fact for each element by its place is one for all
AllByRecursion-each : {X : Type 0} (P : X → Type 0) (xs : List X) → ((k : ℕ) (x : X) → slice_get xs k ≡ Some x → P x) → AllByRecursion P xs
AllByRecursion-each P [] h = tt
AllByRecursion-each P (x ∷ xs) h = (h 0 x refl, AllByRecursion-each P xs (λ k y at. h (suc k) y at))

-- two facts of all elements, and what follows from both
AllByRecursion-then : {X : Type 0} (P Q R : X → Type 0) → ((x : X) → P x → Q x → R x) → (xs : List X) → AllByRecursion P xs → AllByRecursion Q xs → AllByRecursion R xs
AllByRecursion-then P Q R f [] p q = tt
AllByRecursion-then P Q R f (x ∷ xs) p q = (f x p.0 q.0, AllByRecursion-then P Q R f xs p.1 q.1)

module _ (m : Model) (e : Elementary) (inputs : List InputArray) (main : main_task m ≡ Some (tasks.Elementary e)) where
  -- the one instance is that of the main task
  pub only_main : (place : Place) (t : Task) → task_at m place ≡ Some t → (place ≡ []) × (t ≡ tasks.Elementary e)
  only_main [] t at = (refl, let h : t ≡ tasks.Elementary e = cc in h)
  only_main (d ∷ up) t at =
      option_and_then_some (λ x. task_below m x d) (task_at m up) t at
      (λ x above down. absurd (none-some t (ap (λ y. task_below m y d) (sym (only_main up x above).1) ∙ down)))

  -- the main inputs are those of the task
  own_inputs : main_inputs m ≡ e.ins
  own_inputs = ap (λ t. unwrap_or (option_map inputs_of t) []) main

  -- each main input of a valuation that gives the numbers to main inputs
  abbrev pub TakesInputs : Valuation → Type 0
  TakesInputs v = (p : Element) (a : MainInput m p) (n : ℤ) → slice_get (numbers_named inputs p.port) (rank a.port.shape p.index) ≡ Some n → v p ≡ Num n

  pub inputs_taken : (v : Valuation) → TakesInputs v → InputsFit m inputs → map v (elements_of [] e.ins) ≡ map (λ z. Num z) (numbers_for inputs e.ins)
  inputs_taken v takes fit =
      let P : List Port → Type 0 = λ ports. AllByRecursion (IsGivenFor inputs) ports in
      ports_values v [] inputs e.ins
      (AllByRecursion-then (IsGivenFor inputs) (λ (p : Port). IsNumbered v [] p (numbers_named inputs p.name)) (λ (p : Port). map v (port_elements [] p) ≡ map (λ z. Num z) (numbers_named inputs p.name))
      (λ p sized numbered. port_values v [] p (numbers_named inputs p.name) sized numbered) e.ins (subst P own_inputs fit)
      (AllByRecursion-each (λ (p : Port). IsNumbered v [] p (numbers_named inputs p.name)) e.ins numbered))
    where
      numbered : (k : ℕ) (p : Port) → slice_get e.ins k ≡ Some p → IsNumbered v [] p (numbers_named inputs p.name)
      numbered k p at x z inside given =
          takes (record { place = []; port = p.name; index = x })
          (record { is_main = refl; task = tasks.Elementary e; at_place = main; number = k; port = p; listed = at; named = refl; inside = inside }) z given

  -- each solution has the computed outputs
  pub outputs_computed : InputsFit m inputs → (v : Valuation) → IsSolution m inputs v → (k : ℕ) (out : OutPort) → slice_get e.outs k ≡ Some out
      → map v (port_elements [] out.port) ≡ map (main_value m e inputs k out) (points out.port.shape)
  outputs_computed fit v s k out at =
      map-map v (λ x. record { place = []; port = out.port.name; index = x }) (points out.port.shape)
      ∙ map_points (λ x. v (record { place = []; port = out.port.name; index = x })) (main_value m e inputs k out) out.port.shape here
    where
      here : (x : List ℕ) → IsPointOf out.port.shape x → v (record { place = []; port = out.port.name; index = x }) ≡ main_value m e inputs k out x
      here x inside =
          s.elementary_output (record { place = []; port = out.port.name; index = x }) (record { task = e; at_place = main; number = k; out = out; listed = at; named = refl; inside = inside })
          ∙ ap (λ vs. instance_value (elementary_number m e.name) e vs k out x) (inputs_taken v s.main_input fit)
          ∙ instance_value-numbers (elementary_number m e.name) e (numbers_for inputs e.ins) k out x

  -- there is no other instance
  no_compound : (place : Place) (c : Compound) → task_at m place ≡ Some (tasks.Compound c) → ⊥
  no_compound place c at = let h : tasks.Compound c ≡ tasks.Elementary e = (only_main place (tasks.Compound c) at).1 in cc

  no_repeated : (place : Place) (r : Repeated) → task_at m place ≡ Some (tasks.Repeated r) → ⊥
  no_repeated place r at = let h : tasks.Repeated r ≡ tasks.Elementary e = (only_main place (tasks.Repeated r) at).1 in cc

  -- what the solution gives to an element x of an input, or of output k
  abbrev value_at : List ℕ → Option Port → Option OutPort → ℕ → Val
  value_at x (Some p) out k = Num (get_or (numbers_named inputs p.name) (rank p.shape x) (pos 0))
  value_at x None (Some out) k = main_value m e inputs k out x
  value_at x None None k = Num (pos 0)

  -- the same by the place of the port's name among all of the task
  abbrev value_of : List ℕ → ℕ → Val
  value_of x j = value_at x (slice_get e.ins j) (slice_get e.outs (j - length e.ins)) (j - length e.ins)

  -- a solution: the given numbers at the inputs, and what is computed of them at the outputs
  abbrev solution : Valuation
  solution p = value_of p.index (place_of p.port (port_names e))

  module _ (different : AreDifferent (port_names e)) where
    input_place : (k : ℕ) (p : Port) → slice_get e.ins k ≡ Some p → place_of p.name (port_names e) ≡ k
    input_place k p at =
        place_of-different (port_names e) different k p.name
        (slice_get-left (map (λ (q : Port). q.name) e.ins) (map (λ (o : OutPort). o.port.name) e.outs) k p.name
        (slice_get-map (λ (q : Port). q.name) e.ins k ∙ ap (option_map (λ (q : Port). q.name)) at))

    output_place : (k : ℕ) (out : OutPort) → slice_get e.outs k ≡ Some out → place_of out.port.name (port_names e) ≡ length e.ins + k
    output_place k out at =
        place_of-different (port_names e) different (length e.ins + k) out.port.name
        (ap (λ n. slice_get (port_names e) (n + k)) (sym (length-map e.ins (λ (q : Port). q.name)))
        ∙ slice_get-right (map (λ (q : Port). q.name) e.ins) (map (λ (o : OutPort). o.port.name) e.outs) k
        ∙ slice_get-map (λ (o : OutPort). o.port.name) e.outs k
        ∙ ap (option_map (λ (o : OutPort). o.port.name)) at)

    takes_inputs : TakesInputs solution
    takes_inputs p a n given =
        let same : a.task ≡ tasks.Elementary e = cc (main, a.at_place) in
        let listed : slice_get e.ins a.number ≡ Some a.port = ap (λ t. slice_get (inputs_of t) a.number) (sym same) ∙ a.listed in
        let found : slice_get (numbers_named inputs a.port.name) (rank a.port.shape p.index) ≡ Some n =
        ap (λ name. slice_get (numbers_named inputs name) (rank a.port.shape p.index)) (sym a.named) ∙ given in
        ap (λ name. value_of p.index (place_of name (port_names e))) a.named
        ∙ ap (value_of p.index) (input_place a.number a.port listed)
        ∙ ap (λ o. value_at p.index o (slice_get e.outs (a.number - length e.ins)) (a.number - length e.ins)) listed
        ∙ ap (λ z. Num z) (get_or_from_slice_get (numbers_named inputs a.port.name) (rank a.port.shape p.index) n (pos 0) found)

    -- what the solution gives at output k
    solution_out : (k : ℕ) (out : OutPort) (x : List ℕ) → slice_get e.outs k ≡ Some out → value_of x (place_of out.port.name (port_names e)) ≡ main_value m e inputs k out x
    solution_out k out x at =
        let behind : slice_get e.ins (length e.ins + k) ≡ None = slice_get_past e.ins (length e.ins + k) (omega arith) in
        let back : (length e.ins + k) - length e.ins ≡ k = omega arith in
        ap (value_of x) (output_place k out at)
        ∙ ap (λ i. value_at x i (slice_get e.outs ((length e.ins + k) - length e.ins)) ((length e.ins + k) - length e.ins)) behind
        ∙ ap (λ j. value_at x None (slice_get e.outs j) j) back
        ∙ ap (λ o. value_at x None o k) at

    -- what its equation says
    computed_out : InputsFit m inputs → (task : Elementary) (place : Place) (k : ℕ) (out : OutPort) (x : List ℕ) → task ≡ e → place ≡ []
        → instance_value (elementary_number m task.name) task (map solution (elements_of place task.ins)) k out x ≡ main_value m e inputs k out x
    computed_out fit task place k out x same root =
        ap (λ t. instance_value (elementary_number m t.name) t (map solution (elements_of place t.ins)) k out x) same
        ∙ ap (λ q. instance_value (elementary_number m e.name) e (map solution (elements_of q e.ins)) k out x) root
        ∙ ap (λ vs. instance_value (elementary_number m e.name) e vs k out x) (inputs_taken solution takes_inputs fit)
        ∙ instance_value-numbers (elementary_number m e.name) e (numbers_for inputs e.ins) k out x

    gives_outputs : InputsFit m inputs → (p : Element) (o : ElementaryOutput m p)
        → solution p ≡ instance_value (elementary_number m o.task.name) o.task (map solution (elements_of p.place o.task.ins)) o.number o.out p.index
    gives_outputs fit p o =
        let there = only_main p.place (tasks.Elementary o.task) o.at_place in
        let same : o.task ≡ e = let h : tasks.Elementary o.task ≡ tasks.Elementary e = there.1 in cc in
        let listed : slice_get e.outs o.number ≡ Some o.out = ap (λ (t : Elementary). slice_get t.outs o.number) (sym same) ∙ o.listed in
        ap (λ name. value_of p.index (place_of name (port_names e))) o.named
        ∙ solution_out o.number o.out p.index listed
        ∙ sym (computed_out fit o.task p.place o.number o.out p.index same there.0)

    -- all equations hold: there are no others
    pub solved : InputsFit m inputs → IsSolution m inputs solution
    solved fit = record {
      main_input = takes_inputs;
      elementary_output = gives_outputs fit;
      part_input = λ p q f. absurd (no_compound f.up f.task f.at_place);
      own_output = λ p q f. absurd (no_compound p.place f.task f.at_place);
      tiled_input = λ p q f. absurd (no_repeated f.up f.task f.at_place);
      linked_input = λ p q f. absurd (no_repeated f.linked.up f.linked.task f.linked.at_place);
      default_number = λ p n d. absurd (no_repeated d.linked.up d.linked.task d.linked.at_place);
      default_element = λ p q f. absurd (no_repeated f.linked.up f.linked.task f.linked.at_place);
      outer_output = λ p q f. absurd (no_repeated p.place f.task f.at_place);
      copied = λ p q f. absurd (no_compound f.up f.task f.at_place);
    }

pub elementary_main_is_solved : ElementaryMainIsSolved
elementary_main_is_solved m e inputs main different fit = record {
  exists = (solution m e inputs main, solved m e inputs main different fit);
  outputs = outputs_computed m e inputs main fit;
}
