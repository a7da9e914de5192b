-- A sound and accepted model has a solution for all inputs that fit.
use Rattle.std.proofs.Common.{◌≡◌, ℕ, zero, suc, ◌+◌, ℤ, pos, Bool, true, false, cond, List, [], ◌∷◌, ◌++◌, length, map, get_or, Option, Some, None, option_map, unwrap_or, find, slice_get, sym, ◌∙◌, ap, refl, arith, subst, inl, inr}
use Rattle.std.specs.List.{IsAmong, enumerate_from}
use Rattle.std.proofs.lemmas.Option.{get_or_from_slice_get, slice_get-map}
use Rattle.aol_shape.specs.Lists.{same}
use Rattle.aol_shape.specs.Shape.{rank, points, IsPointOf}
use Rattle.aol_expr_tree.specs.declared.port.Port.{Port}
use Rattle.aol_expr_tree.specs.declared.value.Val.TheVariants.{Num}
use Rattle.aol_model_types.specs.declared.document.Model.{Model}
use Rattle.aol_model_types.specs.declared.job.InputArray.{InputArray}
use Rattle.aol_model_types.specs.declared.task.OutPort.{OutPort}
use Rattle.aol_model_types.specs.declared.task.Part.{Part}
use Rattle.aol_model_types.specs.declared.task.Task.{Task}
use Rattle.aol_model_types.specs.declared.task.Task.TheVariants as tasks
use Rattle.aol_model_types.specs.Rules.{task_named, inputs_of, outputs_of, port_shape}
use Rattle.aol_flat.specs.Tasks.{main_task, main_inputs, elementary_number}
use Rattle.aol_flat.specs.Place.{Place, Element, IsElement, task_at, elements_of}
use Rattle.aol_flat.specs.Inputs.{numbers_named}
use Rattle.aol_flat.specs.InstanceValue.{instance_value}
use Rattle.aol_flat.specs.Equation.{Valuation, MainInput, ElementaryOutput}
use Rattle.aol_flat.specs.Need.{Needs, by_following, by_copying, by_computing, by_part_input, by_own_output, by_tiled_input, by_link, by_default, by_outer_output}
use Rattle.aol_flat.specs.ElementaryMain.{port_names}
use Rattle.aol_flat.specs.Home.{Kept, home_of, origin, origin_home}
use Rattle.aol_flat.specs.Node.{Node, ToPart, ToBody, space_around, place_on, nodes_below, nodes}
use Rattle.aol_flat.specs.Wired.{IsInput}
use Rattle.aol_flat.specs.Sources.{SourcesAreFound, TakesFrom, following, copying}
use Rattle.aol_flat.specs.Accept.{IsSound, IsAccepted, SolutionExists}
use Rattle.aol_flat.proofs.Acyclic.{acyclic_is_grounded}
use Rattle.aol_flat.proofs.Agree.{same_values}
use Rattle.aol_flat.proofs.Among.{among_append, among_flat_map, at_port, points_inside}
use Rattle.aol_flat.proofs.Different.{elementary-different}
use Rattle.aol_flat.proofs.Elements.{instance_elements, node_elements, all_elements, all_closed, element_listed}
use Rattle.aol_flat.proofs.Enumerate.{with_number}
use Rattle.aol_flat.proofs.Existence.{input_value, out_value, output_value, base_value, value, IsSteady, steady_list, taken_value, base_of, steady}
use Rattle.aol_flat.proofs.Exists.{input_exists, output_exists, needed_exists}
use Rattle.aol_flat.proofs.Homes.{default_number_home}
use Rattle.aol_flat.proofs.LinkSides.{task_there}
use Rattle.aol_flat.proofs.Names.{slice_get-right, same-equal, same-self}
use Rattle.aol_flat.proofs.Numbered.{of_port}
use Rattle.aol_flat.proofs.Once.{found_among}
use Rattle.aol_flat.proofs.Real.{IsGood, good_part, good_body}
use Rattle.aol_flat.proofs.Shapes.{input_own}
use Rattle.aol_flat.proofs.Sites.{find-passes}
use Rattle.aol_flat.proofs.SourceBack.{at_number}
use Rattle.aol_flat.proofs.SourceSteps.{wired, computed_output, main_input_side}
use Rattle.aol_flat.proofs.Sources.{sound_sources_are_found}
use Rattle.aol_flat.proofs.Among.{get_among}

-- what passes is not missed
missing : (test : ℕ × OutPort → Bool) (xs : List (ℕ × OutPort)) (x : ℕ × OutPort) → IsAmong xs x → test x ≡ true → find test xs ≡ None → ⊥
missing test [] x a t f = absurd (omega (arith, a.1.0))
missing test (y ∷ xs) x (zero, a) t f =
    let here : test y ≡ true = ap test (sym a.1) ∙ t in
    let k : cond true (Some y) (find test xs) ≡ None = sym (ap (λ b. cond b (Some y) (find test xs)) here) ∙ f in
    cc
missing test (y ∷ xs) x (suc i, a) t f = go (test y) refl f (missing test xs x (i, (omega (arith, a.0), a.1)) t)
  where
    go : (b : Bool) → test y ≡ b → cond b (Some y) (find test xs) ≡ None → (find test xs ≡ None → ⊥) → ⊥
    go true e g rest = cc
    go false e g rest = rest g

module _ (m : Model) (sound : IsSound m) where
  -- the first node of a list
  head_good : (node : Node) (t : Task) → IsGood m sound (Some t) node → (n : Node × Task) → n ≡ (node, t) → (at : List ℕ) → IsPointOf (space_around n.0) at → task_at m (place_on n.0 at) ≡ Some n.1
  head_good node t good n e at inside =
      let P : Node × Task → Type 0 = λ x. (z : List ℕ) → IsPointOf (space_around x.0) z → task_at m (place_on x.0 z) ≡ Some x.1 in
      subst P (sym e) (good t refl) at inside

  -- the instances of a listed node are instances of its task
  node_good : (depth : ℕ) (o : Option Task) (node : Node) → IsGood m sound o node → (n : Node × Task) → IsAmong (nodes_below depth m o node) n → (at : List ℕ) → IsPointOf (space_around n.0) at
      → task_at m (place_on n.0 at) ≡ Some n.1
  node_good zero o node good n a at inside = absurd (omega (arith, a.1.0))
  node_good (suc depth) None node good n a at inside = absurd (omega (arith, a.1.0))
  node_good (suc depth) (Some (tasks.Elementary e)) node good n (zero, a) at inside = head_good node (tasks.Elementary e) good n a.1 at inside
  node_good (suc depth) (Some (tasks.Elementary e)) node good n (suc i, a) at inside = absurd (omega (arith, a.0))
  node_good (suc depth) (Some (tasks.Repeated t)) node good n (zero, a) at inside = head_good node (tasks.Repeated t) good n a.1 at inside
  node_good (suc depth) (Some (tasks.Repeated t)) node good n (suc i, a) at inside =
      node_good depth (task_named m.tasks t.task) (ToBody t.space ∷ node) (good_body m sound t node good) n (i, (omega (arith, a.0), a.1)) at inside
  node_good (suc depth) (Some (tasks.Compound c)) node good n (zero, a) at inside = head_good node (tasks.Compound c) good n a.1 at inside
  node_good (suc depth) (Some (tasks.Compound c)) node good n (suc i, a) at inside =
      let f : ℕ × Part → List (Node × Task) = λ q. nodes_below depth m (task_named m.tasks q.1.task) (ToPart q.0 ∷ node) in
      let q = among_flat_map f (enumerate_from 0 c.parts) n (i, (omega (arith, a.0), a.1)) in
      node_good depth (task_named m.tasks q.0.1.task) (ToPart q.0.0 ∷ node) (good_part m sound c node q.0.0 q.0.1 good (at_number c.parts q.0 q.1)) n q.2 at inside

  -- each listed element exists
  listed_exists : (p : Element) → IsAmong (all_elements m) p → IsElement m p
  listed_exists p a =
      let n = among_flat_map node_elements (nodes m) p a in
      let at = among_flat_map (instance_elements n.0) (points (space_around n.0.0)) p n.2 in
      let place : Place = place_on n.0.0 at.0 in
      let h : task_at m place ≡ Some n.0.1 = node_good (length m.tasks) (main_task m) [] (λ t e x i. e) n.0 n.1 at.0 (points_inside (space_around n.0.0) at.0 at.1) in
      let port = at_port place (inputs_of n.0.1 ++ outputs_of n.0.1) p at.2 in
      let here : p.place ≡ place = ap (λ (x : Element). x.place) port.is in
      let named : p.port ≡ port.port.name = ap (λ (x : Element). x.port) port.is in
      elim (among_append (inputs_of n.0.1) (outputs_of n.0.1) port.port port.listed) [
        | inl b ↦ input_exists m sound place n.0.1 p h (of_port place (inputs_of n.0.1) port.port p b here named port.inside)
        | inr b ↦ output_exists m sound place n.0.1 p h (of_port place (outputs_of n.0.1) port.port p b here named port.inside)
      ]

  -- an output is found by its name with its own number
  own_number : (p : Element) (o : ElementaryOutput m p) (k : ℕ × OutPort) → slice_get o.task.outs k.0 ≡ Some k.1 → k.1.port.name ≡ p.port → (k.0 ≡ o.number) × (k.1 ≡ o.out)
  own_number p o k at named =
      let r = task_there m sound.shapes p.place (tasks.Elementary o.task) o.at_place in
      let different = elementary-different r.place o.task r.holds in
      let name : OutPort → List ℕ = λ x. x.port.name in
      let ins : List (List ℕ) = map (λ (x : Port). x.name) o.task.ins in
      let mine : slice_get (port_names o.task) (length ins + k.0) ≡ Some p.port =
      slice_get-right ins (map name o.task.outs) k.0 ∙ (slice_get-map name o.task.outs k.0 ∙ (ap (option_map name) at ∙ ap Some named)) in
      let other : slice_get (port_names o.task) (length ins + o.number) ≡ Some p.port =
      slice_get-right ins (map name o.task.outs) o.number ∙ (slice_get-map name o.task.outs o.number ∙ (ap (option_map name) o.listed ∙ ap Some (sym o.named))) in
      let places : length ins + k.0 ≡ length ins + o.number = different (length ins + k.0) (length ins + o.number) p.port mine other in
      let number : k.0 ≡ o.number = omega (arith, places) in
      let outs : Some k.1 ≡ Some o.out = sym at ∙ (ap (slice_get o.task.outs) number ∙ o.listed) in
      (number, cc)

module _ (m : Model) (sound : IsSound m) (accepted : IsAccepted m) (inputs : List InputArray) where
  found : SourcesAreFound m
  found = sound_sources_are_found m sound accepted.single

  enough : (n : ℕ) × ((q : Element) → IsAmong (all_elements m) q → IsSteady m sound inputs n q)
  enough =
      steady_list m sound inputs (all_elements m)
      (λ p a. steady m sound inputs p (listed_exists m sound p a) (acyclic_is_grounded m (all_elements m) (all_closed m sound) (λ q b. accepted.acyclic q) p a))

  abbrev solution : Valuation
  solution = value inputs m (suc enough.0)

  stays : (p : Element) → IsElement m p → solution p ≡ value inputs m enough.0 p
  stays p e = enough.1 p (element_listed m sound p e) enough.0 (omega arith)

  taken : (p q : Element) → TakesFrom m p q → Needs m p q → solution p ≡ solution q
  taken p q t need = taken_value m sound inputs p q enough.0 (found.some p q t) ∙ sym (stays q (needed_exists m sound p q need))

  main_taken : (p : Element) (a : MainInput m p) (n : ℤ) → slice_get (numbers_named inputs p.port) (rank a.port.shape p.index) ≡ Some n → solution p ≡ Num n
  main_taken p a n given =
      let side : IsInput m p = main_input_side m sound p a in
      let home : home_of m p ≡ origin_home m (origin m p.place p.port p.index) = rw side in
      let kept : home_of m p ≡ Kept (record { place = []; port = p.port; index = p.index }) = home ∙ ap (λ x. origin_home m (origin m x p.port p.index)) a.is_main in
      let r = task_there m sound.shapes [] a.task a.at_place in
      let own : port_shape (main_inputs m) p.port ≡ Some a.port.shape =
      ap (λ t. port_shape (unwrap_or (option_map inputs_of t) []) p.port) a.at_place
      ∙ (ap (port_shape (inputs_of a.task)) a.named ∙ input_own r.before r.place a.task a.port r.holds (get_among (inputs_of a.task) a.number a.port a.listed)) in
      base_of m sound inputs p enough.0 (found.main_input p a)
      ∙ (ap (base_value inputs m (value inputs m enough.0) p) side
      ∙ (ap (input_value inputs m p) kept
      ∙ (ap (λ s. Num (get_or (numbers_named inputs p.port) (rank (unwrap_or s []) p.index) (pos 0))) own
      ∙ ap (λ z. Num z) (get_or_from_slice_get (numbers_named inputs p.port) (rank a.port.shape p.index) n (pos 0) given))))

  computed_taken : (p : Element) (o : ElementaryOutput m p) → solution p ≡ instance_value (elementary_number m o.task.name) o.task (map solution (elements_of p.place o.task.ins)) o.number o.out p.index
  computed_taken p o =
      base_of m sound inputs p enough.0 (found.computed p o)
      ∙ (ap (base_value inputs m (value inputs m enough.0) p) (computed_output m sound p o)
      ∙ (ap (output_value m (value inputs m enough.0) p) o.at_place
      ∙ (by_found (find (λ (y : ℕ × OutPort). same y.1.port.name p.port) (enumerate_from 0 o.task.outs)) refl
      ∙ ap (λ vs. instance_value (elementary_number m o.task.name) o.task vs o.number o.out p.index)
      (same_values (value inputs m enough.0) solution (elements_of p.place o.task.ins) (λ q a. sym (stays q (needed_exists m sound p q (by_computing o a))))))))
    where
      by_found : (k : Option (ℕ × OutPort)) → find (λ (y : ℕ × OutPort). same y.1.port.name p.port) (enumerate_from 0 o.task.outs) ≡ k
          → out_value m (value inputs m enough.0) p o.task (find (λ (y : ℕ × OutPort). same y.1.port.name p.port) (enumerate_from 0 o.task.outs))
          ≡ instance_value (elementary_number m o.task.name) o.task (map (value inputs m enough.0) (elements_of p.place o.task.ins)) o.number o.out p.index
      by_found None f = absurd (missing (λ (y : ℕ × OutPort). same y.1.port.name p.port) (enumerate_from 0 o.task.outs) (o.number, o.out) (with_number o.task.outs o.number o.out o.listed) (ap (λ n. same n p.port) (sym o.named) ∙ same-self p.port) f)
      by_found (Some k) f =
          let listed : slice_get o.task.outs k.0 ≡ Some k.1 = at_number o.task.outs k (found_among (λ (y : ℕ × OutPort). same y.1.port.name p.port) (enumerate_from 0 o.task.outs) k f) in
          let named : k.1.port.name ≡ p.port = same-equal k.1.port.name p.port (find-passes (λ (y : ℕ × OutPort). same y.1.port.name p.port) (enumerate_from 0 o.task.outs) k f) in
          let same_out = own_number m sound p o k listed named in
          ap (out_value m (value inputs m enough.0) p o.task) f
          ∙ (ap (λ n. instance_value (elementary_number m o.task.name) o.task (map (value inputs m enough.0) (elements_of p.place o.task.ins)) n k.1 p.index) same_out.0
          ∙ ap (λ x. instance_value (elementary_number m o.task.name) o.task (map (value inputs m enough.0) (elements_of p.place o.task.ins)) o.number x p.index) same_out.1)

pub solution_exists : SolutionExists
solution_exists m inputs sound accepted fit = (
  solution m sound accepted inputs,
  record {
    main_input = main_taken m sound accepted inputs;
    elementary_output = computed_taken m sound accepted inputs;
    part_input = λ p q f. taken m sound accepted inputs p q (following (by_part_input f)) (by_following (by_part_input f));
    own_output = λ p q f. taken m sound accepted inputs p q (following (by_own_output f)) (by_following (by_own_output f));
    tiled_input = λ p q f. taken m sound accepted inputs p q (following (by_tiled_input f)) (by_following (by_tiled_input f));
    linked_input = λ p q f. taken m sound accepted inputs p q (following (by_link f)) (by_following (by_link f));
    default_number = λ p n d.
        base_of m sound inputs p (enough m sound accepted inputs).0 ((found m sound accepted inputs).number p n d)
        ∙ (ap (base_value inputs m (value inputs m (enough m sound accepted inputs).0) p) ((wired m sound).default_number p n d)
        ∙ ap (input_value inputs m p) (default_number_home m (wired m sound) p n d));
    default_element = λ p q f. taken m sound accepted inputs p q (following (by_default f)) (by_following (by_default f));
    outer_output = λ p q f. taken m sound accepted inputs p q (following (by_outer_output f)) (by_following (by_outer_output f));
    copied = λ p q c. taken m sound accepted inputs p q (copying c) (by_copying c);
  },
)
