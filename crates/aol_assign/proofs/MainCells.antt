-- The cells of the main outputs come right after those of the main inputs.
use Rattle.std.proofs.Common.{◌≡◌, ℕ, ◌+◌, ◌<◌, ◌≤◌, ◌^◌, List, [], ◌∷◌, ◌++◌, length, flat_map, Option, Some, None, is_some, slice_get, option_map, unwrap_or, sym, ◌∙◌, ap, refl, arith, subst}
use Rattle.std.specs.Prelude.{sum}
use Rattle.std.specs.List.{IsAmong, AllZip}
use Rattle.std.proofs.lemmas.List.{length-map, length-append, append_assoc}
use Rattle.aol_shape.specs.Lists.{numbers_below}
use Rattle.aol_shape.specs.Shape.{size, point_at, points}
use Rattle.aol_expr_tree.specs.declared.port.Port.{Port}
use Rattle.aol_model_types.specs.declared.document.Model.{Model}
use Rattle.aol_model_types.specs.declared.task.OutPort.{OutPort}
use Rattle.aol_model_types.specs.declared.task.Task.{Task}
use Rattle.aol_model_types.specs.declared.task.Task.TheVariants as tasks
use Rattle.aol_model_types.specs.Rules.{outputs_of}
use Rattle.aol_model_types.specs.Types.{IsTask}
use Rattle.aol_flat.specs.Tasks.{main_task, main_outputs}
use Rattle.aol_flat.specs.Node.{nodes}
use Rattle.aol_flat.specs.Place.{Place, Element, IsElement, port_elements, elements_of}
use Rattle.aol_flat.specs.Home.{Kept, handed, home_of}
use Rattle.aol_flat.specs.Instance.{port_sizes}
use Rattle.aol_flat.specs.Laid.{Laid, IsLaid, IsReadOf, main_input_elements, main_output_elements, inner_cells}
use Rattle.aol_flat.specs.Wired.{IsOutput}
use Rattle.aol_flat.specs.Accept.{IsSound}
use Rattle.aol_flat.proofs.Among.{at_port}
use Rattle.aol_flat.proofs.Agree.{IsAmong-tail}
use Rattle.aol_flat.proofs.Checked.{task_of}
use Rattle.aol_flat.proofs.Exists.{output_exists}
use Rattle.aol_flat.proofs.Homes.{output_home}
use Rattle.aol_flat.proofs.LinkSides.{at_output, output_there}
use Rattle.aol_flat.proofs.Names.{slice_get-right}
use Rattle.aol_flat.proofs.Shapes.{output_own}
use Rattle.aol_assign.specs.Holes.{cells_from}
use Rattle.aol_assign.proofs.Fitting.{task_limits}
use Rattle.aol_assign.proofs.GivenCells.{first_cells}
use Rattle.aol_assign.proofs.ReadingPlaces.{sum_cons, number_count}

-- how many elements some ports have
pub element_count : (place : Place) (ports : List Port) → length (elements_of place ports) ≡ sum (port_sizes ports)
element_count place [] = refl
element_count place (p ∷ ports) =
    let one : length (port_elements place p) ≡ size p.shape =
    length-map (points p.shape) (λ (x : List ℕ). record { place = place; port = p.name; index = x }) ∙ (length-map (numbers_below (size p.shape)) (point_at p.shape) ∙ number_count 0 (size p.shape)) in
    let rest = element_count place ports in
    let all : length (port_elements place p ++ elements_of place ports) ≡ length (port_elements place p) + length (elements_of place ports) = length-append (port_elements place p) (elements_of place ports) in
    let cons : sum (size p.shape ∷ port_sizes ports) ≡ size p.shape + sum (port_sizes ports) = sum_cons (size p.shape) (port_sizes ports) in
    omega (arith, one, rest, all, cons)

module _ (f : Laid) (sound : IsSound f.model) (laid : IsLaid f) where
  -- both are cells
  pub main_within : length (main_input_elements f.model) + length (main_output_elements f.model) ≤ length f.cells
  main_within =
      let inner = flat_map (inner_cells f.model) (nodes f.model) in
      let whole : length f.cells ≡ length (main_input_elements f.model ++ (main_output_elements f.model ++ inner)) = ap length (first_cells f sound laid) in
      let outer : length (main_input_elements f.model ++ (main_output_elements f.model ++ inner)) ≡ length (main_input_elements f.model) + length (main_output_elements f.model ++ inner) =
      length-append (main_input_elements f.model) (main_output_elements f.model ++ inner) in
      let rest : length (main_output_elements f.model ++ inner) ≡ length (main_output_elements f.model) + length inner = length-append (main_output_elements f.model) inner in
      omega (arith, whole, outer, rest)

  -- a main output exists, and is stored by itself
  main_there : (o : Option Task) → main_task f.model ≡ o → (e : Element) → IsAmong (elements_of [] (unwrap_or (option_map outputs_of o) [])) e → IsElement f.model e × (home_of f.model e ≡ Kept e)
  main_there None h e a = absurd (omega (arith, a.1.0))
  main_there (Some t) h e a =
      let at = at_port [] (outputs_of t) e a in
      let r = task_of f.model t f.model.main sound.shapes h in
      let own = output_own r.before r.place t at.port r.holds at.listed in
      let place : e.place ≡ [] = ap (λ (x : Element). x.place) at.is in
      let port : e.port ≡ at.port.name = ap (λ (x : Element). x.port) at.is in
      let output : IsOutput f.model e = at_output f.model e [] at.port.name place port (output_there f.model sound.shapes [] t at.port.name h (ap is_some own)) in (
        output_exists f.model sound [] t e h a,
        output_home f.model e output
            ∙ (ap (λ (x : Place). Kept (handed f.model x e.port e.index)) place
            ∙ ap (λ (x : Place). Kept (record { place = x; port = e.port; index = e.index })) (sym place)),
      )

  pub main_exist : (e : Element) → IsAmong (main_output_elements f.model) e → IsElement f.model e
  main_exist e a = (main_there (main_task f.model) refl e a).0

  zip_cells : (xs ys zs : List Element) → f.cells ≡ xs ++ (ys ++ zs) → ((e : Element) → IsAmong ys e → home_of f.model e ≡ Kept e) → AllZip (IsReadOf f) ys (cells_from (length xs) (length ys))
  zip_cells xs [] zs split kept = tt
  zip_cells xs (y ∷ ys) zs split kept =
      let number : length xs + 0 ≡ length xs = omega arith in
      let at : slice_get f.cells (length xs) ≡ Some y =
      ap (slice_get f.cells) (sym number) ∙ (ap (λ cells. slice_get cells (length xs + 0)) split ∙ slice_get-right xs (y ∷ ys ++ zs) 0) in
      let longer : length (xs ++ y ∷ []) ≡ length xs + 1 = length-append xs (y ∷ []) in
      let P : ℕ → Type 0 = λ n. AllZip (IsReadOf f) ys (cells_from n (length ys)) in (
        record { home = y; is_home = kept y (0, (omega arith, refl)); at_cell = at },
        subst P longer (zip_cells (xs ++ y ∷ []) ys zs (split ∙ sym (append_assoc xs (y ∷ []) (ys ++ zs))) (λ e a. kept e (IsAmong-tail y ys e a))),
      )

  -- so the main outputs are read from the cells after the main inputs
  pub main_zip : AllZip (IsReadOf f) (main_output_elements f.model) (cells_from (length (main_input_elements f.model)) (length (main_output_elements f.model)))
  main_zip =
      zip_cells (main_input_elements f.model) (main_output_elements f.model) (flat_map (inner_cells f.model) (nodes f.model)) (first_cells f sound laid)
      (λ e a. (main_there (main_task f.model) refl e a).1)

outputs_few : (t : Task) → IsTask t → length (outputs_of t) < 2 ^ 32
outputs_few (tasks.Elementary e) h = omega (arith, h.out_count, length-map e.outs (λ (o : OutPort). o.port))
outputs_few (tasks.Compound c) h = h.out_count
outputs_few (tasks.Repeated t) h = h.out_count

-- a u32 counts the main outputs' ports
pub main_ports_few : (m : Model) → IsSound m → length (port_sizes (main_outputs m)) < 2 ^ 32
main_ports_few m sound = go (main_task m) refl
  where
    go : (o : Option Task) → main_task m ≡ o → length (port_sizes (unwrap_or (option_map outputs_of o) [])) < 2 ^ 32
    go None h = omega arith
    go (Some t) h =
        let few = outputs_few t (task_limits m sound t (task_of m t m.main sound.shapes h)) in
        omega (arith, few, length-map (outputs_of t) (λ (p : Port). size p.shape))
