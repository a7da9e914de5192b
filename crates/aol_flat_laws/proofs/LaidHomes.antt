-- The list of cells has exactly the homes, each once.
use Rattle.std.proofs.Common.{◌≡◌, ◌≢◌, ℕ, List, [], ◌∷◌, ◌++◌, length, flat_map, Option, Some, None, option_map, unwrap_or, slice_get, sym, ◌∙◌, ap, refl, arith, subst, inl, inr}
use Rattle.std.specs.List.{IsAmong}
use Rattle.aol_shape.specs.Shape.{points, IsPointOf}
use Rattle.aol_expr_tree.specs.declared.port.Port.{Port}
use Rattle.aol_model_types.specs.declared.document.Model.{Model}
use Rattle.aol_model_types.specs.declared.task.Part.{Part}
use Rattle.aol_model_types.specs.declared.task.Task.{Task}
use Rattle.aol_model_types.specs.declared.task.Task.TheVariants as tasks
use Rattle.aol_model_types.specs.Rules.{ShapesAgree, task_named, inputs_of, outputs_of}
use Rattle.aol_flat.specs.Tasks.{main_task, main_inputs, main_outputs}
use Rattle.aol_flat.specs.Place.{Place, Element, port_elements, elements_of, task_at}
use Rattle.aol_flat.specs.Home.{Kept, home_of}
use Rattle.aol_flat.specs.Node.{Branch, ToPart, ToBody, Node, space_around, place_on, task_under, node_task, nodes}
use Rattle.aol_flat.specs.Laid.{main_input_elements, main_output_elements, inner_cells, IsInnerHome, LaidCellsAreHomes}
use Rattle.aol_flat.proofs.Among.{among_append, among_flat_map, among_map, at_port}
use Rattle.aol_flat.proofs.Checked.{IsTaskOf, task_of}
use Rattle.aol_flat.proofs.Elements.{node_first}
use Rattle.aol_flat.proofs.Enumerate.{on_node}
use Rattle.aol_flat.proofs.Find.{and_then_some}
use Rattle.aol_flat.proofs.Inside.{flat_map_among}
use Rattle.aol_flat.proofs.Shapes.{found_port}
use Rattle.aol_flat.proofs.SourceRight.{same_element}
use Rattle.aol_flat_laws.proofs.Apart.{AllDiffer, Apart, apart_append, apart_map, apart_flat_map, points_differ, once_of_apart}
use Rattle.aol_flat_laws.proofs.InnerCells.{node_element, inner_cell, inner_cells_differ}
use Rattle.aol_flat_laws.proofs.InnerHomes.{home_listed, listed_home}
use Rattle.aol_flat_laws.proofs.NodeTasks.{task_on, listed_is_node}
use Rattle.aol_flat_laws.proofs.Ports.{DifferentNames, inputs_differ, outputs_differ, sides_differ}
use Rattle.aol_flat_laws.proofs.Steps.{kinds, place_kinds, kinds_on, DifferentSteps, nodes_differ}

-- ---- the main inputs and outputs

named_there : (place : Place) (ports : List Port) (e : Element) → IsAmong (elements_of place ports) e → (p : Port) × IsAmong ports p × (e.port ≡ p.name) × (e.place ≡ place)
named_there place ports e a =
    let r = at_port place ports e a in
    (r.port, r.listed, ap (λ (x : Element). x.port) r.is, ap (λ (x : Element). x.place) r.is)

port_elements_differ : (place : Place) (p : Port) → AllDiffer (port_elements place p)
port_elements_differ place p =
    apart_map (λ (x y : List ℕ). x ≢ y) (λ (x y : Element). x ≢ y) (λ (x : List ℕ). record { place = place; port = p.name; index = x }) (points p.shape) (points_differ p.shape)
    (λ x y a b apart same. apart (ap (λ (e : Element). e.index) same))

named_so : (place : Place) (p : Port) (e : Element) → IsAmong (port_elements place p) e → e.port ≡ p.name
named_so place p e a = ap (λ (x : Element). x.port) (among_map (λ (x : List ℕ). record { place = place; port = p.name; index = x }) (points p.shape) e a).2

elements_differ : (place : Place) (ports : List Port) → Apart DifferentNames ports → AllDiffer (elements_of place ports)
elements_differ place ports h =
    apart_flat_map DifferentNames (λ (x y : Element). x ≢ y) (port_elements place) ports h (λ p a. port_elements_differ place p)
    (λ p q a b apart x y i j same. apart (sym (named_so place p x i) ∙ (ap (λ (e : Element). e.port) same ∙ named_so place q y j)))

-- an instance's elements differ
both_differ : (m : Model) (t : Task) → IsTaskOf m t → (place : Place) → AllDiffer (elements_of place (inputs_of t) ++ elements_of place (outputs_of t))
both_differ m t r place =
    apart_append (λ (x y : Element). x ≢ y) (elements_of place (inputs_of t)) (elements_of place (outputs_of t))
    (elements_differ place (inputs_of t) (inputs_differ r.before r.place t r.holds))
    (elements_differ place (outputs_of t) (outputs_differ r.before r.place t r.holds))
    (λ x y i j same.
    let p = named_there place (inputs_of t) x i in
    let q = named_there place (outputs_of t) y j in
    sides_differ r.before r.place t r.holds p.0 q.0 p.1 q.1 (sym p.2 ∙ (ap (λ (e : Element). e.port) same ∙ q.2)))

module _ (m : Model) (agree : ShapesAgree m) where
  main_differ : AllDiffer (main_input_elements m ++ main_output_elements m)
  main_differ = go (main_task m) (λ t h. task_of m t m.main agree h)
    where
      go : (o : Option Task) → ((t : Task) → o ≡ Some t → IsTaskOf m t) → AllDiffer (elements_of [] (unwrap_or (option_map inputs_of o) []) ++ elements_of [] (unwrap_or (option_map outputs_of o) []))
      go None of = tt
      go (Some t) of = both_differ m t (of t refl) []

  main_place : (e : Element) → IsAmong (main_input_elements m ++ main_output_elements m) e → e.place ≡ []
  main_place e a =
      elim (among_append (main_input_elements m) (main_output_elements m) e a) [
        | inl i ↦ (named_there [] (main_inputs m) e i).3
        | inr i ↦ (named_there [] (main_outputs m) e i).3
      ]

  -- ---- the others

  named_under : (t : Task) (b : Branch) (u : Task) → task_under m t b ≡ Some u → (n : List ℕ) × (task_named m.tasks n ≡ Some u)
  named_under (tasks.Elementary e) b u h = cc
  named_under (tasks.Compound c) (ToPart k) u h =
      let found = and_then_some (λ (p : Part). task_named m.tasks p.task) (slice_get c.parts k) u h in
      (found.0.task, found.2)
  named_under (tasks.Compound c) (ToBody space) u h = cc
  named_under (tasks.Repeated t) (ToPart k) u h = cc
  named_under (tasks.Repeated t) (ToBody space) u h = (t.task, h)

  node_cells_differ : (x : Node × Task) → IsAmong (nodes m) x → AllDiffer (inner_cells m x)
  node_cells_differ ([], t) a = tt
  node_cells_differ (b ∷ up, t) a =
      let n = listed_is_node m (b ∷ up, t) a in
      let found = and_then_some (λ u. task_under m u b) (node_task m up) t n.task in
      let name = named_under found.0 b t found.2 in
      let r = task_of m t name.0 agree name.1 in
      inner_cells_differ m b up t (inputs_differ r.before r.place t r.holds) (outputs_differ r.before r.place t r.holds) (sides_differ r.before r.place t r.holds)

  shown : (x : Node × Task) (e : Element) → IsAmong (inner_cells m x) e → place_kinds e.place ≡ kinds x.0
  shown ([], t) e a = absurd (omega (arith, a.1.0))
  shown (b ∷ up, t) e a =
      let c = inner_cell m b up t e a in
      ap (λ (y : Element). place_kinds y.place) c.cell.is ∙ kinds_on (b ∷ up) c.cell.at

  abbrev pub inner : List Element
  inner = flat_map (inner_cells m) (nodes m)

  inner_differ : AllDiffer inner
  inner_differ =
      apart_flat_map (DifferentSteps m) (λ (x y : Element). x ≢ y) (inner_cells m) (nodes m) (nodes_differ m (length m.tasks) (main_task m) []) node_cells_differ
      (λ x y a b apart e f i j same. apart (sym (shown x e i) ∙ (ap (λ (z : Element). place_kinds z.place) same ∙ shown y f j)))

  -- ---- homes

  inner_is_home : (e : Element) → IsAmong inner e → IsInnerHome m e
  inner_is_home e a = let x = among_flat_map (inner_cells m) (nodes m) e a in go x.0 x.1 x.2
    where
      go : (x : Node × Task) → IsAmong (nodes m) x → IsAmong (inner_cells m x) e → IsInnerHome m e
      go ([], t) i j = absurd (omega (arith, j.1.0))
      go (b ∷ up, t) i j =
          let n = listed_is_node m (b ∷ up, t) i in
          let c = inner_cell m b up t e j in
          let there : task_at m (place_on (b ∷ up) c.cell.at) ≡ Some t = task_on m (b ∷ up) n.spaces c.cell.at c.cell.around ∙ n.task in
          subst (IsInnerHome m) (sym c.cell.is) (listed_home m agree up t c.cell.at c.cell.index c.port b n.spaces c.cell.around there c.cell.inside c.side)

  home_is_inner : (e : Element) → IsInnerHome m e → IsAmong inner e
  home_is_inner e h =
      let o = on_node m agree e.place h.exists.task h.exists.at_place in
      go o.node o.at o.inside o.is (o.nodes_in (o.node, h.exists.task) (node_first m o.depth h.exists.task o.node))
    where
      go : (node : Node) (at : List ℕ) → IsPointOf (space_around node) at → place_on node at ≡ e.place → IsAmong (nodes m) (node, h.exists.task) → IsAmong inner e
      go [] at around is i = absurd (h.within (sym is))
      go (b ∷ up) at around is i =
          let t = h.exists.task in
          let n = listed_is_node m (b ∷ up, t) i in
          let port = found_port (inputs_of t ++ outputs_of t) e.port h.exists.shape h.exists.at_port in
          let equal : node_element (b ∷ up) at port.0 e.index ≡ e = same_element (node_element (b ∷ up) at port.0 e.index) e is port.2 refl in
          let P : List ℕ → Type 0 = λ s. IsPointOf s e.index in
          let Q : Element → Type 0 = λ x. home_of m x ≡ Kept x in
          let R : Element → Type 0 = λ x. IsAmong inner x in
          let there : task_at m (place_on (b ∷ up) at) ≡ Some t = ap (task_at m) is ∙ h.exists.at_place in
          subst R equal
          (flat_map_among (inner_cells m) (nodes m) (b ∷ up, t) (node_element (b ∷ up) at port.0 e.index) i
          (home_listed m agree up t at e.index port.0 b n.spaces around there (subst P (sym port.3) h.exists.inside) port.1 (subst Q (sym equal) h.stands)))

  all_differ : AllDiffer ((main_input_elements m ++ main_output_elements m) ++ inner)
  all_differ =
      apart_append (λ (x y : Element). x ≢ y) (main_input_elements m ++ main_output_elements m) inner main_differ inner_differ
      (λ x y i j same. (inner_is_home y j).within (sym (ap (λ (e : Element). e.place) same) ∙ main_place x i))

pub laid_cells_are_homes : LaidCellsAreHomes
laid_cells_are_homes f agree laid = record {
  rest = inner f.model agree;
  order = laid;
  homes = λ e. (home_is_inner f.model agree e, inner_is_home f.model agree e);
  once = λ j k e a b.
      once_of_apart ((main_input_elements f.model ++ main_output_elements f.model) ++ inner f.model agree) (all_differ f.model agree) j k e
      (sym (ap (λ cells. slice_get cells j) laid) ∙ a) (sym (ap (λ cells. slice_get cells k) laid) ∙ b);
}
