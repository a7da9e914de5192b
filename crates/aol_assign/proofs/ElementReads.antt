-- Where nothing is written twice, each element is read from a cell, or is a default number.
use Rattle.std.proofs.Common.{◌≡◌, ℕ, Bool, true, false, List, [], ◌∷◌, ◌++◌, Some, is_some, option_map, unwrap_or, slice_get, sym, ◌∙◌, ap, refl, subst, inl, inr}
use Rattle.std.specs.List.{IsAmong}
use Rattle.aol_shape.specs.Shape.{IsPointOf}
use Rattle.aol_tiler.specs.Tiler.{address_point}
use Rattle.aol_expr_tree.specs.declared.port.Port.{Port}
use Rattle.aol_model_types.specs.declared.document.Model.{Model}
use Rattle.aol_model_types.specs.declared.task.Task.{Task}
use Rattle.aol_model_types.specs.declared.task.Task.TheVariants as tasks
use Rattle.aol_model_types.specs.Rules.{inputs_of, outputs_of, port_shape}
use Rattle.aol_flat.specs.Tasks.{main_task, main_inputs, main_outputs}
use Rattle.aol_flat.specs.Place.{Place, Element, IsElement, task_at, elements_of}
use Rattle.aol_flat.specs.Equation.{OuterOutput}
use Rattle.aol_flat.specs.Home.{Home, Kept, Constant, NoHome, Origin, Stored, Output, Default, Unfed, origin, origin_home, home_of, is_input_at}
use Rattle.aol_flat.specs.InstanceNeed.{Reaches, here, onward}
use Rattle.aol_flat.specs.Laid.{Laid, IsLaid, AreHomes, IsReadOf, main_input_elements, main_output_elements}
use Rattle.aol_flat.specs.Need.{Follows, by_part_input, by_own_output, by_tiled_input, by_link, by_default, by_outer_output, by_following}
use Rattle.aol_flat.specs.Targets.{IsSingleAssignment}
use Rattle.aol_flat.specs.Accept.{IsSound}
use Rattle.aol_flat.specs.declared.view.Read.{Read}
use Rattle.aol_flat.specs.declared.view.Read.TheVariants.{Cell, Const}
use Rattle.aol_flat.proofs.Among.{among_append, among_get}
use Rattle.aol_flat.proofs.Checked.{sides_apart}
use Rattle.aol_flat.proofs.Exists.{needed_exists}
use Rattle.aol_flat.proofs.HasShape.{element_there, output_shaped}
use Rattle.aol_flat.proofs.Homes.{input_home, output_home}
use Rattle.aol_flat.proofs.Inside.{among_left, among_right}
use Rattle.aol_flat.proofs.Numbered.{of_port}
use Rattle.aol_flat.proofs.Real.{shape_limits}
use Rattle.aol_flat.proofs.Shapes.{address_inside, fits_there, found_port, shape_right}
use Rattle.aol_flat.proofs.Wired.{tiler_there}
use Rattle.aol_flat_laws.proofs.InputPaths.{home_meets}
use Rattle.aol_flat_laws.proofs.LaidHomes.{laid_cells_are_homes}
use Rattle.aol_flat_laws.proofs.OneWriter.{reached_home}
use Rattle.aol_assign.proofs.FedInputs.{input_fed}

-- ---- elements that are followed, and those that follow them, exist

module _ (m : Model) (sound : IsSound m) where
  outer_exists : (p q : Element) → OuterOutput m p q → IsElement m p
  outer_exists p q f =
      let s = tiler_there m sound.shapes p.place f.task f.tiling f.at_place f.listed in
      let shaped = output_shaped m sound p.place (tasks.Repeated f.task) f.tiling.outer f.array f.at_place f.outer_shape in
      let apart = sides_apart s.0.before s.0.place (tasks.Repeated f.task) f.tiling.outer s.0.holds (ap is_some f.outer_shape) in
      let whole : port_shape (f.task.ins ++ f.task.outs) f.tiling.outer ≡ Some f.array = shape_right f.task.ins f.task.outs f.tiling.outer f.array apart f.outer_shape in
      let fit = fits_there f.tiling.tiler (port_shape (f.task.ins ++ f.task.outs) f.tiling.outer) f.task.space _ f.array whole s.1.fits in
      let limits = shape_limits m sound p.place f.tiling.outer f.array shaped in
      let inside : IsPointOf f.array (address_point f.tiling.tiler f.array f.repetition q.index) = address_inside f.tiling.tiler f.array f.task.space fit.0 f.repetition q.index fit.1 limits in
      let P : List ℕ → Type 0 = λ x. IsPointOf f.array x in
      element_there m p p.place f.tiling.outer f.array refl (ap (λ (x : Element). x.port) f.left) shaped (subst P (sym (ap (λ (x : Element). x.index) f.left)) inside)

  follower_exists : (p q : Element) → Follows m p q → IsElement m p
  follower_exists p q (by_part_input f) = f.exists
  follower_exists p q (by_own_output f) = f.exists
  follower_exists p q (by_tiled_input f) = f.exists
  follower_exists p q (by_link f) = f.linked.exists
  follower_exists p q (by_default f) = f.linked.exists
  follower_exists p q (by_outer_output f) = outer_exists p q f

  start_exists : (p q : Element) → IsElement m q → Reaches m p q → IsElement m p
  start_exists p q exists here = exists
  start_exists p q exists (onward {q = x} f r) = follower_exists p x f

  end_exists : (p q : Element) → IsElement m p → Reaches m p q → IsElement m q
  end_exists p q exists here = exists
  end_exists p q exists (onward {q = x} f r) = end_exists x q (needed_exists m sound p x (by_following f)) r

  -- ---- it has a home

  nowhere : (o : Origin) → origin_home m o ≡ NoHome → o ≡ Unfed
  nowhere (Stored e) h = cc
  nowhere (Output e) h = cc
  nowhere (Default n) h = cc
  nowhere Unfed h = refl

  has_home : (p : Element) → IsElement m p → home_of m p ≡ NoHome → ⊥
  has_home p exists none = go (is_input_at (task_at m p.place) p.port) refl
    where
      go : (b : Bool) → is_input_at (task_at m p.place) p.port ≡ b → ⊥
      go true e = input_fed m sound p.place p.port p.index exists e (nowhere (origin m p.place p.port p.index) (sym (input_home m p e) ∙ none))
      go false e = let f = sym (output_home m p e) ∙ none in cc

  -- an element of the main task is one of its inputs or outputs
  main_listed : (h : Element) → IsElement m h → h.place ≡ [] → IsAmong (main_input_elements m ++ main_output_elements m) h
  main_listed h exists main =
      let t : Task = exists.task in
      let at : main_task m ≡ Some t = sym (ap (task_at m) main) ∙ exists.at_place in
      let port = found_port (inputs_of t ++ outputs_of t) h.port exists.shape exists.at_port in
      let P : List ℕ → Type 0 = λ s. IsPointOf s h.index in
      let inside : IsPointOf port.0.shape h.index = subst P (sym port.3) exists.inside in
      let Q : List Port → Type 0 = λ ports. IsAmong (elements_of [] ports) h in
      let ins : main_inputs m ≡ inputs_of t = ap (λ o. unwrap_or (option_map inputs_of o) []) at in
      let outs : main_outputs m ≡ outputs_of t = ap (λ o. unwrap_or (option_map outputs_of o) []) at in
      elim (among_append (inputs_of t) (outputs_of t) port.0 port.1) [
        | inl i ↦ among_left (main_input_elements m) (main_output_elements m) h (subst Q (sym ins) (of_port [] (inputs_of t) port.0 h i main (sym port.2) inside))
        | inr i ↦ among_right (main_input_elements m) (main_output_elements m) h (subst Q (sym outs) (of_port [] (outputs_of t) port.0 h i main (sym port.2) inside))
      ]

-- ---- a home is a cell

module _ (f : Laid) (sound : IsSound f.model) (single : IsSingleAssignment f.model) (laid : IsLaid f) where
  abbrev HasCell : Element → Type 0
  HasCell h = (c : ℕ) × (slice_get f.cells c ≡ Some h)

  homes : AreHomes f
  homes = laid_cells_are_homes f sound.shapes laid

  listed_cell : (h : Element) → IsAmong ((main_input_elements f.model ++ main_output_elements f.model) ++ homes.rest) h → HasCell h
  listed_cell h a =
      let at : slice_get ((main_input_elements f.model ++ main_output_elements f.model) ++ homes.rest) a.0 ≡ Some h = among_get ((main_input_elements f.model ++ main_output_elements f.model) ++ homes.rest) a.0 h a.1.0 a.1.1 in
      (a.0, ap (λ cells. slice_get cells a.0) homes.order ∙ at)

  standing_cell : (h : Element) → IsElement f.model h → home_of f.model h ≡ Kept h → HasCell h
  standing_cell h exists stands = go h.place refl
    where
      go : (place : Place) → h.place ≡ place → HasCell h
      go [] e = listed_cell h (among_left (main_input_elements f.model ++ main_output_elements f.model) homes.rest h (main_listed f.model sound h exists e))
      go (d ∷ up) e = listed_cell h (among_right (main_input_elements f.model ++ main_output_elements f.model) homes.rest h ((homes.homes h).0 (record { exists = exists; within = λ g. (let no : d ∷ up ≡ [] = sym e ∙ g in cc); stands = stands })))

  kept_cell : (p h : Element) → IsElement f.model p → home_of f.model p ≡ Kept h → HasCell h
  kept_cell p h exists home =
      let meet = home_meets f.model sound single p h exists home in
      let at = end_exists f.model sound p meet.at exists meet.down in
      let stands : home_of f.model h ≡ Kept h = reached_home f.model sound h meet.at meet.from_home ∙ (sym (reached_home f.model sound p meet.at meet.down) ∙ home) in
      standing_cell h (start_exists f.model sound h meet.at at meet.from_home) stands

  pub element_read : (p : Element) → IsElement f.model p → (r : Read) × IsReadOf f p r
  element_read p exists = go (home_of f.model p) refl
    where
      go : (o : Home) → home_of f.model p ≡ o → (r : Read) × IsReadOf f p r
      go (Kept h) e = let c = kept_cell p h exists e in (Cell c.0, record { home = h; is_home = e; at_cell = c.1 })
      go (Constant n) e = (Const n, e)
      go NoHome e = absurd (has_home f.model sound p exists e)
