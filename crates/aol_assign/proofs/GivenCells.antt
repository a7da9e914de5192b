-- An element is given exactly where reading it gives a default number, a main input or a cell that is written.
use Rattle.std.proofs.Common.{◌≡◌, ℕ, zero, suc, ◌<◌, List, [], ◌∷◌, ◌++◌, length, Option, Some, None, slice_get, sym, ◌∙◌, ap, refl, arith, ◌⊎◌, inl, inr, subst, unwrap_or, option_map}
use Rattle.std.specs.List.{IsAmong}
use Rattle.std.proofs.lemmas.List.{append_assoc}
use Rattle.aol_model_types.specs.declared.task.Task.{Task}
use Rattle.aol_model_types.specs.Rules.{inputs_of}
use Rattle.aol_expr_tree.specs.declared.port.Port.{Port}
use Rattle.aol_flat.specs.Tasks.{main_task, main_inputs}
use Rattle.aol_flat.specs.Node.{nodes}
use Rattle.std.specs.Prelude.{flat_map}
use Rattle.aol_flat.specs.Place.{Element, elements_of}
use Rattle.aol_flat.specs.Equation.{MainInput}
use Rattle.aol_flat.specs.Home.{Kept, home_of}
use Rattle.aol_flat.specs.Laid.{Laid, IsLaid, IsReadOf, main_input_elements, main_output_elements, inner_cells}
use Rattle.aol_flat.specs.Targets.{IsSingleAssignment}
use Rattle.aol_flat.specs.Accept.{IsSound}
use Rattle.aol_flat.specs.declared.view.Read.{Read}
use Rattle.aol_flat.specs.declared.view.Read.TheVariants.{Cell, Const}
use Rattle.aol_flat.proofs.Among.{at_port, get_among, among_get}
use Rattle.aol_flat.proofs.Names.{slice_get-left}
use Rattle.aol_flat.proofs.Numbered.{of_port}
use Rattle.aol_flat.proofs.Real.{sound_is_real}
use Rattle.aol_flat_laws.proofs.LaidHomes.{laid_cells_are_homes}
use Rattle.aol_flat_laws.proofs.OneWriter.{written_among, among_written}
use Rattle.aol_assign.specs.Cells.{IsGivenRead, GivenByCells}
use Rattle.aol_assign.proofs.GivenHomes.{GivenHome, IsWrittenHome, given_home, home_given}

module _ (f : Laid) (sound : IsSound f.model) (laid : IsLaid f) where
  -- the first cells are the main inputs
  pub first_cells : f.cells ≡ main_input_elements f.model ++ (main_output_elements f.model ++ flat_map (inner_cells f.model) (nodes f.model))
  first_cells = laid ∙ append_assoc (main_input_elements f.model) (main_output_elements f.model) (flat_map (inner_cells f.model) (nodes f.model))

module _ (f : Laid) (sound : IsSound f.model) (laid : IsLaid f) (single : IsSingleAssignment f.model) where
  -- a main input is an element of the list of main inputs
  main_listed : (h : Element) → MainInput f.model h → IsAmong (main_input_elements f.model) h
  main_listed h a =
      let P : List Port → Type 0 = λ ports. IsAmong (elements_of [] ports) h in
      let ports : main_inputs f.model ≡ inputs_of a.task = ap (λ o. unwrap_or (option_map inputs_of o) []) a.at_place in
      subst P (sym ports) (of_port [] (inputs_of a.task) a.port h (get_among (inputs_of a.task) a.number a.port a.listed) a.is_main a.named a.inside)

  listed_main : (h : Element) → IsAmong (main_input_elements f.model) h → MainInput f.model h
  listed_main h a = go (main_task f.model) refl a
    where
      go : (o : Option Task) → main_task f.model ≡ o → IsAmong (elements_of [] (unwrap_or (option_map inputs_of o) [])) h → MainInput f.model h
      go None e b = absurd (omega (arith, b.1.0))
      go (Some t) e b =
          let r = at_port [] (inputs_of t) h b in
          record {
            is_main = ap (λ (x : Element). x.place) r.is;
            task = t;
            at_place = e;
            number = r.listed.0;
            port = r.port;
            listed = among_get (inputs_of t) r.listed.0 r.port r.listed.1.0 r.listed.1.1;
            named = ap (λ (x : Element). x.port) r.is;
            inside = r.inside;
          }

  -- a cell holds a main input exactly where it is one of the first
  cell_main : (c : ℕ) (h : Element) → slice_get f.cells c ≡ Some h → c < length (main_input_elements f.model) → MainInput f.model h
  cell_main c h at lt = listed_main h (get_among (main_input_elements f.model) c h (in_front (main_input_elements f.model) _ c h lt (sym (ap (λ cells. slice_get cells c) (first_cells f sound laid)) ∙ at)))
    where
      in_front : (xs ys : List Element) (c : ℕ) (h : Element) → c < length xs → slice_get (xs ++ ys) c ≡ Some h → slice_get xs c ≡ Some h
      in_front [] ys c h lt e = absurd (omega (arith, lt))
      in_front (x ∷ xs) ys zero h lt e = e
      in_front (x ∷ xs) ys (suc c) h lt e = in_front xs ys c h (omega (arith, lt)) e

  main_cell : (c : ℕ) (h : Element) → slice_get f.cells c ≡ Some h → MainInput f.model h → c < length (main_input_elements f.model)
  main_cell c h at a =
      let l = main_listed h a in
      let there : slice_get (main_input_elements f.model) l.0 ≡ Some h = among_get (main_input_elements f.model) l.0 h l.1.0 l.1.1 in
      let cell : slice_get f.cells l.0 ≡ Some h =
      ap (λ cells. slice_get cells l.0) (first_cells f sound laid) ∙ slice_get-left (main_input_elements f.model) (main_output_elements f.model ++ flat_map (inner_cells f.model) (nodes f.model)) l.0 h there in
      let one : l.0 ≡ c = (laid_cells_are_homes f sound.shapes laid).once l.0 c h cell at in
      omega (arith, l.1.0, one)

  given_read : (p : Element) (r : Read) → IsReadOf f p r → GivenHome f.model (home_of f.model p) → IsGivenRead f r
  given_read p (Const n) is g = tt
  given_read p (Cell c) is g = go (subst (GivenHome f.model) is.is_home g)
    where
      go : MainInput f.model is.home ⊎ IsWrittenHome f.model is.home → IsGivenRead f (Cell c)
      go (inl a) = inl (main_cell c is.home is.at_cell a)
      go (inr w) =
          let k = among_written f.model w.instance w.element (sound_is_real f.model sound w.number w.instance w.at) w.written in
          inr (w.number, record { instance = w.instance; at = w.at; port = k.0; rank = k.1; element = w.element; written = k.2; in_cell = record { home = is.home; is_home = w.home; at_cell = is.at_cell } })

  read_given : (p : Element) (r : Read) → IsReadOf f p r → IsGivenRead f r → GivenHome f.model (home_of f.model p)
  read_given p (Const n) is g = subst (GivenHome f.model) (sym is) tt
  read_given p (Cell c) is g = subst (GivenHome f.model) (sym is.is_home) (go g)
    where
      go : IsGivenRead f (Cell c) → MainInput f.model is.home ⊎ IsWrittenHome f.model is.home
      go (inl lt) = inl (cell_main c is.home is.at_cell lt)
      go (inr w) =
          let both : Some w.1.in_cell.home ≡ Some is.home = sym w.1.in_cell.at_cell ∙ is.at_cell in
          let one : w.1.in_cell.home ≡ is.home = cc in
          inr (record {
            number = w.0;
            instance = w.1.instance;
            at = w.1.at;
            element = w.1.element;
            written = written_among f.model w.1.instance w.1.port w.1.rank w.1.element (sound_is_real f.model sound w.0 w.1.instance w.1.at) w.1.written;
            home = w.1.in_cell.is_home ∙ ap Kept one;
          })

pub given_by_cells : GivenByCells
given_by_cells f sound laid single p r exists is = (
  λ g. given_read f sound laid single p r is (given_home f.model sound single p g),
  λ g. home_given f.model sound single p exists (read_given f sound laid single p r is g),
)
