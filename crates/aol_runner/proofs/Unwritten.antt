-- No instance writes to the cell of a main input.
use Rattle.std.proofs.Common.{◌≡◌, ℕ, zero, suc, Bool, true, ◌&&◌, is_none, is_some, List, [], ◌∷◌, Option, Some, None, slice_get, unwrap_or, sym, ◌∙◌, ap, refl, subst, ◌⊎◌, inl, inr}
use Rattle.std.specs.List.{IsAmong, AllZip, count_by}
use Rattle.aol_shape.specs.Lists.{same}
use Rattle.aol_tiler.specs.Tiler.{address_point}
use Rattle.aol_expr_tree.specs.declared.port.Port.{Port}
use Rattle.aol_model_types.specs.declared.document.Model.{Model}
use Rattle.aol_model_types.specs.declared.place.Key.TheVariants.{KReshapes}
use Rattle.aol_model_types.specs.declared.task.Compound.{Compound}
use Rattle.aol_model_types.specs.declared.task.Copied.{Copied}
use Rattle.aol_model_types.specs.declared.task.Hook.{Hook}
use Rattle.aol_model_types.specs.declared.task.Plain.{Plain}
use Rattle.aol_model_types.specs.declared.task.Repeated.{Repeated}
use Rattle.aol_model_types.specs.declared.task.Task.{Task}
use Rattle.aol_model_types.specs.declared.task.Task.TheVariants as tasks
use Rattle.aol_model_types.specs.declared.task.TilerOn.{TilerOn}
use Rattle.aol_model_types.specs.Places.{to_key}
use Rattle.aol_model_types.specs.Rules.{ShapesAgree, outputs_of, inputs_named, outputs_named, port_shape, copied_checks, gives, takes, to_shape, same_hook, same_part}
use Rattle.aol_flat.specs.Tasks.{part_number}
use Rattle.aol_flat.specs.Place.{Place, IntoPart, IntoRepetition, Element, task_at, elements_of, instance_of_end}
use Rattle.aol_flat.specs.Equation.{MainInput, CopiedElement}
use Rattle.aol_flat.specs.Home.{Kept, home_of, origin, origin_home, part_origin, linked_origin, link_into_part, link_up, tiler_at, is_part_end, is_input_at, handed, part_handed, link_handed, repetition_handed, tiler_handed}
use Rattle.aol_flat.specs.Instance.{Instance, Run, Copy, instances, of_task, written_elements}
use Rattle.aol_flat.specs.Laid.{Laid, IsCellOf}
use Rattle.aol_flat.specs.Wired.{IsInput, IsOutput}
use Rattle.aol_flat.specs.Accept.{IsSound}
use Rattle.aol_flat.specs.Net.{Net, IsNetOf, IsWritten}
use Rattle.aol_flat.proofs.Among.{at_port, get_among}
use Rattle.aol_flat.proofs.Checked.{IsTaskOf, HoldsOfCompound, member, of_compound}
use Rattle.aol_flat.proofs.Levelled.{two_sides}
use Rattle.aol_flat.proofs.LinkRules.{taken_by_part, end_agrees}
use Rattle.aol_flat.proofs.LinkSides.{at_input, task_there, output_there, taken_input, link_there}
use Rattle.aol_flat.proofs.Names.{both-true, same-self, same-equal}
use Rattle.aol_flat.proofs.Once.{found_among, same_found, found_none, counted}
use Rattle.aol_flat.proofs.Real.{sound_is_real}
use Rattle.aol_flat.proofs.Shapes.{output_own}
use Rattle.aol_flat.proofs.Sites.{find-passes}
use Rattle.aol_flat.proofs.SourceCopies.{part_fed, no_link}
use Rattle.aol_flat.proofs.SourceSteps.{main_input_side}
use Rattle.aol_flat.proofs.TilerRules.{IsTiling, JoinsPorts, sides_of}
use Rattle.aol_flat.proofs.Wired.{inner_input, tiler_there}
use Rattle.aol_runner.proofs.Aligned.{some_injective, get_there, among_one}
use Rattle.aol_runner.proofs.Held.{kept_injective, input_home}

-- what is related to an item of the second list at a place
pub zip_back : {X Y : Type 0} (R : X → Y → Type 0) (xs : List X) (ys : List Y) (k : ℕ) (y : Y) → AllZip R xs ys → slice_get ys k ≡ Some y → (x : X) × (slice_get xs k ≡ Some x) × R x y
zip_back R [] [] k y z at = cc
zip_back R [] (b ∷ ys) k y z at = absurd z
zip_back R (a ∷ xs) [] k y z at = absurd z
zip_back R (a ∷ xs) (b ∷ ys) zero y z at =
    let e : b ≡ y = some_injective b y at in
    (a, refl, subst (λ c. R a c) e z.0)
zip_back R (a ∷ xs) (b ∷ ys) (suc k) y z at = zip_back R xs ys k y z.1 at

none_there : {X : Type 0} (o : Option X) → is_none o ≡ true → o ≡ None
none_there None h = refl
none_there (Some x) h = cc

output_home : (m : Model) (e : Element) → IsOutput m e → home_of m e ≡ Kept (handed m e.place e.port e.index)
output_home m e h = rw h

inside_apart : (p : Element) (place : Place) (k : ℕ) (port x : List ℕ) → p.place ≡ [] → p ≡ record { place = IntoPart k ∷ place; port = port; index = x } → ⊥
inside_apart p place k port x main e =
    let no : IntoPart k ∷ place ≡ [] = sym (ap (λ (q : Element). q.place) e) ∙ main in
    cc

module _ (m : Model) (agree : ShapesAgree m) where
  -- the task that is there has an output of this name
  abbrev pub IsOut : Place → List ℕ → Type 0
  IsOut place y = (u : Task) × (task_at m place ≡ Some u) × (is_some (port_shape (outputs_of u) y) ≡ true)

  abbrev pub IsOutElement : Element → Type 0
  IsOutElement e = IsOut e.place e.port

  out_side : (e : Element) → IsOutElement e → IsOutput m e
  out_side e o = output_there m agree e.place o.0 e.port o.1 o.2

  -- the link that hands an output up leads to an own output
  link_out : (up : Place) (c : Compound) (k : ℕ) (y : List ℕ) (l : Plain) → task_at m up ≡ Some (tasks.Compound c) → link_up c k y ≡ Some l → IsOut up l.to.port
  link_out up c k y l at found =
      let test : Plain → Bool = λ j. is_part_end c k y j.from && is_none j.to.part in
      let r = link_there m agree up c l at (found_among test c.links l found) in
      let own : l.to.part ≡ None = none_there l.to.part (both-true (is_part_end c k y l.from) (is_none l.to.part) (find-passes test c.links l found)).1 in
      (tasks.Compound c, at, sym (ap (λ o. is_some (to_shape r.0.before c (record { part = o; port = l.to.port }))) own) ∙ r.1.takes)

  -- so does the tiler at an inner output
  tiler_out : (up : Place) (t : Repeated) (r y : List ℕ) (o : TilerOn) → task_at m up ≡ Some (tasks.Repeated t) → tiler_at t y ≡ Some o → IsOut (IntoRepetition r ∷ up) y → IsOut up o.outer
  tiler_out up t r y o at found out = go (sides_of s.0.before t o s.1)
    where
      inner : o.inner ≡ y
      inner = same-equal o.inner y (find-passes (λ (j : TilerOn). same j.inner y) t.tilers o found)

      s : (s : IsTaskOf m (tasks.Repeated t)) × IsTiling s.before t o
      s = tiler_there m agree up t o at (found_among (λ (j : TilerOn). same j.inner y) t.tilers o found)

      go : JoinsPorts t.ins (inputs_named s.0.before t.task) o ⊎ JoinsPorts t.outs (outputs_named s.0.before t.task) o → IsOut up o.outer
      go (inr sides) = (tasks.Repeated t, at, sides.outside)
      go (inl sides) =
          let e : Element = record { place = IntoRepetition r ∷ up; port = y; index = [] } in
          let known : is_some (port_shape (inputs_named s.0.before t.task) y) ≡ true = sym (ap (λ n. is_some (port_shape (inputs_named s.0.before t.task) n)) inner) ∙ sides.inside in
          absurd (two_sides m e (inner_input m agree up t s.0 r y at out.0 out.1 known) (out_side e out))

  -- an output is handed to an output
  handed_out : (place : Place) (y x : List ℕ) → IsOut place y → IsOutElement (handed m place y x)
  handed_out [] y x out = out
  handed_out (IntoPart k ∷ up) y x out = go (task_at m up) refl (λ port. handed_out up port x)
    where
      by_link : (c : Compound) → task_at m up ≡ Some (tasks.Compound c) → ((port : List ℕ) → IsOut up port → IsOutElement (handed m up port x)) → (l : Option Plain) → link_up c k y ≡ l
          → IsOutElement (link_handed (record { place = IntoPart k ∷ up; port = y; index = x }) x (handed m up) l)
      by_link c at above None found = out
      by_link c at above (Some l) found = above l.to.port (link_out up c k y l at found)

      go : (t : Option Task) → task_at m up ≡ t → ((port : List ℕ) → IsOut up port → IsOutElement (handed m up port x)) → IsOutElement (part_handed (task_at m up) up k y x (handed m up))
      go None e above = let P : Option Task → Type 0 = λ t. IsOutElement (part_handed t up k y x (handed m up)) in subst P (sym e) out
      go (Some (tasks.Elementary t)) e above = let P : Option Task → Type 0 = λ t. IsOutElement (part_handed t up k y x (handed m up)) in subst P (sym e) out
      go (Some (tasks.Repeated t)) e above = let P : Option Task → Type 0 = λ t. IsOutElement (part_handed t up k y x (handed m up)) in subst P (sym e) out
      go (Some (tasks.Compound c)) e above =
          let P : Option Task → Type 0 = λ t. IsOutElement (part_handed t up k y x (handed m up)) in
          subst P (sym e) (by_link c e above (link_up c k y) refl)
  handed_out (IntoRepetition r ∷ up) y x out = go (task_at m up) refl (λ port z. handed_out up port z)
    where
      by_tiler : (t : Repeated) → task_at m up ≡ Some (tasks.Repeated t) → ((port z : List ℕ) → IsOut up port → IsOutElement (handed m up port z)) → (o : Option TilerOn) → tiler_at t y ≡ o
          → IsOutElement (tiler_handed t (record { place = IntoRepetition r ∷ up; port = y; index = x }) r x (handed m up) o)
      by_tiler t at above None found = out
      by_tiler t at above (Some o) found = above o.outer (address_point o.tiler (unwrap_or (port_shape t.outs o.outer) []) r x) (tiler_out up t r y o at found out)

      go : (t : Option Task) → task_at m up ≡ t → ((port z : List ℕ) → IsOut up port → IsOutElement (handed m up port z)) → IsOutElement (repetition_handed (task_at m up) up r y x (handed m up))
      go None e above = let P : Option Task → Type 0 = λ t. IsOutElement (repetition_handed t up r y x (handed m up)) in subst P (sym e) out
      go (Some (tasks.Elementary t)) e above = let P : Option Task → Type 0 = λ t. IsOutElement (repetition_handed t up r y x (handed m up)) in subst P (sym e) out
      go (Some (tasks.Compound t)) e above = let P : Option Task → Type 0 = λ t. IsOutElement (repetition_handed t up r y x (handed m up)) in subst P (sym e) out
      go (Some (tasks.Repeated t)) e above =
          let P : Option Task → Type 0 = λ t. IsOutElement (repetition_handed t up r y x (handed m up)) in
          subst P (sym e) (by_tiler t e above (tiler_at t y) refl)

  -- the home of an output is no input
  out_apart : (w p : Element) → IsOutElement w → IsInput m p → home_of m w ≡ Kept p → ⊥
  out_apart w p out input home =
      let e : Element = handed m w.place w.port w.index in
      let same_home : p ≡ e = kept_injective p e (sym home ∙ output_home m w (out_side w out)) in
      let P : Element → Type 0 = IsInput m in
      two_sides m e (subst P same_home input) (out_side e (handed_out w.place w.port w.index out))

module _ (f : Laid) (sound : IsSound f.model) where
  -- a copy's target isn't stored at a main input
  copy_apart : (w q : Element) → CopiedElement f.model w q → (p : Element) → IsInput f.model p → p.place ≡ [] → home_of f.model w ≡ Kept p → ⊥
  copy_apart w q c p input main home = go c.reshape.to.part refl
    where
      t : IsTaskOf f.model (tasks.Compound c.task)
      t = task_there f.model sound.shapes c.up (tasks.Compound c.task) c.at_place

      holds : HoldsOfCompound t.before t.place c.task
      holds = of_compound t.before t.place c.task t.holds

      taken : is_some (to_shape t.before c.task c.reshape.to) ≡ true
      taken =
          let rules = member (copied_checks t.before c.task) (to_key t.place KReshapes) c.task.reshapes c.reshape holds.reshapes c.listed in
          let h6 = both-true (gives t.before c.task c.reshape.from) _ rules.holds in
          (both-true (takes t.before c.task c.reshape.to) _ h6.1).0

      port : w.port ≡ c.reshape.to.port
      port = ap (λ (x : Element). x.port) c.left

      go : (o : Option (List ℕ)) → c.reshape.to.part ≡ o → ⊥
      go None e =
          let place : w.place ≡ c.up = ap (λ (x : Element). x.place) c.left ∙ ap (instance_of_end c.task c.up) e in
          let own : is_some (port_shape c.task.outs c.reshape.to.port) ≡ true = sym (ap (λ o. is_some (to_shape t.before c.task (record { part = o; port = c.reshape.to.port }))) e) ∙ taken in
          out_apart f.model sound.shapes w p (tasks.Compound c.task, ap (task_at f.model) place ∙ c.at_place, ap (λ n. is_some (port_shape c.task.outs n)) port ∙ own) input home
      go (Some name) e =
          let part = taken_by_part t.before c.task c.reshape.to name e taken in
          let k : ℕ = part_number c.task name in
          let u : List ℕ = c.reshape.to.port in
          let end : Hook = record { part = Some name; port = u } in
          let into_end : same_hook c.reshape.to end ≡ true =
          ap (λ o. same_part o (Some name) && same u u) e ∙ (ap (λ b. b && same u u) (same-self name) ∙ same-self u) in
          let none : link_into_part c.task k u ≡ None =
          same_found (λ (l : Plain). is_part_end c.task k u l.to) (λ (l : Plain). same_hook l.to end) c.task.links (λ l a. end_agrees c.task name part.0 part.1 u l.to)
          ∙ found_none (λ (l : Plain). same_hook l.to end) c.task.links
          (no_link (count_by (λ (l : Plain). same_hook l.to end) c.task.links) (count_by (λ (l : Copied). same_hook l.to end) c.task.reshapes)
          (part_fed t.before t.place c.task name u part.0 holds part.1 part.2) (counted (λ (l : Copied). same_hook l.to end) c.task.reshapes c.reshape c.listed into_end)) in
          let place : w.place ≡ IntoPart k ∷ c.up = ap (λ (x : Element). x.place) c.left ∙ ap (instance_of_end c.task c.up) e in
          let itself : home_of f.model w ≡ Kept (record { place = IntoPart k ∷ c.up; port = u; index = w.index }) =
          input_home f w (at_input f.model w (IntoPart k ∷ c.up) u place port (taken_input f.model sound.shapes c.up c.task c.reshape.to name c.at_place t taken e))
          ∙ (ap (λ x. origin_home f.model (origin f.model x w.port w.index)) place
          ∙ (ap (λ n. origin_home f.model (origin f.model (IntoPart k ∷ c.up) n w.index)) port
          ∙ (ap (λ o. origin_home f.model (part_origin o c.up k u w.index (origin f.model c.up))) c.at_place
          ∙ ap (λ l. origin_home f.model (linked_origin c.task c.up k u w.index (origin f.model c.up) l)) none))) in
          inside_apart p c.up k u w.index main (kept_injective p (record { place = IntoPart k ∷ c.up; port = u; index = w.index }) (sym home ∙ itself))

  -- nothing that a listed instance writes is
  written_apart : (j : ℕ) (i : Instance) → slice_get (instances f.model) j ≡ Some i → (w : Element) → IsAmong (written_elements f.model i) w → (p : Element) → IsInput f.model p → p.place ≡ []
      → home_of f.model w ≡ Kept p → ⊥
  written_apart j (Run place) at w a p input main home =
      let real = sound_is_real f.model sound j (Run place) at in
      let P : List Element → Type 0 = λ es. IsAmong es w in
      let outs : List Port = outputs_of (tasks.Elementary real.0) in
      let listed : IsAmong (elements_of place outs) w = subst P (ap (of_task (λ t. elements_of place (outputs_of t))) real.1) a in
      let there = at_port place outs w listed in
      let here : w.place ≡ place = ap (λ (x : Element). x.place) there.is in
      let named : w.port ≡ there.port.name = ap (λ (x : Element). x.port) there.is in
      let r = task_there f.model sound.shapes place (tasks.Elementary real.0) real.1 in
      let own : is_some (port_shape outs there.port.name) ≡ true = ap is_some (output_own r.before r.place (tasks.Elementary real.0) there.port r.holds there.listed) in
      out_apart f.model sound.shapes w p (tasks.Elementary real.0, ap (task_at f.model) here ∙ real.1, ap (λ n. is_some (port_shape outs n)) named ∙ own) input home
  written_apart j (Copy up k repetition part) at w a p input main home =
      let real = sound_is_real f.model sound j (Copy up k repetition part) at in
      let P : List Element → Type 0 = λ es. IsAmong es w in
      let is : w ≡ real.0 = among_one real.0 w (subst P real.3 a) in
      copy_apart real.0 real.1 real.2 p input main (ap (home_of f.model) (sym is) ∙ home)

  pub main_unwritten : (net : Net) → IsNetOf f net → (p : Element) → MainInput f.model p → (c : ℕ) → IsCellOf f p c → IsWritten net c → ⊥
  main_unwritten net is_net p a c cell w = go (slice_get net.writes w.writer) refl
    where
      go : (o : Option (List ℕ)) → slice_get net.writes w.writer ≡ o → ⊥
      go None e =
          let no : slice_get [] w.place ≡ Some c = sym (ap (λ o. slice_get (unwrap_or o []) w.place) e) ∙ w.at in
          cc
      go (Some cs) e =
          let at : slice_get cs w.place ≡ Some c = sym (ap (λ o. slice_get (unwrap_or o []) w.place) e) ∙ w.at in
          let i = get_there net.writes (instances f.model) w.writer cs (sym is_net.many_writes) e in
          let x = zip_back (IsCellOf f) (written_elements f.model i.0) cs w.place c (is_net.writes w.writer i.0 cs i.1 e) at in
          let main : Element = record { place = []; port = p.port; index = p.index } in
          let home : home_of f.model p ≡ Kept main = input_home f p (main_input_side f.model sound p a) ∙ ap (λ place. origin_home f.model (origin f.model place p.port p.index)) a.is_main in
          let stored : cell.home ≡ main = kept_injective cell.home main (sym cell.is_home ∙ home) in
          let one : x.2.home ≡ cell.home = some_injective x.2.home cell.home (sym x.2.at_cell ∙ cell.at_cell) in
          let input : IsInput f.model main = sym (ap (λ place. is_input_at (task_at f.model place) p.port) a.is_main) ∙ main_input_side f.model sound p a in
          written_apart w.writer i.0 i.1 x.0 (get_among (written_elements f.model i.0) w.place x.0 x.1) main input refl (x.2.is_home ∙ ap (λ h. Kept h) (one ∙ stored))
