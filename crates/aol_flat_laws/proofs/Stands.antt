-- Which elements below the main task are their own homes.
use Rattle.std.proofs.Common.{◌≡◌, ℕ, true, false, List, [], ◌∷◌, length, Option, Some, None, is_none, unwrap_or, option_and_then, sym, ◌∙◌, ap, refl, arith, inl, inr}
use Rattle.aol_shape.specs.Lists.{same}
use Rattle.aol_tiler.specs.Tiler.{address_point}
use Rattle.aol_link.specs.declared.link.Interlink.{Interlink}
use Rattle.aol_link.specs.Links.{source_repetition}
use Rattle.aol_model_types.specs.declared.document.Model.{Model}
use Rattle.aol_model_types.specs.declared.task.Compound.{Compound}
use Rattle.aol_model_types.specs.declared.task.Plain.{Plain}
use Rattle.aol_model_types.specs.declared.task.Repeated.{Repeated}
use Rattle.aol_model_types.specs.declared.task.Task.{Task}
use Rattle.aol_model_types.specs.declared.task.Task.TheVariants as tasks
use Rattle.aol_model_types.specs.declared.task.TilerOn.{TilerOn}
use Rattle.aol_model_types.specs.Rules.{ShapesAgree, port_shape}
use Rattle.aol_flat.specs.Tasks.{part_number}
use Rattle.aol_flat.specs.Place.{Place, IntoPart, IntoRepetition, Element, IsElement, task_at, task_below, end_element, instance_of_end}
use Rattle.aol_flat.specs.Equation.{PartInput, LinkedInput, EarlierOutput}
use Rattle.aol_flat.specs.Home.{Origin, Kept, origin, origin_home, handed, home_of, is_input_at, is_part_end, link_into_part, link_into_repetition, link_up, tiler_at, part_origin, repetition_origin, linked_origin, tiled_origin, part_handed, repetition_handed, link_handed, tiler_handed}
use Rattle.aol_flat.specs.Node.{ToPart, ToBody}
use Rattle.aol_flat.specs.Laid.{stores_input, stores_output}
use Rattle.aol_flat.specs.Wired.{IsInput, IsOutput}
use Rattle.aol_flat.proofs.Homes.{input_home}
use Rattle.aol_flat.proofs.Names.{same-equal}
use Rattle.aol_flat.proofs.Once.{found_among}
use Rattle.aol_flat.proofs.Sites.{find-passes}
use Rattle.aol_flat.proofs.SourceRight.{part_end, same_element}
use Rattle.aol_flat.proofs.Wired.{agreeing_is_wired}
use Rattle.aol_flat_laws.proofs.Ends.{PartLeads, unlinked, outward, across, RepetitionLeads, outside, earlier, part_leads, repetition_leads, origin_within, home_within, handed_climbs, handed_within}

-- an element of a part, and of a repetition
abbrev pub of_part : Place → ℕ → List ℕ → List ℕ → Element
of_part up k u x = record { place = IntoPart k ∷ up; port = u; index = x }

abbrev pub of_repetition : Place → List ℕ → List ℕ → List ℕ → Element
of_repetition up r u x = record { place = IntoRepetition r ∷ up; port = u; index = x }

-- an input is no output
both_sides : (m : Model) (p q : Element) → q ≡ p → IsInput m p → IsOutput m q → ⊥
both_sides m p q e input output =
    let f : true ≡ false = sym input ∙ (ap (λ (x : Element). is_input_at (task_at m x.place) x.port) (sym e) ∙ output) in
    cc

-- the link into an input of a part feeds it
abbrev pub part_fed_by : (m : Model) (up : Place) (k : ℕ) (u x : List ℕ) (c : Compound) (l : Plain) → task_at m up ≡ Some (tasks.Compound c) → link_into_part c k u ≡ Some l → IsElement m (of_part up k u x)
    → PartInput m (of_part up k u x) (end_element c up l.from x)
part_fed_by m up k u x c l at f exists =
    let end = part_end c k u l.to (find-passes (λ (p : Plain). is_part_end c k u p.to) c.links l f) in
    let place : instance_of_end c up l.to.part ≡ IntoPart k ∷ up = ap (instance_of_end c up) end.1 ∙ ap (λ (n : ℕ). IntoPart n ∷ up) end.2 in
    record {
      up = up;
      task = c;
      at_place = at;
      link = l;
      listed = found_among (λ (p : Plain). is_part_end c k u p.to) c.links l f;
      part = end.0;
      into_part = end.1;
      left = same_element (of_part up k u x) (end_element c up l.to x) (sym place) (sym end.3) refl;
      right = refl;
      exists = exists;
    }

-- and the link into an input of a repetition
abbrev pub fed_by_repetition : (m : Model) (up : Place) (r u x : List ℕ) (t : Repeated) (l : Interlink) (source : List ℕ) → task_at m up ≡ Some (tasks.Repeated t) → link_into_repetition t u ≡ Some l
    → source_repetition l.wrap l.distance t.space r ≡ Some source → IsElement m (of_repetition up r u x) → EarlierOutput m (of_repetition up r u x) (of_repetition up source l.from x)
fed_by_repetition m up r u x t l source at f g exists =
    let to : l.to ≡ u = same-equal l.to u (find-passes (λ (k : Interlink). same k.to u) t.links l f) in
    let linked : LinkedInput m (of_repetition up r u x) = record {
      up = up;
      task = t;
      at_place = at;
      link = l;
      listed = found_among (λ (k : Interlink). same k.to u) t.links l f;
      repetition = r;
      left = same_element (of_repetition up r u x) (of_repetition up r l.to x) refl (sym to) refl;
      exists = exists;
    } in
    record { linked = linked; source = source; in_space = g; right = refl }

module _ (m : Model) (agree : ShapesAgree m) where
  -- ---- inputs

  pub part_input_stands : (up : Place) (k : ℕ) (u x : List ℕ) → IsElement m (of_part up k u x) → IsInput m (of_part up k u x) → home_of m (of_part up k u x) ≡ Kept (of_part up k u x)
      → stores_input (task_at m up) (ToPart k) u ≡ true
  part_input_stands up k u x exists input home = go (task_at m up) refl (sym (input_home m (of_part up k u x) input) ∙ home)
    where
      by_lead : (c : Compound) → task_at m up ≡ Some (tasks.Compound c) → (o : Origin) → PartLeads c up k u x o → origin_home m o ≡ Kept (of_part up k u x) → is_none (link_into_part c k u) ≡ true
      by_lead c at o (unlinked f g) h = ap is_none f
      by_lead c at o (outward w) h = absurd (omega (arith, home_within m (length up) o (of_part up k u x) w h))
      by_lead c at o (across l name f g i) h =
          let q : Element = of_part up (part_number c name) l.from.port x in
          let kept : Kept (handed m q.place q.port q.index) ≡ Kept (of_part up k u x) = ap (origin_home m) (sym i) ∙ h in
          let here : handed m q.place q.port q.index ≡ of_part up k u x = cc in
          let is : end_element c up l.from x ≡ q = ap (λ o. record { place = instance_of_end c up o; port = l.from.port; index = x }) g in
          let output : IsOutput m (end_element c up l.from x) =
          (agreeing_is_wired m agree).part_input_part (of_part up k u x) (end_element c up l.from x) (part_fed_by m up k u x c l at f exists) name g in
          elim (handed_climbs m q.place l.from.port x) [
            | inl s ↦ absurd (both_sides m (of_part up k u x) (end_element c up l.from x) (is ∙ (sym s ∙ here)) input output)
            | inr s ↦ absurd (omega (arith, s, ap (λ (e : Element). length e.place) here))
          ]

      go : (o : Option Task) → task_at m up ≡ o → origin_home m (part_origin o up k u x (origin m up)) ≡ Kept (of_part up k u x) → stores_input o (ToPart k) u ≡ true
      go None at h = cc
      go (Some (tasks.Elementary e)) at h = cc
      go (Some (tasks.Repeated t)) at h = cc
      go (Some (tasks.Compound c)) at h = by_lead c at (linked_origin c up k u x (origin m up) (link_into_part c k u)) (part_leads up (origin m up) (origin_within m up) c k u x) h

  pub repetition_input_leads : (up : Place) (r u x : List ℕ) → IsElement m (of_repetition up r u x) → IsInput m (of_repetition up r u x) → home_of m (of_repetition up r u x) ≡ Kept (of_repetition up r u x) → ⊥
  repetition_input_leads up r u x exists input home = go (task_at m up) refl (sym (input_home m (of_repetition up r u x) input) ∙ home)
    where
      by_lead : (t : Repeated) → task_at m up ≡ Some (tasks.Repeated t) → (o : Origin) → RepetitionLeads t up r u x o → origin_home m o ≡ Kept (of_repetition up r u x) → ⊥
      by_lead t at o (outside w) h = omega (arith, home_within m (length up) o (of_repetition up r u x) w h)
      by_lead t at o (earlier l source f g i) h =
          let q : Element = of_repetition up source l.from x in
          let kept : Kept (handed m q.place q.port q.index) ≡ Kept (of_repetition up r u x) = ap (origin_home m) (sym i) ∙ h in
          let here : handed m q.place q.port q.index ≡ of_repetition up r u x = cc in
          let fed = fed_by_repetition m up r u x t l source at f g exists in
          let output : IsOutput m q = ((agreeing_is_wired m agree).earlier (of_repetition up r u x) q fed).1 in
          elim (handed_climbs m q.place l.from x) [
            | inl s ↦ both_sides m (of_repetition up r u x) q (sym s ∙ here) input output
            | inr s ↦ omega (arith, s, ap (λ (e : Element). length e.place) here)
          ]

      go : (o : Option Task) → task_at m up ≡ o → origin_home m (repetition_origin o up r u x (origin m up)) ≡ Kept (of_repetition up r u x) → ⊥
      go None at h = cc
      go (Some (tasks.Elementary e)) at h = cc
      go (Some (tasks.Compound c)) at h = cc
      go (Some (tasks.Repeated t)) at h = by_lead t at (tiled_origin t up r u x (origin m up) (tiler_at t u)) (repetition_leads up (origin m up) (origin_within m up) t r u x) h

  -- ---- outputs

  pub part_output_stands : (up : Place) (k : ℕ) (y x : List ℕ) (t : Task) → task_at m (IntoPart k ∷ up) ≡ Some t → handed m (IntoPart k ∷ up) y x ≡ of_part up k y x → stores_output (task_at m up) (ToPart k) y ≡ true
  part_output_stands up k y x t there h = go (task_at m up) there h
    where
      by_link : (o : Option Plain) → link_handed (of_part up k y x) x (handed m up) o ≡ of_part up k y x → is_none o ≡ true
      by_link None e = refl
      by_link (Some l) e = absurd (omega (arith, handed_within m up l.to.port x, ap (λ (f : Element). length f.place) e))

      go : (o : Option Task) → option_and_then (λ u. task_below m u (IntoPart k)) o ≡ Some t → part_handed o up k y x (handed m up) ≡ of_part up k y x → stores_output o (ToPart k) y ≡ true
      go None f e = cc
      go (Some (tasks.Elementary u)) f e = cc
      go (Some (tasks.Repeated u)) f e = cc
      go (Some (tasks.Compound c)) f e = by_link (link_up c k y) e

  pub repetition_output_stands : (up : Place) (r space y x : List ℕ) (t : Task) → task_at m (IntoRepetition r ∷ up) ≡ Some t → handed m (IntoRepetition r ∷ up) y x ≡ of_repetition up r y x
      → stores_output (task_at m up) (ToBody space) y ≡ true
  repetition_output_stands up r space y x t there h = go (task_at m up) there h
    where
      by_tiler : (u : Repeated) (o : Option TilerOn) → tiler_handed u (of_repetition up r y x) r x (handed m up) o ≡ of_repetition up r y x → is_none o ≡ true
      by_tiler u None e = refl
      by_tiler u (Some o) e =
          absurd (omega (arith, handed_within m up o.outer (address_point o.tiler (unwrap_or (port_shape u.outs o.outer) []) r x), ap (λ (f : Element). length f.place) e))

      go : (o : Option Task) → option_and_then (λ u. task_below m u (IntoRepetition r)) o ≡ Some t → repetition_handed o up r y x (handed m up) ≡ of_repetition up r y x → stores_output o (ToBody space) y ≡ true
      go None f e = cc
      go (Some (tasks.Elementary u)) f e = cc
      go (Some (tasks.Compound u)) f e = cc
      go (Some (tasks.Repeated u)) f e = by_tiler u (tiler_at u y) e
