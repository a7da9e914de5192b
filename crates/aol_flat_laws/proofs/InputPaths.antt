-- Following leads from an element and from its home to one element.
use Rattle.std.proofs.Common.{◌≡◌, ℕ, Bool, true, false, List, [], ◌∷◌, length, Option, Some, None, unwrap_or, sym, ◌∙◌, ap, refl, arith, subst}
use Rattle.aol_tiler.specs.Tiler.{address_point}
use Rattle.aol_link.specs.declared.link.Choice.{Choice}
use Rattle.aol_link.specs.declared.link.Fallback.{Fallback}
use Rattle.aol_link.specs.declared.link.Fallback.TheVariants.{Number, Tiled}
use Rattle.aol_link.specs.declared.link.Interlink.{Interlink}
use Rattle.aol_link.specs.Links.{source_repetition}
use Rattle.aol_model_types.specs.declared.document.Model.{Model}
use Rattle.aol_model_types.specs.declared.task.Compound.{Compound}
use Rattle.aol_model_types.specs.declared.task.Plain.{Plain}
use Rattle.aol_model_types.specs.declared.task.Repeated.{Repeated}
use Rattle.aol_model_types.specs.declared.task.Task.{Task}
use Rattle.aol_model_types.specs.declared.task.Task.TheVariants as tasks
use Rattle.aol_model_types.specs.declared.task.TilerOn.{TilerOn}
use Rattle.aol_model_types.specs.Rules.{port_shape}
use Rattle.aol_flat.specs.Tasks.{part_number}
use Rattle.aol_flat.specs.Place.{Place, IntoPart, IntoRepetition, Element, IsElement, task_at, end_element, instance_of_end}
use Rattle.aol_flat.specs.Home.{Kept, origin, origin_home, handed, home_of, is_input_at, link_into_part, tiler_at, link_into_repetition, default_choice, linked_origin, end_origin, part_origin, repetition_origin, tiled_origin, link_origin, source_origin, choice_origin, fallback_origin}
use Rattle.aol_flat.specs.InstanceNeed.{Reaches, here, onward}
use Rattle.aol_flat.specs.Need.{Follows, by_part_input, by_own_output, by_tiled_input, by_link, by_default, by_outer_output, by_following}
use Rattle.aol_flat.specs.Sources.{source_at, repetition_source, tiled_source, interlink_source, earlier_source, choice_source, fallback_source, TakesFrom, following, copying}
use Rattle.aol_flat.specs.Targets.{IsSingleAssignment}
use Rattle.aol_flat.specs.Wired.{IsInput, IsOutput, IsWired}
use Rattle.aol_flat.specs.Accept.{IsSound}
use Rattle.aol_flat.proofs.Exists.{needed_exists}
use Rattle.aol_flat.proofs.Homes.{input_home, output_home}
use Rattle.aol_flat.proofs.Levelled.{two_sides}
use Rattle.aol_flat.proofs.SourceRight.{repetition_right}
use Rattle.aol_flat.proofs.SourceSteps.{from_input}
use Rattle.aol_flat.proofs.Wired.{agreeing_is_wired}
use Rattle.aol_flat_laws.proofs.FedOnce.{not_repeated}
use Rattle.aol_flat_laws.proofs.HandedPaths.{handed_reaches}
use Rattle.aol_flat_laws.proofs.Stands.{of_part, of_repetition, part_fed_by, fed_by_repetition}

-- following leads from both to one element
pub record Meet (m : Model) (p h : Element) : Type 0 where
  pub at : Element
  pub down : Reaches m p at
  pub from_home : Reaches m h at

meet_here : (m : Model) (p h : Element) → p ≡ h → Meet m p h
meet_here m p h e = let P : Element → Type 0 = λ x. Reaches m x p in record { at = p; down = here; from_home = subst P e here }

meet_on : (m : Model) (p q h : Element) → Follows m p q → Meet m q h → Meet m p h
meet_on m p q h f r = record { at = r.at; down = onward f r.down; from_home = r.from_home }

module _ (m : Model) (sound : IsSound m) (single : IsSingleAssignment m) where
  wired : IsWired m
  wired = agreeing_is_wired m sound.shapes

  -- an output meets its home at itself
  output_meets : (q h : Element) → IsElement m q → IsOutput m q → Kept (handed m q.place q.port q.index) ≡ Kept h → Meet m q h
  output_meets q h exists output home =
      let e : handed m q.place q.port q.index ≡ h = cc in
      let P : Element → Type 0 = λ x. Reaches m x q in
      record { at = q; down = here; from_home = subst P e (handed_reaches m sound q.place q.port q.index exists output) }

  -- inputs at an instance whose home is kept meet it
  abbrev Meeting : Place → Type 0
  Meeting place =
      (u x : List ℕ) → IsElement m (record { place = place; port = u; index = x }) → IsInput m (record { place = place; port = u; index = x }) → (h : Element)
      → origin_home m (origin m place u x) ≡ Kept h → Meet m (record { place = place; port = u; index = x }) h

  -- ---- parts

  part_meets : (up : Place) (k : ℕ) → Meeting up → Meeting (IntoPart k ∷ up)
  part_meets up k above u x exists input h home = go (task_at m up) refl home
    where
      by_end : (c : Compound) → task_at m up ≡ Some (tasks.Compound c) → (l : Plain) → link_into_part c k u ≡ Some l → (o : Option (List ℕ)) → l.from.part ≡ o
          → origin_home m (end_origin c up x (origin m up) l.from.port o) ≡ Kept h → Meet m (of_part up k u x) h
      by_end c at l f None g e =
          let q : Element = end_element c up l.from x in
          let fed = part_fed_by m up k u x c l at f exists in
          let is : record { place = up; port = l.from.port; index = x } ≡ q = ap (λ o. record { place = instance_of_end c up o; port = l.from.port; index = x }) (sym g) in
          let there : IsElement m q = needed_exists m sound (of_part up k u x) q (by_following (by_part_input fed)) in
          let side : IsInput m q = wired.part_input_own (of_part up k u x) q fed g in
          let P : Element → Type 0 = λ z. IsElement m z in
          let Q : Element → Type 0 = λ z. IsInput m z in
          let R : Element → Type 0 = λ z. Meet m z h in
          meet_on m (of_part up k u x) q h (by_part_input fed) (subst R is (above l.from.port x (subst P (sym is) there) (subst Q (sym is) side) h e))
      by_end c at l f (Some name) g e =
          let q : Element = end_element c up l.from x in
          let fed = part_fed_by m up k u x c l at f exists in
          let is : of_part up (part_number c name) l.from.port x ≡ q = ap (λ o. record { place = instance_of_end c up o; port = l.from.port; index = x }) (sym g) in
          let there : IsElement m q = needed_exists m sound (of_part up k u x) q (by_following (by_part_input fed)) in
          let kept : Kept (handed m q.place q.port q.index) ≡ Kept h = ap (λ (z : Element). Kept (handed m z.place z.port z.index)) (sym is) ∙ e in
          meet_on m (of_part up k u x) q h (by_part_input fed) (output_meets q h there (wired.part_input_part (of_part up k u x) q fed name g) kept)

      by_link : (c : Compound) → task_at m up ≡ Some (tasks.Compound c) → (o : Option Plain) → link_into_part c k u ≡ o → origin_home m (linked_origin c up k u x (origin m up) o) ≡ Kept h → Meet m (of_part up k u x) h
      by_link c at None f e = let same : of_part up k u x ≡ h = cc in meet_here m (of_part up k u x) h same
      by_link c at (Some l) f e = by_end c at l f l.from.part refl e

      go : (o : Option Task) → task_at m up ≡ o → origin_home m (part_origin o up k u x (origin m up)) ≡ Kept h → Meet m (of_part up k u x) h
      go None at e = cc
      go (Some (tasks.Elementary t)) at e = cc
      go (Some (tasks.Repeated t)) at e = cc
      go (Some (tasks.Compound c)) at e = by_link c at (link_into_part c k u) refl e

  -- ---- repetitions

  -- what an input of a repetition takes is followed
  only_follows : (up : Place) (r : List ℕ) (p q : Element) → p.place ≡ IntoRepetition r ∷ up → IsInput m p → TakesFrom m p q → Follows m p q
  only_follows up r p q e input (following f) = f
  only_follows up r p q e input (copying c) = absurd (not_repeated m sound single p q c up r e input)

  -- and is an input where it is further up
  outer_side : (up : Place) (r : List ℕ) (p q : Element) → p.place ≡ IntoRepetition r ∷ up → q.place ≡ up → IsInput m p → Follows m p q → IsInput m q
  outer_side up r p q e f input (by_part_input g) =
      let both : IntoRepetition r ∷ up ≡ IntoPart (part_number g.task g.part) ∷ g.up = sym e ∙ (ap (λ (x : Element). x.place) g.left ∙ ap (instance_of_end g.task g.up) g.into_part) in
      let steps : IntoRepetition r ≡ IntoPart (part_number g.task g.part) = cc in
      cc
  outer_side up r p q e f input (by_own_output g) = absurd (two_sides m p input (wired.own_output p q g).0)
  outer_side up r p q e f input (by_tiled_input g) = (wired.tiled_input p q g).1
  outer_side up r p q e f input (by_link g) =
      let here_place : p.place ≡ IntoRepetition g.linked.repetition ∷ g.linked.up = ap (λ (x : Element). x.place) g.linked.left in
      let there_place : q.place ≡ IntoRepetition g.source ∷ g.linked.up = ap (λ (x : Element). x.place) g.right in
      absurd (omega (arith, ap length (sym e ∙ here_place), ap length (sym f ∙ there_place)))
  outer_side up r p q e f input (by_default g) = (wired.default_element p q g).1
  outer_side up r p q e f input (by_outer_output g) = absurd (two_sides m p input (wired.outer_output p q g).0)

  repetition_meets : (up : Place) (r : List ℕ) → Meeting up → Meeting (IntoRepetition r ∷ up)
  repetition_meets up r above u x exists input h home = go (task_at m up) refl home
    where
      -- an element of an outer input
      outward : (t : Repeated) → task_at m up ≡ Some (tasks.Repeated t) → (name a : List ℕ) → tiled_source t up r u x (tiler_at t u) ≡ Some (record { place = up; port = name; index = a })
          → origin_home m (origin m up name a) ≡ Kept h → Meet m (of_repetition up r u x) h
      outward t at name a source e =
          let q : Element = record { place = up; port = name; index = a } in
          let found : source_at m (of_repetition up r u x) ≡ Some q = from_input m (of_repetition up r u x) input ∙ (ap (λ o. repetition_source o up r u x) at ∙ source) in
          let f = only_follows up r (of_repetition up r u x) q refl input (repetition_right m sound (of_repetition up r u x) q exists input up r refl t at found) in
          meet_on m (of_repetition up r u x) q h f
          (above name a (needed_exists m sound (of_repetition up r u x) q (by_following f)) (outer_side up r (of_repetition up r u x) q refl refl input f) h e)

      by_take : (t : Repeated) → task_at m up ≡ Some (tasks.Repeated t) → (d : Fallback) → tiled_source t up r u x (tiler_at t u) ≡ fallback_source t up r x d → origin_home m (fallback_origin t r x (origin m up) d) ≡ Kept h
          → Meet m (of_repetition up r u x) h
      by_take t at (Number n) source e = cc
      by_take t at (Tiled name tiler) source e = outward t at name (address_point tiler (unwrap_or (port_shape t.ins name) []) r x) source e

      by_choice : (t : Repeated) → task_at m up ≡ Some (tasks.Repeated t) → (d : Option Choice) → tiled_source t up r u x (tiler_at t u) ≡ choice_source t up r x d → origin_home m (choice_origin t r x (origin m up) d) ≡ Kept h
          → Meet m (of_repetition up r u x) h
      by_choice t at None source e = cc
      by_choice t at (Some d) source e = by_take t at d.take source e

      by_source : (t : Repeated) → task_at m up ≡ Some (tasks.Repeated t) → (l : Interlink) → link_into_repetition t u ≡ Some l → (s : Option (List ℕ)) → source_repetition l.wrap l.distance t.space r ≡ s
          → tiled_source t up r u x (tiler_at t u) ≡ earlier_source t up r x l s → origin_home m (source_origin t up r x (origin m up) l s) ≡ Kept h → Meet m (of_repetition up r u x) h
      by_source t at l f None g source e = by_choice t at (default_choice l t.space r) source e
      by_source t at l f (Some s) g source e =
          let q : Element = of_repetition up s l.from x in
          let fed = fed_by_repetition m up r u x t l s at f g exists in
          meet_on m (of_repetition up r u x) q h (by_link fed)
          (output_meets q h (needed_exists m sound (of_repetition up r u x) q (by_following (by_link fed))) (wired.earlier (of_repetition up r u x) q fed).1 e)

      by_link_at : (t : Repeated) → task_at m up ≡ Some (tasks.Repeated t) → (o : Option Interlink) → link_into_repetition t u ≡ o → tiled_source t up r u x (tiler_at t u) ≡ interlink_source t up r x o
          → origin_home m (link_origin t up r x (origin m up) o) ≡ Kept h → Meet m (of_repetition up r u x) h
      by_link_at t at None f source e = cc
      by_link_at t at (Some l) f source e = by_source t at l f (source_repetition l.wrap l.distance t.space r) refl source e

      by_tiler : (t : Repeated) → task_at m up ≡ Some (tasks.Repeated t) → (o : Option TilerOn) → tiler_at t u ≡ o → origin_home m (tiled_origin t up r u x (origin m up) o) ≡ Kept h → Meet m (of_repetition up r u x) h
      by_tiler t at (Some o) f e = outward t at o.outer (address_point o.tiler (unwrap_or (port_shape t.ins o.outer) []) r x) (ap (tiled_source t up r u x) f) e
      by_tiler t at None f e = by_link_at t at (link_into_repetition t u) refl (ap (tiled_source t up r u x) f) e

      go : (o : Option Task) → task_at m up ≡ o → origin_home m (repetition_origin o up r u x (origin m up)) ≡ Kept h → Meet m (of_repetition up r u x) h
      go None at e = cc
      go (Some (tasks.Elementary t)) at e = cc
      go (Some (tasks.Compound t)) at e = cc
      go (Some (tasks.Repeated t)) at e = by_tiler t at (tiler_at t u) refl e

  input_meets : (place : Place) → Meeting place
  input_meets [] u x exists input h home = let same : record { place = []; port = u; index = x } ≡ h = cc in meet_here m (record { place = []; port = u; index = x }) h same
  input_meets (IntoPart k ∷ up) u x exists input h home = part_meets up k (input_meets up) u x exists input h home
  input_meets (IntoRepetition r ∷ up) u x exists input h home = repetition_meets up r (input_meets up) u x exists input h home

  -- ---- any element

  pub home_meets : (p h : Element) → IsElement m p → home_of m p ≡ Kept h → Meet m p h
  home_meets p h exists home = go (is_input_at (task_at m p.place) p.port) refl
    where
      go : (b : Bool) → is_input_at (task_at m p.place) p.port ≡ b → Meet m p h
      go true e = input_meets p.place p.port p.index exists e h (sym (input_home m p e) ∙ home)
      go false e = output_meets p h exists e (sym (output_home m p e) ∙ home)
