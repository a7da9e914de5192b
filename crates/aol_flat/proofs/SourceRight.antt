-- What the look-up of sources finds is what the equations say.
use Rattle.std.proofs.Common.{◌≡◌, ℕ, true, false, ◌==◌, List, [], ◌∷◌, Option, Some, None, unwrap_or, sym, ◌∙◌, ap, refl, subst, ◌⊎◌, inl, inr}
use Rattle.std.specs.List.{IsAmong}
use Rattle.std.proofs.lemmas.Bool.{eqb-true}
use Rattle.aol_shape.specs.Lists.{same}
use Rattle.aol_tiler.specs.Matrices.{TilerOf}
use Rattle.aol_tiler.specs.Tiler.{address_point}
use Rattle.aol_link.specs.declared.link.Choice.{Choice}
use Rattle.aol_link.specs.declared.link.Fallback.{Fallback}
use Rattle.aol_link.specs.declared.link.Fallback.TheVariants.{Number, Tiled}
use Rattle.aol_link.specs.declared.link.Interlink.{Interlink}
use Rattle.aol_link.specs.Links.{source_repetition, first_choice, stepped_back}
use Rattle.aol_model_types.specs.declared.document.Model.{Model}
use Rattle.aol_model_types.specs.declared.task.Compound.{Compound}
use Rattle.aol_model_types.specs.declared.task.Hook.{Hook}
use Rattle.aol_model_types.specs.declared.task.Plain.{Plain}
use Rattle.aol_model_types.specs.declared.task.Repeated.{Repeated}
use Rattle.aol_model_types.specs.declared.task.Task.TheVariants as tasks
use Rattle.aol_model_types.specs.declared.task.TilerOn.{TilerOn}
use Rattle.aol_model_types.specs.Rules.{inputs_named, outputs_named, port_shape, fallback_fits, fits_in}
use Rattle.aol_flat.specs.Tasks.{part_number}
use Rattle.aol_flat.specs.Place.{Place, IntoPart, IntoRepetition, Element, IsElement, task_at, end_element, instance_of_end}
use Rattle.aol_flat.specs.Need.{by_part_input, by_own_output, by_tiled_input, by_link, by_default}
use Rattle.aol_flat.specs.Equation.{LinkedInput}
use Rattle.aol_flat.specs.Home.{is_input_at, is_part_end, link_into_part, tiler_at, link_into_repetition, default_choice}
use Rattle.aol_flat.specs.Wired.{IsInput}
use Rattle.aol_flat.specs.Accept.{IsSound}
use Rattle.aol_flat.specs.Sources.{source_at, input_source, repetition_source, tiled_source, interlink_source, earlier_source, choice_source, fallback_source, is_own_end, link_into_own, TakesFrom, following}
use Rattle.aol_flat.proofs.Checked.{IsTaskOf}
use Rattle.aol_flat.proofs.Among.{get_among}
use Rattle.aol_flat.proofs.Names.{both-true, same-equal}
use Rattle.aol_flat.proofs.Once.{there, all_at, found_among}
use Rattle.aol_flat.proofs.Sites.{find-passes}
use Rattle.aol_flat.proofs.SourceSteps.{from_input}
use Rattle.aol_flat.proofs.Wired.{tiler_there, interlink_there, inner_output}
use Rattle.aol_flat.proofs.TilerRules.{IsTiling, JoinsPorts, sides_of}

-- elements with the same place, port and index are one
pub same_element : (p r : Element) → p.place ≡ r.place → p.port ≡ r.port → p.index ≡ r.index → p ≡ r
same_element p r e f g =
    ap (λ (x : Place). record { place = x; port = p.port; index = p.index }) e
    ∙ (ap (λ (x : List ℕ). record { place = r.place; port = x; index = p.index }) f
    ∙ ap (λ (x : List ℕ). record { place = r.place; port = r.port; index = x }) g)

-- what an end at part k is
pub part_end : (c : Compound) (k : ℕ) (port : List ℕ) (h : Hook) → is_part_end c k port h ≡ true → (name : List ℕ) × (h.part ≡ Some name) × (part_number c name ≡ k) × (h.port ≡ port)
part_end c k port h t = go h.part refl
  where
    go : (o : Option (List ℕ)) → h.part ≡ o → (name : List ℕ) × (h.part ≡ Some name) × (part_number c name ≡ k) × (h.port ≡ port)
    go None e = let f : false ≡ true = sym (ap (λ o. is_part_end c k port (record { part = o; port = h.port })) e) ∙ t in absurd (cc)
    go (Some name) e =
        let parts = both-true (part_number c name == k) (same h.port port) (sym (ap (λ o. is_part_end c k port (record { part = o; port = h.port })) e) ∙ t) in
        (name, e, eqb-true (part_number c name) k parts.0, same-equal h.port port parts.1)

own_end : (port : List ℕ) (h : Hook) → is_own_end port h ≡ true → (h.part ≡ None) × (h.port ≡ port)
own_end port h t = go h.part refl
  where
    go : (o : Option (List ℕ)) → h.part ≡ o → (h.part ≡ None) × (h.port ≡ port)
    go None e = (e, same-equal h.port port (sym (ap (λ o. is_own_end port (record { part = o; port = h.port })) e) ∙ t))
    go (Some name) e = let f : false ≡ true = sym (ap (λ o. is_own_end port (record { part = o; port = h.port })) e) ∙ t in absurd (cc)

module _ (m : Model) (sound : IsSound m) where
  -- the source of an input of a repetition
  module _ (p q : Element) (e : IsElement m p) (input : IsInput m p) (up : Place) (r : List ℕ) (here : p.place ≡ IntoRepetition r ∷ up) (t : Repeated) (at : task_at m up ≡ Some (tasks.Repeated t)) where
    abbrev linked : (l : Interlink) → link_into_repetition t p.port ≡ Some l → LinkedInput m p
    linked l f =
        let to : l.to ≡ p.port = same-equal l.to p.port (find-passes (λ (k : Interlink). same k.to p.port) t.links l f) in
        record {
          up = up;
          task = t;
          at_place = at;
          link = l;
          listed = found_among (λ (k : Interlink). same k.to p.port) t.links l f;
          repetition = r;
          left = same_element p (record { place = IntoRepetition r ∷ up; port = l.to; index = p.index }) here (sym to) refl;
          exists = e;
        }

    by_choice : (l : Interlink) → (f : link_into_repetition t p.port ≡ Some l) → source_repetition l.wrap l.distance t.space r ≡ None → (c : Choice) → default_choice l t.space r ≡ Some c → (d : Fallback) → c.take ≡ d
        → fallback_source t up r p.index d ≡ Some q → TakesFrom m p q
    by_choice l f outside c chosen (Number n) takes h = cc
    by_choice l f outside c chosen (Tiled name tiler) takes h =
        let s = interlink_there m sound.shapes up t l at (found_among (λ (k : Interlink). same k.to p.port) t.links l f) in
        let fits : fallback_fits s.0.before t l c.take ≡ true =
        all_at (λ (x : Choice). fallback_fits s.0.before t l x.take) l.rest c s.1.defaults (get_among l.rest (first_choice l.rest t.space (stepped_back r l.distance)) c chosen) in
        let array = array_there tiler (port_shape t.ins name) t.space (port_shape (inputs_named s.0.before t.task) l.to) (sym (ap (fallback_fits s.0.before t l) takes) ∙ fits) in
        let is : record { place = up; port = name; index = address_point tiler (unwrap_or (port_shape t.ins name) []) r p.index } ≡ q = cc in
        let whole : q ≡ record { place = up; port = name; index = address_point tiler array.0 r p.index } =
        sym is ∙ ap (λ (a : Option (List ℕ)). record { place = up; port = name; index = address_point tiler (unwrap_or a []) r p.index }) array.1 in
        following (by_default (record { linked = linked l f; outside = outside; choice = c; chosen = chosen; outer = name; tiler = tiler; takes = takes; array = array.0; outer_shape = array.1; right = whole }))
      where
        array_there : (x : TilerOf) (a : Option (List ℕ)) (space : List ℕ) (o : Option (List ℕ)) → fits_in x a space o ≡ true → (array : List ℕ) × (a ≡ Some array)
        array_there x None space o g = cc
        array_there x (Some array) space o g = (array, refl)

    by_interlink : (l : Interlink) → (f : link_into_repetition t p.port ≡ Some l) → (s : Option (List ℕ)) → source_repetition l.wrap l.distance t.space r ≡ s → earlier_source t up r p.index l s ≡ Some q → TakesFrom m p q
    by_interlink l f (Some source) g h =
        let is : record { place = IntoRepetition source ∷ up; port = l.from; index = p.index } ≡ q = cc in
        following (by_link (record { linked = linked l f; source = source; in_space = g; right = sym is }))
    by_interlink l f None g h = go (default_choice l t.space r) refl h
      where
        go : (c : Option Choice) → default_choice l t.space r ≡ c → choice_source t up r p.index c ≡ Some q → TakesFrom m p q
        go None c k = cc
        go (Some c) d k = by_choice l f g c d c.take refl k

    -- the tiler at an input is on an outer input
    outer_there : (o : TilerOn) → IsAmong t.tilers o → o.inner ≡ p.port → (array : List ℕ) × (port_shape t.ins o.outer ≡ Some array)
    outer_there o listed inner = go (sides_of s.0.before t o s.1)
      where
        s : (x : IsTaskOf m (tasks.Repeated t)) × IsTiling x.before t o
        s = tiler_there m sound.shapes up t o at listed

        go : JoinsPorts t.ins (inputs_named s.0.before t.task) o ⊎ JoinsPorts t.outs (outputs_named s.0.before t.task) o → (array : List ℕ) × (port_shape t.ins o.outer ≡ Some array)
        go (inl sides) = there (port_shape t.ins o.outer) sides.outside
        go (inr sides) =
            let output : is_input_at (task_at m (IntoRepetition r ∷ up)) o.inner ≡ false = inner_output m sound.shapes up t s.0 r o.inner at sides.inside in
            let other : is_input_at (task_at m (IntoRepetition r ∷ up)) o.inner ≡ true =
            ap (is_input_at (task_at m (IntoRepetition r ∷ up))) inner ∙ (ap (λ x. is_input_at (task_at m x) p.port) (sym here) ∙ input) in
            let no : false ≡ true = sym output ∙ other in
            absurd (cc)

    by_tiler : (o : Option TilerOn) → tiler_at t p.port ≡ o → tiled_source t up r p.port p.index o ≡ Some q → TakesFrom m p q
    by_tiler None f h = go (link_into_repetition t p.port) refl h
      where
        go : (l : Option Interlink) → link_into_repetition t p.port ≡ l → interlink_source t up r p.index l ≡ Some q → TakesFrom m p q
        go None g k = cc
        go (Some l) g k = by_interlink l g (source_repetition l.wrap l.distance t.space r) refl k
    by_tiler (Some o) f h =
        let listed : IsAmong t.tilers o = found_among (λ (x : TilerOn). same x.inner p.port) t.tilers o f in
        let inner : o.inner ≡ p.port = same-equal o.inner p.port (find-passes (λ (x : TilerOn). same x.inner p.port) t.tilers o f) in
        let array = outer_there o listed inner in
        let is : record { place = up; port = o.outer; index = address_point o.tiler (unwrap_or (port_shape t.ins o.outer) []) r p.index } ≡ q = cc in
        let whole : q ≡ record { place = up; port = o.outer; index = address_point o.tiler array.0 r p.index } =
        sym is ∙ ap (λ (a : Option (List ℕ)). record { place = up; port = o.outer; index = address_point o.tiler (unwrap_or a []) r p.index }) array.1 in
        following (by_tiled_input (record {
          up = up;
          task = t;
          at_place = at;
          tiling = o;
          listed = listed;
          array = array.0;
          outer_shape = array.1;
          repetition = r;
          left = same_element p (record { place = IntoRepetition r ∷ up; port = o.inner; index = p.index }) here (sym inner) refl;
          right = whole;
          exists = e;
        }))

    pub repetition_right : source_at m p ≡ Some q → TakesFrom m p q
    repetition_right h =
        by_tiler (tiler_at t p.port) refl
        (sym (from_input m p input ∙ (ap (λ x. input_source m x p.port p.index) here ∙ ap (λ o. repetition_source o up r p.port p.index) at)) ∙ h)

  -- a plain link that is looked up
  module _ (p q : Element) (e : IsElement m p) (up : Place) (c : Compound) (at : task_at m up ≡ Some (tasks.Compound c)) where
    pub part_linked : (k : ℕ) (l : Plain) → p.place ≡ IntoPart k ∷ up → link_into_part c k p.port ≡ Some l → end_element c up l.from p.index ≡ q → TakesFrom m p q
    part_linked k l here f is =
        let end = part_end c k p.port l.to (find-passes (λ (x : Plain). is_part_end c k p.port x.to) c.links l f) in
        let place : p.place ≡ instance_of_end c up l.to.part = here ∙ (ap (λ n. IntoPart n ∷ up) (sym end.2) ∙ sym (ap (instance_of_end c up) end.1)) in
        following (by_part_input (record {
          up = up;
          task = c;
          at_place = at;
          link = l;
          listed = found_among (λ (x : Plain). is_part_end c k p.port x.to) c.links l f;
          part = end.0;
          into_part = end.1;
          left = same_element p (end_element c up l.to p.index) place (sym end.3) refl;
          right = sym is;
          exists = e;
        }))

    pub own_linked : (l : Plain) → p.place ≡ up → link_into_own c p.port ≡ Some l → end_element c up l.from p.index ≡ q → TakesFrom m p q
    own_linked l here f is =
        let end = own_end p.port l.to (find-passes (λ (x : Plain). is_own_end p.port x.to) c.links l f) in
        let place : p.place ≡ instance_of_end c p.place l.to.part = sym (ap (instance_of_end c p.place) end.0) in
        let P : Place → Type 0 = λ x. end_element c x l.from p.index ≡ q in
        following (by_own_output (record {
          task = c;
          at_place = ap (task_at m) here ∙ at;
          link = l;
          listed = found_among (λ (x : Plain). is_own_end p.port x.to) c.links l f;
          into_own = end.0;
          left = same_element p (end_element c p.place l.to p.index) place (sym end.1) refl;
          right = sym (subst P (sym here) is);
          exists = e;
        }))
