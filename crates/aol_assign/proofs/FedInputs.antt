-- Each input of a sound model leads somewhere.
use Rattle.std.proofs.Common.{◌≡◌, ℕ, ◌+◌, ◌<◌, Bool, true, false, ◌||◌, cond, List, [], ◌∷◌, length, Option, Some, None, is_some, option_map, unwrap_or, sym, ◌∙◌, ap, refl, arith, subst, ◌⊎◌, inl, inr}
use Rattle.std.specs.Prelude.{ℤ, option_and_then}
use Rattle.std.specs.List.{IsAmong}
use Rattle.aol_shape.specs.Lists.{same}
use Rattle.aol_shape.specs.Vectors.{is_inside}
use Rattle.aol_tiler.specs.Matrices.{TilerOf}
use Rattle.aol_tiler.specs.Tiler.{address_point, integers}
use Rattle.aol_link.specs.declared.link.Choice.{Choice}
use Rattle.aol_link.specs.declared.link.Fallback.{Fallback}
use Rattle.aol_link.specs.declared.link.Fallback.TheVariants.{Number, Tiled}
use Rattle.aol_link.specs.declared.link.Interlink.{Interlink}
use Rattle.aol_link.specs.Links.{source_repetition, stepped_back, applies, first_choice, first_choice_from, ends_in_always}
use Rattle.aol_link.proofs.Outside.{last_stays}
use Rattle.aol_model_types.specs.declared.document.Model.{Model}
use Rattle.aol_model_types.specs.declared.place.Key.TheVariants.{KLinks}
use Rattle.aol_model_types.specs.declared.task.Compound.{Compound}
use Rattle.aol_model_types.specs.declared.task.Plain.{Plain}
use Rattle.aol_model_types.specs.declared.task.Repeated.{Repeated}
use Rattle.aol_model_types.specs.declared.task.Task.{Task}
use Rattle.aol_model_types.specs.declared.task.Task.TheVariants as tasks
use Rattle.aol_model_types.specs.declared.task.TilerOn.{TilerOn}
use Rattle.aol_model_types.specs.Places.{to_key}
use Rattle.aol_model_types.specs.Rules.{task_named, inputs_of, inputs_named, outputs_named, port_shape, fallback_fits, fits_in, interlink_checks, links_inner, spans_space, defaults_fit, has_last_resort, ends_with_always}
use Rattle.aol_flat.specs.Accept.{IsSound}
use Rattle.aol_flat.specs.Equation.{LinkedInput, TiledInput, DefaultElement}
use Rattle.aol_flat.specs.Home.{Unfed, origin, link_into_part, tiler_at, link_into_repetition, default_choice, end_origin, linked_origin, part_origin, repetition_origin, tiled_origin, link_origin, source_origin, choice_origin, fallback_origin, is_input_at}
use Rattle.aol_flat.specs.Need.{by_part_input, by_tiled_input, by_default, by_following}
use Rattle.aol_flat.specs.Place.{Place, IntoPart, IntoRepetition, Element, IsElement, task_at, task_below, end_element, instance_of_end}
use Rattle.aol_flat.specs.Wired.{IsInput, IsWired}
use Rattle.aol_flat.proofs.Among.{get_among}
use Rattle.aol_flat.proofs.Checked.{IsTaskOf, of_repeated, named_earlier, member}
use Rattle.aol_flat.proofs.Exists.{needed_exists}
use Rattle.aol_flat.proofs.LinkSides.{task_there}
use Rattle.aol_flat.proofs.Names.{both-true, same-equal}
use Rattle.aol_flat.proofs.Once.{there, all_at, found_among, not_counted}
use Rattle.aol_flat.proofs.Sites.{find-passes}
use Rattle.aol_flat.proofs.SourceRight.{same_element}
use Rattle.aol_flat.proofs.TilerRules.{IsTiling, JoinsPorts, sides_of, fed_once}
use Rattle.aol_flat.proofs.Wired.{agreeing_is_wired, tiler_there, interlink_there, inner_output}
use Rattle.aol_flat_laws.proofs.CellNeeds.{there_at}
use Rattle.aol_flat_laws.proofs.Stands.{of_part, of_repetition, part_fed_by}

-- ---- the choices of a default

-- where the last choice is for all repetitions, one applies
chosen_from : (k : ℕ) (cs : List Choice) (space : List ℕ) (q : List ℤ) → ends_in_always cs ≡ true → first_choice_from k cs space q < k + length cs
chosen_from k [] space q h = cc
chosen_from k (c ∷ cs) space q h = go (applies c.when space q) refl (chosen_from (k + 1) cs space q)
  where
    go : (b : Bool) → applies c.when space q ≡ b → (ends_in_always cs ≡ true → first_choice_from (k + 1) cs space q < (k + 1) + length cs) → cond b k (first_choice_from (k + 1) cs space q) < k + length (c ∷ cs)
    go true e more = omega arith
    go false e more = let later = more (last_stays c cs space q e h) in omega (arith, later)

ends_in : (cs : List Choice) → ends_with_always cs ≡ true → ends_in_always cs ≡ true
ends_in [] h = h
ends_in (c ∷ []) h = h
ends_in (c ∷ d ∷ cs) h = ends_in (d ∷ cs) (both-true _ (ends_with_always (d ∷ cs)) h).1

ends_unless : (w b : Bool) → w ≡ false → (w || b) ≡ true → b ≡ true
ends_unless true b h k = cc
ends_unless false b h k = k

-- a link that wraps always leads somewhere
not_wrapped : (w : Bool) (distance : List ℤ) (space r : List ℕ) → source_repetition w distance space r ≡ None → w ≡ false
not_wrapped true distance space r h = cc
not_wrapped false distance space r h = refl

module _ (m : Model) (sound : IsSound m) where
  wired : IsWired m
  wired = agreeing_is_wired m sound.shapes

  -- the inputs at an instance lead somewhere
  abbrev Fed : Place → Type 0
  Fed place = (u x : List ℕ) → IsElement m (record { place = place; port = u; index = x }) → IsInput m (record { place = place; port = u; index = x }) → origin m place u x ≡ Unfed → ⊥

  -- ---- parts

  part_fed : (up : Place) (k : ℕ) → Fed up → Fed (IntoPart k ∷ up)
  part_fed up k above u x exists input none = go (task_at m up) refl exists.at_place none
    where
      by_end : (c : Compound) → task_at m up ≡ Some (tasks.Compound c) → (l : Plain) → link_into_part c k u ≡ Some l → (o : Option (List ℕ)) → l.from.part ≡ o → end_origin c up x (origin m up) l.from.port o ≡ Unfed → ⊥
      by_end c at l f None g e =
          let q : Element = end_element c up l.from x in
          let fed = part_fed_by m up k u x c l at f exists in
          let is : record { place = up; port = l.from.port; index = x } ≡ q = ap (λ o. record { place = instance_of_end c up o; port = l.from.port; index = x }) (sym g) in
          let here : IsElement m q = needed_exists m sound (of_part up k u x) q (by_following (by_part_input fed)) in
          let side : IsInput m q = wired.part_input_own (of_part up k u x) q fed g in
          let P : Element → Type 0 = λ z. IsElement m z in
          let Q : Element → Type 0 = λ z. IsInput m z in
          above l.from.port x (subst P (sym is) here) (subst Q (sym is) side) e
      by_end c at l f (Some name) g e = cc

      by_link : (c : Compound) → task_at m up ≡ Some (tasks.Compound c) → (o : Option Plain) → link_into_part c k u ≡ o → linked_origin c up k u x (origin m up) o ≡ Unfed → ⊥
      by_link c at None f e = cc
      by_link c at (Some l) f e = by_end c at l f l.from.part refl e

      go : (o : Option Task) → task_at m up ≡ o → option_and_then (λ t. task_below m t (IntoPart k)) o ≡ Some exists.task → part_origin o up k u x (origin m up) ≡ Unfed → ⊥
      go None at h e = cc
      go (Some (tasks.Elementary t)) at h e = cc
      go (Some (tasks.Repeated t)) at h e = cc
      go (Some (tasks.Compound c)) at h e = by_link c at (link_into_part c k u) refl e

  -- ---- repetitions

  module _ (up : Place) (r u x : List ℕ) (exists : IsElement m (of_repetition up r u x)) (input : IsInput m (of_repetition up r u x)) (t : Repeated) (at : task_at m up ≡ Some (tasks.Repeated t)) where
    s : IsTaskOf m (tasks.Repeated t)
    s = task_there m sound.shapes up (tasks.Repeated t) at

    -- the task of the body, by its name
    named : task_named m.tasks t.task ≡ Some exists.task
    named = go (is_inside t.space (integers r)) (sym (ap (option_and_then (λ u. task_below m u (IntoRepetition r))) at) ∙ exists.at_place)
      where
        go : (b : Bool) → cond b (task_named m.tasks t.task) None ≡ Some exists.task → task_named m.tasks t.task ≡ Some exists.task
        go true h = h
        go false h = cc

    before : task_named s.before t.task ≡ Some exists.task
    before =
        let v = there (task_named s.before t.task) (of_repeated s.before s.place t s.holds).inner in
        let one : Some v.0 ≡ Some exists.task = sym (named_earlier m s.before (tasks.Repeated t ∷ s.rest) t.task v.0 s.split v.1) ∙ named in
        v.1 ∙ one

    has_input : is_some (port_shape (inputs_named s.before t.task) u) ≡ true
    has_input =
        ap (λ o. is_some (port_shape (unwrap_or (option_map inputs_of o) []) u)) before
        ∙ (sym (ap (λ o. is_input_at o u) exists.at_place) ∙ input)

    -- a tiler or a link leads to it
    not_both_none : tiler_at t u ≡ None → link_into_repetition t u ≡ None → ⊥
    not_both_none e f =
        let one = fed_once s.before s.place t u (of_repeated s.before s.place t s.holds) has_input in
        let a = not_counted (λ (o : TilerOn). same o.inner u) t.tilers e in
        let b = not_counted (λ (l : Interlink). same l.to u) t.links f in
        omega (arith, one, a, b)

    -- a tiler is on an outer input
    outer_there : (o : TilerOn) → tiler_at t u ≡ Some o → (array : List ℕ) × (port_shape t.ins o.outer ≡ Some array)
    outer_there o f = go (sides_of rules.0.before t o rules.1)
      where
        inner : o.inner ≡ u
        inner = same-equal o.inner u (find-passes (λ (z : TilerOn). same z.inner u) t.tilers o f)

        rules : (z : IsTaskOf m (tasks.Repeated t)) × IsTiling z.before t o
        rules = tiler_there m sound.shapes up t o at (found_among (λ (z : TilerOn). same z.inner u) t.tilers o f)

        go : JoinsPorts t.ins (inputs_named rules.0.before t.task) o ⊎ JoinsPorts t.outs (outputs_named rules.0.before t.task) o → (array : List ℕ) × (port_shape t.ins o.outer ≡ Some array)
        go (inl sides) = there (port_shape t.ins o.outer) sides.outside
        go (inr sides) =
            let output : is_input_at (task_at m (IntoRepetition r ∷ up)) o.inner ≡ false = inner_output m sound.shapes up t rules.0 r o.inner at sides.inside in
            let other : is_input_at (task_at m (IntoRepetition r ∷ up)) o.inner ≡ true = ap (is_input_at (task_at m (IntoRepetition r ∷ up))) inner ∙ input in
            let no : false ≡ true = sym output ∙ other in
            absurd (cc)

    tiled_fed : Fed up → (o : TilerOn) → tiler_at t u ≡ Some o → origin m up o.outer (address_point o.tiler (unwrap_or (port_shape t.ins o.outer) []) r x) ≡ Unfed → ⊥
    tiled_fed above o f e =
        let array = outer_there o f in
        let q : Element = record { place = up; port = o.outer; index = address_point o.tiler array.0 r x } in
        let inner : o.inner ≡ u = same-equal o.inner u (find-passes (λ (z : TilerOn). same z.inner u) t.tilers o f) in
        let fed : TiledInput m (of_repetition up r u x) q = record {
          up = up;
          task = t;
          at_place = at;
          tiling = o;
          listed = found_among (λ (z : TilerOn). same z.inner u) t.tilers o f;
          array = array.0;
          outer_shape = array.1;
          repetition = r;
          left = same_element (of_repetition up r u x) (of_repetition up r o.inner x) refl (sym inner) refl;
          right = refl;
          exists = exists;
        } in
        let P : Option (List ℕ) → Type 0 = λ a. origin m up o.outer (address_point o.tiler (unwrap_or a []) r x) ≡ Unfed in
        above o.outer (address_point o.tiler array.0 r x) (needed_exists m sound (of_repetition up r u x) q (by_following (by_tiled_input fed))) (wired.tiled_input (of_repetition up r u x) q fed).1 (subst P array.1 e)

    -- ---- a link from outside the space

    module _ (l : Interlink) (found : link_into_repetition t u ≡ Some l) where
      abbrev listed : IsAmong t.links l
      listed = found_among (λ (z : Interlink). same z.to u) t.links l found

      abbrev linked : LinkedInput m (of_repetition up r u x)
      linked =
          let to : l.to ≡ u = same-equal l.to u (find-passes (λ (z : Interlink). same z.to u) t.links l found) in
          record {
            up = up;
            task = t;
            at_place = at;
            link = l;
            listed = listed;
            repetition = r;
            left = same_element (of_repetition up r u x) (of_repetition up r l.to x) refl (sym to) refl;
            exists = exists;
          }

      last : (l.wrap || ends_with_always l.rest) ≡ true
      last =
          let q = member (interlink_checks s.before t) (to_key s.place KLinks) t.links l (of_repeated s.before s.place t s.holds).links listed in
          let a = both-true (links_inner s.before t l) _ q.holds in
          let b = both-true (spans_space t l) _ a.1 in
          let c = both-true (defaults_fit s.before t l) _ b.1 in
          let d = both-true (has_last_resort l) _ c.1 in
          d.0

      chosen : source_repetition l.wrap l.distance t.space r ≡ None → (choice : Choice) × (default_choice l t.space r ≡ Some choice)
      chosen outside =
          let ends = ends_in l.rest (ends_unless l.wrap (ends_with_always l.rest) (not_wrapped l.wrap l.distance t.space r outside) last) in
          let lt = chosen_from 0 l.rest t.space (stepped_back r l.distance) ends in
          there_at l.rest (first_choice l.rest t.space (stepped_back r l.distance)) (omega (arith, lt))

      fallback_fed : Fed up → source_repetition l.wrap l.distance t.space r ≡ None → (choice : Choice) → default_choice l t.space r ≡ Some choice → (d : Fallback) → choice.take ≡ d → fallback_origin t r x (origin m up) d ≡ Unfed → ⊥
      fallback_fed above outside choice is (Number n) takes e = cc
      fallback_fed above outside choice is (Tiled name tiler) takes e =
          let rules = interlink_there m sound.shapes up t l at listed in
          let fits : fallback_fits rules.0.before t l choice.take ≡ true =
          all_at (λ (c : Choice). fallback_fits rules.0.before t l c.take) l.rest choice rules.1.defaults (get_among l.rest (first_choice l.rest t.space (stepped_back r l.distance)) choice is) in
          let array = array_there tiler (port_shape t.ins name) t.space (port_shape (inputs_named rules.0.before t.task) l.to) (sym (ap (fallback_fits rules.0.before t l) takes) ∙ fits) in
          let q : Element = record { place = up; port = name; index = address_point tiler array.0 r x } in
          let fed : DefaultElement m (of_repetition up r u x) q = record { linked = linked; outside = outside; choice = choice; chosen = is; outer = name; tiler = tiler; takes = takes; array = array.0; outer_shape = array.1; right = refl } in
          let P : Option (List ℕ) → Type 0 = λ a. origin m up name (address_point tiler (unwrap_or a []) r x) ≡ Unfed in
          above name (address_point tiler array.0 r x) (needed_exists m sound (of_repetition up r u x) q (by_following (by_default fed))) (wired.default_element (of_repetition up r u x) q fed).1 (subst P array.1 e)
        where
          array_there : (z : TilerOf) (a : Option (List ℕ)) (space : List ℕ) (o : Option (List ℕ)) → fits_in z a space o ≡ true → (array : List ℕ) × (a ≡ Some array)
          array_there z None space o g = cc
          array_there z (Some array) space o g = (array, refl)

      source_fed : Fed up → (o : Option (List ℕ)) → source_repetition l.wrap l.distance t.space r ≡ o → source_origin t up r x (origin m up) l o ≡ Unfed → ⊥
      source_fed above (Some source) g e = cc
      source_fed above None g e =
          let c = chosen g in
          let P : Option Choice → Type 0 = λ o. choice_origin t r x (origin m up) o ≡ Unfed in
          fallback_fed above g c.0 c.1 c.0.take refl (subst P c.1 e)

    link_fed : Fed up → tiler_at t u ≡ None → (o : Option Interlink) → link_into_repetition t u ≡ o → link_origin t up r x (origin m up) o ≡ Unfed → ⊥
    link_fed above f None g e = not_both_none f g
    link_fed above f (Some l) g e = source_fed l g above (source_repetition l.wrap l.distance t.space r) refl e

    by_tiler : Fed up → (o : Option TilerOn) → tiler_at t u ≡ o → tiled_origin t up r u x (origin m up) o ≡ Unfed → ⊥
    by_tiler above (Some o) f e = tiled_fed above o f e
    by_tiler above None f e = link_fed above f (link_into_repetition t u) refl e

  repetition_fed : (up : Place) (r : List ℕ) → Fed up → Fed (IntoRepetition r ∷ up)
  repetition_fed up r above u x exists input none = go (task_at m up) refl exists.at_place none
    where
      go : (o : Option Task) → task_at m up ≡ o → option_and_then (λ t. task_below m t (IntoRepetition r)) o ≡ Some exists.task → repetition_origin o up r u x (origin m up) ≡ Unfed → ⊥
      go None at h e = cc
      go (Some (tasks.Elementary t)) at h e = cc
      go (Some (tasks.Compound t)) at h e = cc
      go (Some (tasks.Repeated t)) at h e = by_tiler up r u x exists input t at above (tiler_at t u) refl e

  pub input_fed : (place : Place) → Fed place
  input_fed [] u x exists input none = cc
  input_fed (IntoPart k ∷ up) u x exists input none = part_fed up k (input_fed up) u x exists input none
  input_fed (IntoRepetition r ∷ up) u x exists input none = repetition_fed up r (input_fed up) u x exists input none
