-- An element is given exactly where its home is a default number, a main input or written.
use Rattle.std.proofs.Common.{◌≡◌, ℕ, zero, suc, ◌<◌, Bool, true, false, List, [], ◌∷◌, length, map, Option, Some, None, slice_get, ℤ, sym, ◌∙◌, ap, refl, arith, ◌⊎◌, inl, inr, subst}
use Rattle.std.specs.List.{IsAmong}
use Rattle.aol_shape.specs.Lists.{same}
use Rattle.aol_link.specs.declared.link.Choice.{Choice}
use Rattle.aol_link.specs.declared.link.Fallback.{Fallback}
use Rattle.aol_link.specs.declared.link.Fallback.TheVariants.{Number, Tiled}
use Rattle.aol_link.specs.declared.link.Interlink.{Interlink}
use Rattle.aol_link.specs.Links.{source_repetition}
use Rattle.aol_model_types.specs.declared.document.Model.{Model}
use Rattle.aol_model_types.specs.declared.task.OutPort.{OutPort}
use Rattle.aol_model_types.specs.declared.task.Plain.{Plain}
use Rattle.aol_model_types.specs.declared.task.Repeated.{Repeated}
use Rattle.aol_model_types.specs.declared.task.Task.{Task}
use Rattle.aol_model_types.specs.declared.task.Task.TheVariants as tasks
use Rattle.aol_model_types.specs.declared.task.TilerOn.{TilerOn}
use Rattle.aol_model_types.specs.Rules.{outputs_of}
use Rattle.aol_flat.specs.Place.{Place, IntoPart, IntoRepetition, Element, IsElement, task_at, elements_of}
use Rattle.aol_flat.specs.Equation.{MainInput, LinkedInput, DefaultNumber}
use Rattle.aol_flat.specs.Home.{Home, Kept, Constant, NoHome, origin, origin_home, handed, home_of, is_input_at, link_into_part, tiler_at, link_into_repetition, default_choice, part_origin, linked_origin, repetition_origin, tiled_origin, link_origin, source_origin, choice_origin, fallback_origin}
use Rattle.aol_flat.specs.Instance.{Instance, Run, Copy, instances, of_task, written_elements}
use Rattle.aol_flat.specs.InstanceNeed.{Reaches, here, onward, IsReal}
use Rattle.aol_flat.specs.Need.{Follows, by_following as by_need}
use Rattle.aol_flat.specs.Reads.{IsGiven, by_main_input, by_default, by_computing, by_copying, by_following}
use Rattle.aol_flat.specs.Followed.{Moves, climbs, crosses, descends}
use Rattle.aol_flat.specs.Sources.{source_at, input_source, part_source, linked_source, copied_source, part_writing, repetition_source, tiled_source, interlink_source, earlier_source, choice_source, fallback_source, TakesFrom, following, copying}
use Rattle.aol_flat.specs.Targets.{IsSingleAssignment}
use Rattle.aol_flat.specs.Wired.{IsInput, IsWired}
use Rattle.aol_flat.specs.Accept.{IsSound}
use Rattle.aol_flat.proofs.Exists.{needed_exists}
use Rattle.aol_flat.proofs.Following.{following_moves}
use Rattle.aol_flat.proofs.Homes.{input_home, output_home, followed_homes, default_number_home}
use Rattle.aol_flat.proofs.Levelled.{two_sides}
use Rattle.aol_flat.proofs.Numbered.{agreeing_is_numbered}
use Rattle.aol_flat.proofs.Once.{found_among}
use Rattle.aol_flat.proofs.Names.{same-equal}
use Rattle.aol_flat.proofs.PathGrounded.{none_is_some}
use Rattle.aol_flat.proofs.Real.{sound_is_real}
use Rattle.aol_flat.proofs.RealCycles.{output_of_port}
use Rattle.aol_flat.proofs.Sites.{find-passes}
use Rattle.aol_flat.proofs.SourceAll.{sources_are_right}
use Rattle.aol_flat.proofs.Sources.{followed_found}
use Rattle.aol_flat.proofs.SourceSteps.{from_input, main_none, main_input_side}
use Rattle.aol_flat.proofs.Wired.{agreeing_is_wired}
use Rattle.aol_flat_laws.proofs.InputPaths.{home_meets}
use Rattle.aol_flat_laws.proofs.OneWriter.{only_member, written_there, one_home}
use Rattle.aol_flat_laws.proofs.WrittenHome.{written_home}

-- an element that an instance writes has this home
pub record IsWrittenHome (m : Model) (h : Element) : Type 0 where
  pub number : ℕ
  pub instance : Instance
  pub at : slice_get (instances m) number ≡ Some instance
  pub element : Element
  pub written : IsAmong (written_elements m instance) element
  pub home : home_of m element ≡ Kept h

-- the home is given
abbrev pub GivenHome : Model → Home → Type 0
GivenHome m (Kept h) = MainInput m h ⊎ IsWrittenHome m h
GivenHome m (Constant n) = Unit {0}
GivenHome m NoHome = ⊥

module _ (m : Model) (sound : IsSound m) (single : IsSingleAssignment m) where
  wired : IsWired m
  wired = agreeing_is_wired m sound.shapes

  -- ---- what is given has a home that is

  main_home : (p : Element) → MainInput m p → home_of m p ≡ Kept p
  main_home p a =
      input_home m p (main_input_side m sound p a)
      ∙ (ap (λ place. origin_home m (origin m place p.port p.index)) a.is_main
      ∙ ap (λ place. Kept (record { place = place; port = p.port; index = p.index })) (sym a.is_main))

  written_given : (j : ℕ) (i : Instance) → slice_get (instances m) j ≡ Some i → (p : Element) → IsAmong (written_elements m i) p → GivenHome m (home_of m p)
  written_given j i at p a =
      let h = written_home m sound single i (sound_is_real m sound j i at) p a in
      subst (GivenHome m) (sym h.1) (inr (record { number = j; instance = i; at = at; element = p; written = a; home = h.1 }))

  pub given_home : (p : Element) → IsGiven m p → GivenHome m (home_of m p)
  given_home p (by_main_input a) = subst (GivenHome m) (sym (main_home p a)) (inl a)
  given_home p (by_default n d) = subst (GivenHome m) (sym (default_number_home m wired p n d)) tt
  given_home p (by_computing o) = let r = (agreeing_is_numbered m sound.shapes).runs p o in written_given r.0 r.1 r.2 p r.3
  given_home p (by_copying {q = q} c) = let r = (agreeing_is_numbered m sound.shapes).copies p q c in written_given r.0 r.1 r.2 p r.3
  given_home p (by_following {q = q} f g) = subst (GivenHome m) (sym (followed_homes m wired p q f)) (given_home q g)

  -- ---- an element with a given home is given

  given_on : (p q : Element) → Reaches m p q → IsGiven m q → IsGiven m p
  given_on p q here g = g
  given_on p q (onward {q = x} f r) g = by_following f (given_on x q r g)

  ends_here : (e z : Element) → ((r : Element) → Follows m e r → ⊥) → Reaches m e z → z ≡ e
  ends_here e z end here = refl
  ends_here e z end (onward {q = x} f r) = absurd (end x f)

  written_is_given : (i : Instance) → IsReal m i → (e : Element) → IsAmong (written_elements m i) e → IsGiven m e
  written_is_given (Run place) real e a =
      let P : List Element → Type 0 = λ es. IsAmong es e in
      let outs : written_elements m (Run place) ≡ elements_of place (map (λ (o : OutPort). o.port) real.0.outs) = ap (of_task (λ t. elements_of place (outputs_of t))) real.1 in
      by_computing (output_of_port m place real.0 real.1 e (subst P outs a)).0
  written_is_given (Copy place k repetition part) real e a =
      let P : List Element → Type 0 = λ es. IsAmong es e in
      let Q : Element → Type 0 = λ x. IsGiven m x in
      subst Q (sym (only_member real.0 e (subst P real.3 a))) (by_copying real.2)

  kept_given : (p h : Element) → IsElement m p → home_of m p ≡ Kept h → MainInput m h ⊎ IsWrittenHome m h → IsGiven m p
  kept_given p h exists home (inl a) =
      let meet = home_meets m sound single p h exists home in
      let none : (r : Element) → Follows m h r → ⊥ = λ r f. none_is_some (source_at m h) r (main_none m sound h a) (followed_found m sound single h r f) in
      let P : Element → Type 0 = λ x. Reaches m p x in
      given_on p h (subst P (ends_here h meet.at none meet.from_home) meet.down) (by_main_input a)
  kept_given p h exists home (inr w) =
      let real = sound_is_real m sound w.number w.instance w.at in
      let there = written_there m sound single w.instance real w.element w.written in
      given_on p w.element (one_home m sound single p w.element h exists there.0 there.1 home w.home) (written_is_given w.instance real w.element w.written)

  -- ---- default numbers

  -- an input without a source whose home is a number takes it by default
  abbrev of_repetition : Place → List ℕ → List ℕ → List ℕ → Element
  of_repetition up r u x = record { place = IntoRepetition r ∷ up; port = u; index = x }

  module _ (up : Place) (r u x : List ℕ) (exists : IsElement m (of_repetition up r u x)) (n : ℤ) (t : Repeated) (at : task_at m up ≡ Some (tasks.Repeated t)) where
    by_choice : (l : Interlink) → link_into_repetition t u ≡ Some l → source_repetition l.wrap l.distance t.space r ≡ None → (d : Option Choice) → default_choice l t.space r ≡ d
        → choice_source t up r x d ≡ None → origin_home m (choice_origin t r x (origin m up) d) ≡ Constant n → DefaultNumber m (of_repetition up r u x) n
    by_choice l f none None g s h = cc
    by_choice l f none (Some d) g s h = by_take d.take refl s h
      where
        to : l.to ≡ u
        to = same-equal l.to u (find-passes (λ (k : Interlink). same k.to u) t.links l f)

        by_take : (k : Fallback) → d.take ≡ k → fallback_source t up r x k ≡ None → origin_home m (fallback_origin t r x (origin m up) k) ≡ Constant n → DefaultNumber m (of_repetition up r u x) n
        by_take (Tiled name tiler) e s h = cc
        by_take (Number z) e s h =
            let number : z ≡ n = cc in
            let linked : LinkedInput m (of_repetition up r u x) = record {
              up = up;
              task = t;
              at_place = at;
              link = l;
              listed = found_among (λ (k : Interlink). same k.to u) t.links l f;
              repetition = r;
              left = ap (λ (y : List ℕ). of_repetition up r y x) (sym to);
              exists = exists;
            } in
            record { linked = linked; outside = none; choice = d; chosen = g; takes = e ∙ ap Number number }

    by_source : (l : Interlink) → link_into_repetition t u ≡ Some l → (s : Option (List ℕ)) → source_repetition l.wrap l.distance t.space r ≡ s → earlier_source t up r x l s ≡ None
        → origin_home m (source_origin t up r x (origin m up) l s) ≡ Constant n → DefaultNumber m (of_repetition up r u x) n
    by_source l f (Some y) g s h = cc
    by_source l f None g s h = by_choice l f g (default_choice l t.space r) refl s h

    by_link : (o : Option Interlink) → link_into_repetition t u ≡ o → interlink_source t up r x o ≡ None → origin_home m (link_origin t up r x (origin m up) o) ≡ Constant n → DefaultNumber m (of_repetition up r u x) n
    by_link None f s h = cc
    by_link (Some l) f s h = by_source l f (source_repetition l.wrap l.distance t.space r) refl s h

    by_tiler : (o : Option TilerOn) → tiler_at t u ≡ o → tiled_source t up r u x o ≡ None → origin_home m (tiled_origin t up r u x (origin m up) o) ≡ Constant n → DefaultNumber m (of_repetition up r u x) n
    by_tiler (Some o) f s h = cc
    by_tiler None f s h = by_link (link_into_repetition t u) refl s h

  repetition_number : (up : Place) (r u x : List ℕ) → IsElement m (of_repetition up r u x) → (n : ℤ) (o : Option Task) → task_at m up ≡ o → repetition_source o up r u x ≡ None
      → origin_home m (repetition_origin o up r u x (origin m up)) ≡ Constant n → DefaultNumber m (of_repetition up r u x) n
  repetition_number up r u x exists n None at s h = cc
  repetition_number up r u x exists n (Some (tasks.Elementary e)) at s h = cc
  repetition_number up r u x exists n (Some (tasks.Compound c)) at s h = cc
  repetition_number up r u x exists n (Some (tasks.Repeated t)) at s h = by_tiler up r u x exists n t at (tiler_at t u) refl s h

  part_no_number : (up : Place) (k : ℕ) (u x : List ℕ) (n : ℤ) (o : Option Task) → part_source m o up k u x ≡ None → origin_home m (part_origin o up k u x (origin m up)) ≡ Constant n → ⊥
  part_no_number up k u x n None s h = cc
  part_no_number up k u x n (Some (tasks.Elementary e)) s h = cc
  part_no_number up k u x n (Some (tasks.Repeated t)) s h = cc
  part_no_number up k u x n (Some (tasks.Compound c)) s h = go (link_into_part c k u) s h
    where
      go : (l : Option Plain) → linked_source c up x l (copied_source m c up (part_writing m c k u x)) ≡ None → origin_home m (linked_origin c up k u x (origin m up) l) ≡ Constant n → ⊥
      go None s h = cc
      go (Some l) s h = cc

  sourceless : (place : Place) (u x : List ℕ) → IsElement m (record { place = place; port = u; index = x }) → (n : ℤ) → input_source m place u x ≡ None → origin_home m (origin m place u x) ≡ Constant n
      → DefaultNumber m (record { place = place; port = u; index = x }) n
  sourceless [] u x exists n s h = cc
  sourceless (IntoPart k ∷ up) u x exists n s h = absurd (part_no_number up k u x n (task_at m up) s h)
  sourceless (IntoRepetition r ∷ up) u x exists n s h = repetition_number up r u x exists n (task_at m up) refl s h

  number_step : (depth : ℕ) → ((q : Element) → length q.place < depth → IsElement m q → IsInput m q → (n : ℤ) → home_of m q ≡ Constant n → IsGiven m q)
      → (p : Element) → length p.place < suc depth → IsElement m p → IsInput m p → (n : ℤ) → home_of m p ≡ Constant n → IsGiven m p
  number_step depth deeper p lt exists input n home = go (source_at m p) refl
    where
      moved : (q : Element) → Follows m p q → Moves m p q → IsGiven m p
      moved q f (climbs a b less) = by_following f (deeper q (omega (arith, lt, less)) (needed_exists m sound p q (by_need f)) b n (sym (followed_homes m wired p q f) ∙ home))
      moved q f (crosses a b) =
          let no : Kept (handed m q.place q.port q.index) ≡ Constant n = sym (output_home m q b) ∙ (sym (followed_homes m wired p q f) ∙ home) in
          cc
      moved q f (descends a b less) = absurd (two_sides m p input a)

      taken : (q : Element) → TakesFrom m p q → IsGiven m p
      taken q (following f) = moved q f (following_moves m wired p q f)
      taken q (copying c) = by_copying c

      go : (o : Option Element) → source_at m p ≡ o → IsGiven m p
      go (Some q) e = taken q (sources_are_right m sound p q exists e)
      go None e = by_default n (sourceless p.place p.port p.index exists n (sym (from_input m p input) ∙ e) (sym (input_home m p input) ∙ home))

  number_given : (depth : ℕ) (p : Element) → length p.place < depth → IsElement m p → IsInput m p → (n : ℤ) → home_of m p ≡ Constant n → IsGiven m p
  number_given zero p lt exists input n home = absurd (omega (arith, lt))
  number_given (suc depth) p lt exists input n home = number_step depth (λ q. number_given depth q) p lt exists input n home

  constant_given : (p : Element) (n : ℤ) → IsElement m p → home_of m p ≡ Constant n → IsGiven m p
  constant_given p n exists home = go (is_input_at (task_at m p.place) p.port) refl
    where
      go : (b : Bool) → is_input_at (task_at m p.place) p.port ≡ b → IsGiven m p
      go true e = number_given (suc (length p.place)) p (omega arith) exists e n home
      go false e = let no : Kept (handed m p.place p.port p.index) ≡ Constant n = sym (output_home m p e) ∙ home in cc

  pub home_given : (p : Element) → IsElement m p → GivenHome m (home_of m p) → IsGiven m p
  home_given p exists g = go (home_of m p) refl g
    where
      go : (h : Home) → home_of m p ≡ h → GivenHome m h → IsGiven m p
      go (Kept h) e k = kept_given p h exists e k
      go (Constant n) e k = constant_given p n exists e
      go NoHome e k = absurd k
