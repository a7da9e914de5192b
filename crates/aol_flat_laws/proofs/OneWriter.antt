-- What is read reaches the written element that has its home.
use Rattle.std.proofs.Common.{◌≡◌, ℕ, zero, suc, true, false, Bool, ◌&&◌, ◌==◌, List, [], ◌∷◌, map, Option, Some, sym, ◌∙◌, ap, refl, arith, subst, ◌⊎◌, inl, inr}
use Rattle.std.specs.Prelude.{option_and_then}
use Rattle.std.specs.List.{IsAmong}
use Rattle.std.specs.Option.{option_to_list}
use Rattle.aol_model_types.specs.declared.document.Model.{Model}
use Rattle.aol_model_types.specs.declared.task.OutPort.{OutPort}
use Rattle.aol_model_types.specs.declared.task.Task.TheVariants as tasks
use Rattle.aol_model_types.specs.Rules.{inputs_of, outputs_of}
use Rattle.aol_flat.specs.Place.{Element, IsElement, task_at, elements_of}
use Rattle.aol_flat.specs.Home.{Kept, home_of}
use Rattle.aol_flat.specs.Instance.{Instance, Run, Copy, of_task, port_element, copy_end, copy_target, read_elements, written_elements, written_element}
use Rattle.aol_flat.specs.InstanceNeed.{Reaches, here, onward, IsReal}
use Rattle.aol_flat.specs.Need.{Follows}
use Rattle.aol_flat.specs.Sources.{source_at}
use Rattle.aol_flat.specs.Targets.{IsSingleAssignment}
use Rattle.aol_flat.specs.Accept.{IsSound}
use Rattle.aol_flat.proofs.Exists.{input_exists, output_exists}
use Rattle.aol_flat.proofs.Homes.{followed_homes}
use Rattle.aol_flat.proofs.PathGrounded.{none_is_some}
use Rattle.aol_flat.proofs.Readings.{ranked, of_rank, among_option}
use Rattle.aol_flat.proofs.RealCycles.{output_of_port}
use Rattle.aol_flat.proofs.Sources.{followed_found}
use Rattle.aol_flat.proofs.SourceSteps.{computed_none}
use Rattle.aol_flat.proofs.Wired.{agreeing_is_wired}
use Rattle.aol_flat_laws.proofs.FedOnce.{copy_follows_none}
use Rattle.aol_flat_laws.proofs.InputPaths.{home_meets}

pub only_member : (x y : Element) → IsAmong (x ∷ []) y → y ≡ x
only_member x y (zero, a) = a.1
only_member x y (suc i, a) = absurd (omega (arith, a.0))

reaches_on : (m : Model) (p q r : Element) → Reaches m p q → Reaches m q r → Reaches m p r
reaches_on m p q r here b = b
reaches_on m p q r (onward {q = x} f a) b = onward f (reaches_on m x q r a b)

module _ (m : Model) (sound : IsSound m) where
  pub reached_home : (p q : Element) → Reaches m p q → home_of m p ≡ home_of m q
  reached_home p q here = refl
  reached_home p q (onward {q = x} f r) = followed_homes m (agreeing_is_wired m sound.shapes) p x f ∙ reached_home x q r

  -- what an instance reads exists
  pub read_there : (i : Instance) → IsReal m i → (p : Element) → IsAmong (read_elements m i) p → IsElement m p
  read_there (Run place) real p a =
      let P : List Element → Type 0 = λ es. IsAmong es p in
      let ins : read_elements m (Run place) ≡ elements_of place real.0.ins = ap (of_task (λ t. elements_of place (inputs_of t))) real.1 in
      input_exists m sound place (tasks.Elementary real.0) p real.1 (subst P ins a)
  read_there (Copy place k repetition part) real p a =
      let P : List Element → Type 0 = λ es. IsAmong es p in
      let Q : Element → Type 0 = λ x. IsElement m x in
      subst Q (sym (only_member real.1 p (subst P real.4 a))) real.2.source

  module _ (single : IsSingleAssignment m) where
    -- two ways from an element lie on one
    on_one_way : (h q e : Element) → Reaches m h q → Reaches m h e → Reaches m q e ⊎ Reaches m e q
    on_one_way h q e here b = inl b
    on_one_way h q e (onward {q = x} f r) here = inr (onward f r)
    on_one_way h q e (onward {q = x} f r) (onward {q = y} g s) =
        let both : Some x ≡ Some y = sym (followed_found m sound single h x f) ∙ followed_found m sound single h y g in
        let one : y ≡ x = cc in
        let P : Element → Type 0 = λ z. Reaches m z e in
        on_one_way x q e r (subst P one s)

    ends_here : (e z : Element) → ((r : Element) → Follows m e r → ⊥) → Reaches m e z → z ≡ e
    ends_here e z end here = refl
    ends_here e z end (onward {q = x} f r) = absurd (end x f)

    -- what is written exists, and follows nothing
    pub written_there : (i : Instance) → IsReal m i → (w : Element) → IsAmong (written_elements m i) w → IsElement m w × ((r : Element) → Follows m w r → ⊥)
    written_there (Run place) real w a =
        let P : List Element → Type 0 = λ es. IsAmong es w in
        let outs : written_elements m (Run place) ≡ elements_of place (map (λ (o : OutPort). o.port) real.0.outs) = ap (of_task (λ t. elements_of place (outputs_of t))) real.1 in
        let o = output_of_port m place real.0 real.1 w (subst P outs a) in (
          output_exists m sound place (tasks.Elementary real.0) w real.1 (subst P outs a),
          λ r f. none_is_some (source_at m w) r (computed_none m sound w o.0) (followed_found m sound single w r f),
        )
    written_there (Copy place k repetition part) real w a =
        let P : List Element → Type 0 = λ es. IsAmong es w in
        let Q : Element → Type 0 = λ x. IsElement m x × ((r : Element) → Follows m x r → ⊥) in
        subst Q (sym (only_member real.0 w (subst P real.3 a))) (real.2.target, copy_follows_none m sound single real.0 real.1 real.2)

    -- an element reaches the one with its home that follows nothing
    pub one_home : (p e h : Element) → IsElement m p → IsElement m e → ((r : Element) → Follows m e r → ⊥) → home_of m p ≡ Kept h → home_of m e ≡ Kept h → Reaches m p e
    one_home p e h there there' end home home' =
        let a = home_meets m sound single p h there home in
        let b = home_meets m sound single e h there' home' in
        let P : Element → Type 0 = λ x. Reaches m h x in
        let Q : Element → Type 0 = λ x. Reaches m p x in
        let down : Reaches m h e = subst P (ends_here e b.at end b.down) b.from_home in
        elim (on_one_way h a.at e a.from_home down) [
          | inl r ↦ reaches_on m p a.at e a.down r
          | inr r ↦ subst Q (ends_here e a.at end r) a.down
        ]

-- ---- written elements by port and rank

pub written_among : (m : Model) (i : Instance) (k x : ℕ) (e : Element) → IsReal m i → written_element m i k x ≡ Some e → IsAmong (written_elements m i) e
written_among m (Run place) k x e real h =
    let P : List Element → Type 0 = λ es. IsAmong es e in
    let outs : written_elements m (Run place) ≡ elements_of place (map (λ (o : OutPort). o.port) real.0.outs) = ap (of_task (λ t. elements_of place (outputs_of t))) real.1 in
    subst P (sym outs)
    (of_rank place (map (λ (o : OutPort). o.port) real.0.outs) k x e (sym (ap (option_and_then (λ t. port_element place (outputs_of t) k x)) real.1) ∙ h))
written_among m (Copy up r repetition part) k x e real h = go ((k == 0) && (x == 0)) refl
  where
    go : (b : Bool) → ((k == 0) && (x == 0)) ≡ b → IsAmong (written_elements m (Copy up r repetition part)) e
    go false f = let g = rw f at h in cc
    go true f =
        let g : copy_end copy_target m up r repetition part (task_at m up) ≡ Some e = rw f at h in
        let P : Option Element → Type 0 = λ o. IsAmong (option_to_list o) e in
        subst P (sym g) (0, (omega arith, refl))

pub among_written : (m : Model) (i : Instance) (e : Element) → IsReal m i → IsAmong (written_elements m i) e → (k : ℕ) × (x : ℕ) × (written_element m i k x ≡ Some e)
among_written m (Run place) e real a =
    let P : List Element → Type 0 = λ es. IsAmong es e in
    let outs : written_elements m (Run place) ≡ elements_of place (map (λ (o : OutPort). o.port) real.0.outs) = ap (of_task (λ t. elements_of place (outputs_of t))) real.1 in
    let r = ranked place (map (λ (o : OutPort). o.port) real.0.outs) e (subst P outs a) in
    (r.number, r.point, ap (option_and_then (λ t. port_element place (outputs_of t) r.number r.point)) real.1 ∙ r.found)
among_written m (Copy up r repetition part) e real a = (0, 0, among_option (copy_end copy_target m up r repetition part (task_at m up)) e a)
