-- Where the shapes of a model agree, it is wired: the sides of tilers and of links between repetitions, and all together.
use Rattle.std.proofs.Common.{◌≡◌, ℕ, Bool, true, false, List, ◌∷◌, Option, Some, None, is_some, sym, ◌∙◌, ap, refl, ◌⊎◌, inl, inr, subst}
use Rattle.std.specs.Prelude.{option_and_then}
use Rattle.std.specs.List.{IsAmong}
use Rattle.aol_tiler.specs.Tiler.{integers}
use Rattle.aol_shape.specs.Vectors.{is_inside}
use Rattle.aol_link.specs.declared.link.Interlink.{Interlink}
use Rattle.aol_model_types.specs.declared.document.Model.{Model}
use Rattle.aol_model_types.specs.declared.task.Repeated.{Repeated}
use Rattle.aol_model_types.specs.declared.task.Task.{Task}
use Rattle.aol_model_types.specs.declared.task.Task.TheVariants as tasks
use Rattle.aol_model_types.specs.declared.task.TilerOn.{TilerOn}
use Rattle.aol_model_types.specs.Rules.{ShapesAgree, task_named, inputs_of, outputs_of, inputs_named, outputs_named, port_shape}
use Rattle.aol_flat.specs.Place.{Place, IntoRepetition, Element, task_at, task_below}
use Rattle.aol_flat.specs.Equation.{TiledInput, LinkedInput, EarlierOutput, DefaultElement, OuterOutput}
use Rattle.aol_flat.specs.Home.{is_input_at}
use Rattle.aol_flat.specs.Wired.{IsInput, IsOutput, AgreeingIsWired}
use Rattle.aol_flat.proofs.Checked.{IsTaskOf, named_earlier, port_there, of_repeated, sides_apart}
use Rattle.aol_flat.proofs.TilerRules.{IsTiling, JoinsPorts, tiled, sides_of, only_tiler, JoinsRepetitions, joined, only_link_inside}
use Rattle.aol_flat.proofs.LinkSides.{at_input, at_output, task_there, input_there, output_there, link_in, link_out, from_part, part_input, part_input_own, part_input_part, own_output}

module _ (m : Model) (agree : ShapesAgree m) where
  -- the task of a repetition, where there is one, is that of the name
  pub repetition_task : (up : Place) (t : Repeated) (r : List ℕ) → task_at m up ≡ Some (tasks.Repeated t) → (v : Task) → task_at m (IntoRepetition r ∷ up) ≡ Some v → task_named m.tasks t.task ≡ Some v
  repetition_task up t r at v h = go (is_inside t.space (integers r)) refl
    where
      below : task_below m (tasks.Repeated t) (IntoRepetition r) ≡ Some v
      below = sym (ap (option_and_then (λ u. task_below m u (IntoRepetition r))) at) ∙ h

      go : (b : Bool) → is_inside t.space (integers r) ≡ b → task_named m.tasks t.task ≡ Some v
      go true e = rw e at below
      go false e = let k = rw e at below in cc

  -- an inner input of a repetition that is there
  pub inner_input : (up : Place) (t : Repeated) (s : IsTaskOf m (tasks.Repeated t)) (r : List ℕ) (port : List ℕ) → task_at m up ≡ Some (tasks.Repeated t) → (v : Task) → task_at m (IntoRepetition r ∷ up) ≡ Some v
      → is_some (port_shape (inputs_named s.before t.task) port) ≡ true → is_input_at (task_at m (IntoRepetition r ∷ up)) port ≡ true
  inner_input up t s r port at v h known =
      let u = port_there inputs_of (task_named s.before t.task) port known in
      let found : Some u.0 ≡ Some v = sym (named_earlier m s.before (tasks.Repeated t ∷ s.rest) t.task u.0 s.split u.1) ∙ repetition_task up t r at v h in
      let P : Option Task → Type 0 = λ o. task_at m (IntoRepetition r ∷ up) ≡ o in
      input_there m agree (IntoRepetition r ∷ up) u.0 port (subst P (sym found) h) u.2

  -- an inner output of a repetition, also where there is none
  pub inner_output : (up : Place) (t : Repeated) (s : IsTaskOf m (tasks.Repeated t)) (r : List ℕ) (port : List ℕ) → task_at m up ≡ Some (tasks.Repeated t)
      → is_some (port_shape (outputs_named s.before t.task) port) ≡ true → is_input_at (task_at m (IntoRepetition r ∷ up)) port ≡ false
  inner_output up t s r port at known = go (task_at m (IntoRepetition r ∷ up)) refl
    where
      go : (o : Option Task) → task_at m (IntoRepetition r ∷ up) ≡ o → is_input_at (task_at m (IntoRepetition r ∷ up)) port ≡ false
      go None e = ap (λ o. is_input_at o port) e
      go (Some v) e =
          let u = port_there outputs_of (task_named s.before t.task) port known in
          let found : Some u.0 ≡ Some v = sym (named_earlier m s.before (tasks.Repeated t ∷ s.rest) t.task u.0 s.split u.1) ∙ repetition_task up t r at v e in
          let P : Option Task → Type 0 = λ o. task_at m (IntoRepetition r ∷ up) ≡ o in
          output_there m agree (IntoRepetition r ∷ up) u.0 port (subst P (sym found) e) u.2

  -- the sides of a tiler whose outer port is an input, and of one whose outer port is an output
  tiling_in : (up : Place) (t : Repeated) (s : IsTaskOf m (tasks.Repeated t)) (o : TilerOn) → IsTiling s.before t o → is_some (port_shape t.ins o.outer) ≡ true → is_some (port_shape (inputs_named s.before t.task) o.inner) ≡ true
  tiling_in up t s o rules outer = go (sides_of s.before t o rules)
    where
      go : JoinsPorts t.ins (inputs_named s.before t.task) o ⊎ JoinsPorts t.outs (outputs_named s.before t.task) o → is_some (port_shape (inputs_named s.before t.task) o.inner) ≡ true
      go (inl sides) = sides.inside
      go (inr sides) = let no : true ≡ false = sym outer ∙ sides_apart s.before s.place (tasks.Repeated t) o.outer s.holds sides.outside in cc

  pub tiling_out : (up : Place) (t : Repeated) (s : IsTaskOf m (tasks.Repeated t)) (o : TilerOn) → IsTiling s.before t o → is_some (port_shape t.outs o.outer) ≡ true → is_some (port_shape (outputs_named s.before t.task) o.inner) ≡ true
  tiling_out up t s o rules outer = go (sides_of s.before t o rules)
    where
      go : JoinsPorts t.ins (inputs_named s.before t.task) o ⊎ JoinsPorts t.outs (outputs_named s.before t.task) o → is_some (port_shape (outputs_named s.before t.task) o.inner) ≡ true
      go (inl sides) = let no : true ≡ false = sym sides.outside ∙ sides_apart s.before s.place (tasks.Repeated t) o.outer s.holds outer in cc
      go (inr sides) = sides.inside

  pub tiler_there : (up : Place) (t : Repeated) (o : TilerOn) → task_at m up ≡ Some (tasks.Repeated t) → IsAmong t.tilers o → (s : IsTaskOf m (tasks.Repeated t)) × IsTiling s.before t o
  tiler_there up t o at listed =
      let s = task_there m agree up (tasks.Repeated t) at in
      (s, tiled s.before s.place t o (of_repeated s.before s.place t s.holds) listed)

  pub interlink_there : (up : Place) (t : Repeated) (l : Interlink) → task_at m up ≡ Some (tasks.Repeated t) → IsAmong t.links l → (s : IsTaskOf m (tasks.Repeated t)) × JoinsRepetitions s.before t l
  interlink_there up t l at listed =
      let s = task_there m agree up (tasks.Repeated t) at in
      (s, joined s.before s.place t l (of_repeated s.before s.place t s.holds) listed)

  linked_input : (p : Element) → LinkedInput m p → IsInput m p
  linked_input p l =
      let s = interlink_there l.up l.task l.link l.at_place l.listed in
      let here : p.place ≡ IntoRepetition l.repetition ∷ l.up = ap (λ (x : Element). x.place) l.left in
      at_input m p (IntoRepetition l.repetition ∷ l.up) l.link.to here (ap (λ (x : Element). x.port) l.left)
      (inner_input l.up l.task s.0 l.repetition l.link.to l.at_place l.exists.task (sym (ap (task_at m) here) ∙ l.exists.at_place) s.1.to)

  tiled_input : (p q : Element) → TiledInput m p q → IsInput m p × IsInput m q
  tiled_input p q f =
      let s = tiler_there f.up f.task f.tiling f.at_place f.listed in
      let here : p.place ≡ IntoRepetition f.repetition ∷ f.up = ap (λ (x : Element). x.place) f.left in
      let outer : is_some (port_shape f.task.ins f.tiling.outer) ≡ true = ap is_some f.outer_shape in (
        at_input m p (IntoRepetition f.repetition ∷ f.up) f.tiling.inner here (ap (λ (x : Element). x.port) f.left)
            (inner_input f.up f.task s.0 f.repetition f.tiling.inner f.at_place f.exists.task (sym (ap (task_at m) here) ∙ f.exists.at_place) (tiling_in f.up f.task s.0 f.tiling s.1 outer)),
        at_input m q f.up f.tiling.outer (ap (λ (x : Element). x.place) f.right) (ap (λ (x : Element). x.port) f.right)
            (input_there m agree f.up (tasks.Repeated f.task) f.tiling.outer f.at_place outer),
      )

  earlier : (p q : Element) → EarlierOutput m p q → IsInput m p × IsOutput m q
  earlier p q f =
      let l = f.linked in
      let s = interlink_there l.up l.task l.link l.at_place l.listed in (
        linked_input p l,
        at_output m q (IntoRepetition f.source ∷ l.up) l.link.from (ap (λ (x : Element). x.place) f.right) (ap (λ (x : Element). x.port) f.right)
            (inner_output l.up l.task s.0 f.source l.link.from l.at_place s.1.from),
      )

  default_element : (p q : Element) → DefaultElement m p q → IsInput m p × IsInput m q
  default_element p q f =
      let l = f.linked in (
        linked_input p l,
        at_input m q l.up f.outer (ap (λ (x : Element). x.place) f.right) (ap (λ (x : Element). x.port) f.right)
            (input_there m agree l.up (tasks.Repeated l.task) f.outer l.at_place (ap is_some f.outer_shape)),
      )

  outer_output : (p q : Element) → OuterOutput m p q → IsOutput m p × IsOutput m q
  outer_output p q f =
      let s = tiler_there p.place f.task f.tiling f.at_place f.listed in
      let outer : is_some (port_shape f.task.outs f.tiling.outer) ≡ true = ap is_some f.outer_shape in (
        at_output m p p.place f.tiling.outer refl (ap (λ (x : Element). x.port) f.left)
            (output_there m agree p.place (tasks.Repeated f.task) f.tiling.outer f.at_place outer),
        at_output m q (IntoRepetition f.repetition ∷ p.place) f.tiling.inner (ap (λ (x : Element). x.place) f.right) (ap (λ (x : Element). x.port) f.right)
            (inner_output p.place f.task s.0 f.repetition f.tiling.inner f.at_place (tiling_out p.place f.task s.0 f.tiling s.1 outer)),
      )

pub agreeing_is_wired : AgreeingIsWired
agreeing_is_wired m agree = record {
  link_in = link_in m agree;
  link_out = link_out m agree;
  from_part = from_part m agree;
  tiler = λ up t o at listed. let s = task_there m agree up (tasks.Repeated t) at in only_tiler s.before s.place t o (of_repeated s.before s.place t s.holds) listed;
  link_inside = λ up t l at listed. let s = task_there m agree up (tasks.Repeated t) at in (only_link_inside s.before s.place t l (of_repeated s.before s.place t s.holds) listed).0;
  untiled = λ up t l at listed. let s = task_there m agree up (tasks.Repeated t) at in (only_link_inside s.before s.place t l (of_repeated s.before s.place t s.holds) listed).1;
  part_input = part_input m agree;
  part_input_own = part_input_own m agree;
  part_input_part = part_input_part m agree;
  own_output = own_output m agree;
  tiled_input = tiled_input m agree;
  earlier = earlier m agree;
  default_number = λ p n f. linked_input m agree p f.linked;
  default_element = default_element m agree;
  outer_output = outer_output m agree;
}
