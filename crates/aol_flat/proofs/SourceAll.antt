-- What the look-up of sources finds is what the equations say, at every element.
use Rattle.std.proofs.Common.{◌≡◌, ℕ, ◌+◌, Bool, true, false, cond, not, ◌&&◌, List, [], ◌∷◌, ◌++◌, length, Option, Some, None, option_map, find, slice_get, sym, ◌∙◌, ap, refl, arith, subst}
use Rattle.std.specs.Prelude.{option_and_then}
use Rattle.std.specs.List.{IsAmong, list_any, enumerate_from, position_or_len, prefix_len}
use Rattle.aol_shape.specs.Lists.{same}
use Rattle.aol_tiler.specs.Tiler.{address_point}
use Rattle.aol_expr_tree.specs.declared.port.Port.{Port}
use Rattle.aol_model_types.specs.declared.document.Model.{Model}
use Rattle.aol_model_types.specs.declared.place.Key.TheVariants.{KParts}
use Rattle.aol_model_types.specs.declared.place.PlaceStep.{PlaceStep}
use Rattle.aol_model_types.specs.declared.task.Compound.{Compound}
use Rattle.aol_model_types.specs.declared.task.Copied.{Copied}
use Rattle.aol_model_types.specs.declared.task.Hook.{Hook}
use Rattle.aol_model_types.specs.declared.task.Part.{Part}
use Rattle.aol_model_types.specs.declared.task.Plain.{Plain}
use Rattle.aol_model_types.specs.declared.task.Task.{Task}
use Rattle.aol_model_types.specs.declared.task.Task.TheVariants as tasks
use Rattle.aol_model_types.specs.Places.{to_key}
use Rattle.aol_model_types.specs.Rules.{task_named, inputs_of, inputs_named, port_shape, same_part, part_checks, is_new_part}
use Rattle.aol_flat.specs.Tasks.{part_number}
use Rattle.aol_flat.specs.Place.{Place, IntoPart, IntoRepetition, Element, IsElement, task_at, task_below, end_element, instance_of_end}
use Rattle.aol_flat.specs.Home.{is_input_at, link_into_part}
use Rattle.aol_flat.specs.Instance.{end_shape, copy_source, copy_target, copy_end}
use Rattle.aol_flat.specs.Targets.{Writing, writings_of, reshape_writings, earlier_writing}
use Rattle.aol_flat.specs.Wired.{IsInput, IsOutput}
use Rattle.aol_flat.specs.Accept.{IsSound}
use Rattle.aol_flat.specs.Sources.{source_at, input_source, output_source, part_source, linked_source, link_into_own, copied_source, part_writing, written_by, copied_writings, TakesFrom, copying, SourcesAreRight}
use Rattle.aol_flat.proofs.Among.{among_flat_map, get_among}
use Rattle.aol_flat.proofs.Checked.{HoldsOfCompound, member_at, of_compound}
use Rattle.aol_flat.proofs.Find.{and_then_some}
use Rattle.aol_flat.proofs.HasShape.{one_shape, input_shaped, output_shaped, port_shaped, HasShape}
use Rattle.aol_flat.proofs.LinkSides.{task_there}
use Rattle.aol_flat.proofs.Names.{both-true, same-equal, same-self}
use Rattle.aol_flat.proofs.Numbered.{end_exists, copied_end}
use Rattle.aol_flat.proofs.Once.{neither}
use Rattle.aol_flat.proofs.PathGrounded.{only_one}
use Rattle.aol_flat.proofs.Real.{copy_real}
use Rattle.aol_flat.proofs.Sites.{find-passes}
use Rattle.aol_flat.proofs.SourceBack.{pair_of, at_number, if_among, outer_right}
use Rattle.aol_flat.proofs.SourceRight.{same_element, repetition_right, part_linked, own_linked}
use Rattle.aol_flat.proofs.SourceSteps.{from_input, from_output}
use Rattle.aol_flat.proofs.Twice.{earlier_at}

-- ---- parts

not_true : (b : Bool) → not b ≡ true → b ≡ false
not_true true h = cc
not_true false h = refl

position_after : {X : Type 0} (test : X → Bool) (before : List X) (x : X) (rest : List X) → list_any test before ≡ false → test x ≡ true → position_or_len test (before ++ x ∷ rest) ≡ length before
position_after test [] x rest h t = ap (λ b. cond (not b) (1 + prefix_len (λ z. not (test z)) rest) 0) t
position_after test (y ∷ ys) x rest h t =
    let parts = neither (test y) (list_any test ys) h in
    let later : position_or_len test (ys ++ x ∷ rest) ≡ length ys = position_after test ys x rest parts.1 t in
    ap (λ b. cond (not b) (1 + prefix_len (λ z. not (test z)) (ys ++ x ∷ rest)) 0) parts.0 ∙ omega (arith, later)

-- the k-th part has number k
number_of_part : (ts : List Task) (place : List PlaceStep) (c : Compound) (k : ℕ) (p : Part) → HoldsOfCompound ts place c → slice_get c.parts k ≡ Some p → part_number c p.name ≡ k
number_of_part ts place c k p holds at =
    let r = member_at (part_checks ts) (to_key place KParts) c.parts p k holds.parts at in
    let new = both-true (is_new_part r.before p) _ r.holds in
    ap (position_or_len (λ (q : Part). same q.name p.name)) r.split
    ∙ (position_after (λ (q : Part). same q.name p.name) r.before p r.rest (not_true (list_any (λ (q : Part). same q.name p.name) r.before) new.0) (same-self p.name)
    ∙ r.count)

own_part : (a : Option (List ℕ)) → same_part a None ≡ true → a ≡ None
own_part None h = refl
own_part (Some x) h = cc

named_part : (a : Option (List ℕ)) (name : List ℕ) → same_part a (Some name) ≡ true → a ≡ Some name
named_part None name h = cc
named_part (Some x) name h = ap Some (same-equal x name h)

module _ (m : Model) (sound : IsSound m) where
  -- ---- copies

  copy_written : (p q : Element) (e : IsElement m p) (up : Place) (c : Compound) → task_at m up ≡ Some (tasks.Compound c) → (part : Option (List ℕ)) (y : Port) (w : Writing) → IsAmong (copied_writings c part y) w → w.1 ≡ p.index
      → ((h : Hook) → same_part h.part part ≡ true → instance_of_end c up h.part ≡ p.place) → y.name ≡ p.port → y.shape ≡ e.shape → copied_source m c up (Some w) ≡ Some q → TakesFrom m p q
  copy_written p q e up c at part y w among point here named shaped h =
      let k = among_flat_map (reshape_writings part y) (enumerate_from 0 c.reshapes) w among in
      let r : Copied = k.0.1 in
      let listed : slice_get c.reshapes k.0.0 ≡ Some r = at_number c.reshapes k.0 k.1 in
      let chosen = if_among (same_part r.to.part part && same r.to.port y.name) (writings_of k.0.0 r.by.target y.shape r.by.space r.by.pattern) w k.2 in
      let parts = both-true (same_part r.to.part part) (same r.to.port y.name) chosen.0 in
      let pair = pair_of k.0.0 r.by.target y.shape r.by.space r.by.pattern w chosen.1 in
      let real = copy_real m sound up c k.0.0 r pair.repetition pair.part at listed pair.inside pair.part_inside in
      let port : p.port ≡ r.to.port = sym (same-equal r.to.port y.name parts.1 ∙ named) in
      let left : p ≡ end_element c up r.to p.index = same_element p (end_element c up r.to p.index) (sym (here r.to parts.0)) port refl in
      let shape : y.shape ≡ end_shape m c up r.to = shaped ∙ sym (end_exists m c up r.to p e p.index left) in
      let index : p.index ≡ address_point r.by.target (end_shape m c up r.to) pair.repetition pair.part =
      sym point ∙ (ap (λ (v : Writing). v.1) pair.is ∙ ap (λ s. address_point r.by.target s pair.repetition pair.part) shape) in
      let is_target : p ≡ copy_target m c up r pair.repetition pair.part = left ∙ ap (end_element c up r.to) index in
      let target : Some (copy_target m c up r pair.repetition pair.part) ≡ Some real.0 =
      sym (copied_end copy_target m up c k.0.0 r pair.repetition pair.part at listed) ∙ only_one (copy_end copy_target m up k.0.0 pair.repetition pair.part (task_at m up)) real.0 real.3 in
      let source : Some (copy_source m c up r pair.repetition pair.part) ≡ Some real.1 =
      sym (copied_end copy_source m up c k.0.0 r pair.repetition pair.part at listed) ∙ only_one (copy_end copy_source m up k.0.0 pair.repetition pair.part (task_at m up)) real.1 real.4 in
      let found : Some (copy_source m c up r pair.repetition pair.part) ≡ Some q =
      sym (ap (λ (v : Writing). copied_source m c up (Some v)) pair.is ∙ ap (option_map (λ (x : Copied). copy_source m c up x pair.repetition pair.part)) listed) ∙ h in
      let same_target : real.0 ≡ p = let f : copy_target m c up r pair.repetition pair.part ≡ real.0 = cc in sym (is_target ∙ f) in
      let same_source : real.1 ≡ q =
      let f : copy_source m c up r pair.repetition pair.part ≡ real.1 = cc in
      let g : copy_source m c up r pair.repetition pair.part ≡ q = cc in
      sym f ∙ g in
      let P : Element → Type 0 = λ x. TakesFrom m x real.1 in
      let Q : Element → Type 0 = λ x. TakesFrom m p x in
      subst Q same_source (subst P same_target (copying real.2))

  own_right : (p q : Element) (e : IsElement m p) (c : Compound) → IsOutput m p → task_at m p.place ≡ Some (tasks.Compound c) → source_at m p ≡ Some q → TakesFrom m p q
  own_right p q e c side at h = go (link_into_own c p.port) refl (sym (from_output m p side ∙ ap (λ o. output_source m o p.place p.port p.index) at) ∙ h)
    where
      by_copy : (o : Option Writing) → written_by (copied_writings c None) c.outs p.port p.index ≡ o → copied_source m c p.place o ≡ Some q → TakesFrom m p q
      by_copy None f k = cc
      by_copy (Some w) f k =
          let y = and_then_some (λ (x : Port). earlier_writing (copied_writings c None x) p.index) (find (λ (x : Port). same x.name p.port) c.outs) w f in
          let j = earlier_at (copied_writings c None y.0) p.index w y.2 in
          let found : port_shape c.outs p.port ≡ Some y.0.shape = ap (option_map (λ (x : Port). x.shape)) y.1 in
          let own : HasShape m p.place p.port e.shape = record { task = e.task; at_place = e.at_place; at_port = e.at_port } in
          copy_written p q e p.place c at None y.0 w (get_among (copied_writings c None y.0) j.0 w j.1) j.2 (λ hook s. ap (instance_of_end c p.place) (own_part hook.part s))
          (same-equal y.0.name p.port (find-passes (λ (x : Port). same x.name p.port) c.outs y.0 y.1))
          (one_shape m p.place p.port y.0.shape e.shape (output_shaped m sound p.place (tasks.Compound c) p.port y.0.shape at found) own) k

      go : (o : Option Plain) → link_into_own c p.port ≡ o → linked_source c p.place p.index o (copied_source m c p.place (written_by (copied_writings c None) c.outs p.port p.index)) ≡ Some q → TakesFrom m p q
      go (Some l) f k = let is : end_element c p.place l.from p.index ≡ q = cc in own_linked m sound p q e p.place c at l refl f is
      go None f k = by_copy (written_by (copied_writings c None) c.outs p.port p.index) refl k

  part_right : (p q : Element) (e : IsElement m p) (up : Place) (k : ℕ) (c : Compound) → IsInput m p → p.place ≡ IntoPart k ∷ up → task_at m up ≡ Some (tasks.Compound c) → source_at m p ≡ Some q → TakesFrom m p q
  part_right p q e up k c side here at h =
      go (link_into_part c k p.port) refl (sym (from_input m p side ∙ (ap (λ x. input_source m x p.port p.index) here ∙ ap (λ o. part_source m o up k p.port p.index) at)) ∙ h)
    where
      by_copy : (o : Option Writing) → part_writing m c k p.port p.index ≡ o → copied_source m c up o ≡ Some q → TakesFrom m p q
      by_copy None f g = cc
      by_copy (Some w) f g =
          let part = and_then_some (λ (x : Part). written_by (copied_writings c (Some x.name)) (inputs_named m.tasks x.task) p.port p.index) (slice_get c.parts k) w f in
          let ports : List Port = inputs_named m.tasks part.0.task in
          let y = and_then_some (λ (x : Port). earlier_writing (copied_writings c (Some part.0.name) x) p.index) (find (λ (x : Port). same x.name p.port) ports) w part.2 in
          let j = earlier_at (copied_writings c (Some part.0.name) y.0) p.index w y.2 in
          let found : port_shape ports p.port ≡ Some y.0.shape = ap (option_map (λ (x : Port). x.shape)) y.1 in
          let u = port_shaped inputs_of (task_named m.tasks part.0.task) p.port y.0.shape found in
          let there : task_at m p.place ≡ Some u.0 =
          ap (task_at m) here ∙ (ap (option_and_then (λ t. task_below m t (IntoPart k))) at ∙ (ap (option_and_then (λ (x : Part). task_named m.tasks x.task)) part.1 ∙ u.1)) in
          let own : HasShape m p.place p.port e.shape = record { task = e.task; at_place = e.at_place; at_port = e.at_port } in
          let s = task_there m sound.shapes up (tasks.Compound c) at in
          let number : part_number c part.0.name ≡ k = number_of_part s.before s.place c k part.0 (of_compound s.before s.place c s.holds) part.1 in
          copy_written p q e up c at (Some part.0.name) y.0 w (get_among (copied_writings c (Some part.0.name) y.0) j.0 w j.1) j.2
          (λ hook x. ap (instance_of_end c up) (named_part hook.part part.0.name x) ∙ (ap (λ n. IntoPart n ∷ up) number ∙ sym here))
          (same-equal y.0.name p.port (find-passes (λ (x : Port). same x.name p.port) ports y.0 y.1))
          (one_shape m p.place p.port y.0.shape e.shape (input_shaped m sound p.place u.0 p.port y.0.shape there u.2) own) g

      go : (o : Option Plain) → link_into_part c k p.port ≡ o → linked_source c up p.index o (copied_source m c up (part_writing m c k p.port p.index)) ≡ Some q → TakesFrom m p q
      go (Some l) f g = let is : end_element c up l.from p.index ≡ q = cc in part_linked m sound p q e up c at k l here f is
      go None f g = by_copy (part_writing m c k p.port p.index) refl g

  -- ---- every element

  output_right : (p q : Element) (e : IsElement m p) → IsOutput m p → (t : Task) → task_at m p.place ≡ Some t → source_at m p ≡ Some q → TakesFrom m p q
  output_right p q e side (tasks.Elementary x) at h = let f = sym (from_output m p side ∙ ap (λ o. output_source m o p.place p.port p.index) at) ∙ h in cc
  output_right p q e side (tasks.Compound c) at h = own_right p q e c side at h
  output_right p q e side (tasks.Repeated t) at h = outer_right m sound p q t side at h

  input_right : (p q : Element) (e : IsElement m p) → IsInput m p → (place : Place) → p.place ≡ place → source_at m p ≡ Some q → TakesFrom m p q
  input_right p q e side [] here h = let f = sym (from_input m p side ∙ ap (λ x. input_source m x p.port p.index) here) ∙ h in cc
  input_right p q e side (IntoPart k ∷ up) here h =
      let found = and_then_some (λ t. task_below m t (IntoPart k)) (task_at m up) e.task (sym (ap (task_at m) here) ∙ e.at_place) in
      go found.0 found.1 found.2
    where
      go : (t : Task) → task_at m up ≡ Some t → task_below m t (IntoPart k) ≡ Some e.task → TakesFrom m p q
      go (tasks.Elementary x) at below = cc
      go (tasks.Compound c) at below = part_right p q e up k c side here at h
      go (tasks.Repeated t) at below = cc
  input_right p q e side (IntoRepetition r ∷ up) here h =
      let found = and_then_some (λ t. task_below m t (IntoRepetition r)) (task_at m up) e.task (sym (ap (task_at m) here) ∙ e.at_place) in
      go found.0 found.1 found.2
    where
      go : (t : Task) → task_at m up ≡ Some t → task_below m t (IntoRepetition r) ≡ Some e.task → TakesFrom m p q
      go (tasks.Elementary x) at below = cc
      go (tasks.Compound c) at below = cc
      go (tasks.Repeated t) at below = repetition_right m sound p q e side up r here t at h

pub sources_are_right : SourcesAreRight
sources_are_right m sound p q e h = go (is_input_at (task_at m p.place) p.port) refl
  where
    go : (b : Bool) → is_input_at (task_at m p.place) p.port ≡ b → TakesFrom m p q
    go true side = input_right m sound p q e side p.place refl h
    go false side = output_right m sound p q e side e.task e.at_place h
