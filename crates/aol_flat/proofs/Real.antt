-- Each listed instance of a sound model is real.
use Rattle.std.proofs.Common.{◌≡◌, ℕ, zero, suc, ◌+◌, true, cond, List, [], ◌∷◌, ◌++◌, length, map, flat_map, Option, Some, None, slice_get, unwrap_or, option_and_then, sym, ◌∙◌, ap, refl, arith, subst, inl, inr}
use Rattle.std.specs.List.{IsAmong, AllByRecursion, enumerate_from}
use Rattle.std.specs.Option.{option_to_list}
use Rattle.aol_shape.specs.Shape.{points, IsPointOf, IsShape}
use Rattle.aol_tiler.specs.Tiler.{fits, address_point}
use Rattle.aol_tiler.specs.Matrices.{TilerOf}
use Rattle.aol_expr_tree.specs.declared.port.Port.{Port}
use Rattle.aol_model_types.specs.declared.document.Model.{Model}
use Rattle.aol_model_types.specs.declared.place.Key.TheVariants.{KReshapes}
use Rattle.aol_model_types.specs.declared.task.Compound.{Compound}
use Rattle.aol_model_types.specs.declared.task.Copied.{Copied}
use Rattle.aol_model_types.specs.declared.task.Hook.{Hook}
use Rattle.aol_model_types.specs.declared.task.OutPort.{OutPort}
use Rattle.aol_model_types.specs.declared.task.Part.{Part}
use Rattle.aol_model_types.specs.declared.task.Repeated.{Repeated}
use Rattle.aol_model_types.specs.declared.task.Task.{Task}
use Rattle.aol_model_types.specs.declared.task.Task.TheVariants as tasks
use Rattle.aol_model_types.specs.Places.{to_key}
use Rattle.aol_model_types.specs.Rules.{task_named, inputs_of, outputs_of, port_shape, copied_checks, gives, takes, source_fits, target_fits, from_shape, to_shape, fits_in}
use Rattle.aol_model_types.specs.Types.{IsTask, IsPort, IsOutPort}
use Rattle.aol_flat.specs.Tasks.{main_task}
use Rattle.aol_flat.specs.Place.{Place, IntoPart, IntoRepetition, Element, IsElement, task_at, task_below, end_element, instance_of_end}
use Rattle.aol_flat.specs.Equation.{CopiedElement}
use Rattle.aol_flat.specs.Node.{Node, ToPart, ToBody, space_around, place_on}
use Rattle.aol_flat.specs.Instance.{Leaf, reshape_leaf, leaves_below, leaves, Instance, Run, Copy, instance_on, leaf_instances, instances, end_shape, copy_source, copy_target, read_elements, written_elements}
use Rattle.aol_flat.specs.InstanceNeed.{IsReal}
use Rattle.aol_flat.specs.Accept.{IsSound, SoundIsReal, AcceptedHasNoCycle}
use Rattle.aol_flat.proofs.Among.{among_append, among_map, among_flat_map, among_get, get_among, points_inside}
use Rattle.aol_flat.proofs.Checked.{IsTaskOf, member, of_compound}
use Rattle.aol_flat.proofs.Cycles.{cycles_are_needs}
use Rattle.aol_flat.proofs.HasShape.{HasShape, taken_shape, given_shape}
use Rattle.aol_flat.proofs.Given.{AllByRecursion-at}
use Rattle.aol_flat.proofs.Inside.{number_of_member, point_split, point_inside, place_in_body}
use Rattle.aol_flat.proofs.Names.{both-true, slice_get-right}
use Rattle.aol_flat.proofs.Numbered.{copy_instance, copied_end}
use Rattle.aol_flat.proofs.RealCycles.{instance_cycles_are_real}
use Rattle.aol_flat.proofs.Shapes.{address_inside, found_port}
use Rattle.aol_flat.proofs.LinkSides.{task_there}

-- a tiler that fits shapes that are there
pub fits_both : (t : TilerOf) (a : Option (List ℕ)) (space pattern : List ℕ) → fits_in t a space (Some pattern) ≡ true → (array : List ℕ) × (a ≡ Some array) × (fits t array space pattern ≡ true)
fits_both t None space pattern h = cc
fits_both t (Some array) space pattern h = (array, refl, h)

-- what holds of all holds of each member
all_among : {X : Type 0} (P : X → Type 0) (xs : List X) (x : X) → AllByRecursion P xs → IsAmong xs x → P x
all_among P xs x all a = AllByRecursion-at P xs a.0 x all (among_get xs a.0 x a.1.0 a.1.1)

-- the ports of a task are within the limits
port_limits : (t : Task) (p : Port) → IsTask t → IsAmong (inputs_of t ++ outputs_of t) p → IsShape p.shape
port_limits (tasks.Elementary e) p h a =
    elim (among_append e.ins (map (λ (o : OutPort). o.port) e.outs) p a) [
      | inl b ↦ all_among IsPort e.ins p h.ins b
      | inr b ↦
          let o = among_map (λ (o : OutPort). o.port) e.outs p b in
          let P : Port → Type 0 = λ q. IsShape q.shape in
          subst P (sym o.2) (all_among IsOutPort e.outs o.0 h.outs o.1).port
    ]
port_limits (tasks.Compound c) p h a =
    elim (among_append c.ins c.outs p a) [
      | inl b ↦ all_among IsPort c.ins p h.ins b
      | inr b ↦ all_among IsPort c.outs p h.outs b
    ]
port_limits (tasks.Repeated t) p h a =
    elim (among_append t.ins t.outs p a) [
      | inl b ↦ all_among IsPort t.ins p h.ins b
      | inr b ↦ all_among IsPort t.outs p h.outs b
    ]

module _ (m : Model) (sound : IsSound m) where
  pub task_limits : (t : Task) → IsTaskOf m t → IsTask t
  task_limits t s =
      AllByRecursion-at IsTask m.tasks (length s.before + 0) t sound.read.model.tasks
      (ap (λ ts. slice_get ts (length s.before + 0)) s.split ∙ slice_get-right s.before (t ∷ s.rest) 0)

  pub shape_limits : (place : Place) (port s : List ℕ) → HasShape m place port s → IsShape s
  shape_limits place port s h =
      let p = found_port (inputs_of h.task ++ outputs_of h.task) port s h.at_port in
      subst IsShape p.3 (port_limits h.task p.0 (task_limits h.task (task_there m sound.shapes place h.task h.at_place)) p.1)

  pub shape_at_end : (c : Compound) (up : Place) (h : Hook) (s : List ℕ) → HasShape m (instance_of_end c up h.part) h.port s → end_shape m c up h ≡ s
  shape_at_end c up h s a =
      ap (λ o. unwrap_or (option_and_then (λ t. port_shape (inputs_of t ++ outputs_of t) h.port) o) []) a.at_place ∙ ap (λ o. unwrap_or o []) a.at_port

  -- a copy of a reshape at an instance of its compound
  pub copy_real : (up : Place) (c : Compound) (k : ℕ) (r : Copied) (repetition part : List ℕ) → task_at m up ≡ Some (tasks.Compound c) → slice_get c.reshapes k ≡ Some r → IsPointOf r.by.space repetition
      → IsPointOf r.by.pattern part → IsReal m (Copy up k repetition part)
  copy_real up c k r repetition part at listed inside inside' =
      let s = task_there m sound.shapes up (tasks.Compound c) at in
      let holds = of_compound s.before s.place c s.holds in
      let rules = member (copied_checks s.before c) (to_key s.place KReshapes) c.reshapes r holds.reshapes (get_among c.reshapes k r listed) in
      let h6 = both-true (gives s.before c r.from) _ rules.holds in
      let h7 = both-true (takes s.before c r.to) _ h6.1 in
      let h11 = both-true (source_fits s.before c r) _ h7.1 in
      let h12 = both-true (target_fits s.before c r) true h11.1 in
      let from = fits_both r.by.source (from_shape s.before c r.from) r.by.space r.by.pattern h11.0 in
      let to = fits_both r.by.target (to_shape s.before c r.to) r.by.space r.by.pattern h12.0 in
      let given = given_shape m sound up c r.from from.0 at s from.1 in
      let taken = taken_shape m sound up c r.to to.0 at s to.1 in
      let q : Element = end_element c up r.from (address_point r.by.source from.0 repetition part) in
      let p : Element = end_element c up r.to (address_point r.by.target to.0 repetition part) in
      let source : IsElement m q = record {
        task = given.task;
        at_place = given.at_place;
        shape = from.0;
        at_port = given.at_port;
        inside = address_inside r.by.source from.0 r.by.space r.by.pattern repetition part from.2 (shape_limits (instance_of_end c up r.from.part) r.from.port from.0 given);
      } in
      let target : IsElement m p = record {
        task = taken.task;
        at_place = taken.at_place;
        shape = to.0;
        at_port = taken.at_port;
        inside = address_inside r.by.target to.0 r.by.space r.by.pattern repetition part to.2 (shape_limits (instance_of_end c up r.to.part) r.to.port to.0 taken);
      } in
      let copied : CopiedElement m p q = record {
        up = up;
        task = c;
        at_place = at;
        reshape = r;
        listed = get_among c.reshapes k r listed;
        repetition = repetition;
        repetition_inside = inside;
        part = part;
        part_inside = inside';
        source = source;
        target = target;
        right = refl;
        left = refl;
      } in
      let written : written_elements m (Copy up k repetition part) ≡ p ∷ [] =
      ap option_to_list (copied_end copy_target m up c k r repetition part at listed)
      ∙ ap (λ (x : List ℕ). end_element c up r.to (address_point r.by.target x repetition part) ∷ []) (shape_at_end c up r.to to.0 taken) in
      let read : read_elements m (Copy up k repetition part) ≡ q ∷ [] =
      ap option_to_list (copied_end copy_source m up c k r repetition part at listed)
      ∙ ap (λ (x : List ℕ). end_element c up r.from (address_point r.by.source x repetition part) ∷ []) (shape_at_end c up r.from from.0 given) in
      (p, q, copied, written, read)

  -- the instances of a node are instances of its task
  abbrev pub IsGood : Option Task → Node → Type 0
  IsGood o node = (t : Task) → o ≡ Some t → (at : List ℕ) → IsPointOf (space_around node) at → task_at m (place_on node at) ≡ Some t

  pub good_part : (c : Compound) (node : Node) (k : ℕ) (p : Part) → IsGood (Some (tasks.Compound c)) node → slice_get c.parts k ≡ Some p → IsGood (task_named m.tasks p.task) (ToPart k ∷ node)
  good_part c node k p good listed t found at inside =
      ap (option_and_then (λ u. task_below m u (IntoPart k))) (good (tasks.Compound c) refl at inside)
      ∙ (ap (option_and_then (λ (q : Part). task_named m.tasks q.task)) listed ∙ found)

  pub good_body : (t : Repeated) (node : Node) → IsGood (Some (tasks.Repeated t)) node → IsGood (task_named m.tasks t.task) (ToBody t.space ∷ node)
  good_body t node good u found at inside =
      let z = point_split (space_around node) t.space at inside in
      let place : place_on (ToBody t.space ∷ node) at ≡ IntoRepetition z.1 ∷ place_on node z.0 = ap (place_on (ToBody t.space ∷ node)) z.2 ∙ place_in_body t.space node z.0 z.1 z.4 in
      ap (task_at m) place
      ∙ (ap (option_and_then (λ v. task_below m v (IntoRepetition z.1))) (good (tasks.Repeated t) refl z.0 z.3)
      ∙ (ap (λ b. cond b (task_named m.tasks t.task) None) (point_inside t.space z.1 z.4) ∙ found))

  -- an instance of a reshape's leaf
  reshape_real : (c : Compound) (node : Node) (k : ℕ) (r : Copied) → IsGood (Some (tasks.Compound c)) node → slice_get c.reshapes k ≡ Some r → (at : List ℕ)
      → IsPointOf (space_around node ++ r.by.space ++ r.by.pattern) at → IsReal m (instance_on (reshape_leaf node (k, r)) at)
  reshape_real c node k r good listed at inside =
      let z = point_split (space_around node ++ r.by.space) r.by.pattern at inside in
      let y = point_split (space_around node) r.by.space z.0 z.3 in
      let R : Instance → Type 0 = λ i. IsReal m i in
      let S : List ℕ → Type 0 = λ x. IsReal m (instance_on (reshape_leaf node (k, r)) x) in
      let whole : at ≡ y.0 ++ y.1 ++ z.1 = z.2 ∙ ap (λ x. x ++ z.1) y.2 in
      let real : IsReal m (Copy (place_on node y.0) k y.1 z.1) = copy_real (place_on node y.0) c k r y.1 z.1 (good (tasks.Compound c) refl y.0 y.3) listed y.4 z.4 in
      subst S (sym whole) (subst R (sym (copy_instance node k r y.0 y.1 z.1 y.3 y.4)) real)

  -- so each instance of a leaf is real
  leaf_real : (depth : ℕ) (o : Option Task) (node : Node) → IsGood o node → (l : Leaf) → IsAmong (leaves_below depth m o node) l → (at : List ℕ) → IsPointOf l.space at → IsReal m (instance_on l at)
  leaf_real zero o node good l a at inside = absurd (omega (arith, a.1.0))
  leaf_real (suc depth) None node good l a at inside = absurd (omega (arith, a.1.0))
  leaf_real (suc depth) (Some (tasks.Elementary e)) node good l (zero, a) at inside =
      let P : Leaf → Type 0 = λ x. IsPointOf x.space at in
      let Q : Leaf → Type 0 = λ x. IsReal m (instance_on x at) in
      let here : IsPointOf (space_around node) at = subst P a.1 inside in
      let real : IsReal m (Run (place_on node at)) = (e, good (tasks.Elementary e) refl at here) in
      subst Q (sym a.1) real
  leaf_real (suc depth) (Some (tasks.Elementary e)) node good l (suc i, a) at inside = absurd (omega (arith, a.0))
  leaf_real (suc depth) (Some (tasks.Repeated t)) node good l a at inside = leaf_real depth (task_named m.tasks t.task) (ToBody t.space ∷ node) (good_body t node good) l a at inside
  leaf_real (suc depth) (Some (tasks.Compound c)) node good l a at inside =
      let f : ℕ × Part → List Leaf = λ q. leaves_below depth m (task_named m.tasks q.1.task) (ToPart q.0 ∷ node) in
      elim (among_append (flat_map f (enumerate_from 0 c.parts)) (map (reshape_leaf node) (enumerate_from 0 c.reshapes)) l a) [
        | inl b ↦
            let q = among_flat_map f (enumerate_from 0 c.parts) l b in
            let k = number_of_member c.parts 0 q.0 q.1 in
            let number : 0 + k.0 ≡ k.0 = omega arith in
            let listed : slice_get c.parts q.0.0 ≡ Some q.0.1 = ap (slice_get c.parts) (k.1 ∙ number) ∙ k.2 in
            leaf_real depth (task_named m.tasks q.0.1.task) (ToPart q.0.0 ∷ node) (good_part c node q.0.0 q.0.1 good listed) l q.2 at inside
        | inr b ↦
            let q = among_map (reshape_leaf node) (enumerate_from 0 c.reshapes) l b in
            let k = number_of_member c.reshapes 0 q.0 q.1 in
            let number : 0 + k.0 ≡ k.0 = omega arith in
            let listed : slice_get c.reshapes q.0.0 ≡ Some q.0.1 = ap (slice_get c.reshapes) (k.1 ∙ number) ∙ k.2 in
            let P : Leaf → Type 0 = λ x. IsPointOf x.space at in
            let Q : Leaf → Type 0 = λ x. IsReal m (instance_on x at) in
            subst Q (sym q.2) (reshape_real c node q.0.0 q.0.1 good listed at (subst P q.2 inside))
      ]

pub sound_is_real : SoundIsReal
sound_is_real m sound j i h =
    let l = among_flat_map leaf_instances (leaves m) i (get_among (instances m) j i h) in
    let at = among_map (instance_on l.0) (points l.0.space) i l.2 in
    let P : Instance → Type 0 = λ x. IsReal m x in
    subst P (sym at.2)
    (leaf_real m sound (length m.tasks) (main_task m) [] (λ t e x inside. e) l.0 l.1 at.0 (points_inside l.0.space at.0 at.1))

pub accepted_has_no_cycle : AcceptedHasNoCycle
accepted_has_no_cycle m sound accepted j c =
    let k = (cycles_are_needs m).some j c in
    let p = instance_cycles_are_real m (sound_is_real m sound) k.0 k.1 in
    accepted.acyclic p.0 p.1
