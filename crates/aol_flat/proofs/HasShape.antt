-- The shape of a port at an instance, and the ends of plain links.
use Rattle.std.proofs.Common.{◌≡◌, ℕ, true, List, [], ◌∷◌, ◌++◌, Option, Some, None, is_some, option_map, unwrap_or, sym, ◌∙◌, ap, refl, subst}
use Rattle.std.specs.List.{IsAmong}
use Rattle.aol_shape.specs.Shape.{IsPointOf}
use Rattle.aol_expr_tree.specs.declared.port.Port.{Port}
use Rattle.aol_model_types.specs.declared.document.Model.{Model}
use Rattle.aol_model_types.specs.declared.task.Compound.{Compound}
use Rattle.aol_model_types.specs.declared.task.Hook.{Hook}
use Rattle.aol_model_types.specs.declared.task.Part.{Part}
use Rattle.aol_model_types.specs.declared.task.Plain.{Plain}
use Rattle.aol_model_types.specs.declared.task.Task.{Task}
use Rattle.aol_model_types.specs.declared.task.Task.TheVariants as tasks
use Rattle.aol_model_types.specs.Rules.{task_named, inputs_of, outputs_of, inputs_named, outputs_named, port_shape, part_named, from_shape, to_shape, same_shapes}
use Rattle.aol_flat.specs.Tasks.{part_number}
use Rattle.aol_flat.specs.Place.{Place, IntoPart, Element, IsElement, task_at, end_element, instance_of_end}
use Rattle.aol_flat.specs.Accept.{IsSound}
use Rattle.aol_flat.proofs.Checked.{IsTaskOf, sides_apart}
use Rattle.aol_flat.proofs.Find.{and_then_some}
use Rattle.aol_flat.proofs.Names.{same-equal}
use Rattle.aol_flat.proofs.Shapes.{shape_left, shape_right}
use Rattle.aol_flat.proofs.LinkSides.{task_there, part_task, link_there}

-- the port of this name at an instance has this shape
pub record HasShape (m : Model) (place : Place) (port shape : List ℕ) : Type 0 where
  pub task : Task
  pub at_place : task_at m place ≡ Some task
  pub at_port : port_shape (inputs_of task ++ outputs_of task) port ≡ Some shape

pub one_shape : (m : Model) (place : Place) (port s s' : List ℕ) → HasShape m place port s → HasShape m place port s' → s ≡ s'
one_shape m place port s s' a b =
    let tasks_same : Some a.task ≡ Some b.task = sym a.at_place ∙ b.at_place in
    let t : a.task ≡ b.task = cc in
    let shapes : Some s ≡ Some s' = sym a.at_port ∙ (ap (λ (u : Task). port_shape (inputs_of u ++ outputs_of u) port) t ∙ b.at_port) in
    cc

pub moved_shape : (m : Model) (place place' : Place) (port port' s : List ℕ) → place ≡ place' → port ≡ port' → HasShape m place port s → HasShape m place' port' s
moved_shape m place place' port port' s e f a =
    let P : Place → Type 0 = λ x. HasShape m x port s in
    let Q : List ℕ → Type 0 = λ x. HasShape m place' x s in
    subst Q f (subst P e a)

-- an element at a port whose shape is known
pub element_there : (m : Model) (q : Element) (place : Place) (port s : List ℕ) → q.place ≡ place → q.port ≡ port → HasShape m place port s → IsPointOf s q.index → IsElement m q
element_there m q place port s e f a inside =
    let b = moved_shape m place q.place port q.port s (sym e) (sym f) a in
    record { task = b.task; at_place = b.at_place; shape = s; at_port = b.at_port; inside = inside }

pub point_there : (m : Model) (p : Element) (place : Place) (port s : List ℕ) → p.place ≡ place → p.port ≡ port → HasShape m place port s → IsElement m p → IsPointOf s p.index
point_there m p place port s e f a exists =
    let own : HasShape m p.place p.port exists.shape = record { task = exists.task; at_place = exists.at_place; at_port = exists.at_port } in
    let P : List ℕ → Type 0 = λ x. IsPointOf x p.index in
    subst P (one_shape m p.place p.port exists.shape s own (moved_shape m place p.place port p.port s (sym e) (sym f) a)) exists.inside

-- two equal shapes that are there
pub equal_shapes : (a b : Option (List ℕ)) → same_shapes a b ≡ true → (s : List ℕ) × (a ≡ Some s) × (b ≡ Some s)
equal_shapes None b h = cc
equal_shapes (Some s) None h = cc
equal_shapes (Some s) (Some t) h = (s, refl, ap (λ x. Some x) (sym (same-equal s t h)))

-- a port of a task that is found by name
pub port_shaped : (ports : Task → List Port) (o : Option Task) (port s : List ℕ) → port_shape (unwrap_or (option_map ports o) []) port ≡ Some s → (u : Task) × (o ≡ Some u) × (port_shape (ports u) port ≡ Some s)
port_shaped ports None port s h = cc
port_shaped ports (Some u) port s h = (u, refl, h)

module _ (m : Model) (sound : IsSound m) where
  -- inputs and outputs of a task at an instance
  pub input_shaped : (place : Place) (t : Task) (port s : List ℕ) → task_at m place ≡ Some t → port_shape (inputs_of t) port ≡ Some s → HasShape m place port s
  input_shaped place t port s h k = record { task = t; at_place = h; at_port = shape_left (inputs_of t) (outputs_of t) port s k }

  pub output_shaped : (place : Place) (t : Task) (port s : List ℕ) → task_at m place ≡ Some t → port_shape (outputs_of t) port ≡ Some s → HasShape m place port s
  output_shaped place t port s h k =
      let r = task_there m sound.shapes place t h in
      record { task = t; at_place = h; at_port = shape_right (inputs_of t) (outputs_of t) port s (sides_apart r.before r.place t port r.holds (ap is_some k)) k }

  -- ---- compounds

  pub taken_shape : (up : Place) (c : Compound) (h : Hook) (s : List ℕ) → task_at m up ≡ Some (tasks.Compound c) → (r : IsTaskOf m (tasks.Compound c)) → to_shape r.before c h ≡ Some s
      → HasShape m (instance_of_end c up h.part) h.port s
  taken_shape up c h s at r e = go h.part refl
    where
      go : (o : Option (List ℕ)) → h.part ≡ o → HasShape m (instance_of_end c up h.part) h.port s
      go None f =
          let own : port_shape c.outs h.port ≡ Some s = sym (ap (λ o. to_shape r.before c (record { part = o; port = h.port })) f) ∙ e in
          moved_shape m up (instance_of_end c up h.part) h.port h.port s (sym (ap (instance_of_end c up) f)) refl (output_shaped up (tasks.Compound c) h.port s at own)
      go (Some part) f =
          let p = and_then_some (λ (q : Part). port_shape (inputs_named r.before q.task) h.port) (part_named c part) s (sym (ap (λ o. to_shape r.before c (record { part = o; port = h.port })) f) ∙ e) in
          let u = port_shaped inputs_of (task_named r.before p.0.task) h.port s p.2 in
          moved_shape m (IntoPart (part_number c part) ∷ up) (instance_of_end c up h.part) h.port h.port s (sym (ap (instance_of_end c up) f)) refl
          (input_shaped (IntoPart (part_number c part) ∷ up) u.0 h.port s (part_task m sound.shapes up c r part p.0 u.0 at p.1 u.1) u.2)

  pub given_shape : (up : Place) (c : Compound) (h : Hook) (s : List ℕ) → task_at m up ≡ Some (tasks.Compound c) → (r : IsTaskOf m (tasks.Compound c)) → from_shape r.before c h ≡ Some s
      → HasShape m (instance_of_end c up h.part) h.port s
  given_shape up c h s at r e = go h.part refl
    where
      go : (o : Option (List ℕ)) → h.part ≡ o → HasShape m (instance_of_end c up h.part) h.port s
      go None f =
          let own : port_shape c.ins h.port ≡ Some s = sym (ap (λ o. from_shape r.before c (record { part = o; port = h.port })) f) ∙ e in
          moved_shape m up (instance_of_end c up h.part) h.port h.port s (sym (ap (instance_of_end c up) f)) refl (input_shaped up (tasks.Compound c) h.port s at own)
      go (Some part) f =
          let p = and_then_some (λ (q : Part). port_shape (outputs_named r.before q.task) h.port) (part_named c part) s (sym (ap (λ o. from_shape r.before c (record { part = o; port = h.port })) f) ∙ e) in
          let u = port_shaped outputs_of (task_named r.before p.0.task) h.port s p.2 in
          moved_shape m (IntoPart (part_number c part) ∷ up) (instance_of_end c up h.part) h.port h.port s (sym (ap (instance_of_end c up) f)) refl
          (output_shaped (IntoPart (part_number c part) ∷ up) u.0 h.port s (part_task m sound.shapes up c r part p.0 u.0 at p.1 u.1) u.2)

  -- the element at the other end of a plain link
  pub linked_exists : (up : Place) (c : Compound) (l : Plain) (p q : Element) → task_at m up ≡ Some (tasks.Compound c) → IsAmong c.links l → p ≡ end_element c up l.to p.index → q ≡ end_element c up l.from p.index
      → IsElement m p → IsElement m q
  linked_exists up c l p q at listed left right exists =
      let r = link_there m sound.shapes up c l at listed in
      let s = equal_shapes (from_shape r.0.before c l.from) (to_shape r.0.before c l.to) r.1.equal in
      let inside : IsPointOf s.0 p.index =
      point_there m p (instance_of_end c up l.to.part) l.to.port s.0 (ap (λ (x : Element). x.place) left) (ap (λ (x : Element). x.port) left) (taken_shape up c l.to s.0 at r.0 s.2) exists in
      let P : List ℕ → Type 0 = λ x. IsPointOf s.0 x in
      element_there m q (instance_of_end c up l.from.part) l.from.port s.0 (ap (λ (x : Element). x.place) right) (ap (λ (x : Element). x.port) right) (given_shape up c l.from s.0 at r.0 s.1)
      (subst P (sym (ap (λ (x : Element). x.index) right)) inside)
