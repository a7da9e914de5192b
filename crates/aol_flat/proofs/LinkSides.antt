-- The sides of the ends of plain links.
use Rattle.std.proofs.Common.{◌≡◌, ℕ, true, false, ◌||◌, List, ◌∷◌, Option, Some, None, is_some, sym, ◌∙◌, ap, refl}
use Rattle.std.specs.Prelude.{option_and_then}
use Rattle.std.specs.List.{IsAmong}
use Rattle.aol_model_types.specs.declared.document.Model.{Model}
use Rattle.aol_model_types.specs.declared.task.Compound.{Compound}
use Rattle.aol_model_types.specs.declared.task.Hook.{Hook}
use Rattle.aol_model_types.specs.declared.task.Part.{Part}
use Rattle.aol_model_types.specs.declared.task.Plain.{Plain}
use Rattle.aol_model_types.specs.declared.task.Task.{Task}
use Rattle.aol_model_types.specs.declared.task.Task.TheVariants as tasks
use Rattle.aol_model_types.specs.Rules.{ShapesAgree, task_named, inputs_of, outputs_of, port_shape, part_named, from_shape, to_shape}
use Rattle.aol_flat.specs.Tasks.{part_number}
use Rattle.aol_flat.specs.Place.{Place, IntoPart, Element, task_at, task_below, instance_of_end}
use Rattle.aol_flat.specs.Equation.{PartInput, OwnOutput}
use Rattle.aol_flat.specs.Home.{is_input_at, link_into_part, link_up}
use Rattle.aol_flat.specs.Wired.{IsInput, IsOutput}
use Rattle.aol_flat.proofs.Checked.{IsTaskOf, task_of, named_earlier, port_there, of_compound, sides_apart}
use Rattle.aol_flat.proofs.Find.{named_at}
use Rattle.aol_flat.proofs.LinkRules.{taken_by_part, given_by_part, part_at, IsLinked, linked, only_link_in, only_link_up}

-- an end that takes something is at an own output, or at a part
some_part : (a b : Option (List ℕ)) → (is_some a || is_some b) ≡ true → b ≡ None → (part : List ℕ) × (a ≡ Some part)
some_part (Some x) b h e = (x, refl)
some_part None (Some y) h e = cc
some_part None None h e = cc

-- one element is at a place and a port
pub at_input : (m : Model) (p : Element) (place : Place) (port : List ℕ) → p.place ≡ place → p.port ≡ port → is_input_at (task_at m place) port ≡ true → IsInput m p
at_input m p place port e f h = ap (λ (x : Place). is_input_at (task_at m x) p.port) e ∙ (ap (is_input_at (task_at m place)) f ∙ h)

pub at_output : (m : Model) (p : Element) (place : Place) (port : List ℕ) → p.place ≡ place → p.port ≡ port → is_input_at (task_at m place) port ≡ false → IsOutput m p
at_output m p place port e f h = ap (λ (x : Place). is_input_at (task_at m x) p.port) e ∙ (ap (is_input_at (task_at m place)) f ∙ h)

module _ (m : Model) (agree : ShapesAgree m) where
  -- the checks of a task at an instance hold
  pub task_there : (place : Place) (t : Task) → task_at m place ≡ Some t → IsTaskOf m t
  task_there place t h = let n = named_at m place t h in task_of m t n.0 agree n.1

  -- the side of a port at an instance
  pub input_there : (place : Place) (t : Task) (port : List ℕ) → task_at m place ≡ Some t → is_some (port_shape (inputs_of t) port) ≡ true → is_input_at (task_at m place) port ≡ true
  input_there place t port h k = ap (λ o. is_input_at o port) h ∙ k

  pub output_there : (place : Place) (t : Task) (port : List ℕ) → task_at m place ≡ Some t → is_some (port_shape (outputs_of t) port) ≡ true → is_input_at (task_at m place) port ≡ false
  output_there place t port h k = let r = task_there place t h in ap (λ o. is_input_at o port) h ∙ sides_apart r.before r.place t port r.holds k

  -- ---- a compound

  -- the task of a part
  pub part_task : (up : Place) (c : Compound) (r : IsTaskOf m (tasks.Compound c)) (part : List ℕ) (p : Part) (u : Task) → task_at m up ≡ Some (tasks.Compound c) → part_named c part ≡ Some p
      → task_named r.before p.task ≡ Some u → task_at m (IntoPart (part_number c part) ∷ up) ≡ Some u
  part_task up c r part p u h named found =
      ap (option_and_then (λ t. task_below m t (IntoPart (part_number c part)))) h
      ∙ (ap (option_and_then (λ (q : Part). task_named m.tasks q.task)) (part_at c part p named)
      ∙ named_earlier m r.before (tasks.Compound c ∷ r.rest) p.task u r.split found)

  -- an end that takes is at an input of its part
  pub taken_input : (up : Place) (c : Compound) (h : Hook) (part : List ℕ) → task_at m up ≡ Some (tasks.Compound c) → (r : IsTaskOf m (tasks.Compound c)) → is_some (to_shape r.before c h) ≡ true → h.part ≡ Some part
      → is_input_at (task_at m (IntoPart (part_number c part) ∷ up)) h.port ≡ true
  taken_input up c h part at r takes e =
      let p = taken_by_part r.before c h part e takes in
      let u = port_there inputs_of (task_named r.before p.0.task) h.port p.2 in
      input_there (IntoPart (part_number c part) ∷ up) u.0 h.port (part_task up c r part p.0 u.0 at p.1 u.1) u.2

  -- one that gives is at an output of its part
  given_output : (up : Place) (c : Compound) (h : Hook) (part : List ℕ) → task_at m up ≡ Some (tasks.Compound c) → (r : IsTaskOf m (tasks.Compound c)) → is_some (from_shape r.before c h) ≡ true → h.part ≡ Some part
      → is_input_at (task_at m (IntoPart (part_number c part) ∷ up)) h.port ≡ false
  given_output up c h part at r gives e =
      let p = given_by_part r.before c h part e gives in
      let u = port_there outputs_of (task_named r.before p.0.task) h.port p.2 in
      output_there (IntoPart (part_number c part) ∷ up) u.0 h.port (part_task up c r part p.0 u.0 at p.1 u.1) u.2

  -- the rules on a link of a compound at an instance
  pub link_there : (up : Place) (c : Compound) (l : Plain) → task_at m up ≡ Some (tasks.Compound c) → IsAmong c.links l → (r : IsTaskOf m (tasks.Compound c)) × IsLinked r.before c l
  link_there up c l at listed =
      let r = task_there up (tasks.Compound c) at in
      (r, linked r.before r.place c l (of_compound r.before r.place c r.holds) listed)

  pub link_in : (up : Place) (c : Compound) (l : Plain) (part : List ℕ) → task_at m up ≡ Some (tasks.Compound c) → IsAmong c.links l → l.to.part ≡ Some part → link_into_part c (part_number c part) l.to.port ≡ Some l
  link_in up c l part at listed e =
      let r = task_there up (tasks.Compound c) at in
      only_link_in r.before r.place c l part (of_compound r.before r.place c r.holds) listed e

  pub link_out : (up : Place) (c : Compound) (l : Plain) (part : List ℕ) → task_at m up ≡ Some (tasks.Compound c) → IsAmong c.links l → l.to.part ≡ None → l.from.part ≡ Some part → link_up c (part_number c part) l.from.port ≡ Some l
  link_out up c l part at listed own from =
      let r = task_there up (tasks.Compound c) at in
      only_link_up r.before r.place c l part (of_compound r.before r.place c r.holds) listed own from

  pub from_part : (up : Place) (c : Compound) (l : Plain) → task_at m up ≡ Some (tasks.Compound c) → IsAmong c.links l → l.to.part ≡ None → (part : List ℕ) × (l.from.part ≡ Some part)
  from_part up c l at listed own = let r = link_there up c l at listed in some_part l.from.part l.to.part r.1.meets own

  pub part_input : (p q : Element) → PartInput m p q → IsInput m p
  part_input p q f =
      let r = link_there f.up f.task f.link f.at_place f.listed in
      at_input m p (IntoPart (part_number f.task f.part) ∷ f.up) f.link.to.port
      (ap (λ (x : Element). x.place) f.left ∙ ap (instance_of_end f.task f.up) f.into_part) (ap (λ (x : Element). x.port) f.left)
      (taken_input f.up f.task f.link.to f.part f.at_place r.0 r.1.takes f.into_part)

  pub part_input_own : (p q : Element) (f : PartInput m p q) → f.link.from.part ≡ None → IsInput m q
  part_input_own p q f own =
      let r = link_there f.up f.task f.link f.at_place f.listed in
      at_input m q f.up f.link.from.port (ap (λ (x : Element). x.place) f.right ∙ ap (instance_of_end f.task f.up) own) (ap (λ (x : Element). x.port) f.right)
      (input_there f.up (tasks.Compound f.task) f.link.from.port f.at_place
      (sym (ap (λ o. is_some (from_shape r.0.before f.task (record { part = o; port = f.link.from.port }))) own) ∙ r.1.gives))

  pub part_input_part : (p q : Element) (f : PartInput m p q) (part : List ℕ) → f.link.from.part ≡ Some part → IsOutput m q
  part_input_part p q f part from =
      let r = link_there f.up f.task f.link f.at_place f.listed in
      at_output m q (IntoPart (part_number f.task part) ∷ f.up) f.link.from.port
      (ap (λ (x : Element). x.place) f.right ∙ ap (instance_of_end f.task f.up) from) (ap (λ (x : Element). x.port) f.right)
      (given_output f.up f.task f.link.from part f.at_place r.0 r.1.gives from)

  pub own_output : (p q : Element) → OwnOutput m p q → IsOutput m p × IsOutput m q
  own_output p q f =
      let r = link_there p.place f.task f.link f.at_place f.listed in
      let from = from_part p.place f.task f.link f.at_place f.listed f.into_own in (
        at_output m p p.place f.link.to.port refl (ap (λ (x : Element). x.port) f.left)
            (output_there p.place (tasks.Compound f.task) f.link.to.port f.at_place
            (sym (ap (λ o. is_some (to_shape r.0.before f.task (record { part = o; port = f.link.to.port }))) f.into_own) ∙ r.1.takes)),
        at_output m q (IntoPart (part_number f.task from.0) ∷ p.place) f.link.from.port
            (ap (λ (x : Element). x.place) f.right ∙ ap (instance_of_end f.task p.place) from.1) (ap (λ (x : Element). x.port) f.right)
            (given_output p.place f.task f.link.from from.0 f.at_place r.0 r.1.gives from.1),
      )
