-- What the rules on shapes and names give: each port has the one link or tiler that an equation speaks of, and each end is on the side where it belongs.
use Rattle.std.specs.Prelude.{◌≡◌, ℕ, ℤ, List, Some, None, true, false}
use Rattle.std.specs.List.{IsAmong}
use Rattle.aol_link.specs.declared.link.Interlink.{Interlink}
use Rattle.aol_model_types.specs.declared.document.Model.{Model}
use Rattle.aol_model_types.specs.declared.task.Compound.{Compound}
use Rattle.aol_model_types.specs.declared.task.Plain.{Plain}
use Rattle.aol_model_types.specs.declared.task.Repeated.{Repeated}
use Rattle.aol_model_types.specs.declared.task.Task.TheVariants as tasks
use Rattle.aol_model_types.specs.declared.task.TilerOn.{TilerOn}
use Rattle.aol_model_types.specs.Rules.{ShapesAgree}
use Rattle.aol_flat.specs.Tasks.{part_number}
use Rattle.aol_flat.specs.Place.{Place, Element, task_at}
use Rattle.aol_flat.specs.Equation.{PartInput, OwnOutput, TiledInput, EarlierOutput, DefaultNumber, DefaultElement, OuterOutput}
use Rattle.aol_flat.specs.Home.{link_into_part, link_up, tiler_at, link_into_repetition, is_input_at}

-- the element is of an input
abbrev pub IsInput : Model → Element → Type 0
IsInput m e = is_input_at (task_at m e.place) e.port ≡ true

-- it isn't
abbrev pub IsOutput : Model → Element → Type 0
IsOutput m e = is_input_at (task_at m e.place) e.port ≡ false

-- the one link into a part's input, the one that hands a part's output up, the one tiler at an inner port and the one link into an inner input; and the sides of each equation
pub record IsWired (m : Model) : Type 0 where
  pub link_in : (up : Place) (c : Compound) (l : Plain) (part : List ℕ) → task_at m up ≡ Some (tasks.Compound c) → IsAmong c.links l → l.to.part ≡ Some part
      → link_into_part c (part_number c part) l.to.port ≡ Some l
  pub link_out : (up : Place) (c : Compound) (l : Plain) (part : List ℕ) → task_at m up ≡ Some (tasks.Compound c) → IsAmong c.links l → l.to.part ≡ None → l.from.part ≡ Some part
      → link_up c (part_number c part) l.from.port ≡ Some l
  pub from_part : (up : Place) (c : Compound) (l : Plain) → task_at m up ≡ Some (tasks.Compound c) → IsAmong c.links l → l.to.part ≡ None → (part : List ℕ) × (l.from.part ≡ Some part)
  pub tiler : (up : Place) (t : Repeated) (o : TilerOn) → task_at m up ≡ Some (tasks.Repeated t) → IsAmong t.tilers o → tiler_at t o.inner ≡ Some o
  pub link_inside : (up : Place) (t : Repeated) (l : Interlink) → task_at m up ≡ Some (tasks.Repeated t) → IsAmong t.links l → link_into_repetition t l.to ≡ Some l
  pub untiled : (up : Place) (t : Repeated) (l : Interlink) → task_at m up ≡ Some (tasks.Repeated t) → IsAmong t.links l → tiler_at t l.to ≡ None
  pub part_input : (p q : Element) → PartInput m p q → IsInput m p
  pub part_input_own : (p q : Element) (f : PartInput m p q) → f.link.from.part ≡ None → IsInput m q
  pub part_input_part : (p q : Element) (f : PartInput m p q) (part : List ℕ) → f.link.from.part ≡ Some part → IsOutput m q
  pub own_output : (p q : Element) → OwnOutput m p q → IsOutput m p × IsOutput m q
  pub tiled_input : (p q : Element) → TiledInput m p q → IsInput m p × IsInput m q
  pub earlier : (p q : Element) → EarlierOutput m p q → IsInput m p × IsOutput m q
  pub default_number : (p : Element) (n : ℤ) → DefaultNumber m p n → IsInput m p
  pub default_element : (p q : Element) → DefaultElement m p q → IsInput m p × IsInput m q
  pub outer_output : (p q : Element) → OuterOutput m p q → IsOutput m p × IsOutput m q

-- so it is where the shapes of a model agree
abbrev pub AgreeingIsWired : Type 0
AgreeingIsWired = (m : Model) → ShapesAgree m → IsWired m
