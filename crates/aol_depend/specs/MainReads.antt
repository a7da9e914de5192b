-- What comes from main inputs alone.
use Rattle.std.specs.Prelude.{◌≡◌, ◌<◌, ℕ, List, length, slice_get, Option, Some, None}
use Rattle.std.specs.List.{IsAmong}
use Rattle.aol_shape.specs.Shape.{IsPointOf, size, point_at}
use Rattle.aol_model_types.specs.declared.document.Model.{Model}
use Rattle.aol_model_types.specs.declared.task.Compound.{Compound}
use Rattle.aol_model_types.specs.declared.task.Hook.{Hook}
use Rattle.aol_model_types.specs.declared.task.Plain.{Plain}
use Rattle.aol_model_types.specs.declared.task.Repeated.{Repeated}
use Rattle.aol_model_types.specs.declared.task.Task.{Task}
use Rattle.aol_model_types.specs.declared.task.TilerOn.{TilerOn}
use Rattle.aol_flat.specs.Equation.{MainInput}
use Rattle.aol_flat.specs.Home.{Kept, home_of}
use Rattle.aol_flat.specs.Instance.{Leaf, leaves, instance_on, read_elements}
use Rattle.aol_flat.specs.Laid.{Laid, IsCellOf, main_input_elements}
use Rattle.aol_flat.specs.Node.{Node, space_around, place_on}
use Rattle.aol_flat.specs.NodeTable.{IsNode}
use Rattle.aol_flat.specs.Place.{Element, IsElement}
use Rattle.aol_flat.specs.Tasks.{part_number}
use Rattle.aol_flat.specs.Wired.{IsInput}

-- the end is at this port of part k
pub record IsInto (c : Compound) (k : ℕ) (port : List ℕ) (end : Hook) : Type 0 where
  pub name : List ℕ
  pub part : end.part ≡ Some name
  pub number : part_number c name ≡ k
  pub port_is : end.port ≡ port

-- a plain link leads from an own input of the compound task into this port of part k
pub record IsOwnLink (c : Compound) (k : ℕ) (port : List ℕ) (l : Plain) : Type 0 where
  pub listed : IsAmong c.links l
  pub own : l.from.part ≡ None
  pub into : IsInto c k port l.to

-- a tiler of the repeated task is at this inner port
pub record IsTilerInto (t : Repeated) (inner : List ℕ) (o : TilerOn) : Type 0 where
  pub listed : IsAmong t.tilers o
  pub inner_is : o.inner ≡ inner

-- the element has its value from an element of a main input
pub record IsFromMain (m : Model) (e : Element) : Type 0 where
  pub home : Element
  pub home_is : home_of m e ≡ Kept home
  pub main : MainInput m home

-- the element at a port of an instance of a node
abbrev pub element_at : Node → List ℕ → List ℕ → List ℕ → Element
element_at node at port x = record { place = place_on node at; port = port; index = x }

-- so does each element of this input of the node with this number
abbrev pub LeadsToMain : Model → ℕ → List ℕ → Type 0
LeadsToMain m number port =
    (node : Node) (t : Task) → IsNode m number node t → (at x : List ℕ) → IsPointOf (space_around node) at → IsElement m (element_at node at port x) → IsInput m (element_at node at port x)
    → IsFromMain m (element_at node at port x)

-- reading the element takes the cell of a main input
pub record IsMainRead (f : Laid) (e : Element) : Type 0 where
  pub cell : ℕ
  pub first : cell < length (main_input_elements f.model)
  pub is : IsCellOf f e cell

-- all that the instances of the leaf read does
abbrev pub ReadsMainInputs : Laid → ℕ → Type 0
ReadsMainInputs f leaf =
    (l : Leaf) (number : ℕ) → slice_get (leaves f.model) leaf ≡ Some l → number < size l.space → (e : Element) → IsAmong (read_elements f.model (instance_on l (point_at l.space number))) e → IsMainRead f e

-- no cell of a main input has a writer
abbrev pub AreBare : Laid → List (Option ℕ) → Type 0
AreBare f list = (c : ℕ) → c < length (main_input_elements f.model) → slice_get list c ≡ Some None
