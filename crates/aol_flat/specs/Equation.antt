-- The equations of a model, one relation for each kind, and its solutions. In each relation p is on the left and q on the right.
use Rattle.std.specs.Prelude.{◌≡◌, ℕ, ℤ, List, [], ◌∷◌, map, Option, Some, None, slice_get}
use Rattle.std.specs.List.{IsAmong}
use Rattle.aol_shape.specs.Shape.{IsPointOf, rank}
use Rattle.aol_tiler.specs.Matrices.{TilerOf}
use Rattle.aol_tiler.specs.Tiler.{address_point}
use Rattle.aol_expr_tree.specs.declared.port.Port.{Port}
use Rattle.aol_expr_tree.specs.declared.value.Val.{Val}
use Rattle.aol_expr_tree.specs.declared.value.Val.TheVariants.{Num}
use Rattle.aol_link.specs.declared.link.Choice.{Choice}
use Rattle.aol_link.specs.declared.link.Fallback.TheVariants.{Number, Tiled}
use Rattle.aol_link.specs.declared.link.Interlink.{Interlink}
use Rattle.aol_link.specs.Links.{stepped_back, source_repetition, first_choice}
use Rattle.aol_model_types.specs.declared.document.Model.{Model}
use Rattle.aol_model_types.specs.declared.job.InputArray.{InputArray}
use Rattle.aol_model_types.specs.declared.task.Elementary.{Elementary}
use Rattle.aol_model_types.specs.declared.task.OutPort.{OutPort}
use Rattle.aol_model_types.specs.declared.task.Plain.{Plain}
use Rattle.aol_model_types.specs.declared.task.Copied.{Copied}
use Rattle.aol_model_types.specs.declared.task.Compound.{Compound}
use Rattle.aol_model_types.specs.declared.task.TilerOn.{TilerOn}
use Rattle.aol_model_types.specs.declared.task.Repeated.{Repeated}
use Rattle.aol_model_types.specs.declared.task.Task.{Task}
use Rattle.aol_model_types.specs.declared.task.Task.TheVariants as tasks
use Rattle.aol_model_types.specs.Rules.{inputs_of, port_shape}
use Rattle.aol_flat.specs.Tasks.{main_task, elementary_number}
use Rattle.aol_flat.specs.Place.{Place, Element, IsElement, IntoRepetition, task_at, elements_of, end_element}
use Rattle.aol_flat.specs.Inputs.{numbers_named}
use Rattle.aol_flat.specs.InstanceValue.{instance_value}

-- one value for every element; what it gives to what is no element is of no matter
abbrev pub Valuation : Type 0
Valuation = Element → Val

-- p is an element of an input of the main task
pub record MainInput (m : Model) (p : Element) : Type 0 where
  pub is_main : p.place ≡ []
  pub task : Task
  pub at_place : main_task m ≡ Some task
  pub number : ℕ
  pub port : Port
  pub listed : slice_get (inputs_of task) number ≡ Some port
  pub named : p.port ≡ port.name
  pub inside : IsPointOf port.shape p.index

-- p is an element of output port `number` of an elementary instance
pub record ElementaryOutput (m : Model) (p : Element) : Type 0 where
  pub task : Elementary
  pub at_place : task_at m p.place ≡ Some (tasks.Elementary task)
  pub number : ℕ
  pub out : OutPort
  pub listed : slice_get task.outs number ≡ Some out
  pub named : p.port ≡ out.port.name
  pub inside : IsPointOf out.port.shape p.index

-- p is an element of an input of a part, and a plain link leads to it from q
pub record PartInput (m : Model) (p q : Element) : Type 0 where
  pub up : Place
  pub task : Compound
  pub at_place : task_at m up ≡ Some (tasks.Compound task)
  pub link : Plain
  pub listed : IsAmong task.links link
  pub part : List ℕ
  pub into_part : link.to.part ≡ Some part
  pub left : p ≡ end_element task up link.to p.index
  pub right : q ≡ end_element task up link.from p.index
  pub exists : IsElement m p

-- p is an element of an own output of a compound, and a plain link leads to it from q
pub record OwnOutput (m : Model) (p q : Element) : Type 0 where
  pub task : Compound
  pub at_place : task_at m p.place ≡ Some (tasks.Compound task)
  pub link : Plain
  pub listed : IsAmong task.links link
  pub into_own : link.to.part ≡ None
  pub left : p ≡ end_element task p.place link.to p.index
  pub right : q ≡ end_element task p.place link.from p.index
  pub exists : IsElement m p

-- p is an element of an input of one repetition, and a tiler gives it the element q of the outer array
pub record TiledInput (m : Model) (p q : Element) : Type 0 where
  pub up : Place
  pub task : Repeated
  pub at_place : task_at m up ≡ Some (tasks.Repeated task)
  pub tiling : TilerOn
  pub listed : IsAmong task.tilers tiling
  pub array : List ℕ
  pub outer_shape : port_shape task.ins tiling.outer ≡ Some array
  pub repetition : List ℕ
  pub left : p ≡ record { place = IntoRepetition repetition ∷ up; port = tiling.inner; index = p.index }
  pub right : q ≡ record { place = up; port = tiling.outer; index = address_point tiling.tiler array repetition p.index }
  pub exists : IsElement m p

-- p is an element of an input of one repetition of the task at `up`, and a link between repetitions leads to that input
pub record LinkedInput (m : Model) (p : Element) : Type 0 where
  pub up : Place
  pub task : Repeated
  pub at_place : task_at m up ≡ Some (tasks.Repeated task)
  pub link : Interlink
  pub listed : IsAmong task.links link
  pub repetition : List ℕ
  pub left : p ≡ record { place = IntoRepetition repetition ∷ up; port = link.to; index = p.index }
  pub exists : IsElement m p

-- the repetition from which the link leads, where it is one of the space
abbrev pub source_of : {m : Model} {p : Element} → LinkedInput m p → Option (List ℕ)
source_of l = source_repetition l.link.wrap l.link.distance l.task.space l.repetition

-- the choice of its default that stands for a repetition outside the space: the first that applies
abbrev pub choice_of : {m : Model} {p : Element} → LinkedInput m p → Option Choice
choice_of l = slice_get l.link.rest (first_choice l.link.rest l.task.space (stepped_back l.repetition l.link.distance))

-- the link leads from a repetition of the space, and q is the element of its output
pub record EarlierOutput (m : Model) (p q : Element) : Type 0 where
  pub linked : LinkedInput m p
  pub source : List ℕ
  pub in_space : source_of linked ≡ Some source
  pub right : q ≡ record { place = IntoRepetition source ∷ linked.up; port = linked.link.from; index = p.index }

-- the link leads from outside the space, and its choice there is a number
pub record DefaultNumber (m : Model) (p : Element) (n : ℤ) : Type 0 where
  pub linked : LinkedInput m p
  pub outside : source_of linked ≡ None
  pub choice : Choice
  pub chosen : choice_of linked ≡ Some choice
  pub takes : choice.take ≡ Number n

-- the link leads from outside the space, and its choice there is a tiler, which gives the element q of an outer input
pub record DefaultElement (m : Model) (p q : Element) : Type 0 where
  pub linked : LinkedInput m p
  pub outside : source_of linked ≡ None
  pub choice : Choice
  pub chosen : choice_of linked ≡ Some choice
  pub outer : List ℕ
  pub tiler : TilerOf
  pub takes : choice.take ≡ Tiled outer tiler
  pub array : List ℕ
  pub outer_shape : port_shape linked.task.ins outer ≡ Some array
  pub right : q ≡ record { place = linked.up; port = outer; index = address_point tiler array linked.repetition p.index }

-- p is the element of a repeated task's output that a tiler gives to the element q of one repetition's output
pub record OuterOutput (m : Model) (p q : Element) : Type 0 where
  pub task : Repeated
  pub at_place : task_at m p.place ≡ Some (tasks.Repeated task)
  pub tiling : TilerOn
  pub listed : IsAmong task.tilers tiling
  pub array : List ℕ
  pub outer_shape : port_shape task.outs tiling.outer ≡ Some array
  pub repetition : List ℕ
  pub right : q ≡ record { place = IntoRepetition repetition ∷ p.place; port = tiling.inner; index = q.index }
  pub left : p ≡ record { place = p.place; port = tiling.outer; index = address_point tiling.tiler array repetition q.index }
  pub exists : IsElement m q

-- a reshape copies q to p, for one pair of its repetitions and pattern elements
pub record CopiedElement (m : Model) (p q : Element) : Type 0 where
  pub up : Place
  pub task : Compound
  pub at_place : task_at m up ≡ Some (tasks.Compound task)
  pub reshape : Copied
  pub listed : IsAmong task.reshapes reshape
  pub repetition : List ℕ
  pub repetition_inside : IsPointOf reshape.by.space repetition
  pub part : List ℕ
  pub part_inside : IsPointOf reshape.by.pattern part
  pub source : IsElement m q
  pub target : IsElement m p
  pub right : q ≡ end_element task up reshape.from (address_point reshape.by.source source.shape repetition part)
  pub left : p ≡ end_element task up reshape.to (address_point reshape.by.target target.shape repetition part)

-- every equation of the model holds
pub record IsSolution (m : Model) (inputs : List InputArray) (v : Valuation) : Type 0 where
  pub main_input : (p : Element) (a : MainInput m p) (n : ℤ) → slice_get (numbers_named inputs p.port) (rank a.port.shape p.index) ≡ Some n → v p ≡ Num n
  pub elementary_output : (p : Element) (o : ElementaryOutput m p) →
      v p ≡ instance_value (elementary_number m o.task.name) o.task (map v (elements_of p.place o.task.ins)) o.number o.out p.index
  pub part_input : (p q : Element) → PartInput m p q → v p ≡ v q
  pub own_output : (p q : Element) → OwnOutput m p q → v p ≡ v q
  pub tiled_input : (p q : Element) → TiledInput m p q → v p ≡ v q
  pub linked_input : (p q : Element) → EarlierOutput m p q → v p ≡ v q
  pub default_number : (p : Element) (n : ℤ) → DefaultNumber m p n → v p ≡ Num n
  pub default_element : (p q : Element) → DefaultElement m p q → v p ≡ v q
  pub outer_output : (p q : Element) → OuterOutput m p q → v p ≡ v q
  pub copied : (p q : Element) → CopiedElement m p q → v p ≡ v q
