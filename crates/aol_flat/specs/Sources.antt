-- The one element from which an element takes its value, by look-up.
use Rattle.std.specs.Prelude.{◌≡◌, ℕ, ℤ, List, [], ◌∷◌, flat_map, find, Bool, false, Option, Some, None, option_map, option_and_then, unwrap_or, slice_get, if◌then◌else◌}
use Rattle.std.specs.List.{enumerate_from}
use Rattle.aol_shape.specs.Lists.{same}
use Rattle.aol_tiler.specs.Tiler.{address_point}
use Rattle.aol_expr_tree.specs.declared.port.Port.{Port}
use Rattle.aol_link.specs.declared.link.Choice.{Choice}
use Rattle.aol_link.specs.declared.link.Fallback.{Fallback}
use Rattle.aol_link.specs.declared.link.Fallback.TheVariants.{Number, Tiled}
use Rattle.aol_link.specs.declared.link.Interlink.{Interlink}
use Rattle.aol_link.specs.Links.{source_repetition}
use Rattle.aol_model_types.specs.declared.document.Model.{Model}
use Rattle.aol_model_types.specs.declared.task.Compound.{Compound}
use Rattle.aol_model_types.specs.declared.task.Copied.{Copied}
use Rattle.aol_model_types.specs.declared.task.Hook.{Hook}
use Rattle.aol_model_types.specs.declared.task.Part.{Part}
use Rattle.aol_model_types.specs.declared.task.Plain.{Plain}
use Rattle.aol_model_types.specs.declared.task.Repeated.{Repeated}
use Rattle.aol_model_types.specs.declared.task.Task.{Task}
use Rattle.aol_model_types.specs.declared.task.Task.TheVariants as tasks
use Rattle.aol_model_types.specs.declared.task.TilerOn.{TilerOn}
use Rattle.aol_model_types.specs.Rules.{inputs_named, port_shape}
use Rattle.aol_flat.specs.Place.{Place, IntoPart, IntoRepetition, Element, IsElement, task_at, end_element}
use Rattle.aol_flat.specs.Equation.{MainInput, ElementaryOutput, DefaultNumber, CopiedElement}
use Rattle.aol_flat.specs.Need.{Follows}
use Rattle.aol_flat.specs.Home.{link_into_part, tiler_at, link_into_repetition, default_choice, is_input_at}
use Rattle.aol_flat.specs.Instance.{copy_source}
use Rattle.aol_flat.specs.Targets.{Writing, tiler_writings, reshape_writings, earlier_writing, IsSingleAssignment}
use Rattle.aol_flat.specs.Accept.{IsSound}

-- ---- what is written

-- the writings of an own output by tilers
abbrev pub tiled_writings : Model → Repeated → Port → List Writing
tiled_writings m t y = flat_map (tiler_writings m t y) (enumerate_from 0 t.tilers)

-- the writings of a port of a part or of the compound by reshapes
abbrev pub copied_writings : Compound → Option (List ℕ) → Port → List Writing
copied_writings c part u = flat_map (reshape_writings part u) (enumerate_from 0 c.reshapes)

-- the first writing of a point of the port of this name
abbrev pub written_by : (Port → List Writing) → List Port → List ℕ → List ℕ → Option Writing
written_by writings ports port x = option_and_then (λ y. earlier_writing (writings y) x) (find (λ (p : Port). same p.name port) ports)

-- the output of a repetition that a writing of a tiler hands up
abbrev pub inner_source : Repeated → Place → Option Writing → Option Element
inner_source t up None = None
inner_source t up (Some w) = option_map (λ (o : TilerOn). record { place = IntoRepetition w.0.rep ∷ up; port = o.inner; index = w.0.pattern }) (slice_get t.tilers w.0.item)

-- the source of the copy that a writing of a reshape is
abbrev pub copied_source : Model → Compound → Place → Option Writing → Option Element
copied_source m c up None = None
copied_source m c up (Some w) = option_map (λ (r : Copied). copy_source m c up r w.0.rep w.0.pattern) (slice_get c.reshapes w.0.item)

-- ---- compounds

-- a link's end is this own port
abbrev pub is_own_end : List ℕ → Hook → Bool
is_own_end port h = elim h.part [ None ↦ same h.port port | Some name ↦ false ]

-- the plain link into an own output
abbrev pub link_into_own : Compound → List ℕ → Option Plain
link_into_own c port = find (λ l. is_own_end port l.to) c.links

-- the other end of a link, or else what is copied
abbrev pub linked_source : Compound → Place → List ℕ → Option Plain → Option Element → Option Element
linked_source c up x (Some l) copied = Some (end_element c up l.from x)
linked_source c up x None copied = copied

-- the writing of a point of an input of part k
abbrev pub part_writing : Model → Compound → ℕ → List ℕ → List ℕ → Option Writing
part_writing m c k u x = option_and_then (λ (p : Part). written_by (copied_writings c (Some p.name)) (inputs_named m.tasks p.task) u x) (slice_get c.parts k)

-- the source of an input of part k of the task at `up`
abbrev pub part_source : Model → Option Task → Place → ℕ → List ℕ → List ℕ → Option Element
part_source m (Some (tasks.Compound c)) up k u x = linked_source c up x (link_into_part c k u) (copied_source m c up (part_writing m c k u x))
part_source m _ up k u x = None

-- ---- repetitions

-- a default is a number, which is no element, or an element of an outer input
abbrev pub fallback_source : Repeated → Place → List ℕ → List ℕ → Fallback → Option Element
fallback_source t up r x (Number n) = None
fallback_source t up r x (Tiled name tiler) = Some (record { place = up; port = name; index = address_point tiler (unwrap_or (port_shape t.ins name) []) r x })

-- the same of the choice of a default, where there is one
abbrev pub choice_source : Repeated → Place → List ℕ → List ℕ → Option Choice → Option Element
choice_source t up r x None = None
choice_source t up r x (Some choice) = fallback_source t up r x choice.take

-- the output of the repetition from which a link leads, or else its default
abbrev pub earlier_source : Repeated → Place → List ℕ → List ℕ → Interlink → Option (List ℕ) → Option Element
earlier_source t up r x l (Some source) = Some (record { place = IntoRepetition source ∷ up; port = l.from; index = x })
earlier_source t up r x l None = choice_source t up r x (default_choice l t.space r)

-- the source of the link into an inner input, where there is one
abbrev pub interlink_source : Repeated → Place → List ℕ → List ℕ → Option Interlink → Option Element
interlink_source t up r x None = None
interlink_source t up r x (Some l) = earlier_source t up r x l (source_repetition l.wrap l.distance t.space r)

-- the element that the tiler at an inner input gives, or else the source of its link
abbrev pub tiled_source : Repeated → Place → List ℕ → List ℕ → List ℕ → Option TilerOn → Option Element
tiled_source t up r u x (Some o) = Some (record { place = up; port = o.outer; index = address_point o.tiler (unwrap_or (port_shape t.ins o.outer) []) r x })
tiled_source t up r u x None = interlink_source t up r x (link_into_repetition t u)

-- the source of an input of repetition r of the task at `up`
abbrev pub repetition_source : Option Task → Place → List ℕ → List ℕ → List ℕ → Option Element
repetition_source (Some (tasks.Repeated t)) up r u x = tiled_source t up r u x (tiler_at t u)
repetition_source _ up r u x = None

-- ---- any element

-- the source of an input
abbrev pub input_source : Model → Place → List ℕ → List ℕ → Option Element
input_source m [] u x = None
input_source m (IntoPart k ∷ up) u x = part_source m (task_at m up) up k u x
input_source m (IntoRepetition r ∷ up) u x = repetition_source (task_at m up) up r u x

-- the source of an output of the task at a place
abbrev pub output_source : Model → Option Task → Place → List ℕ → List ℕ → Option Element
output_source m (Some (tasks.Compound c)) place y x = linked_source c place x (link_into_own c y) (copied_source m c place (written_by (copied_writings c None) c.outs y x))
output_source m (Some (tasks.Repeated t)) place y x = inner_source t place (written_by (tiled_writings m t) t.outs y x)
output_source m _ place y x = None

-- the element from which an element takes its value; none for main inputs, default numbers and what is computed
abbrev pub source_at : Model → Element → Option Element
source_at m e =
    if is_input_at (task_at m e.place) e.port then input_source m e.place e.port e.index
    else output_source m (task_at m e.place) e.place e.port e.index

-- p has its value from q, by following or by a copy
pub data TakesFrom (m : Model) (p q : Element) : Type 0 where
  following : Follows m p q → TakesFrom m p q
  copying : CopiedElement m p q → TakesFrom m p q

-- the look-up finds what the equations say
pub record SourcesAreFound (m : Model) : Type 0 where
  pub some : (p q : Element) → TakesFrom m p q → source_at m p ≡ Some q
  pub main_input : (p : Element) → MainInput m p → source_at m p ≡ None
  pub computed : (p : Element) → ElementaryOutput m p → source_at m p ≡ None
  pub number : (p : Element) (n : ℤ) → DefaultNumber m p n → source_at m p ≡ None

-- so it is in a sound model where nothing is written twice: each element has one equation
abbrev pub SoundSourcesAreFound : Type 0
SoundSourcesAreFound = (m : Model) → IsSound m → IsSingleAssignment m → SourcesAreFound m

-- and what it finds is what the equations say
abbrev pub SourcesAreRight : Type 0
SourcesAreRight = (m : Model) → IsSound m → (p q : Element) → IsElement m p → source_at m p ≡ Some q → TakesFrom m p q
