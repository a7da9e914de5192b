-- Where an element is stored. Following an input climbs the hierarchy; following an output upwards does too.
use Rattle.std.specs.Prelude.{ℕ, ℤ, Bool, false, ◌&&◌, ◌==◌, is_none, is_some, List, [], ◌∷◌, find, Option, Some, None, unwrap_or, slice_get, if◌then◌else◌}
use Rattle.aol_shape.specs.Lists.{same}
use Rattle.aol_tiler.specs.Tiler.{address_point}
use Rattle.aol_link.specs.declared.link.Choice.{Choice}
use Rattle.aol_link.specs.declared.link.Fallback.{Fallback}
use Rattle.aol_link.specs.declared.link.Fallback.TheVariants.{Number, Tiled}
use Rattle.aol_link.specs.declared.link.Interlink.{Interlink}
use Rattle.aol_link.specs.Links.{stepped_back, source_repetition, first_choice}
use Rattle.aol_model_types.specs.declared.document.Model.{Model}
use Rattle.aol_model_types.specs.declared.task.Compound.{Compound}
use Rattle.aol_model_types.specs.declared.task.Hook.{Hook}
use Rattle.aol_model_types.specs.declared.task.Plain.{Plain}
use Rattle.aol_model_types.specs.declared.task.Repeated.{Repeated}
use Rattle.aol_model_types.specs.declared.task.Task.{Task}
use Rattle.aol_model_types.specs.declared.task.Task.TheVariants as tasks
use Rattle.aol_model_types.specs.declared.task.TilerOn.{TilerOn}
use Rattle.aol_model_types.specs.Rules.{inputs_of, port_shape}
use Rattle.aol_flat.specs.Tasks.{part_number}
use Rattle.aol_flat.specs.Place.{Place, IntoPart, IntoRepetition, Element, task_at}

-- ---- the one link or tiler at a port

-- a link's end is this port of part k
abbrev pub is_part_end : Compound → ℕ → List ℕ → Hook → Bool
is_part_end c k port h = elim h.part [ None ↦ false | Some name ↦ (part_number c name == k) && same h.port port ]

-- the plain link into an input of part k
abbrev pub link_into_part : Compound → ℕ → List ℕ → Option Plain
link_into_part c k port = find (λ l. is_part_end c k port l.to) c.links

-- the plain link that hands an output of part k up
abbrev pub link_up : Compound → ℕ → List ℕ → Option Plain
link_up c k port = find (λ l. is_part_end c k port l.from && is_none l.to.part) c.links

-- the tiler at an inner port
abbrev pub tiler_at : Repeated → List ℕ → Option TilerOn
tiler_at t inner = find (λ (o : TilerOn). same o.inner inner) t.tilers

-- the link between repetitions into an inner input
abbrev pub link_into_repetition : Repeated → List ℕ → Option Interlink
link_into_repetition t inner = find (λ (l : Interlink). same l.to inner) t.links

-- the choice of a link's default that stands for a repetition outside the space
abbrev pub default_choice : Interlink → List ℕ → List ℕ → Option Choice
default_choice l space r = slice_get l.rest (first_choice l.rest space (stepped_back r l.distance))

-- ---- following an input

-- where following an input ends: at an element that is stored by itself, at an output, at a default number, or nowhere
pub data Origin : Type 0 where
  Stored : Element → Origin
  Output : Element → Origin
  Default : ℤ → Origin
  Unfed : Origin

-- a default is a number, or an element of an outer input, which leads where `outer` says
abbrev pub fallback_origin : Repeated → List ℕ → List ℕ → (List ℕ → List ℕ → Origin) → Fallback → Origin
fallback_origin t r x outer (Number n) = Default n
fallback_origin t r x outer (Tiled name tiler) = outer name (address_point tiler (unwrap_or (port_shape t.ins name) []) r x)

-- the same of the choice of a default, where there is one
abbrev pub choice_origin : Repeated → List ℕ → List ℕ → (List ℕ → List ℕ → Origin) → Option Choice → Origin
choice_origin t r x outer None = Unfed
choice_origin t r x outer (Some choice) = fallback_origin t r x outer choice.take

-- the source of a link between repetitions: a repetition of the space, or else its default
abbrev pub source_origin : Repeated → Place → List ℕ → List ℕ → (List ℕ → List ℕ → Origin) → Interlink → Option (List ℕ) → Origin
source_origin t up r x outer l (Some source) = Output (record { place = IntoRepetition source ∷ up; port = l.from; index = x })
source_origin t up r x outer l None = choice_origin t r x outer (default_choice l t.space r)

-- the same of the link into an inner input, where there is one
abbrev pub link_origin : Repeated → Place → List ℕ → List ℕ → (List ℕ → List ℕ → Origin) → Option Interlink → Origin
link_origin t up r x outer None = Unfed
link_origin t up r x outer (Some l) = source_origin t up r x outer l (source_repetition l.wrap l.distance t.space r)

-- an inner input takes from the tiler at it, or else from its link
abbrev pub tiled_origin : Repeated → Place → List ℕ → List ℕ → List ℕ → (List ℕ → List ℕ → Origin) → Option TilerOn → Origin
tiled_origin t up r u x outer (Some o) = outer o.outer (address_point o.tiler (unwrap_or (port_shape t.ins o.outer) []) r x)
tiled_origin t up r u x outer None = link_origin t up r x outer (link_into_repetition t u)

-- an input u of repetition r of the task at `up`, whose own inputs lead where `outer` says
abbrev pub repetition_origin : Option Task → Place → List ℕ → List ℕ → List ℕ → (List ℕ → List ℕ → Origin) → Origin
repetition_origin (Some (tasks.Repeated t)) up r u x outer = tiled_origin t up r u x outer (tiler_at t u)
repetition_origin _ up r u x outer = Unfed

-- where the end of a plain link leads: an own input on, an output of a part to itself
abbrev pub end_origin : Compound → Place → List ℕ → (List ℕ → List ℕ → Origin) → List ℕ → Option (List ℕ) → Origin
end_origin c up x outer port None = outer port x
end_origin c up x outer port (Some name) = Output (record { place = IntoPart (part_number c name) ∷ up; port = port; index = x })

-- the same of the link into an input of part k; where there is none, reshapes feed it
abbrev pub linked_origin : Compound → Place → ℕ → List ℕ → List ℕ → (List ℕ → List ℕ → Origin) → Option Plain → Origin
linked_origin c up k u x outer (Some l) = end_origin c up x outer l.from.port l.from.part
linked_origin c up k u x outer None = Stored (record { place = IntoPart k ∷ up; port = u; index = x })

-- an input u of part k of the task at `up`
abbrev pub part_origin : Option Task → Place → ℕ → List ℕ → List ℕ → (List ℕ → List ℕ → Origin) → Origin
part_origin (Some (tasks.Compound c)) up k u x outer = linked_origin c up k u x outer (link_into_part c k u)
part_origin _ up k u x outer = Unfed

-- where element x of an instance's input u leads
abbrev pub origin : Model → Place → List ℕ → List ℕ → Origin
origin m [] u x = Stored (record { place = []; port = u; index = x })
origin m (IntoPart k ∷ up) u x = part_origin (task_at m up) up k u x (origin m up)
origin m (IntoRepetition r ∷ up) u x = repetition_origin (task_at m up) up r u x (origin m up)

-- ---- following an output upwards

-- an element is handed on by the link that hands it up, if there is one
abbrev pub link_handed : Element → List ℕ → (List ℕ → List ℕ → Element) → Option Plain → Element
link_handed e x outer (Some l) = outer l.to.port x
link_handed e x outer None = e

-- or by the tiler that does
abbrev pub tiler_handed : Repeated → Element → List ℕ → List ℕ → (List ℕ → List ℕ → Element) → Option TilerOn → Element
tiler_handed t e r x outer (Some o) = outer o.outer (address_point o.tiler (unwrap_or (port_shape t.outs o.outer) []) r x)
tiler_handed t e r x outer None = e

-- an output y of part k, whose compound's own outputs are handed to what `outer` says
abbrev pub part_handed : Option Task → Place → ℕ → List ℕ → List ℕ → (List ℕ → List ℕ → Element) → Element
part_handed (Some (tasks.Compound c)) up k y x outer = link_handed (record { place = IntoPart k ∷ up; port = y; index = x }) x outer (link_up c k y)
part_handed _ up k y x outer = record { place = IntoPart k ∷ up; port = y; index = x }

-- an output y of repetition r
abbrev pub repetition_handed : Option Task → Place → List ℕ → List ℕ → List ℕ → (List ℕ → List ℕ → Element) → Element
repetition_handed (Some (tasks.Repeated t)) up r y x outer = tiler_handed t (record { place = IntoRepetition r ∷ up; port = y; index = x }) r x outer (tiler_at t y)
repetition_handed _ up r y x outer = record { place = IntoRepetition r ∷ up; port = y; index = x }

-- the output that is handed up nowhere, to which element x of an instance's output y is handed
abbrev pub handed : Model → Place → List ℕ → List ℕ → Element
handed m [] y x = record { place = []; port = y; index = x }
handed m (IntoPart k ∷ up) y x = part_handed (task_at m up) up k y x (handed m up)
handed m (IntoRepetition r ∷ up) y x = repetition_handed (task_at m up) up r y x (handed m up)

-- ---- homes

-- what stands for an element: a stored element, a default number, or nothing
pub data Home : Type 0 where
  Kept : Element → Home
  Constant : ℤ → Home
  NoHome : Home

-- the home of an input that leads there
abbrev pub origin_home : Model → Origin → Home
origin_home m (Stored e) = Kept e
origin_home m (Output e) = Kept (handed m e.place e.port e.index)
origin_home m (Default n) = Constant n
origin_home m Unfed = NoHome

-- the task has an input of this name
abbrev pub is_input_at : Option Task → List ℕ → Bool
is_input_at None u = false
is_input_at (Some t) u = is_some (port_shape (inputs_of t) u)

-- the home of an element
abbrev pub home_of : Model → Element → Home
home_of m e =
    if is_input_at (task_at m e.place) e.port then origin_home m (origin m e.place e.port e.index)
    else Kept (handed m e.place e.port e.index)
