-- The rules on shapes and names that a model keeps, and the first place at which one fails.
use Rattle.std.specs.Prelude.{◌≡◌, ℕ, ◌+◌, List, [], ◌∷◌, ◌++◌, map, length, count_by, Bool, true, false, not, ◌&&◌, ◌||◌, ◌==◌, nat_le, Option, Some, None, is_some, is_none, option_and_then, option_map, unwrap_or}
use Rattle.std.specs.List.{list_all, list_any, find}
use Rattle.aol_shape.specs.Lists.{same}
use Rattle.aol_tiler.specs.Matrices.{TilerOf}
use Rattle.aol_tiler.specs.Tiler.{fits}
use Rattle.aol_expr_tree.specs.declared.port.Port.{Port}
use Rattle.aol_expr_tree.specs.Names.{names_ok}
use Rattle.aol_link.specs.declared.link.Interlink.{Interlink}
use Rattle.aol_link.specs.declared.link.Choice.{Choice}
use Rattle.aol_link.specs.declared.link.Fallback.{Fallback}
use Rattle.aol_link.specs.declared.link.Fallback.TheVariants.{Number, Tiled}
use Rattle.aol_link.specs.Links.{is_always, is_below}
use Rattle.aol_model_types.specs.declared.place.Key.TheVariants.{KTasks, KMain, KName, KIn, KOut, KExpr, KParts, KLinks, KReshapes, KTask, KFrom, KTo, KSource, KTarget, KTilers, KTiler, KDistance, KDefault, KModel}
use Rattle.aol_model_types.specs.declared.place.PlaceStep.{PlaceStep}
use Rattle.aol_model_types.specs.declared.task.OutPort.{OutPort}
use Rattle.aol_model_types.specs.declared.task.Elementary.{Elementary}
use Rattle.aol_model_types.specs.declared.task.Part.{Part}
use Rattle.aol_model_types.specs.declared.task.Hook.{Hook}
use Rattle.aol_model_types.specs.declared.task.Plain.{Plain}
use Rattle.aol_model_types.specs.declared.task.Copied.{Copied}
use Rattle.aol_model_types.specs.declared.task.Compound.{Compound}
use Rattle.aol_model_types.specs.declared.task.TilerOn.{TilerOn}
use Rattle.aol_model_types.specs.declared.task.Repeated.{Repeated}
use Rattle.aol_model_types.specs.declared.task.Task.{Task}
use Rattle.aol_model_types.specs.declared.task.Task.TheVariants as tasks
use Rattle.aol_model_types.specs.declared.document.Model.{Model}
use Rattle.aol_model_types.specs.declared.document.Misfit.{Misfit}
use Rattle.aol_model_types.specs.declared.rules.TheConstants.{TASK_NAMES_DIFFER, PORT_NAMES_DIFFER, EXPRESSION_NAMES_ARE_THERE, PART_NAMES_DIFFER, PART_TASK_IS_EARLIER, LINK_FROM_GIVES, LINK_TO_TAKES, LINK_MEETS_A_PART, LINK_SHAPES_ARE_EQUAL, OUTPUT_IS_HANDED_UP_ONCE, RESHAPE_TILER_FITS, PART_INPUTS_ARE_FED, OWN_OUTPUT_IS_FED, REPEATED_TASK_IS_EARLIER, TILER_IS_ON_PORTS, TILER_FITS, INNER_OUTPUT_IS_TILED_ONCE, INTERLINK_JOINS_INNER_PORTS, DISTANCE_SPANS_SPACE, DEFAULT_FITS, INNER_INPUTS_ARE_FED, OWN_OUTPUT_IS_TILED, MAIN_IS_A_TASK, LAST_CHOICE_IS_ALWAYS, CHOICE_DIMENSION_IS_IN_SPACE}
use Rattle.aol_model_types.specs.Places.{to_key, to_index, whole}

-- ---- tasks and their ports

-- the name of a task
abbrev pub task_name : Task → List ℕ
task_name (tasks.Elementary e) = e.name
task_name (tasks.Compound c) = c.name
task_name (tasks.Repeated r) = r.name

-- the inputs of a task
abbrev pub inputs_of : Task → List Port
inputs_of (tasks.Elementary e) = e.ins
inputs_of (tasks.Compound c) = c.ins
inputs_of (tasks.Repeated r) = r.ins

-- the outputs of a task
abbrev pub outputs_of : Task → List Port
outputs_of (tasks.Elementary e) = map (λ o. o.port) e.outs
outputs_of (tasks.Compound c) = c.outs
outputs_of (tasks.Repeated r) = r.outs

-- the task of this name
abbrev pub task_named : List Task → List ℕ → Option Task
task_named ts name = find (λ t. same (task_name t) name) ts

-- the shape of the port of this name
abbrev pub port_shape : List Port → List ℕ → Option (List ℕ)
port_shape ps name = option_map (λ p. p.shape) (find (λ p. same p.name name) ps)

-- the inputs and the outputs of the task of this name
abbrev pub inputs_named : List Task → List ℕ → List Port
inputs_named ts name = unwrap_or (option_map inputs_of (task_named ts name)) []

-- the outputs of the task of this name
abbrev pub outputs_named : List Task → List ℕ → List Port
outputs_named ts name = unwrap_or (option_map outputs_of (task_named ts name)) []

-- two shapes that are there, and equal
abbrev pub same_shapes : Option (List ℕ) → Option (List ℕ) → Bool
same_shapes (Some s) (Some t) = same s t
same_shapes _ _ = false

-- the tiler fits an array that is there
abbrev pub fits_in : TilerOf → Option (List ℕ) → List ℕ → Option (List ℕ) → Bool
fits_in t (Some array) space (Some pattern) = fits t array space pattern
fits_in t _ space _ = false

-- ---- ends in a compound

-- both ends are at one part, or both are own
abbrev pub same_part : Option (List ℕ) → Option (List ℕ) → Bool
same_part None None = true
same_part (Some x) (Some y) = same x y
same_part _ _ = false

-- two ends are the same
abbrev pub same_hook : Hook → Hook → Bool
same_hook h k = same_part h.part k.part && same h.port k.port

-- the part of this name
abbrev pub part_named : Compound → List ℕ → Option Part
part_named c name = find (λ p. same p.name name) c.parts

-- the shape of what an end gives: an own input, or an output of a part
abbrev pub from_shape : List Task → Compound → Hook → Option (List ℕ)
from_shape ts c h = by_part h.part
  where
    by_part : Option (List ℕ) → Option (List ℕ)
    by_part None = port_shape c.ins h.port
    by_part (Some name) = option_and_then (λ p. port_shape (outputs_named ts p.task) h.port) (part_named c name)

-- the shape of what an end takes: an own output, or an input of a part
abbrev pub to_shape : List Task → Compound → Hook → Option (List ℕ)
to_shape ts c h = by_part h.part
  where
    by_part : Option (List ℕ) → Option (List ℕ)
    by_part None = port_shape c.outs h.port
    by_part (Some name) = option_and_then (λ p. port_shape (inputs_named ts p.task) h.port) (part_named c name)

-- an end of a link is fed by one plain link alone, or by reshapes alone
abbrev pub is_fed : Compound → Hook → Bool
is_fed c h =
    let links = count_by (λ l. same_hook l.to h) c.links in
    let reshapes = count_by (λ l. same_hook l.to h) c.reshapes in
    (links == 1 && reshapes == 0) || (links == 0 && nat_le 1 reshapes)

-- ---- the rules; `earlier` are the members before this one in its list

-- rule 1: no earlier task has the name
abbrev pub is_new_task : List Task → Task → Bool
is_new_task earlier t = is_none (task_named earlier (task_name t))

-- rule 2: no earlier port of the task has the name, inputs before outputs
abbrev pub is_new_port : List Port → Port → Bool
is_new_port earlier p = is_none (port_shape earlier p.name)

-- rule 3: the names in the expression are there
abbrev pub has_names : Elementary → OutPort → Bool
has_names e o = names_ok e.ins (length o.port.shape) o.expr

-- rule 4: no earlier part has the name
abbrev pub is_new_part : List Part → Part → Bool
is_new_part earlier p = not (list_any (λ q. same q.name p.name) earlier)

-- rules 5 and 14: the name is that of an earlier task
abbrev pub is_earlier_task : List Task → List ℕ → Bool
is_earlier_task earlier name = is_some (task_named earlier name)

-- rule 6: an own input, or an output of a part
abbrev pub gives : List Task → Compound → Hook → Bool
gives ts c h = is_some (from_shape ts c h)

-- rule 7: an own output, or an input of a part
abbrev pub takes : List Task → Compound → Hook → Bool
takes ts c h = is_some (to_shape ts c h)

-- rule 8: not from an own input to an own output
abbrev pub meets_part : Plain → Bool
meets_part l = is_some l.from.part || is_some l.to.part

-- rule 9: both shapes are equal
abbrev pub joins_equal : List Task → Compound → Plain → Bool
joins_equal ts c l = same_shapes (from_shape ts c l.from) (to_shape ts c l.to)

-- a link from a part's output to an own output
abbrev pub hands_up : Plain → Bool
hands_up l = is_some l.from.part && is_none l.to.part

-- rule 10: no earlier link hands the same output up
abbrev pub hands_up_once : List Plain → Plain → Bool
hands_up_once earlier l = not (hands_up l) || not (list_any (λ k. hands_up k && same_hook k.from l.from) earlier)

-- rule 11: the source tiler fits the shape of `from`, the target tiler that of `to`
abbrev pub source_fits : List Task → Compound → Copied → Bool
source_fits ts c l = fits_in l.by.source (from_shape ts c l.from) l.by.space (Some l.by.pattern)

-- rule 11: the target tiler fits the shape of `to`
abbrev pub target_fits : List Task → Compound → Copied → Bool
target_fits ts c l = fits_in l.by.target (to_shape ts c l.to) l.by.space (Some l.by.pattern)

-- rule 12: each input of the part is fed
abbrev pub part_is_fed : List Task → Compound → Part → Bool
part_is_fed ts c p = list_all (λ u. is_fed c (record { part = Some p.name; port = u.name })) (inputs_named ts p.task)

-- rule 13: the own output is fed
abbrev pub output_is_fed : Compound → Port → Bool
output_is_fed c p = is_fed c (record { part = None; port = p.name })

-- rule 15: an outer input and an inner input, or an outer output and an inner output
abbrev pub is_on_ports : List Task → Repeated → TilerOn → Bool
is_on_ports ts r t = (is_some (port_shape r.ins t.outer) && is_some (port_shape (inputs_named ts r.task) t.inner))
    || (is_some (port_shape r.outs t.outer) && is_some (port_shape (outputs_named ts r.task) t.inner))

-- rule 16: the tiler fits the outer shape, the space and the inner shape
abbrev pub tiler_fits : List Task → Repeated → TilerOn → Bool
tiler_fits ts r t = fits_in t.tiler (port_shape (r.ins ++ r.outs) t.outer) r.space (port_shape (inputs_named ts r.task ++ outputs_named ts r.task) t.inner)

-- rule 17: on an inner output, no earlier tiler is on that output
abbrev pub tiles_output_once : List Task → Repeated → List TilerOn → TilerOn → Bool
tiles_output_once ts r earlier t = is_none (port_shape (outputs_named ts r.task) t.inner) || not (list_any (λ e. same e.inner t.inner) earlier)

-- rule 18: from an inner output to an inner input of equal shape
abbrev pub links_inner : List Task → Repeated → Interlink → Bool
links_inner ts r l = same_shapes (port_shape (outputs_named ts r.task) l.from) (port_shape (inputs_named ts r.task) l.to)

-- rule 19: as many entries as the space
abbrev pub spans_space : Repeated → Interlink → Bool
spans_space r l = length l.distance == length r.space

-- rule 20: a default on a tiler is on an outer input, which the tiler fits with the space and the shape of `to`
abbrev pub fallback_fits : List Task → Repeated → Interlink → Fallback → Bool
fallback_fits ts r l (Number z) = true
fallback_fits ts r l (Tiled outer tiler) = fits_in tiler (port_shape r.ins outer) r.space (port_shape (inputs_named ts r.task) l.to)

-- rule 20: each choice of a default fits
abbrev pub defaults_fit : List Task → Repeated → Interlink → Bool
defaults_fit ts r l = list_all (λ c. fallback_fits ts r l c.take) l.rest

-- the last choice and no other is for all repetitions
abbrev pub ends_with_always : List Choice → Bool
ends_with_always [] = false
ends_with_always (c ∷ []) = is_always c.when
ends_with_always (c ∷ d ∷ cs) = not (is_always c.when) && ends_with_always (d ∷ cs)

-- rule 24: where the link doesn't wrap, the last choice and no other is for all repetitions
abbrev pub has_last_resort : Interlink → Bool
has_last_resort l = l.wrap || ends_with_always l.rest

-- rule 25: each dimension is one of the space
abbrev pub has_dimensions : Repeated → Interlink → Bool
has_dimensions r l = list_all (λ c. is_below (length r.space) c.when) l.rest

-- rule 21: each inner input is fed by one tiler or link
abbrev pub inner_is_fed : Repeated → Port → Bool
inner_is_fed r u = count_by (λ t. same t.inner u.name) r.tilers + count_by (λ l. same l.to u.name) r.links == 1

-- rule 21: all inner inputs are fed
abbrev pub all_inner_fed : List Task → Repeated → Bool
all_inner_fed ts r = list_all (inner_is_fed r) (inputs_named ts r.task)

-- rule 22: a tiler is on the own output
abbrev pub is_tiled : Repeated → Port → Bool
is_tiled r y = list_any (λ t. same t.outer y.name) r.tilers

-- rule 23: main names a task
abbrev pub main_is_task : Model → Bool
main_is_task m = is_some (task_named m.tasks m.main)

-- ---- the walk

-- a rule at a place, and whether it holds there
pub record Check : Type 0 where
  pub steps : List PlaceStep
  pub rule : ℕ
  pub holds : Bool

-- a check
abbrev pub check : List PlaceStep → ℕ → Bool → Check
check steps rule holds = record { steps = steps; rule = rule; holds = holds }

-- the checks of each member of a list in order: its place, the members before it, and itself
abbrev pub each_from : {A : Type 0} → (List PlaceStep → List A → A → List Check) → List PlaceStep → ℕ → List A → List A → List Check
each_from f at k earlier [] = []
each_from f at k earlier (x ∷ xs) = f (to_index at k) earlier x ++ each_from f at (k + 1) (earlier ++ x ∷ []) xs

-- the checks of all members of a list
abbrev pub each : {A : Type 0} → (List PlaceStep → List A → A → List Check) → List PlaceStep → List A → List Check
each f at xs = each_from f at 0 [] xs

-- ports behind others
abbrev pub port_checks : List Port → List PlaceStep → List Port → Port → List Check
port_checks before at earlier p = check (to_key at KName) PORT_NAMES_DIFFER (is_new_port (before ++ earlier) p) ∷ []

-- an output port of an elementary task
abbrev pub output_checks : Elementary → List PlaceStep → List OutPort → OutPort → List Check
output_checks e at earlier o = check (to_key at KName) PORT_NAMES_DIFFER (is_new_port (e.ins ++ map (λ q. q.port) earlier) o.port) ∷ check (to_key at KExpr) EXPRESSION_NAMES_ARE_THERE (has_names e o) ∷ []

-- a task that computes
abbrev pub elementary_checks : List PlaceStep → Elementary → List Check
elementary_checks at e = each (port_checks []) (to_key at KIn) e.ins ++ each (output_checks e) (to_key at KOut) e.outs

-- a part
abbrev pub part_checks : List Task → List PlaceStep → List Part → Part → List Check
part_checks ts at earlier p = check (to_key at KName) PART_NAMES_DIFFER (is_new_part earlier p) ∷ check (to_key at KTask) PART_TASK_IS_EARLIER (is_earlier_task ts p.task) ∷ []

-- a plain link: its ends, and then itself
abbrev pub plain_checks : List Task → Compound → List PlaceStep → List Plain → Plain → List Check
plain_checks ts c at earlier l = check (to_key at KFrom) LINK_FROM_GIVES (gives ts c l.from) ∷ check (to_key at KTo) LINK_TO_TAKES (takes ts c l.to)
    ∷ check at LINK_MEETS_A_PART (meets_part l) ∷ check at LINK_SHAPES_ARE_EQUAL (joins_equal ts c l) ∷ check at OUTPUT_IS_HANDED_UP_ONCE (hands_up_once earlier l) ∷ []

-- a reshape
abbrev pub copied_checks : List Task → Compound → List PlaceStep → List Copied → Copied → List Check
copied_checks ts c at earlier l = check (to_key at KFrom) LINK_FROM_GIVES (gives ts c l.from) ∷ check (to_key at KTo) LINK_TO_TAKES (takes ts c l.to)
    ∷ check (to_key at KSource) RESHAPE_TILER_FITS (source_fits ts c l) ∷ check (to_key at KTarget) RESHAPE_TILER_FITS (target_fits ts c l) ∷ []

-- a graph of tasks, and at last its parts and outputs
abbrev pub compound_checks : List Task → List PlaceStep → Compound → List Check
compound_checks ts at c = each (port_checks []) (to_key at KIn) c.ins ++ each (port_checks c.ins) (to_key at KOut) c.outs
    ++ each (part_checks ts) (to_key at KParts) c.parts ++ each (plain_checks ts c) (to_key at KLinks) c.links ++ each (copied_checks ts c) (to_key at KReshapes) c.reshapes
    ++ each (λ place _ p. check place PART_INPUTS_ARE_FED (part_is_fed ts c p) ∷ []) (to_key at KParts) c.parts
    ++ each (λ place _ p. check place OWN_OUTPUT_IS_FED (output_is_fed c p) ∷ []) (to_key at KOut) c.outs

-- a tiler of a repetition
abbrev pub tiler_checks : List Task → Repeated → List PlaceStep → List TilerOn → TilerOn → List Check
tiler_checks ts r at earlier t = check at TILER_IS_ON_PORTS (is_on_ports ts r t) ∷ check at INNER_OUTPUT_IS_TILED_ONCE (tiles_output_once ts r earlier t) ∷ check (to_key at KTiler) TILER_FITS (tiler_fits ts r t) ∷ []

-- a link between repetitions
abbrev pub interlink_checks : List Task → Repeated → List PlaceStep → List Interlink → Interlink → List Check
interlink_checks ts r at earlier l = check at INTERLINK_JOINS_INNER_PORTS (links_inner ts r l) ∷ check (to_key at KDistance) DISTANCE_SPANS_SPACE (spans_space r l)
    ∷ check (to_key at KDefault) DEFAULT_FITS (defaults_fit ts r l) ∷ check (to_key at KDefault) LAST_CHOICE_IS_ALWAYS (has_last_resort l) ∷ check (to_key at KDefault) CHOICE_DIMENSION_IS_IN_SPACE (has_dimensions r l) ∷ []

-- a repetition, and at last its inner inputs and outputs
abbrev pub repeated_checks : List Task → List PlaceStep → Repeated → List Check
repeated_checks ts at r = each (port_checks []) (to_key at KIn) r.ins ++ each (port_checks r.ins) (to_key at KOut) r.outs
    ++ check (to_key at KTask) REPEATED_TASK_IS_EARLIER (is_earlier_task ts r.task) ∷ each (tiler_checks ts r) (to_key at KTilers) r.tilers ++ each (interlink_checks ts r) (to_key at KLinks) r.links
    ++ check (to_key at KTask) INNER_INPUTS_ARE_FED (all_inner_fed ts r) ∷ each (λ place _ y. check place OWN_OUTPUT_IS_TILED (is_tiled r y) ∷ []) (to_key at KOut) r.outs

-- a task by its kind
abbrev pub kind_checks : List Task → List PlaceStep → Task → List Check
kind_checks ts at (tasks.Elementary e) = elementary_checks at e
kind_checks ts at (tasks.Compound c) = compound_checks ts at c
kind_checks ts at (tasks.Repeated r) = repeated_checks ts at r

-- a task behind the earlier ones
abbrev pub task_checks : List PlaceStep → List Task → Task → List Check
task_checks at earlier t = check (to_key at KName) TASK_NAMES_DIFFER (is_new_task earlier t) ∷ kind_checks earlier at t

-- all checks of a model, in the order of the walk
abbrev pub checks : Model → List Check
checks m = each task_checks (to_key (to_key [] KModel) KTasks) m.tasks ++ check (to_key (to_key [] KModel) KMain) MAIN_IS_A_TASK (main_is_task m) ∷ []

-- each rule holds at each place
abbrev pub ShapesAgree : Model → Type 0
ShapesAgree m = list_all (λ c. c.holds) (checks m) ≡ true

-- the first check that fails
abbrev pub first_misfit : Model → Option Misfit
first_misfit m = option_map (λ c. record { place = whole c.steps; rule = c.rule }) (find (λ c. not c.holds) (checks m))
