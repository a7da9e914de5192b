-- What a part of the walk over the rules answers.
use Rattle.std.specs.Prelude.{◌≡◌, ℕ, List, [], ◌∷◌, ◌++◌, Option, Some, None, Result, Ok, Err, if◌then◌else◌}
use Rattle.aol_model_types.specs.declared.place.PlaceStep.{PlaceStep}
use Rattle.aol_model_types.specs.declared.place.Key.TheVariants.{KIn, KOut, KParts, KLinks, KReshapes, KTask, KTilers}
use Rattle.aol_model_types.specs.declared.document.Misfit.{Misfit}
use Rattle.aol_expr_tree.specs.declared.port.Port.{Port}
use Rattle.aol_model_types.specs.declared.task.Part.{Part}
use Rattle.aol_model_types.specs.declared.task.Compound.{Compound}
use Rattle.aol_model_types.specs.declared.task.Repeated.{Repeated}
use Rattle.aol_model_types.specs.declared.task.Task.{Task}
use Rattle.aol_model_types.specs.Places.{to_key, whole}
use Rattle.aol_model_types.specs.Rules.{Check, check, each, port_checks, part_checks, plain_checks, copied_checks, tiler_checks, interlink_checks, is_earlier_task, part_is_fed, output_is_fed, all_inner_fed, is_tiled}

-- a rule fails at a place
abbrev pub misfit : List PlaceStep → ℕ → Misfit
misfit at rule = record { place = whole at; rule = rule }

-- the first check that fails
abbrev pub first_failing : List Check → Option Misfit
first_failing [] = None
first_failing (c ∷ cs) = if c.holds then first_failing cs else Some (misfit c.steps c.rule)

-- the answer is the first check that fails, where one fails
abbrev pub Tells : {A : Type 0} → Result A Misfit → List Check → Type 0
Tells (Ok _) cs = first_failing cs ≡ None
Tells (Err m) cs = first_failing cs ≡ Some m

-- the ports and the parts of a compound
abbrev pub part_list_checks : List Task → List PlaceStep → Compound → List Check
part_list_checks ts at c = each (port_checks []) (to_key at KIn) c.ins ++ each (port_checks c.ins) (to_key at KOut) c.outs ++ each (part_checks ts) (to_key at KParts) c.parts

-- all members of a compound
abbrev pub member_checks : List Task → List PlaceStep → Compound → List Check
member_checks ts at c = part_list_checks ts at c ++ each (plain_checks ts c) (to_key at KLinks) c.links ++ each (copied_checks ts c) (to_key at KReshapes) c.reshapes

-- the ports, the task and the tilers of a repetition
abbrev pub tiling_checks : List Task → List PlaceStep → Repeated → List Check
tiling_checks ts at r = each (port_checks []) (to_key at KIn) r.ins ++ each (port_checks r.ins) (to_key at KOut) r.outs
    ++ check (to_key at KTask) 14 (is_earlier_task ts r.task) ∷ each (tiler_checks ts r) (to_key at KTilers) r.tilers

-- what feeds a part
abbrev pub fed_part_checks : List Task → Compound → List PlaceStep → List Part → Part → List Check
fed_part_checks ts c place earlier p = check place 12 (part_is_fed ts c p) ∷ []

-- what feeds an own output
abbrev pub fed_output_checks : Compound → List PlaceStep → List Port → Port → List Check
fed_output_checks c place earlier p = check place 13 (output_is_fed c p) ∷ []

-- a compound
abbrev pub graph_checks : List Task → List PlaceStep → Compound → List Check
graph_checks ts at c = member_checks ts at c ++ each (fed_part_checks ts c) (to_key at KParts) c.parts ++ each (fed_output_checks c) (to_key at KOut) c.outs

-- what tiles an own output
abbrev pub tiled_checks : Repeated → List PlaceStep → List Port → Port → List Check
tiled_checks r place earlier y = check place 22 (is_tiled r y) ∷ []

-- a repetition
abbrev pub repetition_checks : List Task → List PlaceStep → Repeated → List Check
repetition_checks ts at r = tiling_checks ts at r ++ each (interlink_checks ts r) (to_key at KLinks) r.links
    ++ check (to_key at KTask) 21 (all_inner_fed ts r) ∷ each (tiled_checks r) (to_key at KOut) r.outs
