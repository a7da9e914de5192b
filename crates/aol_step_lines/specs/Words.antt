-- The words for why a step isn't kept.
use Rattle.std.specs.Prelude.{ℕ, ◌-◌, nat_lt, List, [], ◌∷◌, option_map, unwrap_or, codes, if◌then◌else◌}
use Rattle.std.specs.Fmt.{signed_decimal}
use Rattle.aol_shape.specs.Shape.{size}
use Rattle.aol_model_types.specs.declared.document.Model.{Model}
use Rattle.aol_model_types.specs.Places.{limit_text}
use Rattle.aol_model_types.specs.Rules.{outputs_of}
use Rattle.aol_flat.specs.Instance.{Leaf, leaves}
use Rattle.aol_flat.specs.Node.{node_task}
use Rattle.aol_flat.specs.Tasks.{main_inputs}
use Rattle.aol_flat.specs.declared.view.End.{End}
use Rattle.aol_flat.specs.declared.view.End.TheVariants.{Input, Const, Made}
use Rattle.aol_change.specs.declared.refused.StepRefused.{StepRefused}
use Rattle.aol_change.specs.declared.refused.StepRefused.TheVariants.{NotRepeated, NotTwoLevels, NotJoined, HasLinks, Rank, Limit, NoMemory}
use Rattle.aol_lines.specs.Instance.{instance_text}
use Rattle.aol_lines.specs.Refused.{port_words}

-- why a step makes no model; want of memory has no words
abbrev pub why_words : StepRefused → List (List ℕ)
why_words NotRepeated = codes "not-repeated" ∷ []
why_words NotTwoLevels = codes "not-two-levels" ∷ []
why_words NotJoined = codes "not-joined" ∷ []
why_words HasLinks = codes "has-links" ∷ []
why_words Rank = codes "rank" ∷ []
why_words (Limit name) = codes "limit" ∷ limit_text name ∷ []
why_words NoMemory = []

-- an element of an output of the instance with this number among those of some leaves: the port's name and the point
abbrev pub output_among : Model → List Leaf → ℕ → ℕ → ℕ → List (List ℕ)
output_among m [] j k x = []
output_among m (l ∷ ls) j k x = if nat_lt j (size l.space) then port_words (unwrap_or (option_map outputs_of (node_task m l.node)) []) k x else output_among m ls (j - size l.space) k x

-- where a read ends: at a main input, at a number, or at an output of an instance
abbrev pub end_words : Model → End → List (List ℕ)
end_words m (Input port x) = codes "input" ∷ port_words (main_inputs m) port x
end_words m (Const n) = codes "constant" ∷ signed_decimal n ∷ []
end_words m (Made j port x) = instance_text m j ∷ output_among m (leaves m) j port x
