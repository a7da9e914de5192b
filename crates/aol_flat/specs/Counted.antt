-- The counts that are limited, after some nodes of a walk.
use Rattle.std.specs.Prelude.{◌≡◌, ℕ, ◌+◌, List, ◌∷◌, length, Option}
use Rattle.aol_shape.specs.declared.limit.LimitName.{LimitName}
use Rattle.aol_shape.specs.Shape.{size}
use Rattle.aol_model_types.specs.declared.task.Task.{Task}
use Rattle.aol_flat.specs.declared.counts.Counts.{Counts}
use Rattle.aol_flat.specs.Limits.{first_past, limit_at}
use Rattle.aol_flat.specs.Node.{Node, space_around}
use Rattle.aol_flat.specs.Saturated.{saturated}

-- the first limit that is passed from some counts on
abbrev pub first_after : Counts → List (Node × Task) → Option (Node × LimitName)
first_after counts nodes = first_past counts.nodes counts.walk counts.work nodes

-- the limit is that of a node with this task, depth and number of instances, and the new counts go on where there is none
abbrev pub IsCounted : Counts → Counts → Task → ℕ → ℕ → Option LimitName → Type 0
IsCounted old new t depth instances limit =
    (node : Node) (rest : List (Node × Task)) → length node + 1 ≡ depth → saturated (size (space_around node)) ≡ instances
    → first_after old ((node, t) ∷ rest) ≡ limit_at node limit (first_after new rest)
