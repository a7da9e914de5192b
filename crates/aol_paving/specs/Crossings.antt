-- Ports that lead through two levels of repetition.
use Rattle.std.specs.Prelude.{ℕ, List, ◌++◌, filter_map, take, drop, length, Option, option_map, option_and_then}
use Rattle.aol_tiler.specs.Matrices.{TilerOf}
use Rattle.aol_tiler.specs.Tiler.{composed, blocked}
use Rattle.aol_expr_tree.specs.declared.port.Port.{Port}
use Rattle.aol_model_types.specs.declared.document.Model.{Model}
use Rattle.aol_model_types.specs.declared.task.Repeated.{Repeated}
use Rattle.aol_model_types.specs.declared.task.TilerOn.{TilerOn}
use Rattle.aol_model_types.specs.Rules.{inputs_named, outputs_named}
use Rattle.aol_flat.specs.Home.{tiler_at}
use Rattle.aol_paving.specs.declared.crossing.Crossing.{Crossing}

-- a port of the innermost task, with the tilers on the way to it through the outer repetition t and the inner one u
abbrev pub crossing_of : Repeated → Repeated → Port → Option Crossing
crossing_of t u port =
    option_and_then (λ (inner : TilerOn). option_map (λ (outer : TilerOn). record { port = port; outer = outer; inner = inner }) (tiler_at t inner.outer)) (tiler_at u port.name)

-- those of these ports that have tilers at both levels, in order
abbrev pub crossings : Repeated → Repeated → List Port → List Crossing
crossings t u ports = filter_map (crossing_of t u) ports

-- the ways to the innermost inputs
abbrev pub input_crossings : Model → Repeated → Repeated → List Crossing
input_crossings m t u = crossings t u (inputs_named m.tasks u.task)

-- the ways to the innermost outputs
abbrev pub output_crossings : Model → Repeated → Repeated → List Crossing
output_crossings m t u = crossings t u (outputs_named m.tasks u.task)

-- so many paving columns stay, and the others become the first fitting columns
abbrev pub with_pattern : ℕ → TilerOf → TilerOf
with_pattern n t = record { origin = t.origin; paving = take n t.paving; fitting = drop n t.paving ++ t.fitting }

-- both tilers as one, which has the repetitions of the inner level in its pattern
abbrev pub crossing_tiler : List ℕ → Crossing → TilerOf
crossing_tiler block c = with_pattern (length block) (composed c.outer.tiler c.inner.tiler)

-- the same in blocks of the outer level
abbrev pub crossed_tiler : List ℕ → Crossing → TilerOf
crossed_tiler block c = blocked (crossing_tiler block c) block
