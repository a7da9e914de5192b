-- The ports of a fusion's tasks, and their names.
use Rattle.std.specs.Prelude.{ℕ, ◌+◌, not, is_some, List, [], ◌∷◌, ◌++◌, filter, codes, decimal}
use Rattle.std.specs.List.{position_or_len}
use Rattle.aol_shape.specs.Lists.{same}
use Rattle.aol_expr_tree.specs.declared.port.Port.{Port}
use Rattle.aol_model_types.specs.declared.job.FuseArgs.{FuseArgs}
use Rattle.aol_model_types.specs.declared.job.Pick.{Pick}
use Rattle.aol_model_types.specs.declared.task.Compound.{Compound}
use Rattle.aol_model_types.specs.declared.task.Repeated.{Repeated}
use Rattle.aol_flat.specs.Home.{tiler_at}
use Rattle.aol_change.specs.declared.tasks.Side.{Side}
use Rattle.aol_change.specs.declared.tasks.Side.TheVariants.{Inputs, Outputs}
use Rattle.aol_fusion_parts.specs.Joined.{is_joined, is_picked, is_source}

-- ---- names

-- the name of the input or output of this number
abbrev pub port_name : Side → ℕ → List ℕ
port_name Inputs k = codes "i" ++ decimal k
port_name Outputs k = codes "o" ++ decimal k

-- ports with such names, the first of this number
abbrev pub renamed : Side → ℕ → List Port → List Port
renamed side k [] = []
renamed side k (p ∷ ports) = record { name = port_name side k; shape = p.shape } ∷ renamed side (k + 1) ports

-- the number of the first port of this name
abbrev pub port_number : List Port → List ℕ → ℕ
port_number ports name = position_or_len (λ (p : Port). same p.name name) ports

-- the new name of a port that is one of these, behind so many others
abbrev pub name_among : Side → ℕ → List Port → List ℕ → List ℕ
name_among side before ports name = port_name side (before + port_number ports name)

-- ---- which ports

-- the outputs of the first inner task that a pick is from
abbrev pub sources : List Pick → List Port → List Port
sources picks outs = filter (λ (u : Port). is_source picks u.name) outs

-- the inner outputs of a repetition that have a tiler
abbrev pub tiled_ports : Repeated → List Port → List Port
tiled_ports two outs = filter (λ (v : Port). is_some (tiler_at two v.name)) outs

-- the inner inputs of the second repetition that are picked
abbrev pub picked_ports : FuseArgs → Compound → Repeated → List Port → List Port
picked_ports args c two ins = filter (λ (v : Port). is_picked args c two v.name) ins

-- the others
abbrev pub unpicked_ports : FuseArgs → Compound → Repeated → List Port → List Port
unpicked_ports args c two ins = filter (λ (v : Port). not (is_picked args c two v.name)) ins

-- the inputs of the second repetition that aren't joined
abbrev pub unjoined_ports : FuseArgs → Compound → List Port → List Port
unjoined_ports args c ins = filter (λ (x : Port). not (is_joined args c x.name)) ins
