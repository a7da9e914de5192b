-- The fused repetition.
use Rattle.std.specs.Prelude.{ℕ, ◌+◌, List, [], ◌∷◌, ◌++◌, map, length, Option, Some, None}
use Rattle.aol_shape.specs.declared.limit.LimitName.{LimitName}
use Rattle.aol_shape.specs.Lists.{first_some, or_else}
use Rattle.aol_tiler.specs.Matrices.{TilerOf}
use Rattle.aol_tiler.specs.Tiler.{substituted}
use Rattle.aol_expr_tree.specs.declared.port.Port.{Port}
use Rattle.aol_model_types.specs.declared.task.Repeated.{Repeated}
use Rattle.aol_model_types.specs.declared.task.TilerOn.{TilerOn}
use Rattle.aol_flat.specs.Home.{tiler_at}
use Rattle.aol_change.specs.declared.tasks.Side.{Side}
use Rattle.aol_change.specs.declared.tasks.Side.TheVariants.{Inputs, Outputs}
use Rattle.aol_change.specs.Change.{ports_limit, tiler_limit}
use Rattle.aol_fusion_parts.specs.Ports.{port_name, renamed, name_among}

-- an old tiler on the new ports: outside by the old port's place among these, behind so many others, and inside with this number
abbrev pub moved_tiler : Side → ℕ → List Port → ℕ → Option TilerOn → List TilerOn
moved_tiler side before outer k (Some o) = record { outer = name_among side before outer o.outer; inner = port_name side k; tiler = o.tiler } ∷ []
moved_tiler side before outer k None = []

-- the tilers of a repetition on these inner ports, the first with this number
abbrev pub moved_tilers : Repeated → Side → ℕ → List Port → ℕ → List Port → List TilerOn
moved_tilers t side before outer k [] = []
moved_tilers t side before outer k (p ∷ ports) = moved_tiler side before outer k (tiler_at t p.name) ++ moved_tilers t side before outer (k + 1) ports

-- an old tiler of the first repetition on the new ports, at the repetitions that the proposed tiler gives
abbrev pub placed_tiler : TilerOf → List Port → ℕ → Option TilerOn → List TilerOn
placed_tiler by outer k (Some o) = record { outer = name_among Inputs 0 outer o.outer; inner = port_name Inputs k; tiler = substituted o.tiler by } ∷ []
placed_tiler by outer k None = []

-- those on its inner inputs, the first with this number
abbrev pub placed_tilers : Repeated → TilerOf → ℕ → List Port → List TilerOn
placed_tilers t by k [] = []
placed_tilers t by k (p ∷ ports) = placed_tiler by t.ins k (tiler_at t p.name) ++ placed_tilers t by (k + 1) ports

-- all tilers: on the inner inputs of the first repetition, on those of the second that aren't picked, and on its inner outputs
abbrev pub whole_tilers : Repeated → Repeated → TilerOf → List Port → List Port → List Port → List Port → List TilerOn
whole_tilers one two by unjoined block free outs =
    placed_tilers one by 0 block ++ moved_tilers two Inputs (length one.ins) unjoined (length block) free ++ moved_tilers two Outputs 0 two.outs 0 outs

-- a repetition with the inputs of the first one and those of the second that aren't joined, the outputs of the second, and these tilers
abbrev pub filled_whole : Repeated → Repeated → TilerOf → List Port → List Port → List Port → List Port → Repeated → Repeated
filled_whole one two by unjoined block free outs t =
    record t { ins = renamed Inputs 0 (one.ins ++ unjoined); outs = renamed Outputs 0 two.outs; tilers = whole_tilers one two by unjoined block free outs }

-- the fused repetition
abbrev pub fused_repetition : List ℕ → List ℕ → Repeated → Repeated → TilerOf → List Port → List Port → List Port → List Port → Repeated
fused_repetition name pair one two by unjoined block free outs =
    filled_whole one two by unjoined block free outs (record { name = name; ins = []; outs = []; space = two.space; task = pair; tilers = []; links = [] })

-- the limit that the tiler passes, where there is one
abbrev pub placed_limit : TilerOf → Option TilerOn → Option LimitName
placed_limit by (Some o) = tiler_limit (substituted o.tiler by)
placed_limit by None = None

-- the first limit that those on the inner inputs pass
abbrev pub all_placed_limit : Repeated → TilerOf → List Port → Option LimitName
all_placed_limit t by ports = first_some (map (λ (p : Port). placed_limit by (tiler_at t p.name)) ports)

-- the first limit of the fused repetition
abbrev pub whole_limit : Repeated → Repeated → TilerOf → List Port → List Port → Option LimitName
whole_limit one two by unjoined block = or_else (ports_limit (renamed Inputs 0 (one.ins ++ unjoined)) (renamed Outputs 0 two.outs)) (all_placed_limit one by block)
