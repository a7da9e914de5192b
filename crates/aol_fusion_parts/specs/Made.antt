-- Three new tasks of a fusion: a block of the first repetition, one run of the second, and both side by side.
use Rattle.std.specs.Prelude.{ℕ, ◌+◌, List, [], ◌∷◌, ◌++◌, map, flat_map, length, Option, Some, None, unwrap_or, codes}
use Rattle.aol_shape.specs.declared.limit.LimitName.{LimitName}
use Rattle.aol_shape.specs.Lists.{first_some, or_else}
use Rattle.aol_tiler.specs.Matrices.{TilerOf}
use Rattle.aol_tiler.specs.Tiler.{inner_of}
use Rattle.aol_expr_tree.specs.declared.port.Port.{Port}
use Rattle.aol_model_types.specs.declared.document.Model.{Model}
use Rattle.aol_model_types.specs.declared.job.Pick.{Pick}
use Rattle.aol_model_types.specs.declared.task.Compound.{Compound}
use Rattle.aol_model_types.specs.declared.task.Hook.{Hook}
use Rattle.aol_model_types.specs.declared.task.Plain.{Plain}
use Rattle.aol_model_types.specs.declared.task.Repeated.{Repeated}
use Rattle.aol_model_types.specs.declared.task.TilerOn.{TilerOn}
use Rattle.aol_model_types.specs.Rules.{port_shape}
use Rattle.aol_change.specs.declared.tasks.Side.TheVariants.{Inputs, Outputs}
use Rattle.aol_change.specs.Change.{new_name, name_limit, joined_limit, ports_limit}
use Rattle.aol_fusion_parts.specs.declared.ports.FusedNames.{FusedNames}
use Rattle.aol_fusion_parts.specs.Joined.{pick_to}
use Rattle.aol_fusion_parts.specs.Ports.{port_name, renamed}

-- ---- names

-- each is made from the compound's, one after another
abbrev pub fused_names : Model → List ℕ → FusedNames
fused_names m name =
    let block = new_name m [] name in
    let once = new_name m (block ∷ []) name in
    let pair = new_name m (block ∷ once ∷ []) name in
    record { block = block; once = once; pair = pair; whole = new_name m (block ∷ once ∷ pair ∷ []) name }

-- the four in a list
abbrev pub listed : FusedNames → List (List ℕ)
listed n = n.block ∷ n.once ∷ n.pair ∷ n.whole ∷ []

-- the first that is too long
abbrev pub names_limit : FusedNames → Option LimitName
names_limit n = or_else (name_limit n.block) (or_else (name_limit n.once) (or_else (name_limit n.pair) (name_limit n.whole)))

-- ---- a block of the first repetition

-- an inner port over a whole space
abbrev pub over_space : List ℕ → Port → Port
over_space space p = record { name = p.name; shape = space ++ p.shape }

-- the tiler from that to the inner port of each repetition
abbrev pub tiler_over_space : List ℕ → Port → TilerOn
tiler_over_space space p = record { outer = p.name; inner = p.name; tiler = inner_of space p.shape }

-- a repetition with these inner ports over a block, and their tilers
abbrev pub filled_block : List ℕ → List Port → List Port → Repeated → Repeated
filled_block block ins outs t =
    record t { ins = map (over_space block) ins; outs = map (over_space block) outs; tilers = map (tiler_over_space block) ins ++ map (tiler_over_space block) outs }

-- the repetition over one block
abbrev pub block_of_first : List ℕ → List ℕ → List ℕ → List Port → List Port → Repeated
block_of_first name block task ins outs = filled_block block ins outs (record { name = name; ins = []; outs = []; space = block; task = task; tilers = []; links = [] })

-- the first limit that these ports over a block pass
abbrev pub over_limit : List ℕ → List Port → Option LimitName
over_limit block ports = first_some (map (λ (p : Port). joined_limit block p.shape) ports)

-- the first limit of the repetition over one block
abbrev pub block_limit : List ℕ → List Port → List Port → Option LimitName
block_limit block ins outs = or_else (over_limit block ins) (or_else (over_limit block outs) (ports_limit (map (over_space block) ins) (map (over_space block) outs)))

-- ---- one run of the second repetition

-- the shape of the output that a pick is from
abbrev pub source_shape : List Port → Pick → List ℕ
source_shape outs p = unwrap_or (port_shape outs p.from) []

-- the shape of an input of the run: a block of the output that its pick is from, or else its own
abbrev pub once_shape : List ℕ → List Port → Option Pick → List ℕ → List ℕ
once_shape block outs (Some p) own = block ++ source_shape outs p
once_shape block outs None own = own

-- an input of the run
abbrev pub once_port : List ℕ → List Port → List Pick → Port → Port
once_port block outs picks v = record { name = v.name; shape = once_shape block outs (pick_to picks v.name) v.shape }

-- the tiler on it: that of its pick, or else the one that takes all
abbrev pub once_tiling : Option Pick → List ℕ → TilerOf
once_tiling (Some p) own = p.tiler
once_tiling None own = inner_of [] own

-- with its ports
abbrev pub once_tiler : List Pick → Port → TilerOn
once_tiler picks v = record { outer = v.name; inner = v.name; tiler = once_tiling (pick_to picks v.name) v.shape }

-- a repetition with such inputs and with these outputs as they are
abbrev pub filled_once : List ℕ → List Port → List Pick → List Port → List Port → Repeated → Repeated
filled_once block sources picks ins outs t =
    record t { ins = map (once_port block sources picks) ins; outs = outs; tilers = map (once_tiler picks) ins ++ map (tiler_over_space []) outs }

-- one run
abbrev pub once_of_second : List ℕ → List ℕ → List ℕ → List Port → List Pick → List Port → List Port → Repeated
once_of_second name task block sources picks ins outs = filled_once block sources picks ins outs (record { name = name; ins = []; outs = []; space = []; task = task; tilers = []; links = [] })

-- the limit that an input of the run passes
abbrev pub once_port_limit : List ℕ → List Port → Option Pick → Option LimitName
once_port_limit block sources (Some p) = joined_limit block (source_shape sources p)
once_port_limit block sources None = None

-- the first limit of one run
abbrev pub once_limit : List ℕ → List Port → List Pick → List Port → List Port → Option LimitName
once_limit block sources picks ins outs =
    or_else (first_some (map (λ (v : Port). once_port_limit block sources (pick_to picks v.name)) ins)) (ports_limit (map (once_port block sources picks) ins) outs)

-- ---- both side by side

-- an own end
abbrev pub own_end : List ℕ → Hook
own_end port = record { part = None; port = port }

-- an end at a part
abbrev pub part_end : List ℕ → List ℕ → Hook
part_end part port = record { part = Some part; port = port }

-- links from own inputs, the first of this number, to ports of a part
abbrev pub links_in : List ℕ → ℕ → List Port → List Plain
links_in part k [] = []
links_in part k (p ∷ ports) = record { from = own_end (port_name Inputs k); to = part_end part p.name } ∷ links_in part (k + 1) ports

-- links from outputs of the run to own outputs, the first of this number
abbrev pub links_out : ℕ → List Port → List Plain
links_out k [] = []
links_out k (p ∷ ports) = record { from = part_end (codes "second") p.name; to = own_end (port_name Outputs k) } ∷ links_out (k + 1) ports

-- the link from the block to an input of the run, by its pick
abbrev pub pick_link : List ℕ → Option Pick → List Plain
pick_link name (Some p) = record { from = part_end (codes "first") p.from; to = part_end (codes "second") name } ∷ []
pick_link name None = []

-- those of all these inputs
abbrev pub pick_links : List Pick → List Port → List Plain
pick_links picks ins = flat_map (λ (v : Port). pick_link v.name (pick_to picks v.name)) ins

-- all links between the inputs of the block, those of the run that are picked and those that aren't, and its outputs
abbrev pub pair_links : List Pick → List Port → List Port → List Port → List Port → List Plain
pair_links picks block picked free outs = links_in (codes "first") 0 block ++ links_in (codes "second") (length block) free ++ pick_links picks picked ++ links_out 0 outs

-- a compound with the block and the run as parts, own ports for theirs, and the links
abbrev pub filled_pair : FusedNames → List Pick → List Port → List Port → List Port → List Port → Compound → Compound
filled_pair names picks block picked free outs c = record c {
  ins = renamed Inputs 0 (block ++ free);
  outs = renamed Outputs 0 outs;
  parts = record { name = codes "first"; task = names.block } ∷ record { name = codes "second"; task = names.once } ∷ [];
  links = pair_links picks block picked free outs;
}

-- the block and the run, side by side
abbrev pub pair_of_both : FusedNames → List Pick → List Port → List Port → List Port → List Port → Compound
pair_of_both names picks block picked free outs =
    filled_pair names picks block picked free outs (record { name = names.pair; ins = []; outs = []; parts = []; links = []; reshapes = [] })

-- its limit
abbrev pub pair_limit : List Port → List Port → List Port → Option LimitName
pair_limit block free outs = ports_limit (renamed Inputs 0 (block ++ free)) (renamed Outputs 0 outs)
