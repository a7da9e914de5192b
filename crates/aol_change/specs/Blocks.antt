-- A repetition over one block of the space of another, which tiling and skewing make.
use Rattle.std.specs.Prelude.{◌≡◌, ℕ, ◌+◌, ◌≤◌, length, is_some, List, [], ◌∷◌, ◌++◌, map, filter, Option, option_map, unwrap_or, if◌then◌else◌}
use Rattle.aol_shape.specs.declared.limit.LimitName.{LimitName}
use Rattle.aol_shape.specs.Lists.{first_some, or_else}
use Rattle.aol_tiler.specs.Tiler.{inner_of}
use Rattle.aol_expr_tree.specs.declared.port.Port.{Port}
use Rattle.aol_model_types.specs.declared.document.Model.{Model}
use Rattle.aol_model_types.specs.declared.task.Repeated.{Repeated}
use Rattle.aol_model_types.specs.declared.task.TilerOn.{TilerOn}
use Rattle.aol_model_types.specs.declared.task.Task.{Task}
use Rattle.aol_model_types.specs.Rules.{inputs_of, outputs_of, task_named, port_shape}
use Rattle.aol_flat.specs.Place.{IntoRepetition}
use Rattle.aol_change.specs.declared.tasks.Side.{Side}
use Rattle.aol_change.specs.declared.tasks.Side.TheVariants.{Inputs, Outputs}
use Rattle.aol_change.specs.Change.{StepBack, is_named, joined_limit, ports_limit, new_name, unblocked}

-- ---- ports of a task that may be there

-- the inputs of a task, where it is there
abbrev pub inputs_in : Option Task → List Port
inputs_in t = unwrap_or (option_map inputs_of t) []

-- the outputs of a task, where it is there
abbrev pub outputs_in : Option Task → List Port
outputs_in t = unwrap_or (option_map outputs_of t) []

-- its inputs, or its outputs
abbrev pub ports_on : Side → Option Task → List Port
ports_on Inputs t = inputs_in t
ports_on Outputs t = outputs_in t

-- the shape of a port of it
abbrev pub shape_in : Option Task → List ℕ → List ℕ
shape_in t name = unwrap_or (port_shape (inputs_in t ++ outputs_in t) name) []

-- ---- one block

-- the tilers on these inner ports, in order
abbrev pub tilers_on : List Port → List TilerOn → List TilerOn
tilers_on ports tilers = filter (λ (o : TilerOn). is_some (port_shape ports o.inner)) tilers

-- a port of an inner task over the whole block
abbrev pub port_over : Option Task → List ℕ → List ℕ → Port
port_over inner block name = record { name = name; shape = block ++ shape_in inner name }

-- the tiler that leads from it to the inner port of each repetition
abbrev pub tiler_over : Option Task → List ℕ → List ℕ → TilerOn
tiler_over inner block name = record { outer = name; inner = name; tiler = inner_of block (shape_in inner name) }

-- the ports that these tilers give
abbrev pub ports_over : Option Task → List ℕ → List TilerOn → List Port
ports_over inner block tilers = map (λ (o : TilerOn). port_over inner block o.inner) tilers

-- a block and the inner port of a tiler have room in one shape
abbrev pub HasRoom : Option Task → List ℕ → TilerOn → Type 0
HasRoom inner block o = length block + length (shape_in inner o.inner) ≤ 12

-- the inner task of a repetition
abbrev pub inner_task : Model → Repeated → Option Task
inner_task m t = task_named m.tasks t.task

-- a repetition has neither ports nor tilers yet
pub record IsEmptyBlock (t : Repeated) : Type 0 where
  pub ins : t.ins ≡ []
  pub outs : t.outs ≡ []
  pub tilers : t.tilers ≡ []

-- it with the ports and tilers over a block that these tilers of another give
abbrev pub filled_block : Option Task → List TilerOn → List ℕ → Repeated → Repeated
filled_block inner tilers block t = record {
  name = t.name;
  ins = ports_over inner block (tilers_on (inputs_in inner) tilers);
  outs = ports_over inner block (tilers_on (outputs_in inner) tilers);
  space = t.space;
  task = t.task;
  tilers = map (λ (o : TilerOn). tiler_over inner block o.inner) tilers;
  links = t.links;
}

-- the repetition over one block
abbrev pub block_task : Model → Repeated → List ℕ → List ℕ → Repeated
block_task m t block name =
    filled_block (inner_task m t) t.tilers block (record { name = name; ins = []; outs = []; space = block; task = t.task; tilers = []; links = [] })

-- the name of the repetition over one block
abbrev pub block_name : Model → Repeated → List ℕ
block_name m t = new_name m [] t.name

-- ---- limits

-- the first limit that the shapes of the ports of these tilers pass
abbrev pub shapes_limit : Option Task → List ℕ → List TilerOn → Option LimitName
shapes_limit inner block tilers = first_some (map (λ (o : TilerOn). joined_limit block (shape_in inner o.inner)) tilers)

-- the first limit that the ports over a block pass: shapes of inputs, shapes of outputs, the number of ports
abbrev pub tilers_limit : Option Task → List TilerOn → List ℕ → Option LimitName
tilers_limit inner tilers block =
    let ins = tilers_on (inputs_in inner) tilers in
    let outs = tilers_on (outputs_in inner) tilers in
    or_else (shapes_limit inner block ins) (or_else (shapes_limit inner block outs) (ports_limit (ports_over inner block ins) (ports_over inner block outs)))

-- the first limit that the repetition over one block passes
abbrev pub block_limit : Model → Repeated → List ℕ → Option LimitName
block_limit m t block = tilers_limit (inner_task m t) t.tilers block

-- ---- the map

-- the two steps to a block and to a repetition in it were one step
abbrev pub untile : List ℕ → List ℕ → List ℕ → StepBack
untile name space block above (IntoRepetition i) (IntoRepetition r ∷ up) =
    if is_named above name then IntoRepetition (unblocked space block r i) ∷ up else IntoRepetition i ∷ IntoRepetition r ∷ up
untile name space block above d up = d ∷ up
