-- What the types of a model and of a job guarantee: limits, one width for each port, and lists that a u32 counts.
use Rattle.std.specs.Prelude.{◌≡◌, ◌<◌, ◌≤◌, ◌^◌, ℕ, List, ◌∷◌, [], ◌++◌, map, length, true}
use Rattle.std.specs.List.{AllByRecursion, list_all, flat_map}
use Rattle.aol_shape.specs.Numbers.{fits_64}
use Rattle.aol_shape.specs.Shape.{IsShape}
use Rattle.aol_shape.specs.Texts.{is_name}
use Rattle.aol_tiler.specs.Tiler.{IsTiler}
use Rattle.aol_expr_tree.specs.declared.port.Port.{Port}
use Rattle.aol_expr_tree.specs.Tree.{IsExpr}
use Rattle.aol_reshape.specs.Copies.{IsReshape}
use Rattle.aol_link.specs.Types.{IsInterlink}
use Rattle.aol_model_types.specs.declared.task.OutPort.{OutPort}
use Rattle.aol_model_types.specs.declared.task.Elementary.{Elementary}
use Rattle.aol_model_types.specs.declared.task.Copied.{Copied}
use Rattle.aol_model_types.specs.declared.task.Compound.{Compound}
use Rattle.aol_model_types.specs.declared.task.TilerOn.{TilerOn}
use Rattle.aol_model_types.specs.declared.task.Repeated.{Repeated}
use Rattle.aol_model_types.specs.declared.task.Task.{Task}
use Rattle.aol_model_types.specs.declared.task.Task.TheVariants as tasks
use Rattle.aol_model_types.specs.declared.job.InputArray.{InputArray}
use Rattle.aol_model_types.specs.declared.job.Pick.{Pick}
use Rattle.aol_model_types.specs.declared.job.Step.{Step}
use Rattle.aol_model_types.specs.declared.job.Step.TheVariants as step
use Rattle.aol_model_types.specs.declared.job.Entry.{Entry}
use Rattle.aol_model_types.specs.declared.job.Job.{Job}
use Rattle.aol_model_types.specs.declared.document.Model.{Model}
use Rattle.aol_model_types.specs.Rules.{task_name, inputs_of, outputs_of}

-- a u32 counts the elements
abbrev pub IsCounted : {A : Type 0} → List A → Type 0
IsCounted xs = length xs < 2 ^ 32

-- ---- a model

-- the shape is within the limits
abbrev pub IsPort : Port → Type 0
IsPort p = IsShape p.shape

-- so are the port and the expression
pub record IsOutPort (o : OutPort) : Type 0 where
  pub port : IsPort o.port
  pub expr : IsExpr o.expr

-- each port has one width
pub record IsElementary (e : Elementary) : Type 0 where
  pub ins : AllByRecursion IsPort e.ins
  pub outs : AllByRecursion IsOutPort e.outs
  pub wide_in : length e.wide_in ≡ length e.ins
  pub wide_out : length e.wide_out ≡ length e.outs
  pub in_count : IsCounted e.ins
  pub out_count : IsCounted e.outs

-- the reshape is within the limits
abbrev pub IsCopied : Copied → Type 0
IsCopied c = IsReshape c.by

-- ports and reshapes are within the limits
pub record IsCompound (c : Compound) : Type 0 where
  pub ins : AllByRecursion IsPort c.ins
  pub outs : AllByRecursion IsPort c.outs
  pub reshapes : AllByRecursion IsCopied c.reshapes
  pub in_count : IsCounted c.ins
  pub out_count : IsCounted c.outs
  pub part_count : IsCounted c.parts
  pub link_count : IsCounted c.links
  pub reshape_count : IsCounted c.reshapes

-- the tiler is within the limits
abbrev pub IsTilerOn : TilerOn → Type 0
IsTilerOn t = IsTiler t.tiler

-- ports, space, tilers and links are within the limits
pub record IsRepeated (r : Repeated) : Type 0 where
  pub ins : AllByRecursion IsPort r.ins
  pub outs : AllByRecursion IsPort r.outs
  pub space : IsShape r.space
  pub tilers : AllByRecursion IsTilerOn r.tilers
  pub links : AllByRecursion IsInterlink r.links
  pub in_count : IsCounted r.ins
  pub out_count : IsCounted r.outs
  pub tiler_count : IsCounted r.tilers
  pub link_count : IsCounted r.links

-- a task of its kind
abbrev pub IsTask : Task → Type 0
IsTask (tasks.Elementary e) = IsElementary e
IsTask (tasks.Compound c) = IsCompound c
IsTask (tasks.Repeated r) = IsRepeated r

-- what the types of a model guarantee
pub record IsModel (m : Model) : Type 0 where
  pub tasks : AllByRecursion IsTask m.tasks
  pub task_count : IsCounted m.tasks

-- the names of a task, its ports and its parts
abbrev pub names_in : Task → List (List ℕ)
names_in t = task_name t ∷ map (λ p. p.name) (inputs_of t ++ outputs_of t) ++ part_names t
  where
    part_names : Task → List (List ℕ)
    part_names (tasks.Compound c) = map (λ p. p.name) c.parts
    part_names _ = []

-- each name of a task, a port or a part is a name
abbrev pub HasNames : Model → Type 0
HasNames m = list_all is_name (flat_map names_in m.tasks) ≡ true

-- the task has an output
abbrev pub HasOutput : Task → Type 0
HasOutput t = 1 ≤ length (outputs_of t)

-- each task has an output
abbrev pub HasOutputs : Model → Type 0
HasOutputs m = AllByRecursion HasOutput m.tasks

-- ---- a job

-- the numbers are in 64 bits
pub record IsInputArray (a : InputArray) : Type 0 where
  pub nums : list_all fits_64 a.nums ≡ true
  pub count : IsCounted a.nums

-- the tiler is within the limits
abbrev pub IsPick : Pick → Type 0
IsPick p = IsTiler p.tiler

-- shapes and tilers are within the limits
abbrev pub IsStep : Step → Type 0
IsStep (step.Tile task outer block) = IsShape outer × IsShape block
IsStep (step.Pave task args) = IsShape args.outer × IsShape args.block
IsStep (step.Skew task outer block) = IsShape outer × IsShape block
IsStep (step.Fuse task args) = IsShape args.block × IsTiler args.tiler × AllByRecursion IsPick args.picks × IsCounted args.picks

-- shapes and tilers are within the limits
pub record IsEntry (e : Entry) : Type 0 where
  pub processors : IsShape e.processors
  pub space : IsShape e.space
  pub pattern : IsShape e.pattern
  pub from : IsTiler e.from
  pub to : IsTiler e.to

-- what the types of a job guarantee
pub record IsJob (j : Job) : Type 0 where
  pub input : AllByRecursion IsInputArray j.input
  pub transform : AllByRecursion IsStep j.transform
  pub allocate : AllByRecursion IsEntry j.allocate
  pub input_count : IsCounted j.input
  pub step_count : IsCounted j.transform
  pub entry_count : IsCounted j.allocate

-- ---- a document

-- what every document that is read keeps: its types, and names and outputs where they belong
pub record IsDocument (m : Model) (j : Job) : Type 0 where
  pub model : IsModel m
  pub job : IsJob j
  pub names : HasNames m
  pub outputs : HasOutputs m

-- ---- what a reader gives

-- a port that was read: its types, and a name
pub record IsReadPort (p : Port) : Type 0 where
  pub port : IsPort p
  pub named : is_name p.name ≡ true

-- the same of an output port with its expression
pub record IsReadOutPort (o : OutPort) : Type 0 where
  pub port : IsOutPort o
  pub named : is_name o.port.name ≡ true

-- a task that was read: its types, its names, and an output
pub record IsReadTask (t : Task) : Type 0 where
  pub types : IsTask t
  pub names : list_all is_name (names_in t) ≡ true
  pub output : HasOutput t

-- a model that was read
pub record IsReadModel (m : Model) : Type 0 where
  pub model : IsModel m
  pub names : HasNames m
  pub outputs : HasOutputs m
