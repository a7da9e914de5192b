-- Large objects, whose members are read in two groups, and which are then what the definitions of reading say.
use Rattle.std.specs.Prelude.{ℕ, ℤ, List, [], ◌∷◌, length, map, Bool, ◌&&◌, Some, None, Result, Ok, Err, Vec}
use Rattle.std.specs.declared.alloc.Global.{Global}
use Rattle.serde_json.specs.Data.{Data}
use Rattle.aol_expr_tree.specs.declared.port.Port.{Port}
use Rattle.aol_expr_tree.specs.declared.value.Width.{Width}
use Rattle.aol_reshape.specs.declared.reshape.Reshape.{Reshape}
use Rattle.aol_link.specs.declared.link.Interlink.{Interlink}
use Rattle.aol_model_types.specs.declared.place.Key.{Key}
use Rattle.aol_model_types.specs.declared.place.Key.TheVariants.{KModel, KInput, KTransform, KAllocate, KKind, KName, KIn, KOut, KParts, KLinks, KReshapes, KTask, KFrom, KTo, KSpace, KPattern, KSource, KTarget, KTilers, KTiler, KDistance, KModulo, KDefault, KBlock, KFirst, KSecond, KPicks, KLeaf, KProcessors}
use Rattle.aol_model_types.specs.declared.document.DocRefused.{DocRefused}
use Rattle.aol_model_types.specs.declared.document.Document.{Document}
use Rattle.aol_model_types.specs.declared.job.Entry.{Entry}
use Rattle.aol_model_types.specs.declared.job.Job.{Job}
use Rattle.aol_model_types.specs.declared.job.Step.{Step}
use Rattle.aol_model_types.specs.declared.job.Step.TheVariants as step
use Rattle.aol_model_types.specs.declared.task.Copied.{Copied}
use Rattle.aol_shape.specs.Texts.{is_name}
use Rattle.aol_model_types.specs.declared.task.Hook.{Hook}
use Rattle.aol_model_types.specs.declared.task.OutPort.{OutPort}
use Rattle.aol_model_types.specs.declared.task.Task.{Task}
use Rattle.aol_model_types.specs.declared.task.Task.TheVariants as tasks
use Rattle.aol_model_types.specs.Reading.{At, Fault, ◌>>=◌, ◌>>◌, needs, object_at, member_at, list_of, name_at, shape_at, vector_at, tiler_at, truth_at, hook_at, port_at, input_port_at, output_port_at, outputs_of, part_at, plain_at, copied_at, tiler_on_at, default_at, interlink_at, pick_at, leaf_at, input_at, step_at, entry_at, model_at}

-- two members, one after the other
abbrev pub two_at : {A B : Type 0} → (At → Data → Result A Fault) → (At → Data → Result B Fault) → Key → Key → At → Data → Result (A × B) Fault
two_at f g first second at d = do
  a ← member_at at d first f
  b ← member_at at d second g
  Ok (a, b)

-- three members, one after another
abbrev pub three_at : {A B C : Type 0} → (At → Data → Result A Fault) → (At → Data → Result B Fault) → (At → Data → Result C Fault) → Key → Key → Key → At → Data → Result (A × B × C) Fault
three_at f g h first second third at d = do
  a ← member_at at d first f
  b ← member_at at d second g
  c ← member_at at d third h
  Ok (a, b, c)

-- what was read into a list
abbrev pub filled : {A : Type 0} → Result (Unit {0}) DocRefused → List A → Result (List A) DocRefused
filled (Ok u) xs = Ok xs
filled (Err e) xs = Err e

-- ---- tasks

-- the name and the ports of a task whose inputs f reads and whose outputs g reads
abbrev pub head_at : {I O : Type 0} → (At → Data → Result I Fault) → (At → Data → Result O Fault) → At → Data → Result (List ℕ × List I × List O) Fault
head_at f g at d = do
  name ← member_at at d KName name_at
  ins ← member_at at d KIn (list_of f)
  outs ← member_at at d KOut (outputs_of (length ins) g)
  Ok (name, ins, outs)

-- vectors of ports as their lists
abbrev pub given_head : {I O : Type 0} → Result (List ℕ × Vec I Global × Vec O Global) DocRefused → Result (List ℕ × List I × List O) DocRefused
given_head (Ok h) = Ok (h.0, h.1.items, h.2.items)
given_head (Err e) = Err e

-- a task that computes, with this name and these ports
abbrev pub elementary_with : List ℕ → List (Port × Width) → List (OutPort × Width) → Task
elementary_with name ins outs = tasks.Elementary (record { name = name; ins = map (λ p. p.0) ins; outs = map (λ p. p.0) outs; wide_in = map (λ p. p.1) ins; wide_out = map (λ p. p.1) outs })

-- a task that computes
abbrev pub elementary_by_parts : At → Data → Result Task Fault
elementary_by_parts at d = do
  object_at (KKind ∷ KName ∷ KIn ∷ KOut ∷ []) [] at d
  h ← head_at input_port_at output_port_at at d
  Ok (elementary_with h.0 h.1 h.2)

-- the rest of a graph of tasks
abbrev pub compound_with : At → Data → List ℕ → List Port → List Port → Result Task Fault
compound_with at d name ins outs = do
  inner ← three_at (list_of part_at) (list_of plain_at) (list_of copied_at) KParts KLinks KReshapes at d
  Ok (tasks.Compound (record { name = name; ins = ins; outs = outs; parts = inner.0; links = inner.1; reshapes = inner.2 }))

-- a graph of tasks
abbrev pub compound_by_parts : At → Data → Result Task Fault
compound_by_parts at d = do
  object_at (KKind ∷ KName ∷ KIn ∷ KOut ∷ KParts ∷ KLinks ∷ KReshapes ∷ []) [] at d
  h ← head_at port_at port_at at d
  compound_with at d h.0 h.1 h.2

-- the rest of a task at each point of a space
abbrev pub repeated_with : Bool → At → Data → List ℕ → List Port → List Port → Result Task Fault
repeated_with later at d name ins outs = do
  inner ← two_at shape_at name_at KSpace KTask at d
  joins ← two_at (list_of tiler_on_at) (list_of (interlink_at later)) KTilers KLinks at d
  Ok (tasks.Repeated (record { name = name; ins = ins; outs = outs; space = inner.0; task = inner.1; tilers = joins.0; links = joins.1 }))

-- a task at each point of a space
abbrev pub repeated_by_parts : Bool → At → Data → Result Task Fault
repeated_by_parts later at d = do
  object_at (KKind ∷ KName ∷ KIn ∷ KOut ∷ KSpace ∷ KTask ∷ KTilers ∷ KLinks ∷ []) [] at d
  h ← head_at port_at port_at at d
  repeated_with later at d h.0 h.1 h.2

-- ---- links

-- the end at a port of a part
abbrev pub part_end_at : At → List ℕ → List ℕ → Result Hook Fault
part_end_at at part port = needs at (is_name part && is_name port) >> Ok (record { part = Some part; port = port })

-- the end at a port of the task itself
abbrev pub own_end_at : At → List ℕ → Result Hook Fault
own_end_at at port = needs at (is_name port) >> Ok (record { part = None; port = port })

-- how a reshape copies
abbrev pub reshape_at : At → Data → Result Reshape Fault
reshape_at at d = do
  shapes ← two_at shape_at shape_at KSpace KPattern at d
  tilers ← two_at tiler_at tiler_at KSource KTarget at d
  Ok (record { space = shapes.0; pattern = shapes.1; source = tilers.0; target = tilers.1 })

-- a reshape
abbrev pub copied_by_parts : At → Data → Result Copied Fault
copied_by_parts at d = do
  object_at (KFrom ∷ KTo ∷ KSpace ∷ KPattern ∷ KSource ∷ KTarget ∷ []) [] at d
  ends ← two_at hook_at hook_at KFrom KTo at d
  by ← reshape_at at d
  Ok (record { from = ends.0; to = ends.1; by = by })

-- the rest of a link between repetitions
abbrev pub interlink_with : Bool → At → Data → List ℕ → List ℕ → List ℤ → Result Interlink Fault
interlink_with later at d from to distance = do
  wraps ← member_at at d KModulo truth_at
  rest ← member_at at d KDefault (default_at later wraps)
  Ok (record { from = from; to = to; distance = distance; wrap = wraps; rest = rest })

-- a link between repetitions
abbrev pub interlink_by_parts : Bool → At → Data → Result Interlink Fault
interlink_by_parts later at d = do
  object_at (KFrom ∷ KTo ∷ KDistance ∷ KModulo ∷ KDefault ∷ []) [] at d
  e ← three_at name_at name_at vector_at KFrom KTo KDistance at d
  interlink_with later at d e.0 e.1 e.2

-- ---- the job

-- the rest of a step of kind fuse
abbrev pub fuse_with : At → Data → List ℕ → List ℕ → List ℕ → Result Step Fault
fuse_with at d task first second = do
  parts ← three_at shape_at tiler_at (list_of pick_at) KBlock KTiler KPicks at d
  Ok (step.Fuse task (record { first = first; second = second; block = parts.0; tiler = parts.1; picks = parts.2 }))

-- a step of kind fuse
abbrev pub fuse_by_parts : At → Data → Result Step Fault
fuse_by_parts at d = do
  object_at (KKind ∷ KTask ∷ KFirst ∷ KSecond ∷ KBlock ∷ KTiler ∷ KPicks ∷ []) [] at d
  f ← three_at name_at name_at name_at KTask KFirst KSecond at d
  fuse_with at d f.0 f.1 f.2

-- the rest of an entry
abbrev pub entry_with : At → Data → List ℕ → List ℕ → List ℕ → List ℕ → Result Entry Fault
entry_with at d leaf processors space pattern = do
  tilers ← two_at tiler_at tiler_at KFrom KTo at d
  Ok (record { leaf = leaf; processors = processors; space = space; pattern = pattern; from = tilers.0; to = tilers.1 })

-- an entry of the placement
abbrev pub entry_by_parts : At → Data → Result Entry Fault
entry_by_parts at d = do
  object_at (KLeaf ∷ KProcessors ∷ KSpace ∷ KPattern ∷ KFrom ∷ KTo ∷ []) [] at d
  leaf ← member_at at d KLeaf leaf_at
  s ← three_at shape_at shape_at shape_at KProcessors KSpace KPattern at d
  entry_with at d leaf s.0 s.1 s.2

-- ---- the document

-- the job of a document
abbrev pub job_in : Data → Result Job Fault
job_in d = do
  input ← member_at [] d KInput input_at
  transform ← member_at [] d KTransform (list_of step_at)
  allocate ← member_at [] d KAllocate (list_of entry_at)
  Ok (record { input = input; transform = transform; allocate = allocate })

-- the model and the job
abbrev pub members_by_parts : Bool → Data → Result Document Fault
members_by_parts later d = do
  model ← member_at [] d KModel (model_at later)
  job ← job_in d
  Ok (record { model = model; job = job })
