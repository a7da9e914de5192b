-- The document that a JSON tree stands for, or the first place in the walk at which it stands for none.
use Rattle.std.specs.Prelude.{ℕ, ◌+◌, ℤ, pos, List, [], ◌∷◌, map, length, count_by, Bool, true, false, ◌&&◌, ◌==◌, nat_le, nat_lt, codes, Option, Some, None, option_map, unwrap_or, is_some, option_and_then, Result, Ok, Err, if◌then◌else◌}
use Rattle.std.specs.List.{list_all, list_any, before_first, after_first}
use Rattle.serde_json.specs.Data.{Data, null, Items, no_items, item, Members, no_members, member}
use Rattle.serde_json.specs.Find.{get, as_object, as_array, as_str, as_bool, as_number, as_i64}
use Rattle.aol_shape.specs.declared.limit.LimitName.{LimitName}
use Rattle.aol_shape.specs.declared.limit.LimitName.TheVariants.{Ports, Choices}
use Rattle.aol_shape.specs.Lists.{same}
use Rattle.aol_shape.specs.Texts.{is_name}
use Rattle.aol_shape.specs.Grammar.{TextFault}
use Rattle.aol_shape.specs.Grammar as texts
use Rattle.aol_tiler.specs.Matrices.{TilerOf}
use Rattle.aol_vsl.specs.Reading.{shape_reading, vector_reading, tiler_reading}
use Rattle.aol_expr_tree.specs.declared.port.Port.{Port}
use Rattle.aol_expr_tree.specs.declared.value.Width.{Width}
use Rattle.aol_expr_tree.specs.declared.value.Width.TheVariants.{Int16, Int32, Int64}
use Rattle.aol_expr_tree.specs.Tree.{Tree}
use Rattle.aol_expr_tree.specs.Reading.{expr_reading}
use Rattle.aol_link.specs.declared.link.Interlink.{Interlink}
use Rattle.aol_link.specs.declared.link.Choice.{Choice}
use Rattle.aol_link.specs.declared.link.When.{When}
use Rattle.aol_link.specs.declared.link.When.TheVariants.{Always, Low, High}
use Rattle.aol_link.specs.declared.link.Fallback.{Fallback}
use Rattle.aol_link.specs.declared.link.Fallback.TheVariants.{Number, Tiled}
use Rattle.aol_model_types.specs.declared.place.Key.{Key}
use Rattle.aol_model_types.specs.declared.place.Key.TheVariants.{KModel, KInput, KTransform, KAllocate, KVersion, KTasks, KMain, KKind, KName, KIn, KOut, KShape, KType, KExpr, KParts, KLinks, KReshapes, KTask, KFrom, KTo, KSpace, KPattern, KSource, KTarget, KTilers, KOuter, KInner, KTiler, KDistance, KModulo, KDefault, KDimension, KSide, KValue, KBlock, KFirst, KSecond, KPicks, KLeaf, KProcessors}
use Rattle.aol_model_types.specs.declared.place.PlaceStep.{PlaceStep}
use Rattle.aol_model_types.specs.declared.task.OutPort.{OutPort}
use Rattle.aol_model_types.specs.declared.task.Part.{Part}
use Rattle.aol_model_types.specs.declared.task.Hook.{Hook}
use Rattle.aol_model_types.specs.declared.task.Plain.{Plain}
use Rattle.aol_model_types.specs.declared.task.Copied.{Copied}
use Rattle.aol_model_types.specs.declared.task.TilerOn.{TilerOn}
use Rattle.aol_model_types.specs.declared.task.Task.{Task}
use Rattle.aol_model_types.specs.declared.task.Task.TheVariants as tasks
use Rattle.aol_model_types.specs.declared.job.InputArray.{InputArray}
use Rattle.aol_model_types.specs.declared.job.Pick.{Pick}
use Rattle.aol_model_types.specs.declared.job.Step.{Step}
use Rattle.aol_model_types.specs.declared.job.Step.TheVariants as step
use Rattle.aol_model_types.specs.declared.job.Entry.{Entry}
use Rattle.aol_model_types.specs.declared.document.Model.{Model}
use Rattle.aol_model_types.specs.declared.document.Document.{Document}
use Rattle.aol_model_types.specs.declared.limits.TheConstants.{MAX_PORTS, MAX_CHOICES, MAX_LEAF}
use Rattle.aol_model_types.specs.Places.{PlaceOf, key_text, to_key, to_index, whole}

-- why a tree is no document: a place of the wrong form, or a limit that is passed there
pub data Fault : Type 0 where
  grammar : PlaceOf → Fault
  limit : PlaceOf → LimitName → Fault

-- the steps to the value that is read
abbrev pub At : Type 0
At = List PlaceStep

infixl 10 ◌>>=◌
abbrev pub ◌>>=◌ : {A B : Type 0} → Result A Fault → (A → Result B Fault) → Result B Fault
(Ok x) >>= f = f x
(Err e) >>= f = Err e

infixl 10 ◌>>◌
abbrev pub ◌>>◌ : {A B : Type 0} → Result A Fault → Result B Fault → Result B Fault
(Ok x) >> r = r
(Err e) >> r = Err e

-- ---- forms of values

-- the form of the value at this place is right
abbrev pub needs : At → Bool → Result (Unit {0}) Fault
needs at true = Ok tt
needs at false = Err (grammar (whole at))

-- the value at this place is within a limit
abbrev pub within : At → LimitName → Bool → Result (Unit {0}) Fault
within at passed true = Ok tt
within at passed false = Err (limit (whole at) passed)

-- what was looked for is there
abbrev pub found : {A : Type 0} → At → Option A → Result A Fault
found at None = Err (grammar (whole at))
found at (Some x) = Ok x

-- the elements of an array
abbrev pub items_list : Items → List Data
items_list no_items = []
items_list (item d ds) = d ∷ items_list ds

-- the members of an object
abbrev pub members_list : Members → List (List ℕ × Data)
members_list no_members = []
members_list (member k d ms) = (k, d) ∷ members_list ms

-- how many members an object has
abbrev pub member_count : Data → ℕ
member_count d = unwrap_or (option_map (λ ms. length (members_list ms)) (as_object d)) 0

-- the value is an object with this key
abbrev pub has_key : Data → Key → Bool
has_key d k = is_some (get (key_text k) d)

-- the value is an object with these keys, perhaps those, and no others
abbrev pub has_keys : List Key → List Key → Data → Bool
has_keys keys others d = list_all (has_key d) keys && member_count d == length keys + count_by (has_key d) others

-- the value is null
abbrev pub is_null : Data → Bool
is_null null = true
is_null _ = false

-- an object with exactly these keys, and perhaps those
abbrev pub object_at : List Key → List Key → At → Data → Result (Unit {0}) Fault
object_at keys others at d = needs at (has_keys keys others d)

-- a list
abbrev pub list_at : At → Data → Result (List Data) Fault
list_at at d = do
  ds ← found at (as_array d)
  Ok (items_list ds)

-- a list that is not empty
abbrev pub filled_list_at : At → Data → Result (List Data) Fault
filled_list_at at d = do
  ds ← list_at at d
  needs at (nat_le 1 (length ds))
  Ok ds

-- a text
abbrev pub text_at : At → Data → Result (List ℕ) Fault
text_at at d = found at (as_str d)

-- true or false
abbrev pub truth_at : At → Data → Result Bool Fault
truth_at at d = found at (as_bool d)

-- a whole number in 64 bits
abbrev pub integer_at : At → Data → Result ℤ Fault
integer_at at d = found at (option_and_then as_i64 (as_number d))

-- the elements from number i on, one after another
abbrev pub elements : {A : Type 0} → (At → Data → Result A Fault) → At → ℕ → List Data → Result (List A) Fault
elements f at i [] = Ok []
elements f at i (d ∷ ds) = f (to_index at i) d >>= (λ x. elements f at (i + 1) ds >>= (λ xs. Ok (x ∷ xs)))

-- a list whose elements f reads
abbrev pub list_of : {A : Type 0} → (At → Data → Result A Fault) → At → Data → Result (List A) Fault
list_of f at d = do
  ds ← list_at at d
  elements f at 0 ds

-- the same, not empty
abbrev pub filled_list_of : {A : Type 0} → (At → Data → Result A Fault) → At → Data → Result (List A) Fault
filled_list_of f at d = do
  ds ← filled_list_at at d
  elements f at 0 ds

-- the member with this key, read by f; without it the object has the wrong form
abbrev pub member_at : {A : Type 0} → At → Data → Key → (At → Data → Result A Fault) → Result A Fault
member_at at d k f = found at (get (key_text k) d) >>= f (to_key at k)

-- ---- texts

-- what reading a text at this place answers
abbrev pub placed : {V : Type 0} → At → Result V TextFault → Result V Fault
placed at (Ok v) = Ok v
placed at (Err (texts.at byte)) = Err (grammar (record { steps = at; byte = Some byte }))
placed at (Err (texts.limit byte name)) = Err (limit (record { steps = at; byte = Some byte }) name)

-- the text of a shape
abbrev pub shape_at : At → Data → Result (List ℕ) Fault
shape_at at d = do
  t ← text_at at d
  placed at (shape_reading t)

-- the text of a vector
abbrev pub vector_at : At → Data → Result (List ℤ) Fault
vector_at at d = do
  t ← text_at at d
  placed at (vector_reading t)

-- the text of a tiler
abbrev pub tiler_at : At → Data → Result TilerOf Fault
tiler_at at d = do
  t ← text_at at d
  placed at (tiler_reading t)

-- the text of an expression
abbrev pub expr_at : At → Data → Result Tree Fault
expr_at at d = do
  t ← text_at at d
  placed at (expr_reading t)

-- a name
abbrev pub name_at : At → Data → Result (List ℕ) Fault
name_at at d = do
  t ← text_at at d
  needs at (is_name t)
  Ok t

-- a dot
abbrev pub is_dot : ℕ → Bool
is_dot b = b == 46

-- a name, or two joined by a dot
abbrev pub hook_at : At → Data → Result Hook Fault
hook_at at d = do
  t ← text_at at d
  if list_any is_dot t
      then (needs at (is_name (before_first is_dot t) && is_name (after_first is_dot t)) >> Ok (record { part = Some (before_first is_dot t); port = after_first is_dot t }))
      else (needs at (is_name t) >> Ok (record { part = None; port = t }))

-- ---- ports

-- a port
abbrev pub port_at : At → Data → Result Port Fault
port_at at d = do
  object_at (KName ∷ KShape ∷ []) [] at d
  name ← member_at at d KName name_at
  shape ← member_at at d KShape shape_at
  Ok (record { name = name; shape = shape })

-- a type by its text
abbrev pub width_at : At → Data → Result Width Fault
width_at at d = do
  t ← text_at at d
  if same t (codes "int16") then Ok Int16 else (if same t (codes "int32") then Ok Int32 else (needs at (same t (codes "int64")) >> Ok Int64))

-- 64 bits where no type is written
abbrev pub type_at : At → Data → Result Width Fault
type_at at d = if has_key d KType then member_at at d KType width_at else Ok Int64

-- an input port of an elementary task, with its width
abbrev pub input_port_at : At → Data → Result (Port × Width) Fault
input_port_at at d = do
  object_at (KName ∷ KShape ∷ []) (KType ∷ []) at d
  name ← member_at at d KName name_at
  shape ← member_at at d KShape shape_at
  width ← type_at at d
  Ok (record { name = name; shape = shape }, width)

-- an output port of an elementary task, with its width
abbrev pub output_port_at : At → Data → Result (OutPort × Width) Fault
output_port_at at d = do
  object_at (KName ∷ KShape ∷ KExpr ∷ []) (KType ∷ []) at d
  name ← member_at at d KName name_at
  shape ← member_at at d KShape shape_at
  width ← type_at at d
  expr ← member_at at d KExpr expr_at
  Ok (record { port = record { name = name; shape = shape }; expr = expr }, width)

-- the most ports of a task
abbrev pub max_ports : ℕ
max_ports = MAX_PORTS

-- the outputs of a task that has so many inputs
abbrev pub outputs_of : {A : Type 0} → ℕ → (At → Data → Result A Fault) → At → Data → Result (List A) Fault
outputs_of inputs f at d = do
  ds ← filled_list_at at d
  within at Ports (nat_le (inputs + length ds) max_ports)
  elements f at 0 ds

-- ---- tasks

-- the kind of an object that has one, which is one of these texts
abbrev pub kind_at : List (List ℕ) → At → Data → Result (List ℕ) Fault
kind_at kinds at d = do
  kind ← member_at at d KKind text_at
  needs (to_key at KKind) (list_any (same kind) kinds)
  Ok kind

-- a task that computes
abbrev pub elementary_at : At → Data → Result Task Fault
elementary_at at d = do
  object_at (KKind ∷ KName ∷ KIn ∷ KOut ∷ []) [] at d
  name ← member_at at d KName name_at
  ins ← member_at at d KIn (list_of input_port_at)
  outs ← member_at at d KOut (outputs_of (length ins) output_port_at)
  Ok (tasks.Elementary (record { name = name; ins = map (λ p. p.0) ins; outs = map (λ p. p.0) outs; wide_in = map (λ p. p.1) ins; wide_out = map (λ p. p.1) outs }))

-- a part
abbrev pub part_at : At → Data → Result Part Fault
part_at at d = do
  object_at (KName ∷ KTask ∷ []) [] at d
  name ← member_at at d KName name_at
  task ← member_at at d KTask name_at
  Ok (record { name = name; task = task })

-- a plain link
abbrev pub plain_at : At → Data → Result Plain Fault
plain_at at d = do
  object_at (KFrom ∷ KTo ∷ []) [] at d
  from ← member_at at d KFrom hook_at
  to ← member_at at d KTo hook_at
  Ok (record { from = from; to = to })

-- a reshape
abbrev pub copied_at : At → Data → Result Copied Fault
copied_at at d = do
  object_at (KFrom ∷ KTo ∷ KSpace ∷ KPattern ∷ KSource ∷ KTarget ∷ []) [] at d
  from ← member_at at d KFrom hook_at
  to ← member_at at d KTo hook_at
  space ← member_at at d KSpace shape_at
  pattern ← member_at at d KPattern shape_at
  source ← member_at at d KSource tiler_at
  target ← member_at at d KTarget tiler_at
  Ok (record { from = from; to = to; by = record { space = space; pattern = pattern; source = source; target = target } })

-- a graph of tasks
abbrev pub compound_at : At → Data → Result Task Fault
compound_at at d = do
  object_at (KKind ∷ KName ∷ KIn ∷ KOut ∷ KParts ∷ KLinks ∷ KReshapes ∷ []) [] at d
  name ← member_at at d KName name_at
  ins ← member_at at d KIn (list_of port_at)
  outs ← member_at at d KOut (outputs_of (length ins) port_at)
  parts ← member_at at d KParts (list_of part_at)
  links ← member_at at d KLinks (list_of plain_at)
  reshapes ← member_at at d KReshapes (list_of copied_at)
  Ok (tasks.Compound (record { name = name; ins = ins; outs = outs; parts = parts; links = links; reshapes = reshapes }))

-- a tiler of a repetition
abbrev pub tiler_on_at : At → Data → Result TilerOn Fault
tiler_on_at at d = do
  object_at (KOuter ∷ KInner ∷ KTiler ∷ []) [] at d
  outer ← member_at at d KOuter name_at
  inner ← member_at at d KInner name_at
  tiler ← member_at at d KTiler tiler_at
  Ok (record { outer = outer; inner = inner; tiler = tiler })

-- ---- defaults

-- an outer input with a tiler
abbrev pub tiled_at : At → Data → Result Fallback Fault
tiled_at at d = do
  object_at (KOuter ∷ KTiler ∷ []) [] at d
  outer ← member_at at d KOuter name_at
  tiler ← member_at at d KTiler tiler_at
  Ok (Tiled outer tiler)

-- a whole number, or an outer input with a tiler
abbrev pub fallback_at : At → Data → Result Fallback Fault
fallback_at at d = if is_some (as_object d) then tiled_at at d else (integer_at at d >>= (λ z. Ok (Number z)))

-- a dimension, or none
abbrev pub dimension_at : At → Data → Result (Option ℕ) Fault
dimension_at at d = if is_null d then Ok None else (integer_at at d >>= natural)
  where
    natural : ℤ → Result (Option ℕ) Fault
    natural (pos k) = needs at (nat_le k 11) >> Ok (Some k)
    natural _ = Err (grammar (whole at))

-- the side of a dimension: `low` or `high`; none where there is no dimension
abbrev pub side_at : Option ℕ → At → Data → Result When Fault
side_at None at d = needs at (is_null d) >> Ok Always
side_at (Some k) at d = do
  t ← text_at at d
  if same t (codes "low") then Ok (Low k) else (needs at (same t (codes "high")) >> Ok (High k))

-- one choice of a default
abbrev pub choice_at : At → Data → Result Choice Fault
choice_at at d = do
  object_at (KDimension ∷ KSide ∷ KValue ∷ []) [] at d
  dimension ← member_at at d KDimension dimension_at
  when ← member_at at d KSide (side_at dimension)
  take ← member_at at d KValue fallback_at
  Ok (record { when = when; take = take })

-- the most choices of one default
abbrev pub max_choices : ℕ
max_choices = MAX_CHOICES

-- a list of choices
abbrev pub choices_at : At → Data → Result (List Choice) Fault
choices_at at d = do
  ds ← filled_list_at at d
  within at Choices (nat_le (length ds) max_choices)
  elements choice_at at 0 ds

-- what stands in for repetitions outside the space: nothing where the link wraps, one default in version 1, choices in version 2
abbrev pub default_at : Bool → Bool → At → Data → Result (List Choice) Fault
default_at later true at d = needs at (is_null d) >> Ok []
default_at true false at d = choices_at at d
default_at false false at d = fallback_at at d >>= (λ f. Ok (record { when = Always; take = f } ∷ []))

-- a link between repetitions, in version 2 or 1
abbrev pub interlink_at : Bool → At → Data → Result Interlink Fault
interlink_at later at d = do
  object_at (KFrom ∷ KTo ∷ KDistance ∷ KModulo ∷ KDefault ∷ []) [] at d
  from ← member_at at d KFrom name_at
  to ← member_at at d KTo name_at
  distance ← member_at at d KDistance vector_at
  wraps ← member_at at d KModulo truth_at
  rest ← member_at at d KDefault (default_at later wraps)
  Ok (record { from = from; to = to; distance = distance; wrap = wraps; rest = rest })

-- a task at each point of a space
abbrev pub repeated_at : Bool → At → Data → Result Task Fault
repeated_at later at d = do
  object_at (KKind ∷ KName ∷ KIn ∷ KOut ∷ KSpace ∷ KTask ∷ KTilers ∷ KLinks ∷ []) [] at d
  name ← member_at at d KName name_at
  ins ← member_at at d KIn (list_of port_at)
  outs ← member_at at d KOut (outputs_of (length ins) port_at)
  space ← member_at at d KSpace shape_at
  task ← member_at at d KTask name_at
  tilers ← member_at at d KTilers (list_of tiler_on_at)
  links ← member_at at d KLinks (list_of (interlink_at later))
  Ok (tasks.Repeated (record { name = name; ins = ins; outs = outs; space = space; task = task; tilers = tilers; links = links }))

-- a task, by its kind
abbrev pub task_at : Bool → At → Data → Result Task Fault
task_at later at d = do
  k ← kind_at (codes "elementary" ∷ codes "compound" ∷ codes "repeated" ∷ []) at d
  if same k (codes "elementary") then elementary_at at d else (if same k (codes "compound") then compound_at at d else repeated_at later at d)

-- a model
abbrev pub model_at : Bool → At → Data → Result Model Fault
model_at later at d = do
  object_at (KTasks ∷ KMain ∷ []) [] at d
  tasks ← member_at at d KTasks (filled_list_of (task_at later))
  main ← member_at at d KMain name_at
  Ok (record { tasks = tasks; main = main })

-- ---- the job

-- one input: a key that is a name, with a list of whole numbers
abbrev pub array_at : At → List ℕ × Data → Result InputArray Fault
array_at at m = do
  needs at (is_name m.0)
  nums ← list_of integer_at at m.1
  Ok (record { name = m.0; nums = nums })

-- the inputs from number i on, one after another
abbrev pub inputs_from : At → ℕ → List (List ℕ × Data) → Result (List InputArray) Fault
inputs_from at i [] = Ok []
inputs_from at i (m ∷ ms) = array_at (to_index at i) m >>= (λ a. inputs_from at (i + 1) ms >>= (λ rest. Ok (a ∷ rest)))

-- the inputs
abbrev pub input_at : At → Data → Result (List InputArray) Fault
input_at at d = do
  ms ← found at (as_object d)
  inputs_from at 0 (members_list ms)

-- a step of kind tile
abbrev pub tile_at : At → Data → Result Step Fault
tile_at at d = do
  object_at (KKind ∷ KTask ∷ KOuter ∷ KBlock ∷ []) [] at d
  task ← member_at at d KTask name_at
  outer ← member_at at d KOuter shape_at
  block ← member_at at d KBlock shape_at
  Ok (step.Tile task outer block)

-- a step of kind pave
abbrev pub pave_at : At → Data → Result Step Fault
pave_at at d = do
  object_at (KKind ∷ KTask ∷ KOuter ∷ KBlock ∷ []) [] at d
  task ← member_at at d KTask name_at
  outer ← member_at at d KOuter shape_at
  block ← member_at at d KBlock shape_at
  Ok (step.Pave task (record { outer = outer; block = block }))

-- a step of kind skew
abbrev pub skew_at : At → Data → Result Step Fault
skew_at at d = do
  object_at (KKind ∷ KTask ∷ KOuter ∷ KBlock ∷ []) [] at d
  task ← member_at at d KTask name_at
  outer ← member_at at d KOuter shape_at
  block ← member_at at d KBlock shape_at
  Ok (step.Skew task outer block)

-- a pick of a fusion
abbrev pub pick_at : At → Data → Result Pick Fault
pick_at at d = do
  object_at (KTo ∷ KFrom ∷ KTiler ∷ []) [] at d
  to ← member_at at d KTo name_at
  from ← member_at at d KFrom name_at
  tiler ← member_at at d KTiler tiler_at
  Ok (record { to = to; from = from; tiler = tiler })

-- a step of kind fuse
abbrev pub fuse_at : At → Data → Result Step Fault
fuse_at at d = do
  object_at (KKind ∷ KTask ∷ KFirst ∷ KSecond ∷ KBlock ∷ KTiler ∷ KPicks ∷ []) [] at d
  task ← member_at at d KTask name_at
  first ← member_at at d KFirst name_at
  second ← member_at at d KSecond name_at
  block ← member_at at d KBlock shape_at
  tiler ← member_at at d KTiler tiler_at
  picks ← member_at at d KPicks (list_of pick_at)
  Ok (step.Fuse task (record { first = first; second = second; block = block; tiler = tiler; picks = picks }))

-- a step, by its kind
abbrev pub step_at : At → Data → Result Step Fault
step_at at d = do
  k ← kind_at (codes "tile" ∷ codes "pave" ∷ codes "skew" ∷ codes "fuse" ∷ []) at d
  if same k (codes "tile") then tile_at at d else (if same k (codes "pave") then pave_at at d else (if same k (codes "skew") then skew_at at d else fuse_at at d))

-- the most characters of a leaf's path
abbrev pub max_leaf : ℕ
max_leaf = MAX_LEAF

-- some ASCII characters, and not too many
abbrev pub leaf_at : At → Data → Result (List ℕ) Fault
leaf_at at d = do
  t ← text_at at d
  needs at (nat_le 1 (length t) && nat_le (length t) max_leaf && list_all (λ b. nat_lt b 128) t)
  Ok t

-- an entry of the placement
abbrev pub entry_at : At → Data → Result Entry Fault
entry_at at d = do
  object_at (KLeaf ∷ KProcessors ∷ KSpace ∷ KPattern ∷ KFrom ∷ KTo ∷ []) [] at d
  leaf ← member_at at d KLeaf leaf_at
  processors ← member_at at d KProcessors shape_at
  space ← member_at at d KSpace shape_at
  pattern ← member_at at d KPattern shape_at
  from ← member_at at d KFrom tiler_at
  to ← member_at at d KTo tiler_at
  Ok (record { leaf = leaf; processors = processors; space = space; pattern = pattern; from = from; to = to })

-- ---- the document

-- the number of the version is 2
abbrev pub version_at : At → Data → Result (Unit {0}) Fault
version_at at d = do
  z ← integer_at at d
  needs at (is_two z)
  where
    is_two : ℤ → Bool
    is_two (pos n) = n == 2
    is_two _ = false

-- the members of a document of version 2, or of version 1
abbrev pub members_in : Bool → Data → Result Document Fault
members_in later d = do
  model ← member_at [] d KModel (model_at later)
  input ← member_at [] d KInput input_at
  transform ← member_at [] d KTransform (list_of step_at)
  allocate ← member_at [] d KAllocate (list_of entry_at)
  Ok (record { model = model; job = record { input = input; transform = transform; allocate = allocate } })

-- the document that a tree stands for; with the key `version` it is of version 2
abbrev pub document_in : Data → Result Document Fault
document_in d = do
  object_at (KModel ∷ KInput ∷ KTransform ∷ KAllocate ∷ []) (KVersion ∷ []) [] d
  if has_key d KVersion then (member_at [] d KVersion version_at >> members_in true d) else members_in false d
