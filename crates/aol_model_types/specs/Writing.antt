-- The JSON tree of a document, with canonical texts, in version 2.
use Rattle.std.specs.Prelude.{ℕ, ℤ, pos, negsuc, List, [], ◌∷◌, ◌++◌, map, codes, Option, Some, None, if◌then◌else◌}
use Rattle.std.specs.List.{zip}
use Rattle.serde_json.specs.Data.{Data, null, boolean, number, unsigned, negative, string, array, object, Items, no_items, item, Members, no_members, put}
use Rattle.aol_tiler.specs.Matrices.{TilerOf}
use Rattle.aol_vsl.specs.Text.{shape_text, vector_text, tiler_text}
use Rattle.aol_expr_tree.specs.declared.port.Port.{Port}
use Rattle.aol_expr_tree.specs.declared.value.Width.{Width}
use Rattle.aol_expr_tree.specs.declared.value.Width.TheVariants.{Int16, Int32, Int64}
use Rattle.aol_expr_tree.specs.Writing.{expr_text}
use Rattle.aol_link.specs.declared.link.Interlink.{Interlink}
use Rattle.aol_link.specs.declared.link.Choice.{Choice}
use Rattle.aol_link.specs.declared.link.When.{When}
use Rattle.aol_link.specs.declared.link.When.TheVariants.{Always, Low, High}
use Rattle.aol_link.specs.declared.link.Fallback.{Fallback}
use Rattle.aol_link.specs.declared.link.Fallback.TheVariants.{Number, Tiled}
use Rattle.aol_model_types.specs.declared.place.Key.{Key}
use Rattle.aol_model_types.specs.declared.place.Key.TheVariants.{KModel, KInput, KTransform, KAllocate, KVersion, KTasks, KMain, KKind, KName, KIn, KOut, KShape, KType, KExpr, KParts, KLinks, KReshapes, KTask, KFrom, KTo, KSpace, KPattern, KSource, KTarget, KTilers, KOuter, KInner, KTiler, KDistance, KModulo, KDefault, KDimension, KSide, KValue, KBlock, KFirst, KSecond, KPicks, KLeaf, KProcessors}
use Rattle.aol_model_types.specs.declared.task.OutPort.{OutPort}
use Rattle.aol_model_types.specs.declared.task.Part.{Part}
use Rattle.aol_model_types.specs.declared.task.Hook.{Hook}
use Rattle.aol_model_types.specs.declared.task.Plain.{Plain}
use Rattle.aol_model_types.specs.declared.task.Copied.{Copied}
use Rattle.aol_model_types.specs.declared.task.TilerOn.{TilerOn}
use Rattle.aol_model_types.specs.declared.task.Task.{Task}
use Rattle.aol_model_types.specs.declared.task.Task.TheVariants as tasks
use Rattle.aol_model_types.specs.declared.job.InputArray.{InputArray}
use Rattle.aol_model_types.specs.declared.job.Pick.{Pick}
use Rattle.aol_model_types.specs.declared.job.Step.{Step}
use Rattle.aol_model_types.specs.declared.job.Step.TheVariants as step
use Rattle.aol_model_types.specs.declared.job.Entry.{Entry}
use Rattle.aol_model_types.specs.declared.job.Job.{Job}
use Rattle.aol_model_types.specs.declared.document.Model.{Model}
use Rattle.aol_model_types.specs.Places.{key_text}

-- ---- trees

-- an array of these elements
abbrev pub items_from : List Data → Items
items_from [] = no_items
items_from (d ∷ ds) = item d (items_from ds)

-- members by key; an object has them in byte order of keys
abbrev pub members_from : List (List ℕ × Data) → Members
members_from [] = no_members
members_from (m ∷ ms) = put m.0 m.1 (members_from ms)

-- a member with this key
abbrev pub at : Key → Data → List ℕ × Data
at k d = (key_text k, d)

-- an object of these members
abbrev pub object_of : List (List ℕ × Data) → Data
object_of ms = object (members_from ms)

-- an array of the trees of a list
abbrev pub list_tree : {A : Type 0} → (A → Data) → List A → Data
list_tree f xs = array (items_from (map f xs))

-- a whole number
abbrev pub integer_tree : ℤ → Data
integer_tree (pos n) = number (unsigned n)
integer_tree (negsuc n) = number (negative (negsuc n))

-- a shape, by its text
abbrev pub shape_tree : List ℕ → Data
shape_tree s = string (shape_text s)

-- a tiler, by its text
abbrev pub tiler_tree : TilerOf → Data
tiler_tree t = string (tiler_text t)

-- an end: a name, or two with a dot between
abbrev pub hook_tree : Hook → Data
hook_tree h = by_part h.part
  where
    by_part : Option (List ℕ) → Data
    by_part None = string h.port
    by_part (Some part) = string (part ++ 46 ∷ h.port)

-- ---- tasks

-- a port
abbrev pub port_tree : Port → Data
port_tree p = object_of (at KName (string p.name) ∷ at KShape (shape_tree p.shape) ∷ [])

-- the type, where it isn't 64 bits
abbrev pub type_members : Width → List (List ℕ × Data)
type_members Int16 = at KType (string (codes "int16")) ∷ []
type_members Int32 = at KType (string (codes "int32")) ∷ []
type_members Int64 = []

-- an input port of an elementary task
abbrev pub input_port_tree : Port × Width → Data
input_port_tree p = object_of (at KName (string p.0.name) ∷ at KShape (shape_tree p.0.shape) ∷ type_members p.1)

-- an output port of an elementary task
abbrev pub output_port_tree : OutPort × Width → Data
output_port_tree p = object_of (at KName (string p.0.port.name) ∷ at KShape (shape_tree p.0.port.shape) ∷ at KExpr (string (expr_text p.0.expr)) ∷ type_members p.1)

-- a part
abbrev pub part_tree : Part → Data
part_tree p = object_of (at KName (string p.name) ∷ at KTask (string p.task) ∷ [])

-- a plain link
abbrev pub plain_tree : Plain → Data
plain_tree l = object_of (at KFrom (hook_tree l.from) ∷ at KTo (hook_tree l.to) ∷ [])

-- a reshape
abbrev pub copied_tree : Copied → Data
copied_tree c = object_of (at KFrom (hook_tree c.from) ∷ at KTo (hook_tree c.to) ∷ at KSpace (shape_tree c.by.space) ∷ at KPattern (shape_tree c.by.pattern) ∷ at KSource (tiler_tree c.by.source) ∷ at KTarget (tiler_tree c.by.target) ∷ [])

-- a tiler of a repetition
abbrev pub tiler_on_tree : TilerOn → Data
tiler_on_tree t = object_of (at KOuter (string t.outer) ∷ at KInner (string t.inner) ∷ at KTiler (tiler_tree t.tiler) ∷ [])

-- the value of a choice
abbrev pub fallback_tree : Fallback → Data
fallback_tree (Number z) = integer_tree z
fallback_tree (Tiled outer tiler) = object_of (at KOuter (string outer) ∷ at KTiler (tiler_tree tiler) ∷ [])

-- the dimension and the side of a choice
abbrev pub when_members : When → List (List ℕ × Data)
when_members Always = at KDimension null ∷ at KSide null ∷ []
when_members (Low k) = at KDimension (number (unsigned k)) ∷ at KSide (string (codes "low")) ∷ []
when_members (High k) = at KDimension (number (unsigned k)) ∷ at KSide (string (codes "high")) ∷ []

-- a choice
abbrev pub choice_tree : Choice → Data
choice_tree c = object_of (at KValue (fallback_tree c.take) ∷ when_members c.when)

-- a link between repetitions
abbrev pub interlink_tree : Interlink → Data
interlink_tree l = object_of (at KFrom (string l.from) ∷ at KTo (string l.to) ∷ at KDistance (string (vector_text l.distance)) ∷ at KModulo (boolean l.wrap) ∷ at KDefault (if l.wrap then null else list_tree choice_tree l.rest) ∷ [])

-- a task
abbrev pub task_tree : Task → Data
task_tree (tasks.Elementary e) = object_of (at KKind (string (codes "elementary")) ∷ at KName (string e.name) ∷ at KIn (list_tree input_port_tree (zip e.ins e.wide_in)) ∷ at KOut (list_tree output_port_tree (zip e.outs e.wide_out)) ∷ [])
task_tree (tasks.Compound c) = object_of (at KKind (string (codes "compound")) ∷ at KName (string c.name) ∷ at KIn (list_tree port_tree c.ins) ∷ at KOut (list_tree port_tree c.outs) ∷ at KParts (list_tree part_tree c.parts) ∷ at KLinks (list_tree plain_tree c.links) ∷ at KReshapes (list_tree copied_tree c.reshapes) ∷ [])
task_tree (tasks.Repeated r) = object_of (at KKind (string (codes "repeated")) ∷ at KName (string r.name) ∷ at KIn (list_tree port_tree r.ins) ∷ at KOut (list_tree port_tree r.outs) ∷ at KSpace (shape_tree r.space) ∷ at KTask (string r.task) ∷ at KTilers (list_tree tiler_on_tree r.tilers) ∷ at KLinks (list_tree interlink_tree r.links) ∷ [])

-- a model
abbrev pub model_tree : Model → Data
model_tree m = object_of (at KTasks (list_tree task_tree m.tasks) ∷ at KMain (string m.main) ∷ [])

-- ---- the job

-- an input by its name
abbrev pub input_member : InputArray → List ℕ × Data
input_member a = (a.name, list_tree integer_tree a.nums)

-- a pick
abbrev pub pick_tree : Pick → Data
pick_tree p = object_of (at KTo (string p.to) ∷ at KFrom (string p.from) ∷ at KTiler (tiler_tree p.tiler) ∷ [])

-- a step
abbrev pub step_tree : Step → Data
step_tree (step.Tile task outer block) = object_of (at KKind (string (codes "tile")) ∷ at KTask (string task) ∷ at KOuter (shape_tree outer) ∷ at KBlock (shape_tree block) ∷ [])
step_tree (step.Pave task args) = object_of (at KKind (string (codes "pave")) ∷ at KTask (string task) ∷ at KOuter (shape_tree args.outer) ∷ at KBlock (shape_tree args.block) ∷ [])
step_tree (step.Skew task outer block) = object_of (at KKind (string (codes "skew")) ∷ at KTask (string task) ∷ at KOuter (shape_tree outer) ∷ at KBlock (shape_tree block) ∷ [])
step_tree (step.Fuse task args) = object_of (at KKind (string (codes "fuse")) ∷ at KTask (string task) ∷ at KFirst (string args.first) ∷ at KSecond (string args.second) ∷ at KBlock (shape_tree args.block) ∷ at KTiler (tiler_tree args.tiler) ∷ at KPicks (list_tree pick_tree args.picks) ∷ [])

-- an entry of the placement
abbrev pub entry_tree : Entry → Data
entry_tree e = object_of (at KLeaf (string e.leaf) ∷ at KProcessors (shape_tree e.processors) ∷ at KSpace (shape_tree e.space) ∷ at KPattern (shape_tree e.pattern) ∷ at KFrom (tiler_tree e.from) ∷ at KTo (tiler_tree e.to) ∷ [])

-- ---- the document

-- the whole document
abbrev pub document_tree : Model → Job → Data
document_tree m j = object_of (at KVersion (number (unsigned 2)) ∷ at KModel (model_tree m) ∷ at KInput (object_of (map input_member j.input)) ∷ at KTransform (list_tree step_tree j.transform) ∷ at KAllocate (list_tree entry_tree j.allocate) ∷ [])
