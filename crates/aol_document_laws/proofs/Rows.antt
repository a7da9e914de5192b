-- Worked examples of the definitions, by computation.
use Rattle.std.proofs.Common.{◌≡◌, refl, [], ◌∷◌, pos, negsuc, Some, None, Err, codes, true, false, replicate}
use Rattle.std.specs.Fmt.{digits}
use Rattle.serde_json.specs.Data.{Data, null, number, unsigned, negative, string, array, object, no_items, no_members, member}
use Rattle.aol_shape.specs.declared.limit.LimitName.TheVariants as limits
use Rattle.aol_expr_tree.specs.declared.op.ExprOp.TheVariants.{Add}
use Rattle.aol_expr_tree.specs.declared.value.Width.TheVariants.{Int64}
use Rattle.aol_expr_tree.specs.Tree.{Tree, num, index, read, bin, trees}
use Rattle.aol_link.specs.declared.link.When.TheVariants.{Always, Low}
use Rattle.aol_link.specs.declared.link.Fallback.TheVariants.{Number}
use Rattle.aol_tiler.specs.Matrices.{TilerOf}
use Rattle.aol_model_types.specs.declared.place.Key.TheVariants as keys
use Rattle.aol_model_types.specs.declared.place.PlaceStep.TheVariants.{Key, Index as At'}
use Rattle.aol_model_types.specs.declared.task.Task.{Task}
use Rattle.aol_model_types.specs.declared.task.Task.TheVariants.{Elementary, Repeated}
use Rattle.aol_model_types.specs.declared.document.Model.{Model}
use Rattle.aol_model_types.specs.declared.job.Job.{Job}
use Rattle.aol_model_types.specs.Reading.{document_in, grammar, limit}
use Rattle.serde_json.specs.Written.{compact_text}
use Rattle.serde_json.proofs.OnLiterals.{serde_json_on_literals}
use Rattle.aol_model_types.specs.Writing.{document_tree, object_of, items_from, port_tree}
use Rattle.aol_model_types.specs.Rules.{first_misfit}
use Rattle.aol_model_types.specs.Trees.{is_tree}
use Rattle.aol_model_types.specs.Types.{HasNames, HasOutputs}
use Rattle.std.proofs.Common.{arith}

abbrev nothing : Job
nothing = record { input = []; transform = []; allocate = [] }

abbrev add_expr : Tree
add_expr = bin Add (read (codes "a") (trees (index 0 ∷ index 1 ∷ []))) (read (codes "b") (trees (index 0 ∷ index 1 ∷ [])))

-- two arrays added
abbrev add_task : Tree → Task
add_task e = Elementary (record {
  name = codes "Add";
  ins = record { name = codes "a"; shape = 2 ∷ 2 ∷ [] } ∷ record { name = codes "b"; shape = 2 ∷ 2 ∷ [] } ∷ [];
  outs = record { port = record { name = codes "y"; shape = 2 ∷ 2 ∷ [] }; expr = e } ∷ [];
  wide_in = Int64 ∷ Int64 ∷ [];
  wide_out = Int64 ∷ [];
})

abbrev add_model : Model
add_model = record { tasks = add_task add_expr ∷ []; main = codes "Add" }

add-agrees : first_misfit add_model ≡ None
add-agrees = refl

add-wrong-rank : first_misfit (record { tasks = add_task (read (codes "c") (trees (num (pos 0) ∷ num (pos 0) ∷ []))) ∷ []; main = codes "Add" })
    ≡ Some (record { place = record { steps = Key keys.KModel ∷ Key keys.KTasks ∷ At' 0 ∷ Key keys.KOut ∷ At' 0 ∷ Key keys.KExpr ∷ []; byte = None }; rule = 3 })
add-wrong-rank = refl

add-wrong-main : first_misfit (record { tasks = add_task add_expr ∷ []; main = codes "Sub" })
    ≡ Some (record { place = record { steps = Key keys.KModel ∷ Key keys.KMain ∷ []; byte = None }; rule = 23 })
add-wrong-main = refl

empty-object : document_in (object no_members) ≡ Err (grammar (record { steps = []; byte = None }))
empty-object = refl

-- a document of version 1 with this output port in its one task
abbrev one_task : Data → Data
one_task port = object_of ((
  codes "model",
  object_of ((
    codes "tasks",
    array (items_from (object_of (
        (codes "kind", string (codes "elementary")) ∷ (codes "name", string (codes "Add")) ∷ (codes "in", array no_items) ∷ (codes "out", array (items_from (port ∷ []))) ∷ []) ∷ [])),
  )
      ∷ (codes "main", string (codes "Add")) ∷ []),
)
    ∷ (codes "input", object no_members) ∷ (codes "transform", array no_items) ∷ (codes "allocate", array no_items) ∷ [])

open-shape : document_in (one_task (object_of ((codes "name", string (codes "y")) ∷ (codes "shape", string (codes "{2,")) ∷ (codes "expr", string (codes "1")) ∷ [])))
    ≡ Err (grammar (record { steps = Key keys.KModel ∷ Key keys.KTasks ∷ At' 0 ∷ Key keys.KOut ∷ At' 0 ∷ Key keys.KShape ∷ []; byte = Some 3 }))
open-shape = refl

strange-key : document_in (one_task (object_of ((codes "name", string (codes "y")) ∷ (codes "note", null) ∷ (codes "shape", string (codes "{2,")) ∷ (codes "expr", string (codes "1")) ∷ [])))
    ≡ Err (grammar (record { steps = Key keys.KModel ∷ Key keys.KTasks ∷ At' 0 ∷ Key keys.KOut ∷ At' 0 ∷ []; byte = None }))
strange-key = refl

great-shape : document_in (one_task (object_of ((codes "name", string (codes "y")) ∷ (codes "shape", string (codes "{4194305}")) ∷ (codes "expr", string (codes "1")) ∷ [])))
    ≡ Err (limit (record { steps = Key keys.KModel ∷ Key keys.KTasks ∷ At' 0 ∷ Key keys.KOut ∷ At' 0 ∷ Key keys.KShape ∷ []; byte = Some 1 }) limits.Entry)
great-shape = refl

third-version : document_in (object_of ((codes "version", number (unsigned 3)) ∷ (codes "model", null) ∷ (codes "input", null) ∷ (codes "transform", null) ∷ (codes "allocate", null) ∷ []))
    ≡ Err (grammar (record { steps = Key keys.KVersion ∷ []; byte = None }))
third-version = refl

-- ---- a running sum over links

abbrev one_to_one : TilerOf
one_to_one = record { origin = pos 0 ∷ []; paving = (pos 1 ∷ []) ∷ []; fitting = [] }

abbrev acc_task : Task
acc_task = Elementary (record {
  name = codes "Acc";
  ins = record { name = codes "a"; shape = [] } ∷ record { name = codes "t"; shape = [] } ∷ [];
  outs = record { port = record { name = codes "s"; shape = [] }; expr = bin Add (read (codes "a") (trees [])) (read (codes "t") (trees [])) } ∷ [];
  wide_in = Int64 ∷ Int64 ∷ [];
  wide_out = Int64 ∷ [];
})

abbrev run_task : Task
run_task = Repeated (record {
  name = codes "Run6";
  ins = record { name = codes "x"; shape = 6 ∷ [] } ∷ [];
  outs = record { name = codes "y"; shape = 6 ∷ [] } ∷ [];
  space = 6 ∷ [];
  task = codes "Acc";
  tilers = record { outer = codes "x"; inner = codes "a"; tiler = one_to_one } ∷ record { outer = codes "y"; inner = codes "s"; tiler = one_to_one } ∷ [];
  links = record { from = codes "s"; to = codes "t"; distance = pos 1 ∷ []; wrap = false; rest = record { when = Always; take = Number (pos 0) } ∷ [] } ∷ [];
})

abbrev run_model : Model
run_model = record { tasks = acc_task ∷ run_task ∷ []; main = codes "Run6" }

run-agrees : first_misfit run_model ≡ None
run-agrees = refl

-- ---- texts and versions

add-printed : compact_text (document_tree add_model (record { input = record { name = codes "a"; nums = pos 1 ∷ pos 2 ∷ [] } ∷ []; transform = []; allocate = [] }))
    ≡ codes "{\"allocate\":[],\"input\":{\"a\":[1,2]},\"model\":{\"main\":\"Add\",\"tasks\":[{\"in\":[{\"name\":\"a\",\"shape\":\"{2,2}\"},{\"name\":\"b\",\"shape\":\"{2,2}\"}],\"kind\":\"elementary\",\"name\":\"Add\",\"out\":[{\"expr\":\"a{$0,$1}+b{$0,$1}\",\"name\":\"y\",\"shape\":\"{2,2}\"}]}]},\"transform\":[],\"version\":2}"
unfolding digits serde_json_on_literals
add-printed = refl

wrong-type : document_in (one_task (object_of ((codes "name", string (codes "y")) ∷ (codes "shape", string (codes "{}")) ∷ (codes "type", string (codes "int8")) ∷ (codes "expr", string (codes "1")) ∷ [])))
    ≡ Err (grammar (record { steps = Key keys.KModel ∷ Key keys.KTasks ∷ At' 0 ∷ Key keys.KOut ∷ At' 0 ∷ Key keys.KType ∷ []; byte = None }))
wrong-type = refl

many-ports : document_in (object_of ((
  codes "model",
  object_of ((
    codes "tasks",
    array (items_from (object_of (
        (codes "kind", string (codes "elementary")) ∷ (codes "name", string (codes "Add")) ∷ (codes "in", array (items_from (replicate 64 (port_tree (record { name = codes "x"; shape = [] })))))
        ∷ (codes "out", array (items_from (null ∷ []))) ∷ []) ∷ [])),
  )
      ∷ (codes "main", string (codes "Add")) ∷ []),
)
    ∷ (codes "input", object no_members) ∷ (codes "transform", array no_items) ∷ (codes "allocate", array no_items) ∷ []))
    ≡ Err (limit (record { steps = Key keys.KModel ∷ Key keys.KTasks ∷ At' 0 ∷ Key keys.KOut ∷ []; byte = None }) limits.Ports)
many-ports = refl

no-last-resort : first_misfit (record {
  tasks = acc_task ∷ Repeated (record {
    name = codes "Run6";
    ins = record { name = codes "x"; shape = 6 ∷ [] } ∷ [];
    outs = record { name = codes "y"; shape = 6 ∷ [] } ∷ [];
    space = 6 ∷ [];
    task = codes "Acc";
    tilers = record { outer = codes "x"; inner = codes "a"; tiler = one_to_one } ∷ record { outer = codes "y"; inner = codes "s"; tiler = one_to_one } ∷ [];
    links = record { from = codes "s"; to = codes "t"; distance = pos 1 ∷ []; wrap = false; rest = record { when = Low 0; take = Number (pos 0) } ∷ [] } ∷ [];
  }) ∷ [];
  main = codes "Run6";
})
    ≡ Some (record { place = record { steps = Key keys.KModel ∷ Key keys.KTasks ∷ At' 1 ∷ Key keys.KLinks ∷ At' 0 ∷ Key keys.KDefault ∷ []; byte = None }; rule = 24 })
no-last-resort = refl

-- ---- what a tree can be, and what the types guarantee

unordered-tree : is_tree (object (member (codes "b") null (member (codes "a") null no_members))) ≡ false
unordered-tree = refl

twice-tree : is_tree (object (member (codes "a") null (member (codes "a") null no_members))) ≡ false
twice-tree = refl

ordered-tree : is_tree (object (member (codes "a") null (member (codes "b") null no_members))) ≡ true
ordered-tree = refl

signed-tree : is_tree (number (negative (pos 18446744073709551616))) ≡ false
signed-tree = refl

least-tree : is_tree (number (negative (negsuc 9223372036854775807))) ≡ true
least-tree = refl

below-least-tree : is_tree (number (negative (negsuc 9223372036854775808))) ≡ false
below-least-tree = refl

add-tree : is_tree (document_tree add_model nothing) ≡ true
unfolding digits
add-tree = refl

add-names : HasNames add_model
add-names = refl

add-outputs : HasOutputs add_model
add-outputs = (omega arith, tt)
