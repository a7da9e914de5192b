-- Parts of small models, for the tests of transformations.
use Rattle.std.specs.Prelude.{ℕ, ℤ, pos, List, [], ◌∷◌, codes, false}
use Rattle.aol_tiler.specs.Matrices.{TilerOf}
use Rattle.aol_expr_tree.specs.declared.op.ExprOp.TheVariants.{Add}
use Rattle.aol_expr_tree.specs.declared.port.Port.{Port}
use Rattle.aol_expr_tree.specs.declared.value.Width.{Width}
use Rattle.aol_expr_tree.specs.declared.value.Width.TheVariants.{Int64}
use Rattle.aol_expr_tree.specs.Tree.{Tree, num, read, bin, trees}
use Rattle.aol_link.specs.declared.link.Fallback.TheVariants.{Number}
use Rattle.aol_link.specs.declared.link.When.TheVariants.{Always}
use Rattle.aol_model_types.specs.declared.document.Model.{Model}
use Rattle.aol_model_types.specs.declared.task.Elementary.{Elementary}
use Rattle.aol_model_types.specs.declared.task.Repeated.{Repeated}
use Rattle.aol_model_types.specs.declared.task.Task.TheVariants as tasks
use Rattle.aol_model_types.specs.declared.task.TilerOn.{TilerOn}

abbrev pub port : List ℕ → List ℕ → Port
port name shape = record { name = name; shape = shape }

abbrev pub over : List ℤ → List (List ℤ) → List (List ℤ) → TilerOf
over origin paving fitting = record { origin = origin; paving = paving; fitting = fitting }

abbrev pub tiling : List ℕ → List ℕ → TilerOf → TilerOn
tiling outer inner tiler = record { outer = outer; inner = inner; tiler = tiler }

-- each repetition its element
abbrev pub each_one : TilerOf
each_one = over (pos 0 ∷ []) ((pos 1 ∷ []) ∷ []) []

abbrev pub at : List ℕ → List ℕ → Tree
at name indices = read name (trees (constants indices))
  where
    constants : List ℕ → List Tree
    constants [] = []
    constants (i ∷ is) = num (pos i) ∷ constants is

abbrev pub computing : List ℕ → List Port → Port → Tree → Elementary
computing name ins out expr = record {
  name = name;
  ins = ins;
  outs = record { port = out; expr = expr } ∷ [];
  wide_in = wide ins;
  wide_out = Int64 ∷ [];
}
  where
    wide : List Port → List Width
    wide [] = []
    wide (p ∷ ps) = Int64 ∷ wide ps

abbrev pub inc : Elementary
inc = computing (codes "Inc") (port (codes "a") [] ∷ []) (port (codes "s") []) (bin Add (at (codes "a") []) (num (pos 1)))

abbrev pub acc : Elementary
acc = computing (codes "Acc") (port (codes "a") [] ∷ port (codes "t") [] ∷ []) (port (codes "s") []) (bin Add (at (codes "a") []) (at (codes "t") []))

-- a repetition with one input and one output, and no links
abbrev pub repeating : List ℕ → Port → Port → List ℕ → List ℕ → TilerOn → TilerOn → Repeated
repeating name x y space task from to = record { name = name; ins = x ∷ []; outs = y ∷ []; space = space; task = task; tilers = from ∷ to ∷ []; links = [] }

-- a running sum of six
abbrev pub run_model : Model
run_model = record {
  tasks = tasks.Elementary acc ∷ tasks.Repeated (record {
    name = codes "Run6";
    ins = port (codes "x") (6 ∷ []) ∷ [];
    outs = port (codes "y") (6 ∷ []) ∷ [];
    space = 6 ∷ [];
    task = codes "Acc";
    tilers = tiling (codes "x") (codes "a") each_one ∷ tiling (codes "y") (codes "s") each_one ∷ [];
    links = record { from = codes "s"; to = codes "t"; distance = pos 1 ∷ []; wrap = false; rest = record { when = Always; take = Number (pos 0) } ∷ [] } ∷ [];
  }) ∷ [];
  main = codes "Run6";
}
