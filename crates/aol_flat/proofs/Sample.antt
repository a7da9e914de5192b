-- Some small models.
use Rattle.std.specs.Prelude.{ℕ, ℤ, pos, negsuc, List, [], ◌∷◌, Some, None, codes, false}
use Rattle.aol_tiler.specs.Matrices.{TilerOf}
use Rattle.aol_expr_tree.specs.declared.op.ExprOp.TheVariants.{Add}
use Rattle.aol_expr_tree.specs.declared.port.Port.{Port}
use Rattle.aol_expr_tree.specs.declared.value.Width.{Width}
use Rattle.aol_expr_tree.specs.declared.value.Width.TheVariants.{Int64}
use Rattle.aol_expr_tree.specs.Tree.{Tree, num, index, read, bin, trees}
use Rattle.aol_link.specs.declared.link.Fallback.TheVariants.{Number}
use Rattle.aol_link.specs.declared.link.When.TheVariants.{Always}
use Rattle.aol_model_types.specs.declared.document.Model.{Model}
use Rattle.aol_model_types.specs.declared.task.Elementary.{Elementary}
use Rattle.aol_model_types.specs.declared.task.Hook.{Hook}
use Rattle.aol_model_types.specs.declared.task.Part.{Part}
use Rattle.aol_model_types.specs.declared.task.Plain.{Plain}
use Rattle.aol_model_types.specs.declared.task.Repeated.{Repeated}
use Rattle.aol_model_types.specs.declared.task.Task.{Task}
use Rattle.aol_model_types.specs.declared.task.Task.TheVariants as tasks
use Rattle.aol_model_types.specs.declared.task.TilerOn.{TilerOn}

-- ---- ports, links and tilers

abbrev pub port : List ℕ → List ℕ → Port
port name shape = record { name = name; shape = shape }

abbrev pub own : List ℕ → Hook
own name = record { part = None; port = name }

abbrev pub of_part : List ℕ → List ℕ → Hook
of_part part name = record { part = Some part; port = name }

abbrev pub plain : Hook → Hook → Plain
plain from to = record { from = from; to = to }

abbrev pub part : List ℕ → List ℕ → Part
part name task = record { name = name; task = task }

abbrev pub over : List ℤ → List (List ℤ) → List (List ℤ) → TilerOf
over origin paving fitting = record { origin = origin; paving = paving; fitting = fitting }

abbrev pub tiling : List ℕ → List ℕ → TilerOf → TilerOn
tiling outer inner tiler = record { outer = outer; inner = inner; tiler = tiler }

-- each repetition its element
abbrev pub each_one : TilerOf
each_one = over (pos 0 ∷ []) ((pos 1 ∷ []) ∷ []) []

-- ---- tasks that compute

abbrev pub at : List ℕ → List ℕ → Tree
at name indices = read name (trees (constants indices))
  where
    constants : List ℕ → List Tree
    constants [] = []
    constants (i ∷ is) = num (pos i) ∷ constants is

abbrev pub computing : List ℕ → List Port → Port → Tree → Elementary
computing name ins out expr = record {
  name = name;
  ins = ins;
  outs = record { port = out; expr = expr } ∷ [];
  wide_in = wide ins;
  wide_out = Int64 ∷ [];
}
  where
    wide : List Port → List Width
    wide [] = []
    wide (p ∷ ps) = Int64 ∷ wide ps

abbrev pub tap : Elementary
tap = computing (codes "Tap") (port (codes "w") (3 ∷ []) ∷ []) (port (codes "s") [])
    (bin Add (bin Add (at (codes "w") (0 ∷ [])) (at (codes "w") (1 ∷ []))) (at (codes "w") (2 ∷ [])))

abbrev pub inc : Elementary
inc = computing (codes "Inc") (port (codes "a") [] ∷ []) (port (codes "s") []) (bin Add (at (codes "a") []) (num (pos 1)))

abbrev pub acc : Elementary
acc = computing (codes "Acc") (port (codes "a") [] ∷ port (codes "t") [] ∷ []) (port (codes "s") []) (bin Add (at (codes "a") []) (at (codes "t") []))

abbrev pub trip : Elementary
trip = computing (codes "Trip") (port (codes "a") [] ∷ []) (port (codes "t") (3 ∷ [])) (bin Add (at (codes "a") []) (index 0))

-- ---- models

-- a repetition with one input and one output, and no links
abbrev pub repeating : List ℕ → Port → Port → List ℕ → List ℕ → TilerOn → TilerOn → Repeated
repeating name x y space task from to = record { name = name; ins = x ∷ []; outs = y ∷ []; space = space; task = task; tilers = from ∷ to ∷ []; links = [] }

abbrev pub one_model : Model
one_model = record {
  tasks = tasks.Elementary inc
      ∷ tasks.Repeated (repeating (codes "One") (port (codes "x") []) (port (codes "y") []) [] (codes "Inc") (tiling (codes "x") (codes "a") (over [] [] [])) (tiling (codes "y") (codes "s") (over [] [] [])))
      ∷ [];
  main = codes "One";
}

-- sums of three neighbours
abbrev pub filter : Task
filter = tasks.Repeated (repeating (codes "Filter") (port (codes "x") (8 ∷ [])) (port (codes "y") (8 ∷ [])) (8 ∷ []) (codes "Tap")
    (tiling (codes "x") (codes "w") (over (negsuc 0 ∷ []) ((pos 1 ∷ []) ∷ []) ((pos 1 ∷ []) ∷ []))) (tiling (codes "y") (codes "s") each_one))

abbrev pub filter_model : Model
filter_model = record { tasks = tasks.Elementary tap ∷ filter ∷ []; main = codes "Filter" }

-- a filter, and sums of three at each second place of what it gives
abbrev pub deci : Task
deci = tasks.Repeated (repeating (codes "Deci") (port (codes "x") (8 ∷ [])) (port (codes "z") (4 ∷ [])) (4 ∷ []) (codes "Tap")
    (tiling (codes "x") (codes "w") (over (pos 0 ∷ []) ((pos 2 ∷ []) ∷ []) ((pos 1 ∷ []) ∷ []))) (tiling (codes "z") (codes "s") each_one))

abbrev pub chain_model : Model
chain_model = record {
  tasks = tasks.Elementary tap ∷ filter ∷ deci ∷ tasks.Compound (record {
    name = codes "Chain";
    ins = port (codes "x") (8 ∷ []) ∷ [];
    outs = port (codes "z") (4 ∷ []) ∷ [];
    parts = part (codes "f") (codes "Filter") ∷ part (codes "g") (codes "Deci") ∷ [];
    links = plain (own (codes "x")) (of_part (codes "f") (codes "x"))
        ∷ plain (of_part (codes "f") (codes "y")) (of_part (codes "g") (codes "x"))
        ∷ plain (of_part (codes "g") (codes "z")) (own (codes "z"))
        ∷ [];
    reshapes = [];
  }) ∷ [];
  main = codes "Chain";
}

-- a running sum of six
abbrev pub run_model : Model
run_model = record {
  tasks = tasks.Elementary acc ∷ tasks.Repeated (record {
    name = codes "Run6";
    ins = port (codes "x") (6 ∷ []) ∷ [];
    outs = port (codes "y") (6 ∷ []) ∷ [];
    space = 6 ∷ [];
    task = codes "Acc";
    tilers = tiling (codes "x") (codes "a") each_one ∷ tiling (codes "y") (codes "s") each_one ∷ [];
    links = record { from = codes "s"; to = codes "t"; distance = pos 1 ∷ []; wrap = false; rest = record { when = Always; take = Number (pos 0) } ∷ [] } ∷ [];
  }) ∷ [];
  main = codes "Run6";
}

-- two parts that each need the other
abbrev pub loop_model : Model
loop_model = record {
  tasks = tasks.Elementary acc ∷ tasks.Compound (record {
    name = codes "Loop";
    ins = port (codes "x") [] ∷ [];
    outs = port (codes "y") [] ∷ [];
    parts = part (codes "f") (codes "Acc") ∷ part (codes "g") (codes "Acc") ∷ [];
    links = plain (own (codes "x")) (of_part (codes "f") (codes "a"))
        ∷ plain (of_part (codes "g") (codes "s")) (of_part (codes "f") (codes "t"))
        ∷ plain (own (codes "x")) (of_part (codes "g") (codes "a"))
        ∷ plain (of_part (codes "f") (codes "s")) (of_part (codes "g") (codes "t"))
        ∷ plain (of_part (codes "f") (codes "s")) (own (codes "y"))
        ∷ [];
    reshapes = [];
  }) ∷ [];
  main = codes "Loop";
}

-- a reshape from {2,3} to {3,2}
abbrev pub flip_model : Model
flip_model = record {
  tasks = tasks.Compound (record {
    name = codes "Flip";
    ins = port (codes "x") (2 ∷ 3 ∷ []) ∷ [];
    outs = port (codes "y") (3 ∷ 2 ∷ []) ∷ [];
    parts = [];
    links = [];
    reshapes = record {
      from = own (codes "x");
      to = own (codes "y");
      by = record {
        space = 2 ∷ [];
        pattern = 3 ∷ [];
        source = over (pos 0 ∷ pos 0 ∷ []) ((pos 1 ∷ pos 0 ∷ []) ∷ []) ((pos 0 ∷ pos 1 ∷ []) ∷ []);
        target = over (pos 0 ∷ pos 0 ∷ []) ((pos 0 ∷ pos 1 ∷ []) ∷ []) ((pos 1 ∷ pos 0 ∷ []) ∷ []);
      };
    } ∷ [];
  }) ∷ [];
  main = codes "Flip";
}

-- three elements at each second place
abbrev pub spread_model : Model
spread_model = record {
  tasks = tasks.Elementary trip
      ∷ tasks.Repeated (repeating (codes "Spread") (port (codes "x") (4 ∷ [])) (port (codes "y") (8 ∷ [])) (4 ∷ []) (codes "Trip")
      (tiling (codes "x") (codes "a") each_one) (tiling (codes "y") (codes "t") (over (pos 0 ∷ []) ((pos 2 ∷ []) ∷ []) ((pos 1 ∷ []) ∷ []))))
      ∷ [];
  main = codes "Spread";
}
