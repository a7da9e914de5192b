-- Some small models, and the entries of one.
use Rattle.std.specs.Prelude.{ℕ, ℤ, pos, negsuc, List, [], ◌∷◌, None, codes}
use Rattle.aol_tiler.specs.Matrices.{TilerOf}
use Rattle.aol_expr_tree.specs.declared.op.ExprOp.TheVariants.{Add, Sub}
use Rattle.aol_expr_tree.specs.declared.port.Port.{Port}
use Rattle.aol_expr_tree.specs.declared.value.Width.TheVariants.{Int64}
use Rattle.aol_expr_tree.specs.Tree.{Tree, num, read, bin, trees}
use Rattle.aol_model_types.specs.declared.document.Model.{Model}
use Rattle.aol_model_types.specs.declared.job.Entry.{Entry}
use Rattle.aol_model_types.specs.declared.task.Elementary.{Elementary}
use Rattle.aol_model_types.specs.declared.task.Hook.{Hook}
use Rattle.aol_model_types.specs.declared.task.Repeated.{Repeated}
use Rattle.aol_model_types.specs.declared.task.Task.TheVariants as tasks
use Rattle.aol_model_types.specs.declared.task.TilerOn.{TilerOn}

-- ---- ports and tilers

abbrev pub port : List ℕ → List ℕ → Port
port name shape = record { name = name; shape = shape }

abbrev pub own : List ℕ → Hook
own name = record { part = None; port = name }

abbrev pub over : List ℤ → List (List ℤ) → List (List ℤ) → TilerOf
over origin paving fitting = record { origin = origin; paving = paving; fitting = fitting }

abbrev pub tiling : List ℕ → List ℕ → TilerOf → TilerOn
tiling outer inner tiler = record { outer = outer; inner = inner; tiler = tiler }

-- each repetition of a space with two entries its element
abbrev pub each_one : TilerOf
each_one = over (pos 0 ∷ pos 0 ∷ []) ((pos 1 ∷ pos 0 ∷ []) ∷ (pos 0 ∷ pos 1 ∷ []) ∷ []) []

-- the same with both indices exchanged
abbrev pub exchanged : TilerOf
exchanged = over (pos 0 ∷ pos 0 ∷ []) ((pos 0 ∷ pos 1 ∷ []) ∷ (pos 1 ∷ pos 0 ∷ []) ∷ []) []

-- the first column alone, whatever the second index
abbrev pub first_column : TilerOf
first_column = over (pos 0 ∷ pos 0 ∷ []) ((pos 1 ∷ pos 0 ∷ []) ∷ (pos 0 ∷ pos 0 ∷ []) ∷ []) []

-- ---- models

abbrev pub at : List ℕ → List Tree → Tree
at name indices = read name (trees indices)

-- a task with one input, one output and one expression
abbrev pub computing : List ℕ → Port → Port → Tree → Elementary
computing name a s expr = record { name = name; ins = a ∷ []; outs = record { port = s; expr = expr } ∷ []; wide_in = Int64 ∷ []; wide_out = Int64 ∷ [] }

-- a repetition with one input and one output, and no links
abbrev pub repeating : List ℕ → Port → Port → List ℕ → List ℕ → TilerOn → TilerOn → Repeated
repeating name x y space task from to = record { name = name; ins = x ∷ []; outs = y ∷ []; space = space; task = task; tilers = from ∷ to ∷ []; links = [] }

-- sums of three neighbours
abbrev pub filter_model : Model
filter_model = record {
  tasks = tasks.Elementary (computing (codes "Tap") (port (codes "w") (3 ∷ [])) (port (codes "s") [])
      (bin Add (bin Add (at (codes "w") (num (pos 0) ∷ [])) (at (codes "w") (num (pos 1) ∷ []))) (at (codes "w") (num (pos 2) ∷ []))))
      ∷ tasks.Repeated (repeating (codes "Filter") (port (codes "x") (8 ∷ [])) (port (codes "y") (8 ∷ [])) (8 ∷ []) (codes "Tap")
      (tiling (codes "x") (codes "w") (over (negsuc 0 ∷ []) ((pos 1 ∷ []) ∷ []) ((pos 1 ∷ []) ∷ []))) (tiling (codes "y") (codes "s") (over (pos 0 ∷ []) ((pos 1 ∷ []) ∷ []) [])))
      ∷ [];
  main = codes "Filter";
}

-- one number less for each point of a square
abbrev pub grid_model : Model
grid_model = record {
  tasks = tasks.Elementary (computing (codes "Dec") (port (codes "a") []) (port (codes "s") []) (bin Sub (at (codes "a") []) (num (pos 1))))
      ∷ tasks.Repeated (repeating (codes "Grid") (port (codes "x") (2 ∷ 2 ∷ [])) (port (codes "y") (2 ∷ 2 ∷ [])) (2 ∷ 2 ∷ []) (codes "Dec")
      (tiling (codes "x") (codes "a") each_one) (tiling (codes "y") (codes "s") each_one))
      ∷ [];
  main = codes "Grid";
}

-- a reshape from {2,3} to {3,2}
abbrev pub flip_model : Model
flip_model = record {
  tasks = tasks.Compound (record {
    name = codes "Flip";
    ins = port (codes "x") (2 ∷ 3 ∷ []) ∷ [];
    outs = port (codes "y") (3 ∷ 2 ∷ []) ∷ [];
    parts = [];
    links = [];
    reshapes = record {
      from = own (codes "x");
      to = own (codes "y");
      by = record {
        space = 2 ∷ [];
        pattern = 3 ∷ [];
        source = over (pos 0 ∷ pos 0 ∷ []) ((pos 1 ∷ pos 0 ∷ []) ∷ []) ((pos 0 ∷ pos 1 ∷ []) ∷ []);
        target = over (pos 0 ∷ pos 0 ∷ []) ((pos 0 ∷ pos 1 ∷ []) ∷ []) ((pos 1 ∷ pos 0 ∷ []) ∷ []);
      };
    } ∷ [];
  }) ∷ [];
  main = codes "Flip";
}

-- an entry of the leaf with this path, on four processors in a square
abbrev pub entry : List ℕ → TilerOf → List ℕ → Entry
entry leaf from space = record { leaf = leaf; processors = 2 ∷ 2 ∷ []; space = space; pattern = []; from = from; to = exchanged }
