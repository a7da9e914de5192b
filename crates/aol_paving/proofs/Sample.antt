-- A model of two levels: windows of two inside blocks of four. The last window of a block begins again at its first element.
use Rattle.std.specs.Prelude.{[], ◌∷◌, ◌++◌, codes, pos}
use Rattle.aol_tiler.specs.Matrices.{TilerOf}
use Rattle.aol_expr_tree.specs.declared.op.ExprOp.TheVariants.{Add}
use Rattle.aol_expr_tree.specs.Tree.{bin}
use Rattle.aol_model_types.specs.declared.document.Model.{Model}
use Rattle.aol_model_types.specs.declared.task.Elementary.{Elementary}
use Rattle.aol_model_types.specs.declared.task.Repeated.{Repeated}
use Rattle.aol_model_types.specs.declared.task.Task.TheVariants as tasks
use Rattle.aol_change.proofs.Sample.{port, tiling, over, each_one, at, computing, repeating, inc, run_model}

abbrev pub win : Elementary
win = computing (codes "Win") (port (codes "w") (2 ∷ []) ∷ []) (port (codes "s") []) (bin Add (at (codes "w") (0 ∷ [])) (at (codes "w") (1 ∷ [])))

abbrev pub mid : Repeated
mid = repeating (codes "Mid") (port (codes "m") (4 ∷ [])) (port (codes "n") (4 ∷ [])) (4 ∷ []) (codes "Win")
    (tiling (codes "m") (codes "w") (over (pos 0 ∷ []) ((pos 1 ∷ []) ∷ []) ((pos 1 ∷ []) ∷ []))) (tiling (codes "n") (codes "s") each_one)

abbrev fours : TilerOf
fours = over (pos 0 ∷ []) ((pos 4 ∷ []) ∷ []) ((pos 1 ∷ []) ∷ [])

abbrev pub wrap : Repeated
wrap = repeating (codes "Wrap") (port (codes "x") (8 ∷ [])) (port (codes "y") (8 ∷ [])) (2 ∷ []) (codes "Mid")
    (tiling (codes "x") (codes "m") fours) (tiling (codes "y") (codes "n") fours)

abbrev pub wrap_model : Model
wrap_model = record { tasks = tasks.Elementary win ∷ tasks.Repeated mid ∷ tasks.Repeated wrap ∷ []; main = codes "Wrap" }

-- two rows of running sums, whose inner level has a link
abbrev rows_of : TilerOf
rows_of = over (pos 0 ∷ pos 0 ∷ []) ((pos 1 ∷ pos 0 ∷ []) ∷ []) ((pos 0 ∷ pos 1 ∷ []) ∷ [])

abbrev rows : Repeated
rows = repeating (codes "Rows") (port (codes "x") (2 ∷ 6 ∷ [])) (port (codes "y") (2 ∷ 6 ∷ [])) (2 ∷ []) (codes "Run6")
    (tiling (codes "x") (codes "x") rows_of) (tiling (codes "y") (codes "y") rows_of)

abbrev pub rows_model : Model
rows_model = record { tasks = run_model.tasks ++ tasks.Repeated rows ∷ []; main = codes "Rows" }

-- one level: each of ten numbers is raised by one
abbrev pub ten_model : Model
ten_model = record {
  tasks = tasks.Elementary inc
      ∷ tasks.Repeated (repeating (codes "Ten") (port (codes "x") (10 ∷ [])) (port (codes "y") (10 ∷ [])) (10 ∷ []) (codes "Inc") (tiling (codes "x") (codes "a") each_one) (tiling (codes "y") (codes "s") each_one)) ∷ [];
  main = codes "Ten";
}
