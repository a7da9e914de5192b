-- A model that is tiled: each of ten numbers is raised by one.
use Rattle.std.specs.Prelude.{[], ◌∷◌, codes}
use Rattle.aol_model_types.specs.declared.document.Model.{Model}
use Rattle.aol_model_types.specs.declared.task.Repeated.{Repeated}
use Rattle.aol_model_types.specs.declared.task.Task.TheVariants as tasks
use Rattle.aol_change.proofs.Sample.{port, tiling, each_one, inc, repeating}

abbrev pub ten : Repeated
ten = repeating (codes "Ten") (port (codes "x") (10 ∷ [])) (port (codes "y") (10 ∷ [])) (10 ∷ []) (codes "Inc")
    (tiling (codes "x") (codes "a") each_one) (tiling (codes "y") (codes "s") each_one)

abbrev pub ten_model : Model
ten_model = record { tasks = tasks.Elementary inc ∷ tasks.Repeated ten ∷ []; main = codes "Ten" }

-- the same with two numbers
abbrev pub twin : Repeated
twin = record ten { ins = port (codes "x") (2 ∷ []) ∷ []; outs = port (codes "y") (2 ∷ []) ∷ []; space = 2 ∷ [] }

abbrev pub twin_model : Model
twin_model = record { tasks = tasks.Elementary inc ∷ tasks.Repeated twin ∷ []; main = codes "Ten" }
