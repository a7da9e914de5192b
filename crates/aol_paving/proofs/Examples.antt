-- What the definitions say of these models, by computation.
use Rattle.std.specs.Prelude.{◌≡◌, refl, ℕ, List, [], ◌∷◌, map, Option, Some, codes, pos, slice_get}
use Rattle.std.specs.Fmt.{digits}
use Rattle.aol_shape.specs.declared.limit.LimitName.TheVariants as limits
use Rattle.aol_model_types.specs.declared.document.Model.{Model}
use Rattle.aol_model_types.specs.declared.task.Task.{Task}
use Rattle.aol_model_types.specs.declared.task.Task.TheVariants as tasks
use Rattle.aol_model_types.specs.declared.task.TilerOn.{TilerOn}
use Rattle.aol_model_types.specs.Rules.{task_name, ShapesAgree}
use Rattle.aol_flat.specs.Home.{Home, home_of, Kept}
use Rattle.aol_flat.specs.Instance.{Run}
use Rattle.aol_flat.specs.Place.{IntoRepetition}
use Rattle.aol_change.specs.declared.refused.StepRefused.TheVariants.{NotRepeated, NotTwoLevels, HasLinks, Rank, Limit}
use Rattle.aol_change.specs.Change.{Changed, Refused}
use Rattle.aol_change.proofs.Sample.{tiling, over, run_model}
use Rattle.aol_paving.specs.Pave.{pave, paved_model, pave_origin}
use Rattle.aol_paving.proofs.Sample.{mid, wrap, wrap_model, rows_model, ten_model}

wrap_agrees : ShapesAgree wrap_model
wrap_agrees = refl

-- ---- the model

abbrev paved_wrap : Model
paved_wrap = paved_model wrap_model wrap mid (1 ∷ []) (2 ∷ [])

paved_is : pave wrap_model (codes "Wrap") (1 ∷ []) (2 ∷ []) ≡ Changed paved_wrap
unfolding digits
paved_is = refl

paved_agrees : ShapesAgree paved_wrap
unfolding digits
paved_agrees = refl

paved_names : map task_name paved_wrap.tasks ≡ codes "Win" ∷ codes "Mid" ∷ codes "Wrap_1" ∷ codes "Wrap" ∷ []
unfolding digits
paved_names = refl

abbrev tilers_of : Option Task → List TilerOn
tilers_of (Some (tasks.Repeated t)) = t.tilers
tilers_of _ = []

-- one repetition has both blocks: its pattern is a block, a window in it, and an element of the window
paved_tiler : slice_get (tilers_of (slice_get paved_wrap.tasks 3)) 0
    ≡ Some (tiling (codes "x") (codes "w") (over (pos 0 ∷ []) ((pos 8 ∷ []) ∷ []) ((pos 4 ∷ []) ∷ (pos 1 ∷ []) ∷ (pos 1 ∷ []) ∷ [])))
unfolding digits
paved_tiler = refl

-- the second input of the last window of the first block: the composition forgets that the window begins again, and reads past the block
abbrev read_of : Model → List ℕ → List ℕ → Home
read_of m block window = home_of m (record { place = IntoRepetition window ∷ IntoRepetition block ∷ []; port = codes "w"; index = 1 ∷ [] })

paved_read : read_of paved_wrap (0 ∷ []) (0 ∷ 3 ∷ []) ≡ Kept (record { place = []; port = codes "x"; index = 4 ∷ [] })
unfolding digits
paved_read = refl

old_read : read_of wrap_model (0 ∷ []) (3 ∷ []) ≡ Kept (record { place = []; port = codes "x"; index = 0 ∷ [] })
old_read = refl

-- ---- causes

elementary_is_not_repeated : pave wrap_model (codes "Win") (1 ∷ []) (2 ∷ []) ≡ Refused NotRepeated
elementary_is_not_repeated = refl

ten_has_one_level : pave ten_model (codes "Ten") (5 ∷ []) (2 ∷ []) ≡ Refused NotTwoLevels
ten_has_one_level = refl

-- the levels are counted before the links
run_has_one_level : pave run_model (codes "Run6") (3 ∷ []) (2 ∷ []) ≡ Refused NotTwoLevels
run_has_one_level = refl

inner_level_has_links : pave rows_model (codes "Rows") (1 ∷ []) (2 ∷ []) ≡ Refused HasLinks
inner_level_has_links = refl

block_has_other_rank : pave wrap_model (codes "Wrap") (1 ∷ []) (2 ∷ 1 ∷ []) ≡ Refused Rank
block_has_other_rank = refl

-- ---- limits

-- a block that has no room beside the inner space
block_limit : pave wrap_model (codes "Wrap") (1 ∷ []) (1048577 ∷ []) ≡ Refused (Limit limits.Points)
unfolding digits
block_limit = refl

-- ---- the map

paved_origin : pave_origin wrap_model wrap (2 ∷ []) paved_wrap (Run (IntoRepetition (0 ∷ 3 ∷ []) ∷ IntoRepetition (0 ∷ []) ∷ []))
    ≡ Run (IntoRepetition (3 ∷ []) ∷ IntoRepetition (0 ∷ []) ∷ [])
unfolding digits
paved_origin = refl

-- the second block of two was the second of the first
paved_second : pave_origin wrap_model wrap (2 ∷ []) paved_wrap (Run (IntoRepetition (1 ∷ 3 ∷ []) ∷ IntoRepetition (0 ∷ []) ∷ []))
    ≡ Run (IntoRepetition (3 ∷ []) ∷ IntoRepetition (1 ∷ []) ∷ [])
unfolding digits
paved_second = refl
