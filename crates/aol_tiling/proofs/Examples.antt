-- What the definitions say of these models, by computation.
use Rattle.std.specs.Prelude.{◌≡◌, refl, ℕ, zero, suc, List, [], ◌∷◌, map, Option, Some, None, option_map, codes, pos, slice_get, slice_index}
use Rattle.std.proofs.Common.{ap}
use Rattle.std.specs.Fmt.{digits}
use Rattle.aol_shape.specs.declared.limit.LimitName.TheVariants as limits
use Rattle.aol_model_types.specs.declared.document.Model.{Model}
use Rattle.aol_model_types.specs.declared.task.Task.{Task}
use Rattle.aol_model_types.specs.declared.task.Task.TheVariants as tasks
use Rattle.aol_model_types.specs.declared.task.TilerOn.{TilerOn}
use Rattle.aol_model_types.specs.Rules.{task_name, ShapesAgree}
use Rattle.aol_change.specs.declared.refused.StepRefused.TheVariants.{NotRepeated, HasLinks, Rank, Limit}
use Rattle.aol_flat.specs.declared.view.Writer.{Writer}
use Rattle.aol_flat.specs.Place.{IntoRepetition}
use Rattle.aol_flat.specs.Instance.{Instance, Run, instances}
use Rattle.aol_flat.specs.Targets.{Twice, first_twice}
use Rattle.aol_change.specs.Change.{Stepped, Changed, Refused, new_name, IsMapOf}
use Rattle.aol_change.proofs.Sample.{tiling, over, inc, run_model}
use Rattle.aol_tiling.specs.Tile.{tile, tiled_model, tile_origin}
use Rattle.aol_tiling.proofs.Sample.{ten, ten_model, twin, twin_model}

ten_agrees : ShapesAgree ten_model
ten_agrees = refl

-- ---- the model

abbrev names_of : Stepped → List (List ℕ)
names_of (Changed m) = map task_name m.tasks
names_of (Refused cause) = []

new_name_of_ten : new_name ten_model [] (codes "Ten") ≡ codes "Ten_1"
unfolding digits
new_name_of_ten = refl

tiled_names : names_of (tile ten_model (codes "Ten") (5 ∷ []) (2 ∷ [])) ≡ codes "Inc" ∷ codes "Ten_1" ∷ codes "Ten" ∷ []
unfolding digits
tiled_names = refl

tiled_agrees : ShapesAgree (tiled_model ten_model ten (5 ∷ []) (2 ∷ []))
unfolding digits
tiled_agrees = refl

abbrev tilers_of : Task → List TilerOn
tilers_of (tasks.Repeated t) = t.tilers
tilers_of _ = []

abbrev tilers_at : Stepped → ℕ → List TilerOn
tilers_at (Changed m) k = elim (slice_get m.tasks k) [ Some t ↦ tilers_of t | None ↦ [] ]
tilers_at (Refused cause) k = []

tiled_tiler : slice_get (tilers_at (tile ten_model (codes "Ten") (5 ∷ []) (2 ∷ [])) 2) 0
    ≡ Some (tiling (codes "x") (codes "a") (over (pos 0 ∷ []) ((pos 2 ∷ []) ∷ []) ((pos 1 ∷ []) ∷ [])))
unfolding digits
tiled_tiler = refl

-- in three blocks of four, two blocks write one point
abbrev shown : Twice → (List ℕ × List ℕ) × (Writer × Writer)
shown t = ((t.target.port, t.point), (t.first, t.second))

abbrev twice_of : Stepped → Option ((List ℕ × List ℕ) × (Writer × Writer))
twice_of (Changed m) = option_map shown (first_twice m)
twice_of (Refused cause) = None

tiled_twice : twice_of (tile ten_model (codes "Ten") (3 ∷ []) (4 ∷ []))
    ≡ Some ((codes "y", 0 ∷ []), (record { item = 1; rep = 0 ∷ []; pattern = 0 ∷ [] }, record { item = 1; rep = 2 ∷ []; pattern = 2 ∷ [] }))
unfolding digits
tiled_twice = refl

-- ---- causes

elementary_is_not_repeated : tile ten_model (codes "Inc") (5 ∷ []) (2 ∷ []) ≡ Refused NotRepeated
elementary_is_not_repeated = refl

nothing_is_not_repeated : tile ten_model (codes "None") (5 ∷ []) (2 ∷ []) ≡ Refused NotRepeated
nothing_is_not_repeated = refl

run_has_links : tile run_model (codes "Run6") (3 ∷ []) (2 ∷ []) ≡ Refused HasLinks
run_has_links = refl

outer_has_other_rank : tile ten_model (codes "Ten") (5 ∷ 1 ∷ []) (2 ∷ []) ≡ Refused Rank
outer_has_other_rank = refl

-- ---- limits

-- a name of 63 characters has room for no number
abbrev long_name : List ℕ
long_name = codes "a23456789012345678901234567890123456789012345678901234567890123"

long_name_limit : tile (record { tasks = tasks.Elementary inc ∷ tasks.Repeated (record ten { name = long_name }) ∷ []; main = long_name }) long_name (5 ∷ []) (2 ∷ [])
    ≡ Refused (Limit limits.Name)
unfolding digits
long_name_limit = refl

-- a block past the greatest number of points
block_limit : tile ten_model (codes "Ten") (1 ∷ []) (4194305 ∷ []) ≡ Refused (Limit limits.Points)
unfolding digits
block_limit = refl

-- ---- the map

-- the second repetition of the fourth block was the eighth
tiled_origin : tile_origin ten_model ten (2 ∷ []) (tiled_model ten_model ten (5 ∷ []) (2 ∷ [])) (Run (IntoRepetition (1 ∷ []) ∷ IntoRepetition (3 ∷ []) ∷ []))
    ≡ Run (IntoRepetition (7 ∷ []) ∷ [])
unfolding digits
tiled_origin = refl

abbrev twin_tiled : Model
twin_tiled = tiled_model twin_model twin (2 ∷ []) (1 ∷ [])

-- a list of zeros is no map
repetitions_differ : Some (Run (IntoRepetition (0 ∷ []) ∷ [])) ≡ Some (Run (IntoRepetition (1 ∷ []) ∷ [])) → ⊥
repetitions_differ h = cc

zeros_are_no_map : IsMapOf twin_model twin_tiled (tile_origin twin_model twin (1 ∷ []) twin_tiled) (0 ∷ 0 ∷ []) → ⊥
unfolding digits
zeros_are_no_map h = repetitions_differ (h.number 1 (Run (IntoRepetition (0 ∷ []) ∷ IntoRepetition (1 ∷ []) ∷ [])) refl)

-- the numbers in order are one
each_of_two : (j : ℕ) (i : Instance) → slice_get (instances twin_tiled) j ≡ Some i
    → slice_get (instances twin_model) (slice_index (0 ∷ 1 ∷ []) j) ≡ Some (tile_origin twin_model twin (1 ∷ []) twin_tiled i)
unfolding digits
each_of_two zero i h = ap (option_map (tile_origin twin_model twin (1 ∷ []) twin_tiled)) h
each_of_two (suc zero) i h = ap (option_map (tile_origin twin_model twin (1 ∷ []) twin_tiled)) h
each_of_two (suc (suc j)) i h = absurd (cc)

twin_map : IsMapOf twin_model twin_tiled (tile_origin twin_model twin (1 ∷ []) twin_tiled) (0 ∷ 1 ∷ [])
unfolding digits
twin_map = record { each = refl; number = each_of_two }
