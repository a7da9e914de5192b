-- The levels of a run one after another.
use Rattle.std.proofs.Common.{◌≡◌, ℕ, ◌+◌, ◌<◌, List, length, map, get_or, slice_get, Option, Some, sym, ◌∙◌, ap, arith, subst}
use Rattle.std.specs.Prelude.{EachIndex}
use Rattle.std.proofs.lemmas.List.{length-map, length-replicate}
use Rattle.std.proofs.lemmas.Option.{slice_get-get_or}
use Rattle.aol_shape.specs.Lists.{numbers_below}
use Rattle.aol_model_types.specs.declared.job.InputArray.{InputArray}
use Rattle.aol_allocate.specs.Placement.{IsPlacement}
use Rattle.aol_flat.specs.InstanceNeed.{AreLevelsOf, level_count}
use Rattle.aol_flat.specs.Laid.{Laid}
use Rattle.aol_flat.specs.Net.{opening}
use Rattle.aol_flat.specs.Accept.{IsAccepted, IsFlat}
use Rattle.aol_flat.proofs.Totals.{length-numbers}
use Rattle.aol_level.specs.Round.{CanRunAtOnce, IsAfter}
use Rattle.aol_level.specs.declared.kept.Kept.{Kept}
use Rattle.aol_runner.specs.Order.{level_instances, order_of}
use Rattle.aol_runner.specs.Run.{fresh}
use Rattle.aol_runner.specs.Through.{AreThrough}
use Rattle.aol_runner.proofs.Aligned.{some_injective, get_map}
use Rattle.aol_runner.proofs.AtOnce.{can_run}
use Rattle.aol_runner.proofs.LevelSteps.{through_more}
use Rattle.aol_runner.proofs.Opened.{numbers_get}
use Rattle.aol_runner.proofs.Writers.{each_below}

-- each level is below their count
pub levels_below : (levels : List ℕ) (count : ℕ) → count ≡ level_count levels → EachIndex levels (λ j. get_or levels j 0 < count)
levels_below levels count is = λ j within.
    let below = each_below levels 0 j (get_or levels j 0) (slice_get-get_or levels j 0 within) in
    omega (arith, below, is)

pub order_many : (order : List (List ℕ)) (levels workers : List ℕ) (many count : ℕ) → order ≡ order_of levels workers many count → length order ≡ count
order_many order levels workers many count is = ap length is ∙ (length-map (numbers_below count) (level_instances levels workers many) ∙ length-numbers 0 count)

-- the list of a level
level_is : (order : List (List ℕ)) (levels workers at_once : List ℕ) (many count level : ℕ) → order ≡ order_of levels workers many count → level < count → slice_get order level ≡ Some at_once
    → at_once ≡ level_instances levels workers many level
level_is order levels workers at_once many count level is lt at =
    let zeroth : 0 + level ≡ level = omega arith in
    let there : slice_get (order_of levels workers many count) level ≡ Some (level_instances levels workers many level) =
    get_map (level_instances levels workers many) (numbers_below count) level level (numbers_get 0 count level lt ∙ ap (λ n. Some n) zeroth) in
    some_injective at_once (level_instances levels workers many level) (sym at ∙ (ap (λ ls. slice_get ls level) is ∙ there))

module _ (f g : Laid) (levels workers : List ℕ) (many count level : ℕ) (order : List (List ℕ)) (at_once : List ℕ) (same : g ≡ f) (flat : IsFlat f) (accepted : IsAccepted f.model) (are : AreLevelsOf f.model levels)
    (is : order ≡ order_of levels workers many count) (lt : level < count) (at : slice_get order level ≡ Some at_once) where
  pub at_once_runs : CanRunAtOnce g workers at_once
  at_once_runs =
      let P : Laid → Type 0 = λ l. CanRunAtOnce l workers at_once in
      subst P (sym same) (can_run f levels workers many level flat.sound accepted flat.laid are at_once (level_is order levels workers at_once many count level is lt at))

  pub through_next : IsPlacement f.model workers many → (inputs : List InputArray) (old new : List (Option Kept)) → length old ≡ length f.cells → length new ≡ length old → IsAfter g workers at_once old new
      → AreThrough f levels workers inputs level old → AreThrough f levels workers inputs (level + 1) new
  through_next placed inputs old new cells long after through = λ net mem is_net over.
      let P : Laid → Type 0 = λ l. IsAfter l workers at_once old new in
      let list : at_once ≡ level_instances levels workers many level = level_is order levels workers at_once many count level is lt at in
      let Q : List ℕ → Type 0 = λ xs. IsAfter f workers xs old new in
      let here : IsAfter f workers (level_instances levels workers many level) old new = subst Q list (subst P same after) in
      through_more f net flat.sound accepted flat.laid is_net levels workers many are
      (λ j within. placed.each j (get_or workers j 0) (slice_get-get_or workers j 0 (omega (arith, within, are.many, placed.many)))) (opening inputs) mem over level old new cells long (through net mem is_net over) (here net is_net)

pub through_all : (f : Laid) (levels workers : List ℕ) (inputs : List InputArray) (level count : ℕ) (cells : List (Option Kept)) → level ≡ count → AreThrough f levels workers inputs level cells → AreThrough f levels workers inputs count cells
through_all f levels workers inputs level count cells is through = let P : ℕ → Type 0 = λ n. AreThrough f levels workers inputs n cells in subst P is through

pub fresh_many : (cells : List (Option Kept)) (n : ℕ) → cells ≡ map Some (fresh n) → length cells ≡ n
fresh_many cells n is = ap length is ∙ (length-map (fresh n) Some ∙ length-replicate n _)
