-- How far a run has come: what the cells hold after the levels below one.
use Rattle.std.specs.Prelude.{◌≡◌, ℕ, ◌<◌, ℤ, List, length, slice_get, slice_index, Option, Some}
use Rattle.aol_expr_tree.specs.declared.value.Val.TheVariants.{Num}
use Rattle.aol_model_types.specs.declared.job.InputArray.{InputArray}
use Rattle.aol_flat.specs.Laid.{Laid}
use Rattle.aol_flat.specs.Net.{Net, IsNetOf, Memory, writes_at, opening}
use Rattle.aol_scatter.specs.Cells.{cell}
use Rattle.aol_level.specs.Puts.{kept_by}
use Rattle.aol_level.specs.declared.kept.Kept.{Kept}
use Rattle.aol_runner.specs.Schedule.{SettledOver}

-- a cell that an instance of a lower level writes has its value of the settled memory and that instance's worker; every other cell has its opening value and worker 0
pub record IsThrough (net : Net) (levels workers : List ℕ) (first settled : Memory) (level : ℕ) (cells : List (Option Kept)) : Type 0 where
  pub written : (j k c l : ℕ) → slice_get (writes_at net j) k ≡ Some c → slice_get levels j ≡ Some l → l < level → cell cells c ≡ Some (kept_by (slice_index workers j) (settled c))
  pub others : (c : ℕ) → c < length cells → ((j k l : ℕ) → slice_get (writes_at net j) k ≡ Some c → slice_get levels j ≡ Some l → l < level → ⊥)
      → cell cells c ≡ Some (kept_by 0 (first c))

-- so it is in each net of the model with each settled memory over these inputs
abbrev pub AreThrough : Laid → List ℕ → List ℕ → List InputArray → ℕ → List (Option Kept) → Type 0
AreThrough f levels workers inputs level cells =
    (net : Net) (mem : Memory) → IsNetOf f net → SettledOver net (opening inputs) mem → IsThrough net levels workers (opening inputs) mem level cells

-- every cell has its opening value and worker 0
pub record AreOpen (inputs : List InputArray) (cells : List (Option Kept)) : Type 0 where
  pub each : (c : ℕ) → c < length cells → cell cells c ≡ Some (kept_by 0 (opening inputs c))

-- a number that no worker wrote
abbrev pub number_kept : ℤ → Kept
number_kept n = kept_by 0 (Num n)
