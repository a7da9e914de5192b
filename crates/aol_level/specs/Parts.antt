-- The instances of a worker in one level, and what they leave in its share.
use Rattle.std.specs.Prelude.{◌≡◌, ℕ, ◌<◌, ◌^◌, List, map, flat_map, length, slice_index, Option, All}
use Rattle.std.specs.List.{IsAmong}
use Rattle.aol_flat.specs.Instance.{instances}
use Rattle.aol_flat.specs.Laid.{Laid}
use Rattle.aol_flat.specs.Net.{Net, IsNetOf, reads_at, writes_at}
use Rattle.aol_level.specs.Puts.{CanTake, kept_by, value_held}
use Rattle.aol_level.specs.Made.{IsHand}
use Rattle.aol_level.specs.declared.kept.Kept.{Kept}
use Rattle.aol_level.specs.declared.part.Plan.{Plan}
use Rattle.aol_level.specs.declared.part.Job.{Job}

-- some instances of the model
abbrev pub AreInstances : Laid → List ℕ → Type 0
AreInstances f numbers = All (λ j. j < length (instances f.model)) numbers

-- what an instance puts into its cells, for what it reads in these
abbrev pub puts_at : Net → List (Option Kept) → ℕ → ℕ → List Kept
puts_at net cells worker j = map (kept_by worker) (net.gives j (map (value_held cells) (reads_at net j)))

-- the cells that some instances write, instance after instance
abbrev pub AreCellsOf : Laid → List ℕ → List ℕ → Type 0
AreCellsOf f numbers cells = (net : Net) → IsNetOf f net → cells ≡ flat_map (writes_at net) numbers

-- all that some instances read can be taken
abbrev pub CanTakeAll : Laid → List (Option Kept) → List ℕ → Type 0
CanTakeAll f cells numbers = (net : Net) → IsNetOf f net → (j : ℕ) → IsAmong numbers j → All (CanTake cells) (reads_at net j)

-- what some instances of a worker put, instance after instance
abbrev pub ArePut : Laid → List (Option Kept) → ℕ → List ℕ → List Kept → Type 0
ArePut f cells worker numbers values = (net : Net) → IsNetOf f net → values ≡ flat_map (puts_at net cells worker) numbers

-- the instances of a worker with the cells that they write
pub record IsPlan (f : Laid) (workers : List ℕ) (plan : Plan) : Type 0 where
  pub hand : IsHand f plan.part.hand
  pub within : AreInstances f plan.part.instances.now
  pub worker : All (λ j. slice_index workers j ≡ plan.part.worker) plan.part.instances.now
  pub cells : AreCellsOf f plan.part.instances.now plan.cells
  pub few : length plan.cells < 2 ^ 32

-- the same with the cells claimed, and all that is read can be taken
pub record CanWork (f : Laid) (cells : List (Option Kept)) (job : Job) : Type 0 where
  pub hand : IsHand f job.part.hand
  pub within : AreInstances f job.part.instances.now
  pub reads : CanTakeAll f cells job.part.instances.now
  pub share : AreCellsOf f job.part.instances.now job.share.cells
  pub as_many : length job.share.values ≡ length job.share.cells
  pub few : length job.share.cells < 2 ^ 32

-- the instances have run: each cell of the share has what its instance puts
pub record IsDone (f : Laid) (cells : List (Option Kept)) (old new : Job) : Type 0 where
  pub hand : IsHand f new.part.hand
  pub instances : new.part.instances.now ≡ old.part.instances.now
  pub worker : new.part.worker ≡ old.part.worker
  pub name : new.share.name ≡ old.share.name
  pub share : new.share.cells ≡ old.share.cells
  pub values : ArePut f cells old.part.worker old.part.instances.now new.share.values
