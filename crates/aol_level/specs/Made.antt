-- What the workers of a model have made before the first level: tasks made ready, and cursors with their buffers.
use Rattle.std.specs.Prelude.{◌≡◌, ℕ, ◌+◌, ◌<◌, ◌≤◌, List, filter, take, length, get_or, slice_get, Option, Some, None}
use Rattle.aol_model_types.specs.declared.document.Model.{Model}
use Rattle.aol_model_types.specs.declared.task.Elementary.{Elementary}
use Rattle.aol_model_types.specs.declared.task.Task.{Task}
use Rattle.aol_model_types.specs.declared.task.Task.TheVariants as tasks
use Rattle.aol_flat.specs.Cursor.{CursorOf}
use Rattle.aol_flat.specs.Instance.{leaves}
use Rattle.aol_flat.specs.Laid.{Laid}
use Rattle.aol_flat.specs.LeafCursor.{first_on, instances_on, reads_each, writes_each}
use Rattle.aol_flat.specs.Tasks.{is_elementary}
use Rattle.aol_level.specs.Puts.{IsReady}
use Rattle.aol_level.specs.declared.outputs.Ready.{Ready}
use Rattle.aol_level.specs.declared.hand.Hand.{Hand}
use Rattle.aol_level.specs.declared.listing.Listing.{Listing}

-- how many elementary tasks some tasks have
abbrev pub elementary_among : List Task → ℕ
elementary_among ts = length (filter is_elementary ts)

-- a task made ready, where it computes; so many elementary ones come before it
abbrev pub IsMade : Task → ℕ → Option Ready → Type 0
IsMade (tasks.Elementary e) n (Some ready) = IsReady e ready × (ready.number ≡ n)
IsMade (tasks.Elementary e) n None = ⊥
IsMade _ n made = Unit {0}

-- each elementary task is made ready, with its number among them
pub record AreMade (ts : List Task) (made : List (Option Ready)) : Type 0 where
  pub many : length made ≡ length ts
  pub each : (k : ℕ) (e : Elementary) → slice_get ts k ≡ Some (tasks.Elementary e) → (ready : Ready) × (slice_get made k ≡ Some (Some ready)) × IsReady e ready × (ready.number ≡ elementary_among (take k ts))

-- the leaf that has the instance
pub record IsLeafOf (m : Model) (instance leaf : ℕ) : Type 0 where
  pub listed : leaf < length (leaves m)
  pub from : first_on m leaf ≤ instance
  pub before : instance < first_on m leaf + instances_on m leaf

-- one cursor for each leaf
pub record AreCursors (f : Laid) (cursors : List CursorOf) : Type 0 where
  pub many : length cursors ≡ length (leaves f.model)
  pub each : (k : ℕ) (d : CursorOf) → k < length cursors → get_or cursors k d ≡ record { flat = f; leaf = k }

-- the buffers have room for what an instance of any leaf reads
pub record IsHand (f : Laid) (hand : Hand) : Type 0 where
  pub cursors : AreCursors f hand.cursors.items
  pub taken : (k : ℕ) → k < length (leaves f.model) → reads_each f.model k ≤ length hand.taken.items
  pub nums : length hand.taken.items ≡ length hand.nums.items

-- the same of what it writes
pub record IsListing (f : Laid) (listing : Listing) : Type 0 where
  pub cursors : AreCursors f listing.cursors.items
  pub written : (k : ℕ) → k < length (leaves f.model) → writes_each f.model k ≤ length listing.written.items
