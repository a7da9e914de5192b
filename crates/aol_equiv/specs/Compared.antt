-- The reads of the first instances of a new model, and how far they are kept.
use Rattle.std.specs.Prelude.{◌≡◌, ℕ, ◌<◌, List, length, slice_get, Option, Some, None, Result, Ok, Err}
use Rattle.aol_model_types.specs.declared.document.Model.{Model}
use Rattle.aol_flat.specs.Accept.{IsFlat}
use Rattle.aol_flat.specs.Instance.{Instance, instances, read_sizes, places_of_sizes}
use Rattle.aol_flat.specs.Keep.{AreComparable, Keeps, ReadingIsKept}
use Rattle.aol_flat.specs.Reads.{Reading}
use Rattle.aol_flat.specs.Targets.{IsSingleAssignment}
use Rattle.aol_flat.specs.declared.view.End.{End}
use Rattle.aol_flat.specs.declared.view.Read.{Read}
use Rattle.aol_assign.specs.ReadsSoFar.{readings_before}
use Rattle.aol_equiv.specs.declared.compare.Sides.{Sides}
use Rattle.aol_equiv.specs.declared.lost.Lost.{Lost}
use Rattle.aol_equiv.specs.Answers.{IsRightlyLost}
use Rattle.aol_equiv.specs.Before.{AreLeavesTo}
use Rattle.aol_equiv.specs.Leads.{end_of, IsKeptRead}
use Rattle.aol_equiv.specs.Table.{AreEnds}

-- what is known while two models are compared: they are comparable, nothing is written twice in the new one, and where their reads end
pub record AreCompared (s : Sides) : Type 0 where
  pub old_flat : IsFlat s.old.now
  pub new_flat : IsFlat s.new.now
  pub comparable : AreComparable s.old.now.model s.new.now.model s.old_of.now
  pub single : IsSingleAssignment s.new.now.model
  pub old_is : AreEnds s.old.now s.old_ends.now
  pub new_is : AreEnds s.new.now s.new_ends.now
  pub leaves : AreLeavesTo s.old.now.model (length (instances s.old.now.model)) s.leaves.now

-- the reads of the first n instances are kept
abbrev pub AreKeptBefore : Sides → ℕ → Type 0
AreKeptBefore s n = (k : ℕ) (x : Reading) → slice_get (readings_before s.new.now.model n) k ≡ Some x → ReadingIsKept s.old.now.model s.new.now.model s.old_of.now x

-- the read with this number ends as the old one does
abbrev pub IsKeptAt : Sides → List Read → List Read → ℕ → Type 0
IsKeptAt s taken before k =
    (r q : Read) (e : End) → slice_get taken k ≡ Some r → slice_get before k ≡ Some q → end_of s.old_ends.now q ≡ Some e → IsKeptRead s.new_ends.now s.old_of.now r e

-- the number of the first read that doesn't, and where it had to end
pub record IsFirstAt (s : Sides) (taken before : List Read) (number : ℕ) (required : End) : Type 0 where
  pub inside : number < length taken
  pub fails : IsKeptAt s taken before number → ⊥
  pub earlier : (k : ℕ) → k < number → IsKeptAt s taken before k
  pub read : Read
  pub at : slice_get before number ≡ Some read
  pub ends : end_of s.old_ends.now read ≡ Some required

-- where there is one
abbrev pub TellsFirst : Sides → List Read → List Read → Option (ℕ × End) → Type 0
TellsFirst s taken before None = (k : ℕ) → k < length taken → IsKeptAt s taken before k
TellsFirst s taken before (Some p) = IsFirstAt s taken before p.0 p.1

-- the reads of instance j have these ports and ranks
abbrev pub HasReadSpots : Model → ℕ → List (ℕ × ℕ) → Type 0
HasReadSpots m j spots = (i : Instance) → slice_get (instances m) j ≡ Some i → spots ≡ places_of_sizes 0 (read_sizes m i)

-- the reads of the instances up to this number are kept, or the first that isn't is told
abbrev pub EndsKept : Sides → ℕ → Result (Unit {0}) Lost → Type 0
EndsKept s n (Ok done) = AreKeptBefore s n
EndsKept s n (Err e) = IsRightlyLost s.old.now.model s.new.now.model s.old_of.now e

-- the main outputs after all instances
abbrev pub EndsAll : Sides → Result (Unit {0}) Lost → Type 0
EndsAll s (Ok done) = Keeps s.old.now.model s.new.now.model s.old_of.now
EndsAll s (Err e) = IsRightlyLost s.old.now.model s.new.now.model s.old_of.now e
