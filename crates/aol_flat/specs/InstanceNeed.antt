-- Which instances an instance needs, and levels, of a model alone.
use Rattle.std.specs.Prelude.{◌≡◌, ℕ, ◌+◌, ◌<◌, max, List, [], ◌∷◌, fold, length, slice_get, slice_index, Some}
use Rattle.std.specs.List.{IsAmong}
use Rattle.aol_model_types.specs.declared.document.Model.{Model}
use Rattle.aol_model_types.specs.declared.task.Elementary.{Elementary}
use Rattle.aol_model_types.specs.declared.task.Task.TheVariants as tasks
use Rattle.aol_flat.specs.Place.{Element, task_at}
use Rattle.aol_flat.specs.Equation.{CopiedElement}
use Rattle.aol_flat.specs.Need.{Follows, NeedsItself}
use Rattle.aol_flat.specs.Instance.{Instance, Run, Copy, instances, read_elements, written_elements}

-- links, tilers and links between repetitions lead from p to q, or p is q
pub data Reaches (m : Model) : Element → Element → Type 0 where
  here : {p : Element} → Reaches m p p
  onward : {p q r : Element} → Follows m p q → Reaches m q r → Reaches m p r

-- an element that instance j reads leads to one that instance k writes
pub record InstanceNeeds (m : Model) (j k : ℕ) : Type 0 where
  pub reader : Instance
  pub writer : Instance
  pub at_reader : slice_get (instances m) j ≡ Some reader
  pub at_writer : slice_get (instances m) k ≡ Some writer
  pub read : Element
  pub written : Element
  pub among_reads : IsAmong (read_elements m reader) read
  pub among_writes : IsAmong (written_elements m writer) written
  pub joined : Reaches m read written

-- each instance's level: 0 where it needs none, else one more than the greatest among those that it needs
pub record AreLevelsOf (m : Model) (level : List ℕ) : Type 0 where
  pub many : length level ≡ length (instances m)
  pub above : (j k : ℕ) → InstanceNeeds m j k → slice_index level k < slice_index level j
  pub least : (j : ℕ) → 0 < slice_index level j → (k : ℕ) × InstanceNeeds m j k × (slice_index level j ≡ slice_index level k + 1)

-- one more than the greatest level
abbrev pub level_count : List ℕ → ℕ
level_count level = fold max 0 level + 1

-- an instance of some set in which every instance needs one of the set
pub record IsInCycle (m : Model) (j : ℕ) : Type 0 where
  pub set : List ℕ
  pub within : IsAmong set j
  pub goes_on : (i : ℕ) → IsAmong set i → (k : ℕ) × IsAmong set k × InstanceNeeds m i k

-- the least instance of such a set
pub record IsFirstInCycle (m : Model) (j : ℕ) : Type 0 where
  pub in_cycle : IsInCycle m j
  pub first : (i : ℕ) → i < j → IsInCycle m i → ⊥

-- a list of needs among instances
pub data NeedChain (m : Model) : ℕ → ℕ → Type 0 where
  one : {i j : ℕ} → InstanceNeeds m i j → NeedChain m i j
  more : {i j k : ℕ} → InstanceNeeds m i j → NeedChain m j k → NeedChain m i k

-- a set in which every instance needs one of the set has an instance that needs itself; where there are levels, there is no such set
pub record CyclesAreNeeds (m : Model) : Type 0 where
  pub some : (j : ℕ) → IsInCycle m j → (k : ℕ) × NeedChain m k k
  pub none : (level : List ℕ) → AreLevelsOf m level → (j : ℕ) → IsInCycle m j → ⊥

-- an instance runs an elementary task, or is a copy that reads one element and writes one
abbrev pub IsReal : Model → Instance → Type 0
IsReal m (Run place) = (e : Elementary) × (task_at m place ≡ Some (tasks.Elementary e))
IsReal m (Copy place k repetition part) =
    (p : Element) × (q : Element) × CopiedElement m p q
    × (written_elements m (Copy place k repetition part) ≡ p ∷ []) × (read_elements m (Copy place k repetition part) ≡ q ∷ [])

-- each listed instance is real
abbrev pub AreReal : Model → Type 0
AreReal m = (j : ℕ) (i : Instance) → slice_get (instances m) j ≡ Some i → IsReal m i

-- an instance that needs itself has an element that does
abbrev pub InstanceCyclesAreReal : Type 0
InstanceCyclesAreReal = (m : Model) → AreReal m → (j : ℕ) → NeedChain m j j → (p : Element) × NeedsItself m p
