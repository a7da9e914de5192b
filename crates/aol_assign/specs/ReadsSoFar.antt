-- The reads of the first instances, and how far these are given.
use Rattle.std.specs.Prelude.{◌≡◌, ℕ, ◌<◌, ◌^◌, sum, List, [], ◌∷◌, flat_map, take, length, slice_get, Option, Some, Result, Ok, Err}
use Rattle.std.specs.List.{enumerate_from}
use Rattle.aol_model_types.specs.declared.document.Model.{Model}
use Rattle.aol_model_types.specs.declared.task.Task.{Task}
use Rattle.aol_model_types.specs.Rules.{inputs_of}
use Rattle.aol_flat.specs.declared.leaf.LeafKind.{LeafKind}
use Rattle.aol_flat.specs.declared.leaf.LeafKind.TheVariants as kinds
use Rattle.aol_flat.specs.Instance.{Instance, instances, port_sizes, read_sizes}
use Rattle.aol_flat.specs.Laid.{Laid, main_input_elements}
use Rattle.aol_flat.specs.Level.{AreWriters}
use Rattle.aol_flat.specs.Reads.{Reading, instance_readings, IsGiven, AllGiven}
use Rattle.aol_flat.specs.Targets.{IsSingleAssignment}
use Rattle.aol_flat.specs.Accept.{IsFlat}
use Rattle.aol_assign.specs.declared.refused.AssignRefused.{AssignRefused}
use Rattle.aol_assign.specs.declared.refused.AssignRefused.TheVariants as refused
use Rattle.aol_assign.specs.Answers.{UnwrittenIs}

-- the readings of the first n instances
abbrev pub readings_before : Model → ℕ → List Reading
readings_before m n = flat_map (instance_readings m) (enumerate_from 0 (take n (instances m)))

-- their elements are given
abbrev pub AreGivenBefore : Model → ℕ → Type 0
AreGivenBefore m n = (k : ℕ) (x : Reading) → slice_get (readings_before m n) k ≡ Some x → IsGiven m x.element

-- a refusal tells the first read that isn't given
abbrev pub IsUnwrittenTold : Model → AssignRefused → Type 0
IsUnwrittenTold m (refused.Twice path part port point first second) = ⊥
IsUnwrittenTold m (refused.Unwritten reader port point) = UnwrittenIs m reader port point
IsUnwrittenTold m refused.NoMemory = Unit {0}

-- what is known while reads are tested: the model is laid out, nothing is written twice, the list has the writers, and so many cells hold the main inputs
pub record AreTested (f : Laid) (list : List (Option ℕ)) (inputs : ℕ) : Type 0 where
  pub flat : IsFlat f
  pub single : IsSingleAssignment f.model
  pub writers : AreWriters f list
  pub inputs_are : inputs ≡ length (main_input_elements f.model)

-- the reads of the instances up to this number are given, or the first that isn't is told
abbrev pub EndsReads : Model → ℕ → Result (Unit {0}) AssignRefused → Type 0
EndsReads m n (Ok done) = AreGivenBefore m n
EndsReads m n (Err e) = IsUnwrittenTold m e

-- the main outputs after all instances
abbrev pub ReadsMain : Model → Result (Unit {0}) AssignRefused → Type 0
ReadsMain m (Ok done) = AllGiven m
ReadsMain m (Err e) = IsUnwrittenTold m e

-- what the kind of a leaf says of the sizes that an instance of it reads
abbrev pub HasReadSizes : Model → Instance → LeafKind → Type 0
HasReadSizes m i (kinds.Elementary k) = (t : Task) × (slice_get m.tasks k ≡ Some t) × (read_sizes m i ≡ port_sizes (inputs_of t))
HasReadSizes m i kinds.Copy = read_sizes m i ≡ 1 ∷ []

-- an instance of a leaf of this kind has a read with this number
abbrev pub IsReadNumber : Model → LeafKind → ℕ → Type 0
IsReadNumber m kind number = (i : Instance) × HasReadSizes m i kind × (number < sum (read_sizes m i)) × (length (read_sizes m i) < 2 ^ 32)
