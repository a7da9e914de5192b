-- When a changed model keeps another: each read ends where it did.
use Rattle.std.specs.Prelude.{◌≡◌, ℕ, ℤ, ◌<◌, List, length, slice_get, slice_index, Option, Some, None, option_map, option_and_then}
use Rattle.std.specs.List.{IsAmong}
use Rattle.aol_shape.specs.Shape.{rank}
use Rattle.aol_model_types.specs.declared.document.Model.{Model}
use Rattle.aol_model_types.specs.declared.job.InputArray.{InputArray}
use Rattle.aol_model_types.specs.Rules.{task_name}
use Rattle.aol_flat.specs.Tasks.{elementary_tasks, main_inputs, main_outputs}
use Rattle.aol_flat.specs.Place.{Element, task_at}
use Rattle.aol_flat.specs.Inputs.{InputsFit}
use Rattle.aol_flat.specs.Equation.{Valuation, MainInput, ElementaryOutput, DefaultNumber, CopiedElement, IsSolution}
use Rattle.aol_flat.specs.Need.{Follows, IsGrounded}
use Rattle.aol_flat.specs.Instance.{Instance, Run, Copy, instances, read_elements, copy_end, copy_source}
use Rattle.aol_flat.specs.Laid.{main_output_elements}
use Rattle.aol_flat.specs.Targets.{IsSingleAssignment}
use Rattle.aol_flat.specs.Reads.{Reading, readings, IsFirstFailing}
use Rattle.aol_flat.specs.Limits.{IsBounded}
use Rattle.aol_flat.specs.Accept.{IsAccepted, IsSound}
use Rattle.aol_flat.specs.declared.view.Reader.{Reader}
use Rattle.aol_flat.specs.declared.view.Reader.TheVariants.{Instance as ByInstance, Main}
use Rattle.aol_flat.specs.declared.view.End.{End}
use Rattle.aol_flat.specs.declared.view.End.TheVariants.{Input, Const, Made}

-- following p through every link, tiler and copy ends at this main input, default number or elementary output
pub data EndsAt (m : Model) : Element → End → Type 0 where
  at_input : {p : Element} (a : MainInput m p) → EndsAt m p (Input a.number (rank a.port.shape p.index))
  at_number : {p : Element} {n : ℤ} → DefaultNumber m p n → EndsAt m p (Const n)
  at_output : {p : Element} (o : ElementaryOutput m p) (j : ℕ) → slice_get (instances m) j ≡ Some (Run p.place) → EndsAt m p (Made j o.number (rank o.out.port.shape p.index))
  by_following : {p q : Element} {e : End} → Follows m p q → EndsAt m q e → EndsAt m p e
  by_copying : {p q : Element} {e : End} → CopiedElement m p q → EndsAt m q e → EndsAt m p e

-- ---- the map from new instances to old ones

-- the old reader in place of a new one
abbrev pub old_reader : List ℕ → Reader → Reader
old_reader old_of (ByInstance j) = ByInstance (slice_index old_of j)
old_reader old_of Main = Main

-- the end with the old instance in place of the new one
abbrev pub old_end : List ℕ → End → End
old_end old_of (Input port x) = Input port x
old_end old_of (Const n) = Const n
old_end old_of (Made j port x) = Made (slice_index old_of j) port x

-- the name of the task that an instance runs; a copy runs none
abbrev pub runs_task : Model → Instance → Option (List ℕ)
runs_task m (Run place) = option_map task_name (task_at m place)
runs_task m (Copy place r repetition part) = None

-- an old and a new instance are both copies, or both run the task of one name
pub record SameKind (old new : Model) (i j : ℕ) : Type 0 where
  pub old_instance : Instance
  pub new_instance : Instance
  pub at_old : slice_get (instances old) i ≡ Some old_instance
  pub at_new : slice_get (instances new) j ≡ Some new_instance
  pub alike : runs_task old old_instance ≡ runs_task new new_instance

-- the elementary tasks and main ports are the old ones, and each new instance comes from an old one of its kind
pub record AreAlike (old new : Model) (old_of : List ℕ) : Type 0 where
  pub elementary : elementary_tasks new ≡ elementary_tasks old
  pub each : length old_of ≡ length (instances new)
  pub kinds : (j : ℕ) → j < length (instances new) → SameKind old new (slice_index old_of j) j
  pub same_ins : main_inputs new ≡ main_inputs old
  pub same_outs : main_outputs new ≡ main_outputs old

-- what the check of a changed model takes for granted: the old one is accepted, and they are alike
pub record AreComparable (old new : Model) (old_of : List ℕ) : Type 0 where
  pub accepted : IsAccepted old
  pub alike : AreAlike old new old_of

-- what an old instance reads where the new one reads p: the same port and index, or its one source
abbrev pub old_read : Model → Instance → Element → Option Element
old_read old (Run place) p = Some (record { place = place; port = p.port; index = p.index })
old_read old (Copy place r repetition part) p = copy_end copy_source old place r repetition part (task_at old place)

-- ---- keeping

-- p of the new model and q of the old one end at the same, by the map
pub record SameEnd (old new : Model) (old_of : List ℕ) (p q : Element) : Type 0 where
  pub ending : End
  pub new_ends : EndsAt new p ending
  pub old_ends : EndsAt old q (old_end old_of ending)

-- the new model keeps the old one; it says nothing of a new instance for which the map names no old one, so it stands beside `AreComparable`
pub record Keeps (old new : Model) (old_of : List ℕ) : Type 0 where
  pub single : IsSingleAssignment new
  pub reads : (j : ℕ) (i old_i : Instance) → slice_get (instances new) j ≡ Some i → slice_get (instances old) (slice_index old_of j) ≡ Some old_i
      → (p q : Element) → IsAmong (read_elements new i) p → old_read old old_i p ≡ Some q → SameEnd old new old_of p q
  pub main_outputs : (p : Element) → IsAmong (main_output_elements new) p → SameEnd old new old_of p p

-- the old element of a read of the new model
abbrev pub reading_before : Model → List ℕ → Reading → Option Element
reading_before old old_of r =
    elim r.reader [
      | ByInstance j ↦ option_and_then (λ i. old_read old i r.element) (slice_get (instances old) (slice_index old_of j))
      | Main ↦ Some r.element
    ]

-- a read of the new model ends as the old one does
abbrev pub ReadingIsKept : Model → Model → List ℕ → Reading → Type 0
ReadingIsKept old new old_of r = (q : Element) → reading_before old old_of r ≡ Some q → SameEnd old new old_of r.element q

-- the first read that isn't kept, and where it had to end
pub record IsFirstLost (old new : Model) (old_of : List ℕ) (r : Reading) (required : End) : Type 0 where
  pub first : IsFirstFailing (ReadingIsKept old new old_of) (readings new) r
  pub old_element : Element
  pub same_read : reading_before old old_of r ≡ Some old_element
  pub ends : EndsAt old old_element required

-- the new model is accepted, and its solutions have the old main outputs
pub record KeepsOutputs (old new : Model) : Type 0 where
  pub accepted : IsAccepted new
  pub outputs : (inputs : List InputArray) (v w : Valuation) → InputsFit old inputs → IsSolution old inputs v → IsSolution new inputs w
      → (p : Element) → IsAmong (main_output_elements new) p → w p ≡ v p

-- so does a sound model within the limits that keeps a sound and accepted one
abbrev pub KeptModelsAgree : Type 0
KeptModelsAgree =
    (old new : Model) (old_of : List ℕ) → IsSound old → IsSound new → IsBounded new → AreComparable old new old_of → Keeps old new old_of → KeepsOutputs old new

-- where the main outputs of the old model are grounded, the new model's solutions have the old main outputs
abbrev pub KeptOutputsAgree : Type 0
KeptOutputsAgree =
    (old new : Model) (old_of : List ℕ) → AreComparable old new old_of → Keeps old new old_of
    → ((p : Element) → IsAmong (main_output_elements old) p → IsGrounded old p)
    → (inputs : List InputArray) (v w : Valuation) → InputsFit old inputs → IsSolution old inputs v → IsSolution new inputs w
    → (p : Element) → IsAmong (main_output_elements new) p → w p ≡ v p

-- so they have where the old model is sound
abbrev pub KeptSoundAgree : Type 0
KeptSoundAgree =
    (old new : Model) (old_of : List ℕ) → IsSound old → AreComparable old new old_of → Keeps old new old_of
    → (inputs : List InputArray) (v w : Valuation) → InputsFit old inputs → IsSolution old inputs v → IsSolution new inputs w
    → (p : Element) → IsAmong (main_output_elements new) p → w p ≡ v p
