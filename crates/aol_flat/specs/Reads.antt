-- The elements that are read, in order, and those that are given.
use Rattle.std.specs.Prelude.{◌≡◌, ℕ, ◌<◌, List, [], ◌++◌, flat_map, filter_map, slice_get, Option, Some, option_map}
use Rattle.std.specs.List.{IsAmong, enumerate_from}
use Rattle.aol_model_types.specs.declared.document.Model.{Model}
use Rattle.aol_model_types.specs.declared.task.Elementary.{Elementary}
use Rattle.aol_model_types.specs.declared.task.Task.TheVariants as tasks
use Rattle.aol_flat.specs.Tasks.{main_outputs}
use Rattle.aol_flat.specs.Place.{Place, Element, task_at, elements_of}
use Rattle.aol_flat.specs.Equation.{MainInput, ElementaryOutput, DefaultNumber, CopiedElement}
use Rattle.aol_flat.specs.Need.{Follows}
use Rattle.aol_flat.specs.Instance.{Instance, instances, read_element, read_sizes, places_of_sizes, port_sizes, port_element}
use Rattle.aol_flat.specs.Laid.{main_output_elements}
use Rattle.aol_flat.specs.declared.view.Reader.{Reader}
use Rattle.aol_flat.specs.declared.view.Reader.TheVariants.{Instance as ByInstance, Main}

-- an element that is read, by whom, at which port and rank
pub record Reading : Type 0 where
  pub reader : Reader
  pub port : ℕ
  pub rank : ℕ
  pub element : Element

-- the read at a port and a rank, where there is such an element
abbrev pub reading_at : Reader → (ℕ → ℕ → Option Element) → ℕ × ℕ → Option Reading
reading_at who element p = option_map (λ e. record { reader = who; port = p.0; rank = p.1; element = e }) (element p.0 p.1)

-- the reads of an instance with its number
abbrev pub instance_readings : Model → ℕ × Instance → List Reading
instance_readings m i = filter_map (reading_at (ByInstance i.0) (read_element m i.1)) (places_of_sizes 0 (read_sizes m i.1))

-- the reads of the caller, who takes the main outputs
abbrev pub main_readings : Model → List Reading
main_readings m = filter_map (reading_at Main (port_element [] (main_outputs m))) (places_of_sizes 0 (port_sizes (main_outputs m)))

-- every read, by instance, port and rank, and then the main outputs
abbrev pub readings : Model → List Reading
readings m = flat_map (instance_readings m) (enumerate_from 0 (instances m)) ++ main_readings m

-- following links, tilers and links between repetitions from the element ends at a main input, a default number, an elementary output or a target of a copy
pub data IsGiven (m : Model) : Element → Type 0 where
  by_main_input : {p : Element} → MainInput m p → IsGiven m p
  by_default : {p : Element} (n : _) → DefaultNumber m p n → IsGiven m p
  by_computing : {p : Element} → ElementaryOutput m p → IsGiven m p
  by_copying : {p q : Element} → CopiedElement m p q → IsGiven m p
  by_following : {p q : Element} → Follows m p q → IsGiven m q → IsGiven m p

-- p is an input of an elementary instance, the source of a copy, or an element of a main output
pub data IsRead (m : Model) (p : Element) : Type 0 where
  by_run : (place : Place) (e : Elementary) → task_at m place ≡ Some (tasks.Elementary e) → IsAmong (elements_of place e.ins) p → IsRead m p
  by_copy : (target : Element) → CopiedElement m target p → IsRead m p
  by_caller : IsAmong (main_output_elements m) p → IsRead m p

-- each element that is read is given
abbrev pub AllGiven : Model → Type 0
AllGiven m = (p : Element) → IsRead m p → IsGiven m p

-- x is the first of the list at which the fact fails
pub record IsFirstFailing {X : Type 0} (P : X → Type 0) (xs : List X) (x : X) : Type 0 where
  pub number : ℕ
  pub at : slice_get xs number ≡ Some x
  pub fails : P x → ⊥
  pub before : (k : ℕ) (y : X) → k < number → slice_get xs k ≡ Some y → P y

-- the read is the first whose element isn't given
abbrev pub IsFirstUnwritten : Model → Reading → Type 0
IsFirstUnwritten m r = IsFirstFailing (λ (x : Reading). IsGiven m x.element) (readings m) r
