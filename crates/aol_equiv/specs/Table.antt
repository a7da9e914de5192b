-- Where the cells of a model end, instance by instance.
use Rattle.std.specs.Prelude.{◌≡◌, ◌⊎◌, ◌↔◌, ℕ, ◌+◌, ◌<◌, List, take, length, slice_get, Some}
use Rattle.std.specs.List.{IsAmong}
use Rattle.aol_shape.specs.Shape.{rank}
use Rattle.aol_model_types.specs.declared.document.Model.{Model}
use Rattle.aol_model_types.specs.declared.task.Elementary.{Elementary}
use Rattle.aol_model_types.specs.declared.task.Task.TheVariants as tasks
use Rattle.aol_flat.specs.Place.{Place, Element, IsElement, task_at}
use Rattle.aol_flat.specs.Equation.{MainInput}
use Rattle.aol_flat.specs.Instance.{Instance, Run, Copy, instances, leaves, read_elements, written_element, written_elements, written_sizes, places_of_sizes}
use Rattle.aol_flat.specs.Leaves.{instances_of}
use Rattle.aol_flat.specs.Laid.{Laid, IsCellOf, IsReadOf}
use Rattle.aol_flat.specs.Keep.{EndsAt}
use Rattle.aol_flat.specs.declared.leaf.LeafKind.{LeafKind}
use Rattle.aol_flat.specs.declared.leaf.LeafKind.TheVariants as kinds
use Rattle.aol_flat.specs.declared.view.Read.{Read}
use Rattle.aol_flat.specs.declared.view.End.TheVariants.{Input, Made}
use Rattle.aol_equiv.specs.declared.leads.Lead.{Lead}
use Rattle.aol_equiv.specs.declared.leads.Lead.TheVariants.{Ends, Nowhere}
use Rattle.aol_equiv.specs.Leads.{lead_of, end_of}

-- what an instance with its number makes of an element that it writes: an output of its own, or what it reads
abbrev pub IsLeadOf : Laid → ℕ → Instance → Element → Lead → Type 0
IsLeadOf f j (Run place) e lead = (port : ℕ) × (x : ℕ) × (written_element f.model (Run place) port x ≡ Some e) × (lead ≡ Ends (Made j port x))
IsLeadOf f j (Copy place k r p) e lead = (q : Element) × (read : Read) × IsAmong (read_elements f.model (Copy place k r p)) q × IsReadOf f q read × (lead ≡ lead_of read)

-- instance j fills the cell so
pub record IsFilled (f : Laid) (j c : ℕ) (lead : Lead) : Type 0 where
  pub instance : Instance
  pub at : slice_get (instances f.model) j ≡ Some instance
  pub element : Element
  pub written : IsAmong (written_elements f.model instance) element
  pub in_cell : IsCellOf f element c
  pub is : IsLeadOf f j instance element lead

-- the cell has a main input, at which it ends
pub record IsGivenCell (f : Laid) (c : ℕ) (lead : Lead) : Type 0 where
  pub element : Element
  pub input : MainInput f.model element
  pub in_cell : IsCellOf f element c
  pub is : lead ≡ Ends (Input input.number (rank input.port.shape element.index))

-- the first n instances that copy read a cell or a number
abbrev pub HaveReads : Laid → ℕ → Type 0
HaveReads f n =
    (j : ℕ) (place : Place) (k : ℕ) (r s : List ℕ) → j < n → slice_get (instances f.model) j ≡ Some (Copy place k r s)
    → (q : Element) → IsAmong (read_elements f.model (Copy place k r s)) q → (read : Read) × IsReadOf f q read

-- what the first n instances make of the cells
pub record HasLeads (f : Laid) (n : ℕ) (leads : List Lead) : Type 0 where
  pub many : length leads ≡ length f.cells
  pub some : (c j : ℕ) (lead : Lead) → j < n → IsFilled f j c lead → slice_get leads c ≡ Some lead
  pub back : (c : ℕ) (lead : Lead) → slice_get leads c ≡ Some lead → (lead ≡ Nowhere) ⊎ ((j : ℕ) × (j < n) × IsFilled f j c lead)
  pub reads : HaveReads f n

-- what all instances and the main inputs make of the cells
pub record AreLeads (f : Laid) (leads : List Lead) : Type 0 where
  pub many : length leads ≡ length f.cells
  pub some : (c j : ℕ) (lead : Lead) → IsFilled f j c lead → slice_get leads c ≡ Some lead
  pub given : (c : ℕ) (lead : Lead) → IsGivenCell f c lead → slice_get leads c ≡ Some lead
  pub back : (c : ℕ) (lead : Lead) → slice_get leads c ≡ Some lead → (lead ≡ Nowhere) ⊎ (IsGivenCell f c lead ⊎ ((j : ℕ) × IsFilled f j c lead))
  pub reads : HaveReads f (length (instances f.model))

-- each element ends exactly where reading it does
pub record AreEnds (f : Laid) (leads : List Lead) : Type 0 where
  pub many : length leads ≡ length f.cells
  pub each : (p : Element) (read : Read) → IsElement f.model p → IsReadOf f p read → (e : _) → (end_of leads read ≡ Some e) ↔ EndsAt f.model p e

-- an instance is of a leaf of this kind
abbrev pub IsOfKind : Model → Instance → LeafKind → Type 0
IsOfKind m i (kinds.Elementary k) = (place : Place) × (e : Elementary) × (i ≡ Run place) × (task_at m place ≡ Some (tasks.Elementary e)) × (slice_get m.tasks k ≡ Some (tasks.Elementary e))
IsOfKind m i kinds.Copy = (place : Place) × (k : ℕ) × (r : List ℕ) × (p : List ℕ) × (i ≡ Copy place k r p)

-- instance j runs a task whose outputs have these ports and ranks
abbrev pub HasSpots : Model → ℕ → List (ℕ × ℕ) → Type 0
HasSpots m j spots = (i : Instance) → slice_get (instances m) j ≡ Some i → (place : Place) × (i ≡ Run place) × (spots ≡ places_of_sizes 0 (written_sizes m i))

-- instance j copies
abbrev pub IsCopying : Model → ℕ → Type 0
IsCopying m j = (i : Instance) → slice_get (instances m) j ≡ Some i → IsOfKind m i kinds.Copy

-- what an instance makes of the outputs with these ports and ranks
abbrev pub made_by : ℕ → ℕ × ℕ → Lead
made_by j spot = Ends (Made j spot.0 spot.1)

-- the leads of the main inputs with these ports and ranks
abbrev pub given_at : ℕ × ℕ → Lead
given_at spot = Ends (Input spot.0 spot.1)

-- the leads grow by the instances of a leaf
abbrev pub LeadsLeaf : Laid → ℕ → List Lead → List Lead → Type 0
LeadsLeaf f leaf old new = HasLeads f (instances_of (take leaf (leaves f.model))) old → HasLeads f (instances_of (take (leaf + 1) (leaves f.model))) new
