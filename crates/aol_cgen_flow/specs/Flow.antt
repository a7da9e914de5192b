-- What the net of an accepted model has, so that its steps can be emitted.
use Rattle.std.specs.Prelude.{◌≡◌, ℕ, ◌<◌, ◌^◌, ◌⊎◌, ℤ, true, List, [], length, slice_get, Some, nat_lt, if◌then◌else◌}
use Rattle.aol_shape.specs.Numbers.{fits_64}
use Rattle.aol_expr_tree.specs.declared.value.Val.{Val}
use Rattle.aol_allocate.specs.Placement.{IsPlacement}
use Rattle.aol_flat.specs.Accept.{IsAccepted, IsFlat}
use Rattle.aol_flat.specs.InstanceNeed.{AreLevelsOf, level_count}
use Rattle.aol_flat.specs.InstanceValue.{number_of}
use Rattle.aol_flat.specs.Laid.{Laid, main_input_elements}
use Rattle.aol_flat.specs.Net.{Net, IsNetOf, Memory, reads_at, writes_at}
use Rattle.aol_flat.specs.declared.view.Read.{Read}
use Rattle.aol_flat.specs.declared.view.Read.TheVariants.{Cell, Const}
use Rattle.aol_cgen_laws.specs.Emitted.{IsBelow, AreShared}
use Rattle.aol_cgen_laws.specs.Filled.{GiveForEach}

-- what is read and written are cells, of which a u32 counts; what is read is a main input or what a lower instance writes; default numbers have 64 bits
pub record HasFlow (net : Net) (cells inputs : ℕ) (levels : List ℕ) : Type 0 where
  pub few : cells < 2 ^ 32
  pub written : (j k c : ℕ) → slice_get (writes_at net j) k ≡ Some c → c < cells
  pub read : (j k c : ℕ) → slice_get (reads_at net j) k ≡ Some (Cell c) → c < cells
  pub give : GiveForEach net
  pub below : (j k c l : ℕ) → slice_get (reads_at net j) k ≡ Some (Cell c) → slice_get levels j ≡ Some l → (c < inputs) ⊎ IsBelow net levels l c
  pub defaults : (j k : ℕ) (n : ℤ) → slice_get (reads_at net j) k ≡ Some (Const n) → fits_64 n ≡ true

-- the numbers that are read from a memory have 64 bits
abbrev pub ReadsFit : Net → Memory → Type 0
ReadsFit net mem = (j k c : ℕ) → slice_get (reads_at net j) k ≡ Some (Cell c) → fits_64 (number_of (mem c)) ≡ true

-- all numbers of some values have 64 bits
abbrev pub AllFit : List Val → Type 0
AllFit xs = (k : ℕ) (x : Val) → slice_get xs k ≡ Some x → fits_64 (number_of x) ≡ true

-- where those that it takes have, as many as it reads, so have those that an instance gives
abbrev pub GivesFit : Net → Type 0
GivesFit net = (j : ℕ) (xs : List Val) → length xs ≡ length (reads_at net j) → AllFit xs → AllFit (net.gives j xs)

-- the same net, in which a number past its instances gives nothing
abbrev pub closed : Net → Net
closed net = record { reads = net.reads; writes = net.writes; gives = λ j xs. if nat_lt j (length net.writes) then net.gives j xs else [] }

-- all of this is known of a net
pub record Flows (f : Laid) (net : Net) (levels workers : List ℕ) (count : ℕ) : Type 0 where
  pub flow : HasFlow net (length f.cells) (length (main_input_elements f.model)) levels
  pub shared : AreShared net (length (main_input_elements f.model)) levels (level_count levels) workers count
  pub fit : GivesFit net
  pub known : (j k : ℕ) (r : Read) → slice_get (reads_at net j) k ≡ Some r → (l : ℕ) × (slice_get levels j ≡ Some l)

-- it is known of the nets of an accepted model with its levels and its placement
abbrev pub AcceptedFlows : Type 0
AcceptedFlows =
    (f : Laid) (net : Net) (levels workers : List ℕ) (count : ℕ) → IsFlat f → IsAccepted f.model → IsNetOf f net → AreLevelsOf f.model levels → IsPlacement f.model workers count → length f.cells < 2 ^ 32
    → Flows f (closed net) levels workers count
