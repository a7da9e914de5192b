-- Following copies from cell to cell.
use Rattle.std.specs.Prelude.{◌≡◌, ◌≢◌, ◌⊎◌, ℕ, ◌<◌, List, length, slice_get, Some, Result, Ok, Err}
use Rattle.std.specs.List.{IsAmong}
use Rattle.std.specs.declared.alloc.AllocError.{AllocError}
use Rattle.aol_flat.specs.declared.view.End.{End}
use Rattle.aol_equiv.specs.declared.leads.Lead.{Lead}
use Rattle.aol_equiv.specs.declared.leads.Lead.TheVariants.{Ends, Copies, Nowhere}

-- the cells that are copied are there
abbrev pub AreWithin : List Lead → Type 0
AreWithin leads = (c d : ℕ) → slice_get leads c ≡ Some (Copies d) → d < length leads

-- following copies from the cell ends there
pub data EndsFrom (leads : List Lead) : ℕ → End → Type 0 where
  at_end : {c : ℕ} {e : End} → slice_get leads c ≡ Some (Ends e) → EndsFrom leads c e
  by_copy : {c d : ℕ} {e : End} → slice_get leads c ≡ Some (Copies d) → EndsFrom leads d e → EndsFrom leads c e

-- what is known of a cell is right by the leads that were there first
abbrev pub IsRight : List Lead → ℕ → Lead → Type 0
IsRight origin c (Ends e) = EndsFrom origin c e
IsRight origin c (Copies d) = slice_get origin c ≡ Some (Copies d)
IsRight origin c Nowhere = (e : End) → EndsFrom origin c e → ⊥

-- what is known of all cells is
pub record AreRight (origin leads : List Lead) : Type 0 where
  pub many : length leads ≡ length origin
  pub each : (c : ℕ) (lead : Lead) → slice_get leads c ≡ Some lead → IsRight origin c lead

-- the path leads to a cell: its members end where that one does, what is known of the others is right, and of them nothing
pub record IsFollowed (origin leads : List Lead) (path : List ℕ) (cell : ℕ) : Type 0 where
  pub many : length leads ≡ length origin
  pub up : (c : ℕ) → IsAmong path c → (e : End) → EndsFrom origin cell e → EndsFrom origin c e
  pub down : (c : ℕ) → IsAmong path c → (e : End) → EndsFrom origin c e → EndsFrom origin cell e
  pub closed : (c : ℕ) → IsAmong path c → (d : ℕ) × (slice_get origin c ≡ Some (Copies d)) × (IsAmong path d ⊎ (d ≡ cell))
  pub each : (c : ℕ) (lead : Lead) → slice_get leads c ≡ Some lead → IsRight origin c lead ⊎ ((lead ≡ Nowhere) × IsAmong path c)

-- how far the path has come from its start
pub record IsPath (old leads : List Lead) (path : List ℕ) (start cell : ℕ) : Type 0 where
  pub many : length leads ≡ length old
  pub inside : cell < length leads
  pub members : (c : ℕ) → IsAmong path c → c < length leads
  pub cleared : (c : ℕ) → IsAmong path c → slice_get leads c ≡ Some Nowhere
  pub kept : (c d : ℕ) → slice_get leads c ≡ Some (Copies d) → slice_get old c ≡ Some (Copies d)
  pub begun : (start ≡ cell) ⊎ IsAmong path start
  pub right : (origin : List Lead) → AreRight origin old → IsFollowed origin leads path cell

-- it ends at a cell that copies none
pub record IsWholePath (old leads : List Lead) (path : List ℕ) (start cell : ℕ) : Type 0 where
  pub path_to : IsPath old leads path start cell
  pub stopped : (d : ℕ) → slice_get leads cell ≡ Some (Copies d) → ⊥

-- a path is followed to its end
abbrev pub FollowsTo : List Lead → List Lead → List ℕ → ℕ → Result ℕ AllocError → Type 0
FollowsTo old new path start (Ok cell) = IsWholePath old new path start cell
FollowsTo old new path start (Err e) = Unit {0}

-- the end of one cell more is known, and what was right is
pub record IsWalked (old new : List Lead) (start : ℕ) : Type 0 where
  pub many : length new ≡ length old
  pub fewer : (c d : ℕ) → slice_get new c ≡ Some (Copies d) → (slice_get old c ≡ Some (Copies d)) × (c ≢ start)
  pub right : (origin : List Lead) → AreRight origin old → AreRight origin new

-- a walk from a cell
abbrev pub WalksFrom : List Lead → List Lead → ℕ → Result (Unit {0}) AllocError → Type 0
WalksFrom old new start (Ok done) = IsWalked old new start
WalksFrom old new start (Err e) = Unit {0}

-- no cell below this number copies, and what is known is right
pub record IsResolvedTo (n : ℕ) (origin leads : List Lead) : Type 0 where
  pub right : AreRight origin leads
  pub within : AreWithin leads
  pub known : (c d : ℕ) → slice_get leads c ≡ Some (Copies d) → c < n → ⊥

-- all are known: each cell ends exactly where following copies from it does
pub record IsResolved (origin leads : List Lead) : Type 0 where
  pub many : length leads ≡ length origin
  pub ends : (c : ℕ) (e : End) → slice_get leads c ≡ Some (Ends e) → EndsFrom origin c e
  pub all : (c : ℕ) (e : End) → EndsFrom origin c e → slice_get leads c ≡ Some (Ends e)
