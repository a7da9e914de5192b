-- What the cells of a memory hold after some instances have run at once.
use Rattle.std.specs.Prelude.{◌≡◌, ℕ, ◌+◌, ◌<◌, ◌≤◌, List, map, length, slice_get, slice_index, Option, Some}
use Rattle.std.specs.List.{IsAmong}
use Rattle.aol_expr_tree.specs.declared.value.Val.{Val}
use Rattle.aol_flat.specs.Instance.{instances}
use Rattle.aol_flat.specs.Laid.{Laid}
use Rattle.aol_flat.specs.Net.{Net, IsNetOf, reads_at, writes_at}
use Rattle.aol_flat.specs.declared.view.Read.TheVariants.{Cell}
use Rattle.aol_scatter.specs.Cells.{cell, IsHeld}
use Rattle.aol_level.specs.Puts.{kept_by, value_held}
use Rattle.aol_level.specs.declared.kept.Kept.{Kept}

-- the workers of a run: the model that is laid out, and how many they are
pub record CrewOf : Type 0 where
  pub flat : Laid
  pub workers : ℕ

-- no cell is lent
abbrev pub AllHeld : List (Option Kept) → Type 0
AllHeld cells = (c : ℕ) → c < length cells → IsHeld cells c

-- no two of these instances write one cell, none writes a cell twice, and none reads what one of them writes
pub record AreIndependent (net : Net) (at_once : List ℕ) : Type 0 where
  pub one_writer : (i j k n c : ℕ) → IsAmong at_once i → IsAmong at_once j → slice_get (writes_at net i) k ≡ Some c → slice_get (writes_at net j) n ≡ Some c → (i ≡ j) × (k ≡ n)
  pub unread : (i j k n c : ℕ) → IsAmong at_once i → IsAmong at_once j → slice_get (reads_at net i) k ≡ Some (Cell c) → slice_get (writes_at net j) n ≡ Some c → ⊥

-- instances of the model, each once and worker by worker, that don't depend on one another
pub record CanRunAtOnce (f : Laid) (workers at_once : List ℕ) : Type 0 where
  pub within : (i j : ℕ) → slice_get at_once i ≡ Some j → j < length (instances f.model)
  pub once : (i k j : ℕ) → slice_get at_once i ≡ Some j → slice_get at_once k ≡ Some j → i ≡ k
  pub by_worker : (i j k : ℕ) → slice_get at_once i ≡ Some j → slice_get at_once (i + 1) ≡ Some k → slice_index workers j ≤ slice_index workers k
  pub net : Net
  pub is_net : IsNetOf f net
  pub independent : AreIndependent net at_once

-- each cell that one of the instances writes holds what it gives there for what it read before, and its worker; every other cell is as it was
pub record IsAfterOn (net : Net) (workers at_once : List ℕ) (old new : List (Option Kept)) : Type 0 where
  pub written : (j k c : ℕ) → IsAmong at_once j → slice_get (writes_at net j) k ≡ Some c
      → (x : Val) × (slice_get (net.gives j (map (value_held old) (reads_at net j))) k ≡ Some x) × (cell new c ≡ Some (kept_by (slice_index workers j) x))
  pub others : (c : ℕ) → ((j k : ℕ) → IsAmong at_once j → slice_get (writes_at net j) k ≡ Some c → ⊥) → cell new c ≡ cell old c

-- so it is on the net of the model
abbrev pub IsAfter : Laid → List ℕ → List ℕ → List (Option Kept) → List (Option Kept) → Type 0
IsAfter f workers at_once old new = (net : Net) → IsNetOf f net → IsAfterOn net workers at_once old new
