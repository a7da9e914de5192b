-- The instances that each instance needs.
use Rattle.std.specs.Prelude.{◌≡◌, ℕ, ◌<◌, List, [], length, slice_get, slice_index, unwrap_or, Option, Some, None}
use Rattle.std.specs.List.{IsAmong}
use Rattle.aol_flat.specs.Level.{above_all}
use Rattle.aol_depend.specs.declared.search.Search.{Search}

-- the instances that each instance needs
abbrev pub Rows : Type 0
Rows = List (List ℕ)

-- those that this one needs
abbrev pub row : Rows → ℕ → List ℕ
row needs j = unwrap_or (slice_get needs j) []

-- each needed instance is one of them
abbrev pub AreWithin : Rows → Type 0
AreWithin needs = (j k : ℕ) → IsAmong (row needs j) k → k < length needs

-- each instance has its level, where these are the instances that each needs
pub record HaveLevels (needs : Rows) (level : List ℕ) : Type 0 where
  pub many : length level ≡ length needs
  pub each : (j : ℕ) → j < length needs → slice_index level j ≡ above_all level (row needs j)

-- an instance of some set in which each needs one of the set
pub record IsCircling (needs : Rows) (j : ℕ) : Type 0 where
  pub set : List ℕ
  pub within : IsAmong set j
  pub goes_on : (i : ℕ) → IsAmong set i → (k : ℕ) × IsAmong set k × IsAmong (row needs i) k

-- the least instance of such a set
pub record IsFirstCircling (needs : Rows) (j : ℕ) : Type 0 where
  pub circling : IsCircling needs j
  pub first : (i : ℕ) → i < j → IsCircling needs i → ⊥

-- there are levels, or there is none for this instance, which is the first of such a set
abbrev pub IsFound : Rows → Search → Option ℕ → Type 0
IsFound needs s None = HaveLevels needs s.levels.items
IsFound needs s (Some j) = IsFirstCircling needs j
