-- How far a search for levels has come.
use Rattle.std.specs.Prelude.{◌≡◌, ◌≢◌, ℕ, ◌+◌, ◌-◌, ◌*◌, ◌^◌, ◌<◌, ◌≤◌, Bool, true, false, List, [], ◌∷◌, map, take, reverse, length, slice_get, slice_index, slice_set, Some}
use Rattle.std.specs.List.{IsAmong, count_by, sum_by}
use Rattle.aol_flat.specs.Level.{above_all}
use Rattle.aol_depend.specs.Needs.{Rows, row, AreWithin}
use Rattle.aol_depend.specs.declared.search.Mark.{Mark}
use Rattle.aol_depend.specs.declared.search.Mark.TheVariants.{New, Open, Ranked, Doomed}
use Rattle.aol_depend.specs.declared.search.Search.{Search}
use Rattle.aol_depend.specs.declared.search.Visit.{Visit}

-- all of these have levels
abbrev pub AreRanked : List Mark → List ℕ → Type 0
AreRanked marks ks = (k : ℕ) → IsAmong ks k → slice_get marks k ≡ Some Ranked

-- the instance has its level, and all that it needs have theirs
pub record HasLevel (needs : Rows) (marks : List Mark) (levels : List ℕ) (j : ℕ) : Type 0 where
  pub needed : AreRanked marks (row needs j)
  pub level : slice_index levels j ≡ above_all levels (row needs j)

-- an open instance: what it needs up to some place has levels, and its own so far is above these
pub record IsVisit (needs : Rows) (marks : List Mark) (levels : List ℕ) (v : Visit) : Type 0 where
  pub entered : slice_get marks v.instance ≡ Some Open
  pub within : v.next ≤ length (row needs v.instance)
  pub seen : AreRanked marks (take v.next (row needs v.instance))
  pub level : v.level ≡ above_all levels (take v.next (row needs v.instance))

-- the instance before needs this one
abbrev pub IsNeeded : Rows → Visit → List Visit → Type 0
IsNeeded needs v [] = Unit {0}
IsNeeded needs v (u ∷ us) = IsAmong (row needs u.instance) v.instance

-- no other one of these is of the same instance
abbrev pub IsApart : Visit → List Visit → Type 0
IsApart v us = (u : Visit) → IsAmong us u → u.instance ≢ v.instance

-- the open instances, the last one first
abbrev pub AreOpen : Rows → List Mark → List ℕ → List Visit → Type 0
AreOpen needs marks levels [] = Unit {0}
AreOpen needs marks levels (v ∷ vs) = IsVisit needs marks levels v × IsNeeded needs v vs × IsApart v vs × AreOpen needs marks levels vs

abbrev pub is_ranked : Mark → Bool
is_ranked Ranked = true
is_ranked _ = false

abbrev pub is_new : Mark → Bool
is_new New = true
is_new _ = false

-- the state of a search, whose open instances are these
pub record IsAt (needs : Rows) (marks : List Mark) (levels : List ℕ) (ranked : ℕ) (stack : List Visit) : Type 0 where
  pub within : AreWithin needs
  pub few : length needs < 2 ^ 32
  pub many_marks : length marks ≡ length needs
  pub many_levels : length levels ≡ length needs
  pub count : ranked ≡ count_by is_ranked marks
  pub ranks : (j : ℕ) → slice_get marks j ≡ Some Ranked → HasLevel needs marks levels j
  pub low : (j : ℕ) → slice_get marks j ≡ Some Ranked → slice_index levels j < ranked
  pub dooms : (j : ℕ) → slice_get marks j ≡ Some Doomed → (k : ℕ) × IsAmong (row needs j) k × (slice_get marks k ≡ Some Doomed)
  pub opens : (j : ℕ) → slice_get marks j ≡ Some Open → IsAmong (map (λ (v : Visit). v.instance) stack) j
  pub chain : AreOpen needs marks levels stack

-- the state of a search
abbrev pub IsSearch : Rows → Search → Type 0
IsSearch needs s = IsAt needs s.marks.items s.levels.items s.ranked (reverse s.path.items)

-- no instance becomes new again
abbrev pub KeepsOld : List Mark → List Mark → Type 0
KeepsOld old new = (j : ℕ) → slice_get new j ≡ Some New → slice_get old j ≡ Some New

-- the marks when all of these are doomed
abbrev pub doomed : List Mark → List Visit → List Mark
doomed marks [] = marks
doomed marks (v ∷ vs) = doomed (slice_set marks v.instance Doomed) vs

-- how many steps an open instance has left, at most
abbrev pub steps_of : Rows → Visit → ℕ
steps_of needs v = 2 * (length (row needs v.instance) - v.next) + 1

-- how many steps a search has left, at most
abbrev pub steps_left : Rows → List Mark → List Visit → ℕ
steps_left needs marks stack = count_by is_new marks * (2 * sum_by length needs + 3) + sum_by (steps_of needs) stack
