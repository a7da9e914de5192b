-- The cells of a field as a list: Some value for a cell that is held here, None for one that is held elsewhere.
use Rattle.std.specs.Prelude.{◌≡◌, ◌≢◌, ℕ, ◌+◌, ◌<◌, eqb, ◌||◌, Bool, false, List, [], ◌∷◌, length, Option, Some, None, get_or, cond, filter_map, All, AllPairs}

-- whether the number is listed
abbrev pub is_listed : ℕ → List ℕ → Bool
is_listed k [] = false
is_listed k (n ∷ ns) = eqb k n || is_listed k ns

-- no number is listed twice
abbrev pub AreDistinct : List ℕ → Type 0
AreDistinct ks = AllPairs (λ j k. j ≢ k) ks

-- no number is in both lists
abbrev pub AreApart : List ℕ → List ℕ → Type 0
AreApart ks ls = All (λ k. All (λ l. k ≢ l) ls) ks

module _ {X : Type 0} where
  -- cell k, if there is one and it is held here
  abbrev pub cell : List (Option X) → ℕ → Option X
  cell cs k = get_or cs k None

  -- it is
  abbrev pub IsHeld : List (Option X) → ℕ → Type 0
  IsHeld cs k = (x : X) × (cell cs k ≡ Some x)

  -- every cell is
  abbrev pub IsWhole : List (Option X) → Type 0
  IsWhole cs = (k : ℕ) → k < length cs → IsHeld cs k

  -- no cell is that is not listed
  abbrev pub HoldsOnly : List (Option X) → List ℕ → Type 0
  HoldsOnly cs ks = (k : ℕ) → is_listed k ks ≡ false → cell cs k ≡ None

  -- the cells from number i on, without the listed ones
  abbrev pub without_from : ℕ → List ℕ → List (Option X) → List (Option X)
  without_from i ns [] = []
  without_from i ns (c ∷ cs) = cond (is_listed i ns) None c ∷ without_from (i + 1) ns cs

  -- the cells without the listed ones
  abbrev pub without : List ℕ → List (Option X) → List (Option X)
  without ns cs = without_from 0 ns cs

  -- the cells from number i on, the listed ones alone
  abbrev pub picked_from : ℕ → List ℕ → List (Option X) → List (Option X)
  picked_from i ns [] = []
  picked_from i ns (c ∷ cs) = cond (is_listed i ns) c None ∷ picked_from (i + 1) ns cs

  -- the listed cells alone
  abbrev pub picked : List ℕ → List (Option X) → List (Option X)
  picked ns cs = picked_from 0 ns cs

  -- the second, if it is held
  abbrev pub later : Option X → Option X → Option X
  later c None = c
  later c (Some x) = Some x

  -- the cells of both, where both hold one that of the second
  abbrev pub merged : List (Option X) → List (Option X) → List (Option X)
  merged [] ds = []
  merged (c ∷ cs) [] = c ∷ cs
  merged (c ∷ cs) (d ∷ ds) = later c d ∷ merged cs ds

  -- the values of the cells that are held
  abbrev pub values_held : List (Option X) → List X
  values_held cs = filter_map (λ c. c) cs

  -- the values of the listed cells that are held, in the order of the list
  abbrev pub values_at : List (Option X) → List ℕ → List X
  values_at cs ks = filter_map (λ k. cell cs k) ks
