-- Lists of cells that are claimed one after another.
use Rattle.std.specs.Prelude.{ℕ, List, [], ◌∷◌, Option, All}
use Rattle.aol_scatter.specs.Cells.{IsHeld, AreDistinct, without}

module _ {X : Type 0} where
  -- the cells without those of each list
  abbrev pub without_all : List (List ℕ) → List (Option X) → List (Option X)
  without_all [] cs = cs
  without_all (l ∷ ls) cs = without_all ls (without l cs)

  -- each list can be claimed after those before it
  abbrev pub CanClaim : List (Option X) → List (List ℕ) → Type 0
  CanClaim cs [] = Unit {0}
  CanClaim cs (l ∷ ls) = AreDistinct l × All (λ k. IsHeld cs k) l × CanClaim (without l cs) ls
