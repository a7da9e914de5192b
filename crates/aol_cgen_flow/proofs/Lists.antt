-- Entries of lists that are made of others.
use Rattle.std.specs.Prelude.{◌≡◌, ℕ, zero, suc, ◌+◌, List, [], ◌∷◌, ◌++◌, map, length, slice_get, Some, ◌⊎◌}
use Rattle.std.proofs.Common.{refl, arith, inl, inr}

pub map_at : {A B : Type 0} (f : A → B) (xs : List A) (k : ℕ) (y : B) → slice_get (map f xs) k ≡ Some y → (x : A) × (slice_get xs k ≡ Some x) × (f x ≡ y)
map_at f [] zero y h = absurd (cc)
map_at f [] (suc k) y h = absurd (cc)
map_at f (x ∷ xs) zero y h = (x, refl, cc)
map_at f (x ∷ xs) (suc k) y h = map_at f xs k y h

-- an entry of two lists in a row is one of the first or of the second
pub either_at : {A : Type 0} (xs ys : List A) (k : ℕ) (y : A) → slice_get (xs ++ ys) k ≡ Some y → (slice_get xs k ≡ Some y) ⊎ ((i : ℕ) × (k ≡ length xs + i) × (slice_get ys i ≡ Some y))
either_at [] ys k y h = inr (k, omega arith, h)
either_at (x ∷ xs) ys zero y h = inl h
either_at (x ∷ xs) ys (suc k) y h = elim (either_at xs ys k y h) [ inl a ↦ inl a | inr b ↦ (let e = b.1 in inr (b.0, omega (arith, e), b.2)) ]
