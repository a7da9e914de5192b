-- What std's `==` answers at two texts.
use Rattle.std.proofs.Common.{◌≡◌, ℕ, nat_eq, List, [], ◌∷◌, refl}
use lib.Pointwise.{pointwise}
use Rattle.aol_shape.specs.Lists.{same}

pub pointwise_same : (a b : List ℕ) → pointwise nat_eq a b ≡ same a b
pointwise_same [] [] = refl
pointwise_same [] (y ∷ ys) = refl
pointwise_same (x ∷ xs) [] = refl
pointwise_same (x ∷ xs) (y ∷ ys) = rw (pointwise_same xs ys) refl
