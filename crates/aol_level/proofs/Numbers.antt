-- The numbers below one, taken apart.
use Rattle.std.proofs.Common.{◌≡◌, ℕ, zero, suc, ◌+◌, [], ◌∷◌, ◌++◌, ◌∙◌, ap, arith}
use Rattle.aol_shape.specs.Lists.{numbers_from, numbers_below}

-- the numbers up to one, and those after it
pub numbers_split : (from n m : ℕ) → numbers_from from (n + m) ≡ numbers_from from n ++ numbers_from (from + n) m
numbers_split from zero m = let e : from ≡ from + 0 = omega arith in let z : 0 + m ≡ m = omega arith in ap (numbers_from from) z ∙ ap (λ k. numbers_from k m) e
numbers_split from (suc n) m =
    let e : (from + 1) + n ≡ from + suc n = omega arith in
    let s : suc n + m ≡ suc (n + m) = omega arith in
    ap (numbers_from from) s ∙ ap (λ ks. from ∷ ks) (numbers_split (from + 1) n m ∙ ap (λ k. numbers_from (from + 1) n ++ numbers_from k m) e)

pub numbers_next : (n : ℕ) → numbers_below (n + 1) ≡ numbers_below n ++ n ∷ []
numbers_next n = let e : 0 + n ≡ n = omega arith in numbers_split 0 n 1 ∙ ap (λ k. numbers_below n ++ k ∷ []) e
