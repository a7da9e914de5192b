-- The number of a part against its name, and links that are looked for.
use Rattle.std.proofs.Common.{◌≡◌, ℕ, zero, suc, ◌+◌, ◌<◌, ◌≤◌, Bool, true, false, not, ◌&&◌, nat_eq, List, [], ◌∷◌, length, take, get_or, sym, ◌∙◌, ap, refl, arith}
use Rattle.std.specs.List.{list_any, position_or_len}
use Rattle.std.proofs.lemmas.Bool.Decides.{nat_tests}

suc_equal : (x y : ℕ) → nat_eq (1 + x) (suc y) ≡ nat_eq x y
suc_equal x y = grind (arith, nat_tests)

never_zero : (x : ℕ) → nat_eq (1 + x) 0 ≡ false
never_zero x = grind (arith, nat_tests)

-- the first that passes has number k
pub numbered_there : {X : Type 0} (test : X → Bool) (xs : List X) (k : ℕ) (d : X) → k < length xs → nat_eq (position_or_len test xs) k ≡ (test (get_or xs k d) && not (list_any test (take k xs)))
numbered_there test [] k d h = absurd (omega (arith, h))
numbered_there test (x ∷ xs) zero d h = go (test x) refl
  where
    go : (b : Bool) → test x ≡ b → nat_eq (position_or_len test (x ∷ xs)) 0 ≡ (test x && true)
    go true e = rw e refl
    go false e = rw e (never_zero (position_or_len test xs))
numbered_there test (x ∷ xs) (suc k) d h = go (test x) refl (numbered_there test xs k d (omega (arith, h)))
  where
    both_false : (b : Bool) → (b && false) ≡ false
    both_false true = refl
    both_false false = refl

    zero_not : (k : ℕ) → nat_eq 0 (suc k) ≡ false
    zero_not k = grind (arith, nat_tests)

    go : (b : Bool) → test x ≡ b → nat_eq (position_or_len test xs) k ≡ (test (get_or xs k d) && not (list_any test (take k xs)))
        → nat_eq (position_or_len test (x ∷ xs)) (suc k) ≡ (test (get_or xs k d) && not (list_any test (x ∷ take k xs)))
    go true e later = rw e (zero_not k ∙ sym (both_false (test (get_or xs k d))))
    go false e later = rw e (suc_equal (position_or_len test xs) k ∙ later)

-- none passes
pub numbered_past : {X : Type 0} (test : X → Bool) (xs : List X) (k : ℕ) → length xs ≤ k → nat_eq (position_or_len test xs) k ≡ (nat_eq k (length xs) && not (list_any test xs))
numbered_past test [] k h = go k
  where
    and_true : (b : Bool) → b ≡ (b && true)
    and_true true = refl
    and_true false = refl

    flip : (k : ℕ) → nat_eq 0 k ≡ nat_eq k 0
    flip k = grind (arith, nat_tests)

    go : (k : ℕ) → nat_eq 0 k ≡ (nat_eq k 0 && true)
    go k = flip k ∙ and_true (nat_eq k 0)
numbered_past test (x ∷ xs) zero h = absurd (omega (arith, h))
numbered_past test (x ∷ xs) (suc k) h = go (test x) refl (numbered_past test xs k (omega (arith, h)))
  where
    both_false : (b : Bool) → (b && false) ≡ false
    both_false true = refl
    both_false false = refl

    zero_not : nat_eq 0 (suc k) ≡ false
    zero_not = grind (arith, nat_tests)

    go : (b : Bool) → test x ≡ b → nat_eq (position_or_len test xs) k ≡ (nat_eq k (length xs) && not (list_any test xs))
        → nat_eq (position_or_len test (x ∷ xs)) (suc k) ≡ (nat_eq (suc k) (suc (length xs)) && not (list_any test (x ∷ xs)))
    go true e later = rw e (zero_not ∙ sym (both_false (nat_eq (suc k) (suc (length xs)))))
    go false e later = rw e (suc_equal (position_or_len test xs) k ∙ (later ∙ ap (λ b. b && not (list_any test xs)) (sym (same_suc k (length xs)))))
      where
        same_suc : (a b : ℕ) → nat_eq (suc a) (suc b) ≡ nat_eq a b
        same_suc a b = grind (arith, nat_tests)

pub true_left : (a b : Bool) → a ≡ true → (a && b) ≡ b
true_left true b h = refl
true_left false b h = cc

pub false_left : (a b : Bool) → a ≡ false → (a && b) ≡ false
false_left false b h = refl
false_left true b h = cc
