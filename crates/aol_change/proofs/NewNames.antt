-- A new name is none of those that are taken.
use Rattle.std.proofs.Common.{◌≡◌, ℕ, zero, suc, ◌+◌, ◌^◌, ◌<◌, ◌≤◌, Bool, true, false, cond, not, ◌||◌, List, [], ◌∷◌, ◌++◌, length, filter, codes, decimal, sym, ◌∙◌, ap, refl, arith}
use Rattle.std.specs.List.{list_any}
use Rattle.std.proofs.lemmas.Fmt.{decimal_injective}
use Rattle.aol_shape.specs.Lists.{same}
use Rattle.aol_change.specs.Change.{numbered, is_taken, free_number}
use Rattle.aol_flat.proofs.Names.{same-equal}

filter_le : {X : Type 0} (q : X → Bool) (xs : List X) → length (filter q xs) ≤ length xs
filter_le q [] = omega arith
filter_le q (x ∷ xs) = go (q x) (filter_le q xs)
  where
    go : (b : Bool) → length (filter q xs) ≤ length xs → length (cond b (x ∷ filter q xs) (filter q xs)) ≤ suc (length xs)
    go true h = omega (arith, h)
    go false h = omega (arith, h)

-- without those that pass a test, of which there are some, a list is shorter
shorter : {X : Type 0} (p : X → Bool) (xs : List X) → list_any p xs ≡ true → suc (length (filter (λ x. not (p x)) xs)) ≤ length xs
shorter p [] h = cc
shorter p (x ∷ xs) h = go (p x) h (shorter p xs)
  where
    go : (b : Bool) → (b || list_any p xs) ≡ true → (list_any p xs ≡ true → suc (length (filter (λ x. not (p x)) xs)) ≤ length xs)
        → suc (length (cond (not b) (x ∷ filter (λ x. not (p x)) xs) (filter (λ x. not (p x)) xs))) ≤ suc (length xs)
    go true h k = let e : length (filter (λ x. not (p x)) xs) ≤ length xs = filter_le (λ x. not (p x)) xs in omega (arith, e)
    go false h k = let e : suc (length (filter (λ x. not (p x)) xs)) ≤ length xs = k h in omega (arith, e)

-- a test that a second one follows from finds the same among those that pass the second
any_filtered : {X : Type 0} (p q : X → Bool) → ((x : X) → p x ≡ true → q x ≡ true) → (xs : List X) → list_any p (filter q xs) ≡ list_any p xs
any_filtered p q h [] = refl
any_filtered p q h (x ∷ xs) = go (q x) refl (p x) refl (any_filtered p q h xs)
  where
    go : (b : Bool) → q x ≡ b → (c : Bool) → p x ≡ c → list_any p (filter q xs) ≡ list_any p xs → list_any p (cond b (x ∷ filter q xs) (filter q xs)) ≡ (p x || list_any p xs)
    go true e c f k = ap (λ b. p x || b) k
    go false e true f k = let g : q x ≡ true = h x f in cc
    go false e false f k = rw f k

prefix_cancelled : (xs ys zs : List ℕ) → xs ++ ys ≡ xs ++ zs → ys ≡ zs
prefix_cancelled [] ys zs h = h
prefix_cancelled (x ∷ xs) ys zs h = let e : xs ++ ys ≡ xs ++ zs = cc in prefix_cancelled xs ys zs e

-- two numbers give two names
apart : (name : List ℕ) (j k : ℕ) → j < 2 ^ 64 → k < j → numbered name j ≡ numbered name k → ⊥
apart name j k few h e =
    let d : decimal j ≡ decimal k = prefix_cancelled (name ++ codes "_") (decimal j) (decimal k) e in
    let g : j ≡ k = decimal_injective j k few (omega (arith, few, h)) d in
    omega (arith, h, g)

still_there : (name : List ℕ) (j k : ℕ) → j < 2 ^ 64 → k < j → (n : List ℕ) → same n (numbered name j) ≡ true → not (same n (numbered name k)) ≡ true
still_there name j k few h n e = go (same n (numbered name k)) refl
  where
    go : (b : Bool) → same n (numbered name k) ≡ b → not (same n (numbered name k)) ≡ true
    go true f = absurd (apart name j k few h (sym (same-equal n (numbered name j) e) ∙ same-equal n (numbered name k) f))
    go false f = ap not f

-- the names but for one with this number
abbrev others_than : List ℕ → ℕ → List (List ℕ) → List (List ℕ)
others_than name k names = filter (λ n. not (same n (numbered name k))) names

-- as many names as there are numbers to try leave one of the numbers free, or the one after them
free_from : (names taken : List (List ℕ)) (name : List ℕ) (many k : ℕ) → length names ≤ many → k + many < 2 ^ 64
    → ((j : ℕ) → k ≤ j → j < 2 ^ 64 → is_taken taken (numbered name j) ≡ is_taken names (numbered name j))
    → is_taken taken (numbered name (free_number taken name many k)) ≡ false
free_from [] taken name zero k short few alike = alike k (omega arith) (omega (arith, few))
free_from (n ∷ names) taken name zero k short few alike = absurd (omega (arith, short))
free_from names taken name (suc many) k short few alike =
    go (is_taken taken (numbered name k)) refl (λ s. free_from (others_than name k names) taken name many (k + 1) s (omega (arith, few)) rest_alike)
  where
    rest_alike : (j : ℕ) → k + 1 ≤ j → j < 2 ^ 64 → is_taken taken (numbered name j) ≡ is_taken (others_than name k names) (numbered name j)
    rest_alike j h small =
        alike j (omega (arith, h)) small
        ∙ sym (any_filtered (λ n. same n (numbered name j)) (λ n. not (same n (numbered name k))) (still_there name j k small (omega (arith, h))) names)

    go : (b : Bool) → is_taken taken (numbered name k) ≡ b
        → (length (others_than name k names) ≤ many → is_taken taken (numbered name (free_number taken name many (k + 1))) ≡ false)
        → is_taken taken (numbered name (cond b (free_number taken name many (k + 1)) k)) ≡ false
    go false e rest = e
    go true e rest =
        let there : is_taken names (numbered name k) ≡ true = sym (alike k (omega arith) (omega (arith, few))) ∙ e in
        let less : suc (length (others_than name k names)) ≤ length names = shorter (λ n. same n (numbered name k)) names there in
        rest (omega (arith, less, short))

-- a free name is found
pub is_free : (taken : List (List ℕ)) (name : List ℕ) → 1 + length taken < 2 ^ 64 → is_taken taken (numbered name (free_number taken name (length taken) 1)) ≡ false
is_free taken name few = free_from taken taken name (length taken) 1 (omega arith) few (λ j h small. refl)
