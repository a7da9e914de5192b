-- Where a name stands in a list of different names.
use Rattle.std.proofs.Common.{◌≡◌, ℕ, zero, suc, ◌+◌, Bool, true, false, cond, ◌&&◌, ◌==◌, List, [], ◌∷◌, ◌++◌, length, Some, slice_get, ◌∙◌, ap, refl, arith}
use Rattle.std.proofs.lemmas.Bool.{eqb-true, eq-eqb}
use Rattle.std.proofs.lemmas.Option.{none-some}
use Rattle.aol_shape.specs.Lists.{same}
use Rattle.aol_flat.specs.ElementaryMain.{AreDifferent}

-- a conjunction holds in both parts
pub both-true : (a b : Bool) → (a && b) ≡ true → (a ≡ true) × (b ≡ true)
both-true true b h = (refl, h)
both-true false b h = cc

-- a name is the same as itself
pub same-self : (name : List ℕ) → same name name ≡ true
same-self [] = refl
same-self (x ∷ xs) = ap (λ b. b && same xs xs) (eq-eqb x x refl) ∙ same-self xs

-- names that are the same are equal
pub same-equal : (a b : List ℕ) → same a b ≡ true → a ≡ b
same-equal [] [] h = refl
same-equal [] (y ∷ ys) h = cc
same-equal (x ∷ xs) [] h = cc
same-equal (x ∷ xs) (y ∷ ys) h =
    let parts = both-true (x == y) (same xs ys) h in
    let first : x ≡ y = eqb-true x y parts.0 in
    let rest : xs ≡ ys = same-equal xs ys parts.1 in
    cc

-- the place of the first name that is this one
abbrev pub place_of : List ℕ → List (List ℕ) → ℕ
place_of name [] = 0
place_of name (n ∷ ns) = cond (same n name) 0 (suc (place_of name ns))

-- a name of different ones stands at its own place
pub place_of-different : (names : List (List ℕ)) → AreDifferent names → (k : ℕ) (name : List ℕ) → slice_get names k ≡ Some name → place_of name names ≡ k
place_of-different [] d k name at = absurd (none-some name at)
place_of-different (n ∷ ns) d zero name at =
    let e : n ≡ name = cc in
    let t : same n name ≡ true = ap (λ a. same a name) e ∙ same-self name in
    ap (λ b. cond b 0 (suc (place_of name ns))) t
place_of-different (n ∷ ns) d (suc k) name at =
    let tail : AreDifferent ns = λ i j x a b. let e : suc i ≡ suc j = d (suc i) (suc j) x a b in omega (arith, e) in
    by_test (same n name) refl (place_of-different ns tail k name at)
  where
    by_test : (b : Bool) → same n name ≡ b → place_of name ns ≡ k → cond b 0 (suc (place_of name ns)) ≡ suc k
    by_test true e rest =
        let equal : n ≡ name = same-equal n name e in
        let places : 0 ≡ suc k = d 0 (suc k) name (ap (λ a. Some a) equal) at in
        absurd (omega (arith, places))
    by_test false e rest = ap (λ i. suc i) rest

-- an element of the first of two lists, and of the second
pub slice_get-left : {X : Type 0} (xs ys : List X) (k : ℕ) (x : X) → slice_get xs k ≡ Some x → slice_get (xs ++ ys) k ≡ Some x
slice_get-left [] ys k x at = absurd (none-some x at)
slice_get-left (y ∷ xs) ys zero x at = at
slice_get-left (y ∷ xs) ys (suc k) x at = slice_get-left xs ys k x at

pub slice_get-right : {X : Type 0} (xs ys : List X) (k : ℕ) → slice_get (xs ++ ys) (length xs + k) ≡ slice_get ys k
slice_get-right [] ys k = let e : 0 + k ≡ k = omega arith in ap (slice_get ys) e
slice_get-right (x ∷ xs) ys k = let e : suc (length xs) + k ≡ suc (length xs + k) = omega arith in ap (slice_get (x ∷ xs ++ ys)) e ∙ slice_get-right xs ys k
