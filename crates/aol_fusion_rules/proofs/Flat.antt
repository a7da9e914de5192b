-- Lists in which each member gives way to some.
use Rattle.std.proofs.Common.{◌≡◌, ℕ, ◌+◌, Bool, true, false, cond, ◌&&◌, ◌||◌, not, List, [], ◌∷◌, ◌++◌, flat_map, find, Some, None, option_map, sym, ◌∙◌, ap, refl, arith, subst, ◌≤◌, suc, append_assoc}
use Rattle.std.specs.Option.{option_or}
use Rattle.std.specs.List.{IsAmong, list_any, count_by}
use Rattle.std.proofs.lemmas.List.{append-nil}
use Rattle.std.proofs.lemmas.List.Concat.{flat_map-append}
use Rattle.std.proofs.lemmas.List.Folds.{find-append, list_any-append}
use Rattle.std.proofs.lemmas.List.Sums.{sum_by-cons}
use Rattle.aol_model_types.specs.declared.place.PlaceStep.{PlaceStep}
use Rattle.aol_model_types.specs.Places.{to_index}
use Rattle.aol_model_types.specs.Rules.{Check, each_from}
use Rattle.aol_flat.proofs.Different.{Hold, hold-parts}
use Rattle.aol_flat.proofs.Once.{counted}
use Rattle.aol_flat.proofs.Truth.{both}
use Rattle.aol_change.proofs.ChangedChecks.{each-join}
use Rattle.aol_change.proofs.Checks.{each-all}
use Rattle.aol_fusion_laws.proofs.PairLinks.{count_both}

-- ---- one member

pub only_one : {X : Type 0} (a y : X) (front back : List X) → a ∷ [] ≡ front ++ y ∷ back → (front ≡ []) × (y ≡ a)
only_one a y [] back h = let is : a ≡ y = cc in (refl, sym is)
only_one a y (z ∷ []) back h = cc
only_one a y (z ∷ w ∷ front) back h = cc

pub not_one : {X : Type 0} (y : X) (front back : List X) → [] ≡ front ++ y ∷ back → ⊥
not_one y [] back h = cc
not_one y (z ∷ front) back h = cc

-- ---- what is found, and what passes

pub find_flat : {A B : Type 0} (change : A → List B) (test : A → Bool) (test' : B → Bool) (made : A → B) (xs : List A) → ((x : A) → IsAmong xs x → test x ≡ true → find test' (change x) ≡ Some (made x))
    → ((x : A) → IsAmong xs x → test x ≡ false → find test' (change x) ≡ None) → find test' (flat_map change xs) ≡ option_map made (find test xs)
find_flat change test test' made [] hit miss = refl
find_flat change test test' made (x ∷ xs) hit miss =
    find-append test' (change x) (flat_map change xs)
    ∙ go (test x) refl (find_flat change test test' made xs (λ y a. hit y (suc a.0, (omega (arith, a.1.0), a.1.1))) (λ y a. miss y (suc a.0, (omega (arith, a.1.0), a.1.1))))
  where
    go : (b : Bool) → test x ≡ b → find test' (flat_map change xs) ≡ option_map made (find test xs) → option_or (find test' (change x)) (find test' (flat_map change xs)) ≡ option_map made (cond b (Some x) (find test xs))
    go true e rest = ap (λ o. option_or o (find test' (flat_map change xs))) (hit x (0, (omega arith, refl)) e)
    go false e rest = ap (λ o. option_or o (find test' (flat_map change xs))) (miss x (0, (omega arith, refl)) e) ∙ rest

pub any_flat : {A B : Type 0} (change : A → List B) (test : A → Bool) (test' : B → Bool) (xs : List A) → ((x : A) → IsAmong xs x → test x ≡ false → list_any test' (change x) ≡ false)
    → list_any test xs ≡ false → list_any test' (flat_map change xs) ≡ false
any_flat change test test' [] miss h = refl
any_flat change test test' (x ∷ xs) miss h = go (test x) refl h (any_flat change test test' xs (λ y a. miss y (suc a.0, (omega (arith, a.1.0), a.1.1))))
  where
    go : (b : Bool) → test x ≡ b → (b || list_any test xs) ≡ false → (list_any test xs ≡ false → list_any test' (flat_map change xs) ≡ false) → list_any test' (change x ++ flat_map change xs) ≡ false
    go true e k rest = cc
    go false e k rest = list_any-append test' (change x) (flat_map change xs) ∙ (ap (λ c. c || list_any test' (flat_map change xs)) (miss x (0, (omega arith, refl)) e) ∙ rest k)

-- ---- counts

count_cons : {X : Type 0} (test : X → Bool) (x : X) (xs : List X) → count_by test (x ∷ xs) ≡ cond (test x) 1 0 + count_by test xs
count_cons test x xs = sum_by-cons (λ y. cond (test y) 1 0) x xs

pub count_one : {X : Type 0} (test : X → Bool) (x : X) → count_by test (x ∷ []) ≡ cond (test x) 1 0
count_one test x = let none : ◌≡◌ {A = ℕ} (count_by test []) 0 = refl in omega (arith, count_cons test x [], none)

pub count_pair : {X : Type 0} (test : X → Bool) (x y : X) → count_by test (x ∷ y ∷ []) ≡ cond (test x) 1 0 + cond (test y) 1 0
count_pair test x y = omega (arith, count_cons test x (y ∷ []), count_one test y)

pub count_flat : {A B : Type 0} (change : A → List B) (test : A → Bool) (test' : B → Bool) (xs : List A) → ((x : A) → IsAmong xs x → count_by test' (change x) ≡ cond (test x) 1 0)
    → count_by test' (flat_map change xs) ≡ count_by test xs
count_flat change test test' [] each = refl
count_flat change test test' (x ∷ xs) each =
    omega (
      arith,
      count_both test' (change x) (flat_map change xs),
      count_cons test x xs,
      each x (0, (omega arith, refl)),
      count_flat change test test' xs (λ y a. each y (suc a.0, (omega (arith, a.1.0), a.1.1))),
    )

-- what passes with another test, and without it
count_parts : {X : Type 0} (test keep : X → Bool) (xs : List X) → count_by test xs ≡ count_by (λ x. test x && keep x) xs + count_by (λ x. test x && not (keep x)) xs
count_parts test keep [] = refl
count_parts test keep (x ∷ xs) =
    omega (
      arith,
      count_cons test x xs,
      count_cons (λ y. test y && keep y) x xs,
      count_cons (λ y. test y && not (keep y)) x xs,
      one (test x) (keep x),
      count_parts test keep xs,
    )
  where
    one : (a b : Bool) → ◌≡◌ {A = ℕ} (cond a 1 0) (cond (a && b) 1 0 + cond (a && not b) 1 0)
    one true true = refl
    one true false = refl
    one false b = refl

-- two members that another test tells apart are counted twice
pub two_counted : {X : Type 0} (test keep : X → Bool) (xs : List X) (x y : X) → IsAmong xs x → IsAmong xs y → test x ≡ true → test y ≡ true → keep x ≡ true → keep y ≡ false → 2 ≤ count_by test xs
two_counted test keep xs x y a b tx ty kx ky =
    let first : 1 ≤ count_by (λ z. test z && keep z) xs = counted (λ z. test z && keep z) xs x a (both (test x) (keep x) tx kx) in
    let second : 1 ≤ count_by (λ z. test z && not (keep z)) xs = counted (λ z. test z && not (keep z)) xs y b (both (test y) (not (keep y)) ty (ap not ky)) in
    omega (arith, count_parts test keep xs, first, second)

-- ---- checks

grown : {A B : Type 0} (change : A → List B) (xs : List A) (x : A) → flat_map change (xs ++ x ∷ []) ≡ flat_map change xs ++ change x
grown change xs x = flat_map-append change xs (x ∷ []) ∙ ap (λ ys. flat_map change xs ++ ys) (append-nil (change x))

-- the checks of all members hold where those of each old member give those of the ones in its place
pub each_flat : {A B : Type 0} (change : A → List B) (f : List PlaceStep → List A → A → List Check) (g : List PlaceStep → List B → B → List Check) (at at' : List PlaceStep) (k k' : ℕ) (all earlier xs : List A)
    → all ≡ earlier ++ xs
    → ((p q : List PlaceStep) (before rest : List A) (x : A) (front back : List B) (y : B) → all ≡ before ++ x ∷ rest → Hold (f p before x) → change x ≡ front ++ y ∷ back → Hold (g q (flat_map change before ++ front) y))
    → Hold (each_from f at k earlier xs) → Hold (each_from g at' k' (flat_map change earlier) (flat_map change xs))
each_flat change f g at at' k k' all earlier [] split moves h = refl
each_flat {A = A} {B = B} change f g at at' k k' all earlier (x ∷ xs) split moves h =
    let parts = hold-parts (f (to_index at k) earlier x) (each_from f at (k + 1) (earlier ++ x ∷ []) xs) h in
    let here : Hold (each_from g at' k' (flat_map change earlier) (change x)) =
    each-all g at' k' (flat_map change earlier) (change x) (λ p front back y e. moves (to_index at k) p earlier xs x front back y split parts.0 e) in
    each-join g at' k' (flat_map change earlier) (change x) (flat_map change xs) here
    (λ j.
    let P : List B → Type 0 = λ before. Hold (each_from g at' j before (flat_map change xs)) in
    subst P (grown change earlier x) (each_flat change f g at at' (k + 1) j all (earlier ++ x ∷ []) xs (split ∙ sym (append_assoc earlier (x ∷ []) xs)) moves parts.1))
