-- Checks of the members of a list, and of lists of checks.
use Rattle.std.proofs.Common.{◌≡◌, ℕ, suc, ◌+◌, List, [], ◌∷◌, ◌++◌, map, sym, ◌∙◌, ap, refl, arith, subst}
use Rattle.std.specs.List.{IsAmong, list_all}
use Rattle.std.proofs.lemmas.List.{append_assoc, append-nil, map-append}
use Rattle.std.proofs.lemmas.List.Folds.{list_all-append}
use Rattle.aol_model_types.specs.declared.place.PlaceStep.{PlaceStep}
use Rattle.aol_model_types.specs.Places.{to_index}
use Rattle.aol_model_types.specs.Rules.{Check, each_from}
use Rattle.aol_flat.proofs.Different.{Hold, hold-parts}
use Rattle.aol_flat.proofs.Truth.{both}

-- both lists of checks hold
pub hold-both : (cs ds : List Check) → Hold cs → Hold ds → Hold (cs ++ ds)
hold-both cs ds h k =
    list_all-append (λ (c : Check). c.holds) cs ds ∙ both (list_all (λ (c : Check). c.holds) cs) (list_all (λ (c : Check). c.holds) ds) h k

among-later : {X : Type 0} (y : X) (xs : List X) (x : X) → IsAmong xs x → IsAmong (y ∷ xs) x
among-later y xs x a = (suc a.0, (omega (arith, a.1.0), a.1.1))

-- where the checks of each member give other ones, at any place
pub each-moved : {A : Type 0} (f g : List PlaceStep → List A → A → List Check) (at at' : List PlaceStep) (k k' : ℕ) (earlier xs : List A)
    → ((p q : List PlaceStep) (before : List A) (x : A) → IsAmong xs x → Hold (f p before x) → Hold (g q before x))
    → Hold (each_from f at k earlier xs) → Hold (each_from g at' k' earlier xs)
each-moved f g at at' k k' earlier [] moves h = refl
each-moved f g at at' k k' earlier (x ∷ xs) moves h =
    let parts = hold-parts (f (to_index at k) earlier x) (each_from f at (k + 1) (earlier ++ x ∷ []) xs) h in
    hold-both (g (to_index at' k') earlier x) (each_from g at' (k' + 1) (earlier ++ x ∷ []) xs)
    (moves (to_index at k) (to_index at' k') earlier x (0, (omega arith, refl)) parts.0)
    (each-moved f g at at' (k + 1) (k' + 1) (earlier ++ x ∷ []) xs (λ p q before y a. moves p q before y (among-later x xs y a)) parts.1)

-- the same where the members are changed
pub each-mapped : {A B : Type 0} (change : A → B) (f : List PlaceStep → List A → A → List Check) (g : List PlaceStep → List B → B → List Check)
    (at at' : List PlaceStep) (k k' : ℕ) (earlier xs : List A)
    → ((p q : List PlaceStep) (before : List A) (x : A) → IsAmong xs x → Hold (f p before x) → Hold (g q (map change before) (change x)))
    → Hold (each_from f at k earlier xs) → Hold (each_from g at' k' (map change earlier) (map change xs))
each-mapped change f g at at' k k' earlier [] moves h = refl
each-mapped {B = B} change f g at at' k k' earlier (x ∷ xs) moves h =
    let parts = hold-parts (f (to_index at k) earlier x) (each_from f at (k + 1) (earlier ++ x ∷ []) xs) h in
    let P : List B → Type 0 = λ before. Hold (each_from g at' (k' + 1) before (map change xs)) in
    hold-both (g (to_index at' k') (map change earlier) (change x)) (each_from g at' (k' + 1) (map change earlier ++ change x ∷ []) (map change xs))
    (moves (to_index at k) (to_index at' k') earlier x (0, (omega arith, refl)) parts.0)
    (subst P (map-append change earlier (x ∷ []))
    (each-mapped change f g at at' (k + 1) (k' + 1) (earlier ++ x ∷ []) xs (λ p q before y a. moves p q before y (among-later x xs y a)) parts.1))

-- the checks hold where those of each member do, by what stands before it
pub each-all : {A : Type 0} (g : List PlaceStep → List A → A → List Check) (at : List PlaceStep) (k : ℕ) (earlier xs : List A)
    → ((p : List PlaceStep) (before rest : List A) (x : A) → xs ≡ before ++ x ∷ rest → Hold (g p (earlier ++ before) x)) → Hold (each_from g at k earlier xs)
each-all g at k earlier [] all = refl
each-all {A = A} g at k earlier (x ∷ xs) all =
    let P : List A → Type 0 = λ before. Hold (g (to_index at k) before x) in
    hold-both (g (to_index at k) earlier x) (each_from g at (k + 1) (earlier ++ x ∷ []) xs)
    (subst P (append-nil earlier) (all (to_index at k) [] xs x refl))
    (each-all g at (k + 1) (earlier ++ x ∷ []) xs
    (λ p before rest y e.
    let Q : List A → Type 0 = λ b. Hold (g p b y) in
    subst Q (sym (append_assoc earlier (x ∷ []) before)) (all p (x ∷ before) rest y (ap (λ ys. x ∷ ys) e))))
