-- Lists put one after another, and numbers that stand once in them.
use Rattle.std.proofs.Common.{◌≡◌, ◌≢◌, ℕ, zero, suc, ◌+◌, ◌<◌, List, [], ◌∷◌, ◌++◌, map, flat_map, length, take, drop, get_or, slice_get, Option, Some, None, refl, sym, ◌∙◌, ap, subst, arith, ◌⊎◌, inl, inr, All, Contains}
use Rattle.std.specs.List.{IsAmong, AllPairs}
use Rattle.std.proofs.lemmas.List.{append-nil, append_assoc, length-map, map-append, take-append-drop}
use Rattle.std.proofs.lemmas.Grind.{flat_map-append}
use Rattle.aol_scatter.specs.Cells.{AreDistinct, AreApart}

-- ---- what stands in a list

-- it stands somewhere in the list
abbrev pub Has : {X : Type 0} → List X → X → Type 0
Has xs x = (k : ℕ) × (slice_get xs k ≡ Some x)

pub some_injective : {X : Type 0} (a b : X) → Some a ≡ Some b → a ≡ b
some_injective a b h = cc

pub none_some : {X : Type 0} (x : X) → ◌≡◌ {A = Option X} None (Some x) → ⊥
none_some x h = cc

pub get_within : {X : Type 0} (xs : List X) (k : ℕ) (x : X) → slice_get xs k ≡ Some x → k < length xs
get_within [] k x h = absurd (none_some x h)
get_within (y ∷ xs) zero x h = omega arith
get_within (y ∷ xs) (suc k) x h = omega (arith, get_within xs k x h)

pub get_there : {X : Type 0} (xs : List X) (k : ℕ) (d : X) → k < length xs → slice_get xs k ≡ Some (get_or xs k d)
get_there [] k d h = absurd (omega (arith, h))
get_there (x ∷ xs) zero d h = refl
get_there (x ∷ xs) (suc k) d h = get_there xs k d (omega (arith, h))

pub get_is : {X : Type 0} (xs : List X) (k : ℕ) (d x : X) → slice_get xs k ≡ Some x → get_or xs k d ≡ x
get_is xs k d x h = some_injective (get_or xs k d) x (sym (get_there xs k d (get_within xs k x h)) ∙ h)

pub among_has : {X : Type 0} (xs : List X) (x : X) → IsAmong xs x → Has xs x
among_has xs x a = (a.0, get_there xs a.0 x a.1.0 ∙ ap Some (sym a.1.1))

pub has_among : {X : Type 0} (xs : List X) (x : X) → Has xs x → IsAmong xs x
has_among xs x a = (a.0, (get_within xs a.0 x a.1, sym (get_is xs a.0 x x a.1)))

pub contains_has : {X : Type 0} (xs : List X) (x : X) → Contains xs x → Has xs x
contains_has xs x a = (a.0, get_there xs a.0 x a.1 ∙ ap Some a.2)

pub has_contains : {X : Type 0} (xs : List X) (x : X) → Has xs x → Contains xs x
has_contains xs x a = (a.0, get_within xs a.0 x a.1, get_is xs a.0 x x a.1)

pub all_has : {X : Type 0} (P : X → Type 0) (xs : List X) → ((x : X) → Has xs x → P x) → All P xs
all_has P xs h = λ k d lt. h (get_or xs k d) (k, get_there xs k d lt)

pub has_all : {X : Type 0} (P : X → Type 0) (xs : List X) (x : X) → All P xs → Has xs x → P x
has_all P xs x all a = subst P (get_is xs a.0 x x a.1) (all a.0 x (get_within xs a.0 x a.1))

pub has_head : {X : Type 0} (x : X) (xs : List X) → Has (x ∷ xs) x
has_head x xs = (0, refl)

pub has_tail : {X : Type 0} (x y : X) (xs : List X) → Has xs y → Has (x ∷ xs) y
has_tail x y xs a = (suc a.0, a.1)

pub has_cases : {X : Type 0} (x y : X) (xs : List X) → Has (x ∷ xs) y → (x ≡ y) ⊎ Has xs y
has_cases x y xs (zero, h) = inl (some_injective x y h)
has_cases x y xs (suc k, h) = inr (k, h)

-- ---- one list after another

pub get_left : {X : Type 0} (xs ys : List X) (k : ℕ) (x : X) → slice_get xs k ≡ Some x → slice_get (xs ++ ys) k ≡ Some x
get_left [] ys k x h = absurd (none_some x h)
get_left (y ∷ xs) ys zero x h = h
get_left (y ∷ xs) ys (suc k) x h = get_left xs ys k x h

pub get_right : {X : Type 0} (xs ys : List X) (k : ℕ) → slice_get (xs ++ ys) (length xs + k) ≡ slice_get ys k
get_right [] ys k = let e : 0 + k ≡ k = omega arith in ap (slice_get ys) e
get_right (x ∷ xs) ys k = let e : suc (length xs) + k ≡ suc (length xs + k) = omega arith in ap (slice_get (x ∷ xs ++ ys)) e ∙ get_right xs ys k

pub get_cases : {X : Type 0} (xs ys : List X) (k : ℕ) (x : X) → slice_get (xs ++ ys) k ≡ Some x → (slice_get xs k ≡ Some x) ⊎ ((n : ℕ) × (k ≡ length xs + n) × (slice_get ys n ≡ Some x))
get_cases [] ys k x h = let e : k ≡ 0 + k = omega arith in inr (k, e, h)
get_cases (y ∷ xs) ys zero x h = inl h
get_cases (y ∷ xs) ys (suc k) x h =
    elim (get_cases xs ys k x h) [
      | inl a ↦ inl a
      | inr b ↦ let e : suc k ≡ suc (length xs) + b.0 = omega (arith, b.1) in inr (b.0, e, b.2)
    ]

pub has_left : {X : Type 0} (xs ys : List X) (x : X) → Has xs x → Has (xs ++ ys) x
has_left xs ys x a = (a.0, get_left xs ys a.0 x a.1)

pub has_right : {X : Type 0} (xs ys : List X) (x : X) → Has ys x → Has (xs ++ ys) x
has_right xs ys x a = (length xs + a.0, get_right xs ys a.0 ∙ a.1)

pub has_either : {X : Type 0} (xs ys : List X) (x : X) → Has (xs ++ ys) x → Has xs x ⊎ Has ys x
has_either xs ys x a =
    elim (get_cases xs ys a.0 x a.1) [
      | inl b ↦ inl (a.0, b)
      | inr b ↦ inr (b.0, b.2)
    ]

pub has_flat : {X Y : Type 0} (g : X → List Y) (xs : List X) (x : X) (y : Y) → Has xs x → Has (g x) y → Has (flat_map g xs) y
has_flat g [] x y a b = absurd (none_some x a.1)
has_flat {Y = Y} g (z ∷ xs) x y (zero, h) b = has_left (g z) (flat_map g xs) y (subst (λ w. Has (g w) y) (sym (some_injective z x h)) b)
has_flat g (z ∷ xs) x y (suc k, h) b = has_right (g z) (flat_map g xs) y (has_flat g xs x y (k, h) b)

pub flat_has : {X Y : Type 0} (g : X → List Y) (xs : List X) (y : Y) → Has (flat_map g xs) y → (x : X) × Has xs x × Has (g x) y
flat_has g [] y a = absurd (none_some y a.1)
flat_has g (z ∷ xs) y a =
    elim (has_either (g z) (flat_map g xs) y a) [
      | inl b ↦ (z, has_head z xs, b)
      | inr b ↦ let r = flat_has g xs y b in (r.0, has_tail z r.0 xs r.1, r.2)
    ]

-- lists of one length that begin two equal lists
pub same_front : {X : Type 0} (a b c d : List X) → length a ≡ length c → a ++ b ≡ c ++ d → (a ≡ c) × (b ≡ d)
same_front [] b [] d l e = (refl, e)
same_front [] b (y ∷ c) d l e = absurd (omega (arith, l))
same_front (x ∷ a) b [] d l e = absurd (omega (arith, l))
same_front (x ∷ a) b (y ∷ c) d l e =
    let first : x ≡ y = cc in
    let rest : a ++ b ≡ c ++ d = cc in
    let r = same_front a b c d (omega (arith, l)) rest in
    (ap (λ z. z ∷ a) first ∙ ap (λ zs. y ∷ zs) r.0, r.1)

-- two maps over lists of lists that agree, agree on each list
pub same_parts : {X Y : Type 0} (f : ℕ → Option Y) (g : X → List ℕ) (h : X → List Y) (xs : List X) → ((x : X) → Has xs x → length (h x) ≡ length (g x)) → map f (flat_map g xs) ≡ map Some (flat_map h xs)
    → (x : X) → Has xs x → map f (g x) ≡ map Some (h x)
same_parts f g h [] many e x a = absurd (none_some x a.1)
same_parts f g h (z ∷ xs) many e x (k, at) =
    let l : length (map f (g z)) ≡ length (map Some (h z)) = length-map (g z) f ∙ (sym (many z (has_head z xs)) ∙ sym (length-map (h z) Some)) in
    let r = same_front (map f (g z)) (map f (flat_map g xs)) (map Some (h z)) (map Some (flat_map h xs)) l
    (sym (map-append f (g z) (flat_map g xs)) ∙ (e ∙ map-append Some (h z) (flat_map h xs))) in
    elim (has_cases z x xs (k, at)) [
      | inl same ↦ subst (λ w. map f (g w) ≡ map Some (h w)) same r.0
      | inr b ↦ same_parts f g h xs (λ w c. many w (has_tail z w xs c)) r.1 x b
    ]

pub get_map : {X Y : Type 0} (f : X → Y) (xs : List X) (k : ℕ) (x : X) → slice_get xs k ≡ Some x → slice_get (map f xs) k ≡ Some (f x)
get_map f [] k x h = absurd (none_some x h)
get_map f (y ∷ xs) zero x h = ap (λ z. Some (f z)) (some_injective y x h)
get_map f (y ∷ xs) (suc k) x h = get_map f xs k x h

pub map_get : {X Y : Type 0} (f : X → Y) (xs : List X) (k : ℕ) (y : Y) → slice_get (map f xs) k ≡ Some y → (x : X) × (slice_get xs k ≡ Some x) × (f x ≡ y)
map_get f [] k y h = absurd (none_some y h)
map_get f (x ∷ xs) zero y h = (x, refl, some_injective (f x) y h)
map_get f (x ∷ xs) (suc k) y h = map_get f xs k y h

-- ---- numbers that stand once

-- no number stands at two places
abbrev pub StandsOnce : List ℕ → Type 0
StandsOnce ks = (i j c : ℕ) → slice_get ks i ≡ Some c → slice_get ks j ≡ Some c → i ≡ j

-- no number stands in both
abbrev pub Apart : List ℕ → List ℕ → Type 0
Apart ks ls = (c : ℕ) → Has ks c → Has ls c → ⊥

pub once_left : (ks ls : List ℕ) → StandsOnce (ks ++ ls) → StandsOnce ks
once_left ks ls once = λ i j c a b. once i j c (get_left ks ls i c a) (get_left ks ls j c b)

pub once_right : (ks ls : List ℕ) → StandsOnce (ks ++ ls) → StandsOnce ls
once_right ks ls once = λ i j c a b. let e : length ks + i ≡ length ks + j = once (length ks + i) (length ks + j) c (get_right ks ls i ∙ a) (get_right ks ls j ∙ b) in omega (arith, e)

pub once_apart : (ks ls : List ℕ) → StandsOnce (ks ++ ls) → Apart ks ls
once_apart ks ls once = λ c a b.
    let e : a.0 ≡ length ks + b.0 = once a.0 (length ks + b.0) c (get_left ks ls a.0 c a.1) (get_right ks ls b.0 ∙ b.1) in
    omega (arith, e, get_within ks a.0 c a.1)

once_both : (ks ls : List ℕ) → StandsOnce ks → StandsOnce ls → Apart ks ls → StandsOnce (ks ++ ls)
once_both ks ls one two apart = λ i j c a b.
    elim (get_cases ks ls i c a) [
      | inl x ↦ elim (get_cases ks ls j c b) [
        | inl y ↦ one i j c x y
        | inr y ↦ absurd (apart c (i, x) (y.0, y.2))
      ]
      | inr x ↦ elim (get_cases ks ls j c b) [
        | inl y ↦ absurd (apart c (j, y) (x.0, x.2))
        | inr y ↦ let e : x.0 ≡ y.0 = two x.0 y.0 c x.2 y.2 in omega (arith, e, x.1, y.1)
      ]
    ]

-- lists without a number in common, each with no number twice
pub once_all : (g : ℕ → List ℕ) (is : List ℕ) → StandsOnce is → ((i : ℕ) → Has is i → StandsOnce (g i)) → ((i j c : ℕ) → Has is i → Has is j → Has (g i) c → Has (g j) c → i ≡ j) → StandsOnce (flat_map g is)
once_all g [] once each one = λ i j c a b. absurd (none_some c a)
once_all g (x ∷ is) once each one =
    let inner : StandsOnce is = λ i j c a b. let e : suc i ≡ suc j = once (suc i) (suc j) c a b in omega (arith, e) in
    let rest : StandsOnce (flat_map g is) = once_all g is inner (λ i a. each i (has_tail x i is a)) (λ i j c a b. one i j c (has_tail x i is a) (has_tail x j is b)) in
    let apart : Apart (g x) (flat_map g is) = λ c a b.
    let r = flat_has g is c b in
    let same : x ≡ r.0 = one x r.0 c (has_head x is) (has_tail x r.0 is r.1) a r.2 in
    let e : 0 ≡ suc r.1.0 = once 0 (suc r.1.0) r.0 (ap Some same) r.1.1 in
    omega (arith, e) in
    once_both (g x) (flat_map g is) (each x (has_head x is)) rest apart

pub once_distinct : (ks : List ℕ) → StandsOnce ks → AreDistinct ks
once_distinct ks once = λ i j d lt in' e.
    let a : slice_get ks i ≡ Some (get_or ks i d) = get_there ks i d (omega (arith, lt, in')) in
    let b : slice_get ks j ≡ Some (get_or ks i d) = get_there ks j d in' ∙ ap Some (sym e) in
    let same : i ≡ j = once i j (get_or ks i d) a b in
    omega (arith, lt, same)

pub apart_are : (ks ls : List ℕ) → Apart ks ls → AreApart ks ls
apart_are ks ls apart = all_has (λ k. All (λ l. k ≢ l) ls) ks (λ k a. all_has (λ l. k ≢ l) ls (λ l b e. apart l (subst (Has ks) e a) b))

pairs_cons : {X : Type 0} (R : X → X → Type 0) (x : X) (xs : List X) → ((y : X) → Has xs y → R x y) → AllPairs R xs → AllPairs R (x ∷ xs)
pairs_cons R x xs first rest zero zero d lt in' = absurd (omega (arith, lt))
pairs_cons R x xs first rest zero (suc j) d lt in' = let w : j < length xs = omega (arith, in') in first (get_or xs j d) (j, get_there xs j d w)
pairs_cons R x xs first rest (suc i) zero d lt in' = absurd (omega (arith, lt))
pairs_cons R x xs first rest (suc i) (suc j) d lt in' = rest i j d (omega (arith, lt)) (omega (arith, in'))

module _ {J : Type 0} (cells : J → List ℕ) where
  pub each_once : (ps : List J) → StandsOnce (flat_map cells ps) → (p : J) → Has ps p → StandsOnce (cells p)
  each_once [] once p a = absurd (none_some p a.1)
  each_once (q ∷ ps) once p a =
      elim (has_cases q p ps a) [
        | inl same ↦ subst (λ w. StandsOnce (cells w)) same (once_left (cells q) (flat_map cells ps) once)
        | inr b ↦ each_once ps (once_right (cells q) (flat_map cells ps) once) p b
      ]

  pub pairs_apart : (ps : List J) → StandsOnce (flat_map cells ps) → AllPairs (λ p q. AreApart (cells p) (cells q)) ps
  pairs_apart [] once = λ i j d lt in'. absurd (omega (arith, in'))
  pairs_apart (p ∷ ps) once =
      pairs_cons (λ a b. AreApart (cells a) (cells b)) p ps
      (λ q a. apart_are (cells p) (cells q) (λ c x y. once_apart (cells p) (flat_map cells ps) once c x (has_flat cells ps q c a y)))
      (pairs_apart ps (once_right (cells p) (flat_map cells ps) once))

-- one part more, taken from the front of what is left
pub more_parts : {P : Type 0} (part : P → List ℕ) (ps more : List P) (p : P) (left front back all : List ℕ) (n : ℕ) → more ≡ ps ++ p ∷ [] → part p ≡ front → front ≡ take n left → back ≡ drop n left → flat_map part ps ++ left ≡ all
    → flat_map part more ++ back ≡ all
more_parts {P = P} part ps more p left front back all n grown is first rest was =
    ap (λ (xs : List P). flat_map part xs ++ back) grown
    ∙ (ap (λ xs. xs ++ back) (flat_map-append part ps (p ∷ []))
    ∙ (ap (λ xs. (flat_map part ps ++ xs) ++ back) (append-nil (part p) ∙ (is ∙ first))
    ∙ (append_assoc (flat_map part ps) (take n left) back
    ∙ (ap (λ xs. flat_map part ps ++ (take n left ++ xs)) rest
    ∙ (ap (λ xs. flat_map part ps ++ xs) (take-append-drop n left) ∙ was)))))
