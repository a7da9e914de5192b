-- Lists whose members are related in pairs, as lists of different elements.
use Rattle.std.proofs.Common.{◌≡◌, ◌≢◌, ℕ, zero, suc, ◌+◌, ◌<◌, ◌≤◌, Bool, true, false, cond, List, [], ◌∷◌, ◌++◌, map, flat_map, filter, Some, slice_get, sym, ◌∙◌, ap, refl, arith, subst, inl, inr}
use Rattle.std.specs.List.{IsAmong, enumerate_from}
use Rattle.std.proofs.lemmas.Option.{none-some}
use Rattle.aol_shape.specs.Lists.{numbers_from, numbers_below}
use Rattle.aol_shape.specs.Shape.{size, rank, point_at, points}
use Rattle.aol_shape.proofs.Points.{rank-point_at}
use Rattle.aol_flat.proofs.Agree.{IsAmong-tail}
use Rattle.aol_flat.proofs.Among.{among_append, among_map, among_flat_map, get_among}

-- each member is so related to each later one
abbrev pub Apart : {X : Type 0} → (X → X → Type 0) → List X → Type 0
Apart R [] = Unit {0}
Apart R (x ∷ xs) = ((y : _) → IsAmong xs y → R x y) × Apart R xs

-- each two members are different
abbrev pub AllDiffer : {X : Type 0} → List X → Type 0
AllDiffer xs = Apart (λ x y. x ≢ y) xs

-- ---- members

pub first_among : {X : Type 0} (x : X) (xs : List X) → IsAmong (x ∷ xs) x
first_among x xs = (0, (omega arith, refl))

pub filtered_among : {X : Type 0} (keep : X → Bool) (xs : List X) (y : X) → IsAmong (filter keep xs) y → IsAmong xs y × (keep y ≡ true)
filtered_among keep [] y a = absurd (omega (arith, a.1.0))
filtered_among keep (x ∷ xs) y a = go (filtered_among keep xs y) (keep x) refl a
  where
    go : (IsAmong (filter keep xs) y → IsAmong xs y × (keep y ≡ true)) → (b : Bool) → keep x ≡ b → IsAmong (cond b (x ∷ filter keep xs) (filter keep xs)) y → IsAmong (x ∷ xs) y × (keep y ≡ true)
    go rest true e (zero, c) = ((0, (omega arith, c.1)), ap keep c.1 ∙ e)
    go rest true e (suc i, c) = let r = rest (i, (omega (arith, c.0), c.1)) in (IsAmong-tail x xs y r.0, r.1)
    go rest false e c = let r = rest c in (IsAmong-tail x xs y r.0, r.1)

pub among_filtered : {X : Type 0} (keep : X → Bool) (xs : List X) (y : X) → IsAmong xs y → keep y ≡ true → IsAmong (filter keep xs) y
among_filtered keep [] y a k = absurd (omega (arith, a.1.0))
among_filtered {X = X} keep (x ∷ xs) y (zero, a) k =
    let P : Bool → Type 0 = λ b. IsAmong (cond b (x ∷ filter keep xs) (filter keep xs)) y in
    let e : true ≡ keep x = sym k ∙ ap keep a.1 in
    subst P e (0, (omega arith, a.1))
among_filtered keep (x ∷ xs) y (suc i, a) k = go (keep x) (among_filtered keep xs y (i, (omega (arith, a.0), a.1)) k)
  where
    go : (b : Bool) → IsAmong (filter keep xs) y → IsAmong (cond b (x ∷ filter keep xs) (filter keep xs)) y
    go true c = IsAmong-tail x (filter keep xs) y c
    go false c = c

-- ---- how related lists are made

pub apart_append : {X : Type 0} (R : X → X → Type 0) (xs ys : List X) → Apart R xs → Apart R ys → ((x y : X) → IsAmong xs x → IsAmong ys y → R x y) → Apart R (xs ++ ys)
apart_append R [] ys h k both = k
apart_append R (x ∷ xs) ys h k both = (
  λ y a. elim (among_append xs ys y a) [ inl b ↦ h.0 y b | inr b ↦ both x y (first_among x xs) b ],
  apart_append R xs ys h.1 k (λ z y a b. both z y (IsAmong-tail x xs z a) b),
)

pub apart_filter : {X : Type 0} (R : X → X → Type 0) (keep : X → Bool) (xs : List X) → Apart R xs → Apart R (filter keep xs)
apart_filter R keep [] h = tt
apart_filter R keep (x ∷ xs) h = go (apart_filter R keep xs h.1) (keep x)
  where
    go : Apart R (filter keep xs) → (b : Bool) → Apart R (cond b (x ∷ filter keep xs) (filter keep xs))
    go rest true = (λ y a. h.0 y (filtered_among keep xs y a).0, rest)
    go rest false = rest

pub apart_map : {X Y : Type 0} (S : X → X → Type 0) (R : Y → Y → Type 0) (f : X → Y) (xs : List X) → Apart S xs → ((x y : X) → IsAmong xs x → IsAmong xs y → S x y → R (f x) (f y)) → Apart R (map f xs)
apart_map S R f [] h k = tt
apart_map {X = X} {Y = Y} S R f (x ∷ xs) h k = (
  λ y a. let z = among_map f xs y a in let P : Y → Type 0 = λ w. R (f x) w in
      subst P (sym z.2) (k x z.0 (first_among x xs) (IsAmong-tail x xs z.0 z.1) (h.0 z.0 z.1)),
  apart_map S R f xs h.1 (λ y z a b. k y z (IsAmong-tail x xs y a) (IsAmong-tail x xs z b)),
)

pub apart_flat_map : {X Y : Type 0} (S : X → X → Type 0) (R : Y → Y → Type 0) (f : X → List Y) (xs : List X) → Apart S xs → ((x : X) → IsAmong xs x → Apart R (f x))
    → ((x y : X) → IsAmong xs x → IsAmong xs y → S x y → (a b : Y) → IsAmong (f x) a → IsAmong (f y) b → R a b) → Apart R (flat_map f xs)
apart_flat_map S R f [] h each k = tt
apart_flat_map S R f (x ∷ xs) h each k =
    apart_append R (f x) (flat_map f xs) (each x (first_among x xs))
    (apart_flat_map S R f xs h.1 (λ y a. each y (IsAmong-tail x xs y a)) (λ y z a b. k y z (IsAmong-tail x xs y a) (IsAmong-tail x xs z b)))
    (λ a b i j. let z = among_flat_map f xs b j in k x z.0 (first_among x xs) (IsAmong-tail x xs z.0 z.1) (h.0 z.0 z.1) a b i z.2)

-- what holds of members in order holds in pairs
pub apart_of_places : {X : Type 0} (R : X → X → Type 0) (xs : List X) → ((i j : ℕ) (x y : X) → i < j → slice_get xs i ≡ Some x → slice_get xs j ≡ Some y → R x y) → Apart R xs
apart_of_places R [] h = tt
apart_of_places R (x ∷ xs) h = (
  λ y a. h 0 (suc a.0) x y (omega arith) refl (member_at_place xs y a),
  apart_of_places R xs (λ i j y z l p q. h (suc i) (suc j) y z (omega (arith, l)) p q),
)
  where
    member_at_place : {X : Type 0} (xs : List X) (y : X) → (a : IsAmong xs y) → slice_get xs a.0 ≡ Some y
    member_at_place [] y a = absurd (omega (arith, a.1.0))
    member_at_place (x ∷ xs) y (zero, a) = ap Some (sym a.1)
    member_at_place (x ∷ xs) y (suc i, a) = member_at_place xs y (i, (omega (arith, a.0), a.1))

-- each of different elements stands at one place
pub once_of_apart : {X : Type 0} (xs : List X) → AllDiffer xs → (j k : ℕ) (x : X) → slice_get xs j ≡ Some x → slice_get xs k ≡ Some x → j ≡ k
once_of_apart [] h j k x a b = absurd (none-some x a)
once_of_apart (y ∷ xs) h zero zero x a b = refl
once_of_apart (y ∷ xs) h zero (suc k) x a b = let e : y ≡ x = cc in absurd (h.0 x (get_among xs k x b) e)
once_of_apart (y ∷ xs) h (suc j) zero x a b = let e : y ≡ x = cc in absurd (h.0 x (get_among xs j x a) e)
once_of_apart (y ∷ xs) h (suc j) (suc k) x a b = ap (λ i. suc i) (once_of_apart xs h.1 j k x a b)

-- ---- numbers and points

pub number_above : (n a j : ℕ) → IsAmong (numbers_from a n) j → (a ≤ j) × (j < a + n)
number_above zero a j h = absurd (omega (arith, h.1.0))
number_above (suc n) a j (zero, h) = let e : j ≡ a = h.1 in (omega (arith, e), omega (arith, e))
number_above (suc n) a j (suc i, h) = let r = number_above n (a + 1) j (i, (omega (arith, h.0), h.1)) in (omega (arith, r), omega (arith, r))

numbers_differ : (n a : ℕ) → AllDiffer (numbers_from a n)
numbers_differ zero a = tt
numbers_differ (suc n) a = (λ j h e. let r = number_above n (a + 1) j h in omega (arith, r.0, e), numbers_differ n (a + 1))

pub numbered_differ : {X : Type 0} (xs : List X) (from : ℕ) → Apart (λ (p q : ℕ × X). p.0 ≢ q.0) (enumerate_from from xs)
numbered_differ [] from = tt
numbered_differ {X = X} (x ∷ xs) from = (λ q a e. let r = later xs (from + 1) q a in omega (arith, r, e), numbered_differ xs (from + 1))
  where
    later : (ys : List X) (from : ℕ) (q : ℕ × X) → IsAmong (enumerate_from from ys) q → from ≤ q.0
    later [] from q a = absurd (omega (arith, a.1.0))
    later (y ∷ ys) from q (zero, a) = let e : q.0 ≡ from = ap (λ (p : ℕ × X). p.0) a.1 in omega (arith, e)
    later (y ∷ ys) from q (suc i, a) = let r = later ys (from + 1) q (i, (omega (arith, a.0), a.1)) in omega (arith, r)

-- the points of a shape are different
pub points_differ : (shape : List ℕ) → AllDiffer (points shape)
points_differ shape =
    apart_map (λ (x y : ℕ). x ≢ y) (λ (x y : List ℕ). x ≢ y) (point_at shape) (numbers_below (size shape)) (numbers_differ (size shape) 0)
    (λ x y a b apart same.
    let l = (number_above (size shape) 0 x a).1 in
    let k = (number_above (size shape) 0 y b).1 in
    apart (sym (rank-point_at shape x (omega (arith, l))) ∙ (ap (rank shape) same ∙ rank-point_at shape y (omega (arith, k)))))
