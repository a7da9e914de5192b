-- Points of joined shapes, and the place of an instance by its indices.
use Rattle.std.proofs.Common.{◌≡◌, ℕ, zero, suc, ◌+◌, ◌-◌, ◌<◌, ◌≤◌, true, ◌&&◌, List, [], ◌∷◌, ◌++◌, length, flat_map, take, drop, Some, slice_get, sym, ◌∙◌, ap, refl, arith, subst, ◌⊎◌, inl, inr}
use Rattle.std.specs.Prelude.{nat_lt}
use Rattle.std.specs.List.{IsAmong, enumerate_from}
use Rattle.std.proofs.lemmas.Bool.{ltb-true, lt-ltb}
use Rattle.std.proofs.lemmas.List.{length-append}
use Rattle.std.proofs.lemmas.Option.{none-some}
use Rattle.std.proofs.Math.Seq.{take-append_seam, drop-append_seam}
use Rattle.aol_shape.specs.Lists.{numbers_from, numbers_below}
use Rattle.aol_shape.specs.Shape.{size, rank, point_at, points, IsPointOf}
use Rattle.aol_shape.proofs.Points.{rank-lt-size, point_at-rank}
use Rattle.aol_tiler.specs.Tiler.{integers}
use Rattle.aol_shape.specs.Vectors.{is_inside}
use Rattle.aol_flat.specs.Place.{IntoRepetition}
use Rattle.aol_flat.specs.Node.{Node, ToBody, place_on}
use Rattle.aol_flat.proofs.Agree.{IsAmong-tail}
use Rattle.aol_flat.proofs.Among.{map_among}
use Rattle.aol_flat.proofs.Names.{both-true}

-- ---- members of lists

pub among_left : {X : Type 0} (xs ys : List X) (x : X) → IsAmong xs x → IsAmong (xs ++ ys) x
among_left [] ys x a = absurd (omega (arith, a.1.0))
among_left (y ∷ xs) ys x (zero, a) = (0, (omega arith, a.1))
among_left (y ∷ xs) ys x (suc i, a) = IsAmong-tail y (xs ++ ys) x (among_left xs ys x (i, (omega (arith, a.0), a.1)))

pub among_right : {X : Type 0} (xs ys : List X) (x : X) → IsAmong ys x → IsAmong (xs ++ ys) x
among_right [] ys x a = a
among_right (y ∷ xs) ys x a = IsAmong-tail y (xs ++ ys) x (among_right xs ys x a)

pub flat_map_among : {X Y : Type 0} (f : X → List Y) (xs : List X) (x : X) (y : Y) → IsAmong xs x → IsAmong (f x) y → IsAmong (flat_map f xs) y
flat_map_among f [] x y a b = absurd (omega (arith, a.1.0))
flat_map_among {Y = Y} f (z ∷ xs) x y (zero, a) b =
    let P : List Y → Type 0 = λ ys. IsAmong ys y in
    among_left (f z) (flat_map f xs) y (subst P (ap f a.1) b)
flat_map_among f (z ∷ xs) x y (suc i, a) b = among_right (f z) (flat_map f xs) y (flat_map_among f xs x y (i, (omega (arith, a.0), a.1)) b)

-- a member with its number
pub numbered_among : {X : Type 0} (xs : List X) (from k : ℕ) (x : X) → slice_get xs k ≡ Some x → IsAmong (enumerate_from from xs) (from + k, x)
numbered_among [] from k x at = absurd (none-some x at)
numbered_among (y ∷ xs) from zero x at =
    let here : x ≡ y = cc in
    let number : from + 0 ≡ from = omega arith in
    (0, (omega arith, cc))
numbered_among {X = X} (y ∷ xs) from (suc k) x at =
    let number : (from + 1) + k ≡ from + suc k = omega arith in
    let P : ℕ → Type 0 = λ n. IsAmong (enumerate_from (from + 1) xs) (n, x) in
    IsAmong-tail (from, y) (enumerate_from (from + 1) xs) (from + suc k, x) (subst P number (numbered_among xs (from + 1) k x at))

pub number_of_member : {X : Type 0} (xs : List X) (from : ℕ) (p : ℕ × X) → IsAmong (enumerate_from from xs) p → (k : ℕ) × (p.0 ≡ from + k) × (slice_get xs k ≡ Some p.1)
number_of_member [] from p a = absurd (omega (arith, a.1.0))
number_of_member {X = X} (y ∷ xs) from p (zero, a) =
    let number : from ≡ from + 0 = omega arith in
    (0, ap (λ (q : ℕ × X). q.0) a.1 ∙ number, ap (λ (q : ℕ × X). Some q.1) (sym a.1))
number_of_member (y ∷ xs) from p (suc i, a) =
    let r = number_of_member xs (from + 1) p (i, (omega (arith, a.0), a.1)) in
    let number : (from + 1) + r.0 ≡ from + suc r.0 = omega arith in
    (suc r.0, r.1 ∙ number, r.2)

-- ---- points

pub numbers_among : (n a j : ℕ) → a ≤ j → j < a + n → IsAmong (numbers_from a n) j
numbers_among zero a j l h = absurd (omega (arith, l, h))
numbers_among (suc n) a j l h =
    elim (first_or_later a j l) [
      | inl e ↦ (0, (omega arith, e))
      | inr k ↦ IsAmong-tail a (numbers_from (a + 1) n) j (numbers_among n (a + 1) j k (omega (arith, h)))
    ]
  where
    first_or_later : (a j : ℕ) → a ≤ j → (j ≡ a) ⊎ (a + 1 ≤ j)
    first_or_later a j h = grind arith

-- each point of a shape is listed
pub point_among : (shape x : List ℕ) → IsPointOf shape x → IsAmong (points shape) x
point_among shape x h =
    let listed : IsAmong (numbers_below (size shape)) (rank shape x) = numbers_among (size shape) 0 (rank shape x) (omega arith) (omega (arith, rank-lt-size shape x h)) in
    let P : List ℕ → Type 0 = λ y. IsAmong (points shape) y in
    subst P (point_at-rank shape x h) (map_among (point_at shape) (numbers_below (size shape)) (rank shape x) listed)

pub point_length : (shape x : List ℕ) → IsPointOf shape x → length x ≡ length shape
point_length [] [] h = refl
point_length [] (i ∷ x) h = absurd h
point_length (n ∷ shape) [] h = absurd h
point_length (n ∷ shape) (i ∷ x) h = ap (λ k. suc k) (point_length shape x h.1)

pub point_both : (a b x y : List ℕ) → IsPointOf a x → IsPointOf b y → IsPointOf (a ++ b) (x ++ y)
point_both [] b [] y h k = k
point_both [] b (i ∷ x) y h k = absurd h
point_both (n ∷ a) b [] y h k = absurd h
point_both (n ∷ a) b (i ∷ x) y h k = (h.0, point_both a b x y h.1 k)

-- a point of two joined shapes is one of each
pub point_split : (a b z : List ℕ) → IsPointOf (a ++ b) z → (x : List ℕ) × (y : List ℕ) × (z ≡ x ++ y) × IsPointOf a x × IsPointOf b y
point_split [] b z h = ([], z, refl, tt, h)
point_split (n ∷ a) b [] h = absurd h
point_split (n ∷ a) b (i ∷ z) h =
    let r = point_split a b z h.1 in
    (i ∷ r.0, r.1, ap (λ (w : List ℕ). i ∷ w) r.2, (h.0, r.3), r.4)

-- the test of a repetition is that of a point
pub inside_point : (s r : List ℕ) → is_inside s (integers r) ≡ true → IsPointOf s r
inside_point [] [] h = tt
inside_point [] (i ∷ r) h = cc
inside_point (n ∷ s) [] h = cc
inside_point (n ∷ s) (i ∷ r) h =
    let parts = both-true (nat_lt i n) (is_inside s (integers r)) h in
    (ltb-true i n parts.0, inside_point s r parts.1)

pub point_inside : (s r : List ℕ) → IsPointOf s r → is_inside s (integers r) ≡ true
point_inside [] [] h = refl
point_inside [] (i ∷ r) h = absurd h
point_inside (n ∷ s) [] h = absurd h
point_inside (n ∷ s) (i ∷ r) h = ap (λ b. b && is_inside s (integers r)) (lt-ltb i n h.0) ∙ point_inside s r h.1

-- ---- places

-- the place in the body of a repetition, by the indices around it and its own
pub place_in_body : (s : List ℕ) (up : Node) (x y : List ℕ) → IsPointOf s y → place_on (ToBody s ∷ up) (x ++ y) ≡ IntoRepetition y ∷ place_on up x
place_in_body s up x y h =
    let count : length (x ++ y) - length s ≡ length x = omega (arith, length-append x y, point_length s y h) in
    ap (λ k. IntoRepetition (drop k (x ++ y)) ∷ place_on up (take k (x ++ y))) count
    ∙ (ap (λ z. IntoRepetition z ∷ place_on up (take (length x) (x ++ y))) (drop-append_seam x y)
    ∙ ap (λ z. IntoRepetition y ∷ place_on up z) (take-append_seam x y))
