-- Lists made of parts of one length, and points of joined spaces.
use Rattle.std.proofs.Common.{◌≡◌, ℕ, zero, suc, ◌+◌, ◌*◌, ◌/◌, ◌%◌, ◌<◌, List, [], ◌∷◌, ◌++◌, length, flat_map, slice_get, Some, append_assoc, sym, ◌∙◌, ap, refl, arith}
use Rattle.std.proofs.Math.Nat.{mod-lt, div-lt_iff_lt-mul}
use Rattle.std.proofs.lemmas.List.{length-append, append-nil}
use Rattle.std.proofs.lemmas.List.Concat.{flat_map-append}
use Rattle.aol_shape.specs.Lists.{numbers_from, numbers_below}
use Rattle.aol_shape.specs.Shape.{size, rank, point_at}
use Rattle.aol_shape.proofs.Points.{point_at-rank, point_at-is, rank-point_at}
use Rattle.aol_shape.proofs.Sizes.{size_both}
use Rattle.aol_flat.proofs.Arrays.{rank_both}
use Rattle.aol_flat.proofs.Inside.{point_both}

-- ---- numbers

pub numbers_get : (a n i : ℕ) → i < n → slice_get (numbers_from a n) i ≡ Some (a + i)
numbers_get a zero i h = absurd (omega (arith, h))
numbers_get a (suc n) zero h = let e : a ≡ a + 0 = omega arith in ap (λ k. Some k) e
numbers_get a (suc n) (suc i) h = let e : (a + 1) + i ≡ a + suc i = omega arith in numbers_get (a + 1) n i (omega (arith, h)) ∙ ap (λ k. Some k) e

pub numbers_many : (a n : ℕ) → length (numbers_from a n) ≡ n
numbers_many a zero = refl
numbers_many a (suc n) = ap (λ k. suc k) (numbers_many (a + 1) n)

pub numbers_split : (a n k : ℕ) → numbers_from a (n + k) ≡ numbers_from a n ++ numbers_from (a + n) k
numbers_split a zero k = let e : a ≡ a + 0 = omega arith in let f : 0 + k ≡ k = omega arith in ap (numbers_from a) f ∙ ap (λ x. numbers_from x k) e
numbers_split a (suc n) k =
    let e : suc n + k ≡ suc (n + k) = omega arith in
    let f : (a + 1) + n ≡ a + suc n = omega arith in
    ap (numbers_from a) e ∙ ap (λ xs. a ∷ xs) (numbers_split (a + 1) n k ∙ ap (λ x. numbers_from (a + 1) n ++ numbers_from x k) f)

pub numbers_next : (a n : ℕ) → numbers_from a (n + 1) ≡ numbers_from a n ++ (a + n) ∷ []
numbers_next a n = numbers_split a n 1

-- ---- parts of one length

pub parts_many : {X : Type 0} (f : ℕ → List X) (s : ℕ) → ((j : ℕ) → length (f j) ≡ s) → (a n : ℕ) → length (flat_map f (numbers_from a n)) ≡ n * s
parts_many f s each a zero = omega arith
parts_many f s each a (suc n) = omega (arith, length-append (f a) (flat_map f (numbers_from (a + 1) n)), each a, parts_many f s each (a + 1) n)

left_at : {X : Type 0} (xs ys : List X) (k : ℕ) → k < length xs → slice_get (xs ++ ys) k ≡ slice_get xs k
left_at [] ys k h = absurd (omega (arith, h))
left_at (x ∷ xs) ys zero h = refl
left_at (x ∷ xs) ys (suc k) h = left_at xs ys k (omega (arith, h))

right_at : {X : Type 0} (xs ys : List X) (k : ℕ) → slice_get (xs ++ ys) (length xs + k) ≡ slice_get ys k
right_at [] ys k = let e : 0 + k ≡ k = omega arith in ap (slice_get ys) e
right_at (x ∷ xs) ys k = let e : suc (length xs) + k ≡ suc (length xs + k) = omega arith in ap (slice_get (x ∷ (xs ++ ys))) e ∙ right_at xs ys k

pub part_at : {X : Type 0} (f : ℕ → List X) (s : ℕ) → ((j : ℕ) → length (f j) ≡ s) → (a n k i : ℕ) → k < n → i < s → slice_get (flat_map f (numbers_from a n)) (k * s + i) ≡ slice_get (f (a + k)) i
part_at f s each a zero k i h l = absurd (omega (arith, h))
part_at f s each a (suc n) zero i h l =
    let e : 0 * s + i ≡ i = omega arith in
    let g : a ≡ a + 0 = omega arith in
    ap (slice_get (f a ++ flat_map f (numbers_from (a + 1) n))) e ∙ (left_at (f a) (flat_map f (numbers_from (a + 1) n)) i (omega (arith, l, each a)) ∙ ap (λ x. slice_get (f x) i) g)
part_at f s each a (suc n) (suc k) i h l =
    let e : suc k * s + i ≡ length (f a) + (k * s + i) = omega (arith, each a) in
    let g : (a + 1) + k ≡ a + suc k = omega arith in
    ap (slice_get (f a ++ flat_map f (numbers_from (a + 1) n))) e
    ∙ (right_at (f a) (flat_map f (numbers_from (a + 1) n)) (k * s + i) ∙ (part_at f s each (a + 1) n k i (omega (arith, h)) l ∙ ap (λ x. slice_get (f x) i) g))

pub one_more : {X : Type 0} (f : ℕ → List X) (k : ℕ) → flat_map f (numbers_below (k + 1)) ≡ flat_map f (numbers_below k) ++ f k
one_more {X} f k =
    let e : 0 + k ≡ k = omega arith in
    ap (flat_map f) (numbers_next 0 k) ∙ (flat_map-append f (numbers_below k) ((0 + k) ∷ []) ∙ ap (λ xs. flat_map f (numbers_below k) ++ xs) (append-nil (f (0 + k)) ∙ ap f e))

pub numbers_more : (init into new : List ℕ) (first k : ℕ) → into ≡ init ++ numbers_from first k → new ≡ into ++ (first + k) ∷ [] → new ≡ init ++ numbers_from first (k + 1)
numbers_more init into new first k so_far pushed =
    pushed ∙ (ap (λ xs. xs ++ (first + k) ∷ []) so_far ∙ (append_assoc init (numbers_from first k) ((first + k) ∷ []) ∙ ap (λ xs. init ++ xs) (sym (numbers_next first k))))

pub parts_more : (f : ℕ → List ℕ) (init into new part : List ℕ) (k : ℕ) → into ≡ init ++ flat_map f (numbers_below k) → part ≡ f k → new ≡ into ++ part → new ≡ init ++ flat_map f (numbers_below (k + 1))
parts_more f init into new part k so_far is pushed =
    pushed
    ∙ (ap (λ xs. xs ++ part) so_far
    ∙ (append_assoc init (flat_map f (numbers_below k)) part
    ∙ (ap (λ xs. init ++ (flat_map f (numbers_below k) ++ xs)) is ∙ ap (λ xs. init ++ xs) (sym (one_more f k)))))

-- ---- points

-- a point of two joined spaces by its number is one of each
pub record IsJoined (a b : List ℕ) (x : ℕ) : Type 0 where
  pub first : ℕ
  pub second : ℕ
  pub first_low : first < size a
  pub second_low : second < size b
  pub is : x ≡ first * size b + second
  pub point : point_at (a ++ b) x ≡ point_at a first ++ point_at b second

some_right : (n s x : ℕ) → x < n * s → 0 < s
some_right n zero x h = let none : n * 0 ≡ 0 = grind arith in absurd (omega (arith, h, none))
some_right n (suc s) x h = omega arith

pub joined_at : (a b : List ℕ) (x : ℕ) → x < size (a ++ b) → IsJoined a b x
joined_at a b x h =
    let all = size_both a b in
    let low : x < size a * size b = omega (arith, h, all) in
    let some : 0 < size b = some_right (size a) (size b) x low in
    let first : x / size b < size a = (div-lt_iff_lt-mul {k = size b} {x = x} {y = size a} some).1 low in
    let second : x % size b < size b = mod-lt x some in
    let is : x ≡ (x / size b) * size b + x % size b = omega (arith, some) in
    let inside = point_at-is a (x / size b) first in
    let inside' = point_at-is b (x % size b) second in
    let number : rank (a ++ b) (point_at a (x / size b) ++ point_at b (x % size b)) ≡ x =
    rank_both a b (point_at a (x / size b)) (point_at b (x % size b)) inside
    ∙ (ap (λ z. z * size b + rank b (point_at b (x % size b))) (rank-point_at a (x / size b) first)
    ∙ (ap (λ z. (x / size b) * size b + z) (rank-point_at b (x % size b) second) ∙ sym is)) in
    record {
      first = x / size b;
      second = x % size b;
      first_low = first;
      second_low = second;
      is = is;
      point = ap (point_at (a ++ b)) (sym number) ∙ point_at-rank (a ++ b) (point_at a (x / size b) ++ point_at b (x % size b)) (point_both a b (point_at a (x / size b)) (point_at b (x % size b)) inside inside');
    }
