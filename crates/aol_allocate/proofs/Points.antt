-- What stands at the points of a space.
use Rattle.std.proofs.Common.{◌≡◌, ◌≢◌, ℕ, zero, suc, ◌+◌, ◌<◌, ◌≤◌, List, ◌∷◌, map, length, get_or, slice_get, option_map, Some, sym, ◌∙◌, ap, refl, arith}
use Rattle.std.proofs.Math.ListN.{set}
use Rattle.std.proofs.lemmas.List.{length-map}
use Rattle.std.proofs.lemmas.Option.{slice_get-map, slice_get_within}
use Rattle.std.proofs.lemmas.Simd.{map-map}
use Rattle.aol_shape.specs.Lists.{numbers_from, numbers_below}
use Rattle.aol_shape.specs.Shape.{size, rank, point_at, points, IsPointOf}
use Rattle.aol_shape.proofs.Points.{rank-lt-size, point_at-rank, rank-point_at}

-- ---- numbers

pub numbers_same : {X : Type 0} (f g : ℕ → X) (k n : ℕ) → ((j : ℕ) → k ≤ j → j < k + n → f j ≡ g j) → map f (numbers_from k n) ≡ map g (numbers_from k n)
numbers_same f g k zero h = refl
numbers_same {X = X} f g k (suc n) h =
    let here : f k ≡ g k = h k (omega arith) (omega arith) in
    let rest : map f (numbers_from (k + 1) n) ≡ map g (numbers_from (k + 1) n) = numbers_same f g (k + 1) n (λ j above below. h j (omega (arith, above)) (omega (arith, below))) in
    ap (λ (x : X). x ∷ map f (numbers_from (k + 1) n)) here ∙ ap (λ (xs : List X). g k ∷ xs) rest

numbers_set : (f g : ℕ → ℕ) (k n i v : ℕ) → i < n → v ≡ g (k + i) → ((j : ℕ) → j ≢ k + i → j < k + n → f j ≡ g j) → set (map f (numbers_from k n)) i v ≡ map g (numbers_from k n)
numbers_set f g k zero i v h at others = absurd (omega (arith, h))
numbers_set f g k (suc n) zero v h at others =
    let first : k + 0 ≡ k = omega arith in
    let rest : map f (numbers_from (k + 1) n) ≡ map g (numbers_from (k + 1) n) =
    numbers_same f g (k + 1) n (λ j above below. others j (λ e. omega (arith, e, above)) (omega (arith, below))) in
    ap (λ (x : ℕ). x ∷ map f (numbers_from (k + 1) n)) (at ∙ ap g first) ∙ ap (λ (xs : List ℕ). g k ∷ xs) rest
numbers_set f g k (suc n) (suc i) v h at others =
    let next : k + suc i ≡ (k + 1) + i = omega arith in
    let here : f k ≡ g k = others k (λ e. omega (arith, e)) (omega arith) in
    let rest : set (map f (numbers_from (k + 1) n)) i v ≡ map g (numbers_from (k + 1) n) =
    numbers_set f g (k + 1) n i v (omega (arith, h)) (at ∙ ap g next) (λ j other below. others j (λ e. other (e ∙ next)) (omega (arith, below))) in
    ap (λ (x : ℕ). x ∷ set (map f (numbers_from (k + 1) n)) i v) here ∙ ap (λ (xs : List ℕ). g k ∷ xs) rest

numbers_get : (f : ℕ → ℕ) (k n i d : ℕ) → i < n → get_or (map f (numbers_from k n)) i d ≡ f (k + i)
numbers_get f k zero i d h = absurd (omega (arith, h))
numbers_get f k (suc n) zero d h = let first : k ≡ k + 0 = omega arith in ap f first
numbers_get f k (suc n) (suc i) d h =
    let next : (k + 1) + i ≡ k + suc i = omega arith in
    numbers_get f (k + 1) n i d (omega (arith, h)) ∙ ap f next

-- ---- points

pub points_numbered : (f : List ℕ → ℕ) (space : List ℕ) → map f (points space) ≡ map (λ k. f (point_at space k)) (numbers_below (size space))
points_numbered f space = map-map f (point_at space) (numbers_below (size space))

-- what stands at a point
pub points_get : (f : List ℕ → ℕ) (space x : List ℕ) (d : ℕ) → IsPointOf space x → get_or (map f (points space)) (rank space x) d ≡ f x
points_get f space x d inside =
    let number : 0 + rank space x ≡ rank space x = omega arith in
    ap (λ xs. get_or xs (rank space x) d) (points_numbered f space)
    ∙ (numbers_get (λ k. f (point_at space k)) 0 (size space) (rank space x) d (rank-lt-size space x inside)
    ∙ ap f (ap (point_at space) number ∙ point_at-rank space x inside))

-- something else at one point
pub points_set : (f g : List ℕ → ℕ) (space x : List ℕ) (v : ℕ) → IsPointOf space x → v ≡ g x → ((y : List ℕ) → y ≢ x → f y ≡ g y)
    → set (map f (points space)) (rank space x) v ≡ map g (points space)
points_set f g space x v inside at others =
    let number : rank space x ≡ 0 + rank space x = omega arith in
    let here : v ≡ g (point_at space (0 + rank space x)) = at ∙ ap g (sym (point_at-rank space x inside) ∙ ap (point_at space) number) in
    let apart : (j : ℕ) → j ≢ 0 + rank space x → j < 0 + size space → f (point_at space j) ≡ g (point_at space j) = λ j other below.
    let within : j < size space = omega (arith, below) in
    others (point_at space j) (λ e. other (sym (rank-point_at space j within) ∙ (ap (rank space) e ∙ number))) in
    ap (λ xs. set xs (rank space x) v) (points_numbered f space)
    ∙ (numbers_set (λ k. f (point_at space k)) (λ k. g (point_at space k)) 0 (size space) (rank space x) v (rank-lt-size space x inside) here apart
    ∙ sym (points_numbered g space))

-- how many points there are
length_numbers : (k n : ℕ) → length (numbers_from k n) ≡ n
length_numbers k zero = refl
length_numbers k (suc n) = ap (λ i. suc i) (length_numbers (k + 1) n)

pub length_points : (space : List ℕ) → length (points space) ≡ size space
length_points space = length-map (numbers_below (size space)) (point_at space) ∙ length_numbers 0 (size space)

-- what stands at the point with a number
pub points_at : (f : List ℕ → ℕ) (space : List ℕ) (k d : ℕ) → k < size space → get_or (map f (points space)) k d ≡ f (point_at space k)
points_at f space k d below =
    let number : 0 + k ≡ k = omega arith in
    ap (λ xs. get_or xs k d) (points_numbered f space) ∙ (numbers_get (λ j. f (point_at space j)) 0 (size space) k d below ∙ ap (λ j. f (point_at space j)) number)

-- the same at each point
pub points_same : (f g : List ℕ → ℕ) (space : List ℕ) → ((j : ℕ) → j < size space → f (point_at space j) ≡ g (point_at space j)) → map f (points space) ≡ map g (points space)
points_same f g space h =
    points_numbered f space
    ∙ (numbers_same (λ k. f (point_at space k)) (λ k. g (point_at space k)) 0 (size space) (λ j above below. h j (omega (arith, below)))
    ∙ sym (points_numbered g space))

-- the point with a number
number_at : (k n j : ℕ) → j < n → slice_get (numbers_from k n) j ≡ Some (k + j)
number_at k zero j h = absurd (omega (arith, h))
number_at k (suc n) zero h = let first : k ≡ k + 0 = omega arith in ap Some first
number_at k (suc n) (suc j) h =
    let next : (k + 1) + j ≡ k + suc j = omega arith in
    number_at (k + 1) n j (omega (arith, h)) ∙ ap Some next

pub point_there : (space : List ℕ) (k : ℕ) → k < size space → slice_get (points space) k ≡ Some (point_at space k)
point_there space k below =
    let number : 0 + k ≡ k = omega arith in
    slice_get-map (point_at space) (numbers_below (size space)) k ∙ (ap (option_map (point_at space)) (number_at 0 (size space) k below) ∙ ap (λ j. Some (point_at space j)) number)

pub points_number : (space : List ℕ) (k : ℕ) (x : List ℕ) → slice_get (points space) k ≡ Some x → (k < size space) × (x ≡ point_at space k)
points_number space k x at =
    let within : k < size space = omega (arith, slice_get_within (points space) k x at, length_points space) in
    let here : Some x ≡ Some (point_at space k) = sym at ∙ point_there space k within in
    let equal : x ≡ point_at space k = cc in
    (within, equal)
