-- The writings of a tiler, pair by pair.
use Rattle.std.proofs.Common.{◌≡◌, ℕ, zero, suc, ◌+◌, ◌*◌, ◌/◌, ◌%◌, ◌<◌, ◌≤◌, List, [], ◌∷◌, ◌++◌, length, map, flat_map, Some, slice_get, sym, ◌∙◌, ap, refl, arith, subst}
use Rattle.std.proofs.lemmas.List.{map-append, length-append, length-map}
use Rattle.aol_shape.specs.Lists.{numbers_from, numbers_below}
use Rattle.aol_shape.specs.Shape.{IsShape, IsPointOf, size, rank, point_at, points}
use Rattle.aol_tiler.specs.Matrices.{TilerOf}
use Rattle.aol_tiler.specs.Tiler.{Fits, address, address_point, addresses}
use Rattle.aol_flat.specs.Targets.{Writing, writings_of}
use Rattle.aol_flat.proofs.Among.{among_map, among_flat_map, get_among}
use Rattle.aol_flat.proofs.Names.{slice_get-left, slice_get-right}
use Rattle.aol_flat.proofs.Shapes.{address_inside}
use Rattle.aol_assign.proofs.Counts.{quotient_below}

number_count : (a n : ℕ) → length (numbers_from a n) ≡ n
number_count a zero = refl
number_count a (suc n) = ap suc (number_count (a + 1) n)

point_count : (shape : List ℕ) → length (points shape) ≡ size shape
point_count shape = length-map (numbers_below (size shape)) (point_at shape) ∙ number_count 0 (size shape)

get_number : (f : ℕ → List ℕ) (a n k : ℕ) → k < n → slice_get (map f (numbers_from a n)) k ≡ Some (f (a + k))
get_number f a zero k h = absurd (omega (arith, h))
get_number f a (suc n) zero h = let e : a ≡ a + 0 = omega arith in ap (λ j. Some (f j)) e
get_number f a (suc n) (suc k) h = let e : (a + 1) + k ≡ a + suc k = omega arith in get_number f (a + 1) n k (omega (arith, h)) ∙ ap (λ j. Some (f j)) e

-- the point with a number
get_point : (shape : List ℕ) (k : ℕ) → k < size shape → slice_get (points shape) k ≡ Some (point_at shape k)
get_point shape k h = let e : 0 + k ≡ k = omega arith in get_number (point_at shape) 0 (size shape) k h ∙ ap (λ j. Some (point_at shape j)) e

-- the address that a writing writes
abbrev pub written_rank : List ℕ → Writing → ℕ
written_rank array w = rank array w.1

module _ (k : ℕ) (t : TilerOf) (array space pattern : List ℕ) where
  abbrev pair : List ℕ → List ℕ → Writing
  pair r i = (record { item = k; rep = r; pattern = i }, address_point t array r i)

  row_ranks : (r : List ℕ) (ps : List (List ℕ)) → map (written_rank array) (map (pair r) ps) ≡ map (address t array r) ps
  row_ranks r [] = refl
  row_ranks r (p ∷ ps) = ap (λ xs. address t array r p ∷ xs) (row_ranks r ps)

  all_ranks : (rs ps : List (List ℕ)) → map (written_rank array) (flat_map (λ r. map (pair r) ps) rs) ≡ flat_map (λ r. map (address t array r) ps) rs
  all_ranks [] ps = refl
  all_ranks (r ∷ rs) ps =
      map-append (written_rank array) (map (pair r) ps) (flat_map (λ s. map (pair s) ps) rs)
      ∙ (ap (λ xs. xs ++ map (written_rank array) (flat_map (λ s. map (pair s) ps) rs)) (row_ranks r ps)
      ∙ ap (λ xs. map (address t array r) ps ++ xs) (all_ranks rs ps))

  -- a walk gives the addresses of the writings
  pub walked_ranks : map (written_rank array) (writings_of k t array space pattern) ≡ addresses t array space pattern
  walked_ranks = all_ranks (points space) (points pattern)

  -- each writing is of a point of the array
  pub writing_inside : Fits t array space pattern → IsShape array → (n : ℕ) (w : Writing) → slice_get (writings_of k t array space pattern) n ≡ Some w → IsPointOf array w.1
  writing_inside fits shape n w at =
      let r = among_flat_map (λ (r : List ℕ). map (pair r) (points pattern)) (points space) w (get_among (writings_of k t array space pattern) n w at) in
      let i = among_map (pair r.0) (points pattern) w r.2 in
      let P : Writing → Type 0 = λ v. IsPointOf array v.1 in
      subst P (sym i.2) (address_inside t array space pattern r.0 i.0 fits shape)

  -- ---- pairs by their numbers

  length_row : (r : List ℕ) (ps : List (List ℕ)) → length (map (pair r) ps) ≡ length ps
  length_row r ps = length-map ps (pair r)

  length_rows : (rs ps : List (List ℕ)) → length (flat_map (λ r. map (pair r) ps) rs) ≡ length rs * length ps
  length_rows [] ps = omega arith
  length_rows (r ∷ rs) ps =
      let first : length (map (pair r) ps ++ flat_map (λ s. map (pair s) ps) rs) ≡ length (map (pair r) ps) + length (flat_map (λ s. map (pair s) ps) rs) =
      length-append (map (pair r) ps) (flat_map (λ s. map (pair s) ps) rs) in
      let row = length_row r ps in
      let rest = length_rows rs ps in
      omega (arith, first, row, rest)

  get_row : (r : List ℕ) (ps : List (List ℕ)) (j : ℕ) (p : List ℕ) → slice_get ps j ≡ Some p → slice_get (map (pair r) ps) j ≡ Some (pair r p)
  get_row r [] j p h = cc
  get_row r (x ∷ ps) zero p h = let f : x ≡ p = cc in ap (λ y. Some (pair r y)) f
  get_row r (x ∷ ps) (suc j) p h = get_row r ps j p h

  get_rows : (rs ps : List (List ℕ)) (q j : ℕ) (r p : List ℕ) → slice_get rs q ≡ Some r → slice_get ps j ≡ Some p → slice_get (flat_map (λ s. map (pair s) ps) rs) (q * length ps + j) ≡ Some (pair r p)
  get_rows [] ps q j r p h k = cc
  get_rows (x ∷ rs) ps zero j r p h k =
      let f : x ≡ r = cc in
      let e : 0 * length ps + j ≡ j = omega arith in
      ap (slice_get (flat_map (λ s. map (pair s) ps) (x ∷ rs))) e
      ∙ slice_get-left (map (pair x) ps) (flat_map (λ s. map (pair s) ps) rs) j (pair r p) (ap (λ y. slice_get (map (pair y) ps) j) f ∙ get_row r ps j p k)
  get_rows (x ∷ rs) ps (suc q) j r p h k =
      let row = length_row x ps in
      let e : suc q * length ps + j ≡ length (map (pair x) ps) + (q * length ps + j) = omega (arith, row) in
      ap (slice_get (flat_map (λ s. map (pair s) ps) (x ∷ rs))) e
      ∙ (slice_get-right (map (pair x) ps) (flat_map (λ s. map (pair s) ps) rs) (q * length ps + j)
      ∙ get_rows rs ps q j r p h k)

  -- how many writings there are
  pub writing_count : length (writings_of k t array space pattern) ≡ size space * size pattern
  writing_count =
      let rows = length_rows (points space) (points pattern) in
      rows ∙ (ap (λ n. n * length (points pattern)) (point_count space) ∙ ap (λ n. size space * n) (point_count pattern))

  -- the writing with a number
  pub writing_at : (n : ℕ) → 1 ≤ size pattern → n < size space * size pattern
      → slice_get (writings_of k t array space pattern) n ≡ Some (pair (point_at space (n / size pattern)) (point_at pattern (n % size pattern)))
  writing_at n some within =
      let count = point_count pattern in
      let below : n % size pattern < size pattern = omega (arith, some) in
      let whole : n / size pattern * length (points pattern) + n % size pattern ≡ n = ap (λ c. n / size pattern * c + n % size pattern) count ∙ put_together n (size pattern) some in
      ap (slice_get (writings_of k t array space pattern)) (sym whole)
      ∙ get_rows (points space) (points pattern) (n / size pattern) (n % size pattern) (point_at space (n / size pattern)) (point_at pattern (n % size pattern))
      (get_point space (n / size pattern) (quotient_below n (size space) (size pattern) some within)) (get_point pattern (n % size pattern) below)
    where
      put_together : (n p : ℕ) → 1 ≤ p → n / p * p + n % p ≡ n
      put_together n p h = omega arith
