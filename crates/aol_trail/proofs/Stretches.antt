-- How the rank of an element goes on along the last index.
use Rattle.std.proofs.Common.{◌≡◌, ℕ, zero, suc, ◌+◌, ◌-◌, ◌*◌, ◌^◌, ◌<◌, ◌≤◌, ℤ, pos, List, [], ◌∷◌, ◌++◌, length, take, drop, sum, append-nil, refl, sym, ◌∙◌, ap, arith, subst}
use Rattle.std.proofs.Math.Nat.{mul-le-mul_right, suc-mul, mul-add}
use Rattle.std.proofs.lemmas.Bool.Decides.{nat_tests}
use Rattle.std.proofs.lemmas.List.Sums.{sum_by-cons}
use Rattle.aol_shape.specs.Shape.{IsPointOf, IsShape, IsEntry, size, rank, point_at}
use Rattle.aol_shape.proofs.Points.{rank-lt-size}
use Rattle.aol_shape.specs.Vectors.{plus, plus_columns, wrapped_point}
use Rattle.aol_tiler.specs.Matrices.{TilerOf}
use Rattle.aol_tiler.specs.Tiler.{Fits, integers, place, address}
use Rattle.aol_tiler.specs.Walk.{added, plus_within, moduli_of, residues}
use Rattle.aol_tiler.proofs.Addresses.{even, fits-parts}
use Rattle.aol_tiler.proofs.Blocks.{plus_columns-plus}
use Rattle.aol_tiler.proofs.Entries.{length-plus_columns}
use Rattle.aol_tiler.proofs.Residues.{residues-plus, residues_rank}
use Rattle.aol_tiler.proofs.Started.{even_columns}
use Rattle.aol_trail.specs.Further.{further, HasRoom}
use Rattle.aol_trail.specs.Level.{noughts, last_of, offset_at, step_of, IsLevel}
use Rattle.aol_trail.proofs.Levels.{length-noughts, length-moduli, length-residues, next_column, place_within, point_length, wrapped_inside}

-- ---- indices further on

pub further_none : (xs : List ℕ) → further 0 xs ≡ xs
further_none [] = refl
further_none (x ∷ []) = let e : x + 0 ≡ x = omega arith in ap (λ y. y ∷ []) e
further_none (x ∷ (y ∷ ys)) = ap (λ zs. x ∷ zs) (further_none (y ∷ ys))

-- the last index apart from those before it
pub record HasLast (xs : List ℕ) : Type 0 where
  pub front : List ℕ
  pub last : ℕ
  pub whole : xs ≡ front ++ last ∷ []
  pub moved : (i : ℕ) → further i xs ≡ front ++ (last + i) ∷ []

pub last_apart : (xs : List ℕ) → 0 < length xs → HasLast xs
last_apart [] h = absurd (omega (arith, h))
last_apart (x ∷ []) h = record { front = []; last = x; whole = refl; moved = λ i. refl }
last_apart (x ∷ (y ∷ ys)) h =
    let l = last_apart (y ∷ ys) (omega arith) in
    record { front = x ∷ l.front; last = l.last; whole = ap (λ zs. x ∷ zs) l.whole; moved = λ i. ap (λ zs. x ∷ zs) (l.moved i) }

-- ---- the entries of a place

-- each stride added so often
moved_by : ℕ → List ℕ → List ℕ → List ℕ
moved_by i [] ss = []
moved_by i (v ∷ vs) [] = v ∷ vs
moved_by i (v ∷ vs) (s ∷ ss) = (v + i * s) ∷ moved_by i vs ss

moved_none : (vs ss : List ℕ) → moved_by 0 vs ss ≡ vs
unfolding moved_by
moved_none [] ss = refl
moved_none (v ∷ vs) [] = refl
moved_none (v ∷ vs) (s ∷ ss) = let e : v + 0 * s ≡ v = grind arith in ap (λ w. w ∷ moved_by 0 vs ss) e ∙ ap (λ ws. v ∷ ws) (moved_none vs ss)

added_low : (x y m : ℕ) → x + y < m → added x y m ≡ x + y
added_low x y m h = grind (arith, nat_tests)

moved_more : (i : ℕ) (vs ms ss : List ℕ) → length vs ≡ length ms → length ss ≡ length ms → HasRoom (suc i) vs ms ss → plus_within (moved_by i vs ss) ms ss ≡ moved_by (suc i) vs ss
unfolding moved_by
moved_more i [] ms ss e f h = refl
moved_more i (v ∷ vs) [] ss e f h = absurd (omega (arith, e))
moved_more i (v ∷ vs) (m ∷ ms) [] e f h = absurd (omega (arith, f))
moved_more i (v ∷ vs) (m ∷ ms) (s ∷ ss) e f h =
    let once : suc i * s ≡ i * s + s = suc-mul i s in
    let first : added (v + i * s) s m ≡ v + suc i * s = added_low (v + i * s) s m (omega (arith, h.0, once)) ∙ omega (arith, once) in
    ap (λ w. w ∷ plus_within (moved_by i vs ss) ms ss) first ∙ ap (λ ws. (v + suc i * s) ∷ ws) (moved_more i vs ms ss (omega (arith, e)) (omega (arith, f)) h.1)

sum_moved : (i : ℕ) (vs ss : List ℕ) → length vs ≡ length ss → sum (moved_by i vs ss) ≡ sum vs + i * sum ss
unfolding moved_by
sum_moved i [] [] e = let none : 0 ≡ i * 0 = grind arith in omega (arith, none)
sum_moved i [] (s ∷ ss) e = absurd (omega (arith, e))
sum_moved i (v ∷ vs) [] e = absurd (omega (arith, e))
sum_moved i (v ∷ vs) (s ∷ ss) e =
    let all : sum (moved_by i (v ∷ vs) (s ∷ ss)) ≡ (v + i * s) + sum (moved_by i vs ss) = sum_by-cons (λ r. r) (v + i * s) (moved_by i vs ss) in
    let numbers : sum (v ∷ vs) ≡ v + sum vs = sum_by-cons (λ r. r) v vs in
    let strides : sum (s ∷ ss) ≡ s + sum ss = sum_by-cons (λ r. r) s ss in
    let product : i * sum (s ∷ ss) ≡ i * s + i * sum ss = ap (λ n. i * n) strides ∙ mul-add i s (sum ss) in
    omega (arith, all, numbers, product, sum_moved i vs ss (omega (arith, e)))

room_less : (i j : ℕ) (vs ms ss : List ℕ) → i ≤ j → HasRoom j vs ms ss → HasRoom i vs ms ss
room_less i j [] ms ss le h = tt
room_less i j (v ∷ vs) [] ss le h = tt
room_less i j (v ∷ vs) (m ∷ ms) [] le h = tt
room_less i j (v ∷ vs) (m ∷ ms) (s ∷ ss) le h = let less : i * s ≤ j * s = mul-le-mul_right s le in (omega (arith, h.0, less), room_less i j vs ms ss le h.1)

-- ---- an element along the last index

module _ (t : TilerOf) (array space pattern : List ℕ) (fits : Fits t array space pattern) (shape : IsShape array) (r y : List ℕ) (inside : IsPointOf space r) (some : 0 < length space) where
  unit : List ℤ
  unit = plus_columns (noughts (length array)) (last_of t.paving) (pos 1 ∷ [])

  unit_length : length unit ≡ length array
  unfolding unit
  unit_length = length-plus_columns (noughts (length array)) (last_of t.paving) (pos 1 ∷ []) ∙ length-noughts (length array) shape.rank

  place_length : (q : List ℕ) → length (place t q y) ≡ length array
  place_length q =
      length-plus_columns (plus_columns t.origin t.paving (integers q)) t.fitting (integers y)
      ∙ (length-plus_columns t.origin t.paving (integers q) ∙ (even t (length array) (fits-parts t array space pattern fits).over).origin)

  apart : HasLast r
  apart = last_apart r (omega (arith, some, point_length space r inside))

  place_next : (i : ℕ) → place t (further (suc i) r) y ≡ plus (place t (further i r) y) unit
  unfolding unit
  place_next i =
      let n = length array in
      let a = apart in
      let parts = fits-parts t array space pattern fits in
      let level = even t n parts.over in
      let count : length t.paving ≡ length (a.front ++ (a.last + i) ∷ []) =
      parts.paving ∙ (sym (point_length space r inside) ∙ (ap (length {A = ℕ}) a.whole ∙ same_length a.front a.last (a.last + i))) in
      let more : a.last + suc i ≡ (a.last + i) + 1 = omega arith in
      let column = next_column n shape.rank t.origin t.paving a.front (a.last + i) (even_columns t.paving n level.paving) count in
      let first : plus_columns t.origin t.paving (integers (further (suc i) r)) ≡ plus (plus_columns t.origin t.paving (integers (further i r))) unit =
      ap (λ q. plus_columns t.origin t.paving (integers q)) (a.moved (suc i) ∙ ap (λ k. a.front ++ k ∷ []) more)
      ∙ (column ∙ ap (λ q. plus (plus_columns t.origin t.paving (integers q)) unit) (sym (a.moved i))) in
      ap (λ v. plus_columns v t.fitting (integers y)) first ∙ plus_columns-plus (plus_columns t.origin t.paving (integers (further i r))) unit t.fitting (integers y)
    where
      same_length : (front : List ℕ) (x z : ℕ) → length (front ++ x ∷ []) ≡ length (front ++ z ∷ [])
      same_length [] x z = refl
      same_length (w ∷ front) x z = ap suc (same_length front x z)

  residues_next : (i : ℕ) → residues array (place t (further (suc i) r) y) ≡ plus_within (residues array (place t (further i r) y)) (moduli_of array) (step_of t.paving array)
  unfolding unit
  residues_next i =
      ap (residues array) (place_next i)
      ∙ (sym (residues-plus array (place t (further i r) y) unit [] shape.entry (place_length (further i r)) unit_length)
      ∙ ap (plus_within (residues array (place t (further i r) y)) (moduli_of array)) (append-nil (residues array unit)))

  vs_length : length (residues array (place t r y)) ≡ length (moduli_of array)
  vs_length = length-residues array (place t r y) (place_length r) ∙ sym (length-moduli array)

  ss_length : length (step_of t.paving array) ≡ length (moduli_of array)
  unfolding unit
  ss_length = length-residues array unit unit_length ∙ sym (length-moduli array)

  residues_moved : (i : ℕ) → ((j : ℕ) → 0 < j → j ≤ i → HasRoom j (residues array (place t r y)) (moduli_of array) (step_of t.paving array))
      → residues array (place t (further i r) y) ≡ moved_by i (residues array (place t r y)) (step_of t.paving array)
  residues_moved zero room = ap (λ q. residues array (place t q y)) (further_none r) ∙ sym (moved_none (residues array (place t r y)) (step_of t.paving array))
  residues_moved (suc i) room =
      residues_next i
      ∙ (ap (λ vs. plus_within vs (moduli_of array) (step_of t.paving array)) (residues_moved i (λ j some less. room j some (omega (arith, less))))
      ∙ moved_more i (residues array (place t r y)) (moduli_of array) (step_of t.paving array) vs_length ss_length (room (suc i) (omega arith) (omega arith)))

  pub address_moved : (i : ℕ) → ((j : ℕ) → 0 < j → j ≤ i → HasRoom j (residues array (place t r y)) (moduli_of array) (step_of t.paving array)) → address t array (further i r) y ≡ address t array r y + i * sum (step_of t.paving array)
  address_moved i room =
      sym (residues_rank array (place t (further i r) y))
      ∙ (ap sum (residues_moved i room)
      ∙ (sum_moved i (residues array (place t r y)) (step_of t.paving array) (vs_length ∙ sym ss_length) ∙ ap (λ n. n + i * sum (step_of t.paving array)) (residues_rank array (place t r y))))

-- ---- a level

module _ (t : TilerOf) (array space pattern r moduli place step offsets : List ℕ) (rank : ℕ) (l : IsLevel t array space pattern r rank moduli place step offsets) where
  -- the stride is the rank of an element
  pub stride_small : sum (take rank step) < 2 ^ 32
  stride_small =
      let unit = plus_columns (noughts (length array)) (last_of t.paving) (pos 1 ∷ []) in
      let long : length unit ≡ length array = length-plus_columns (noughts (length array)) (last_of t.paving) (pos 1 ∷ []) ∙ length-noughts (length array) l.array_is.rank in
      let is : sum (take rank step) ≡ Rattle.aol_shape.specs.Shape.rank array (wrapped_point unit array) = ap sum l.step_is ∙ residues_rank array unit in
      omega (arith, is, rank-lt-size array (wrapped_point unit array) (wrapped_inside unit array l.array_is.entry long), l.array_is.points)

  -- within the room just the stride is added
  pub level_room : (slice : List ℕ) (x n : ℕ) → slice ≡ offsets → x < size pattern → 0 < length space
      → ((j : ℕ) → 0 < j → j ≤ n → HasRoom j (plus_within (take (x * rank + rank - x * rank) (drop (x * rank) slice)) (take rank moduli) (take rank place)) (take rank moduli) (take rank step))
      → (i : ℕ) → i ≤ n → address t array (further i r) (point_at pattern x) ≡ address t array r (point_at pattern x) + i * sum (step_of t.paving array)
  level_room slice x n is low some room i within =
      let y = point_at pattern x in
      let count : x * rank + rank - x * rank ≡ rank = omega arith in
      let own : take (x * rank + rank - x * rank) (drop (x * rank) slice) ≡ offset_at t.fitting array y =
      ap (λ k. take k (drop (x * rank) slice)) count ∙ (ap (λ zs. take rank (drop (x * rank) zs)) is ∙ (ap (λ n. take n (drop (x * n) offsets)) l.rank_is ∙ l.offsets_are.each x low)) in
      let a : List ℕ = take (x * rank + rank - x * rank) (drop (x * rank) slice) in
      let whole : plus_within a (take rank moduli) (take rank place) ≡ residues array (Rattle.aol_tiler.specs.Tiler.place t r y) =
      ap (λ z. plus_within z (take rank moduli) (take rank place)) own
      ∙ (ap (λ ms. plus_within (offset_at t.fitting array y) ms (take rank place)) l.moduli_are
      ∙ (ap (plus_within (offset_at t.fitting array y) (moduli_of array)) l.place_is ∙ place_within t array space pattern r y l.fits l.array_is)) in
      address_moved t array space pattern l.fits l.array_is r y l.inside some i (λ j more less.
      subst (λ vs. HasRoom j vs (moduli_of array) (step_of t.paving array)) whole (subst (λ ms. HasRoom j (plus_within a (take rank moduli) (take rank place)) ms (step_of t.paving array)) l.moduli_are
      (subst (HasRoom j (plus_within a (take rank moduli) (take rank place)) (take rank moduli)) l.step_is (room j more (omega (arith, less, within))))))
