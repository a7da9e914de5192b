-- A level's ranks by its residues.
use Rattle.std.proofs.Common.{◌≡◌, ℕ, zero, suc, ◌+◌, ◌-◌, ◌*◌, ◌^◌, ◌<◌, ◌≤◌, ◌==◌, ℤ, pos, ◌+ℤ◌, ◌*ℤ◌, List, [], ◌∷◌, ◌++◌, length, take, drop, sum, replicate, true, Bool, refl, sym, ◌∙◌, ap, arith, subst, append-nil, ◌⊎◌, inl, inr}
use Rattle.std.specs.List.{list_all, AllByRecursion}
use Rattle.std.proofs.Math.Nat.{mul-le-mul_right}
use Rattle.std.proofs.Math.Seq.{drop-append_seam}
use Rattle.std.proofs.lemmas.Bool.{cases_lt}
use Rattle.std.proofs.lemmas.Int.{ints}
use Rattle.std.proofs.lemmas.List.{length-take-le, drop-append-le, take-append-le, take_all, take_at, take_rest, length-append}
use Rattle.aol_shape.specs.Shape.{IsPointOf, IsShape, IsEntry, size, rank, point_at, max_points}
use Rattle.aol_shape.specs.Vectors.{IsVectorEntry, plus, times, plus_columns, wrapped_point}
use Rattle.aol_shape.proofs.Points.{rank-lt-size}
use Rattle.aol_tiler.specs.Makers.{IsIndex}
use Rattle.aol_tiler.specs.Matrices.{TilerOf}
use Rattle.aol_tiler.specs.Tiler.{Fits, integers, place, address}
use Rattle.aol_tiler.specs.Walk.{plus_within, AreWithin, moduli_of, residues}
use Rattle.aol_tiler.proofs.Addresses.{both, even, fits-parts, wrapped-below}
use Rattle.aol_tiler.proofs.Blocks.{plus_columns-plus}
use Rattle.aol_tiler.proofs.Entries.{length-plus_columns, length-times}
use Rattle.aol_tiler.proofs.Products.{sum-times}
use Rattle.aol_tiler.proofs.Started.{even_columns}
use Rattle.aol_tiler.proofs.Residues.{residues-plus, residues_rank}
use Rattle.aol_tiler.proofs.Walks.{front_is}
use Rattle.aol_trail.specs.Level.{noughts, offset_at, last_of, step_of, AreOffsets, IsNextIn, IsLevel}
use Rattle.aol_trail.specs.Trail.{StepOf, IsStepAt}

-- ---- zeros

abbrev pub IsNought : ℤ → Type 0
IsNought z = z ≡ pos 0

all_take : (n : ℕ) (zs : List ℤ) → AllByRecursion IsNought zs → AllByRecursion IsNought (take n zs)
all_take zero zs h = tt
all_take (suc n) [] h = tt
all_take (suc n) (z ∷ zs) h = (h.0, all_take n zs h.1)

noughts_are : (n : ℕ) → AllByRecursion IsNought (noughts n)
noughts_are n = all_take n (replicate 12 (pos 0)) (refl, (refl, (refl, (refl, (refl, (refl, (refl, (refl, (refl, (refl, (refl, (refl, tt))))))))))))

pub length-noughts : (n : ℕ) → n ≤ 12 → length (noughts n) ≡ n
length-noughts n h = length-take-le n (replicate 12 (pos 0)) h

small_noughts : (zs : List ℤ) → AllByRecursion IsNought zs → AllByRecursion IsVectorEntry zs
small_noughts [] h = tt
small_noughts (z ∷ zs) h = (subst IsVectorEntry (sym h.0) (omega arith), small_noughts zs h.1)

pub noughts_small : (n : ℕ) → AllByRecursion IsVectorEntry (noughts n)
noughts_small n = small_noughts (noughts n) (noughts_are n)

plus_noughts : (zs v : List ℤ) → AllByRecursion IsNought zs → length zs ≡ length v → plus zs v ≡ v
plus_noughts [] [] h e = refl
plus_noughts [] (y ∷ v) h e = absurd (omega (arith, e))
plus_noughts (z ∷ zs) [] h e = absurd (omega (arith, e))
plus_noughts (z ∷ zs) (y ∷ v) h e =
    let first : z +ℤ y ≡ y = omega (arith, ints, h.0) in
    ap (λ w. w ∷ plus zs v) first ∙ ap (λ ws. y ∷ ws) (plus_noughts zs v h.1 (omega (arith, e)))

-- ---- lengths and bounds

pub length-moduli : (array : List ℕ) → length (moduli_of array) ≡ length array
length-moduli [] = refl
length-moduli (n ∷ array) = ap suc (length-moduli array)

pub length-residues : (array : List ℕ) (zs : List ℤ) → length zs ≡ length array → length (residues array zs) ≡ length array
length-residues [] zs h = refl
length-residues (n ∷ array) [] h = absurd (omega (arith, h))
length-residues (n ∷ array) (z ∷ zs) h = ap suc (length-residues array zs (omega (arith, h)))

pub small_moduli : (array : List ℕ) → AllByRecursion IsEntry array → size array ≤ max_points → AllByRecursion (λ m. m ≤ max_points) (moduli_of array)
small_moduli [] p h = tt
small_moduli (n ∷ array) p h =
    let less : 1 * size array ≤ n * size array = mul-le-mul_right (size array) p.0.0 in
    (h, small_moduli array p.1 (omega (arith, h, less)))

residues_within : (array : List ℕ) (zs : List ℤ) → AllByRecursion IsEntry array → length zs ≡ length array → AreWithin (residues array zs) (moduli_of array)
residues_within [] zs p h = tt
residues_within (n ∷ array) [] p h = absurd (omega (arith, h))
residues_within (n ∷ array) (z ∷ zs) p h = (mul-le-mul_right (size array) (omega (arith, wrapped-below z n (omega (arith, p.0.0)))), residues_within array zs p.1 (omega (arith, h)))

pub wrapped_inside : (zs : List ℤ) (array : List ℕ) → AllByRecursion IsEntry array → length zs ≡ length array → IsPointOf array (wrapped_point zs array)
wrapped_inside [] [] p h = tt
wrapped_inside [] (n ∷ array) p h = absurd (omega (arith, h))
wrapped_inside (z ∷ zs) [] p h = absurd (omega (arith, h))
wrapped_inside (z ∷ zs) (n ∷ array) p h = (wrapped-below z n (omega (arith, p.0.0)), wrapped_inside zs array p.1 (omega (arith, h)))

-- ---- the address

-- what a level adds for one element
pub record Adds (t : TilerOf) (array r i offset moduli reference : List ℕ) : Type 0 where
  pub offset_within : AreWithin offset moduli
  pub reference_within : AreWithin reference moduli
  pub small : AllByRecursion (λ m. m ≤ max_points) moduli
  pub offset_long : length offset ≡ length moduli
  pub reference_long : length reference ≡ length moduli
  pub is : sum (plus_within offset moduli reference) ≡ address t array r i
  pub low : sum (plus_within offset moduli reference) < 2 ^ 32

module _ (t : TilerOf) (array space pattern r i : List ℕ) (fits : Fits t array space pattern) (shape : IsShape array) where
  reference : List ℤ
  reference = plus_columns t.origin t.paving (integers r)

  offset : List ℤ
  offset = plus_columns (noughts (length array)) t.fitting (integers i)

  reference_length : length reference ≡ length array
  unfolding reference
  reference_length = length-plus_columns t.origin t.paving (integers r) ∙ (even t (length array) (fits-parts t array space pattern fits).over).origin

  offset_length : length offset ≡ length array
  unfolding offset
  offset_length = length-plus_columns (noughts (length array)) t.fitting (integers i) ∙ length-noughts (length array) shape.rank

  whole : plus offset reference ≡ place t r i
  unfolding offset reference
  whole =
      sym (plus_columns-plus (noughts (length array)) reference t.fitting (integers i))
      ∙ ap (λ v. plus_columns v t.fitting (integers i)) (plus_noughts (noughts (length array)) reference (noughts_are (length array)) (length-noughts (length array) shape.rank ∙ sym reference_length))

  summed : sum (plus_within (residues array offset) (moduli_of array) (residues array reference)) ≡ address t array r i
  summed =
      ap (λ w. sum (plus_within (residues array offset) (moduli_of array) w)) (sym (append-nil (residues array reference)))
      ∙ ap sum (residues-plus array offset reference [] shape.entry offset_length reference_length)
      ∙ residues_rank array (plus offset reference)
      ∙ ap (λ v. rank array (wrapped_point v array)) whole

  pub address_small : address t array r i < 2 ^ 32
  unfolding reference
  address_small =
      let n : length (place t r i) ≡ length array = length-plus_columns reference t.fitting (integers i) ∙ reference_length in
      omega (arith, shape.points, rank-lt-size array (wrapped_point (place t r i) array) (wrapped_inside (place t r i) array shape.entry n))

  -- an element's place is its offset and the reference element
  pub place_within : plus_within (offset_at t.fitting array i) (moduli_of array) (residues array (plus_columns t.origin t.paving (integers r))) ≡ residues array (place t r i)
  unfolding reference offset
  place_within =
      ap (λ w. plus_within (residues array offset) (moduli_of array) w) (sym (append-nil (residues array reference)))
      ∙ (residues-plus array offset reference [] shape.entry offset_length reference_length ∙ ap (residues array) whole)

  pub adds : Adds t array r i (offset_at t.fitting array i) (moduli_of array) (residues array (plus_columns t.origin t.paving (integers r)))
  unfolding reference offset
  adds = record {
    offset_within = residues_within array offset shape.entry offset_length;
    reference_within = residues_within array reference shape.entry reference_length;
    small = small_moduli array shape.entry shape.points;
    offset_long = length-residues array offset offset_length ∙ sym (length-moduli array);
    reference_long = length-residues array reference reference_length ∙ sym (length-moduli array);
    is = summed;
    low = omega (arith, summed, address_small);
  }

-- ---- all offsets

pub length-offset : (columns : List (List ℤ)) (array i : List ℕ) → length array ≤ 12 → length (offset_at columns array i) ≡ length array
length-offset columns array i few =
    length-residues array (plus_columns (noughts (length array)) columns (integers i)) (length-plus_columns (noughts (length array)) columns (integers i) ∙ length-noughts (length array) few)

pub offsets_none : (columns : List (List ℤ)) (array pattern offsets : List ℕ) → offsets ≡ [] → AreOffsets columns array pattern 0 offsets
offsets_none columns array pattern offsets e =
    let none : 0 ≡ 0 * length array = grind arith in
    rw e record { many = none; each = λ x h. absurd (omega (arith, h)) }

row_inside : (x k n : ℕ) → x < k → x * n + n ≤ k * n
row_inside x k n h = let more : (x + 1) * n ≤ k * n = mul-le-mul_right n (omega (arith, h)) in omega (arith, more)

pub offsets_more : (columns : List (List ℤ)) (array pattern offsets new point : List ℕ) (k : ℕ) → length array ≤ 12 → AreOffsets columns array pattern k offsets → point ≡ point_at pattern k
    → new ≡ offsets ++ offset_at columns array point → AreOffsets columns array pattern (k + 1) new
offsets_more columns array pattern offsets new point k few so_far at is =
    let n = length array in
    let one = offset_at columns array point in
    let one_long : length one ≡ n = length-offset columns array point few in
    rw is record {
      many = length-append offsets one ∙ omega (arith, so_far.many, one_long);
      each = λ x h. by_case x (cases_lt x k) h;
    }
  where
    by_case : (x : ℕ) → (x < k) ⊎ (k ≤ x) → x < k + 1
        → take (length array) (drop (x * length array) (offsets ++ offset_at columns array point)) ≡ offset_at columns array (point_at pattern x)
    by_case x (inl low) h =
        let n = length array in
        let one = offset_at columns array point in
        let room : x * n + n ≤ length offsets = omega (arith, row_inside x k n low, so_far.many) in
        let behind : length (drop (x * n) offsets) + x * n ≡ length offsets = length_behind offsets (x * n) (omega (arith, room)) in
        ap (take n) (drop-append-le (x * n) offsets one (omega (arith, room)))
        ∙ take-append-le n (drop (x * n) offsets) one (omega (arith, behind, room))
        ∙ so_far.each x low
      where
        length_behind : (xs : List ℕ) (m : ℕ) → m ≤ length xs → length (drop m xs) + m ≡ length xs
        length_behind xs zero h = omega arith
        length_behind [] (suc m) h = absurd (omega (arith, h))
        length_behind (y ∷ xs) (suc m) h = omega (arith, length_behind xs m (omega (arith, h)))
    by_case x (inr high) h =
        let n = length array in
        let one = offset_at columns array point in
        let one_long : length one ≡ n = length-offset columns array point few in
        let same : x ≡ k = omega (arith, high, h) in
        let begins : x * n ≡ length offsets = ap (λ z. z * n) same ∙ sym so_far.many in
        ap (λ z. take n (drop z (offsets ++ one))) begins
        ∙ ap (take n) (drop-append_seam offsets one)
        ∙ take_all n one (omega (arith, one_long))
        ∙ ap (offset_at columns array) (at ∙ ap (point_at pattern) (sym same))

-- ---- a level

pub point_length : (shape point : List ℕ) → IsPointOf shape point → length point ≡ length shape
point_length [] [] h = refl
point_length [] (i ∷ point) h = absurd h
point_length (n ∷ shape) [] h = absurd h
point_length (n ∷ shape) (i ∷ point) h = ap suc (point_length shape point h.1)

pub small_point : (shape x : List ℕ) → AllByRecursion IsEntry shape → IsPointOf shape x → AllByRecursion IsIndex x
small_point [] [] h k = tt
small_point [] (i ∷ x) h k = absurd k
small_point (n ∷ shape) [] h k = absurd k
small_point (n ∷ shape) (i ∷ x) h k = (omega (arith, h.0, k.0), small_point shape x h.1 k.1)

pub level_adds : (t : TilerOf) (array space pattern r moduli place step offsets slice : List ℕ) (rank x : ℕ) → IsLevel t array space pattern r rank moduli place step offsets → slice ≡ offsets → x < size pattern
    → Adds t array r (point_at pattern x) (take (x * rank + rank - x * rank) (drop (x * rank) slice)) (take rank moduli) (take rank place)
level_adds t array space pattern r moduli place step offsets slice rank x l is low =
    let count : x * rank + rank - x * rank ≡ rank = omega arith in
    let own : take rank (drop (x * rank) offsets) ≡ offset_at t.fitting array (point_at pattern x) = ap (λ n. take n (drop (x * n) offsets)) l.rank_is ∙ l.offsets_are.each x low in
    rw (count, is, own, l.moduli_are, l.place_is) (adds t array space pattern r (point_at pattern x) l.fits l.array_is)

-- the indices of a repetition, as the code takes them
pub step_there : (s z : StepOf) (at space : List ℕ) → s ≡ z → space ≡ s.space → IsStepAt at z → IsPointOf s.space (take (s.from + length space - s.from) (drop s.from at))
step_there s z at space same is there =
    let count : s.from + length space - s.from ≡ length s.space = omega (arith, ap (length {A = ℕ}) is) in
    let own : IsStepAt at s = subst (IsStepAt at) (sym same) there in
    rw count own.inside

-- the last columns, as the code takes them
pub drop_last : (cs : List (List ℤ)) → drop (length cs - 1) cs ≡ last_of cs
drop_last [] = refl
drop_last (c ∷ []) = refl
drop_last (c ∷ (d ∷ cs)) =
    let count : length (c ∷ (d ∷ cs)) - 1 ≡ suc (length (d ∷ cs) - 1) = omega arith in
    ap (λ n. drop n (c ∷ (d ∷ cs))) count ∙ drop_last (d ∷ cs)

-- one more in the last dimension adds the last column once
one_more : (z v : List ℤ) (i : ℕ) → plus z (times (pos (i + 1)) v) ≡ plus (plus z (times (pos i) v)) (times (pos 1) v)
one_more [] v i = refl
one_more (y ∷ z) [] i = refl
one_more (y ∷ z) (c ∷ v) i =
    let first : y +ℤ pos (i + 1) *ℤ c ≡ (y +ℤ pos i *ℤ c) +ℤ pos 1 *ℤ c = omega (arith, ints, sum-times (pos i) (pos 1) c) in
    ap (λ w. w ∷ plus z (times (pos (i + 1)) v)) first ∙ ap (λ ws. ((y +ℤ pos i *ℤ c) +ℤ pos 1 *ℤ c) ∷ ws) (one_more z v i)

pub next_column : (n : ℕ) → n ≤ 12 → (z : List ℤ) (cs : List (List ℤ)) (front : List ℕ) (i : ℕ) → AllByRecursion (λ c. length c ≡ n) cs → length cs ≡ length (front ++ i ∷ [])
    → plus_columns z cs (integers (front ++ (i + 1) ∷ [])) ≡ plus (plus_columns z cs (integers (front ++ i ∷ []))) (plus_columns (noughts n) (last_of cs) (pos 1 ∷ []))
next_column n few z [] [] i even h = absurd (omega (arith, h))
next_column n few z [] (f ∷ front) i even h = absurd (omega (arith, h))
next_column n few z (c ∷ []) [] i even h =
    one_more z c i ∙ ap (plus (plus z (times (pos i) c))) (sym (plus_noughts (noughts n) (times (pos 1) c) (noughts_are n) (length-noughts n few ∙ sym (length-times (pos 1) c ∙ even.0))))
next_column n few z (c ∷ []) (f ∷ front) i even h = absurd (omega (arith, h, length-append front (i ∷ [])))
next_column n few z (c ∷ (d ∷ cs)) [] i even h = absurd (omega (arith, h))
next_column n few z (c ∷ (d ∷ cs)) (f ∷ front) i even h = next_column n few (plus z (times (pos f) c)) (d ∷ cs) front i even.1 (omega (arith, h))

all_drop : (p : List ℤ → Bool) (k : ℕ) (cs : List (List ℤ)) → list_all p cs ≡ true → list_all p (drop k cs) ≡ true
all_drop p zero cs h = h
all_drop p (suc k) [] h = refl
all_drop p (suc k) (c ∷ cs) h = all_drop p k cs (both (p c) (list_all p cs) h).1

pub last_slice : (cs : List (List ℤ)) (k : ℕ) → k ≡ length cs - 1 → take (length cs - k) (drop k cs) ≡ last_of cs
last_slice cs k e = take_rest cs k ∙ (ap (λ n. drop n cs) e ∙ drop_last cs)

pub last_even : (array : List ℕ) (P slice : List (List ℤ)) → slice ≡ last_of P → IsShape array → list_all (λ c. length c == length array) P ≡ true → list_all (λ c. length c == length (noughts (length array))) slice ≡ true
last_even array P slice is shape columns =
    ap (list_all (λ (c : List ℤ). length c == length (noughts (length array)))) (is ∙ sym (drop_last P))
    ∙ (ap (λ k. list_all (λ (c : List ℤ). length c == k) (drop (length P - 1) P)) (length-noughts (length array) shape.rank) ∙ all_drop (λ c. length c == length array) (length P - 1) P columns)

-- what is written is a level
pub level_made : (t : TilerOf) (array space pattern r entries moduli place step offsets items more rest past : List ℕ) (o : List ℤ) (P F : List (List ℤ)) → IsShape array → IsShape space → IsShape pattern → Fits t array space pattern
    → IsPointOf space r → entries ≡ array → o ≡ t.origin → P ≡ t.paving → F ≡ t.fitting → moduli ≡ moduli_of entries ++ more → place ≡ residues entries (plus_columns o P (integers r)) ++ rest
    → step ≡ step_of P entries ++ past → AreOffsets F entries pattern (size pattern) offsets → items ≡ r → IsLevel t array space pattern items (length entries) moduli place step offsets
level_made t array space pattern r entries moduli place step offsets items more rest past o P F a s p fits inside is_entries is_o is_P is_F is_moduli is_place is_step are same =
    let reference = plus_columns t.origin t.paving (integers r) in
    let long : length (residues array reference) ≡ length array = length-residues array reference (length-plus_columns t.origin t.paving (integers r) ∙ (even t (length array) (fits-parts t array space pattern fits).over).origin) in
    let Off : List ℕ → Type 0 = λ es. AreOffsets t.fitting es pattern (size pattern) offsets in
    let Fit : List (List ℤ) → Type 0 = λ cs. AreOffsets cs entries pattern (size pattern) offsets in
    let placed : place ≡ residues array reference ++ rest =
    is_place ∙ (ap (λ es. residues es (plus_columns o P (integers r)) ++ rest) is_entries ∙ (ap (λ v. residues array (plus_columns v P (integers r)) ++ rest) is_o ∙ ap (λ cs. residues array (plus_columns t.origin cs (integers r)) ++ rest) is_P)) in
    let unit = plus_columns (noughts (length array)) (last_of t.paving) (pos 1 ∷ []) in
    let stepped : step ≡ residues array unit ++ past =
    is_step ∙ (ap (λ es. step_of P es ++ past) is_entries ∙ ap (λ cs. step_of cs array ++ past) is_P) in
    rw same record {
      array_is = a;
      space_is = s;
      pattern_is = p;
      fits = fits;
      inside = inside;
      rank_is = ap (length {A = ℕ}) is_entries;
      moduli_are = ap (λ es. take (length {A = ℕ} es) moduli) is_entries ∙ front_is (length array) moduli (moduli_of array) more (is_moduli ∙ ap (λ es. moduli_of es ++ more) is_entries) (length-moduli array);
      place_is = ap (λ es. take (length {A = ℕ} es) place) is_entries ∙ front_is (length array) place (residues array reference) rest placed long;
      step_is = ap (λ es. take (length {A = ℕ} es) step) is_entries ∙ front_is (length array) step (residues array unit) past stepped (length-residues array unit (length-plus_columns (noughts (length array)) (last_of t.paving) (pos 1 ∷ []) ∙ length-noughts (length array) a.rank));
      offsets_are = subst Off is_entries (subst Fit is_F are);
    }

-- and so it is at another repetition
pub level_moved : (t : TilerOf) (array space pattern r new entries moduli place moved step offsets items rest : List ℕ) (o : List ℤ) (P : List (List ℤ)) (rank : ℕ) → IsLevel t array space pattern r rank moduli place step offsets
    → IsPointOf space new → entries ≡ array → o ≡ t.origin → P ≡ t.paving → moved ≡ residues entries (plus_columns o P (integers new)) ++ rest → items ≡ new → IsLevel t array space pattern items rank moduli moved step offsets
level_moved t array space pattern r new entries moduli place moved step offsets items rest o P rank l inside is_entries is_o is_P is_place same =
    let reference = plus_columns t.origin t.paving (integers new) in
    let long : length (residues array reference) ≡ length array = length-residues array reference (length-plus_columns t.origin t.paving (integers new) ∙ (even t (length array) (fits-parts t array space pattern l.fits).over).origin) in
    let placed : moved ≡ residues array reference ++ rest =
    is_place ∙ (ap (λ es. residues es (plus_columns o P (integers new)) ++ rest) is_entries ∙ (ap (λ v. residues array (plus_columns v P (integers new)) ++ rest) is_o ∙ ap (λ cs. residues array (plus_columns t.origin cs (integers new)) ++ rest) is_P)) in
    rw same record {
      array_is = l.array_is;
      space_is = l.space_is;
      pattern_is = l.pattern_is;
      fits = l.fits;
      inside = inside;
      rank_is = l.rank_is;
      moduli_are = l.moduli_are;
      place_is = ap (λ n. take n moved) l.rank_is ∙ front_is (length array) moved (residues array reference) rest placed long;
      step_is = l.step_is;
      offsets_are = l.offsets_are;
    }

-- and at the next one in the last dimension
pub level_next : (t : TilerOf) (array space pattern r new moduli place moved step offsets items : List ℕ) (rank : ℕ) → IsLevel t array space pattern r rank moduli place step offsets → IsPointOf space new → IsNextIn r new
    → take rank moved ≡ plus_within (take rank place) (take rank moduli) (take rank step) → items ≡ new → IsLevel t array space pattern items rank moduli moved step offsets
level_next t array space pattern r new moduli place moved step offsets items rank l inside next is same =
    let n = length array in
    let parts = fits-parts t array space pattern l.fits in
    let level = even t n parts.over in
    let unit = plus_columns (noughts n) (last_of t.paving) (pos 1 ∷ []) in
    let reference = plus_columns t.origin t.paving (integers r) in
    let count : length t.paving ≡ length (next.front ++ next.last ∷ []) = parts.paving ∙ (sym (point_length space r l.inside) ∙ ap (length {A = ℕ}) next.old_is) in
    let long : length reference ≡ n = length-plus_columns t.origin t.paving (integers r) ∙ level.origin in
    let unit_long : length unit ≡ n = length-plus_columns (noughts n) (last_of t.paving) (pos 1 ∷ []) ∙ length-noughts n l.array_is.rank in
    let added : plus_within (residues array reference) (moduli_of array) (residues array unit) ≡ residues array (plus reference unit) =
    ap (plus_within (residues array reference) (moduli_of array)) (sym (append-nil (residues array unit))) ∙ residues-plus array reference unit [] l.array_is.entry long unit_long in
    let moves : plus reference unit ≡ plus_columns t.origin t.paving (integers new) =
    ap (λ y. plus (plus_columns t.origin t.paving (integers y)) unit) next.old_is
    ∙ (sym (next_column n l.array_is.rank t.origin t.paving next.front next.last (even_columns t.paving n level.paving) count) ∙ ap (λ y. plus_columns t.origin t.paving (integers y)) (sym next.new_is)) in
    rw same record {
      array_is = l.array_is;
      space_is = l.space_is;
      pattern_is = l.pattern_is;
      fits = l.fits;
      inside = inside;
      rank_is = l.rank_is;
      moduli_are = l.moduli_are;
      place_is = is ∙ (ap (λ p. plus_within p (take rank moduli) (take rank step)) l.place_is ∙ (ap (λ ms. plus_within (residues array reference) ms (take rank step)) l.moduli_are
          ∙ (ap (plus_within (residues array reference) (moduli_of array)) l.step_is ∙ (added ∙ ap (residues array) moves))));
      step_is = l.step_is;
      offsets_are = l.offsets_are;
    }

-- what can be added there
pub record CanStep (place moduli step : List ℕ) : Type 0 where
  pub place_within : AreWithin place moduli
  pub step_within : AreWithin step moduli
  pub small : AllByRecursion (λ m. m ≤ max_points) moduli

pub can_step : (t : TilerOf) (array space pattern r moduli place step offsets : List ℕ) (rank : ℕ) → IsLevel t array space pattern r rank moduli place step offsets → CanStep (take rank place) (take rank moduli) (take rank step)
can_step t array space pattern r moduli place step offsets rank l =
    let n = length array in
    let long = length-plus_columns t.origin t.paving (integers r) ∙ (even t n (fits-parts t array space pattern l.fits).over).origin in
    let unit_long = length-plus_columns (noughts n) (last_of t.paving) (pos 1 ∷ []) ∙ length-noughts n l.array_is.rank in
    rw (l.place_is, l.moduli_are, l.step_is) record {
      place_within = residues_within array (plus_columns t.origin t.paving (integers r)) l.array_is.entry long;
      step_within = residues_within array (plus_columns (noughts n) (last_of t.paving) (pos 1 ∷ [])) l.array_is.entry unit_long;
      small = small_moduli array l.array_is.entry l.array_is.points;
    }

length-plus_within : (p ms v : List ℕ) → length (plus_within p ms v) ≡ length p
length-plus_within [] ms v = refl
length-plus_within (x ∷ p) [] v = refl
length-plus_within (x ∷ p) (m ∷ ms) [] = refl
length-plus_within (x ∷ p) (m ∷ ms) (y ∷ v) = ap suc (length-plus_within p ms v)

pub step_length : (t : TilerOf) (array space pattern r moduli place step offsets : List ℕ) (rank : ℕ) → IsLevel t array space pattern r rank moduli place step offsets
    → length (plus_within (take rank place) (take rank moduli) (take rank step)) ≡ rank
step_length t array space pattern r moduli place step offsets rank l =
    let reference = plus_columns t.origin t.paving (integers r) in
    let long : length reference ≡ length array = length-plus_columns t.origin t.paving (integers r) ∙ (even t (length array) (fits-parts t array space pattern l.fits).over).origin in
    length-plus_within (take rank place) (take rank moduli) (take rank step) ∙ (ap (length {A = ℕ}) l.place_is ∙ (length-residues array reference long ∙ sym l.rank_is))

-- a slice that was lent is written back
pub written_back : {X : Type 0} (new old : List X) (n : ℕ) → length new ≡ n → take n (new ++ drop (length new) old) ≡ new
written_back new old n many = take_at new (drop (length new) old) n many

pub next_from : (seen old new : List ℕ) → seen ≡ old → IsNextIn seen new → IsNextIn old new
next_from seen old new same next = subst (λ r. IsNextIn r new) same next
