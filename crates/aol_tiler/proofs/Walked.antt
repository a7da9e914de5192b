-- A walk gives the addresses of all pairs, repetition by repetition.
use Rattle.std.proofs.Common.{◌≡◌, ℕ, zero, suc, ◌+◌, ◌-◌, ◌*◌, ◌%◌, ◌<◌, ◌≤◌, ℤ, pos, ◌+ℤ◌, ◌*ℤ◌, ◌-ℤ◌, List, [], ◌∷◌, ◌++◌, length, map, drop, refl, sym, ◌∙◌, ap, arith, append_assoc, append-nil, replicate, ◌==◌, false}
use Rattle.std.specs.List.{AllByRecursion, flat_map}
use Rattle.std.proofs.lemmas.Int.{ints}
use Rattle.std.proofs.Math.IntN.{neg_ℤ, suc_ℤ-*ℤ, pred_ℤ-*ℤ, zero-*ℤ, neg_ℤ-suc_ℤ}
use Rattle.std.proofs.lemmas.Nat.{div-mul-add, mod-mul-add}
use Rattle.std.proofs.lemmas.List.Concat.{flat_map-append, flat_map_single}
use Rattle.std.proofs.lemmas.Bool.{eqb-true, false_from_ne_true}
use Rattle.aol_shape.specs.Lists.{numbers_from, numbers_below}
use Rattle.aol_shape.specs.Shape.{size, rank, points, point_at, IsEntry}
use Rattle.aol_shape.specs.Vectors.{plus, times, plus_columns, wrapped_point}
use Rattle.aol_tiler.specs.declared.walker.Column.{Column}
use Rattle.aol_tiler.specs.Matrices.{TilerOf}
use Rattle.aol_tiler.specs.Tiler.{integers, place, address, addresses}
use Rattle.aol_tiler.specs.Walk.{stepped, moved, to_come, moduli_of, residues, column_at, columns_on}
use Rattle.aol_tiler.proofs.Entries.{length-plus, length-times}
use Rattle.aol_tiler.proofs.Residues.{residues-plus, residues_rank}

-- ---- the points of a shape by its first index

numbers_from-append : (k x n : ℕ) → numbers_from k (x + n) ≡ numbers_from k x ++ numbers_from (k + x) n
numbers_from-append k zero n = let e : 0 + n ≡ n = omega arith in let g : k ≡ k + 0 = omega arith in ap (numbers_from k) e ∙ ap (λ j. numbers_from j n) g
numbers_from-append k (suc x) n =
    let e : suc x + n ≡ suc (x + n) = omega arith in
    let g : (k + 1) + x ≡ k + suc x = omega arith in
    ap (numbers_from k) e ∙ ap (λ ns. k ∷ ns) (numbers_from-append (k + 1) x n ∙ ap (λ j. numbers_from (k + 1) x ++ numbers_from j n) g)

map-append : {A B : Type 0} (f : A → B) (xs ys : List A) → map f (xs ++ ys) ≡ map f xs ++ map f ys
map-append f [] ys = refl
map-append f (x ∷ xs) ys = ap (λ zs. f x ∷ zs) (map-append f xs ys)

-- the points with the first index i, from number j on
row_from : (n i j k : ℕ) (shape : List ℕ) → j + k ≤ size shape → map (point_at (n ∷ shape)) (numbers_from (i * size shape + j) k) ≡ map (λ x. i ∷ x) (map (point_at shape) (numbers_from j k))
row_from n i j zero shape h = refl
row_from n i j (suc k) shape h =
    let s = size shape in
    let inside : j < s = omega (arith, h) in
    let next : i * s + j + 1 ≡ i * s + (j + 1) = omega arith in
    ap (λ q. (q ∷ point_at shape ((i * s + j) % s)) ∷ map (point_at (n ∷ shape)) (numbers_from (i * s + j + 1) k)) (div-mul-add i s j inside)
    ∙ ap (λ m. (i ∷ point_at shape m) ∷ map (point_at (n ∷ shape)) (numbers_from (i * s + j + 1) k)) (mod-mul-add i s j inside)
    ∙ ap (λ m. (i ∷ point_at shape j) ∷ map (point_at (n ∷ shape)) (numbers_from m k)) next
    ∙ ap (λ ps. (i ∷ point_at shape j) ∷ ps) (row_from n i (j + 1) k shape (omega (arith, h)))

rows_from : (n i k : ℕ) (shape : List ℕ) → map (point_at (n ∷ shape)) (numbers_from (i * size shape) (k * size shape)) ≡ flat_map (λ j. map (λ x. j ∷ x) (points shape)) (numbers_from i k)
rows_from n i zero shape = let e : 0 * size shape ≡ 0 = omega arith in ap (λ m. map (point_at (n ∷ shape)) (numbers_from (i * size shape) m)) e
rows_from n i (suc k) shape =
    let s = size shape in
    let e : suc k * s ≡ s + k * s = omega arith in
    let g : i * s + s ≡ (i + 1) * s = omega arith in
    let z : i * s ≡ i * s + 0 = omega arith in
    ap (λ m. map (point_at (n ∷ shape)) (numbers_from (i * s) m)) e
    ∙ ap (map (point_at (n ∷ shape))) (numbers_from-append (i * s) s (k * s) ∙ ap (λ m. numbers_from (i * s) s ++ numbers_from m (k * s)) g)
    ∙ map-append (point_at (n ∷ shape)) (numbers_from (i * s) s) (numbers_from ((i + 1) * s) (k * s))
    ∙ ap (λ ps. ps ++ map (point_at (n ∷ shape)) (numbers_from ((i + 1) * s) (k * s))) (ap (λ m. map (point_at (n ∷ shape)) (numbers_from m s)) z ∙ row_from n i 0 s shape (omega arith))
    ∙ ap (λ ps. map (λ x. i ∷ x) (points shape) ++ ps) (rows_from n (i + 1) k shape)

points-cons : (n : ℕ) (shape : List ℕ) → points (n ∷ shape) ≡ flat_map (λ j. map (λ x. j ∷ x) (points shape)) (numbers_below n)
points-cons n shape = let z : 0 ≡ 0 * size shape = omega arith in ap (λ m. map (point_at (n ∷ shape)) (numbers_from m (n * size shape))) z ∙ rows_from n 0 n shape

-- ---- vectors added again and again

abbrev once : List ℤ → List ℤ → List ℤ
once z v = plus z (times (pos 1) v)

one-more : (x : ℕ) (c : ℤ) → pos (suc x) *ℤ c ≡ pos x *ℤ c +ℤ c
one-more x c = suc_ℤ-*ℤ (pos x) c

one-is : (c : ℤ) → pos 1 *ℤ c ≡ c
one-is c = let e : pos 1 *ℤ c ≡ pos 0 *ℤ c +ℤ c = one-more 0 c in omega (arith, ints, e, zero-*ℤ c)

again : (x : ℕ) (z v : List ℤ) → once (plus z (times (pos x) v)) v ≡ plus z (times (pos (suc x)) v)
again x [] v = refl
again x (y ∷ z) [] = refl
again x (y ∷ z) (c ∷ v) =
    let first : (y +ℤ pos x *ℤ c) +ℤ pos 1 *ℤ c ≡ y +ℤ pos (suc x) *ℤ c = omega (arith, ints, one-is c, one-more x c) in
    ap (λ w. w ∷ once (plus z (times (pos x) v)) v) first ∙ ap (λ zs. (y +ℤ pos (suc x) *ℤ c) ∷ zs) (again x z v)

none_yet : (z v : List ℤ) → plus z (times (pos 0) v) ≡ z
none_yet [] v = refl
none_yet (y ∷ z) [] = refl
none_yet (y ∷ z) (c ∷ v) =
    let first : y +ℤ pos 0 *ℤ c ≡ y = omega (arith, ints, zero-*ℤ c) in
    ap (λ w. w ∷ plus z (times (pos 0) v)) first ∙ ap (λ zs. y ∷ zs) (none_yet z v)

negated : (e : ℕ) (c : ℤ) → neg_ℤ (pos e) *ℤ c +ℤ pos e *ℤ c ≡ pos 0
negated zero c = let none : neg_ℤ (pos 0) *ℤ c ≡ pos 0 = zero-*ℤ c in omega (arith, ints, none, zero-*ℤ c)
negated (suc e) c =
    let fewer : neg_ℤ (pos (suc e)) *ℤ c ≡ neg_ℤ (pos e) *ℤ c -ℤ c = ap (λ k. k *ℤ c) (neg_ℤ-suc_ℤ (pos e)) ∙ pred_ℤ-*ℤ (neg_ℤ (pos e)) c in
    omega (arith, ints, fewer, one-more e c, negated e c)

less : (e : ℕ) (c : ℤ) → (pos 1 -ℤ pos (suc e)) *ℤ c +ℤ pos e *ℤ c ≡ pos 0
less e c = let is : pos 1 -ℤ pos (suc e) ≡ neg_ℤ (pos e) = omega (arith, ints) in ap (λ k. k *ℤ c +ℤ pos e *ℤ c) is ∙ negated e c

back_again : (e : ℕ) (z v : List ℤ) → plus (plus z (times (pos e) v)) (times (pos 1 -ℤ pos (suc e)) v) ≡ z
back_again e [] v = refl
back_again e (y ∷ z) [] = refl
back_again e (y ∷ z) (c ∷ v) =
    let first : (y +ℤ pos e *ℤ c) +ℤ (pos 1 -ℤ pos (suc e)) *ℤ c ≡ y = omega (arith, ints, less e c) in
    ap (λ w. w ∷ plus (plus z (times (pos e) v)) (times (pos 1 -ℤ pos (suc e)) v)) first ∙ ap (λ zs. y ∷ zs) (back_again e z v)

-- ---- what a walk gives, from a place on

-- a place and the next ones, each a vector further
abbrev repeats : (List ℤ → List ℕ) → ℕ → List ℤ → List ℤ → List ℕ
repeats give zero v z = give z
repeats give (suc x) v z = give z ++ repeats give x v (once z v)

-- the places of all points, the last index fastest
abbrev walked : (List ℤ → List ℕ) → List (List ℤ) → List ℕ → List ℤ → List ℕ
walked give [] es z = give z
walked give (v ∷ vs) [] z = give z
walked give (v ∷ vs) (e ∷ es) z = repeats (walked give vs es) (e - 1) v z

flat_map-flat_map : {A B C : Type 0} (f : B → List C) (g : A → List B) (xs : List A) → flat_map f (flat_map g xs) ≡ flat_map (λ x. flat_map f (g x)) xs
flat_map-flat_map f g [] = refl
flat_map-flat_map f g (x ∷ xs) = flat_map-append f (g x) (flat_map g xs) ∙ ap (λ ys. flat_map f (g x) ++ ys) (flat_map-flat_map f g xs)

flat_map-map : {A B C : Type 0} (f : B → List C) (g : A → B) (xs : List A) → flat_map f (map g xs) ≡ flat_map (λ x. f (g x)) xs
flat_map-map f g [] = refl
flat_map-map f g (x ∷ xs) = ap (λ ys. f (g x) ++ ys) (flat_map-map f g xs)

flat_map-same : {A B : Type 0} (f g : A → List B) → ((x : A) → f x ≡ g x) → (xs : List A) → flat_map f xs ≡ flat_map g xs
flat_map-same f g h [] = refl
flat_map-same f g h (x ∷ xs) = ap (λ ys. ys ++ flat_map f xs) (h x) ∙ ap (λ ys. g x ++ ys) (flat_map-same f g h xs)

repeats-numbers : (give : List ℤ → List ℕ) (x j : ℕ) (v z : List ℤ) → repeats give x v (plus z (times (pos j) v)) ≡ flat_map (λ i. give (plus z (times (pos i) v))) (numbers_from j (suc x))
repeats-numbers give zero j v z = sym (append-nil (give (plus z (times (pos j) v))))
repeats-numbers give (suc x) j v z =
    let next : once (plus z (times (pos j) v)) v ≡ plus z (times (pos (j + 1)) v) = let e : suc j ≡ j + 1 = omega arith in again j z v ∙ ap (λ k. plus z (times (pos k) v)) e in
    ap (λ w. give (plus z (times (pos j) v)) ++ repeats give x v w) next ∙ ap (λ ys. give (plus z (times (pos j) v)) ++ ys) (repeats-numbers give x (j + 1) v z)

pub walked_points : (give : List ℤ → List ℕ) (vs : List (List ℤ)) (es : List ℕ) (z : List ℤ) → AllByRecursion IsEntry es → length vs ≡ length es
    → walked give vs es z ≡ flat_map (λ x. give (plus_columns z vs (integers x))) (points es)
walked_points give [] [] z p h = sym (append-nil (give z))
walked_points give [] (e ∷ es) z p h = absurd (omega (arith, h))
walked_points give (v ∷ vs) [] z p h = absurd (omega (arith, h))
walked_points give (v ∷ vs) (e ∷ es) z p h =
    let count : suc (e - 1) ≡ e = omega (arith, p.0.0) in
    let f = λ (x : List ℕ). give (plus_columns z (v ∷ vs) (integers x)) in
    ap (repeats (walked give vs es) (e - 1) v) (sym (none_yet z v))
    ∙ repeats-numbers (walked give vs es) (e - 1) 0 v z
    ∙ ap (λ n. flat_map (λ i. walked give vs es (plus z (times (pos i) v))) (numbers_from 0 n)) count
    ∙ flat_map-same (λ i. walked give vs es (plus z (times (pos i) v))) (λ i. flat_map f (map (λ x. i ∷ x) (points es)))
    (λ i. walked_points give vs es (plus z (times (pos i) v)) p.1 (omega (arith, h)) ∙ sym (flat_map-map f (λ x. i ∷ x) (points es))) (numbers_below e)
    ∙ sym (flat_map-flat_map f (λ i. map (λ x. i ∷ x) (points es)) (numbers_below e))
    ∙ ap (flat_map f) (sym (points-cons e es))

-- ---- a walk by its columns

again_first : (x : ℕ) (z v : List ℤ) → plus (once z v) (times (pos x) v) ≡ plus z (times (pos (suc x)) v)
again_first x [] v = refl
again_first x (y ∷ z) [] = refl
again_first x (y ∷ z) (c ∷ v) =
    let first : (y +ℤ pos 1 *ℤ c) +ℤ pos x *ℤ c ≡ y +ℤ pos (suc x) *ℤ c = omega (arith, ints, one-is c, one-more x c) in
    ap (λ w. w ∷ plus (once z v) (times (pos x) v)) first ∙ ap (λ zs. (y +ℤ pos (suc x) *ℤ c) ∷ zs) (again_first x z v)

times_one : (v : List ℤ) → times (pos 1) v ≡ v
times_one [] = refl
times_one (c ∷ v) = ap (λ w. w ∷ times (pos 1) v) (one-is c) ∙ ap (λ w. c ∷ w) (times_one v)

some_left : (y : ℕ) → (suc y == 0) ≡ false
some_left y = false_from_ne_true (suc y == 0) (λ e. absurd (omega (arith, eqb-true (suc y) 0 e)))

module _ (array : List ℕ) (entries : AllByRecursion IsEntry array) where
  abbrev Fitting : List ℤ → Type 0
  Fitting v = length v ≡ length array

  -- a column that has additions left
  stepped_more : (v : List ℤ) (e y : ℕ) (others : List Column) → stepped (column_at array v e (suc y) ∷ others) ≡ column_at array v e y ∷ others
  stepped_more v e y others = let less : suc y - 1 ≡ y = omega arith in rw (some_left y, less) refl

  moved_more : (v z : List ℤ) (e y : ℕ) (others : List Column) → Fitting v → Fitting z → moved (moduli_of array) (column_at array v e (suc y) ∷ others) (residues array z) ≡ residues array (once z v)
  moved_more v z e y others h g =
      rw (some_left y) (residues-plus array z (times (pos 1) v) (drop (length array) (replicate 12 0)) entries g (length-times (pos 1) v ∙ h))

  moved_back : (v z : List ℤ) (e : ℕ) (others : List Column) → Fitting v → Fitting z
      → moved (moduli_of array) (column_at array v e 0 ∷ others) (residues array z) ≡ moved (moduli_of array) others (residues array (plus z (times (pos 1 -ℤ pos e) v)))
  moved_back v z e others h g =
      ap (moved (moduli_of array) others) (residues-plus array z (times (pos 1 -ℤ pos e) v) (drop (length array) (replicate 12 0)) entries g (length-times (pos 1 -ℤ pos e) v ∙ h))

  -- from a place on, with these columns in front of all others, come these addresses, and then the others have moved
  abbrev Gives : ℕ → (List Column → List Column) → (List ℤ → List ℕ) → Type 0
  Gives n front give = (others : List Column) (left : ℕ) (z : List ℤ) → Fitting z
      → to_come (moduli_of array) (n + left) (front others) (residues array z) ≡ give z ++ to_come (moduli_of array) left (front (stepped others)) (moved (moduli_of array) others (residues array z))

  -- with one more column, which is yet to be added x times
  turns : (n : ℕ) (front : List Column → List Column) (give : List ℤ → List ℕ) → Gives n front give → (v : List ℤ) (e : ℕ) → Fitting v
      → (x : ℕ) (others : List Column) (left : ℕ) (z base : List ℤ) → Fitting z → plus (plus z (times (pos x) v)) (times (pos 1 -ℤ pos e) v) ≡ base
      → to_come (moduli_of array) (suc x * n + left) (front (column_at array v e x ∷ others)) (residues array z)
      ≡ repeats give x v z ++ to_come (moduli_of array) left (front (column_at array v e (e - 1) ∷ stepped others)) (moved (moduli_of array) others (residues array base))
  turns n front give inner v e h zero others left z base g is =
      let ms = moduli_of array in
      let count : suc 0 * n + left ≡ n + left = omega arith in
      let back : plus z (times (pos 1 -ℤ pos e) v) ≡ base = ap (λ w. plus w (times (pos 1 -ℤ pos e) v)) (sym (none_yet z v)) ∙ is in
      ap (λ m. to_come ms m (front (column_at array v e 0 ∷ others)) (residues array z)) count
      ∙ inner (column_at array v e 0 ∷ others) left z g
      ∙ ap (λ p. give z ++ to_come ms left (front (column_at array v e (e - 1) ∷ stepped others)) p) (moved_back v z e others h g ∙ ap (λ w. moved ms others (residues array w)) back)
  turns n front give inner v e h (suc x) others left z base g is =
      let ms = moduli_of array in
      let count : suc (suc x) * n + left ≡ n + (suc x * n + left) = omega arith in
      let rest = suc x * n + left in
      ap (λ m. to_come ms m (front (column_at array v e (suc x) ∷ others)) (residues array z)) count
      ∙ inner (column_at array v e (suc x) ∷ others) rest z g
      ∙ ap (λ cs. give z ++ to_come ms rest (front cs) (moved ms (column_at array v e (suc x) ∷ others) (residues array z))) (stepped_more v e x others)
      ∙ ap (λ p. give z ++ to_come ms rest (front (column_at array v e x ∷ others)) p) (moved_more v z e x others h g)
      ∙ ap (λ ys. give z ++ ys) (turns n front give inner v e h x others left (once z v) base (length-plus z (times (pos 1) v) ∙ g) (ap (λ w. plus w (times (pos 1 -ℤ pos e) v)) (again_first x z v) ∙ is))
      ∙ sym (append_assoc (give z) (repeats give x v (once z v)) (to_come ms left (front (column_at array v e (e - 1) ∷ stepped others)) (moved ms others (residues array base))))

  -- with the columns of a matrix
  gives_all : (n : ℕ) (front : List Column → List Column) (give : List ℤ → List ℕ) → Gives n front give
      → (vs : List (List ℤ)) (es : List ℕ) → AllByRecursion Fitting vs → AllByRecursion IsEntry es → length vs ≡ length es
      → Gives (size es * n) (λ others. front (columns_on array vs es others)) (walked give vs es)
  gives_all n front give inner [] [] f p h others left z g =
      let count : size [] * n + left ≡ n + left = omega arith in
      ap (λ m. to_come (moduli_of array) m (front others) (residues array z)) count ∙ inner others left z g
  gives_all n front give inner [] (e ∷ es) f p h others left z g = absurd (omega (arith, h))
  gives_all n front give inner (v ∷ vs) [] f p h others left z g = absurd (omega (arith, h))
  gives_all n front give inner (v ∷ vs) (e ∷ es) f p h others left z g =
      let one_less : suc (e - 1) ≡ e = omega (arith, p.0.0) in
      let count : (e * size es) * n + left ≡ e * (size es * n) + left = omega arith in
      let within = gives_all n front give inner vs es f.1 p.1 (omega (arith, h)) in
      let back : plus (plus z (times (pos (e - 1)) v)) (times (pos 1 -ℤ pos e) v) ≡ z =
      ap (λ k. plus (plus z (times (pos (e - 1)) v)) (times (pos 1 -ℤ pos k) v)) (sym one_less) ∙ back_again (e - 1) z v in
      ap (λ m. to_come (moduli_of array) m (front (columns_on array vs es (column_at array v e (e - 1) ∷ others))) (residues array z)) (count ∙ ap (λ k. k * (size es * n) + left) (sym one_less))
      ∙ turns (size es * n) (λ cs. front (columns_on array vs es cs)) (walked give vs es) within v e f.0 (e - 1) others left z z g back

  one : List ℤ → List ℕ
  one z = rank array (wrapped_point z array) ∷ []

  gives_one : Gives 1 (λ others. others) one
  unfolding one
  gives_one others left z g =
      let next : 1 + left ≡ suc left = omega arith in
      ap (λ m. to_come (moduli_of array) m others (residues array z)) next
      ∙ ap (λ a. a ∷ to_come (moduli_of array) left (stepped others) (moved (moduli_of array) others (residues array z))) (residues_rank array z)

  one-map : (place_of : List ℕ → List ℤ) (ps : List (List ℕ)) → flat_map (λ i. one (place_of i)) ps ≡ map (λ i. rank array (wrapped_point (place_of i) array)) ps
  unfolding one
  one-map place_of ps = flat_map_single (λ i. rank array (wrapped_point (place_of i) array)) ps

  -- all pairs of a repetition and a pattern element
  pub walk_addresses : (t : TilerOf) (space pattern : List ℕ) (others : List Column) → AllByRecursion IsEntry space → AllByRecursion IsEntry pattern
      → Fitting t.origin → AllByRecursion Fitting t.paving → AllByRecursion Fitting t.fitting → length t.paving ≡ length space → length t.fitting ≡ length pattern
      → to_come (moduli_of array) (size space * size pattern) (columns_on array t.fitting pattern (columns_on array t.paving space others)) (residues array (times (pos 1) t.origin)) ≡ addresses t array space pattern
  walk_addresses t space pattern others p q o f g h k =
      let count : size space * size pattern ≡ size space * (size pattern * 1) + 0 = omega arith in
      let inner = gives_all 1 (λ cs. cs) one gives_one t.fitting pattern g q k in
      let all = gives_all (size pattern * 1) (λ cs. columns_on array t.fitting pattern cs) (walked one t.fitting pattern) inner t.paving space f p h in
      let at = λ (r i : List ℕ). one (place t r i) in
      ap (λ w. to_come (moduli_of array) (size space * size pattern) (columns_on array t.fitting pattern (columns_on array t.paving space others)) (residues array w)) (times_one t.origin)
      ∙ ap (λ m. to_come (moduli_of array) m (columns_on array t.fitting pattern (columns_on array t.paving space others)) (residues array t.origin)) count
      ∙ all others 0 t.origin o
      ∙ append-nil (walked (walked one t.fitting pattern) t.paving space t.origin)
      ∙ walked_points (walked one t.fitting pattern) t.paving space t.origin p h
      ∙ flat_map-same (λ r. walked one t.fitting pattern (plus_columns t.origin t.paving (integers r))) (λ r. map (address t array r) (points pattern))
      (λ r. walked_points one t.fitting pattern (plus_columns t.origin t.paving (integers r)) q k ∙ one-map (λ i. place t r i) (points pattern)) (points space)
