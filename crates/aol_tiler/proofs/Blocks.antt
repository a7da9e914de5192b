-- A tiler in blocks has the addresses of the tiler.
use Rattle.std.proofs.Common.{◌≡◌, ℕ, suc, ◌+◌, ◌*◌, ℤ, pos, ◌+ℤ◌, ◌*ℤ◌, List, [], ◌∷◌, ◌++◌, length, refl, sym, ◌∙◌, ap, arith}
use Rattle.std.proofs.lemmas.Int.{ints}
use Rattle.std.proofs.Math.Nat.{mul_comm}
use Rattle.aol_shape.specs.Shape.{rank}
use Rattle.aol_shape.specs.Vectors.{plus, times, plus_columns, wrapped_point}
use Rattle.aol_tiler.specs.Tiler.{integers, scaled}
use Rattle.aol_tiler.specs.Laws.{inside_block, BlockedAddresses}
use Rattle.aol_tiler.proofs.Products.{sum-times, times-times}

plus_swap : (v a b : List ℤ) → plus (plus v a) b ≡ plus (plus v b) a
plus_swap [] a b = refl
plus_swap (z ∷ v) [] [] = refl
plus_swap (z ∷ v) [] (y ∷ b) = refl
plus_swap (z ∷ v) (x ∷ a) [] = refl
plus_swap (z ∷ v) (x ∷ a) (y ∷ b) =
    let first : (z +ℤ x) +ℤ y ≡ (z +ℤ y) +ℤ x = omega (arith, ints) in
    ap (λ w. w ∷ plus (plus v a) b) first ∙ ap (λ w. ((z +ℤ y) +ℤ x) ∷ w) (plus_swap v a b)

-- a vector may be added before the columns or after them
pub plus_columns-plus : (v w : List ℤ) (cs : List (List ℤ)) (xs : List ℤ) → plus_columns (plus v w) cs xs ≡ plus (plus_columns v cs xs) w
plus_columns-plus v w [] xs = refl
plus_columns-plus v w (c ∷ cs) [] = refl
plus_columns-plus v w (c ∷ cs) (x ∷ xs) = ap (λ u. plus_columns u cs xs) (plus_swap v w (times x c)) ∙ plus_columns-plus (plus v (times x c)) w cs xs

-- one column after another
pub plus_columns-append : (v : List ℤ) (cs ds : List (List ℤ)) (xs ys : List ℤ) → length xs ≡ length cs → plus_columns v (cs ++ ds) (xs ++ ys) ≡ plus_columns (plus_columns v cs xs) ds ys
plus_columns-append v [] ds [] ys h = refl
plus_columns-append v [] ds (x ∷ xs) ys h = absurd (omega (arith, h))
plus_columns-append v (c ∷ cs) ds [] ys h = absurd (omega (arith, h))
plus_columns-append v (c ∷ cs) ds (x ∷ xs) ys h = plus_columns-append (plus v (times x c)) cs ds xs ys (omega (arith, h))

block_column : (x n y : ℕ) (v c : List ℤ) → plus (plus v (times (pos x) (times (pos n) c))) (times (pos y) c) ≡ plus v (times (pos (n * x + y)) c)
block_column x n y [] c = refl
block_column x n y (z ∷ v) [] = refl
block_column x n y (z ∷ v) (w ∷ c) =
    let product : pos x *ℤ (pos n *ℤ w) ≡ pos (x * n) *ℤ w = times-times (pos x) (pos n) w in
    let turned : pos (x * n) *ℤ w ≡ pos (n * x) *ℤ w = ap (λ k. pos k *ℤ w) (mul_comm x n) in
    let sum : pos (n * x + y) *ℤ w ≡ pos (n * x) *ℤ w +ℤ pos y *ℤ w = sum-times (pos (n * x)) (pos y) w in
    let first : (z +ℤ pos x *ℤ (pos n *ℤ w)) +ℤ pos y *ℤ w ≡ z +ℤ pos (n * x + y) *ℤ w = omega (arith, ints, product, turned, sum) in
    ap (λ u. u ∷ plus (plus v (times (pos x) (times (pos n) c))) (times (pos y) c)) first ∙ ap (λ u. (z +ℤ pos (n * x + y) *ℤ w) ∷ u) (block_column x n y v c)

block_columns : (v : List ℤ) (cs : List (List ℤ)) (block r b : List ℕ) → length block ≡ length cs → length r ≡ length cs → length b ≡ length cs
    → plus_columns (plus_columns v (scaled cs block) (integers r)) cs (integers b) ≡ plus_columns v cs (integers (inside_block block r b))
block_columns v [] block r b e f g = refl
block_columns v (c ∷ cs) [] r b e f g = absurd (omega (arith, e))
block_columns v (c ∷ cs) (n ∷ block) [] b e f g = absurd (omega (arith, f))
block_columns v (c ∷ cs) (n ∷ block) (x ∷ r) [] e f g = absurd (omega (arith, g))
block_columns v (c ∷ cs) (n ∷ block) (x ∷ r) (y ∷ b) e f g =
    let u = plus v (times (pos x) (times (pos n) c)) in
    ap (λ w. plus_columns w cs (integers b)) (sym (plus_columns-plus u (times (pos y) c) (scaled cs block) (integers r)))
    ∙ block_columns (plus u (times (pos y) c)) cs block r b (omega (arith, e)) (omega (arith, f)) (omega (arith, g))
    ∙ ap (λ w. plus_columns w cs (integers (inside_block block r b))) (block_column x n y v c)

pub integers-append : (xs ys : List ℕ) → integers (xs ++ ys) ≡ integers xs ++ integers ys
integers-append [] ys = refl
integers-append (x ∷ xs) ys = ap (λ zs. pos x ∷ zs) (integers-append xs ys)

pub length-integers : (xs : List ℕ) → length (integers xs) ≡ length xs
length-integers [] = refl
length-integers (x ∷ xs) = ap suc (length-integers xs)

pub blocked_addresses : BlockedAddresses
blocked_addresses t array block r b i e f g =
    let reference = plus_columns t.origin (scaled t.paving block) (integers r) in
    let same : plus_columns reference (t.paving ++ t.fitting) (integers (b ++ i)) ≡ plus_columns (plus_columns t.origin t.paving (integers (inside_block block r b))) t.fitting (integers i) =
    ap (plus_columns reference (t.paving ++ t.fitting)) (integers-append b i)
    ∙ plus_columns-append reference t.paving t.fitting (integers b) (integers i) (length-integers b ∙ g)
    ∙ ap (λ v. plus_columns v t.fitting (integers i)) (block_columns t.origin t.paving block r b e f g) in
    ap (λ v. rank array (wrapped_point v array)) same
