-- A composed tiler has the addresses of the outer tiler at the points of the inner one.
use Rattle.std.proofs.Common.{◌≡◌, ℕ, suc, ◌==◌, ℤ, pos, ◌+ℤ◌, ◌*ℤ◌, true, List, [], ◌∷◌, ◌++◌, length, map, refl, sym, ◌∙◌, ap, arith}
use Rattle.std.specs.List.{list_all}
use Rattle.std.proofs.lemmas.Bool.{eqb-true}
use Rattle.std.proofs.lemmas.Int.{ints}
use Rattle.std.proofs.Math.IntN.{*ℤ-zero}
use Rattle.aol_shape.specs.Shape.{rank}
use Rattle.aol_shape.specs.Vectors.{plus, times, plus_columns, wrapped_point}
use Rattle.aol_tiler.specs.Matrices.{TilerOf}
use Rattle.aol_tiler.specs.Tiler.{has_entries, integers, place, composed, zero_like}
use Rattle.aol_tiler.specs.Laws.{ComposedAddresses}
use Rattle.aol_tiler.proofs.Addresses.{both, even}
use Rattle.aol_tiler.proofs.Blocks.{plus_columns-plus, plus_columns-append, integers-append, length-integers}
use Rattle.aol_tiler.proofs.Entries.{length-plus, length-plus_columns}
use Rattle.aol_tiler.proofs.Products.{sum-times, times-sum, times-times}

-- the columns of two matrices may be added in either order
plus_columns-swap : (v : List ℤ) (cs ds : List (List ℤ)) (xs ys : List ℤ) → plus_columns (plus_columns v cs xs) ds ys ≡ plus_columns (plus_columns v ds ys) cs xs
plus_columns-swap v [] ds xs ys = refl
plus_columns-swap v (c ∷ cs) ds [] ys = refl
plus_columns-swap v (c ∷ cs) ds (x ∷ xs) ys =
    plus_columns-swap (plus v (times x c)) cs ds xs ys ∙ ap (λ w. plus_columns w cs xs) (plus_columns-plus v (times x c) ds ys)

one_column : (v z c : List ℤ) (x a b : ℤ) → length z ≡ length v → plus (plus v (times a c)) (times x (plus z (times b c))) ≡ plus (plus v (times x z)) (times (a +ℤ x *ℤ b) c)
one_column [] z c x a b h = refl
one_column (y ∷ v) [] c x a b h = absurd (omega (arith, h))
one_column (y ∷ v) (w ∷ z) [] x a b h = refl
one_column (y ∷ v) (w ∷ z) (k ∷ c) x a b h =
    let first : (y +ℤ a *ℤ k) +ℤ x *ℤ (w +ℤ b *ℤ k) ≡ (y +ℤ x *ℤ w) +ℤ (a +ℤ x *ℤ b) *ℤ k =
    omega (arith, ints, times-sum x w (b *ℤ k), times-times x b k, sum-times a (x *ℤ b) k) in
    ap (λ u. u ∷ plus (plus v (times a c)) (times x (plus z (times b c)))) first
    ∙ ap (λ u. ((y +ℤ x *ℤ w) +ℤ (a +ℤ x *ℤ b) *ℤ k) ∷ u) (one_column v z c x a b (omega (arith, h)))

-- a matrix makes of a sum what it makes of the parts
of_sum : (v z : List ℤ) (cs : List (List ℤ)) (w u : List ℤ) (x : ℤ) → length z ≡ length v → length w ≡ length cs → length u ≡ length cs
    → plus (plus_columns v cs w) (times x (plus_columns z cs u)) ≡ plus_columns (plus v (times x z)) cs (plus w (times x u))
of_sum v z [] w u x h f g = refl
of_sum v z (c ∷ cs) [] u x h f g = absurd (omega (arith, f))
of_sum v z (c ∷ cs) (a ∷ w) [] x h f g = absurd (omega (arith, g))
of_sum v z (c ∷ cs) (a ∷ w) (b ∷ u) x h f g =
    of_sum (plus v (times a c)) (plus z (times b c)) cs w u x (length-plus z (times b c) ∙ h ∙ sym (length-plus v (times a c))) (omega (arith, f)) (omega (arith, g))
    ∙ ap (λ y. plus_columns y cs (plus w (times x u))) (one_column v z c x a b h)

plus_nothing : (v o : List ℤ) (x : ℤ) → plus v (times x (zero_like o)) ≡ v
plus_nothing [] o x = refl
plus_nothing (y ∷ v) [] x = refl
plus_nothing (y ∷ v) (z ∷ o) x =
    let first : y +ℤ x *ℤ pos 0 ≡ y = omega (arith, ints, *ℤ-zero x) in
    ap (λ u. u ∷ plus v (times x (zero_like o))) first ∙ ap (λ u. y ∷ u) (plus_nothing v o x)

length-zero_like : (o : List ℤ) → length (zero_like o) ≡ length o
length-zero_like [] = refl
length-zero_like (z ∷ o) = ap suc (length-zero_like o)

-- the columns that a matrix makes of columns, added, are what it makes of their sum
of_columns : (v o : List ℤ) (fs cs : List (List ℤ)) (w xs : List ℤ) → length o ≡ length v → length w ≡ length fs → list_all (λ c. length c == length fs) cs ≡ true
    → plus_columns (plus_columns v fs w) (map (plus_columns (zero_like o) fs) cs) xs ≡ plus_columns v fs (plus_columns w cs xs)
of_columns v o fs [] w xs h f g = refl
of_columns v o fs (c ∷ cs) w [] h f g = refl
of_columns v o fs (c ∷ cs) w (x ∷ xs) h f g =
    let parts = both (length c == length fs) (list_all (λ d. length d == length fs) cs) g in
    let made = map (plus_columns (zero_like o) fs) cs in
    ap (λ u. plus_columns u made xs) (of_sum v (zero_like o) fs w c x (length-zero_like o ∙ h) f (eqb-true (length c) (length fs) parts.0))
    ∙ ap (λ u. plus_columns (plus_columns u fs (plus w (times x c))) made xs) (plus_nothing v o x)
    ∙ of_columns v o fs cs (plus w (times x c)) xs h (length-plus w (times x c) ∙ f) parts.1

composed_place : (outer inner : TilerOf) (r s i : List ℕ) → has_entries inner (length outer.fitting) ≡ true → length r ≡ length outer.paving
    → place (composed outer inner) (r ++ s) i ≡ plus_columns (plus_columns outer.origin outer.paving (integers r)) outer.fitting (place inner s i)
composed_place outer inner r s i h e =
    let make = plus_columns (zero_like outer.origin) outer.fitting in
    let start = plus_columns outer.origin outer.fitting inner.origin in
    let reference = plus_columns outer.origin outer.paving (integers r) in
    let parts = even inner (length outer.fitting) h in
    let same : length outer.origin ≡ length reference = sym (length-plus_columns outer.origin outer.paving (integers r)) in
    let first : plus_columns start (outer.paving ++ map make inner.paving) (integers (r ++ s)) ≡ plus_columns reference outer.fitting (plus_columns inner.origin inner.paving (integers s)) =
    ap (plus_columns start (outer.paving ++ map make inner.paving)) (integers-append r s)
    ∙ plus_columns-append start outer.paving (map make inner.paving) (integers r) (integers s) (length-integers r ∙ e)
    ∙ ap (λ v. plus_columns v (map make inner.paving) (integers s)) (plus_columns-swap outer.origin outer.fitting outer.paving inner.origin (integers r))
    ∙ of_columns reference outer.origin outer.fitting inner.paving inner.origin (integers s) same parts.origin parts.paving in
    ap (λ v. plus_columns v (map make inner.fitting) (integers i)) first
    ∙ of_columns reference outer.origin outer.fitting inner.fitting (plus_columns inner.origin inner.paving (integers s)) (integers i) same
    (length-plus_columns inner.origin inner.paving (integers s) ∙ parts.origin) parts.fitting

pub composed_addresses : ComposedAddresses
composed_addresses outer inner array r s i j h e p =
    let reference = plus_columns outer.origin outer.paving (integers r) in
    ap (λ v. rank array (wrapped_point v array)) (composed_place outer inner r s i h e ∙ ap (plus_columns reference outer.fitting) (sym p))
