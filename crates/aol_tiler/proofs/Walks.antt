-- A walk's moduli, place and columns stay within the limits, and what they are step by step.
use Rattle.std.proofs.Common.{◌≡◌, ℕ, zero, suc, ◌+◌, ◌-◌, ◌*◌, ◌^◌, ◌<◌, ◌≤◌, ◌==◌, ℤ, ◌*ℤ◌, List, [], ◌∷◌, ◌++◌, length, take, drop, sum, Bool, true, false, refl, sym, ◌∙◌, ap, arith, ◌⊎◌, inl, inr, length-append}
use Rattle.std.specs.List.{AllByRecursion}
use Rattle.std.specs.Prelude.{if◌then◌else◌}
use Rattle.std.proofs.lemmas.Bool.{cases_lt, eqb-true, eq-eqb, false_from_ne_true}
use Rattle.std.proofs.lemmas.List.Sums.{sum_by-cons}
use Rattle.aol_shape.specs.Shape.{size, max_points}
use Rattle.aol_shape.specs.Vectors.{times, wrapped}
use Rattle.aol_tiler.specs.declared.walker.Column.{Column}
use Rattle.aol_tiler.specs.Walk.{added, plus_within, stepped, moved, to_come, AreWithin, IsColumn, IsWalk, moduli_of, residues, column_at, columns_on}
use Rattle.aol_tiler.proofs.Residues.{added_over, added_under}

-- ---- adding a step

pub plus_none : (p ms v : List ℕ) → p ≡ [] → p ≡ plus_within p ms v
plus_none p ms v e = rw e refl

pub plus_none_moduli : (p p' ms v : List ℕ) (x : ℕ) → p ≡ x ∷ p' → ms ≡ [] → p ≡ plus_within p ms v
plus_none_moduli p p' ms v x e f = rw (e, f) refl

pub plus_none_step : (p p' ms ms' v : List ℕ) (x m : ℕ) → p ≡ x ∷ p' → ms ≡ m ∷ ms' → v ≡ [] → p ≡ plus_within p ms v
plus_none_step p p' ms ms' v x m e f g = rw (e, f, g) refl

pub plus_more : (p p' ms ms' v v' new q : List ℕ) (x m y s : ℕ) → p ≡ x ∷ p' → ms ≡ m ∷ ms' → v ≡ y ∷ v' → new ≡ s ∷ q → s ≡ added x y m → q ≡ plus_within p' ms' v' → new ≡ plus_within p ms v
plus_more p p' ms ms' v v' new q x m y s e f g h k l = rw (e, f, g) (h ∙ ap (λ z. z ∷ q) k ∙ ap (λ z. added x y m ∷ z) l)

added-within : (x y m : ℕ) → x ≤ m → y ≤ m → added x y m ≤ m
added-within x y m h k = by_case (cases_lt (x + y) m)
  where
    by_case : (x + y < m) ⊎ (m ≤ x + y) → added x y m ≤ m
    by_case (inl under) = omega (arith, added_under x y m under, under)
    by_case (inr over) = omega (arith, added_over x y m over, over, h, k)

plus-within : (p ms v : List ℕ) → AreWithin p ms → AreWithin v ms → AreWithin (plus_within p ms v) ms
plus-within [] ms v h k = tt
plus-within (x ∷ p) [] v h k = tt
plus-within (x ∷ p) (m ∷ ms) [] h k = h
plus-within (x ∷ p) (m ∷ ms) (y ∷ v) h k = (added-within x y m h.0 k.0, plus-within p ms v h.1 k.1)

length-plus_within : (p ms v : List ℕ) → length (plus_within p ms v) ≡ length p
length-plus_within [] ms v = refl
length-plus_within (x ∷ p) [] v = refl
length-plus_within (x ∷ p) (m ∷ ms) [] = refl
length-plus_within (x ∷ p) (m ∷ ms) (y ∷ v) = ap suc (length-plus_within p ms v)

-- ---- one pair further

pub walk_step : (ms p : List ℕ) (c : Column) (cs : List Column) → IsWalk ms p (c ∷ cs) → IsWalk ms (plus_within p ms c.step) cs
walk_step ms p c cs w = record { rank = w.rank; same = length-plus_within p ms c.step ∙ w.same; small = w.small; place = plus-within p ms c.step w.place w.columns.0.step; columns = w.columns.1 }

pub walk_back : (ms p : List ℕ) (c : Column) (cs : List Column) → IsWalk ms p (c ∷ cs) → IsWalk ms (plus_within p ms c.back) cs
walk_back ms p c cs w = record { rank = w.rank; same = length-plus_within p ms c.back ∙ w.same; small = w.small; place = plus-within p ms c.back w.place w.columns.0.back; columns = w.columns.1 }

moved-ok : (ms p : List ℕ) (cs : List Column) → IsWalk ms p cs → AreWithin (moved ms cs p) ms × (length (moved ms cs p) ≡ length ms)
moved-ok ms p [] w = (w.place, w.same)
moved-ok ms p (c ∷ cs) w = by_left (c.left == 0) (moved ms cs (plus_within p ms c.back)) (moved-ok ms (plus_within p ms c.back) cs (walk_back ms p c cs w))
  where
    by_left : (b : Bool) (q : List ℕ) → AreWithin q ms × (length q ≡ length ms)
        → AreWithin (if b then q else plus_within p ms c.step) ms × (length (if b then q else plus_within p ms c.step) ≡ length ms)
    by_left true q h = h
    by_left false q h = let on = walk_step ms p c cs w in (on.place, on.same)

stepped-ok : (ms : List ℕ) (cs : List Column) → AllByRecursion (IsColumn ms) cs → AllByRecursion (IsColumn ms) (stepped cs)
stepped-ok ms [] h = tt
stepped-ok ms (c ∷ cs) h = by_left (c.left == 0) (stepped cs) (stepped-ok ms cs h.1)
  where
    by_left : (b : Bool) (ds : List Column) → AllByRecursion (IsColumn ms) ds
        → AllByRecursion (IsColumn ms) (if b then record c { left = c.last } ∷ ds else record c { left = c.left - 1 } ∷ cs)
    by_left true ds k = (record { step = h.0.step; back = h.0.back }, k)
    by_left false ds k = (record { step = h.0.step; back = h.0.back }, h.1)

pub walk_on : (ms p : List ℕ) (cs : List Column) → IsWalk ms p cs → IsWalk ms (moved ms cs p) (stepped cs)
walk_on ms p cs w = let on = moved-ok ms p cs w in record { rank = w.rank; same = on.1; small = w.small; place = on.0; columns = stepped-ok ms cs w.columns }

pub stepped_none : (cs : List Column) → cs ≡ [] → cs ≡ stepped cs
stepped_none cs e = rw e refl

pub moved_none : (ms p : List ℕ) (cs : List Column) → cs ≡ [] → p ≡ moved ms cs p
moved_none ms p cs e = rw e refl

-- what the code leaves, where the first column has additions left and where it has none
pub advanced_one : (ms p p' : List ℕ) (cs cs' new : List Column) (c d : Column) → cs ≡ c ∷ cs' → 0 < c.left → d ≡ record c { left = c.left - 1 } → new ≡ d ∷ cs' → p' ≡ plus_within p ms c.step
    → (new ≡ stepped cs) × (p' ≡ moved ms cs p)
advanced_one ms p p' cs cs' new c d e h f g k =
    let not : (c.left == 0) ≡ false = false_from_ne_true (c.left == 0) (λ t. absurd (omega (arith, h, eqb-true c.left 0 t))) in
    rw (e, not) (g ∙ ap (λ z. z ∷ cs') f, k)

pub advanced_more : (ms p p' q : List ℕ) (cs cs' ds new : List Column) (c d : Column) → cs ≡ c ∷ cs' → c.left ≡ 0 → d ≡ record c { left = c.last } → new ≡ d ∷ ds → q ≡ plus_within p ms c.back → ds ≡ stepped cs' → p' ≡ moved ms cs' q
    → (new ≡ stepped cs) × (p' ≡ moved ms cs p)
advanced_more ms p p' q cs cs' ds new c d e h f g k l m =
    let none : (c.left == 0) ≡ true = eq-eqb c.left 0 h in
    rw (e, none) (g ∙ ap (λ z. z ∷ ds) f ∙ ap (λ z. record c { left = c.last } ∷ z) l, m ∙ ap (moved ms cs') k)

pub to_come_next : (ms p : List ℕ) (cs : List Column) (left : ℕ) → 0 < left → to_come ms left cs p ≡ sum p ∷ to_come ms (left - 1) (stepped cs) (moved ms cs p)
to_come_next ms p cs zero h = absurd (omega (arith, h))
to_come_next ms p cs (suc left) h = let e : left ≡ suc left - 1 = omega arith in ap (λ l. sum p ∷ to_come ms l (stepped cs) (moved ms cs p)) e

sum-small : (ms p : List ℕ) → length p ≡ length ms → AllByRecursion (λ m. m ≤ max_points) ms → AreWithin p ms → sum p ≤ length ms * 4194304
sum-small [] [] e h k = omega arith
sum-small (m ∷ ms) [] e h k = omega arith
sum-small [] (x ∷ p) e h k = absurd (omega (arith, e))
sum-small (m ∷ ms) (x ∷ p) e h k = omega (arith, sum_by-cons (λ r. r) x p, sum-small ms p (omega (arith, e)) h.1 k.1, h.0, k.0)

pub sum_small : (ms p : List ℕ) (cs : List Column) → IsWalk ms p cs → sum p < 2 ^ 32
sum_small ms p cs w = omega (arith, sum-small ms p w.same w.small w.place, w.rank)

-- ---- what `start` writes

pub moduli_none : (array old : List ℕ) → array ≡ [] → old ≡ moduli_of array ++ drop (length array) old
moduli_none array old e = rw e refl

pub moduli_more : (array rest old old' new new' : List ℕ) (n o s : ℕ) → array ≡ n ∷ rest → old ≡ o ∷ old' → new ≡ s ∷ new' → s ≡ n * size rest → new' ≡ moduli_of rest ++ drop (length rest) old' → new ≡ moduli_of array ++ drop (length array) old
moduli_more array rest old old' new new' n o s e f g h k = rw (e, f) (g ∙ ap (λ z. z ∷ new') h ∙ ap (λ z. n * size rest ∷ z) k)

pub residues_none : (array old : List ℕ) (zs : List ℤ) → array ≡ [] → old ≡ residues array zs ++ drop (length array) old
residues_none array old zs e = rw e refl

pub residues_more : (array rest old old' new new' : List ℕ) (v v' : List ℤ) (f z x : ℤ) (n o r s : ℕ) → array ≡ n ∷ rest → v ≡ x ∷ v' → old ≡ o ∷ old' → new ≡ r * s ∷ new' → z ≡ f *ℤ x → r ≡ wrapped z n → s ≡ size rest
    → new' ≡ residues rest (times f v') ++ drop (length rest) old' → new ≡ residues array (times f v) ++ drop (length array) old
residues_more array rest old old' new new' v v' f z x n o r s e g h k l m q t =
    rw (e, g, h) (k ∙ ap (λ y. y * s ∷ new') (m ∙ ap (λ y. wrapped y n) l) ∙ ap (λ y. wrapped (f *ℤ x) n * y ∷ new') q ∙ ap (λ y. wrapped (f *ℤ x) n * size rest ∷ y) t)

pub all_front : {A : Type 0} (P : A → Type 0) (xs : List A) (y : A) → AllByRecursion P (xs ++ y ∷ []) → AllByRecursion P xs × P y
all_front P [] y h = (tt, h.0)
all_front P (x ∷ xs) y h = let f = all_front P xs y h.1 in ((h.0, f.0), f.1)

columns_on-last : (array : List ℕ) (vs : List (List ℤ)) (es : List ℕ) (v : List ℤ) (e : ℕ) (others : List Column) → length vs ≡ length es
    → columns_on array (vs ++ v ∷ []) (es ++ e ∷ []) others ≡ column_at array v e (e - 1) ∷ columns_on array vs es others
columns_on-last array [] [] v e others h = refl
columns_on-last array [] (f ∷ es) v e others h = absurd (omega (arith, h))
columns_on-last array (w ∷ vs) [] v e others h = absurd (omega (arith, h))
columns_on-last array (w ∷ vs) (f ∷ es) v e others h = columns_on-last array vs es v e (column_at array w f (f - 1) ∷ others) (omega (arith, h))

pub columns_none : (array : List ℕ) (vs : List (List ℤ)) (es : List ℕ) (old : List Column) → vs ≡ [] → length vs ≡ length es → old ≡ columns_on array vs es (drop (length es) old)
columns_none array vs [] old e h = rw e refl
columns_none array vs (f ∷ es) old e h = absurd (omega (arith, h, ap (length {A = List ℤ}) e))

pub columns_last : (array : List ℕ) (vs vs' : List (List ℤ)) (es es' : List ℕ) (v : List ℤ) (e : ℕ) (old old' new new' : List Column) (o c : Column)
    → vs ≡ vs' ++ v ∷ [] → es ≡ es' ++ e ∷ [] → length vs ≡ length es → old ≡ o ∷ old' → new ≡ c ∷ new' → c ≡ column_at array v e (e - 1)
    → new' ≡ columns_on array vs' es' (drop (length es') old') → new ≡ columns_on array vs es (drop (length es) old)
columns_last array vs vs' es es' v e old old' new new' o c f g h k l m n =
    let same : length vs' ≡ length es' = omega (arith, h, ap (length {A = List ℤ}) f, ap (length {A = ℕ}) g, length-append vs' (v ∷ []), length-append es' (e ∷ [])) in
    let count : length es ≡ suc (length es') = omega (arith, ap (length {A = ℕ}) g, length-append es' (e ∷ [])) in
    let behind : drop (length es) old ≡ drop (length es') old' = ap (λ j. drop j old) count ∙ ap (drop (suc (length es'))) k in
    l ∙ ap (λ z. z ∷ new') m ∙ ap (λ z. column_at array v e (e - 1) ∷ z) n
    ∙ sym (columns_on-last array vs' es' v e (drop (length es') old') same)
    ∙ ap (λ z. columns_on array z (es' ++ e ∷ []) (drop (length es') old')) (sym f)
    ∙ ap (λ z. columns_on array vs z (drop (length es') old')) (sym g)
    ∙ ap (columns_on array vs es) (sym behind)

-- the front of a list
pub front_is : (n : ℕ) (xs ys zs : List ℕ) → xs ≡ ys ++ zs → length ys ≡ n → take n xs ≡ ys
front_is n xs ys zs e h = ap (take n) e ∙ ap (λ k. take k (ys ++ zs)) (sym h) ∙ fronts ys zs
  where
    fronts : (first rest : List ℕ) → take (length first) (first ++ rest) ≡ first
    fronts [] rest = refl
    fronts (x ∷ first) rest = ap (λ t. x ∷ t) (fronts first rest)

-- the walk that `next` leaves
pub next_walk : (n : ℕ) (moduli place new : List ℕ) (cs more : List Column) → length (take n moduli) ≡ n → IsWalk (take n moduli) (take n place) cs → more ≡ stepped cs
    → new ≡ moved (take n moduli) cs (take (length (take n moduli)) place) ++ drop (length (take n moduli)) place
    → IsWalk (take n moduli) (take n new) more × (take n new ≡ moved (take n moduli) cs (take n place))
next_walk n moduli place new cs more h w e f =
    let ms = take n moduli in
    let same : moved ms cs (take (length ms) place) ≡ moved ms cs (take n place) = ap (λ k. moved ms cs (take k place)) h in
    let front : take n new ≡ moved ms cs (take n place) =
    front_is n new (moved ms cs (take n place)) (drop (length ms) place) (f ∙ ap (λ p. p ++ drop (length ms) place) same) ((moved-ok ms (take n place) cs w).1 ∙ h) in
    (rw (front, e) (walk_on ms (take n place) cs w), front)
