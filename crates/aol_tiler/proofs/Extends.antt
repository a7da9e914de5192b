-- Columns pushed one after another, and the first entry of all that is out of range.
use Rattle.std.proofs.Common.{◌≡◌, ℕ, ◌+◌, ◌≤◌, ℤ, pos, List, [], ◌∷◌, ◌++◌, length, Result, Ok, Err, Option, Some, None, refl, sym, ◌∙◌, ap, subst, arith, append_assoc, length-append, append-nil, add-zero, add_assoc, cond, take, replicate, suc, ◌+ℤ◌}
use Rattle.std.specs.List.{AllByRecursion}
use Rattle.std.proofs.lemmas.List.{take-replicate}
use Rattle.std.proofs.lemmas.List.Concat.{flat_map-append}
use Rattle.std.proofs.lemmas.Int.{ints, to_z_pos}
use mir.Val.{to_z}
use mir.Syntax.{w32}
use Rattle.aol_shape.specs.Shape.{IsEntry}
use Rattle.std.specs.Prelude.{nat_abs, nat_le, Bool, true, false}
use Rattle.aol_shape.specs.Vectors.{IsVector, IsVectorEntry, times, plus_columns, max_entry}
use Rattle.aol_tiler.specs.declared.tiler.TilerRefused.{TilerRefused}
use Rattle.aol_tiler.specs.declared.tiler.TilerRefused.TheVariants.{Entry, NoMemory}
use Rattle.aol_tiler.specs.Matrices.{TilerOf}
use Rattle.aol_tiler.specs.Tiler.{flat, first_out_of, first_entry_out, zero_like, scaled}
use Rattle.aol_tiler.specs.Makers.{Makes, MakesVector, Extends}

-- what holds of the first out of range, by whether an entry is in range
out_by-some : (b : Bool) (x y s : Option ℕ) (p : ℕ) → (x ≡ Some p → y ≡ Some p) → cond b x s ≡ Some p → cond b y s ≡ Some p
out_by-some true x y s p f h = f h
out_by-some false x y s p f h = h

out_by-none : (b : Bool) (x y w : Option ℕ) (k : ℕ) → (x ≡ None → y ≡ w) → cond b x (Some k) ≡ None → cond b y (Some k) ≡ w
out_by-none true x y w k f h = f h
out_by-none false x y w k f h = cc

-- an entry out of range in the first part is the first of both
pub first_out_of-left : (k p : ℕ) (zs ys : List ℤ) → first_out_of k zs ≡ Some p → first_out_of k (zs ++ ys) ≡ Some p
first_out_of-left k p [] ys h = cc
first_out_of-left k p (z ∷ zs) ys h =
    out_by-some (nat_le (nat_abs z) max_entry) (first_out_of (k + 1) zs) (first_out_of (k + 1) (zs ++ ys)) (Some k) p (first_out_of-left (k + 1) p zs ys) h

-- where there is none, it is the first of the second part
pub first_out_of-right : (k : ℕ) (zs ys : List ℤ) → first_out_of k zs ≡ None → first_out_of k (zs ++ ys) ≡ first_out_of (k + length zs) ys
first_out_of-right k [] ys h = ap (λ j. first_out_of j ys) (sym (add-zero k))
first_out_of-right k (z ∷ zs) ys h =
    out_by-none (nat_le (nat_abs z) max_entry) (first_out_of (k + 1) zs) (first_out_of (k + 1) (zs ++ ys)) (first_out_of (k + length (z ∷ zs)) ys) k
    (λ e. first_out_of-right (k + 1) zs ys e ∙ ap (λ j. first_out_of j ys) (omega arith)) h

flat-append : (xs ys : List (List ℤ)) → flat (xs ++ ys) ≡ flat xs ++ flat ys
flat-append xs ys = flat_map-append (λ c. c) xs ys

all-append : (xs ys : List (List ℤ)) → AllByRecursion IsVector xs → AllByRecursion IsVector ys → AllByRecursion IsVector (xs ++ ys)
all-append [] ys h k = k
all-append (a ∷ xs) ys h k = (h.0, all-append xs ys h.1 k)

-- nothing pushed
pub extends_none : (old : List (List ℤ)) (place : ℕ) → Extends (Ok place) old old place []
extends_none old place = (sym (append-nil old), sym (add-zero place), omega arith, refl, tt)

-- one vector pushed
pub extends_one : (old new : List (List ℤ)) (place next : ℕ) (v made : List ℤ) → MakesVector place (Ok v) made → new ≡ old ++ v ∷ [] → next ≡ place + length made → Extends (Ok next) old new place (made ∷ [])
extends_one old new place next v made m e f = (
  e ∙ ap (λ w. old ++ w ∷ []) m.0,
  f ∙ ap (λ w. place + length w) (sym (append-nil made)),
  omega (arith, f, m.2.rank),
  ap (first_out_of place) (append-nil made) ∙ m.1,
  (m.2, tt),
)

pub extends_out : (old new : List (List ℤ)) (place p : ℕ) (made : List ℤ) → first_out_of place made ≡ Some p → Extends (Err (Entry p)) old new place (made ∷ [])
extends_out old new place p made h = ap (first_out_of place) (append-nil made) ∙ h

-- what is out of range in the columns pushed first is the first of all
pub extends_stops : (old new : List (List ℤ)) (place : ℕ) (xs ys : List (List ℤ)) (e : TilerRefused) → Extends (Err e) old new place xs → Extends (Err e) old new place (xs ++ ys)
extends_stops old new place xs ys (Entry p) h = ap (first_out_of place) (flat-append xs ys) ∙ first_out_of-left place p (flat xs) (flat ys) h
extends_stops old new place xs ys NoMemory h = tt

first_of_both : (place next : ℕ) (xs ys : List (List ℤ)) → next ≡ place + length (flat xs) → first_out_of place (flat xs) ≡ None → first_out_of place (flat (xs ++ ys)) ≡ first_out_of next (flat ys)
first_of_both place next xs ys e n =
    ap (first_out_of place) (flat-append xs ys) ∙ first_out_of-right place (flat xs) (flat ys) n ∙ ap (λ j. first_out_of j (flat ys)) (sym e)

-- one push after another
pub extends_then : (old mid new : List (List ℤ)) (place next : ℕ) (xs ys : List (List ℤ)) (r : Result ℕ TilerRefused) → Extends (Ok next) old mid place xs → Extends r mid new next ys → Extends r old new place (xs ++ ys)
extends_then old mid new place next xs ys (Ok last) h k = (
  k.0 ∙ ap (λ m. m ++ ys) h.0 ∙ append_assoc old xs ys,
  k.1 ∙ ap (λ j. j + length (flat ys)) h.1 ∙ add_assoc place (length (flat xs)) (length (flat ys)) ∙ ap (λ j. place + j) (sym (length-append (flat xs) (flat ys)) ∙ ap (length {A = ℤ}) (sym (flat-append xs ys))),
  omega (arith, h.2, k.2, length-append xs ys),
  first_of_both place next xs ys h.1 h.3 ∙ k.3,
  all-append xs ys h.4 k.4,
)
extends_then old mid new place next xs ys (Err (Entry p)) h k = first_of_both place next xs ys h.1 h.3 ∙ k
extends_then old mid new place next xs ys (Err NoMemory) h k = tt

-- the parts of a tiler that is made: origin, paving and fitting
module _ (o made : List ℤ) (place : ℕ) (is : place ≡ length made) (origin : MakesVector 0 (Ok o) made) where
  behind_origin : (zs : List ℤ) → first_out_of 0 (made ++ zs) ≡ first_out_of place zs
  behind_origin zs = first_out_of-right 0 made zs origin.1 ∙ ap (λ j. first_out_of j zs) (omega (arith, is))

  pub paving_stops : (old new P F : List (List ℤ)) (e : TilerRefused) → Extends (Err e) old new place P → Makes (Err e) (record { origin = made; paving = P; fitting = F })
  paving_stops old new P F (Entry p) h = first_out_of-left 0 p (made ++ flat P) (flat F) (behind_origin (flat P) ∙ h)
  paving_stops old new P F NoMemory h = tt

  module _ (start paving P F : List (List ℤ)) (next : ℕ) (empty : start ≡ []) (made_paving : Extends (Ok next) start paving place P) where
    behind_paving : first_entry_out (record { origin = made; paving = P; fitting = F }) ≡ first_out_of next (flat F)
    behind_paving =
        first_out_of-right 0 (made ++ flat P) (flat F) (behind_origin (flat P) ∙ made_paving.3)
        ∙ ap (λ j. first_out_of j (flat F)) (omega (arith, length-append made (flat P), made_paving.1, is))

    -- no part has an entry out of range
    pub made_whole : (old fitting : List (List ℤ)) (last : ℕ) → old ≡ [] → Extends (Ok last) old fitting next F → length P ≤ 12 → length F ≤ 12
        → Makes (Ok (record { origin = o; paving = paving; fitting = fitting })) (record { origin = made; paving = P; fitting = F })
    made_whole old fitting last none h few less = (
      same_tiler origin.0 (made_paving.0 ∙ ap (λ m. m ++ P) empty) (h.0 ∙ ap (λ m. m ++ F) none),
      behind_paving ∙ h.3,
      record { origin = origin.2; paving = few; fitting = less; in_paving = made_paving.4; in_fitting = h.4 },
    )
      where
        same_tiler : {a b : List ℤ} {c d e f : List (List ℤ)} → a ≡ b → c ≡ d → e ≡ f → ◌≡◌ {A = TilerOf} (record { origin = a; paving = c; fitting = e }) (record { origin = b; paving = d; fitting = f })
        same_tiler p q r = cc

    pub fitting_stops : (old new : List (List ℤ)) (e : TilerRefused) → Extends (Err e) old new next F → Makes (Err e) (record { origin = made; paving = P; fitting = F })
    fitting_stops old new (Entry p) h = behind_paving ∙ h
    fitting_stops old new NoMemory h = tt

pub origin_stops : (made : List ℤ) (P F : List (List ℤ)) (e : TilerRefused) → MakesVector 0 (Err e) made → Makes (Err e) (record { origin = made; paving = P; fitting = F })
origin_stops made P F (Entry p) h = first_out_of-left 0 p (made ++ flat P) (flat F) (first_out_of-left 0 p made (flat P) h)
origin_stops made P F NoMemory h = tt

-- ---- vectors of zeros

zero_like-replicate : (v : List ℤ) → zero_like v ≡ replicate (length v) (pos 0)
zero_like-replicate [] = refl
zero_like-replicate (z ∷ v) = ap (λ w. pos 0 ∷ w) (zero_like-replicate v)

pub zeros_taken : (v : List ℤ) → length v ≤ 12 → take (length v) (replicate 12 (pos 0)) ≡ zero_like v
zeros_taken v h = take-replicate (length v) 12 (pos 0) h ∙ sym (zero_like-replicate v)

pub length-zero_like : (v : List ℤ) → length (zero_like v) ≡ length v
length-zero_like [] = refl
length-zero_like (z ∷ v) = ap suc (length-zero_like v)

pub IsVector-zero_like : (v : List ℤ) → length v ≤ 12 → IsVector (zero_like v)
IsVector-zero_like v h = record { rank = omega (arith, h, length-zero_like v); entry = zero_entries v }
  where
    zero_entries : (w : List ℤ) → AllByRecursion IsVectorEntry (zero_like w)
    zero_entries [] = tt
    zero_entries (z ∷ w) = (omega arith, zero_entries w)

-- a multiple of one column, xs a sum
pub plus_columns-one : (k : ℤ) (v : List ℤ) → plus_columns (zero_like v) (v ∷ []) (k ∷ []) ≡ times k v
plus_columns-one k [] = refl
plus_columns-one k (z ∷ v) = grind (arith, zero_plus, plus_columns-one k v)
  where
    zero_plus : (x : ℤ) → pos 0 +ℤ x ≡ x
    zero_plus x = omega (arith, ints)

-- the next column times its factor, as the sum that is made of it
pub scaled_more : (cs rest : List (List ℤ)) (ns ms : List ℕ) (v a : List ℤ) (n : ℕ) → cs ≡ v ∷ rest → ns ≡ n ∷ ms → a ≡ v → length v ≤ 12 → AllByRecursion IsEntry ns
    → scaled cs ns ≡ plus_columns (take (length a) (replicate 12 (pos 0))) (take 1 cs) (to_z w32 n ∷ []) ∷ scaled rest ms
scaled_more cs rest ns ms v a n e f g short small =
    let entry : IsEntry n = (subst (AllByRecursion IsEntry) f small).0 in
    let zeros : take (length a) (replicate 12 (pos 0)) ≡ zero_like v = ap (λ w. take (length w) (replicate 12 (pos 0))) g ∙ zeros_taken v short in
    let sum : plus_columns (take (length a) (replicate 12 (pos 0))) (take 1 cs) (to_z w32 n ∷ []) ≡ times (pos n) v =
    rw (zeros, e, to_z_pos w32 n (omega (arith, entry.1))) (plus_columns-one (pos n) v) in
    ap (λ xs. scaled xs ns) e ∙ ap (scaled (v ∷ rest)) f ∙ ap (λ w. w ∷ scaled rest ms) (sym sum)

pub length_scaled : (cs : List (List ℤ)) (ns : List ℕ) → length (scaled cs ns) ≡ length cs
length_scaled [] ns = refl
length_scaled (c ∷ cs) [] = refl
length_scaled (c ∷ cs) (n ∷ ns) = ap suc (length_scaled cs ns)
