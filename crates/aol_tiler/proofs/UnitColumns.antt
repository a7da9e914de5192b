-- Unit vectors, and the tiler over two shapes joined.
use Rattle.std.proofs.Common.{◌≡◌, ℕ, zero, suc, ◌+◌, ◌≤◌, ℤ, pos, List, [], ◌∷◌, ◌++◌, length, take, replicate, None, refl, sym, ◌∙◌, ap, subst, arith, append_assoc, length-append, Result, Ok, Err}
use Rattle.std.specs.Prelude.{IfOk}
use Rattle.std.specs.List.{AllByRecursion}
use Rattle.std.proofs.Math.ListN.{set}
use Rattle.std.proofs.lemmas.List.{take-replicate, replicate-append-replicate, length-replicate}
use Rattle.aol_shape.specs.Vectors.{IsVector, IsVectorEntry, zeros}
use Rattle.aol_tiler.specs.Matrices.{TilerOf}
use Rattle.aol_tiler.specs.Tiler.{IsTiler, flat, first_out_of, first_entry_out, unit_columns, inner_of}
use Rattle.aol_tiler.proofs.Narrowed.{first_out_of-in}

abbrev noughts : ℕ → List ℤ
noughts n = replicate n (pos 0)

zeros-noughts : (s : List ℕ) → zeros s ≡ noughts (length s)
zeros-noughts [] = refl
zeros-noughts (n ∷ s) = ap (λ z. pos 0 ∷ z) (zeros-noughts s)

small-append : (xs ys : List ℤ) → AllByRecursion IsVectorEntry xs → AllByRecursion IsVectorEntry ys → AllByRecursion IsVectorEntry (xs ++ ys)
small-append [] ys h k = k
small-append (x ∷ xs) ys h k = (h.0, small-append xs ys h.1 k)

small-noughts : (n : ℕ) → AllByRecursion IsVectorEntry (noughts n)
small-noughts zero = tt
small-noughts (suc n) = (omega arith, small-noughts n)

-- zeros with a one among them
unit_taken : (b k n : ℕ) → b + suc k ≤ n → take (b + suc k) (set (noughts n) b (pos 1)) ≡ noughts b ++ pos 1 ∷ noughts k
unit_taken b k zero h = absurd (omega (arith, h))
unit_taken zero k (suc n) h =
    let e : 0 + suc k ≡ suc k = omega arith in
    ap (λ j. take j (pos 1 ∷ noughts n)) e ∙ ap (λ z. pos 1 ∷ z) (take-replicate k n (pos 0) (omega (arith, h)))
unit_taken (suc b) k (suc n) h =
    let e : suc b + suc k ≡ suc (b + suc k) = omega arith in
    ap (λ j. take j (pos 0 ∷ set (noughts n) b (pos 1))) e ∙ ap (λ z. pos 0 ∷ z) (unit_taken b k n (omega (arith, h)))

pub unit_vector : (b k n : ℕ) → b + suc k ≤ n → n ≤ 12 → IsVector (take (b + suc k) (set (noughts n) b (pos 1)))
unit_vector b k n h few = rw (unit_taken b k n h) record {
  rank = omega (arith, h, few, length-append (noughts b) (pos 1 ∷ noughts k), length-replicate b (pos 0), length-replicate k (pos 0));
  entry = small-append (noughts b) (pos 1 ∷ noughts k) (small-noughts b) (omega arith, small-noughts k);
}

-- the unit vector of the first of these dimensions
pub unit_is : (ds rest : List ℕ) (d b a : ℕ) → ds ≡ d ∷ rest → b + length ds + a ≤ 12 → take (b + length ds + a) (set (replicate 12 (pos 0)) b (pos 1)) ≡ noughts b ++ pos 1 ∷ zeros rest ++ noughts a
unit_is ds rest d b a e h =
    let n : b + length ds + a ≡ b + suc (length rest + a) = omega (arith, ap length e) in
    ap (λ j. take j (set (replicate 12 (pos 0)) b (pos 1))) n
    ∙ unit_taken b (length rest + a) 12 (omega (arith, h, n))
    ∙ ap (λ z. noughts b ++ pos 1 ∷ z) (sym (replicate-append-replicate (length rest) a (pos 0)) ∙ ap (λ z. z ++ noughts a) (sym (zeros-noughts rest)))
    ∙ sym (append_assoc (noughts b) (pos 1 ∷ zeros rest) (noughts a))

pub unit_good : (ds rest : List ℕ) (d b a : ℕ) → ds ≡ d ∷ rest → b + length ds + a ≤ 12 → IsVector (take (b + length ds + a) (set (replicate 12 (pos 0)) b (pos 1)))
unit_good ds rest d b a e h =
    let n : b + length ds + a ≡ b + suc (length rest + a) = omega (arith, ap length e) in
    subst (λ j. IsVector (take j (set (replicate 12 (pos 0)) b (pos 1)))) (sym n) (unit_vector b (length rest + a) 12 (omega (arith, h, n)) (omega arith))

-- one unit vector and then the others
pub units_more : (ds rest : List ℕ) (d b a : ℕ) (old mid new : List (List ℤ)) (v : List ℤ) → ds ≡ d ∷ rest → b + length ds + a ≤ 12
    → v ≡ take (b + length ds + a) (set (replicate 12 (pos 0)) b (pos 1)) → mid ≡ old ++ v ∷ []
    → new ≡ mid ++ unit_columns (replicate (b + 1) (pos 0)) rest (replicate a (pos 0)) → new ≡ old ++ unit_columns (replicate b (pos 0)) ds (replicate a (pos 0))
units_more ds rest d b a old mid new v e h f m n =
    let u = unit_is ds rest d b a e h in
    let front : replicate (b + 1) (pos 0) ≡ noughts b ++ pos 0 ∷ [] = sym (replicate-append-replicate b 1 (pos 0)) in
    n
    ∙ ap (λ w. w ++ unit_columns (replicate (b + 1) (pos 0)) rest (noughts a)) (m ∙ ap (λ w. old ++ w ∷ []) (f ∙ u))
    ∙ append_assoc old ((noughts b ++ pos 1 ∷ zeros rest ++ noughts a) ∷ []) (unit_columns (replicate (b + 1) (pos 0)) rest (noughts a))
    ∙ ap (λ w. old ++ (noughts b ++ pos 1 ∷ zeros rest ++ noughts a) ∷ unit_columns w rest (noughts a)) front
    ∙ ap (λ s. old ++ unit_columns (noughts b) s (noughts a)) (sym e)

pub if_ok : {A E : Type 0} (r : Result A E) (P Q : Type 0) → (P → Q) → IfOk r (λ _. P) → IfOk r (λ _. Q)
if_ok (Ok x) P Q f h = f h
if_ok (Err e) P Q f h = tt

-- ---- the tiler over both shapes

small-units : (b a : List ℤ) (s : List ℕ) → AllByRecursion IsVectorEntry b → AllByRecursion IsVectorEntry a → length b + length s + length a ≤ 12 → AllByRecursion IsVector (unit_columns b s a)
small-units b a [] h k few = tt
small-units b a (n ∷ s) h k few = (
  record {
    rank = omega (arith, few, length-append (b ++ pos 1 ∷ zeros s) a, length-append b (pos 1 ∷ zeros s), length-zeros s);
    entry = small-append (b ++ pos 1 ∷ zeros s) a (small-append b (pos 1 ∷ zeros s) h (omega arith, small-zeros s)) k;
  },
  small-units (b ++ pos 0 ∷ []) a s (small-append b (pos 0 ∷ []) h (omega arith, tt)) k (omega (arith, few, length-append b (pos 0 ∷ []))),
)
  where
    length-zeros : (t : List ℕ) → length (zeros t) ≡ length t
    length-zeros t = ap length (zeros-noughts t) ∙ length-replicate (length t) (pos 0)

    small-zeros : (t : List ℕ) → AllByRecursion IsVectorEntry (zeros t)
    small-zeros t = subst (AllByRecursion IsVectorEntry) (sym (zeros-noughts t)) (small-noughts (length t))

length-units : (b a : List ℤ) (s : List ℕ) → length (unit_columns b s a) ≡ length s
length-units b a [] = refl
length-units b a (n ∷ s) = ap suc (length-units (b ++ pos 0 ∷ []) a s)

-- no entry of a tiler within its limits is out of range
none_out : (k : ℕ) (zs : List ℤ) → AllByRecursion IsVectorEntry zs → first_out_of k zs ≡ None
none_out k [] h = refl
none_out k (z ∷ zs) h = first_out_of-in k z zs h.0 ∙ none_out (k + 1) zs h.1

small-flat : (cs : List (List ℤ)) → AllByRecursion IsVector cs → AllByRecursion IsVectorEntry (flat cs)
small-flat [] h = tt
small-flat (c ∷ cs) h = small-append c (flat cs) h.0.entry (small-flat cs h.1)

pub none_out-tiler : (t : TilerOf) → IsTiler t → first_entry_out t ≡ None
none_out-tiler t h =
    none_out 0 (t.origin ++ flat t.paving ++ flat t.fitting)
    (small-append (t.origin ++ flat t.paving) (flat t.fitting) (small-append t.origin (flat t.paving) h.origin.entry (small-flat t.paving h.in_paving)) (small-flat t.fitting h.in_fitting))

inner_is_tiler : (s p : List ℕ) → length s + length p ≤ 12 → IsTiler (inner_of s p)
inner_is_tiler s p few = rw (zeros-noughts s, zeros-noughts p) record {
  origin = record { rank = omega (arith, few, length-append (noughts (length s)) (noughts (length p)), length-replicate (length s) (pos 0), length-replicate (length p) (pos 0)); entry = small-append (noughts (length s)) (noughts (length p)) (small-noughts (length s)) (small-noughts (length p)) };
  paving = omega (arith, few, length-units [] (noughts (length p)) s);
  fitting = omega (arith, few, length-units (noughts (length s)) [] p);
  in_paving = small-units [] (noughts (length p)) s tt (small-noughts (length p)) (omega (arith, few, length-replicate (length p) (pos 0)));
  in_fitting = small-units (noughts (length s)) [] p (small-noughts (length s)) tt (omega (arith, few, length-replicate (length s) (pos 0)));
}

-- the first columns that are pushed
pub pushed_first : (old new units : List (List ℤ)) → old ≡ [] → new ≡ old ++ units → new ≡ units
pushed_first old new units e f = f ∙ ap (λ w. w ++ units) e

-- the parts that the code makes are those of the tiler
pub inner_made : (s p first last : List ℕ) (o : List ℤ) (P F : List (List ℤ)) → first ≡ s → last ≡ p → length s + length p ≤ 12
    → o ≡ take (length first + length last) (replicate 12 (pos 0)) → P ≡ unit_columns (replicate 0 (pos 0)) first (replicate (length last) (pos 0)) → F ≡ unit_columns (replicate (length first) (pos 0)) last (replicate 0 (pos 0))
    → (◌≡◌ {A = TilerOf} (record { origin = o; paving = P; fitting = F }) (inner_of s p)) × (first_entry_out (inner_of s p) ≡ None) × IsTiler (inner_of s p)
inner_made s p first last o P F e f few g h k = (
  rw (g, h, k, e, f, zeros-noughts s, zeros-noughts p, take-replicate (length s + length p) 12 (pos 0) few, sym (replicate-append-replicate (length s) (length p) (pos 0))) refl,
  none_out-tiler (inner_of s p) (inner_is_tiler s p few),
  inner_is_tiler s p few,
)
