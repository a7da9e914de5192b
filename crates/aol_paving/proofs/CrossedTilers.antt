-- The tilers that are made of both levels fit where they are put.
use Rattle.std.proofs.Common.{◌≡◌, ℕ, zero, suc, ◌+◌, ◌≤◌, Bool, true, false, ◌&&◌, ◌==◌, nat_le, cond, ℤ, List, [], ◌∷◌, ◌++◌, length, map, take, drop, Option, Some, None, is_some, sym, ◌∙◌, ap, refl, arith}
use Rattle.std.specs.Prelude.{nat_abs}
use Rattle.std.specs.List.{AllByRecursion, list_all}
use Rattle.std.proofs.lemmas.Bool.{eqb-true, eq-eqb, leb-true}
use Rattle.std.proofs.lemmas.List.{length-append, length-map, append_assoc}
use Rattle.std.proofs.lemmas.List.Folds.{list_all-append}
use Rattle.aol_shape.specs.declared.limit.LimitName.TheVariants as limits
use Rattle.aol_shape.specs.Vectors.{IsVector, IsVectorEntry, plus, times, plus_columns, max_entry}
use Rattle.aol_tiler.specs.Matrices.{TilerOf}
use Rattle.aol_tiler.specs.Tiler.{IsTiler, has_entries, fits, composed, flat, zero_like, first_out_of, first_entry_out}
use Rattle.aol_change.specs.Change.{tiler_limit}
use Rattle.aol_change.proofs.TilerForms.{fits_by, by_fits, blocked_fits}
use Rattle.aol_flat.proofs.Names.{both-true}
use Rattle.aol_flat.proofs.Truth.{both}
use Rattle.aol_paving.specs.declared.crossing.Crossing.{Crossing}
use Rattle.aol_paving.specs.Crossings.{with_pattern, crossing_tiler, crossed_tiler}
use Rattle.aol_paving.specs.Paving.{Meet, CanCross}

-- ---- lengths

plus-length : (v w : List ℤ) → length (plus v w) ≡ length v
plus-length [] w = refl
plus-length (a ∷ v) [] = refl
plus-length (a ∷ v) (b ∷ w) = ap (λ k. suc k) (plus-length v w)

columns-length : (v : List ℤ) (cs : List (List ℤ)) (ks : List ℤ) → length (plus_columns v cs ks) ≡ length v
columns-length v [] ks = refl
columns-length v (c ∷ cs) [] = refl
columns-length v (c ∷ cs) (k ∷ ks) = columns-length (plus v (times k c)) cs ks ∙ plus-length v (times k c)

mapped_even : (v : List ℤ) (cs ds : List (List ℤ)) (n : ℕ) → length v ≡ n → list_all (λ c. length c == n) (map (plus_columns v cs) ds) ≡ true
mapped_even v cs [] n e = refl
mapped_even v cs (d ∷ ds) n e =
    both (length (plus_columns v cs d) == n) (list_all (λ c. length c == n) (map (plus_columns v cs) ds))
    (eq-eqb (length (plus_columns v cs d)) n (columns-length v cs d ∙ e)) (mapped_even v cs ds n e)

take_even : (k : ℕ) (cs : List (List ℤ)) (n : ℕ) → list_all (λ c. length c == n) cs ≡ true → list_all (λ c. length c == n) (take k cs) ≡ true
take_even zero cs n h = refl
take_even (suc k) [] n h = refl
take_even (suc k) (c ∷ cs) n h =
    let parts = both-true (length c == n) (list_all (λ c. length c == n) cs) h in
    both (length c == n) (list_all (λ c. length c == n) (take k cs)) parts.0 (take_even k cs n parts.1)

drop_even : (k : ℕ) (cs : List (List ℤ)) (n : ℕ) → list_all (λ c. length c == n) cs ≡ true → list_all (λ c. length c == n) (drop k cs) ≡ true
drop_even zero cs n h = h
drop_even (suc k) [] n h = refl
drop_even (suc k) (c ∷ cs) n h = drop_even k cs n (both-true (length c == n) (list_all (λ c. length c == n) cs) h).1

take_long : {X : Type 0} (k : ℕ) (xs : List X) → k ≤ length xs → length (take k xs) ≡ k
take_long zero xs h = refl
take_long (suc k) [] h = absurd (omega (arith, h))
take_long (suc k) (x ∷ xs) h = ap (λ n. suc n) (take_long k xs (omega (arith, h)))

drop_long : {X : Type 0} (k : ℕ) (xs : List X) (n : ℕ) → length xs ≡ k + n → length (drop k xs) ≡ n
drop_long zero xs n h = omega (arith, h)
drop_long (suc k) [] n h = absurd (omega (arith, h))
drop_long (suc k) (x ∷ xs) n h = drop_long k xs n (omega (arith, h))

-- ---- fitting

composed_fits : (one two : TilerOf) (array space between inner pattern : List ℕ) → fits one array space between ≡ true → fits two between inner pattern ≡ true
    → fits (composed one two) array (space ++ inner) pattern ≡ true
composed_fits one two array space between inner pattern h k =
    let f = fits_by one array space between h in
    let g = fits_by two between inner pattern k in
    let zeros : length (zero_like one.origin) ≡ length array = length-map one.origin _ ∙ f.origin in
    let moved : List (List ℤ) = map (plus_columns (zero_like one.origin) one.fitting) two.paving in
    by_fits (composed one two) array (space ++ inner) pattern
    (record {
      origin = columns-length one.origin one.fitting two.origin ∙ f.origin;
      in_paving = list_all-append (λ c. length c == length array) one.paving moved
          ∙ both (list_all (λ c. length c == length array) one.paving) (list_all (λ c. length c == length array) moved) f.in_paving (mapped_even (zero_like one.origin) one.fitting two.paving (length array) zeros);
      in_fitting = mapped_even (zero_like one.origin) one.fitting two.fitting (length array) zeros;
      paving = omega (arith, length-append one.paving moved, length-map two.paving (plus_columns (zero_like one.origin) one.fitting), length-append space inner, f.paving, g.paving);
      fitting = length-map two.fitting (plus_columns (zero_like one.origin) one.fitting) ∙ g.fitting;
    })

pattern_fits : (t : TilerOf) (array space inner pattern : List ℕ) (many : ℕ) → many ≡ length space → fits t array (space ++ inner) pattern ≡ true → fits (with_pattern many t) array space (inner ++ pattern) ≡ true
pattern_fits t array space inner pattern many is h =
    let f = fits_by t array (space ++ inner) pattern h in
    let long : length t.paving ≡ many + length inner = omega (arith, f.paving, length-append space inner, is) in
    by_fits (with_pattern many t) array space (inner ++ pattern)
    (record {
      origin = f.origin;
      in_paving = take_even many t.paving (length array) f.in_paving;
      in_fitting = list_all-append (λ c. length c == length array) (drop many t.paving) t.fitting
          ∙ both (list_all (λ c. length c == length array) (drop many t.paving)) (list_all (λ c. length c == length array) t.fitting) (drop_even many t.paving (length array) f.in_paving) f.in_fitting;
      paving = take_long many t.paving (omega (arith, long)) ∙ is;
      fitting = omega (arith, length-append (drop many t.paving) t.fitting, length-append inner pattern, drop_long many t.paving (length inner) long, f.fitting);
    })

-- the tiler of a way in blocks, over a block, the inner space and the port
pub crossed_fits : (c : Crossing) (array space between inner outer block : List ℕ) → fits c.outer.tiler array space between ≡ true → fits c.inner.tiler between inner c.port.shape ≡ true → length outer ≡ length space
    → length block ≡ length space → fits (crossed_tiler block c) array outer ((block ++ inner) ++ c.port.shape) ≡ true
crossed_fits c array space between inner outer block h k outer_rank block_rank =
    ap (λ s. fits (crossed_tiler block c) array outer s) (append_assoc block inner c.port.shape)
    ∙ blocked_fits (crossing_tiler block c) array space outer block (inner ++ c.port.shape)
    (pattern_fits (composed c.outer.tiler c.inner.tiler) array space inner c.port.shape (length block) block_rank (composed_fits c.outer.tiler c.inner.tiler array space between inner c.port.shape h k))
    outer_rank block_rank

-- ---- limits

-- entries of which none is out of range
none_out-all : (k : ℕ) (zs : List ℤ) → first_out_of k zs ≡ None → AllByRecursion IsVectorEntry zs
none_out-all k [] h = tt
none_out-all k (z ∷ zs) h = go (nat_le (nat_abs z) max_entry) refl h (none_out-all (k + 1) zs)
  where
    go : (b : Bool) → nat_le (nat_abs z) max_entry ≡ b → cond b (first_out_of (k + 1) zs) (Some k) ≡ None → (first_out_of (k + 1) zs ≡ None → AllByRecursion IsVectorEntry zs) → AllByRecursion IsVectorEntry (z ∷ zs)
    go true e g rest = (leb-true (nat_abs z) max_entry e, rest g)
    go false e g rest = cc

entries-parts : (xs ys : List ℤ) → AllByRecursion IsVectorEntry (xs ++ ys) → AllByRecursion IsVectorEntry xs × AllByRecursion IsVectorEntry ys
entries-parts [] ys h = (tt, h)
entries-parts (x ∷ xs) ys h = let rest = entries-parts xs ys h.1 in ((h.0, rest.0), rest.1)

columns_are_vectors : (cs : List (List ℤ)) (n : ℕ) → n ≤ 12 → list_all (λ c. length c == n) cs ≡ true → AllByRecursion IsVectorEntry (flat cs) → AllByRecursion IsVector cs
columns_are_vectors [] n few h k = tt
columns_are_vectors (c ∷ cs) n few h k =
    let parts = both-true (length c == n) (list_all (λ c. length c == n) cs) h in
    let entries = entries-parts c (flat cs) k in
    let rank : length c ≡ n = eqb-true (length c) n parts.0 in
    (record { rank = omega (arith, rank, few); entry = entries.0 }, columns_are_vectors cs n few parts.1 entries.1)

-- a tiler that passes no limit is one
pub fits_is_tiler : (t : TilerOf) (array space pattern : List ℕ) → fits t array space pattern ≡ true → length array ≤ 12 → length space ≤ 12 → length pattern ≤ 12 → tiler_limit t ≡ None → IsTiler t
fits_is_tiler t array space pattern h array_few space_few pattern_few none =
    let f = fits_by t array space pattern h in
    let all : AllByRecursion IsVectorEntry (t.origin ++ flat t.paving ++ flat t.fitting) = none_out-all 0 _ (entries (first_entry_out t) none) in
    let front = entries-parts (t.origin ++ flat t.paving) (flat t.fitting) all in
    let middle = entries-parts t.origin (flat t.paving) front.0 in
    record {
      origin = record { rank = omega (arith, f.origin, array_few); entry = middle.0 };
      paving = omega (arith, f.paving, space_few);
      fitting = omega (arith, f.fitting, pattern_few);
      in_paving = columns_are_vectors t.paving (length array) array_few f.in_paving middle.1;
      in_fitting = columns_are_vectors t.fitting (length array) array_few f.in_fitting front.1;
    }
  where
    entries : (o : Option ℕ) → cond (is_some o) (Some limits.Entry) None ≡ None → o ≡ None
    entries None e = refl
    entries (Some k) e = cc

-- ---- what the makers ask for

entries_even : (t : TilerOf) (n : ℕ) → length t.origin ≡ n → list_all (λ c. length c == n) t.paving ≡ true → list_all (λ c. length c == n) t.fitting ≡ true → has_entries t n ≡ true
entries_even t n a b c =
    both (length t.origin == n && list_all (λ c. length c == n) t.paving) (list_all (λ c. length c == n) t.fitting)
    (both (length t.origin == n) (list_all (λ c. length c == n) t.paving) (eq-eqb (length t.origin) n a) b) c

pub meet : (c : Crossing) (array space between inner block : List ℕ) → fits c.outer.tiler array space between ≡ true → fits c.inner.tiler between inner c.port.shape ≡ true → length block ≡ length space → Meet inner block c
meet c array space between inner block h k block_rank =
    let f = fits_by c.outer.tiler array space between h in
    let g = fits_by c.inner.tiler between inner c.port.shape k in
    record {
      outer_even = ap (has_entries c.outer.tiler) f.origin ∙ entries_even c.outer.tiler (length array) f.origin f.in_paving f.in_fitting;
      inner_even = ap (has_entries c.inner.tiler) f.fitting ∙ entries_even c.inner.tiler (length between) g.origin g.in_paving g.in_fitting;
      block_rank = block_rank ∙ sym f.paving;
      space_rank = sym g.paving;
      pattern_rank = sym g.fitting;
    }

-- both can be made one where the block, the inner space and the port have room in one shape
pub can_cross : (c : Crossing) (inner block : List ℕ) → Meet inner block c → length (block ++ inner) + length c.port.shape ≤ 12 → CanCross block c
can_cross c inner block m few =
    let long = length-append block inner in
    let a : length block ≡ length c.outer.tiler.paving = m.block_rank in
    let b : length inner ≡ length c.inner.tiler.paving = m.space_rank in
    let d : length c.port.shape ≡ length c.inner.tiler.fitting = m.pattern_rank in
    record {
      composable = record { outer_even = m.outer_even; inner_even = m.inner_even; paving_room = omega (arith, long, a, b, few) };
      block_rank = m.block_rank;
      room = omega (arith, long, a, b, d, few);
    }
