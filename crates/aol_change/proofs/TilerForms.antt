-- Tilers that are made fit where they are put.
use Rattle.std.proofs.Common.{◌≡◌, ℕ, suc, ◌+◌, ◌≤◌, Bool, true, false, ◌&&◌, ◌==◌, nat_le, cond, ℤ, pos, List, [], ◌∷◌, ◌++◌, length, Some, None, ◌∙◌, ap, refl, arith}
use Rattle.std.specs.Prelude.{nat_abs}
use Rattle.std.specs.List.{AllByRecursion, list_all}
use Rattle.std.proofs.lemmas.Bool.{eqb-true, eq-eqb, leb-true}
use Rattle.std.proofs.lemmas.List.{length-append}
use Rattle.std.proofs.lemmas.List.Folds.{list_all-append}
use Rattle.aol_shape.specs.Vectors.{IsVector, IsVectorEntry, times, zeros, max_entry}
use Rattle.aol_tiler.specs.Matrices.{TilerOf}
use Rattle.aol_tiler.specs.Tiler.{IsTiler, is_over, fits, scaled, blocked, unit_columns, inner_of, flat, first_out_of, first_entry_out}
use Rattle.aol_tiler.proofs.Entries.{length-times}
use Rattle.aol_tiler.proofs.Extends.{length_scaled}
use Rattle.aol_tiler.proofs.UnitColumns.{inner_made}
use Rattle.aol_flat.proofs.Names.{both-true}
use Rattle.aol_flat.proofs.Truth.{both}

-- ---- fitting, in parts

-- what it says that a tiler fits
pub record FitsBy (t : TilerOf) (array space pattern : List ℕ) : Type 0 where
  pub origin : length t.origin ≡ length array
  pub in_paving : list_all (λ c. length c == length array) t.paving ≡ true
  pub in_fitting : list_all (λ c. length c == length array) t.fitting ≡ true
  pub paving : length t.paving ≡ length space
  pub fitting : length t.fitting ≡ length pattern

pub fits_by : (t : TilerOf) (array space pattern : List ℕ) → fits t array space pattern ≡ true → FitsBy t array space pattern
fits_by t array space pattern h =
    let h1 = both-true (is_over t array && length t.paving == length space) (length t.fitting == length pattern) h in
    let h2 = both-true (is_over t array) (length t.paving == length space) h1.0 in
    let h3 = both-true (length t.origin == length array && list_all (λ c. length c == length array) t.paving) (list_all (λ c. length c == length array) t.fitting) h2.0 in
    let h4 = both-true (length t.origin == length array) (list_all (λ c. length c == length array) t.paving) h3.0 in
    record {
      origin = eqb-true (length t.origin) (length array) h4.0;
      in_paving = h4.1;
      in_fitting = h3.1;
      paving = eqb-true (length t.paving) (length space) h2.1;
      fitting = eqb-true (length t.fitting) (length pattern) h1.1;
    }

pub by_fits : (t : TilerOf) (array space pattern : List ℕ) → FitsBy t array space pattern → fits t array space pattern ≡ true
by_fits t array space pattern f =
    both (is_over t array && length t.paving == length space) (length t.fitting == length pattern)
    (both (is_over t array) (length t.paving == length space)
    (both (length t.origin == length array && list_all (λ c. length c == length array) t.paving) (list_all (λ c. length c == length array) t.fitting)
    (both (length t.origin == length array) (list_all (λ c. length c == length array) t.paving) (eq-eqb (length t.origin) (length array) f.origin) f.in_paving) f.in_fitting)
    (eq-eqb (length t.paving) (length space) f.paving))
    (eq-eqb (length t.fitting) (length pattern) f.fitting)

-- ---- the tiler over a block

length-zeros : (s : List ℕ) → length (zeros s) ≡ length s
length-zeros [] = refl
length-zeros (n ∷ s) = ap (λ k. suc k) (length-zeros s)

units_even : (before : List ℤ) (shape : List ℕ) (after : List ℤ) (n : ℕ) → length before + length shape + length after ≡ n → list_all (λ c. length c == n) (unit_columns before shape after) ≡ true
units_even before [] after n h = refl
units_even before (d ∷ shape) after n h =
    both (length (before ++ pos 1 ∷ zeros shape ++ after) == n) (list_all (λ c. length c == n) (unit_columns (before ++ pos 0 ∷ []) shape after))
    (eq-eqb (length (before ++ pos 1 ∷ zeros shape ++ after)) n (omega (arith, h, length-append (before ++ pos 1 ∷ zeros shape) after, length-append before (pos 1 ∷ zeros shape), length-zeros shape)))
    (units_even (before ++ pos 0 ∷ []) shape after n (omega (arith, h, length-append before (pos 0 ∷ []))))

units_count : (before : List ℤ) (shape : List ℕ) (after : List ℤ) → length (unit_columns before shape after) ≡ length shape
units_count before [] after = refl
units_count before (d ∷ shape) after = ap (λ k. suc k) (units_count (before ++ pos 0 ∷ []) shape after)

pub inner_fits : (block pattern : List ℕ) → fits (inner_of block pattern) (block ++ pattern) block pattern ≡ true
inner_fits block pattern =
    let both_long : length (block ++ pattern) ≡ length block + length pattern = length-append block pattern in
    by_fits (inner_of block pattern) (block ++ pattern) block pattern
    (record {
      origin = omega (arith, both_long, length-append (zeros block) (zeros pattern), length-zeros block, length-zeros pattern);
      in_paving = units_even [] block (zeros pattern) (length (block ++ pattern)) (omega (arith, both_long, length-zeros pattern));
      in_fitting = units_even (zeros block) pattern [] (length (block ++ pattern)) (omega (arith, both_long, length-zeros block));
      paving = units_count [] block (zeros pattern);
      fitting = units_count (zeros block) pattern [];
    })

-- it is within the limits, where both shapes have room in one
pub inner_is_tiler : (block pattern : List ℕ) → length block + length pattern ≤ 12 → IsTiler (inner_of block pattern)
inner_is_tiler block pattern few = (inner_made block pattern block pattern _ _ _ refl refl few refl refl refl).2

-- ---- a tiler in blocks

scaled_even : (cs : List (List ℤ)) (ks : List ℕ) (n : ℕ) → list_all (λ c. length c == n) cs ≡ true → list_all (λ c. length c == n) (scaled cs ks) ≡ true
scaled_even [] ks n h = refl
scaled_even (c ∷ cs) [] n h = h
scaled_even (c ∷ cs) (k ∷ ks) n h =
    let parts = both-true (length c == n) (list_all (λ c. length c == n) cs) h in
    both (length (times (pos k) c) == n) (list_all (λ c. length c == n) (scaled cs ks)) (ap (λ l. l == n) (length-times (pos k) c) ∙ parts.0) (scaled_even cs ks n parts.1)

pub blocked_fits : (t : TilerOf) (array space outer block pattern : List ℕ) → fits t array space pattern ≡ true → length outer ≡ length space → length block ≡ length space
    → fits (blocked t block) array outer (block ++ pattern) ≡ true
blocked_fits t array space outer block pattern h outer_rank block_rank =
    let f = fits_by t array space pattern h in
    by_fits (blocked t block) array outer (block ++ pattern)
    (record {
      origin = f.origin;
      in_paving = scaled_even t.paving block (length array) f.in_paving;
      in_fitting = list_all-append (λ c. length c == length array) t.paving t.fitting ∙ both (list_all (λ c. length c == length array) t.paving) (list_all (λ c. length c == length array) t.fitting) f.in_paving f.in_fitting;
      paving = omega (arith, length_scaled t.paving block, f.paving, outer_rank);
      fitting = omega (arith, length-append t.paving t.fitting, length-append block pattern, f.paving, f.fitting, block_rank);
    })

-- entries of which none is out of range
none_out-all : (k : ℕ) (zs : List ℤ) → first_out_of k zs ≡ None → AllByRecursion IsVectorEntry zs
none_out-all k [] h = tt
none_out-all k (z ∷ zs) h = go (nat_le (nat_abs z) max_entry) refl h (none_out-all (k + 1) zs)
  where
    go : (b : Bool) → nat_le (nat_abs z) max_entry ≡ b → cond b (first_out_of (k + 1) zs) (Some k) ≡ None → (first_out_of (k + 1) zs ≡ None → AllByRecursion IsVectorEntry zs) → AllByRecursion IsVectorEntry (z ∷ zs)
    go true e g rest = (leb-true (nat_abs z) max_entry e, rest g)
    go false e g rest = cc

entries-parts : (xs ys : List ℤ) → AllByRecursion IsVectorEntry (xs ++ ys) → AllByRecursion IsVectorEntry xs × AllByRecursion IsVectorEntry ys
entries-parts [] ys h = (tt, h)
entries-parts (x ∷ xs) ys h = let rest = entries-parts xs ys h.1 in ((h.0, rest.0), rest.1)

columns_are_vectors : (cs : List (List ℤ)) (n : ℕ) → n ≤ 12 → list_all (λ c. length c == n) cs ≡ true → AllByRecursion IsVectorEntry (flat cs) → AllByRecursion IsVector cs
columns_are_vectors [] n few h k = tt
columns_are_vectors (c ∷ cs) n few h k =
    let parts = both-true (length c == n) (list_all (λ c. length c == n) cs) h in
    let entries = entries-parts c (flat cs) k in
    let rank : length c ≡ n = eqb-true (length c) n parts.0 in
    (record { rank = omega (arith, rank, few); entry = entries.0 }, columns_are_vectors cs n few parts.1 entries.1)

-- it is within the limits, where no entry is out of range and both matrices have room in one
pub blocked_is_tiler : (t : TilerOf) (array space block pattern : List ℕ) → IsTiler t → fits t array space pattern ≡ true → length block ≡ length space → length block + length pattern ≤ 12
    → first_entry_out (blocked t block) ≡ None → IsTiler (blocked t block)
blocked_is_tiler t array space block pattern is h block_rank few none =
    let f = fits_by t array space pattern h in
    let rank : length array ≤ 12 = (let r : length t.origin ≤ 12 = is.origin.rank in omega (arith, r, f.origin)) in
    let all : AllByRecursion IsVectorEntry (t.origin ++ flat (scaled t.paving block) ++ flat (t.paving ++ t.fitting)) = none_out-all 0 _ none in
    let front = entries-parts (t.origin ++ flat (scaled t.paving block)) (flat (t.paving ++ t.fitting)) all in
    let middle = entries-parts t.origin (flat (scaled t.paving block)) front.0 in
    record {
      origin = is.origin;
      paving = (let p : length t.paving ≤ 12 = is.paving in omega (arith, p, length_scaled t.paving block));
      fitting = omega (arith, length-append t.paving t.fitting, f.paving, f.fitting, block_rank, few);
      in_paving = columns_are_vectors (scaled t.paving block) (length array) rank (scaled_even t.paving block (length array) f.in_paving) middle.1;
      in_fitting = columns_both t.paving t.fitting is.in_paving is.in_fitting;
    }
  where
    columns_both : (xs ys : List (List ℤ)) → AllByRecursion IsVector xs → AllByRecursion IsVector ys → AllByRecursion IsVector (xs ++ ys)
    columns_both [] ys h k = k
    columns_both (x ∷ xs) ys h k = (h.0, columns_both xs ys h.1 k)
