-- Writing residues dimension by dimension, and adding them.
use Rattle.std.proofs.Common.{◌≡◌, ℕ, suc, ◌+◌, ◌*◌, ◌<◌, ℤ, pos, List, [], ◌∷◌, ◌++◌, length, drop, sym, ◌∙◌, ap, arith, drop-cons}
use Rattle.aol_shape.specs.Shape.{size}
use Rattle.aol_shape.specs.Vectors.{plus_columns, wrapped}
use Rattle.aol_tiler.specs.Sums.{entry, entry_plus}
use Rattle.aol_tiler.specs.Walk.{added, plus_within, moduli_of, residues}
use Rattle.aol_tiler.proofs.Entries.{entry-plus_columns, length-plus_columns}
use Rattle.aol_tiler.proofs.Walks as walks

pub moduli_none : (array old : List ℕ) → array ≡ [] → old ≡ moduli_of array ++ drop (length array) old
moduli_none = walks.moduli_none

pub moduli_more : (array rest old old' new new' : List ℕ) (n o s : ℕ) → array ≡ n ∷ rest → old ≡ o ∷ old' → new ≡ s ∷ new' → s ≡ n * size rest → new' ≡ moduli_of rest ++ drop (length rest) old' → new ≡ moduli_of array ++ drop (length array) old
moduli_more = walks.moduli_more

drop-next : (l : List ℤ) (j : ℕ) → j < length l → drop j l ≡ entry l j ∷ drop (j + 1) l
drop-next l j h = let more : suc j ≡ j + 1 = omega arith in drop-cons l j (pos 0) h ∙ ap (λ n. entry l j ∷ drop n l) more

-- one more dimension in front
pub residues_more : (array rest old old' new new' : List ℕ) (start : List ℤ) (columns : List (List ℤ)) (xs : List ℤ) (k n o r s : ℕ) (z : ℤ) → array ≡ n ∷ rest → old ≡ o ∷ old' → new ≡ r * s ∷ new'
    → k + length array ≡ length start → z ≡ entry_plus (entry start k) columns xs k → r ≡ wrapped z n → s ≡ size rest
    → new' ≡ residues rest (drop (k + 1) (plus_columns start columns xs)) ++ drop (length rest) old' → new ≡ residues array (drop k (plus_columns start columns xs)) ++ drop (length array) old
residues_more array rest old old' new new' start columns xs k n o r s z e f g same is l q t =
    let zs = plus_columns start columns xs in
    let low : k < length start = omega (arith, same, ap (length {A = ℕ}) e) in
    let there : k < length zs = omega (arith, low, length-plus_columns start columns xs) in
    let number : z ≡ entry zs k = is ∙ sym (entry-plus_columns start columns xs k low) in
    rw (e, f, drop-next zs k there)
    (g ∙ ap (λ y. y * s ∷ new') (l ∙ ap (λ y. wrapped y n) number) ∙ ap (λ y. wrapped (entry zs k) n * y ∷ new') q ∙ ap (λ y. wrapped (entry zs k) n * size rest ∷ y) t)

-- ---- adding a step

pub plus_none : (p ms v : List ℕ) → p ≡ [] → p ≡ plus_within p ms v
plus_none = walks.plus_none

pub plus_none_moduli : (p p' ms v : List ℕ) (x : ℕ) → p ≡ x ∷ p' → ms ≡ [] → p ≡ plus_within p ms v
plus_none_moduli = walks.plus_none_moduli

pub plus_none_step : (p p' ms ms' v : List ℕ) (x m : ℕ) → p ≡ x ∷ p' → ms ≡ m ∷ ms' → v ≡ [] → p ≡ plus_within p ms v
plus_none_step = walks.plus_none_step

pub plus_more : (p p' ms ms' v v' new q : List ℕ) (x m y s : ℕ) → p ≡ x ∷ p' → ms ≡ m ∷ ms' → v ≡ y ∷ v' → new ≡ s ∷ q → s ≡ added x y m → q ≡ plus_within p' ms' v' → new ≡ plus_within p ms v
plus_more = walks.plus_more
