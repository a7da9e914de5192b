-- Rows of numbers in one list.
use Rattle.std.proofs.Common.{slice_range, ◌≡◌, ◌≤◌, ◌<◌, ℕ, zero, suc, ◌+◌, ◌-◌, List, [], length, get_or, Some, slice_get, sym, ◌∙◌, ap, arith}
use Rattle.std.proofs.lemmas.List.FromFn.{get_or-map-range_with_len, length-map-range_with_len}
use Rattle.std.proofs.lemmas.Option.{slice_get-get_or}
use Rattle.std.proofs.lemmas.Grind.{get_or_default_zero}
use Rattle.aol_depend.specs.Rows.{row_at, rows_of, AreStarts}

-- how many rows there are
pub length-rows_of : (starts list : List ℕ) → length (rows_of starts list) ≡ length starts - 1
length-rows_of starts list = length-map-range_with_len (row_at starts list) 0 (length starts - 1)

-- the row with a number
pub get-rows_of : (starts list : List ℕ) (j : ℕ) → j < length starts - 1 → slice_get (rows_of starts list) j ≡ Some (row_at starts list j)
get-rows_of starts list j within =
    let inside : j < length (rows_of starts list) = omega (arith, length-rows_of starts list) in
    let row : get_or (rows_of starts list) j [] ≡ row_at starts list j = get_or-map-range_with_len (row_at starts list) 0 (length starts - 1) j j [] within (omega arith) in
    slice_get-get_or (rows_of starts list) j [] inside ∙ ap (λ r. Some r) row

-- each start is at most a later one, so none is past the end of the list
pub within-list : (starts list : List ℕ) → AreStarts starts list → (n j : ℕ) → j + n + 1 ≡ length starts → get_or starts j 0 ≤ length list
within-list starts list s zero j h = omega (arith, s.last, ap (λ k. get_or starts k 0) (let e : length starts - 1 ≡ j = omega arith in e))
within-list starts list s (suc n) j h =
    let later = within-list starts list s n (j + 1) (omega arith) in
    omega (arith, s.ascend j (omega arith))

-- what reading two starts says of the row between them
pub record IsRow (starts list : List ℕ) (j s e : ℕ) : Type 0 where
  pub order : s ≤ e
  pub within : e ≤ length list
  pub is : slice_get (rows_of starts list) j ≡ Some (slice_range list s e)

pub is_row : (starts list : List ℕ) → AreStarts starts list → (j s e : ℕ) → j + 1 < length starts → s ≡ get_or starts j s → e ≡ get_or starts (j + 1) e → IsRow starts list j s e
is_row starts list a j s e lt at_s at_e =
    let s0 : s ≡ get_or starts j 0 = at_s ∙ get_or_default_zero starts j s (omega arith) in
    let e0 : e ≡ get_or starts (j + 1) 0 = at_e ∙ get_or_default_zero starts (j + 1) e lt in
    record {
      order = omega (arith, a.ascend j lt);
      within = omega (arith, within-list starts list a (length starts - (j + 1) - 1) (j + 1) (omega arith));
      is = get-rows_of starts list j (omega arith) ∙ ap (λ p. Some (slice_range list p (get_or starts (j + 1) 0))) (sym s0) ∙ ap (λ p. Some (slice_range list s p)) (sym e0);
    }
