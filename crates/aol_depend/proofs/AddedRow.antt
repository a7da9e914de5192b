-- One row more.
use Rattle.std.proofs.Common.{◌≡◌, ◌≤◌, ◌<◌, ◌^◌, ℕ, zero, suc, ◌+◌, ◌-◌, List, [], ◌∷◌, ◌++◌, map, take, drop, length, get_or, slice_range, ◌∙◌, ap, refl, arith, length-append, length-drop, inl, inr}
use Rattle.std.specs.List.{range_with_len}
use Rattle.std.proofs.lemmas.Bool.{cases_lt}
use Rattle.std.proofs.Math.Seq.{get_or-append_seam, drop-append_seam}
use Rattle.std.proofs.lemmas.List.{get_or_append_left, take-append-le, drop-append-le, take_all}
use Rattle.std.proofs.lemmas.List.FromFn.{map-range_with_len_more}
use Rattle.aol_depend.specs.Rows.{row_at, rows_of, AreStarts}
use Rattle.aol_depend.proofs.Rows.{within-list}

-- two functions that agree on some numbers make one list of them
map_agree : {X : Type 0} (f g : ℕ → X) (n a : ℕ) → ((j : ℕ) → a ≤ j → j < a + n → f j ≡ g j) → map f (range_with_len a n) ≡ map g (range_with_len a n)
map_agree f g zero a h = refl
map_agree f g (suc n) a h =
    let here : f a ≡ g a = h a (omega arith) (omega arith) in
    let later : map f (range_with_len (a + 1) n) ≡ map g (range_with_len (a + 1) n) = map_agree f g n (a + 1) (λ j low high. h j (omega (arith, low)) (omega (arith, high))) in
    cc

-- a part of a list, where more comes after it
part_stays : (list more : List ℕ) (s e : ℕ) → s ≤ e → e ≤ length list → slice_range (list ++ more) s e ≡ slice_range list s e
part_stays list more s e order within =
    ap (take (e - s)) (drop-append-le s list more (omega (arith, order, within))) ∙ take-append-le (e - s) (drop s list) more (omega (arith, within, length-drop s list))

-- all that comes after a list
part_added : (list more : List ℕ) → slice_range (list ++ more) (length list) (length (list ++ more)) ≡ more
part_added list more =
    ap (take (length (list ++ more) - length list)) (drop-append_seam list more) ∙ take_all (length (list ++ more) - length list) more (omega (arith, length-append list more))

pub record HasRow (starts list row : List ℕ) : Type 0 where
  pub ascend : AreStarts (starts ++ length (list ++ row) ∷ []) (list ++ row)
  pub are : rows_of (starts ++ length (list ++ row) ∷ []) (list ++ row) ≡ rows_of starts list ++ row ∷ []

pub has_row : (starts list row : List ℕ) → AreStarts starts list → length starts + 1 ≤ 2 ^ 32 → HasRow starts list row
has_row starts list row a few =
    let n = length starts - 1 in
    let e = length (list ++ row) in
    let all = starts ++ e ∷ [] in
    let many : length all ≡ n + 2 = omega (arith, length-append starts (e ∷ []), a.some) in
    let end : get_or all (n + 1) 0 ≡ e = ap (λ k. get_or all k 0) (let k : n + 1 ≡ length starts = omega (arith, a.some) in k) ∙ get_or-append_seam starts e [] 0 in
    let before : (j : ℕ) → j < length starts → get_or all j 0 ≡ get_or starts j 0 = λ j lt. get_or_append_left starts (e ∷ []) 0 j lt in
    let last : get_or all n 0 ≡ length list = before n (omega (arith, a.some)) ∙ a.last in
    let old : (j : ℕ) → 0 ≤ j → j < 0 + n → row_at all (list ++ row) j ≡ row_at starts list j =
    λ j low high.
    (let s : get_or all j 0 ≡ get_or starts j 0 = before j (omega (arith, high)) in
    let t : get_or all (j + 1) 0 ≡ get_or starts (j + 1) 0 = before (j + 1) (omega (arith, high)) in
    ap (λ k. slice_range (list ++ row) k (get_or all (j + 1) 0)) s ∙ ap (slice_range (list ++ row) (get_or starts j 0)) t
    ∙ part_stays list row (get_or starts j 0) (get_or starts (j + 1) 0) (a.ascend j (omega (arith, high))) (within-list starts list a (length starts - (j + 1) - 1) (j + 1) (omega (arith, high)))) in
    let new : row_at all (list ++ row) n ≡ row =
    ap (λ k. slice_range (list ++ row) k (get_or all (n + 1) 0)) last ∙ ap (slice_range (list ++ row) (length list)) end ∙ part_added list row in
    record {
      ascend = record {
        some = omega (arith, many);
        few = omega (arith, many, few, a.some);
        ascend = λ j lt. elim (cases_lt (j + 1) (length starts)) [
          | inl within ↦ omega (arith, before j (omega (arith, within)), before (j + 1) within, a.ascend j within)
          | inr past ↦
              let here : j ≡ n = omega (arith, lt, past, many, a.some) in
              omega (arith, ap (λ k. get_or all k 0) here, ap (λ k. get_or all (k + 1) 0) here, last, end, length-append list row)
        ];
        last = ap (λ k. get_or all k 0) (let k : length all - 1 ≡ n + 1 = omega (arith, many) in k) ∙ end;
      };
      are =
          ap (λ k. map (row_at all (list ++ row)) (range_with_len 0 k)) (let k : length all - 1 ≡ n + 1 = omega (arith, many) in k)
          ∙ map-range_with_len_more (row_at all (list ++ row)) 0 n n (omega arith)
          ∙ ap (λ rows. rows ++ row_at all (list ++ row) n ∷ []) (map_agree (row_at all (list ++ row)) (row_at starts list) n 0 old)
          ∙ ap (λ r. rows_of starts list ++ r ∷ []) new;
    }
