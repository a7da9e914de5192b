-- Ranks index by index are ranks of points, and ports are looked for one by one.
use Rattle.std.proofs.Common.{◌≡◌, ℕ, ◌+◌, ◌*◌, ◌<◌, ◌≤◌, zero, suc, ℤ, pos, negsuc, List, [], ◌∷◌, true, false, map, nat_abs, nat_lt, Some, None, Ok, Err, if◌then◌else◌, refl, arith, ◌∙◌, ap, sym, ◌&&◌, length, get_or, drop, drop-cons, add-one, Bor}
use Rattle.std.proofs.Math.Nat.{mul-le-mul_left, mul-le-mul_right}
use Rattle.aol_shape.proofs.Sizes.{size_positive}
use Rattle.aol_shape.specs.Vectors.{is_inside}
use Rattle.aol_eval.specs.declared.place.Place.{Place}
use Rattle.aol_eval.specs.declared.place.Place.TheVariants.{Inside}
use Rattle.aol_shape.specs.Lists.{same}
use Rattle.aol_shape.specs.Shape.{size, rank}
use Rattle.aol_expr_tree.specs.declared.port.Port.{Port}
use Rattle.aol_expr_tree.specs.declared.value.Kind.TheVariants.{Index}
use Rattle.aol_expr_tree.specs.Meaning.{element, nth_number}
use Rattle.aol_eval.specs.Places.{rank_on, number_at, IsPlace}

-- behind a rank so far, the rank of indices in their ranges
pub rank_on-within : (shape : List ℕ) (so_far : ℕ) (at : List ℤ)
    → rank_on shape so_far at ≡ (if is_inside shape at then Some (so_far * size shape + rank shape (map nat_abs at)) else None)
rank_on-within [] so_far [] = ap Some (omega arith)
rank_on-within [] so_far (z ∷ zs) = refl
rank_on-within (n ∷ shape) so_far [] = refl
rank_on-within (n ∷ shape) so_far (negsuc i ∷ zs) = refl
rank_on-within (n ∷ shape) so_far (pos i ∷ zs) =
    let r : ℕ = rank shape (map nat_abs zs) in
    let moved : (so_far * n + i) * size shape + r ≡ so_far * (n * size shape) + (i * size shape + r) = omega arith in
    let inner = rank_on-within shape (so_far * n + i) zs ∙ ap (λ (v : ℕ). if is_inside shape zs then Some v else None) moved in
    elim (nat_lt i n) as (λ b. (if b then rank_on shape (so_far * n + i) zs else None)
    ≡ (if (b && is_inside shape zs) then Some (so_far * (n * size shape) + (i * size shape + r)) else None)) [ true ↦ inner | false ↦ refl ]

-- the number of a port's pattern at the indices
pub pattern-number : (shape : List ℕ) (nums at : List ℤ)
    → number_at nums (rank_on shape 0 at) ≡ (if is_inside shape at then Ok (nth_number nums (rank shape (map nat_abs at))) else Err Index)
pattern-number shape nums at =
    let r : ℕ = rank shape (map nat_abs at) in
    let from_zero : 0 * size shape + r ≡ r = omega arith in
    ap (number_at nums) (rank_on-within shape 0 at ∙ ap (λ (v : ℕ). if is_inside shape at then Some v else None) from_zero)
    ∙ elim (is_inside shape at) as (λ b. number_at nums (if b then Some r else None) ≡ (if b then Ok (nth_number nums r) else Err Index)) [ true ↦ refl | false ↦ refl ]

module _ (ins : List Port) (k : ℕ) (p : Port) (nums : List ℤ) (name : List ℕ) (below : k < length ins) (is : p ≡ get_or ins k p) where
  front : drop k ins ≡ p ∷ drop (k + 1) ins
  front = rw (drop-cons ins k p, ← is, add-one) refl

  -- the port with the name
  pub element-here : same p.name name ≡ true → (at : List ℤ) → element (drop k ins) nums name at ≡ number_at nums (rank_on p.shape 0 at)
  element-here named at = rw (front, named) (sym (pattern-number p.shape nums at))

  -- a port with another name
  pub element-later : same p.name name ≡ false → (at : List ℤ) → element (drop k ins) nums name at ≡ element (drop (k + 1) ins) (drop (size p.shape) nums) name at
  element-later other at = rw (front, other) refl

-- one more index inside its range, before the other entries
pub rank_stays : (r n i s : ℕ) → (r + 1) * (n * s) ≤ 4194304 → i < n → 1 ≤ s → ((r * n + i + 1) * s ≤ 4194304) × (r * n + i < 4194304)
rank_stays r n i s few in_range some =
    let row : r * n + i + 1 ≤ (r + 1) * n = omega arith in
    let rows : (r * n + i + 1) * s ≤ (r + 1) * n * s = mul-le-mul_right s row in
    let own : (r * n + i + 1) * 1 ≤ (r * n + i + 1) * s = mul-le-mul_left (r * n + i + 1) some in
    (omega arith, omega arith)

-- so the next rank is small
pub rank_small : (r n i : ℕ) (p : Place) (entries : Bor (List ℕ)) (rest : List ℕ) → IsPlace p → p ≡ Inside r entries → entries.now ≡ n ∷ rest → i < n → r * n + i < 4194304
rank_small r n i p entries rest place is cases in_range =
    let known = rw cases at (rw is at place) in
    (rank_stays r n i (size rest) known.1 in_range (size_positive rest known.0.1)).1

-- entries that have no index
pub no_rank : (shape : List ℕ) (r : ℕ) → 0 < length shape → rank_on shape r [] ≡ None
no_rank [] r some = absurd (omega arith)
no_rank (n ∷ shape) r some = refl

-- the number at a rank is the list's element there
pub nth_number_get : (nums : List ℤ) (k : ℕ) → nth_number nums k ≡ get_or nums k (pos 0)
nth_number_get [] k = refl
nth_number_get (z ∷ zs) zero = refl
nth_number_get (z ∷ zs) (suc k) = nth_number_get zs k
