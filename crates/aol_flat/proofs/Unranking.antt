-- Finding the indices of a point of a space by its rank, one after another.
use Rattle.std.proofs.Common.{◌≡◌, ℕ, zero, suc, ◌+◌, ◌*◌, ◌/◌, ◌%◌, ◌<◌, length, take, drop, set, get_or, List, [], ◌∷◌, ◌++◌, Bool, true, false, IsTrue, ◌↔◌, sym, ◌∙◌, ap, subst, arith, append_assoc, add-one, drop-cons}
use Rattle.std.proofs.Math.Nat.{mul-div_cancel_left, mod-lt}
use Rattle.std.proofs.lemmas.List.{take_more_set}
use Rattle.std.specs.Bool.{OnTrue}
use Rattle.aol_shape.specs.Shape.{IsPointOf, size, rank, point_at}
use Rattle.aol_shape.proofs.Points.{point_at-is, rank-point_at}

-- the space of the entries that are left has `b` points, and its point with rank `x` comes after the indices in front
pub record Unranks (d front whole : List ℕ) (b x : ℕ) : Type 0 where
  pub after : b ≡ size d
  pub within : x < b
  pub found : front ++ point_at d x ≡ whole

some_left : (n s x : ℕ) → x < n * s → 0 < n
some_left zero s x h = let none : 0 * s ≡ 0 = grind arith in absurd (omega (arith, h, none))
some_left (suc n) s x h = omega arith

some_right : (n s x : ℕ) → x < n * s → 0 < s
some_right n zero x h = let none : n * 0 ≡ 0 = grind arith in absurd (omega (arith, h, none))
some_right n (suc s) x h = omega arith

-- what one more index needs, and what is left
pub record OneMore (entries point whole : List ℕ) (k b x : ℕ) : Type 0 where
  pub entry_some : 0 < get_or entries k 0
  pub rest_some : 0 < b / get_or entries k 0
  pub next : Unranks (drop (k + 1) entries) (take (k + 1) (set point k (x / (b / get_or entries k 0)))) whole (b / get_or entries k 0) (x % (b / get_or entries k 0))

drop-next : (l : List ℕ) (j : ℕ) → j < length l → drop j l ≡ get_or l j 0 ∷ drop (j + 1) l
drop-next l j h = rw (add-one, drop-cons l j 0)

pub one_more : (entries point whole : List ℕ) (k b x : ℕ) → k < length entries → length point ≡ length entries → Unranks (drop k entries) (take k point) whole b x → OneMore entries point whole k b x
one_more entries point whole k b x less same u =
    let n : ℕ = get_or entries k 0 in
    let s : List ℕ = drop (k + 1) entries in
    let split = drop-next entries k less in
    let all : b ≡ n * size s = u.after ∙ ap size split in
    let low : x < n * size s = omega (arith, u.within, all) in
    let some : 0 < n = some_left n (size s) x low in
    let after : b / n ≡ size s = ap (λ z. z / n) all ∙ mul-div_cancel_left (size s) some in
    let left : 0 < b / n = omega (arith, after, some_right n (size s) x low) in
    let whole_is : take k point ++ (x / (b / n)) ∷ point_at s (x % (b / n)) ≡ whole =
    ap (λ z. take k point ++ (x / z) ∷ point_at s (x % z)) after ∙ (ap (λ d. take k point ++ point_at d x) (sym split) ∙ u.found) in
    let front : take (k + 1) (set point k (x / (b / n))) ≡ take k point ++ (x / (b / n)) ∷ [] = take_more_set point k (x / (b / n)) (omega (arith, less, same)) in
    record {
      entry_some = some;
      rest_some = left;
      next = record {
        after = after;
        within = mod-lt x left;
        found = ap (λ f. f ++ point_at s (x % (b / n))) front ∙ (append_assoc (take k point) ((x / (b / n)) ∷ []) (point_at s (x % (b / n))) ∙ whole_is);
      };
    }

-- ---- from one point to another

pub is_point : (entries point : List ℕ) (count from : ℕ) → count ≡ size entries → from < count → point ≡ point_at entries from → IsPointOf entries point
is_point entries point count from many low is = subst (IsPointOf entries) (sym is) (point_at-is entries from (omega (arith, many, low)))

-- the next point is that with the next rank
pub moved_next : (entries point new : List ℕ) (count from to : ℕ) (goes : Bool) → count ≡ size entries → from < count → point ≡ point_at entries from → to ≡ from + 1 → to < count
    → IsTrue goes ↔ (rank entries point + 1 < size entries) → OnTrue goes (new ≡ point_at entries (rank entries point + 1)) → new ≡ point_at entries to
moved_next entries point new count from to goes many low is step below more next =
    let number : rank entries point ≡ from = ap (rank entries) is ∙ rank-point_at entries from (omega (arith, many, low)) in
    let same : rank entries point + 1 ≡ to = omega (arith, number, step) in
    let less : rank entries point + 1 < size entries = omega (arith, same, below, many) in
    told goes (more.1 less) next ∙ ap (point_at entries) same
  where
    told : (b : Bool) → IsTrue b → OnTrue b (new ≡ point_at entries (rank entries point + 1)) → new ≡ point_at entries (rank entries point + 1)
    told true h k = k
    told false h k = cc
