-- What a search has found at its end.
use Rattle.std.proofs.Common.{◌≡◌, ◌<◌, ◌^◌, fold, max, ℕ, zero, suc, ◌+◌, List, [], ◌∷◌, length, slice_get, get_or, Some, ap, ◌∙◌, arith, refl, subst}
use Rattle.std.specs.List.{IsAmong}
use Rattle.std.proofs.lemmas.List.Sums.{count_by-le-length}
use Rattle.std.proofs.lemmas.Option.{slice_get-get_or}
use Rattle.aol_flat.proofs.Agree.{IsAmong-tail}
use Rattle.aol_depend.specs.declared.search.Mark.{Mark}
use Rattle.aol_depend.specs.declared.search.Mark.TheVariants.{New, Open, Ranked, Doomed}
use Rattle.aol_depend.specs.Needs.{Rows, row, HaveLevels, IsCircling, IsFirstCircling}
use Rattle.aol_depend.specs.Search.{IsAt, is_ranked}
use Rattle.aol_depend.proofs.Moves.{above_all-over}

-- all that is doomed, from some number on
doomed_from : ℕ → List Mark → List ℕ
doomed_from n [] = []
doomed_from n (Doomed ∷ ms) = n ∷ doomed_from (n + 1) ms
doomed_from n (New ∷ ms) = doomed_from (n + 1) ms
doomed_from n (Open ∷ ms) = doomed_from (n + 1) ms
doomed_from n (Ranked ∷ ms) = doomed_from (n + 1) ms

-- each doomed one is listed, and each listed one is doomed
listed : (n : ℕ) (ms : List Mark) (j : ℕ) → slice_get ms j ≡ Some Doomed → IsAmong (doomed_from n ms) (n + j)
unfolding doomed_from
listed n [] j h = cc
listed n (Doomed ∷ ms) zero h = (0, (omega arith, omega arith))
listed n (New ∷ ms) zero h = cc
listed n (Open ∷ ms) zero h = cc
listed n (Ranked ∷ ms) zero h = cc
listed n (Doomed ∷ ms) (suc j) h = let P : ℕ → Type 0 = λ k. IsAmong (doomed_from (n + 1) ms) k in IsAmong-tail n (doomed_from (n + 1) ms) (n + suc j) (subst P (omega arith) (listed (n + 1) ms j h))
listed n (New ∷ ms) (suc j) h = let P : ℕ → Type 0 = λ k. IsAmong (doomed_from (n + 1) ms) k in subst P (omega arith) (listed (n + 1) ms j h)
listed n (Open ∷ ms) (suc j) h = let P : ℕ → Type 0 = λ k. IsAmong (doomed_from (n + 1) ms) k in subst P (omega arith) (listed (n + 1) ms j h)
listed n (Ranked ∷ ms) (suc j) h = let P : ℕ → Type 0 = λ k. IsAmong (doomed_from (n + 1) ms) k in subst P (omega arith) (listed (n + 1) ms j h)

record IsListed (n : ℕ) (ms : List Mark) (i : ℕ) : Type 0 where
  place : ℕ
  number : i ≡ n + place
  is : slice_get ms place ≡ Some Doomed

later_listed : (n : ℕ) (m : Mark) (ms : List Mark) (i : ℕ) → IsListed (n + 1) ms i → IsListed n (m ∷ ms) i
later_listed n m ms i r = record { place = suc r.place; number = omega (arith, r.number); is = r.is }

listed_back : (n : ℕ) (ms : List Mark) (i : ℕ) → IsAmong (doomed_from n ms) i → IsListed n ms i
unfolding doomed_from
listed_back n [] i h = absurd (omega (arith, h.1.0))
listed_back n (Doomed ∷ ms) i (zero, h) = record { place = 0; number = omega (arith, h.1); is = refl }
listed_back n (Doomed ∷ ms) i (suc k, h) = later_listed n Doomed ms i (listed_back (n + 1) ms i (k, (omega (arith, h.0), h.1)))
listed_back n (New ∷ ms) i h = later_listed n New ms i (listed_back (n + 1) ms i h)
listed_back n (Open ∷ ms) i h = later_listed n Open ms i (listed_back (n + 1) ms i h)
listed_back n (Ranked ∷ ms) i h = later_listed n Ranked ms i (listed_back (n + 1) ms i h)

-- a doomed instance is one of a set in which each needs one of the set
pub circling : (needs : Rows) (marks : List Mark) (levels : List ℕ) (count j : ℕ) → IsAt needs marks levels count [] → slice_get marks j ≡ Some Doomed → IsCircling needs j
circling needs marks levels count j h is = record {
  set = doomed_from 0 marks;
  within = let P : ℕ → Type 0 = λ k. IsAmong (doomed_from 0 marks) k in subst P (omega arith) (listed 0 marks j is);
  goes_on = λ i a.
      let r = listed_back 0 marks i a in
      let at : slice_get marks i ≡ Some Doomed = ap (slice_get marks) (omega (arith, r.number)) ∙ r.is in
      let d = h.dooms i at in
      let P : ℕ → Type 0 = λ k. IsAmong (doomed_from 0 marks) k in
      (d.0, subst P (omega arith) (listed 0 marks d.0 d.2), d.1);
}

-- one that has a level is none of such a set
pub not_circling : (needs : Rows) (marks : List Mark) (levels : List ℕ) (count : ℕ) → IsAt needs marks levels count [] → (n i : ℕ) → get_or levels i 0 < n → slice_get marks i ≡ Some Ranked → IsCircling needs i → ⊥
not_circling needs marks levels count h zero i low is c = omega (arith, low)
not_circling needs marks levels count h (suc n) i low is c =
    let r = c.goes_on i c.within in
    let has = h.ranks i is in
    let below = above_all-over levels (row needs i) r.0 r.2 in
    not_circling needs marks levels count h n r.0 (omega (arith, low, below, has.level)) (has.needed r.0 r.2) (record { set = c.set; within = r.1; goes_on = c.goes_on })

-- at the end each instance has a level or is doomed
pub settled : (needs : Rows) (marks : List Mark) (levels : List ℕ) (count : ℕ) → IsAt needs marks levels count [] → ((j : ℕ) → slice_get marks j ≡ Some New → ⊥)
    → (i : ℕ) → i < length needs → (slice_get marks i ≡ Some Doomed → ⊥) → slice_get marks i ≡ Some Ranked
settled needs marks levels count h none i within not =
    let at : slice_get marks i ≡ Some (get_or marks i New) = slice_get-get_or marks i New (omega (arith, within, h.many_marks)) in
    go (get_or marks i New) at
  where
    go : (m : Mark) → slice_get marks i ≡ Some m → slice_get marks i ≡ Some Ranked
    go New at = absurd (none i at)
    go Open at = absurd (let a = h.opens i at in omega (arith, a.1.0))
    go Ranked at = at
    go Doomed at = absurd (not at)

pub first_circling : (needs : Rows) (marks : List Mark) (levels : List ℕ) (count j : ℕ) → IsAt needs marks levels count [] → ((i : ℕ) → slice_get marks i ≡ Some New → ⊥)
    → j < length needs → slice_get marks j ≡ Some Doomed → ((i : ℕ) → i < j → slice_get marks i ≡ Some Doomed → ⊥) → IsFirstCircling needs j
first_circling needs marks levels count j h none within is earlier = record {
  circling = circling needs marks levels count j h is;
  first = λ i lt c. not_circling needs marks levels count h (get_or levels i 0 + 1) i (omega arith) (settled needs marks levels count h none i (omega (arith, lt, within)) (earlier i lt)) c;
}

pub have_levels : (needs : Rows) (marks : List Mark) (levels : List ℕ) (count : ℕ) → IsAt needs marks levels count [] → ((i : ℕ) → slice_get marks i ≡ Some New → ⊥)
    → ((i : ℕ) → i < length needs → slice_get marks i ≡ Some Doomed → ⊥) → HaveLevels needs levels
have_levels needs marks levels count h none all = record {
  many = h.many_levels;
  each = λ j within. (h.ranks j (settled needs marks levels count h none j within (all j within))).level;
}

-- the greatest of numbers that are below a bound is below it, or is the number at the start
pub most_below : (levels : List ℕ) (n a : ℕ) → a + 1 < 2 ^ 32 → n < 2 ^ 32 → ((j : ℕ) → j < length levels → get_or levels j 0 < n) → fold max a levels + 1 < 2 ^ 32
most_below [] n a start bound low = start
most_below (x ∷ xs) n a start bound low =
    let here : x < n = low 0 (omega arith) in
    most_below xs n (max a x) (omega (arith, start, here, bound)) bound (λ j lt. low (suc j) (omega (arith, lt)))

-- there is room for one more than the greatest level
pub levels_fit : (needs : Rows) (marks : List Mark) (levels : List ℕ) (count : ℕ) → IsAt needs marks levels count [] → ((i : ℕ) → slice_get marks i ≡ Some New → ⊥)
    → ((i : ℕ) → i < length needs → slice_get marks i ≡ Some Doomed → ⊥) → fold max 0 levels + 1 < 2 ^ 32
levels_fit needs marks levels count h none all =
    most_below levels count 0 (omega arith) (omega (arith, h.count, count_by-le-length is_ranked marks, h.many_marks, h.few))
    (λ j lt. h.low j (let within : j < length needs = omega (arith, lt, h.many_levels) in settled needs marks levels count h none j within (all j within)))
