-- Each step leaves fewer.
use Rattle.std.proofs.Common.{◌≡◌, ℕ, zero, suc, ◌+◌, ◌*◌, ◌<◌, ◌≤◌, List, [], ◌∷◌, length, slice_get, set, Some, ap, arith}
use Rattle.std.specs.List.{IsAmong, count_by, sum_by}
use Rattle.std.proofs.Math.Nat.{mul-le-mul_left}
use Rattle.std.proofs.lemmas.List.Sums.{sum_by-cons}
use Rattle.aol_depend.specs.declared.search.Mark.{Mark}
use Rattle.aol_depend.specs.declared.search.Mark.TheVariants.{New, Open, Ranked}
use Rattle.aol_depend.specs.declared.search.Visit.{Visit}
use Rattle.aol_depend.specs.Needs.{Rows, row}
use Rattle.aol_depend.specs.Search.{is_new, doomed, steps_of, steps_left}
use Rattle.aol_depend.proofs.Dooming.{names, news-doomed}
use Rattle.aol_depend.proofs.Entering.{first_visit, next_visit}
use Rattle.aol_depend.proofs.Ranking.{count-set}

-- no row is longer than all of them
row-short : (needs : Rows) (j : ℕ) → length (row needs j) ≤ sum_by length needs
row-short [] j = omega arith
row-short (r ∷ rs) zero = omega (arith, sum_by-cons length r rs)
row-short (r ∷ rs) (suc j) = let later = row-short rs j in omega (arith, later, sum_by-cons length r rs)

pub ranking_less : (needs : Rows) (marks : List Mark) (v : Visit) (vs : List Visit) → slice_get marks v.instance ≡ Some Open → steps_left needs (set marks v.instance Ranked) vs < steps_left needs marks (v ∷ vs)
ranking_less needs marks v vs at =
    let same = count-set is_new marks v.instance Open Ranked at in
    let equal : count_by is_new (set marks v.instance Ranked) ≡ count_by is_new marks = omega (arith, same) in
    omega (arith, ap (λ n. n * (2 * sum_by length needs + 3)) equal, sum_by-cons (steps_of needs) v vs)

pub entering_less : (needs : Rows) (marks : List Mark) (k : ℕ) (vs : List Visit) → slice_get marks k ≡ Some New → steps_left needs (set marks k Open) (first_visit k ∷ vs) < steps_left needs marks vs
entering_less needs marks k vs at =
    let same = count-set is_new marks k New Open at in
    let equal : count_by is_new marks ≡ count_by is_new (set marks k Open) + 1 = omega (arith, same) in
    omega (arith, ap (λ n. n * (2 * sum_by length needs + 3)) equal, sum_by-cons (steps_of needs) (first_visit k) vs, row-short needs k)

pub passing_less : (needs : Rows) (marks : List Mark) (v : Visit) (level : ℕ) (vs : List Visit) → v.next < length (row needs v.instance) → steps_left needs marks (next_visit v level ∷ vs) < steps_left needs marks (v ∷ vs)
passing_less needs marks v level vs within = omega (arith, within, sum_by-cons (steps_of needs) v vs, sum_by-cons (steps_of needs) (next_visit v level) vs)

pub dooming_less : (needs : Rows) (marks : List Mark) (v : Visit) (vs : List Visit) → ((j : ℕ) → IsAmong (names (v ∷ vs)) j → j < length marks) → steps_left needs (doomed marks (v ∷ vs)) [] < steps_left needs marks (v ∷ vs)
dooming_less needs marks v vs within =
    let fewer = news-doomed marks (v ∷ vs) within in
    omega (arith, mul-le-mul_left (2 * sum_by length needs + 3) fewer, sum_by-cons (steps_of needs) v vs)
