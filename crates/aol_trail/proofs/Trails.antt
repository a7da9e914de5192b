-- Trails moved, and their cells.
use Rattle.std.proofs.Common.{◌≡◌, ℕ, zero, suc, ◌+◌, ◌*◌, ◌<◌, ◌≤◌, List, [], ◌∷◌, ◌++◌, length, take, drop, map, get_or, set, append-nil, refl, sym, ◌∙◌, ap, arith, subst}
use Rattle.std.proofs.Math.Nat.{mul-le-mul_left}
use Rattle.std.specs.List.{AllByRecursion}
use Rattle.std.proofs.lemmas.List.{take_all, drop_all}
use Rattle.aol_shape.specs.Shape.{IsPointOf, rank}
use Rattle.aol_shape.proofs.Points.{rank-append}
use Rattle.aol_shape.proofs.Steps.{AreApart, point_before}
use Rattle.aol_trail.specs.Trail.{StepOf, IsStepAt, step_at}

last_index : (es ps : List ℕ) (e i : ℕ) → IsPointOf (es ++ e ∷ []) (ps ++ i ∷ []) → i < e
last_index [] [] e i h = h.0
last_index [] (p ∷ []) e i h = absurd h.1
last_index [] (p ∷ (q ∷ ps)) e i h = absurd h.1
last_index (n ∷ []) [] e i h = absurd h.1
last_index (n ∷ (k ∷ es)) [] e i h = absurd h.1
last_index (n ∷ es) (p ∷ ps) e i h = last_index es ps e i h.1

-- the last index is added to the rank of those before it
pub record EndsBy (shape point es ps : List ℕ) (e i : ℕ) : Type 0 where
  pub before : IsPointOf es ps
  pub is : rank es ps * e + i ≡ rank shape point
  pub less : rank es ps ≤ rank shape point

pub ends_by : (shape point es ps : List ℕ) (e i : ℕ) → AreApart shape point es ps e i → EndsBy shape point es ps e i
ends_by shape point es ps e i apart =
    let inside : IsPointOf es ps = point_before apart in
    let there : IsPointOf (es ++ e ∷ []) (ps ++ i ∷ []) = subst (λ p. IsPointOf (es ++ e ∷ []) p) apart.point_is (subst (λ s. IsPointOf s point) apart.shape_is apart.inside) in
    let some : 1 ≤ e = omega (arith, last_index es ps e i there) in
    let number : rank shape point ≡ rank es ps * e + i = ap (λ s. rank s point) apart.shape_is ∙ (ap (rank (es ++ e ∷ [])) apart.point_is ∙ rank-append es ps e i inside) in
    record { before = inside; is = sym number; less = omega (arith, number, mul-le-mul_left (rank es ps) some) }

-- ---- levels moved one after another

-- so many have moved
abbrev pub moved_so_far : List ℕ → List StepOf → ℕ → List StepOf
moved_so_far at old k = map (step_at at) (take k old) ++ drop k old

next_is : (at : List ℕ) (old : List StepOf) (k : ℕ) (d : StepOf) → k < length old → get_or (moved_so_far at old k) k d ≡ get_or old k d
next_is at [] k d h = absurd (omega (arith, h))
next_is at (x ∷ old) zero d h = refl
next_is at (x ∷ old) (suc k) d h = next_is at old k d (omega (arith, h))

one_moved : (at : List ℕ) (old : List StepOf) (k : ℕ) (y d : StepOf) → k < length old → y ≡ step_at at (get_or old k d) → set (moved_so_far at old k) k y ≡ moved_so_far at old (suc k)
one_moved at [] k y d h e = absurd (omega (arith, h))
one_moved at (x ∷ old) zero y d h e = ap (λ z. z ∷ old) e
one_moved at (x ∷ old) (suc k) y d h e = ap (λ zs. step_at at x ∷ zs) (one_moved at old k y d (omega (arith, h)) e)

all_at : (P : StepOf → Type 0) (xs : List StepOf) (k : ℕ) (d : StepOf) → AllByRecursion P xs → k < length xs → P (get_or xs k d)
all_at P [] k d a h = absurd (omega (arith, h))
all_at P (x ∷ xs) zero d a h = a.0
all_at P (x ∷ xs) (suc k) d a h = all_at P xs k d a.1 (omega (arith, h))

-- the next one can move
pub next_can : (at : List ℕ) (old levels : List StepOf) (k : ℕ) (d : StepOf) → AllByRecursion (IsStepAt at) old → k < length old → levels ≡ moved_so_far at old k → IsStepAt at (get_or levels k d)
next_can at old levels k d all h is = subst (IsStepAt at) (sym (ap (λ ls. get_or ls k d) is ∙ next_is at old k d h)) (all_at (IsStepAt at) old k d all h)

-- and then one more has
pub moved_one : (at : List ℕ) (old levels : List StepOf) (k : ℕ) (y d : StepOf) → k < length old → levels ≡ moved_so_far at old k → y ≡ step_at at (get_or levels k d) → set levels k y ≡ moved_so_far at old (k + 1)
moved_one at old levels k y d h is e =
    let more : suc k ≡ k + 1 = omega arith in
    ap (λ ls. set ls k y) is ∙ (one_moved at old k y d h (e ∙ ap (step_at at) (ap (λ ls. get_or ls k d) is ∙ next_is at old k d h)) ∙ ap (moved_so_far at old) more)

pub moved_all : (at : List ℕ) (old : List StepOf) (k : ℕ) → length old ≤ k → moved_so_far at old k ≡ map (step_at at) old
moved_all at old k h = ap (λ xs. map (step_at at) xs ++ drop k old) (take_all k old h) ∙ (ap (λ xs. map (step_at at) old ++ xs) (drop_all k old h) ∙ append-nil (map (step_at at) old))
