-- Steps and trails at instances along the last index.
use Rattle.std.proofs.Common.{◌≡◌, ℕ, zero, suc, ◌+◌, ◌*◌, ◌^◌, ◌<◌, ◌≤◌, List, [], ◌∷◌, ◌++◌, length, take, drop, map, refl, sym, ◌∙◌, ap, arith, subst, inl, inr}
use Rattle.std.specs.List.{AllByRecursion}
use Rattle.std.proofs.Math.Nat.{add-mul, mul-add, mul-zero}
use Rattle.std.proofs.lemmas.Bool.{cases_lt}
use Rattle.std.proofs.lemmas.List.{take_all, length-drop}
use Rattle.aol_shape.specs.Shape.{IsPointOf, rank}
use Rattle.aol_shape.proofs.Points.{rank-append}
use Rattle.aol_shape.proofs.Steps.{AreApart, point_before}
use Rattle.aol_trail.specs.Further.{EndsAt, further, step_further}
use Rattle.aol_trail.specs.Trail.{StepOf, TrailOf, IsStepAt, IsTrailAt, Reaches, base_at, cell_on, rank_on, repetition_at, step_at, step_rank, trail_at}
use Rattle.aol_trail.proofs.Levels.{point_length}
use Rattle.aol_trail.proofs.Stretches.{further_none, last_apart}

pub length-further : (i : ℕ) (xs : List ℕ) → length (further i xs) ≡ length xs
length-further i [] = refl
length-further i (x ∷ []) = refl
length-further i (x ∷ (y ∷ ys)) = ap suc (length-further i (y ∷ ys))

drop_further : (k i : ℕ) (xs : List ℕ) → k < length xs → drop k (further i xs) ≡ further i (drop k xs)
drop_further zero i xs h = refl
drop_further (suc k) i [] h = absurd (omega (arith, h))
drop_further (suc k) i (x ∷ []) h = absurd (omega (arith, h))
drop_further (suc k) i (x ∷ (y ∷ ys)) h = drop_further k i (y ∷ ys) (omega (arith, h))

pub take_further : (k i : ℕ) (xs : List ℕ) → k < length xs → take k (further i xs) ≡ take k xs
take_further zero i xs h = refl
take_further (suc k) i [] h = absurd (omega (arith, h))
take_further (suc k) i (x ∷ []) h = absurd (omega (arith, h))
take_further (suc k) i (x ∷ (y ∷ ys)) h = ap (λ zs. x ∷ zs) (take_further k i (y ∷ ys) (omega (arith, h)))

pub further_empty : (i : ℕ) (xs : List ℕ) → length xs ≡ 0 → further i xs ≡ xs
further_empty i [] h = refl
further_empty i (x ∷ xs) h = absurd (omega (arith, h))

-- ---- steps

ended : (s : StepOf) (at : List ℕ) (i : ℕ) → EndsAt (length at) s → repetition_at s (further i at) ≡ further i (repetition_at s at)
ended s at i e =
    let low : s.from < length at = omega (arith, e.all, e.some) in
    let rest : length (drop s.from at) ≡ length s.space = omega (arith, length-drop s.from at, e.all) in
    ap (take (length s.space)) (drop_further s.from i at low)
    ∙ (take_all (length s.space) (further i (drop s.from at)) (omega (arith, length-further i (drop s.from at), rest))
    ∙ ap (further i) (sym (take_all (length s.space) (drop s.from at) (omega (arith, rest)))))

kept : (s : StepOf) (at : List ℕ) (i : ℕ) → s.from + length s.space ≤ length at → ¬ EndsAt (length at) s → repetition_at s (further i at) ≡ repetition_at s at
kept s at i enough no_end =
    elim (cases_lt 0 (length s.space)) [
      | inl some ↦
          elim (cases_lt (s.from + length s.space) (length at)) [
            | inl low ↦
                let from : s.from < length at = omega (arith, low) in
                ap (take (length s.space)) (drop_further s.from i at from) ∙ take_further (length s.space) i (drop s.from at) (omega (arith, length-drop s.from at, low))
            | inr high ↦ absurd (no_end (record { all = omega (arith, enough, high); some = some }))
          ]
      | inr none ↦
          let empty : length s.space ≡ 0 = omega (arith, none) in
          ap (λ n. take n (drop s.from (further i at))) empty ∙ sym (ap (λ n. take n (drop s.from at)) empty)
    ]

-- the last index is one of the step's repetition
pub step_ends : (s : StepOf) (at : List ℕ) (i : ℕ) → EndsAt (length at) s → step_at at s ≡ s → step_at (further i at) s ≡ step_further i s
step_ends s at i e stands = ap (λ r. record s { r = r }) (ended s at i e ∙ ap (further i) (ap (λ (z : StepOf). z.r) stands))

-- it is not
pub step_kept : (s : StepOf) (at : List ℕ) (i : ℕ) → IsStepAt at s → ¬ EndsAt (length at) s → step_at at s ≡ s → step_at (further i at) s ≡ s
step_kept s at i there no_end stands = ap (λ r. record s { r = r }) (kept s at i there.enough no_end) ∙ stands

pub steps_kept : (ss : List StepOf) (at : List ℕ) (i : ℕ) → AllByRecursion (IsStepAt at) ss → AllByRecursion (λ s. ¬ EndsAt (length at) s) ss → map (step_at at) ss ≡ ss → map (step_at (further i at)) ss ≡ ss
steps_kept [] at i there no_end stands = refl
steps_kept (s ∷ ss) at i there no_end stands =
    let own : step_at at s ≡ s = cc in
    let others : map (step_at at) ss ≡ ss = cc in
    ap (λ z. z ∷ map (step_at (further i at)) ss) (step_kept s at i there.0 no_end.0 own) ∙ ap (λ zs. s ∷ zs) (steps_kept ss at i there.1 no_end.1 others)

pub all_enough : (ss : List StepOf) (at : List ℕ) → AllByRecursion (IsStepAt at) ss → AllByRecursion (λ s. s.from + length s.space ≤ length at) ss
all_enough [] at h = tt
all_enough (s ∷ ss) at h = (h.0.enough, all_enough ss at h.1)

-- ---- the array at the end

pub rank_further : (around at : List ℕ) (i : ℕ) → IsPointOf around at → 0 < length at → rank around (further i at) ≡ rank around at + i
rank_further around at i inside some =
    let a = last_apart at some in
    let b = last_apart around (omega (arith, some, point_length around at inside)) in
    let apart : AreApart around at b.front a.front b.last a.last = record { shape_is = b.whole; point_is = a.whole; inside = inside } in
    let before : IsPointOf b.front a.front = point_before apart in
    let here : rank around at ≡ rank b.front a.front * b.last + a.last = ap (λ z. rank z at) b.whole ∙ (ap (rank (b.front ++ b.last ∷ [])) a.whole ∙ rank-append b.front a.front b.last a.last before) in
    let there : rank around (further i at) ≡ rank b.front a.front * b.last + (a.last + i) =
    ap (λ z. rank z (further i at)) b.whole ∙ (ap (rank (b.front ++ b.last ∷ [])) (a.moved i) ∙ rank-append b.front a.front b.last (a.last + i) before) in
    omega (arith, here, there)

pub base_further : (t : TrailOf) (at : List ℕ) (i : ℕ) → IsTrailAt at t → 0 < length at → length t.around ≡ length at → base_at (further i at) t ≡ base_at at t + i * t.many
base_further t at i there some whole =
    let old : take (length t.around) at ≡ at = take_all (length t.around) at (omega (arith, whole)) in
    let new : take (length t.around) (further i at) ≡ further i at = take_all (length t.around) (further i at) (omega (arith, whole, length-further i at)) in
    let inside : IsPointOf t.around at = subst (IsPointOf t.around) old there.inside in
    let moved : rank t.around (take (length t.around) (further i at)) ≡ rank t.around (take (length t.around) at) + i =
    ap (rank t.around) new ∙ (rank_further t.around at i inside some ∙ ap (λ r. r + i) (sym (ap (rank t.around) old))) in
    let product = ap (λ r. r * t.many) moved ∙ add-mul (rank t.around (take (length t.around) at)) i t.many in
    omega (arith, product)

pub base_kept : (t : TrailOf) (at : List ℕ) (i : ℕ) → length t.around < length at → base_at (further i at) t ≡ base_at at t
base_kept t at i short = ap (λ p. t.first + rank t.around p * t.many) (take_further (length t.around) i at short)

-- ---- an element's rank over some steps

-- the innermost step goes on so, and the others stay
pub ranks_on : (s : StepOf) (ss : List StepOf) (at : List ℕ) (i x inner stride : ℕ) → map (step_at (further i at)) ss ≡ ss → step_rank (step_at (further i at) s) x ≡ step_rank s x + i * inner
    → rank_on ss (step_rank s x + i * inner) ≡ rank_on ss (step_rank s x) + i * stride → rank_on (map (step_at (further i at)) (s ∷ ss)) x ≡ rank_on (s ∷ ss) x + i * stride
ranks_on s ss at i x inner stride others first later =
    ap (λ zs. rank_on zs (step_rank (step_at (further i at) s) x)) others ∙ (ap (rank_on ss) first ∙ later)

pub reached : (s : StepOf) (ss : List StepOf) (at : List ℕ) (i x inner : ℕ) → map (step_at (further i at)) ss ≡ ss → step_rank (step_at (further i at) s) x ≡ step_rank s x + i * inner
    → Reaches (map (step_at (further i at)) (s ∷ ss)) x → Reaches ss (step_rank s x + i * inner)
reached s ss at i x inner others first reach =
    subst (λ y. Reaches ss y) first (subst (λ zs. Reaches zs (step_rank (step_at (further i at) s) x)) others reach.1)

ranks_here : (ss : List StepOf) (at : List ℕ) (x : ℕ) → map (step_at at) ss ≡ ss → rank_on (map (step_at (further 0 at)) ss) x ≡ rank_on ss x
ranks_here ss at x stands = ap (λ a. rank_on (map (step_at a) ss) x) (further_none at) ∙ ap (λ zs. rank_on zs x) stands

-- ---- even at the first instance and the next one

pub even_twice : (rank_at : ℕ → ℕ) (y inner first stride : ℕ) → rank_at y ≡ first → rank_at (y + inner) ≡ first + stride → (i : ℕ) → i ≤ 1 → rank_at (y + i * inner) ≡ first + i * stride
even_twice rank_at y inner first stride none one zero le =
    let here : y + 0 * inner ≡ y = omega arith in
    ap rank_at here ∙ omega (arith, none)
even_twice rank_at y inner first stride none one (suc zero) le =
    let there : y + 1 * inner ≡ y + inner = omega arith in
    ap rank_at there ∙ omega (arith, one)
even_twice rank_at y inner first stride none one (suc (suc i)) le = absurd (omega (arith, le))

pub ranks_none : (ss : List StepOf) (at : List ℕ) (x i : ℕ) → map (step_at at) ss ≡ ss → i ≤ 0 → rank_on (map (step_at (further i at)) ss) x ≡ rank_on ss x + i * 0
ranks_none ss at x zero stands le = ranks_here ss at x stands ∙ omega arith
ranks_none ss at x (suc i) stands le = absurd (omega (arith, le))

-- ---- the innermost level and those around it

module _ (levels : List StepOf) (s : StepOf) (ss : List StepOf) (at : List ℕ) (x inner : ℕ) (whole : levels ≡ s ∷ ss) (there : AllByRecursion (IsStepAt at) levels) (stands : map (step_at at) levels ≡ levels)
    (no_end : AllByRecursion (λ z. ¬ EndsAt (length at) z) ss) where
  others : (i : ℕ) → map (step_at (further i at)) ss ≡ ss
  others i =
      let all : AllByRecursion (IsStepAt at) (s ∷ ss) = subst (AllByRecursion (IsStepAt at)) whole there in
      let same : map (step_at at) (s ∷ ss) ≡ s ∷ ss = subst (λ ls. map (step_at at) ls ≡ ls) whole stands in
      let own : map (step_at at) ss ≡ ss = cc in
      steps_kept ss at i all.1 no_end own

  pub reach_outer : (i y : ℕ) → y ≡ step_rank s x → step_rank (step_at (further i at) s) x ≡ step_rank s x + i * inner → Reaches (map (step_at (further i at)) levels) x → Reaches ss (y + i * inner)
  reach_outer i y is first reach =
      subst (λ n. Reaches ss (n + i * inner)) (sym is) (reached s ss at i x inner (others i) first (subst (λ ls. Reaches (map (step_at (further i at)) ls) x) whole reach))

  pub rank_levels : (i y stride : ℕ) → y ≡ step_rank s x → step_rank (step_at (further i at) s) x ≡ step_rank s x + i * inner → rank_on ss (y + i * inner) ≡ rank_on ss y + i * stride
      → rank_on (map (step_at (further i at)) levels) x ≡ rank_on levels x + i * stride
  rank_levels i y stride is first later =
      subst (λ ls. rank_on (map (step_at (further i at)) ls) x ≡ rank_on ls x + i * stride) (sym whole)
      (ranks_on s ss at i x inner stride (others i) first (subst (λ n. rank_on ss (n + i * inner) ≡ rank_on ss n + i * stride) is later))

-- ---- the cell of an element

pub base_empty : (t : TrailOf) (at : List ℕ) (i : ℕ) → length at ≡ 0 → base_at (further i at) t ≡ base_at at t + i * 0
base_empty t at i none = ap (λ p. base_at p t) (further_empty i at none) ∙ omega (arith, mul-zero i)

pub base_short : (t : TrailOf) (at : List ℕ) (i : ℕ) → IsTrailAt at t → ¬ (length t.around ≡ length at) → base_at (further i at) t ≡ base_at at t + i * 0
base_short t at i there other = let less : length t.around < length at = omega (arith, there.enough, other) in base_kept t at i less ∙ omega (arith, mul-zero i)

pub cell_further : (t : TrailOf) (at : List ℕ) (x i stride more : ℕ) → trail_at at t ≡ t → rank_on (map (step_at (further i at)) t.steps) x ≡ rank_on t.steps x + i * stride → base_at (further i at) t ≡ base_at at t + i * more
    → cell_on (trail_at (further i at) t) x ≡ cell_on t x + i * (stride + more)
cell_further t at x i stride more stands ranks bases =
    let base : base_at at t ≡ t.base = ap (λ (z : TrailOf). z.base) stands in
    omega (arith, ranks, bases, base, mul-add i stride more)

pub cell_here : (t : TrailOf) (at : List ℕ) (x i stride : ℕ) → trail_at at t ≡ t → i ≤ 0 → cell_on (trail_at (further i at) t) x ≡ cell_on t x + i * stride
cell_here t at x zero stride stands le = ap (λ a. cell_on (trail_at a t) x) (further_none at) ∙ (ap (λ (z : TrailOf). cell_on z x) stands ∙ omega arith)
cell_here t at x (suc i) stride stands le = absurd (omega (arith, le))

-- a number is no less than what is added to it once
pub once_small : (y stride more : ℕ) → y + 1 * (stride + more) < 2 ^ 32 → stride + more < 2 ^ 32
once_small y stride more h = omega (arith, h)
