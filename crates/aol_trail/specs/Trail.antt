-- A trail: the way of a port's elements through tilers, level by level outwards, to an array that is stored.
use Rattle.std.specs.Prelude.{ℕ, ◌+◌, ◌*◌, ◌^◌, ◌<◌, ◌≤◌, List, [], ◌∷◌, map, take, drop, length}
use Rattle.std.specs.List.{AllByRecursion}
use Rattle.aol_shape.specs.Shape.{IsPointOf, size, rank, point_at}
use Rattle.aol_tiler.specs.Matrices.{TilerOf}
use Rattle.aol_tiler.specs.Tiler.{address}

-- a tiler on the way, and the repetition where it stands; the indices of its repetitions begin at `from` among those of an instance
pub record StepOf : Type 0 where
  pub tiler : TilerOf
  pub array : List ℕ
  pub space : List ℕ
  pub pattern : List ℕ
  pub from : ℕ
  pub r : List ℕ

-- the rank of the element of its array that the pattern element of rank x is
abbrev pub step_rank : StepOf → ℕ → ℕ
step_rank s x = address s.tiler s.array s.r (point_at s.pattern x)

-- the rank of the element at the end of some steps, the innermost first
abbrev pub rank_on : List StepOf → ℕ → ℕ
rank_on [] x = x
rank_on (s ∷ ss) x = rank_on ss (step_rank s x)

-- the element of rank x is inside the pattern, and so it is at each step
abbrev pub Reaches : List StepOf → ℕ → Type 0
Reaches [] x = Unit {0}
Reaches (s ∷ ss) x = (x < size s.pattern) × Reaches ss (step_rank s x)

-- some steps, and the cell at which the array at their end begins for the instance where the trail stands; that of the first instance is `first`, and each has an array of `many` cells
pub record TrailOf : Type 0 where
  pub steps : List StepOf
  pub around : List ℕ
  pub first : ℕ
  pub many : ℕ
  pub base : ℕ

-- the cell of the element of rank x
abbrev pub cell_on : TrailOf → ℕ → ℕ
cell_on t x = t.base + rank_on t.steps x

-- ---- at another instance

-- the indices of a step's repetition among those of an instance
abbrev pub repetition_at : StepOf → List ℕ → List ℕ
repetition_at s at = take (length s.space) (drop s.from at)

abbrev pub step_at : List ℕ → StepOf → StepOf
step_at at s = record s { r = repetition_at s at }

-- where the array at the end begins
abbrev pub base_at : List ℕ → TrailOf → ℕ
base_at at t = t.first + rank t.around (take (length t.around) at) * t.many

abbrev pub trail_at : List ℕ → TrailOf → TrailOf
trail_at at t = record t { steps = map (step_at at) t.steps; base = base_at at t }

-- a step has a repetition there
pub record IsStepAt (at : List ℕ) (s : StepOf) : Type 0 where
  pub enough : s.from + length s.space ≤ length at
  pub inside : IsPointOf s.space (repetition_at s at)

-- all steps have, and the end has an array
pub record IsTrailAt (at : List ℕ) (t : TrailOf) : Type 0 where
  pub steps : AllByRecursion (IsStepAt at) t.steps
  pub enough : length t.around ≤ length at
  pub inside : IsPointOf t.around (take (length t.around) at)
  pub low : rank t.around (take (length t.around) at) < 2 ^ 32
  pub small : base_at at t < 2 ^ 32
