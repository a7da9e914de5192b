-- Instances along the last index, and how ranks and cells go on there.
use Rattle.std.specs.Prelude.{◌≡◌, ℕ, ◌+◌, ◌*◌, ◌<◌, List, [], ◌∷◌, length, sum}
use Rattle.aol_trail.specs.Level.{step_of}
use Rattle.aol_trail.specs.Trail.{StepOf}

-- the last index is so much more, and the others are the same
abbrev pub further : ℕ → List ℕ → List ℕ
further i [] = []
further i (x ∷ []) = (x + i) ∷ []
further i (x ∷ (y ∷ ys)) = x ∷ further i (y ∷ ys)

-- the last of so many indices is one of this step's repetition
pub record EndsAt (n : ℕ) (s : StepOf) : Type 0 where
  pub all : s.from + length s.space ≡ n
  pub some : 0 < length s.space

-- what one more repetition in the last dimension adds to the rank of an element, unless an index wraps
abbrev pub stride_of : StepOf → ℕ
stride_of s = sum (step_of s.tiler.paving s.array)

-- the step at a repetition that is so much further
abbrev pub step_further : ℕ → StepOf → StepOf
step_further i s = record s { r = further i s.r }

-- the strides can be added so often with no entry coming to its modulus
abbrev pub HasRoom : ℕ → List ℕ → List ℕ → List ℕ → Type 0
HasRoom i [] ms ss = Unit {0}
HasRoom i (v ∷ vs) [] ss = Unit {0}
HasRoom i (v ∷ vs) (m ∷ ms) [] = Unit {0}
HasRoom i (v ∷ vs) (m ∷ ms) (s ∷ ss) = (v + i * s < m) × HasRoom i vs ms ss
