-- Laws of shapes and their points.
use Rattle.std.specs.Prelude.{◌≡◌, ℕ, ◌<◌, List}
use Rattle.aol_shape.specs.Shape.{size, IsPointOf, rank, point_at}

-- each point has a rank below the size and is the point with that rank; each number below the size is the rank of its point
abbrev pub RanksCorrespond : Type 0
RanksCorrespond = ((shape point : List ℕ) → IsPointOf shape point → (rank shape point < size shape) × (point_at shape (rank shape point) ≡ point))
    × ((shape : List ℕ) (x : ℕ) → x < size shape → IsPointOf shape (point_at shape x) × (rank shape (point_at shape x) ≡ x))
