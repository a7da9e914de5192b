-- Tilers that write one array, and their pairs.
use Rattle.std.specs.Prelude.{◌≡◌, ℕ, ◌*◌, ◌/◌, ◌%◌, List, flat_map}
use Rattle.aol_shape.specs.Shape.{IsShape, size, point_at}
use Rattle.aol_tiler.specs.Tiler.{Fits}
use Rattle.aol_flat.specs.Targets.{Writing, writings_of}
use Rattle.aol_flat.specs.declared.view.Writer.{Writer}
use Rattle.aol_assign.specs.declared.pairs.Member.{Member}

-- how many pairs it has
abbrev pub pair_count : Member → ℕ
pair_count b = size b.space.now * size b.pattern.now

-- the tiler fits the array with its space and pattern, and the three are shapes
pub record FitsIn (array : List ℕ) (b : Member) : Type 0 where
  pub fits : Fits b.tiler.now array b.space.now b.pattern.now
  pub array_shape : IsShape array
  pub space_shape : IsShape b.space.now
  pub pattern_shape : IsShape b.pattern.now

-- the pair with a number
abbrev pub IsPair : Member → ℕ → Writer → Type 0
IsPair b number w =
    w ≡ record { item = b.item; rep = point_at b.space.now (number / size b.pattern.now); pattern = point_at b.pattern.now (number % size b.pattern.now) }

-- what it writes into the array
abbrev pub member_writings : List ℕ → Member → List Writing
member_writings array b = writings_of b.item b.tiler.now array b.space.now b.pattern.now

-- what all of some write
abbrev pub all_writings : List ℕ → List Member → List Writing
all_writings array bs = flat_map (member_writings array) bs
