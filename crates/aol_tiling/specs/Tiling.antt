-- What a tiling asks for.
use Rattle.std.specs.Prelude.{ℕ, List}
use Rattle.aol_tiler.specs.Makers.{IsBlockable}
use Rattle.aol_tiler.specs.Matrices.{TilerOf}

-- the tiler can be made one of blocks
abbrev pub CanBlock : List ℕ → TilerOf → Type 0
CanBlock block t = IsBlockable t block
