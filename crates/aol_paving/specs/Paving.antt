-- What a change of paving asks for.
use Rattle.std.specs.Prelude.{◌≡◌, ℕ, ◌+◌, ◌≤◌, true, List, length}
use Rattle.aol_tiler.specs.Makers.{AreComposable}
use Rattle.aol_tiler.specs.Tiler.{has_entries}
use Rattle.aol_paving.specs.declared.crossing.Crossing.{Crossing}

-- a space and the innermost port have room in one shape
abbrev pub HasRoom : List ℕ → Crossing → Type 0
HasRoom space c = length space + length c.port.shape ≤ 12

-- the inner tiler is over the pattern of the outer one; a block has the rank of the outer level, and the inner level has this space
pub record Meet (space block : List ℕ) (c : Crossing) : Type 0 where
  pub outer_even : has_entries c.outer.tiler (length c.outer.tiler.origin) ≡ true
  pub inner_even : has_entries c.inner.tiler (length c.outer.tiler.fitting) ≡ true
  pub block_rank : length block ≡ length c.outer.tiler.paving
  pub space_rank : length space ≡ length c.inner.tiler.paving
  pub pattern_rank : length c.port.shape ≡ length c.inner.tiler.fitting

-- both tilers can be made one, and it can be made one of blocks
pub record CanCross (block : List ℕ) (c : Crossing) : Type 0 where
  pub composable : AreComposable c.outer.tiler c.inner.tiler
  pub block_rank : length block ≡ length c.outer.tiler.paving
  pub room : length c.outer.tiler.paving + length c.inner.tiler.paving + length c.inner.tiler.fitting ≤ 12
