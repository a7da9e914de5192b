use Rattle.aol_tiler.proofs.Blocks.{blocked_addresses}
use Rattle.aol_tiler.proofs.laws.blocks_are_repetitions.Goals as goal

-- src/laws.rt:4:1
pub returns : goal.returns
returns c = blocked_addresses
