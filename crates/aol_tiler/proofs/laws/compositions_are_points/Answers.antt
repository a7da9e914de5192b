use Rattle.aol_tiler.proofs.Composites.{composed_addresses}
use Rattle.aol_tiler.proofs.laws.compositions_are_points.Goals as goal

-- src/laws.rt:9:1
pub returns : goal.returns
returns c = composed_addresses
