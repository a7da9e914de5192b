use Rattle.aol_transform.proofs.Told.{tiled_map, paved_map}
use Rattle.aol_transform.proofs.step.made.Goals as goal

pub returns-in-Tile-clause-map : goal.returns-in-Tile-clause-map
returns-in-Tile-clause-map c = tiled_map _ _ _ _ _ c.tile.result c.told.result c.in-Tile.is c.told.ensures c.tile.ensures.alike c.tile.ensures.map

pub returns-in-Pave-clause-map : goal.returns-in-Pave-clause-map
returns-in-Pave-clause-map c = paved_map _ _ _ _ c.pave.result c.told-in-Pave.result c.in-Pave.is c.told-in-Pave.ensures c.pave.ensures.alike c.pave.ensures.map
