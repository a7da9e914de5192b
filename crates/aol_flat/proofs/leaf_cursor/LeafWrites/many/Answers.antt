use Rattle.std.proofs.Common.{◌∙◌, ap}
use Rattle.aol_flat.specs.Cursor.{CursorOf}
use Rattle.aol_flat.specs.LeafCursor.{writes_each}
use Rattle.aol_flat.proofs.Alongs.{each_writes}
use Rattle.aol_flat.proofs.leaf_cursor.LeafWrites.many.Goals as goal

pub returns-clause-each : goal.returns-clause-each
returns-clause-each c = each_writes c.args.self.now c.self.inside.many (c.self.invariant.on.many_is ∙ ap (λ (v : CursorOf). writes_each v.flat.model v.leaf) c.self.view_is)
