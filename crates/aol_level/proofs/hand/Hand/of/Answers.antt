use Rattle.std.proofs.Common.{◌∙◌, ap}
use Rattle.aol_flat.specs.Cursor.{CursorOf}
use Rattle.aol_flat.specs.LeafCursor.{reads_each}
use Rattle.aol_level.proofs.Cursored.{first_next, most_next, max_above}
use Rattle.aol_level.proofs.hand.Hand.of.Goals as goal

pub loop-leaf-preserved : goal.loop-leaf-preserved
loop-leaf-preserved c =
    let f = c.args.flat.now in
    let n = c.loop-leaf.leaf in
    let before = c.loop-leaf.invariant in
    let next = first_next f c.loop-leaf.cursors.items c.push.new.cursors.items c.in_ok-cursor.cursor n before.many before.first c.in_ok-push.ensures c.in_ok-cursor.ensures in
    let own = c.many.ensures.same ∙ ap (λ (v : CursorOf). reads_each v.flat.model v.leaf) c.in_ok-cursor.ensures in
    let above = max_above c.loop-leaf.most c.many.result c.max-most.result c.max-most.ensures in
    record { many = next.0; first = next.1; most = most_next (reads_each f.model) n c.loop-leaf.most c.max-most.result c.many.result before.most above.0 above.1 own }
