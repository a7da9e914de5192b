use Rattle.std.proofs.Common.{ℕ, List, sym, subst, arith}
use Rattle.aol_flat.specs.Level.{Reads, AreReads, AreLevels}
use Rattle.aol_depend.proofs.InOrder.{all_ranked, ranks_fit}
use Rattle.aol_depend.proofs.LeafRows.{all_leaves}
use Rattle.aol_depend.proofs.in_order.levels_in_order.Goals as goal

pub of-requires : goal.of-requires
of-requires c =
    let all = all_leaves c.args.flat.now.model c.loop-leaf.leaf (omega (arith, c.loop-leaf-test.false, c.loop-leaf.auto.leaf-end, c.leaves-leaf-end.ensures)) in
    ranks_fit c.args.flat.now c.args.writer_of.now _ c.loop-leaf.levels.items c.loop-leaf.invariant (omega (arith, all, c.instances.ensures))

pub returns : goal.returns
returns c =
    let all = all_leaves c.args.flat.now.model c.loop-leaf.leaf (omega (arith, c.loop-leaf-test.false, c.loop-leaf.auto.leaf-end, c.leaves-leaf-end.ensures)) in
    let P : List ℕ → Type 0 = λ ls. (reads : Reads) × AreReads c.args.flat.now reads × AreLevels reads c.args.writer_of.now ls in
    subst P (sym c.of.ensures) (all_ranked c.args.flat.now c.args.writer_of.now _ c.loop-leaf.levels.items c.loop-leaf.invariant all)
