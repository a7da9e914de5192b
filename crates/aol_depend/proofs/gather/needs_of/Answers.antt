use Rattle.std.proofs.Common.{sym, subst, arith}
use Rattle.aol_depend.specs.Gather.{AreNeeds}
use Rattle.aol_depend.proofs.LeafRows.{all_leaves}
use Rattle.aol_depend.proofs.Gathered.{all_gathered}
use Rattle.aol_depend.proofs.gather.needs_of.Goals as goal

pub returns : goal.returns
returns c =
    let all = all_gathered c.args.flat.now c.args.writer_of.now _ _ _ c.loop-leaf.invariant (all_leaves c.args.flat.now.model c.loop-leaf.leaf (omega (arith, c.loop-leaf-test.false, c.loop-leaf.auto.leaf-end, c.leaves-leaf-end.ensures))) in
    subst (AreNeeds c.args.flat.now c.args.writer_of.now) (sym c.of_rows.ensures) all
