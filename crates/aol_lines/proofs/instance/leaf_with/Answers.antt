use Rattle.std.proofs.Common.{◌≡◌, take, arith, ap}
use Rattle.aol_flat.specs.Instance.{leaves}
use Rattle.aol_flat.specs.Leaves.{instances_of}
use Rattle.aol_flat.proofs.Totals.{length-instances}
use Rattle.std.proofs.lemmas.List.{take_all}
use Rattle.aol_lines.proofs.Instances.{instances_more}
use Rattle.aol_lines.proofs.instance.leaf_with.Goals as goal

pub loop-leaf-preserved : goal.loop-leaf-preserved
loop-leaf-preserved c =
    let row = c.leaf-row.ensures in
    omega (arith, c.loop-leaf.invariant, c.if-number-row.false, row.base, row.count, instances_more (leaves c.args.flat.now.model) c.loop-leaf.leaf row.leaf row.at)

pub unreachable-requires : goal.unreachable-requires
unreachable-requires c =
    let all : take c.loop-leaf.leaf (leaves c.args.flat.now.model) ≡ leaves c.args.flat.now.model = take_all c.loop-leaf.leaf (leaves c.args.flat.now.model) (omega (arith, c.loop-leaf-test.false, c.leaves-leaf-end.ensures)) in
    omega (arith, c.loop-leaf.invariant, ap instances_of all, length-instances c.args.flat.now.model, c.requires)
