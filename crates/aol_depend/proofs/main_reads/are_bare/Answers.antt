use Rattle.std.proofs.Common.{arith, below_more}
use Rattle.aol_depend.proofs.MainReads.{main_few, some_node}
use Rattle.aol_depend.proofs.main_reads.are_bare.Goals as goal

pub main_input_count-cell-end-requires : goal.main_input_count-cell-end-requires
main_input_count-cell-end-requires c = some_node c.args.flat.now.model 0 c.leaf_spot-spot.result c.leaf_spot-spot.ensures

pub is_bare-requires : goal.is_bare-requires
is_bare-requires c = omega (arith, c.loop-cell-test.true, c.main_input_count-cell-end.ensures, main_few c.args.flat.now c.model.ensures.flat.laid, c.requires.entries.many)

pub loop-cell-preserved : goal.loop-cell-preserved
loop-cell-preserved c = below_more _ _ c.loop-cell.invariant (c.is_bare.ensures c.if-not-is_bare.false)
