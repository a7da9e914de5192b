use Rattle.aol_fusion_parts.specs.Changed.{changed_reshape}
use Rattle.aol_fusion_parts.proofs.Parts.{flat_more}
use Rattle.aol_fusion_parts.proofs.compound.push_reshapes.Goals as goal

pub loop-reshape-preserved : goal.loop-reshape-preserved
loop-reshape-preserved c =
    flat_more (changed_reshape c.args.by.args.now c.args.by.one.now c.args.by.two.now c.args.by.unjoined.now c.args.by.goes) c.args.made.now c.loop-reshape.made c.push_reshape.new.made c.args.reshapes.now c.loop-reshape.reshape-index c.reshape-item.result
    c.loop-reshape.invariant c.loop-reshape-test.true c.reshape-item.is c.in_ok-push_reshape.ensures
