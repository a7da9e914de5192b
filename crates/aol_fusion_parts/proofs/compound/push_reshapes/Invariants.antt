use Rattle.std.proofs.Common.{◌≡◌, ◌++◌, drop, flat_map}
use Rattle.aol_fusion_parts.specs.Changed.{changed_reshape}
use Rattle.aol_fusion_parts.proofs.compound.push_reshapes.Given as goal

abbrev pub invariant-loop-reshape : goal.invariant-loop-reshape
invariant-loop-reshape l =
    l.initial.made ++ flat_map (changed_reshape l.by.args.now l.by.one.now l.by.two.now l.by.unjoined.now l.by.goes) l.reshapes
    ≡ l.made ++ flat_map (changed_reshape l.by.args.now l.by.one.now l.by.two.now l.by.unjoined.now l.by.goes) (drop l.reshape-index l.reshapes)
