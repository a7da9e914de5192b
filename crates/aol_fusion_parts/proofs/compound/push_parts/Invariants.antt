use Rattle.std.proofs.Common.{◌≡◌, ◌++◌, drop, flat_map}
use Rattle.aol_fusion_parts.specs.Changed.{changed_part}
use Rattle.aol_fusion_parts.proofs.compound.push_parts.Given as goal

abbrev pub invariant-loop-part : goal.invariant-loop-part
invariant-loop-part l =
    l.initial.made ++ flat_map (changed_part l.by.args.now l.whole l.by.goes) l.parts ≡ l.made ++ flat_map (changed_part l.by.args.now l.whole l.by.goes) (drop l.part-index l.parts)
