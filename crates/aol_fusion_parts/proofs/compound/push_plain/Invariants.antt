use Rattle.std.proofs.Common.{◌≡◌, ◌++◌, drop, map}
use Rattle.aol_fusion_parts.specs.Changed.{changed_from, plain_to}
use Rattle.aol_fusion_parts.proofs.compound.push_plain.Given as goal

abbrev pub invariant-loop-end : goal.invariant-loop-end
invariant-loop-end l =
    l.initial.made ++ map (plain_to (changed_from l.by.args.now l.by.two.now l.from)) l.ends ≡ l.made ++ map (plain_to (changed_from l.by.args.now l.by.two.now l.from)) (drop l.end-index l.ends)
