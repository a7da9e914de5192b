use Rattle.std.proofs.Common.{◌≡◌, ◌++◌, drop, map}
use Rattle.aol_fusion_parts.specs.Changed.{changed_from, copied_to}
use Rattle.aol_fusion_parts.proofs.compound.push_copied.Given as goal

abbrev pub invariant-loop-end : goal.invariant-loop-end
invariant-loop-end l =
    l.initial.made ++ map (copied_to (changed_from l.by.args.now l.by.two.now l.reshape.from) l.reshape.by) l.ends
    ≡ l.made ++ map (copied_to (changed_from l.by.args.now l.by.two.now l.reshape.from) l.reshape.by) (drop l.end-index l.ends)
