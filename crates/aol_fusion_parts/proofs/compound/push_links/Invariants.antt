use Rattle.std.proofs.Common.{◌≡◌, ◌++◌, drop, flat_map}
use Rattle.aol_fusion_parts.specs.Changed.{changed_link}
use Rattle.aol_fusion_parts.proofs.compound.push_links.Given as goal

abbrev pub invariant-loop-link : goal.invariant-loop-link
invariant-loop-link l =
    l.initial.made ++ flat_map (changed_link l.by.args.now l.by.one.now l.by.two.now l.by.unjoined.now l.by.goes) l.links
    ≡ l.made ++ flat_map (changed_link l.by.args.now l.by.one.now l.by.two.now l.by.unjoined.now l.by.goes) (drop l.link-index l.links)
