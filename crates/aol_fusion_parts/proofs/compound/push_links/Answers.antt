use Rattle.aol_fusion_parts.specs.Changed.{changed_link}
use Rattle.aol_fusion_parts.proofs.Parts.{flat_more}
use Rattle.aol_fusion_parts.proofs.compound.push_links.Goals as goal

pub loop-link-preserved : goal.loop-link-preserved
loop-link-preserved c =
    flat_more (changed_link c.args.by.args.now c.args.by.one.now c.args.by.two.now c.args.by.unjoined.now c.args.by.goes) c.args.made.now c.loop-link.made c.push_link.new.made c.args.links.now c.loop-link.link-index c.link-item.result
    c.loop-link.invariant c.loop-link-test.true c.link-item.is c.in_ok-push_link.ensures
