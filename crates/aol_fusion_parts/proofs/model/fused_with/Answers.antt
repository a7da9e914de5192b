use Rattle.std.proofs.Common.{length, ap, arith}
use Rattle.aol_fusion_parts.specs.Fuse.{fusing}
use Rattle.aol_fusion_parts.proofs.Placing.{can_place_all, is_few}
use Rattle.aol_fusion_parts.proofs.model.fused_with.Goals as goal

pub push_new-requires-clause-place : goal.push_new-requires-clause-place
push_new-requires-clause-place c = can_place_all (fusing c.args.model.now c.args.compound.now c.args.one.now c.args.two.now c.args.args.now) c.args.ports.now c.requires

pub push_new-requires-clause-few : goal.push_new-requires-clause-few
push_new-requires-clause-few c = is_few (fusing c.args.model.now c.args.compound.now c.args.one.now c.args.two.now c.args.args.now) c.args.ports.now c.requires

pub fused_compound-requires : goal.fused_compound-requires
fused_compound-requires c =
    let few = is_few (fusing c.args.model.now c.args.compound.now c.args.one.now c.args.two.now c.args.args.now) c.args.ports.now c.requires in
    omega (arith, few.outside, ap length c.as_slice-unjoined.ensures)
