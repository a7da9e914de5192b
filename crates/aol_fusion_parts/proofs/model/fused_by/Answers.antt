use Rattle.aol_fusion_parts.specs.Fuse.{fusing}
use Rattle.aol_fusion_parts.proofs.Told.{formed_told, step_told}
use Rattle.aol_fusion_parts.proofs.model.fused_by.Goals as goal

pub returns-clause-step : goal.returns-clause-step
returns-clause-step c =
    let f = fusing c.args.model.now c.args.compound.now c.args.one.now c.args.two.now c.args.args.now in
    step_told f c.in_ok-names.names c.args.ports.now c.fused_with.result
    (formed_told f c.args.ports.now c.as_slice-outs.result.now c.as_slice-ins.result.now c.requires.ports c.as_slice-outs.ensures c.as_slice-ins.ensures c.if-not-is_well_formed.ensures) c.requires.ports c.in_ok-names.ensures.made
    c.in_ok-names.ensures.limit c.fused_with.ensures.step
