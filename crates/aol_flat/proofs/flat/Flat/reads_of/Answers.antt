use Rattle.std.proofs.Common.{◌∙◌, ap}
use Rattle.aol_flat.specs.Leaves.{narrowed}
use Rattle.aol_flat.proofs.RunPoints.{reads_counted}
use Rattle.aol_flat.proofs.flat.Flat.reads_of.Goals as goal

pub returns-in-Elementary : goal.returns-in-Elementary
returns-in-Elementary c =
    let flat = c.model-model.ensures.flat in
    let there = c.task.ensures.task in
    c.narrowed.ensures
    ∙ (ap narrowed c.elements_read.ensures
    ∙ reads_counted c.args.self.now.model flat.sound flat.limits c.args.leaf c.leaf.result.now c.leaf_spot.result _ there.0 c.task.result.now c.leaf.ensures c.in-Elementary.is c.leaf_spot.ensures there.1)
