use Rattle.std.proofs.Common.{length, ◌∙◌, ap}
use Rattle.aol_flat.specs.Instance.{instances}
use Rattle.aol_flat.specs.Laid.{Laid}
use Rattle.aol_flat.proofs.Laying.{count_instances}
use Rattle.aol_flat.proofs.flat.Flat.instances.Goals as goal

pub returns : goal.returns
returns c =
    let f = c.self.inside in
    count_instances f.model f.leaves f.instances f.tables c.self.invariant ∙ ap (λ (laid : Laid). length (instances laid.model)) c.self.view_is
