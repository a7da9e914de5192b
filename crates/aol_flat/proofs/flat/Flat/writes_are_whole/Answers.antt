use Rattle.aol_flat.proofs.NodeAt.{limits_known}
use Rattle.aol_flat.proofs.InputFeeds.{outputs_few}
use Rattle.aol_flat.proofs.flat.Flat.writes_are_whole.Goals as goal

pub outputs_fit-requires : goal.outputs_fit-requires
outputs_fit-requires c =
    let here = c.task.ensures.task in
    outputs_few c.task.result.now (limits_known c.args.self.now.model c.task.ensures.flat.sound c.args.spot.node here.0 c.task.result.now here.1)
