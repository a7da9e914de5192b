use Rattle.aol_flat.proofs.NodeAt.{limits_known}
use Rattle.aol_flat.proofs.Routes.{inputs_few}
use Rattle.aol_flat.proofs.flat.Flat.reads_are_whole.Goals as goal

pub inputs_fit-requires : goal.inputs_fit-requires
inputs_fit-requires c =
    let here = c.task.ensures.task in
    inputs_few c.task.result.now (limits_known c.args.self.now.model c.task.ensures.flat.sound c.args.spot.node here.0 c.task.result.now here.1)
