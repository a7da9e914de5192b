use Rattle.std.proofs.Common.{◌<◌, length, ap, arith}
use Rattle.aol_model_types.specs.Rules.{inputs_of}
use Rattle.aol_flat.proofs.NodeAt.{one_node, number_within, limits_known}
use Rattle.aol_flat.proofs.Routes.{some_input, inputs_few}
use Rattle.aol_flat.proofs.flat.Flat.routes_of_inputs.Goals as goal

pub task-requires : goal.task-requires
task-requires c = number_within c.args.self.now.model c.args.node c.requires.there.0 c.requires.there.1 c.requires.there.2

pub input_count-port-end-requires : goal.input_count-port-end-requires
input_count-port-end-requires c =
    let here = c.task.ensures.task in
    inputs_few c.task.result.now (limits_known c.args.self.now.model c.task.ensures.flat.sound c.args.node here.0 c.task.result.now here.1)

pub push_input_route-requires-clause-there : goal.push_input_route-requires-clause-there
push_input_route-requires-clause-there c =
    let here = c.task.ensures.task in
    let p = c.requires.there in
    let same = (one_node c.args.self.now.model c.args.node here.0 p.0 c.task.result.now p.1 here.1 p.2).1 in
    let low : c.loop-port.port < length (inputs_of p.1) = omega (arith, c.loop-port-test.true, c.input_count-port-end.ensures, ap (λ t. length (inputs_of t)) same) in
    some_input c.args.self.now.model c.task.ensures.flat.sound c.args.node p.0 p.1 c.args.at.now p.2 p.3 c.loop-port.port low
