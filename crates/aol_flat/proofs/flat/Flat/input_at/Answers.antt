use Rattle.std.proofs.lemmas.Option.{slice_get_within}
use Rattle.aol_model_types.specs.Rules.{inputs_of}
use Rattle.aol_flat.specs.Copies.{node_of_end}
use Rattle.aol_flat.proofs.CopyEnds.{ends_somewhere, end_here, end_port, end_addressed, end_is, copied_limits, found_input, inputs_few}
use Rattle.aol_flat.proofs.NodeAt.{number_within, limits_known}
use Rattle.aol_flat.proofs.flat.Flat.input_at.Goals as goal

pub end_node-node-requires-clause-end : goal.end_node-node-requires-clause-end
end_node-node-requires-clause-end c =
    let k = c.args.copy in
    ends_somewhere c.args.self.now.model c.requires.flat.sound k.number k.task.now k.reshape.now k.around.now k.r.now k.i.now c.requires.place inputs_of c.args.hook.now c.args.tiler.now c.requires.end

pub task-task-requires : goal.task-task-requires
task-task-requires c =
    let k = c.args.copy in
    let p = c.requires.place in
    let b = c.end_node-node.ensures p.node p.at_node in
    number_within c.args.self.now.model c.end_node-node.result (node_of_end k.task.now p.node c.args.hook.now.part) b.0 b.1

pub input_number-port-requires-clause-there : goal.input_number-port-requires-clause-there
input_number-port-requires-clause-there c =
    let m = c.args.self.now.model in
    let k = c.args.copy in
    let p = c.requires.place in
    let here = end_here m k.number k.task.now c.args.hook.now p.node c.end_node-node.result c.task-task.result.now p.at_node c.end_node-node.ensures c.task-task.ensures.task in
    end_port m c.requires.flat.sound k.number k.task.now k.reshape.now inputs_of c.args.hook.now c.args.tiler.now p.node (c.requires.end p.node p.at_node) c.end_node-node.result c.task-task.result.now here

pub input_number-port-requires-clause-few : goal.input_number-port-requires-clause-few
input_number-port-requires-clause-few c =
    let here = c.task-task.ensures.task in
    inputs_few c.task-task.result.now (limits_known c.args.self.now.model c.requires.flat.sound c.end_node-node.result here.0 c.task-task.result.now here.1)

pub input-requires : goal.input-requires
input-requires c = let n = c.input_number-port.ensures in slice_get_within (inputs_of c.task-task.result.now) c.input_number-port.result n.port n.listed

pub address-x-requires : goal.address-x-requires
address-x-requires c =
    let m = c.args.self.now.model in
    let sound = c.requires.flat.sound in
    let k = c.args.copy in
    let h = c.args.hook.now in
    let p = c.requires.place in
    let below = c.end_node-node.result in
    let t = c.task-task.result.now in
    let q = c.input.result.now in
    let here = end_here m k.number k.task.now h p.node below t p.at_node c.end_node-node.ensures c.task-task.ensures.task in
    let f = found_input m sound k.task.now p.node h below t k.around.now here p.around_inside c.input_number-port.result q c.input_number-port.ensures c.input.ensures in
    end_addressed m sound k.number k.task.now k.reshape.now inputs_of h c.args.tiler.now p.node (c.requires.end p.node p.at_node) below t here q f.named f.own k.r.now k.i.now
    (copied_limits m sound k.number k.task.now k.reshape.now p.node p.at_node p.reshape p.listed) p.repetition_inside p.part_inside

pub returns : goal.returns
returns c = λ up at inside.
    let m = c.args.self.now.model in
    let sound = c.requires.flat.sound in
    let k = c.args.copy in
    let h = c.args.hook.now in
    let below = c.end_node-node.result in
    let t = c.task-task.result.now in
    let q = c.input.result.now in
    let here = end_here m k.number k.task.now h up below t at c.end_node-node.ensures c.task-task.ensures.task in
    let f = found_input m sound k.task.now up h below t k.around.now here inside c.input_number-port.result q c.input_number-port.ensures c.input.ensures in
    end_is m sound k.number k.task.now k.reshape.now inputs_of h c.args.tiler.now up (c.requires.end up at) below t here q f.named f.own k.around.now k.r.now k.i.now c.input_number-port.result c.address-x.result
    f.listed inside f.there c.address-x.ensures.address c.address-x.ensures.within
