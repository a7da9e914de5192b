use Rattle.std.proofs.Common.{◌++◌, arith}
use Rattle.aol_model_types.specs.Rules.{inputs_of}
use Rattle.aol_flat.proofs.Inward.{fed_from_own, fed_from_part, part_above}
use Rattle.aol_flat.proofs.PortsOf.{cell_moves, read_moves, moved_element}
use Rattle.aol_flat.proofs.flat.Flat.+follow_input.Goals as goal

pub follow_input-requires : goal.follow_input-requires
follow_input-requires t c =
    let m = c.args.self.now.model in
    let h = c.requires.1 in
    let l = fed_from_own m c.feed.ensures.flat.sound c.args.number c.args.port c.in-Own.own c.row.result c.args.at.now c.args.x c.requires.0 c.row.ensures h (c.in-Own.ensures.feed h.node h.task h.port h.at_node h.listed) in
    (omega (arith, l.0, c.decreases), (l.1.next, l.1.is))

pub follow_output-requires : goal.follow_output-requires
follow_output-requires t c =
    let m = c.args.self.now.model in
    let sound = c.feed.ensures.flat.sound in
    let h = c.requires.1 in
    let by = c.in-Part.ensures.feed h.node h.task h.port h.at_node h.listed in
    let above = part_above m sound c.args.number c.row-row.result h.node by.up by.part by.task h.task c.row-row.ensures h.at_node by.place in
    let l = fed_from_part m sound c.args.number c.args.port c.in-Part.node c.in-Part.from c.row-row.result.up c.args.at.now c.args.x c.requires.0 h by above in
    (l.next, l.is)

pub follow_input-requires-in-Tiled : goal.follow_input-requires-in-Tiled
follow_input-requires-in-Tiled t c =
    let body = c.repetition-body in
    let l = c.fed_rank-y.ensures c.requires.0
    (moved_element c.args.self.now.model inputs_of c.args.number body.result.number c.args.port c.args.at.now (body.result.around.now ++ body.result.r.now) c.args.x c.requires.0 body.ensures.number body.ensures.whole c.requires.1) in
    (omega (arith, body.ensures.place.lower, c.decreases), (l.next, l.is))

pub follow_input-requires-in-Input : goal.follow_input-requires-in-Input
follow_input-requires-in-Input t c =
    let body = c.repetition-body-in-Linked in
    let l = c.in-Input.ensures c.requires.0
    (moved_element c.args.self.now.model inputs_of c.args.number body.result.number c.args.port c.args.at.now (body.result.around.now ++ body.result.r.now) c.args.x c.requires.0 body.ensures.number body.ensures.whole c.requires.1) in
    (omega (arith, body.ensures.place.lower, c.decreases), (l.next, l.is))

pub returns-in-Stored : goal.returns-in-Stored
returns-in-Stored t c = λ e h. c.cell_of_input.ensures c.args.at.now c.rank_around.ensures e h

pub returns-in-Own : goal.returns-in-Own
returns-in-Own t c = λ e h.
    let m = c.args.self.now.model in
    let l = fed_from_own m c.feed.ensures.flat.sound c.args.number c.args.port c.in-Own.own c.row.result c.args.at.now c.args.x e c.row.ensures h (c.in-Own.ensures.feed h.node h.task h.port h.at_node h.listed) in
    read_moves c.args.self.now e l.1.next c.follow_input.result l.1.home (c.follow_input.ensures l.1.next l.1.is)

pub returns-in-Part : goal.returns-in-Part
returns-in-Part t c = λ e h.
    let m = c.args.self.now.model in
    let sound = c.feed.ensures.flat.sound in
    let by = c.in-Part.ensures.feed h.node h.task h.port h.at_node h.listed in
    let above = part_above m sound c.args.number c.row-row.result h.node by.up by.part by.task h.task c.row-row.ensures h.at_node by.place in
    let l = fed_from_part m sound c.args.number c.args.port c.in-Part.node c.in-Part.from c.row-row.result.up c.args.at.now c.args.x e h by above in
    cell_moves c.args.self.now e l.next c.follow_output.result l.home (c.follow_output.ensures l.next l.is)

pub returns-in-Tiled : goal.returns-in-Tiled
returns-in-Tiled t c = λ e h.
    let body = c.repetition-body in
    let l = c.fed_rank-y.ensures e
    (moved_element c.args.self.now.model inputs_of c.args.number body.result.number c.args.port c.args.at.now (body.result.around.now ++ body.result.r.now) c.args.x e body.ensures.number body.ensures.whole h) in
    read_moves c.args.self.now e l.next c.follow_input-in-Tiled.result l.home (c.follow_input-in-Tiled.ensures l.next l.is)

pub returns-in-Input : goal.returns-in-Input
returns-in-Input t c = λ e h.
    let body = c.repetition-body-in-Linked in
    let l = c.in-Input.ensures e
    (moved_element c.args.self.now.model inputs_of c.args.number body.result.number c.args.port c.args.at.now (body.result.around.now ++ body.result.r.now) c.args.x e body.ensures.number body.ensures.whole h) in
    read_moves c.args.self.now e l.next c.follow_input-in-Input.result l.home (c.follow_input-in-Input.ensures l.next l.is)
