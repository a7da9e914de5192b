use Rattle.std.proofs.Common.{◌++◌, arith}
use Rattle.aol_model_types.specs.Rules.{outputs_of}
use Rattle.aol_flat.proofs.Outward.{handed_up}
use Rattle.aol_flat.proofs.PortsOf.{cell_moves, moved_element}
use Rattle.aol_flat.proofs.flat.Flat.+follow_output.Goals as goal

pub follow_output-requires : goal.follow_output-requires
follow_output-requires t c =
    let m = c.args.self.now.model in
    let h = c.requires.1 in
    let l = handed_up m c.hand.ensures.flat.sound c.args.number c.args.port c.in-Own.own c.row.result c.args.at.now c.args.x c.requires.0 c.row.ensures h (c.in-Own.ensures.hand h.node h.task h.port h.at_node h.listed) in
    (omega (arith, l.0, c.decreases), (l.1.next, l.1.is))

pub follow_output-requires-in-Tiled : goal.follow_output-requires-in-Tiled
follow_output-requires-in-Tiled t c =
    let body = c.repetition-body in
    let l = c.handed_rank-y.ensures c.requires.0
    (moved_element c.args.self.now.model outputs_of c.args.number body.result.number c.args.port c.args.at.now (body.result.around.now ++ body.result.r.now) c.args.x c.requires.0 body.ensures.number body.ensures.whole c.requires.1) in
    (omega (arith, body.ensures.place.lower, c.decreases), (l.next, l.is))

pub returns-in-Stored : goal.returns-in-Stored
returns-in-Stored t c = λ e h. c.cell_of_output.ensures c.args.at.now c.rank_around.ensures e h

pub returns-in-Own : goal.returns-in-Own
returns-in-Own t c = λ e h.
    let m = c.args.self.now.model in
    let l = handed_up m c.hand.ensures.flat.sound c.args.number c.args.port c.in-Own.own c.row.result c.args.at.now c.args.x e c.row.ensures h (c.in-Own.ensures.hand h.node h.task h.port h.at_node h.listed) in
    cell_moves c.args.self.now e l.1.next c.follow_output.result l.1.home (c.follow_output.ensures l.1.next l.1.is)

pub returns-in-Tiled : goal.returns-in-Tiled
returns-in-Tiled t c = λ e h.
    let body = c.repetition-body in
    let l = c.handed_rank-y.ensures e
    (moved_element c.args.self.now.model outputs_of c.args.number body.result.number c.args.port c.args.at.now (body.result.around.now ++ body.result.r.now) c.args.x e body.ensures.number body.ensures.whole h) in
    cell_moves c.args.self.now e l.next c.follow_output-in-Tiled.result l.home (c.follow_output-in-Tiled.ensures l.next l.is)
