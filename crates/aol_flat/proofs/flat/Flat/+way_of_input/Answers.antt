use Rattle.std.proofs.Common.{◌<◌, length, sym, subst, arith}
use Rattle.std.proofs.lemmas.List.{length-take-le}
use Rattle.std.proofs.lemmas.Option.{slice_get_within}
use Rattle.aol_model_types.specs.declared.task.Task.TheVariants as tasks
use Rattle.aol_model_types.specs.Rules.{inputs_of, outputs_of}
use Rattle.aol_flat.specs.Route.{WayOn, IsStepBetween}
use Rattle.aol_flat.proofs.Inward.{fed_from_own, fed_from_part, part_above}
use Rattle.aol_flat.proofs.NodeAt.{one_node, number_within}
use Rattle.aol_flat.proofs.Routes.{way_moves, plain_way, tiled_way, above_some, space_of_part, space_of_sibling, space_of_body, around_short}
use Rattle.aol_flat.proofs.flat.Flat.+way_of_input.Goals as goal

pub way_of_input-requires : goal.way_of_input-requires
way_of_input-requires t c =
    let m = c.args.self.now.model in
    let sound = c.feed.ensures.flat.sound in
    let h = c.requires.there.2 in
    let by = c.in-Own.ensures.feed h.node h.task h.port h.at_node h.listed in
    let l = fed_from_own m sound c.args.number c.args.port c.in-Own.own c.row.result c.args.at.now c.requires.there.0 c.requires.there.1 c.row.ensures h by in
    let above = part_above m sound c.args.number c.row.result h.node by.up by.part by.task h.task c.row.ensures h.at_node by.place in
    (omega (arith, l.0, c.decreases), ((c.requires.there.0, l.1.next, l.1.is), space_of_part m c.args.number c.row.result.up by.part h.node by.up h.task (tasks.Compound by.task) c.args.space.now c.requires.space h.at_node by.place.is above))

pub task-requires : goal.task-requires
task-requires t c = let h = c.requires.there.2 in number_within c.args.self.now.model c.args.number h.node h.task h.at_node

pub input-requires : goal.input-requires
input-requires t c =
    let h = c.requires.there.2 in
    let here = c.task.ensures.task in
    let same_task = (one_node c.args.self.now.model c.args.number h.node here.0 h.task c.task.result.now h.at_node here.1).1 in
    subst (λ u. c.args.port < length (inputs_of u)) same_task (slice_get_within (inputs_of h.task) c.args.port h.port h.listed)

pub slice_bounds-around-end : goal.slice_bounds-around-end
slice_bounds-around-end t c =
    let body = c.repetition-body in
    sym (length-take-le (length body.result.around.now) c.args.space.now
    (around_short c.args.self.now.model c.args.number body.result.up body.result.task.now body.result.around.now body.result.r.now c.args.space.now c.requires.space body.ensures.place))

pub way_of_input-requires-in-Tiled : goal.way_of_input-requires-in-Tiled
way_of_input-requires-in-Tiled t c =
    let m = c.args.self.now.model in
    let body = c.repetition-body in
    let pushed = c.in_ok-push_fed-in-Tiled.ensures in
    let step = subst (λ n. IsStepBetween m inputs_of n c.args.port body.result.up c.in-Tiled.outer pushed.0) body.ensures.number pushed.2 in (
      omega (arith, body.ensures.place.lower, c.decreases),
      (
        above_some m inputs_of c.args.number c.args.port body.result.up c.in-Tiled.outer pushed.0 body.result.task.now body.result.around.now body.result.r.now c.args.at.now body.ensures.place body.ensures.whole step c.requires.there,
        space_of_body m c.args.number body.result.up body.result.task.now body.result.around.now body.result.r.now c.args.space.now c.requires.space body.ensures.place,
      ),
    )

pub returns-in-Own : goal.returns-in-Own
returns-in-Own t c =
    let f = c.args.self.now in
    let m = f.model in
    let old = c.args.levels.now.items in
    let new = c.way_of_input.new.levels.items in
    way_moves c.way_of_input.result (λ home. WayOn f inputs_of c.row.result.up c.in-Own.own old new home.around.now home.first home.many) (λ home. WayOn f inputs_of c.args.number c.args.port old new home.around.now home.first home.many)
    (λ home w.
    plain_way f inputs_of inputs_of c.args.number c.args.port c.row.result.up c.in-Own.own home.first home.many old new home.around.now
    (λ at x e h. (fed_from_own m c.feed.ensures.flat.sound c.args.number c.args.port c.in-Own.own c.row.result at x e c.row.ensures h (c.in-Own.ensures.feed h.node h.task h.port h.at_node h.listed)).1) w)
    c.way_of_input.ensures

pub returns-in_ok-push_fed-in-Tiled : goal.returns-in_ok-push_fed-in-Tiled
returns-in_ok-push_fed-in-Tiled t c =
    let f = c.args.self.now in
    let body = c.repetition-body in
    let old = c.args.levels.now.items in
    let mid = c.push_fed.new.levels.items in
    let new = c.way_of_input-in-Tiled.new.levels.items in
    let pushed = c.in_ok-push_fed-in-Tiled.ensures in
    let step = subst (λ n. IsStepBetween f.model inputs_of n c.args.port body.result.up c.in-Tiled.outer pushed.0) body.ensures.number pushed.2 in
    way_moves c.way_of_input-in-Tiled.result (λ home. WayOn f inputs_of body.result.up c.in-Tiled.outer mid new home.around.now home.first home.many) (λ home. WayOn f inputs_of c.args.number c.args.port old new home.around.now home.first home.many)
    (λ home w. tiled_way f inputs_of c.args.number c.args.port body.result.up c.in-Tiled.outer home.first home.many old mid new pushed.0 home.around.now pushed.1 step w) c.way_of_input-in-Tiled.ensures

pub row-row-requires : goal.row-row-requires
row-row-requires t c = let h = c.requires.there.2 in number_within c.args.self.now.model c.args.number h.node h.task h.at_node

pub way_of_output-requires-clause-there : goal.way_of_output-requires-clause-there
way_of_output-requires-clause-there t c =
    let m = c.args.self.now.model in
    let sound = c.feed.ensures.flat.sound in
    let h = c.requires.there.2 in
    let by = c.in-Part.ensures.feed h.node h.task h.port h.at_node h.listed in
    let above = part_above m sound c.args.number c.row-row.result h.node by.up by.part by.task h.task c.row-row.ensures h.at_node by.place in
    let l = fed_from_part m sound c.args.number c.args.port c.in-Part.node c.in-Part.from c.row-row.result.up c.args.at.now c.requires.there.0 c.requires.there.1 h by above in
    (c.requires.there.0, l.next, l.is)

pub way_of_output-requires-clause-space : goal.way_of_output-requires-clause-space
way_of_output-requires-clause-space t c =
    let h = c.requires.there.2 in
    let by = c.in-Part.ensures.feed h.node h.task h.port h.at_node h.listed in
    space_of_sibling c.args.self.now.model c.args.number c.in-Part.node by.part _ h.node by.up h.task by.by.giver c.args.space.now c.requires.space h.at_node by.place.is by.by.at

pub returns-in-Part : goal.returns-in-Part
returns-in-Part t c =
    let f = c.args.self.now in
    let m = f.model in
    let sound = c.feed.ensures.flat.sound in
    let old = c.args.levels.now.items in
    let new = c.way_of_output.new.levels.items in
    way_moves c.way_of_output.result (λ home. WayOn f outputs_of c.in-Part.node c.in-Part.from old new home.around.now home.first home.many) (λ home. WayOn f inputs_of c.args.number c.args.port old new home.around.now home.first home.many)
    (λ home w.
    plain_way f inputs_of outputs_of c.args.number c.args.port c.in-Part.node c.in-Part.from home.first home.many old new home.around.now
    (λ at x e h.
    let by = c.in-Part.ensures.feed h.node h.task h.port h.at_node h.listed in
    let above = part_above m sound c.args.number c.row-row.result h.node by.up by.part by.task h.task c.row-row.ensures h.at_node by.place in
    fed_from_part m sound c.args.number c.args.port c.in-Part.node c.in-Part.from c.row-row.result.up at x e h by above) w)
    c.way_of_output.ensures
