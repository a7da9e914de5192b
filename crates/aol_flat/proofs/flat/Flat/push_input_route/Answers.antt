use Rattle.aol_model_types.specs.Rules.{inputs_of}
use Rattle.aol_flat.proofs.Routes.{route_found, route_added}
use Rattle.aol_flat.proofs.flat.Flat.push_input_route.Goals as goal

pub returns : goal.returns
returns c =
    let f = c.args.self.now in
    let one = route_found c.in_ok-found.found (λ home. home.around.now) (λ home. home.first) (λ home. home.many) f inputs_of c.args.node c.args.port c.new-levels.result.items c.way_of_input.new.levels.items c.route_of.result c.new-levels.ensures.items c.in_ok-found.ensures c.route_of.ensures in
    route_added f inputs_of c.args.node c.args.port c.args.routes.now.items c.push_route.new.routes.items c.route_of.result c.push_route.result c.requires.routes one c.push_route.ensures
