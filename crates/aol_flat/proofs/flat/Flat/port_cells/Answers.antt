use Rattle.std.proofs.Common.{◌≡◌, ◌<◌, length, get_or, IsTrue, sym, subst, arith}
use Rattle.std.proofs.lemmas.Bool.Decides.{nat_tests}
use Rattle.std.proofs.lemmas.List.{get_or_default, get_or-set_same}
use Rattle.aol_model_types.specs.Rules.{outputs_of}
use Rattle.aol_flat.specs.declared.route.Route.{Route}
use Rattle.aol_flat.specs.Route.{CanGive, AreTrailCells}
use Rattle.aol_flat.proofs.Routes.{can_move, trail_gives, write_along, route_at, route_set, route_moved}
use Rattle.aol_flat.proofs.flat.Flat.port_cells.Goals as goal

pub go_to-requires : goal.go_to-requires
go_to-requires c =
    let f = c.args.self.now in
    let k = c.args.port in
    let routes = c.args.routes.now in
    let low : k < length routes = omega arith in
    let w : Route = get_or routes k c.index-routes-k-2.result in
    let same = get_or_default routes k c.index-routes-k.result c.index-routes-k-2.result low in
    let known : IsTrue w.known = subst (λ (z : Route). IsTrue z.known) same c.if-not-routes-k.false in
    let one = route_at f outputs_of c.args.node k routes c.index-routes-k-2.result c.requires.routes low in
    let some : 0 < length c.args.into.now = grind (arith, nat_tests) in
    can_move f outputs_of c.args.node k (length c.args.into.now) c.args.at.now w.trail (one known) c.requires.port some

pub write_all-requires-clause-met : goal.write_all-requires-clause-met
write_all-requires-clause-met c =
    let f = c.args.self.now in
    let k = c.args.port in
    let routes = c.args.routes.now in
    let low : k < length routes = omega arith in
    let w : Route = get_or routes k c.index-routes-k-2.result in
    let same = get_or_default routes k c.index-routes-k.result c.index-routes-k-2.result low in
    let known : IsTrue w.known = subst (λ (z : Route). IsTrue z.known) same c.if-not-routes-k.false in
    let one = route_at f outputs_of c.args.node k routes c.index-routes-k-2.result c.requires.routes low in
    let new : Route = record { known = w.known; trail = c.go_to.new.self; cells = w.cells; stride = w.stride } in
    let there = get_or-set_same routes k new c.index-routes-k-3.result low in
    subst (λ (z : Route). CanGive z.trail (length c.args.into.now)) (sym there)
    (trail_gives f c.requires.flat outputs_of c.args.node k (length c.args.into.now) c.args.at.now w.trail c.go_to.new.self (one known) c.go_to.ensures c.requires.port)

pub returns-clause-cells : goal.returns-clause-cells
returns-clause-cells c =
    let f = c.args.self.now in
    let k = c.args.port in
    let routes = c.args.routes.now in
    let low : k < length routes = omega arith in
    let w : Route = get_or routes k c.index-routes-k-2.result in
    let same = get_or_default routes k c.index-routes-k.result c.index-routes-k-2.result low in
    let known : IsTrue w.known = subst (λ (z : Route). IsTrue z.known) same c.if-not-routes-k.false in
    let one = route_at f outputs_of c.args.node k routes c.index-routes-k-2.result c.requires.routes low in
    let new : Route = record { known = w.known; trail = c.go_to.new.self; cells = w.cells; stride = w.stride } in
    let there = get_or-set_same routes k new c.index-routes-k-3.result low in
    let into = c.write_all.new.into in
    let count : length into ≡ length c.args.into.now = omega arith in
    let are : AreTrailCells c.go_to.new.self into = subst (λ (z : Route). AreTrailCells z.trail into) there c.write_all.ensures in
    write_along f c.requires.flat c.args.node k (length c.args.into.now) c.args.at.now w.trail c.go_to.new.self into (one known) c.go_to.ensures c.requires.port count are

pub returns-clause-routes : goal.returns-clause-routes
returns-clause-routes c =
    let f = c.args.self.now in
    let k = c.args.port in
    let routes = c.args.routes.now in
    let low : k < length routes = omega arith in
    let w : Route = get_or routes k c.index-routes-k-2.result in
    let same = get_or_default routes k c.index-routes-k.result c.index-routes-k-2.result low in
    let known : IsTrue w.known = subst (λ (z : Route). IsTrue z.known) same c.if-not-routes-k.false in
    let one = route_at f outputs_of c.args.node k routes c.index-routes-k-2.result c.requires.routes low in
    let new : Route = record { known = w.known; trail = c.go_to.new.self; cells = w.cells; stride = w.stride } in
    route_set f outputs_of c.args.node k routes new c.requires.routes (route_moved f outputs_of c.args.node k c.args.at.now w w.known c.go_to.new.self known known one c.go_to.ensures)
