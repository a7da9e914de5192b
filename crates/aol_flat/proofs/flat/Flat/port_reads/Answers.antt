use Rattle.std.proofs.Common.{◌≡◌, ◌<◌, length, get_or, IsTrue, sym, subst, arith}
use Rattle.std.proofs.lemmas.Bool.Decides.{nat_tests}
use Rattle.std.proofs.lemmas.List.{get_or_default, get_or-set_same}
use Rattle.aol_model_types.specs.Rules.{inputs_of}
use Rattle.aol_flat.specs.declared.route.Route.{Route}
use Rattle.aol_flat.specs.Route.{CanGive, AreTrailReads}
use Rattle.aol_flat.proofs.Routes.{can_move, trail_gives, read_along, route_at, route_set, route_moved}
use Rattle.aol_flat.proofs.flat.Flat.port_reads.Goals as goal

pub go_to-requires : goal.go_to-requires
go_to-requires c =
    let f = c.args.self.now in
    let k = c.args.port in
    let routes = c.args.routes.now in
    let low : k < length routes = omega arith in
    let w : Route = get_or routes k c.index-routes-k-2.result in
    let same = get_or_default routes k c.index-routes-k.result c.index-routes-k-2.result low in
    let known : IsTrue w.known = subst (λ (z : Route). IsTrue z.known) same c.if-not-routes-k.false in
    let one = route_at f inputs_of c.args.node k routes c.index-routes-k-2.result c.requires.routes low in
    let some : 0 < length c.args.into.now = grind (arith, nat_tests) in
    can_move f inputs_of c.args.node k (length c.args.into.now) c.args.at.now w.trail (one known) c.requires.port some

pub read_all-requires-clause-met : goal.read_all-requires-clause-met
read_all-requires-clause-met c =
    let f = c.args.self.now in
    let k = c.args.port in
    let routes = c.args.routes.now in
    let low : k < length routes = omega arith in
    let w : Route = get_or routes k c.index-routes-k-2.result in
    let same = get_or_default routes k c.index-routes-k.result c.index-routes-k-2.result low in
    let known : IsTrue w.known = subst (λ (z : Route). IsTrue z.known) same c.if-not-routes-k.false in
    let one = route_at f inputs_of c.args.node k routes c.index-routes-k-2.result c.requires.routes low in
    let new : Route = record { known = w.known; trail = c.go_to.new.self; cells = w.cells; stride = w.stride } in
    let there = get_or-set_same routes k new c.index-routes-k-3.result low in
    subst (λ (z : Route). CanGive z.trail (length c.args.into.now)) (sym there)
    (trail_gives f c.requires.flat inputs_of c.args.node k (length c.args.into.now) c.args.at.now w.trail c.go_to.new.self (one known) c.go_to.ensures c.requires.port)

pub returns-clause-reads : goal.returns-clause-reads
returns-clause-reads c =
    let f = c.args.self.now in
    let k = c.args.port in
    let routes = c.args.routes.now in
    let low : k < length routes = omega arith in
    let w : Route = get_or routes k c.index-routes-k-2.result in
    let same = get_or_default routes k c.index-routes-k.result c.index-routes-k-2.result low in
    let known : IsTrue w.known = subst (λ (z : Route). IsTrue z.known) same c.if-not-routes-k.false in
    let one = route_at f inputs_of c.args.node k routes c.index-routes-k-2.result c.requires.routes low in
    let new : Route = record { known = w.known; trail = c.go_to.new.self; cells = w.cells; stride = w.stride } in
    let there = get_or-set_same routes k new c.index-routes-k-3.result low in
    let into = c.read_all.new.into in
    let count : length into ≡ length c.args.into.now = omega arith in
    let are : AreTrailReads c.go_to.new.self into = subst (λ (z : Route). AreTrailReads z.trail into) there c.read_all.ensures in
    read_along f c.requires.flat c.args.node k (length c.args.into.now) c.args.at.now w.trail c.go_to.new.self into (one known) c.go_to.ensures c.requires.port count are

pub returns-clause-routes : goal.returns-clause-routes
returns-clause-routes c =
    let f = c.args.self.now in
    let k = c.args.port in
    let routes = c.args.routes.now in
    let low : k < length routes = omega arith in
    let w : Route = get_or routes k c.index-routes-k-2.result in
    let same = get_or_default routes k c.index-routes-k.result c.index-routes-k-2.result low in
    let known : IsTrue w.known = subst (λ (z : Route). IsTrue z.known) same c.if-not-routes-k.false in
    let one = route_at f inputs_of c.args.node k routes c.index-routes-k-2.result c.requires.routes low in
    let new : Route = record { known = w.known; trail = c.go_to.new.self; cells = w.cells; stride = w.stride } in
    route_set f inputs_of c.args.node k routes new c.requires.routes (route_moved f inputs_of c.args.node k c.args.at.now w w.known c.go_to.new.self known known one c.go_to.ensures)
