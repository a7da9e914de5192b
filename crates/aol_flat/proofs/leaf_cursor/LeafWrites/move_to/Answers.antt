use Rattle.std.proofs.Common.{◌≡◌, ℕ, ◌+◌, ◌^◌, ◌<◌, List, length, IsTrue, ◌∙◌, sym, ap, subst, arith}
use Rattle.std.specs.List.{AllByRecursion}
use Rattle.aol_trail.specs.Further.{further}
use Rattle.aol_model_types.specs.Rules.{outputs_of}
use Rattle.aol_flat.specs.Cursor.{CursorOf}
use Rattle.aol_flat.specs.declared.route.Route.{Route}
use Rattle.aol_flat.specs.LeafCursor.{IsAlong, first_on, writes_each}
use Rattle.aol_flat.specs.Laid.{Laid}
use Rattle.aol_flat.specs.Level.{AreWritesOf}
use Rattle.aol_flat.specs.Route.{AreRoutes}
use Rattle.aol_flat.specs.Run.{AreWhole, WritesCells, RunsTo, runs}
use Rattle.aol_flat.proofs.Alongs.{leaf_point, same_along, writes_by_number, writes_seen}
use Rattle.aol_flat.proofs.PortZip.{outputs_typed}
use Rattle.aol_flat.proofs.Routes.{spot_seen, routes_seen, cursor_on, written_back}
use Rattle.aol_flat.proofs.Running.{fills, new_routes, new_whole, no_run, not_whole, writes_run, whole_seen}
use Rattle.aol_flat.proofs.leaf_cursor.LeafWrites.move_to.Goals as goal

pub writes_on-requires-clause-point : goal.writes_on-requires-clause-point
writes_on-requires-clause-point c =
    let a = c.self.inside.along in
    let b = c.go_to.new.self in
    let g = c.go_to.ensures in
    leaf_point b.flat.now.model b.leaf c.args.number c.as_slice.result.now
    (same_along a.flat.now b.flat.now a.leaf b.leaf c.args.number b.at.items c.as_slice.result.now g.flat g.leaf c.as_slice.ensures.value g.along)

pub writes_on-requires-clause-routes : goal.writes_on-requires-clause-routes
writes_on-requires-clause-routes c =
    routes_seen c.self.inside.along.flat.now c.go_to.new.self.flat.now outputs_of c.self.inside.spot.node c.self.inside.routes.items _ c.go_to.ensures.flat c.as_mut_slice-routes.ensures.value c.self.invariant.on.routes_are

pub invariant_of-self : goal.invariant_of-self
invariant_of-self c =
    let a = c.self.inside.along in
    let b = c.go_to.new.self in
    let g = c.go_to.ensures in
    let inv = c.self.invariant.on in
    let new = c.writes_on.new.routes in
    let old = c.self.inside.routes in
    let many : length new ≡ old.len = omega (arith, c.writes_on.auto.routes, c.as_mut_slice-routes.ensures.len, old.ok.0) in
    let back = written_back new old.items old.len many in
    record {
      on = cursor_on a.flat.now b.flat.now outputs_of a.leaf b.leaf c.args.number b.number b.at.items c.self.inside.many writes_each c.self.inside.spot _ g.flat g.leaf g.number g.along inv.many_is inv.spot_is (subst (λ rs. AreRoutes b.flat.now outputs_of c.self.inside.spot.node rs) (sym back) c.writes_on.ensures.routes);
      whole_is = λ t. absurd (not_whole c.self.inside.whole c.if-not-self.true t);
      runs_are = no_run (WritesCells b.flat.now b.leaf) b.number c.self.inside.many _;
    }

pub returns-then-not-self-clause-writes : goal.returns-then-not-self-clause-writes
returns-then-not-self-clause-writes c =
    let a = c.self.inside.along in
    let b = c.go_to.new.self in
    let g = c.go_to.ensures in
    let at = same_along a.flat.now b.flat.now a.leaf b.leaf c.args.number b.at.items c.as_slice.result.now g.flat g.leaf c.as_slice.ensures.value g.along in
    writes_seen b.flat.now b.leaf c.args.number c.writes_on.new.into c.args.self.now (g.flat ∙ ap (λ (z : CursorOf). z.flat) c.self.view_is) (g.leaf ∙ ap (λ (z : CursorOf). z.leaf) c.self.view_is)
    (writes_by_number b.flat.now b.leaf c.args.number c.as_slice.result.now c.writes_on.new.into at c.writes_on.ensures.cells)

pub fill_all-self-inside-requires-clause-can : goal.fill_all-self-inside-requires-clause-can
fill_all-self-inside-requires-clause-can c =
    let a = c.self.inside.along in
    let b = c.go_to.new.self in
    let f = b.flat.now in
    let g = c.go_to.ensures in
    let spot = c.self.inside.spot in
    let inv = c.self.invariant in
    let old = c.self.inside.routes in
    let routes = c.as_mut_slice-routes.result.now in
    let value = c.as_mut_slice-routes.ensures.value in
    let s = spot_seen a.flat.now f a.leaf b.leaf spot g.flat g.leaf inv.on.spot_is in
    let are = routes_seen a.flat.now f outputs_of spot.node old.items routes g.flat value inv.on.routes_are in
    let whole = whole_seen a.flat.now f outputs_of a.leaf b.leaf spot.node old.items routes g.flat g.leaf value (inv.whole_is c.if-not-self.false) in
    let at = c.as_slice-2.result.now in
    let most = c.left-most.result in
    let along : (i : ℕ) → i < most → IsAlong f.model b.leaf (b.number + i) (further i at) = λ i low. subst (λ p. IsAlong f.model b.leaf (b.number + i) (further i p)) (sym c.as_slice-2.ensures.value) (c.left-most.ensures.along i low) in
    fills f c.model-model.ensures.flat b.leaf b.number at spot s most c.left-most.ensures.some along outputs_of outputs_typed routes whole are

pub write_run-requires-clause-many : goal.write_run-requires-clause-many
write_run-requires-clause-many c =
    let a = c.self.inside.along in
    let b = c.go_to.new.self in
    let f = b.flat.now in
    let g = c.go_to.ensures in
    let spot = c.self.inside.spot in
    let inv = c.self.invariant in
    let old = c.self.inside.routes in
    let routes = c.as_mut_slice-routes.result.now in
    let value = c.as_mut_slice-routes.ensures.value in
    let s = spot_seen a.flat.now f a.leaf b.leaf spot g.flat g.leaf inv.on.spot_is in
    let are = routes_seen a.flat.now f outputs_of spot.node old.items routes g.flat value inv.on.routes_are in
    let whole = whole_seen a.flat.now f outputs_of a.leaf b.leaf spot.node old.items routes g.flat g.leaf value (inv.whole_is c.if-not-self.false) in
    let at = c.as_slice-2.result.now in
    let most = c.left-most.result in
    let along : (i : ℕ) → i < most → IsAlong f.model b.leaf (b.number + i) (further i at) = λ i low. subst (λ p. IsAlong f.model b.leaf (b.number + i) (further i p)) (sym c.as_slice-2.ensures.value) (c.left-most.ensures.along i low) in
    let new = c.fill_all-self-inside.new.routes in
    let run = c.fill_all-self-inside.result in
    let e = c.fill_all-self-inside.ensures in
    let is = inv.on.many_is ∙ (sym (ap (λ (z : Laid). writes_each z.model a.leaf) g.flat) ∙ sym (ap (writes_each f.model) g.leaf)) in
    let facts = writes_run f c.model-model.ensures.flat b.leaf b.number at spot s most c.left-most.ensures.some along run e.most c.self.inside.many routes whole are new e.form e.run is in
    let long : length new ≡ old.len = omega (arith, c.fill_all-self-inside.auto.routes, c.as_mut_slice-routes.ensures.len, old.ok.0) in
    let back = written_back new old.items old.len long in
    c.requires.many
    ∙ (sym (inv.on.many_is ∙ ap (λ (z : CursorOf). writes_each z.flat.model z.leaf) c.self.view_is)
    ∙ sym (ap (λ ws. length (runs 0 ws)) (c.as_slice-3.ensures.value ∙ back) ∙ facts.many_are 0 e.some))

pub write_run-requires-clause-small : goal.write_run-requires-clause-small
write_run-requires-clause-small c =
    let a = c.self.inside.along in
    let b = c.go_to.new.self in
    let f = b.flat.now in
    let g = c.go_to.ensures in
    let spot = c.self.inside.spot in
    let inv = c.self.invariant in
    let old = c.self.inside.routes in
    let routes = c.as_mut_slice-routes.result.now in
    let value = c.as_mut_slice-routes.ensures.value in
    let s = spot_seen a.flat.now f a.leaf b.leaf spot g.flat g.leaf inv.on.spot_is in
    let are = routes_seen a.flat.now f outputs_of spot.node old.items routes g.flat value inv.on.routes_are in
    let whole = whole_seen a.flat.now f outputs_of a.leaf b.leaf spot.node old.items routes g.flat g.leaf value (inv.whole_is c.if-not-self.false) in
    let at = c.as_slice-2.result.now in
    let most = c.left-most.result in
    let along : (i : ℕ) → i < most → IsAlong f.model b.leaf (b.number + i) (further i at) = λ i low. subst (λ p. IsAlong f.model b.leaf (b.number + i) (further i p)) (sym c.as_slice-2.ensures.value) (c.left-most.ensures.along i low) in
    let new = c.fill_all-self-inside.new.routes in
    let run = c.fill_all-self-inside.result in
    let e = c.fill_all-self-inside.ensures in
    let is = inv.on.many_is ∙ (sym (ap (λ (z : Laid). writes_each z.model a.leaf) g.flat) ∙ sym (ap (writes_each f.model) g.leaf)) in
    let facts = writes_run f c.model-model.ensures.flat b.leaf b.number at spot s most c.left-most.ensures.some along run e.most c.self.inside.many routes whole are new e.form e.run is in
    let long : length new ≡ old.len = omega (arith, c.fill_all-self-inside.auto.routes, c.as_mut_slice-routes.ensures.len, old.ok.0) in
    let back = written_back new old.items old.len long in
    subst (λ ws. AllByRecursion (λ y. y < 2 ^ 32) (runs 0 ws)) (sym (c.as_slice-3.ensures.value ∙ back)) (facts.small 0 e.some)

pub invariant_of-self-2 : goal.invariant_of-self-2
invariant_of-self-2 c =
    let a = c.self.inside.along in
    let b = c.go_to.new.self in
    let f = b.flat.now in
    let g = c.go_to.ensures in
    let spot = c.self.inside.spot in
    let inv = c.self.invariant in
    let old = c.self.inside.routes in
    let routes = c.as_mut_slice-routes.result.now in
    let value = c.as_mut_slice-routes.ensures.value in
    let s = spot_seen a.flat.now f a.leaf b.leaf spot g.flat g.leaf inv.on.spot_is in
    let are = routes_seen a.flat.now f outputs_of spot.node old.items routes g.flat value inv.on.routes_are in
    let whole = whole_seen a.flat.now f outputs_of a.leaf b.leaf spot.node old.items routes g.flat g.leaf value (inv.whole_is c.if-not-self.false) in
    let at = c.as_slice-2.result.now in
    let most = c.left-most.result in
    let along : (i : ℕ) → i < most → IsAlong f.model b.leaf (b.number + i) (further i at) = λ i low. subst (λ p. IsAlong f.model b.leaf (b.number + i) (further i p)) (sym c.as_slice-2.ensures.value) (c.left-most.ensures.along i low) in
    let new = c.fill_all-self-inside.new.routes in
    let run = c.fill_all-self-inside.result in
    let e = c.fill_all-self-inside.ensures in
    let is = inv.on.many_is ∙ (sym (ap (λ (z : Laid). writes_each z.model a.leaf) g.flat) ∙ sym (ap (writes_each f.model) g.leaf)) in
    let facts = writes_run f c.model-model.ensures.flat b.leaf b.number at spot s most c.left-most.ensures.some along run e.most c.self.inside.many routes whole are new e.form e.run is in
    let long : length new ≡ old.len = omega (arith, c.fill_all-self-inside.auto.routes, c.as_mut_slice-routes.ensures.len, old.ok.0) in
    let back = written_back new old.items old.len long in
    let next = new_routes f c.model-model.ensures.flat b.leaf b.number at spot s most c.left-most.ensures.some along outputs_of outputs_typed routes whole are run e.most new e.form e.run in
    let all = new_whole f c.model-model.ensures.flat b.leaf b.number at spot s most c.left-most.ensures.some along outputs_of outputs_typed routes whole are run e.most new e.form e.run in
    record {
      on = cursor_on a.flat.now f outputs_of a.leaf b.leaf c.args.number b.number b.at.items c.self.inside.many writes_each spot _ g.flat g.leaf g.number g.along inv.on.many_is inv.on.spot_is (subst (λ ws. AreRoutes f outputs_of spot.node ws) (sym back) next);
      whole_is = λ _. subst (λ ws. AreWhole f outputs_of b.leaf spot.node ws) (sym back) all;
      runs_are = subst (λ ws. RunsTo (WritesCells f b.leaf) b.number run c.self.inside.many ws) (sym back) facts;
    }

pub returns-clause-writes : goal.returns-clause-writes
returns-clause-writes c =
    let a = c.self.inside.along in
    let b = c.go_to.new.self in
    let f = b.flat.now in
    let g = c.go_to.ensures in
    let spot = c.self.inside.spot in
    let inv = c.self.invariant in
    let old = c.self.inside.routes in
    let routes = c.as_mut_slice-routes.result.now in
    let value = c.as_mut_slice-routes.ensures.value in
    let s = spot_seen a.flat.now f a.leaf b.leaf spot g.flat g.leaf inv.on.spot_is in
    let are = routes_seen a.flat.now f outputs_of spot.node old.items routes g.flat value inv.on.routes_are in
    let whole = whole_seen a.flat.now f outputs_of a.leaf b.leaf spot.node old.items routes g.flat g.leaf value (inv.whole_is c.if-not-self.false) in
    let at = c.as_slice-2.result.now in
    let most = c.left-most.result in
    let along : (i : ℕ) → i < most → IsAlong f.model b.leaf (b.number + i) (further i at) = λ i low. subst (λ p. IsAlong f.model b.leaf (b.number + i) (further i p)) (sym c.as_slice-2.ensures.value) (c.left-most.ensures.along i low) in
    let new = c.fill_all-self-inside.new.routes in
    let run = c.fill_all-self-inside.result in
    let e = c.fill_all-self-inside.ensures in
    let is = inv.on.many_is ∙ (sym (ap (λ (z : Laid). writes_each z.model a.leaf) g.flat) ∙ sym (ap (writes_each f.model) g.leaf)) in
    let facts = writes_run f c.model-model.ensures.flat b.leaf b.number at spot s most c.left-most.ensures.some along run e.most c.self.inside.many routes whole are new e.form e.run is in
    let long : length new ≡ old.len = omega (arith, c.fill_all-self-inside.auto.routes, c.as_mut_slice-routes.ensures.len, old.ok.0) in
    let back = written_back new old.items old.len long in
    let number : b.number + 0 ≡ c.args.number = omega (arith, g.number) in
    let into = c.write_run.new.into in
    let is_new : into ≡ runs 0 new = c.write_run.ensures ∙ ap (λ ws. runs 0 ws) (c.as_slice-3.ensures.value ∙ back) in
    let got : AreWritesOf f (first_on f.model b.leaf + c.args.number) into =
    subst (λ (ys : List ℕ). AreWritesOf f (first_on f.model b.leaf + c.args.number) ys) (sym is_new) (subst (λ n. AreWritesOf f (first_on f.model b.leaf + n) (runs 0 new)) number (facts.each 0 e.some)) in
    writes_seen f b.leaf c.args.number into c.args.self.now (g.flat ∙ ap (λ (z : CursorOf). z.flat) c.self.view_is) (g.leaf ∙ ap (λ (z : CursorOf). z.leaf) c.self.view_is) got
