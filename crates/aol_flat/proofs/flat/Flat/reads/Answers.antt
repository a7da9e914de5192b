use Rattle.std.proofs.Common.{refl, sym, subst}
use Rattle.aol_model_types.specs.Rules.{inputs_of}
use Rattle.aol_flat.specs.LeafCursor.{IsLeafPoint, reads_each}
use Rattle.aol_flat.proofs.Alongs.{leaf_point}
use Rattle.aol_flat.specs.Run.{AreWhole, ReadsCells}
use Rattle.aol_flat.proofs.Routes.{routes_seen, cursor_on}
use Rattle.aol_flat.proofs.Running.{no_run, on_true, whole_seen}
use Rattle.aol_flat.proofs.flat.Flat.reads.Goals as goal

pub input_routes-requires-clause-point : goal.input_routes-requires-clause-point
input_routes-requires-clause-point c =
    let m = c.args.self.now.model in
    let along = c.in_ok-along.along in
    subst (IsLeafPoint m c.args.leaf) (sym c.as_slice.ensures.value) (leaf_point m c.args.leaf along.number along.at.items c.in_ok-along.ensures.along)

pub invariant_of-result : goal.invariant_of-result
invariant_of-result c =
    let f = c.args.self.now in
    let along = c.in_ok-along.along in
    let g = c.in_ok-along.ensures in
    let spot = c.leaf_spot-spot.result in
    let routes = c.in_ok-routes.routes.items in
    let on = cursor_on f along.flat.now inputs_of c.args.leaf along.leaf along.number along.number along.at.items c.reads_of-many.result reads_each spot routes g.flat g.leaf refl g.along c.reads_of-many.ensures c.leaf_spot-spot.ensures
    (routes_seen f along.flat.now inputs_of spot.node routes routes g.flat refl c.in_ok-routes.ensures) in
    let whole : AreWhole f inputs_of c.args.leaf spot.node c.as_slice-2.result.now → AreWhole along.flat.now inputs_of along.leaf spot.node routes = whole_seen f along.flat.now inputs_of c.args.leaf along.leaf spot.node c.as_slice-2.result.now routes g.flat g.leaf (sym c.as_slice-2.ensures.value) in
    record { on = on; whole_is = λ t. whole (on_true c.reads_are_whole-whole.result t c.reads_are_whole-whole.ensures); runs_are = no_run (ReadsCells along.flat.now along.leaf) along.number c.reads_of-many.result routes }
