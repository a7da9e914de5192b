use Rattle.std.proofs.Common.{◌≡◌, ◌∙◌, refl, ap}
use Rattle.aol_model_types.specs.Rules.{outputs_of}
use Rattle.aol_flat.specs.Instance.{Leaf, Computes}
use Rattle.aol_flat.specs.Node.{space_around}
use Rattle.aol_flat.proofs.NodeAt.{one_node}
use Rattle.aol_flat.proofs.Routes.{no_routes}
use Rattle.aol_flat.proofs.RunPoints.{one_leaf, run_point, run_ports, run_space}
use Rattle.aol_flat.proofs.flat.Flat.output_routes.Goals as goal

pub routes_of_outputs-requires-clause-there : goal.routes_of_outputs-requires-clause-there
routes_of_outputs-requires-clause-there c =
    let m = c.args.self.now.model in
    let p = run_point m c.args.leaf c.args.at.now c.leaf-row.result.now _ c.requires.point c.leaf-row.ensures c.in-Elementary.is in
    let h = run_ports m c.model-model.ensures.flat.sound c.args.leaf c.args.spot c.args.at.now c.requires.spot p outputs_of _ refl in
    (h.node, h.task, h.at_node, h.around)

pub routes_of_outputs-requires-clause-space : goal.routes_of_outputs-requires-clause-space
routes_of_outputs-requires-clause-space c = λ node t at.
    let m = c.args.self.now.model in
    let s = c.requires.spot in
    let row = c.leaf-row.ensures in
    let p = run_point m c.args.leaf c.args.at.now c.leaf-row.result.now _ c.requires.point row c.in-Elementary.is in
    let own : s.leaf ≡ p.leaf = one_leaf m c.args.leaf s.leaf p.leaf s.at p.listed in
    let same : row.leaf ≡ s.leaf = one_leaf m c.args.leaf row.leaf s.leaf row.at s.at in
    let computes : s.leaf.work ≡ Computes = ap (λ (l : Leaf). l.work) own ∙ p.computes in
    c.as_slice.ensures
    ∙ (row.space ∙ (ap (λ (l : Leaf). l.space) same ∙ (run_space m c.args.leaf s.leaf s.at computes ∙ ap space_around (one_node m c.args.spot.node s.leaf.node node s.task t s.node at).0)))

pub returns-in-Copy : goal.returns-in-Copy
returns-in-Copy c = no_routes c.args.self.now outputs_of c.args.spot.node c.new-in-Copy.result.items c.new-in-Copy.ensures.items
