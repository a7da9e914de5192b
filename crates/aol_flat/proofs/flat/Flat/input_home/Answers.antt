use Rattle.std.proofs.Common.{◌≡◌, ◌+◌, ◌*◌, ◌++◌, ◌∙◌, ℕ, List, [], refl, sym, ap, subst}
use Rattle.aol_shape.specs.Shape.{size, rank}
use Rattle.aol_expr_tree.specs.declared.port.Port.{Port}
use Rattle.aol_model_types.specs.Rules.{inputs_of}
use Rattle.aol_flat.specs.Follow.{element_on}
use Rattle.aol_flat.specs.Laid.{Laid, IsCellOf}
use Rattle.aol_flat.specs.Node.{space_around}
use Rattle.aol_flat.specs.Place.{Element}
use Rattle.aol_flat.specs.Route.{IsOnTrail, trail_to}
use Rattle.aol_flat.proofs.NodeAt.{one_node, read_port}
use Rattle.aol_flat.proofs.Routes.{ends}
use Rattle.aol_flat.proofs.StoredAt.{input_cell}
use Rattle.aol_flat.proofs.flat.Flat.input_home.Goals as goal

pub returns : goal.returns
returns c = λ at rest x e h.
    let f = c.args.self.now in
    let m = f.model in
    let flat = c.task.ensures.flat in
    let here = c.task.ensures.task in
    let first = c.first_of_input.result in
    let index = rank (space_around h.node) at in
    let same_task = (one_node m c.args.number h.node here.0 h.task c.task.result.now h.at_node here.1).1 in
    let port : c.input.result.now ≡ h.port = read_port inputs_of h.task c.task.result.now c.args.port h.port c.input.result.now same_task h.listed c.input.ensures in
    let stored = c.requires.stored h.node h.task h.port h.at_node h.listed in
    let begins = c.first_of_input.ensures h.node h.task h.port h.at_node h.listed stored in
    let cell = input_cell m flat.sound c.args.number h.node h.task h.port first index c.args.port at x h.at_node begins h.around h.within refl h.listed stored in
    let P : Element → Type 0 = λ z. IsCellOf f z (first + (index * size h.port.shape + x)) in
    let R : Laid → Type 0 = λ g. IsCellOf g (element_on h.node at h.port x) (first + (index * size h.port.shape + x)) in
    let laid = sym (ap (λ cells. record { model = m; cells = cells }) flat.laid) in
    let one = ends f flat c.args.number h.node h.task first (size h.port.shape) at rest x e h.at_node h.around (subst P (sym h.is) (subst R laid cell)) in
    let space : c.args.space.now ≡ space_around h.node = c.requires.space h.node h.task h.at_node in
    let many : c.size.result ≡ size h.port.shape = c.size.ensures.points ∙ ap (λ (p : Port). size p.shape) port in
    let S : List ℕ → Type 0 = λ a. IsOnTrail f e (at ++ rest) (trail_to [] a first (size h.port.shape)) x in
    let T : ℕ → Type 0 = λ n. IsOnTrail f e (at ++ rest) (trail_to [] c.args.space.now first n) x in
    subst T (sym many) (subst S (sym space) one)
