use Rattle.std.proofs.Common.{◌≡◌, ◌+◌, ◌*◌, ◌∙◌, ℕ, sym, ap, subst, arith}
use Rattle.std.proofs.lemmas.Option.{slice_get_within}
use Rattle.aol_shape.specs.Shape.{size}
use Rattle.aol_expr_tree.specs.declared.port.Port.{Port}
use Rattle.aol_model_types.specs.Rules.{outputs_of}
use Rattle.aol_flat.specs.Follow.{element_on}
use Rattle.aol_flat.specs.Laid.{Laid, IsCellOf, homes_of}
use Rattle.aol_flat.specs.Place.{Element}
use Rattle.aol_flat.proofs.Few.{cells_few}
use Rattle.aol_flat.proofs.NodeAt.{one_node, read_port}
use Rattle.aol_flat.proofs.StoredAt.{cell_there, output_cell}
use Rattle.aol_flat.proofs.flat.Flat.cell_of_output.Goals as goal

pub place_from-requires : goal.place_from-requires
place_from-requires c =
    let m = c.args.self.now.model in
    let flat = c.task.ensures.flat in
    let here = c.task.ensures.task in
    let h = c.requires.there.1 in
    let same_task = (one_node m c.args.number h.node here.0 h.task c.task.result.now h.at_node here.1).1 in
    let port : c.output.result.now ≡ h.port = read_port outputs_of h.task c.task.result.now c.args.port h.port c.output.result.now same_task h.listed c.output.ensures in
    let begins = c.first_of_output.ensures h.node h.task h.port h.at_node h.listed (c.requires.stored h.node h.task h.port h.at_node h.listed) in
    let there = cell_there m flat.sound c.args.number h.node h.task h.port c.first_of_output.result c.args.index c.args.port c.requires.at c.args.x h.at_node begins h.around h.within (c.requires.rank_is h.node h.task h.at_node) in
    let low = slice_get_within (homes_of m) (c.first_of_output.result + (c.args.index * size h.port.shape + c.args.x)) (element_on h.node c.requires.at h.port c.args.x) there in
    omega (arith, low, cells_few m flat.sound flat.limits, ap (λ (p : Port). c.args.index * size p.shape) port)

pub returns : goal.returns
returns c = λ at rank_is e h.
    let m = c.args.self.now.model in
    let flat = c.task.ensures.flat in
    let here = c.task.ensures.task in
    let same_task = (one_node m c.args.number h.node here.0 h.task c.task.result.now h.at_node here.1).1 in
    let port : c.output.result.now ≡ h.port = read_port outputs_of h.task c.task.result.now c.args.port h.port c.output.result.now same_task h.listed c.output.ensures in
    let stored = c.requires.stored h.node h.task h.port h.at_node h.listed in
    let begins = c.first_of_output.ensures h.node h.task h.port h.at_node h.listed stored in
    let cell = output_cell m flat.sound c.args.number h.node h.task h.port c.first_of_output.result c.args.index c.args.port at c.args.x h.at_node begins h.around h.within (rank_is h.node h.task h.at_node) h.listed stored in
    let place : c.place_from.result ≡ c.first_of_output.result + (c.args.index * size h.port.shape + c.args.x) =
    c.place_from.ensures ∙ ap (λ (p : Port). c.first_of_output.result + (c.args.index * size p.shape + c.args.x)) port in
    let P : Element → Type 0 = λ z. IsCellOf c.args.self.now z c.place_from.result in
    let Q : ℕ → Type 0 = λ z. IsCellOf c.args.self.now (element_on h.node at h.port c.args.x) z in
    let R : Laid → Type 0 = λ f. IsCellOf f (element_on h.node at h.port c.args.x) (c.first_of_output.result + (c.args.index * size h.port.shape + c.args.x)) in
    let laid = sym (ap (λ cells. record { model = m; cells = cells }) flat.laid) in
    subst P (sym h.is) (subst Q (sym place) (subst R laid cell))
