use Rattle.std.proofs.Common.{◌≡◌, ◌<◌, ◌∙◌, length, get_or, true, sym, ap, subst, arith}
use Rattle.std.proofs.lemmas.Option.{slice_get_within}
use Rattle.aol_shape.specs.Shape.{size, point_at}
use Rattle.aol_tiler.specs.Tiler.{fits, address}
use Rattle.aol_expr_tree.specs.declared.port.Port.{Port}
use Rattle.aol_model_types.specs.declared.task.Task.TheVariants as tasks
use Rattle.aol_model_types.specs.declared.task.TilerOn.{TilerOn}
use Rattle.aol_model_types.specs.Rules.{inputs_of}
use Rattle.aol_flat.proofs.NodeAt.{one_node, limits_known, read_port, read_item}
use Rattle.aol_flat.proofs.Inward.{in_tiler, in_fits, in_leads}
use Rattle.aol_flat.proofs.flat.Flat.fed_rank.Goals as goal

pub bounds-as_slice-outer : goal.bounds-as_slice-outer
bounds-as_slice-outer c =
    let m = c.args.self.now.model in
    let b = c.args.body in
    let h = c.requires.there.1 in
    let by = c.requires.tiled h.node h.task h.port h.at_node h.listed in
    let o = in_tiler m c.task.ensures.flat.sound b.number b.up c.args.port c.args.tiler c.args.outer b.task.now b.around.now b.r.now c.args.x c.requires.there.0 c.requires.place h by in
    let low = slice_get_within b.task.now.ins c.args.outer o.3.port o.3.listed in
    omega (arith, low, ap length c.as_slice.ensures)

pub bounds-as_slice-tiler : goal.bounds-as_slice-tiler
bounds-as_slice-tiler c =
    let m = c.args.self.now.model in
    let b = c.args.body in
    let h = c.requires.there.1 in
    let by = c.requires.tiled h.node h.task h.port h.at_node h.listed in
    let o = in_tiler m c.task.ensures.flat.sound b.number b.up c.args.port c.args.tiler c.args.outer b.task.now b.around.now b.r.now c.args.x c.requires.there.0 c.requires.place h by in
    let low = slice_get_within b.task.now.tilers c.args.tiler o.0 o.2 in
    omega (arith, low, ap length c.as_slice-2.ensures)

pub address_of-requires-clause-space : goal.address_of-requires-clause-space
address_of-requires-clause-space c =
    let p = c.requires.place in
    (limits_known c.args.self.now.model c.task.ensures.flat.sound c.args.body.up p.node (tasks.Repeated c.args.body.task.now) p.at_up).space

pub address_of-requires-clause-fits : goal.address_of-requires-clause-fits
address_of-requires-clause-fits c =
    let m = c.args.self.now.model in
    let b = c.args.body in
    let h = c.requires.there.1 in
    let here = c.task.ensures.task in
    let by = c.requires.tiled h.node h.task h.port h.at_node h.listed in
    let o = in_tiler m c.task.ensures.flat.sound b.number b.up c.args.port c.args.tiler c.args.outer b.task.now b.around.now b.r.now c.args.x c.requires.there.0 c.requires.place h by in
    let same_task = (one_node m b.number h.node here.0 h.task c.task.result.now h.at_node here.1).1 in
    let port : c.input.result.now ≡ h.port = read_port inputs_of h.task c.task.result.now c.args.port h.port c.input.result.now same_task h.listed c.input.ensures in
    let tiler = read_item b.task.now.tilers c.as_slice-2.result.now c.args.tiler o.0 c.index-as_slice-tiler.result c.as_slice-2.ensures o.2 in
    let array = read_item b.task.now.ins c.as_slice.result.now c.args.outer o.3.port c.index-as_slice-outer.result c.as_slice.ensures o.3.listed in
    let P : TilerOn → Type 0 = λ z. fits z.tiler o.3.port.shape b.task.now.space h.port.shape ≡ true in
    let Q : Port → Type 0 = λ z. fits (get_or c.as_slice-2.result.now c.args.tiler c.index-as_slice-tiler.result).tiler z.shape b.task.now.space h.port.shape ≡ true in
    let R : Port → Type 0 = λ z. fits (get_or c.as_slice-2.result.now c.args.tiler c.index-as_slice-tiler.result).tiler (get_or c.as_slice.result.now c.args.outer c.index-as_slice-outer.result).shape b.task.now.space z.shape ≡ true in
    subst R (sym port) (subst Q (sym array) (subst P (sym tiler)
    (in_fits m c.task.ensures.flat.sound b.number b.up c.args.port c.args.tiler c.args.outer b.task.now b.around.now b.r.now c.args.x c.requires.there.0 c.requires.place h by)))

pub address_of-requires-clause-element : goal.address_of-requires-clause-element
address_of-requires-clause-element c =
    let m = c.args.self.now.model in
    let h = c.requires.there.1 in
    let here = c.task.ensures.task in
    let same_task = (one_node m c.args.body.number h.node here.0 h.task c.task.result.now h.at_node here.1).1 in
    let port : c.input.result.now ≡ h.port = read_port inputs_of h.task c.task.result.now c.args.port h.port c.input.result.now same_task h.listed c.input.ensures in
    let P : Port → Type 0 = λ p. c.args.x < size p.shape in
    subst P (sym port) h.within

pub returns : goal.returns
returns c = λ e h.
    let m = c.args.self.now.model in
    let b = c.args.body in
    let here = c.task.ensures.task in
    let by = c.requires.tiled h.node h.task h.port h.at_node h.listed in
    let o = in_tiler m c.task.ensures.flat.sound b.number b.up c.args.port c.args.tiler c.args.outer b.task.now b.around.now b.r.now c.args.x e c.requires.place h by in
    let same_task = (one_node m b.number h.node here.0 h.task c.task.result.now h.at_node here.1).1 in
    let port : c.input.result.now ≡ h.port = read_port inputs_of h.task c.task.result.now c.args.port h.port c.input.result.now same_task h.listed c.input.ensures in
    let tiler = read_item b.task.now.tilers c.as_slice-2.result.now c.args.tiler o.0 c.index-as_slice-tiler.result c.as_slice-2.ensures o.2 in
    let array = read_item b.task.now.ins c.as_slice.result.now c.args.outer o.3.port c.index-as_slice-outer.result c.as_slice.ensures o.3.listed in
    let P : Port → Type 0 = λ p. c.address_of.result < size p.shape in
    in_leads m c.task.ensures.flat.sound b.number b.up c.args.port c.args.tiler c.args.outer b.task.now b.around.now b.r.now c.args.x e c.requires.place h by c.address_of.result
    (c.address_of.ensures.address
    ∙ (ap (λ (z : TilerOn). address z.tiler (get_or c.as_slice.result.now c.args.outer c.index-as_slice-outer.result).shape b.r.now (point_at c.input.result.now.shape c.args.x)) tiler
    ∙ (ap (λ (z : Port). address o.0.tiler z.shape b.r.now (point_at c.input.result.now.shape c.args.x)) array
    ∙ ap (λ (z : Port). address o.0.tiler o.3.port.shape b.r.now (point_at z.shape c.args.x)) port)))
    (subst P array c.address_of.ensures.within)
