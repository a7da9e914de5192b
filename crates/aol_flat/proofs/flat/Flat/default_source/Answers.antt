use Rattle.std.proofs.Common.{◌≡◌, ◌<◌, ◌++◌, ◌∙◌, length, get_or, slice_get, is_some, true, List, Some, sym, ap, subst, arith}
use Rattle.std.proofs.lemmas.Option.{slice_get_within}
use Rattle.aol_shape.specs.Shape.{size, point_at}
use Rattle.aol_tiler.specs.Tiler.{fits, address}
use Rattle.aol_expr_tree.specs.declared.port.Port.{Port}
use Rattle.aol_link.specs.declared.link.Choice.{Choice}
use Rattle.aol_link.specs.declared.link.Fallback.TheVariants.{Number, Tiled}
use Rattle.aol_link.specs.declared.link.Interlink.{Interlink}
use Rattle.aol_link.specs.Types.{IsDefaulted}
use Rattle.aol_model_types.specs.declared.task.Task.TheVariants as tasks
use Rattle.aol_model_types.specs.Rules.{inputs_of, port_shape}
use Rattle.aol_flat.specs.Feed.{IsNumberOf}
use Rattle.aol_flat.specs.Home.{default_choice}
use Rattle.aol_flat.specs.Follow.{IsSourceOf}
use Rattle.aol_flat.specs.declared.follow.Source.{Source}
use Rattle.aol_flat.proofs.Among.{among_get}
use Rattle.aol_flat.proofs.Linked.{the_link, defaulted, number_home, outer_there, default_fits, default_leads}
use Rattle.aol_flat.proofs.NodeAt.{one_node, limits_known, read_port, read_item}
use Rattle.aol_flat.proofs.flat.Flat.default_source.Goals as goal

pub bounds-as_slice-link : goal.bounds-as_slice-link
bounds-as_slice-link c =
    let m = c.args.self.now.model in
    let b = c.args.body in
    let h = c.requires.there.1 in
    let by = c.requires.linked h.node h.task h.port h.at_node h.listed in
    let k = the_link m c.task.ensures.flat.sound b.number b.up c.args.port c.args.link c.args.from b.task.now b.around.now b.r.now c.args.x c.requires.there.0 c.requires.place h by in
    let low = slice_get_within b.task.now.links c.args.link k.link k.at in
    omega (arith, low, ap length c.as_slice.ensures)

pub choice-requires : goal.choice-requires
choice-requires c =
    let m = c.args.self.now.model in
    let b = c.args.body in
    let h = c.requires.there.1 in
    let by = c.requires.linked h.node h.task h.port h.at_node h.listed in
    let k = the_link m c.task.ensures.flat.sound b.number b.up c.args.port c.args.link c.args.from b.task.now b.around.now b.r.now c.args.x c.requires.there.0 c.requires.place h by in
    let is = read_item b.task.now.links c.as_slice.result.now c.args.link k.link c.index-as_slice-link.result c.as_slice.ensures k.at in
    let same_link : c.index-as_slice-link.result ≡ k.link = c.index-as_slice-link.is ∙ is in
    let outside = c.requires.outside k.link k.at in
    let P : Interlink → Type 0 = λ l. IsDefaulted l b.task.now.space b.r.now in
    subst P (sym same_link) (defaulted m c.task.ensures.flat.sound b.number b.up c.args.port c.args.link c.args.from b.task.now b.around.now b.r.now c.args.x c.requires.there.0 c.requires.place h by outside)

pub returns-in-Number : goal.returns-in-Number
returns-in-Number c =
    let P : Source → Type 0 = λ z. IsSourceOf c.args.self.now c.args.body.number c.args.port (c.args.body.around.now ++ c.args.body.r.now) c.args.x c.args.body.up c.args.body.around.now z in
    subst P (sym c.constant.ensures) (λ e h.
    let m = c.args.self.now.model in
    let b = c.args.body in
    let by = c.requires.linked h.node h.task h.port h.at_node h.listed in
    let k = the_link m c.task.ensures.flat.sound b.number b.up c.args.port c.args.link c.args.from b.task.now b.around.now b.r.now c.args.x e c.requires.place h by in
    let is = read_item b.task.now.links c.as_slice.result.now c.args.link k.link c.index-as_slice-link.result c.as_slice.ensures k.at in
    let same_link : c.index-as_slice-link.result ≡ k.link = c.index-as_slice-link.is ∙ is in
    let outside = c.requires.outside k.link k.at in
    let ch = c.index-as_slice-choice.result in
    let rest = c.index-as_slice-link.result.rest in
    let C : Interlink → Type 0 = λ l. default_choice l b.task.now.space b.r.now ≡ Some ch in
    let chosen = subst C same_link
    (ap (slice_get rest) (sym c.choice.ensures.number)
    ∙ among_get rest c.choice.result ch c.choice.ensures.within (c.index-as_slice-choice.is ∙ ap (λ zs. get_or zs c.choice.result ch) c.as_slice-2.ensures)) in
    let n = c.in-Number.number in
    let takes : ch.take ≡ Number n = ap (λ (z : Choice). z.take) c.index-as_slice-choice.is ∙ c.in-Number.is in
    number_home m c.task.ensures.flat.sound b.number b.up c.args.port c.args.link c.args.from b.task.now b.around.now b.r.now c.args.x e c.requires.place h by outside ch chosen n takes)

pub port_number-outer-requires-clause-there : goal.port_number-outer-requires-clause-there
port_number-outer-requires-clause-there c =
    let m = c.args.self.now.model in
    let b = c.args.body in
    let h = c.requires.there.1 in
    let by = c.requires.linked h.node h.task h.port h.at_node h.listed in
    let k = the_link m c.task.ensures.flat.sound b.number b.up c.args.port c.args.link c.args.from b.task.now b.around.now b.r.now c.args.x c.requires.there.0 c.requires.place h by in
    let is = read_item b.task.now.links c.as_slice.result.now c.args.link k.link c.index-as_slice-link.result c.as_slice.ensures k.at in
    let same_link : c.index-as_slice-link.result ≡ k.link = c.index-as_slice-link.is ∙ is in
    let outside = c.requires.outside k.link k.at in
    let ch = c.index-as_slice-choice.result in
    let rest = c.index-as_slice-link.result.rest in
    let C : Interlink → Type 0 = λ l. default_choice l b.task.now.space b.r.now ≡ Some ch in
    let chosen = subst C same_link
    (ap (slice_get rest) (sym c.choice.ensures.number)
    ∙ among_get rest c.choice.result ch c.choice.ensures.within (c.index-as_slice-choice.is ∙ ap (λ zs. get_or zs c.choice.result ch) c.as_slice-2.ensures)) in
    let takes : ch.take ≡ Tiled c.in-Tiled.outer c.in-Tiled.tiler = ap (λ (z : Choice). z.take) c.index-as_slice-choice.is ∙ c.in-Tiled.is in
    ap (λ ps. is_some (port_shape ps c.in-Tiled.outer)) c.as_slice-ins.ensures ∙ outer_there m c.task.ensures.flat.sound b.number b.up c.args.port c.args.link c.args.from b.task.now b.around.now b.r.now c.args.x c.requires.there.0 c.requires.place h by outside ch chosen c.in-Tiled.outer c.in-Tiled.tiler takes

pub port_number-outer-requires-clause-few : goal.port_number-outer-requires-clause-few
port_number-outer-requires-clause-few c =
    let p = c.requires.place in
    let few = (limits_known c.args.self.now.model c.task.ensures.flat.sound c.args.body.up p.node (tasks.Repeated c.args.body.task.now) p.at_up).in_count in
    omega (arith, few, ap length c.as_slice-ins.ensures)

pub bounds-ins-outer : goal.bounds-ins-outer
bounds-ins-outer c =
    let q = c.port_number-outer.ensures in
    slice_get_within c.as_slice-ins.result.now c.port_number-outer.result q.port q.listed

pub address_of-requires-clause-space : goal.address_of-requires-clause-space
address_of-requires-clause-space c =
    let p = c.requires.place in
    (limits_known c.args.self.now.model c.task.ensures.flat.sound c.args.body.up p.node (tasks.Repeated c.args.body.task.now) p.at_up).space

pub address_of-requires-clause-fits : goal.address_of-requires-clause-fits
address_of-requires-clause-fits c =
    let m = c.args.self.now.model in
    let b = c.args.body in
    let h = c.requires.there.1 in
    let by = c.requires.linked h.node h.task h.port h.at_node h.listed in
    let k = the_link m c.task.ensures.flat.sound b.number b.up c.args.port c.args.link c.args.from b.task.now b.around.now b.r.now c.args.x c.requires.there.0 c.requires.place h by in
    let is = read_item b.task.now.links c.as_slice.result.now c.args.link k.link c.index-as_slice-link.result c.as_slice.ensures k.at in
    let same_link : c.index-as_slice-link.result ≡ k.link = c.index-as_slice-link.is ∙ is in
    let outside = c.requires.outside k.link k.at in
    let ch = c.index-as_slice-choice.result in
    let rest = c.index-as_slice-link.result.rest in
    let C : Interlink → Type 0 = λ l. default_choice l b.task.now.space b.r.now ≡ Some ch in
    let chosen = subst C same_link
    (ap (slice_get rest) (sym c.choice.ensures.number)
    ∙ among_get rest c.choice.result ch c.choice.ensures.within (c.index-as_slice-choice.is ∙ ap (λ zs. get_or zs c.choice.result ch) c.as_slice-2.ensures)) in
    let takes : ch.take ≡ Tiled c.in-Tiled.outer c.in-Tiled.tiler = ap (λ (z : Choice). z.take) c.index-as_slice-choice.is ∙ c.in-Tiled.is in
    let N : List Port → Type 0 = λ ps. IsNumberOf ps c.in-Tiled.outer c.port_number-outer.result in
    let q = subst N c.as_slice-ins.ensures c.port_number-outer.ensures in
    let here = c.task.ensures.task in
    let same_task = (one_node m b.number h.node here.0 h.task c.task.result.now h.at_node here.1).1 in
    let port : c.input.result.now ≡ h.port = read_port inputs_of h.task c.task.result.now c.args.port h.port c.input.result.now same_task h.listed c.input.ensures in
    let array = read_item b.task.now.ins c.as_slice-ins.result.now c.port_number-outer.result q.port c.index-ins-outer.result c.as_slice-ins.ensures q.listed in
    let P : Port → Type 0 = λ z. fits c.in-Tiled.tiler z.shape b.task.now.space h.port.shape ≡ true in
    let Q : Port → Type 0 = λ z. fits c.in-Tiled.tiler (get_or c.as_slice-ins.result.now c.port_number-outer.result c.index-ins-outer.result).shape b.task.now.space z.shape ≡ true in
    subst Q (sym port) (subst P (sym array) (default_fits m c.task.ensures.flat.sound b.number b.up c.args.port c.args.link c.args.from b.task.now b.around.now b.r.now c.args.x c.requires.there.0 c.requires.place h by outside ch chosen c.in-Tiled.outer c.in-Tiled.tiler takes c.port_number-outer.result q.port q.listed q.named))

pub address_of-requires-clause-element : goal.address_of-requires-clause-element
address_of-requires-clause-element c =
    let m = c.args.self.now.model in
    let b = c.args.body in
    let h = c.requires.there.1 in
    let here = c.task.ensures.task in
    let same_task = (one_node m b.number h.node here.0 h.task c.task.result.now h.at_node here.1).1 in
    let port : c.input.result.now ≡ h.port = read_port inputs_of h.task c.task.result.now c.args.port h.port c.input.result.now same_task h.listed c.input.ensures in
    let P : Port → Type 0 = λ p. c.args.x < size p.shape in
    subst P (sym port) h.within

pub returns-in-Tiled : goal.returns-in-Tiled
returns-in-Tiled c = λ e h.
    let m = c.args.self.now.model in
    let b = c.args.body in
    let by = c.requires.linked h.node h.task h.port h.at_node h.listed in
    let k = the_link m c.task.ensures.flat.sound b.number b.up c.args.port c.args.link c.args.from b.task.now b.around.now b.r.now c.args.x e c.requires.place h by in
    let is = read_item b.task.now.links c.as_slice.result.now c.args.link k.link c.index-as_slice-link.result c.as_slice.ensures k.at in
    let same_link : c.index-as_slice-link.result ≡ k.link = c.index-as_slice-link.is ∙ is in
    let outside = c.requires.outside k.link k.at in
    let ch = c.index-as_slice-choice.result in
    let rest = c.index-as_slice-link.result.rest in
    let C : Interlink → Type 0 = λ l. default_choice l b.task.now.space b.r.now ≡ Some ch in
    let chosen = subst C same_link
    (ap (slice_get rest) (sym c.choice.ensures.number)
    ∙ among_get rest c.choice.result ch c.choice.ensures.within (c.index-as_slice-choice.is ∙ ap (λ zs. get_or zs c.choice.result ch) c.as_slice-2.ensures)) in
    let takes : ch.take ≡ Tiled c.in-Tiled.outer c.in-Tiled.tiler = ap (λ (z : Choice). z.take) c.index-as_slice-choice.is ∙ c.in-Tiled.is in
    let N : List Port → Type 0 = λ ps. IsNumberOf ps c.in-Tiled.outer c.port_number-outer.result in
    let q = subst N c.as_slice-ins.ensures c.port_number-outer.ensures in
    let here = c.task.ensures.task in
    let same_task = (one_node m b.number h.node here.0 h.task c.task.result.now h.at_node here.1).1 in
    let port : c.input.result.now ≡ h.port = read_port inputs_of h.task c.task.result.now c.args.port h.port c.input.result.now same_task h.listed c.input.ensures in
    let array = read_item b.task.now.ins c.as_slice-ins.result.now c.port_number-outer.result q.port c.index-ins-outer.result c.as_slice-ins.ensures q.listed in
    let P : Port → Type 0 = λ p. c.address_of.result < size p.shape in
    default_leads m c.task.ensures.flat.sound b.number b.up c.args.port c.args.link c.args.from b.task.now b.around.now b.r.now c.args.x e c.requires.place h by outside ch chosen c.in-Tiled.outer c.in-Tiled.tiler takes c.port_number-outer.result q.port q.listed q.named c.address_of.result
    (c.address_of.ensures.address
    ∙ (ap (λ (z : Port). address c.in-Tiled.tiler z.shape b.r.now (point_at c.input.result.now.shape c.args.x)) array
    ∙ ap (λ (z : Port). address c.in-Tiled.tiler q.port.shape b.r.now (point_at z.shape c.args.x)) port))
    (subst P array c.address_of.ensures.within)
