use Rattle.std.proofs.Common.{◌≡◌, ◌∙◌, length, Some, None, sym, ap, subst, arith}
use Rattle.std.proofs.lemmas.Option.{slice_get_within}
use Rattle.aol_link.specs.declared.link.Interlink.{Interlink}
use Rattle.aol_link.specs.Links.{source_repetition}
use Rattle.aol_link.specs.Types.{IsLinked}
use Rattle.aol_flat.proofs.Linked.{the_link, linked, inside_source, link_leads}
use Rattle.aol_flat.proofs.NodeAt.{read_item}
use Rattle.aol_flat.proofs.PortsOf.{cell_moves}
use Rattle.aol_flat.proofs.flat.Flat.link_source.Goals as goal

pub bounds-as_slice-link : goal.bounds-as_slice-link
bounds-as_slice-link c =
    let m = c.args.self.now.model in
    let b = c.args.body in
    let h = c.requires.there.1 in
    let by = c.requires.linked h.node h.task h.port h.at_node h.listed in
    let k = the_link m c.requires.flat.sound b.number b.up c.args.port c.args.link c.args.from b.task.now b.around.now b.r.now c.args.x c.requires.there.0 c.requires.place h by in
    let low = slice_get_within b.task.now.links c.args.link k.link k.at in
    omega (arith, low, ap length c.as_slice.ensures)

pub before-requires-clause-linked : goal.before-requires-clause-linked
before-requires-clause-linked c =
    let m = c.args.self.now.model in
    let b = c.args.body in
    let h = c.requires.there.1 in
    let by = c.requires.linked h.node h.task h.port h.at_node h.listed in
    let k = the_link m c.requires.flat.sound b.number b.up c.args.port c.args.link c.args.from b.task.now b.around.now b.r.now c.args.x c.requires.there.0 c.requires.place h by in
    let is = read_item b.task.now.links c.as_slice.result.now c.args.link k.link c.index-as_slice-link.result c.as_slice.ensures k.at in
    let same_link : c.index-as_slice-link.result ≡ k.link = c.index-as_slice-link.is ∙ is in
    let P : Interlink → Type 0 = λ l. IsLinked l b.task.now.space b.r.now in
    subst P (sym same_link) (linked m c.requires.flat.sound b.number b.up c.args.port c.args.link c.args.from b.task.now b.around.now b.r.now c.args.x c.requires.there.0 c.requires.place h by)

pub follow_output_of-requires-clause-place : goal.follow_output_of-requires-clause-place
follow_output_of-requires-clause-place c =
    let m = c.args.self.now.model in
    let b = c.args.body in
    let h = c.requires.there.1 in
    let by = c.requires.linked h.node h.task h.port h.at_node h.listed in
    let k = the_link m c.requires.flat.sound b.number b.up c.args.port c.args.link c.args.from b.task.now b.around.now b.r.now c.args.x c.requires.there.0 c.requires.place h by in
    let is = read_item b.task.now.links c.as_slice.result.now c.args.link k.link c.index-as_slice-link.result c.as_slice.ensures k.at in
    let same_link : c.index-as_slice-link.result ≡ k.link = c.index-as_slice-link.is ∙ is in
    let P : Interlink → Type 0 = λ l. source_repetition l.wrap l.distance b.task.now.space b.r.now ≡ Some c.before-2.new.found in
    let leads = subst P same_link (c.if-before.ensures.yes) in
    let p = c.requires.place in
    record {
      lower = p.lower;
      node = p.node;
      inner = p.inner;
      at_up = p.at_up;
      at_body = p.at_body;
      around_inside = p.around_inside;
      inside = inside_source m c.requires.flat.sound b.number b.up c.args.port c.args.link c.args.from b.task.now b.around.now b.r.now c.args.x c.requires.there.0 c.requires.place h by c.before-2.new.found leads;
    }

pub follow_output_of-requires-clause-there : goal.follow_output_of-requires-clause-there
follow_output_of-requires-clause-there c =
    let m = c.args.self.now.model in
    let b = c.args.body in
    let h = c.requires.there.1 in
    let by = c.requires.linked h.node h.task h.port h.at_node h.listed in
    let k = the_link m c.requires.flat.sound b.number b.up c.args.port c.args.link c.args.from b.task.now b.around.now b.r.now c.args.x c.requires.there.0 c.requires.place h by in
    let is = read_item b.task.now.links c.as_slice.result.now c.args.link k.link c.index-as_slice-link.result c.as_slice.ensures k.at in
    let same_link : c.index-as_slice-link.result ≡ k.link = c.index-as_slice-link.is ∙ is in
    let P : Interlink → Type 0 = λ l. source_repetition l.wrap l.distance b.task.now.space b.r.now ≡ Some c.before-2.new.found in
    let leads = subst P same_link (c.if-before.ensures.yes) in
    let l = link_leads m c.requires.flat.sound b.number b.up c.args.port c.args.link c.args.from b.task.now b.around.now b.r.now c.args.x c.requires.there.0 c.requires.place h by c.before-2.new.found leads in
    (l.next, l.is)

pub returns-then-before : goal.returns-then-before
returns-then-before c = λ e h.
    let m = c.args.self.now.model in
    let b = c.args.body in
    let by = c.requires.linked h.node h.task h.port h.at_node h.listed in
    let k = the_link m c.requires.flat.sound b.number b.up c.args.port c.args.link c.args.from b.task.now b.around.now b.r.now c.args.x e c.requires.place h by in
    let is = read_item b.task.now.links c.as_slice.result.now c.args.link k.link c.index-as_slice-link.result c.as_slice.ensures k.at in
    let same_link : c.index-as_slice-link.result ≡ k.link = c.index-as_slice-link.is ∙ is in
    let P : Interlink → Type 0 = λ l. source_repetition l.wrap l.distance b.task.now.space b.r.now ≡ Some c.before-2.new.found in
    let leads = subst P same_link (c.if-before.ensures.yes) in
    let l = link_leads m c.requires.flat.sound b.number b.up c.args.port c.args.link c.args.from b.task.now b.around.now b.r.now c.args.x e c.requires.place h by c.before-2.new.found leads in
    cell_moves c.args.self.now e l.next c.follow_output_of.result l.home (c.follow_output_of.ensures l.next l.is)

pub default_source-requires-clause-outside : goal.default_source-requires-clause-outside
default_source-requires-clause-outside c = λ l at.
    let b = c.args.body in
    let is = read_item b.task.now.links c.as_slice.result.now c.args.link l c.index-as_slice-link.result c.as_slice.ensures at in
    let same_link : c.index-as_slice-link.result ≡ l = c.index-as_slice-link.is ∙ is in
    let P : Interlink → Type 0 = λ z. source_repetition z.wrap z.distance b.task.now.space b.r.now ≡ None in
    subst P same_link c.if-before.ensures.no.0
