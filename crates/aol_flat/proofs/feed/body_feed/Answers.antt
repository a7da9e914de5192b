use Rattle.std.proofs.Common.{◌≡◌, ◌∙◌, List, Some, get_or, is_some, sym, ap, subst}
use Rattle.std.specs.List.{position}
use Rattle.std.proofs.lemmas.Option.{none-some}
use Rattle.aol_shape.specs.Lists.{same}
use Rattle.aol_expr_tree.specs.declared.port.Port.{Port}
use Rattle.aol_link.specs.declared.link.Interlink.{Interlink}
use Rattle.aol_model_types.specs.Rules.{outputs_of, port_shape}
use Rattle.aol_model_types.specs.declared.task.TilerOn.{TilerOn}
use Rattle.aol_flat.specs.Feed.{IsNumberOf}
use Rattle.aol_flat.proofs.NodeAt.{read_item}
use Rattle.aol_flat.proofs.Positions.{found_at, not_found}
use Rattle.aol_flat.proofs.feed.body_feed.Goals as goal

pub port_number-requires-clause-there : goal.port_number-requires-clause-there
port_number-requires-clause-there c =
    let k = c.in-Some.tiler in
    let o = c.index-tilers-tiler.result in
    let f = found_at (λ (z : TilerOn). same z.inner c.args.name.now) c.args.up.now.tilers k
    (sym (ap (position (λ (z : TilerOn). same z.inner c.args.name.now)) c.as_slice-tilers.ensures) ∙ (sym c.tiler_place.ensures ∙ c.in-Some.is)) in
    let is = read_item c.args.up.now.tilers c.as_slice-tilers.result.now k f.item o c.as_slice-tilers.ensures f.listed in
    ap (λ ps. is_some (port_shape ps (get_or c.as_slice-tilers.result.now k o).outer)) c.as_slice.ensures
    ∙ (ap (λ (z : TilerOn). is_some (port_shape c.args.up.now.ins z.outer)) is ∙ c.requires.tiled f.item f.first)

pub returns-in-Some : goal.returns-in-Some
returns-in-Some c =
    let k = c.in-Some.tiler in
    let o = c.index-tilers-tiler.result in
    let f = found_at (λ (z : TilerOn). same z.inner c.args.name.now) c.args.up.now.tilers k
    (sym (ap (position (λ (z : TilerOn). same z.inner c.args.name.now)) c.as_slice-tilers.ensures) ∙ (sym c.tiler_place.ensures ∙ c.in-Some.is)) in
    let is = read_item c.args.up.now.tilers c.as_slice-tilers.result.now k f.item o c.as_slice-tilers.ensures f.listed in
    let P : List Port → Type 0 = λ ps. IsNumberOf ps (get_or c.as_slice-tilers.result.now k o).outer c.port_number.result in
    let Q : TilerOn → Type 0 = λ z. IsNumberOf c.args.up.now.ins z.outer c.port_number.result in
    (f.item, f.first, f.listed, subst Q is (subst P c.as_slice.ensures c.port_number.ensures))

pub unreachable-requires : goal.unreachable-requires
unreachable-requires c =
    let untiled = not_found (λ (o : TilerOn). same o.inner c.args.name.now) c.args.up.now.tilers
    (sym (ap (position (λ (o : TilerOn). same o.inner c.args.name.now)) c.as_slice-tilers.ensures) ∙ (sym c.tiler_place.ensures ∙ c.in_default.is)) in
    let none = not_found (λ (l : Interlink). same l.to c.args.name.now) c.args.up.now.links
    (sym (ap (position (λ (l : Interlink). same l.to c.args.name.now)) c.as_slice-links.ensures) ∙ (sym c.link_place.ensures ∙ c.in_default-link_place.is)) in
    let l = c.requires.linked untiled in
    none-some l.0 (sym none ∙ l.1)

pub output_number-requires-clause-there : goal.output_number-requires-clause-there
output_number-requires-clause-there c =
    let untiled = not_found (λ (o : TilerOn). same o.inner c.args.name.now) c.args.up.now.tilers
    (sym (ap (position (λ (o : TilerOn). same o.inner c.args.name.now)) c.as_slice-tilers.ensures) ∙ (sym c.tiler_place.ensures ∙ c.in_default.is)) in
    let k = c.in-Some-link_place.link in
    let f = found_at (λ (z : Interlink). same z.to c.args.name.now) c.args.up.now.links k
    (sym (ap (position (λ (z : Interlink). same z.to c.args.name.now)) c.as_slice-links.ensures) ∙ (sym c.link_place.ensures ∙ c.in-Some-link_place.is)) in
    let is = read_item c.args.up.now.links c.as_slice-links.result.now k f.item c.index-links-link.result c.as_slice-links.ensures f.listed in
    let l = c.requires.linked untiled in
    let one : Some f.item ≡ Some l.0 = sym f.first ∙ l.1 in
    let same_link : f.item ≡ l.0 = cc in
    ap (λ (z : Interlink). is_some (port_shape (outputs_of c.args.inner.now) z.from)) (is ∙ same_link) ∙ l.2

pub returns : goal.returns
returns c =
    let untiled = not_found (λ (o : TilerOn). same o.inner c.args.name.now) c.args.up.now.tilers
    (sym (ap (position (λ (o : TilerOn). same o.inner c.args.name.now)) c.as_slice-tilers.ensures) ∙ (sym c.tiler_place.ensures ∙ c.in_default.is)) in
    let k = c.in-Some-link_place.link in
    let f = found_at (λ (z : Interlink). same z.to c.args.name.now) c.args.up.now.links k
    (sym (ap (position (λ (z : Interlink). same z.to c.args.name.now)) c.as_slice-links.ensures) ∙ (sym c.link_place.ensures ∙ c.in-Some-link_place.is)) in
    let is = read_item c.args.up.now.links c.as_slice-links.result.now k f.item c.index-links-link.result c.as_slice-links.ensures f.listed in
    let Q : Interlink → Type 0 = λ z. IsNumberOf (outputs_of c.args.inner.now) z.from c.output_number.result in
    (f.item, untiled, f.first, f.listed, subst Q is c.output_number.ensures)
