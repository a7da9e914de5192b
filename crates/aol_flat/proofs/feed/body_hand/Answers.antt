use Rattle.std.proofs.Common.{◌≡◌, List, get_or, is_some, sym, ◌∙◌, ap, subst}
use Rattle.std.specs.List.{position}
use Rattle.std.proofs.lemmas.Option.{get_or_from_slice_get}
use Rattle.aol_shape.specs.Lists.{same}
use Rattle.aol_expr_tree.specs.declared.port.Port.{Port}
use Rattle.aol_model_types.specs.Rules.{port_shape}
use Rattle.aol_model_types.specs.declared.task.TilerOn.{TilerOn}
use Rattle.aol_flat.specs.Feed.{IsNumberOf}
use Rattle.aol_flat.proofs.Positions.{found_at, not_found}
use Rattle.aol_flat.proofs.feed.body_hand.Goals as goal

pub port_number-requires-clause-there : goal.port_number-requires-clause-there
port_number-requires-clause-there c =
    let k = c.in-Some.tiler in
    let o = c.index-tilers-tiler.result in
    let outs = c.args.up.now.outs in
    let f = found_at (λ (z : TilerOn). same z.inner c.args.name.now) c.args.up.now.tilers k
    (sym (ap (position (λ (z : TilerOn). same z.inner c.args.name.now)) c.as_slice-tilers.ensures) ∙ (sym c.tiler_place.ensures ∙ c.in-Some.is)) in
    let is : get_or c.as_slice-tilers.result.now k o ≡ f.item = ap (λ ts. get_or ts k o) c.as_slice-tilers.ensures ∙ get_or_from_slice_get c.args.up.now.tilers k f.item o f.listed in
    ap (λ ps. is_some (port_shape ps (get_or c.as_slice-tilers.result.now k o).outer)) c.as_slice.ensures
    ∙ (ap (λ (z : TilerOn). is_some (port_shape outs z.outer)) is ∙ c.requires.there f.item f.first)

pub returns-in-None : goal.returns-in-None
returns-in-None c =
    not_found (λ (o : TilerOn). same o.inner c.args.name.now) c.args.up.now.tilers
    (sym (ap (position (λ (o : TilerOn). same o.inner c.args.name.now)) c.as_slice-tilers.ensures) ∙ (sym c.tiler_place.ensures ∙ c.in-None.is))

pub returns-in-Some : goal.returns-in-Some
returns-in-Some c =
    let k = c.in-Some.tiler in
    let o = c.index-tilers-tiler.result in
    let f = found_at (λ (z : TilerOn). same z.inner c.args.name.now) c.args.up.now.tilers k
    (sym (ap (position (λ (z : TilerOn). same z.inner c.args.name.now)) c.as_slice-tilers.ensures) ∙ (sym c.tiler_place.ensures ∙ c.in-Some.is)) in
    let is : get_or c.as_slice-tilers.result.now k o ≡ f.item = ap (λ ts. get_or ts k o) c.as_slice-tilers.ensures ∙ get_or_from_slice_get c.args.up.now.tilers k f.item o f.listed in
    let P : List Port → Type 0 = λ ps. IsNumberOf ps (get_or c.as_slice-tilers.result.now k o).outer c.port_number.result in
    let Q : TilerOn → Type 0 = λ z. IsNumberOf c.args.up.now.outs z.outer c.port_number.result in
    (f.item, f.first, f.listed, subst Q is (subst P c.as_slice.ensures c.port_number.ensures))
