use Rattle.std.proofs.Common.{◌≡◌, is_some, sym, ◌∙◌, ap, subst}
use Rattle.std.specs.List.{position}
use Rattle.aol_shape.specs.Lists.{same}
use Rattle.aol_model_types.specs.declared.task.OutPort.{OutPort}
use Rattle.aol_model_types.specs.declared.task.Task.{Task}
use Rattle.aol_model_types.specs.Rules.{outputs_of, port_shape}
use Rattle.aol_flat.specs.Feed.{IsNumberOf}
use Rattle.aol_flat.proofs.Positions.{out_number_found, out_number_there}
use Rattle.aol_flat.proofs.feed.output_number.Goals as goal

pub unreachable-requires : goal.unreachable-requires
unreachable-requires c =
    let at : c.place_of_out.result ≡ position (λ (o : OutPort). same o.port.name c.args.name.now) c.in-Elementary.task.outs =
    c.place_of_out.ensures ∙ ap (position (λ (o : OutPort). same o.port.name c.args.name.now)) c.as_slice.ensures in
    out_number_there c.in-Elementary.task.outs c.args.name.now (sym at ∙ c.in-None.is)
    (sym (ap (λ (t : Task). is_some (port_shape (outputs_of t) c.args.name.now)) c.in-Elementary.is) ∙ c.requires.there)

pub returns-in-Some : goal.returns-in-Some
returns-in-Some c =
    let at : c.place_of_out.result ≡ position (λ (o : OutPort). same o.port.name c.args.name.now) c.in-Elementary.task.outs =
    c.place_of_out.ensures ∙ ap (position (λ (o : OutPort). same o.port.name c.args.name.now)) c.as_slice.ensures in
    let P : Task → Type 0 = λ t. IsNumberOf (outputs_of t) c.args.name.now c.in-Some.number in
    subst P (sym c.in-Elementary.is) (out_number_found c.in-Elementary.task.outs c.args.name.now c.in-Some.number (sym at ∙ c.in-Some.is))
