use Rattle.std.proofs.Common.{◌≡◌, ◌*◌, length, ◌∙◌, ap, refl, arith}
use Rattle.aol_flat.specs.declared.route.Route.{Route}
use Rattle.aol_flat.proofs.Runs.{first_run}
use Rattle.aol_flat.proofs.run.+write_run.Goals as goal

pub put_cells-requires-clause-small : goal.put_cells-requires-clause-small
put_cells-requires-clause-small t c =
    let more : c.from.result * c.from-2.result ≡ c.args.i * c.in-Some.route.now.stride = ap (λ z. z * c.from-2.result) c.from.ensures ∙ ap (λ z. c.args.i * z) c.from-2.ensures in
    (first_run c.args.i c.args.routes.now c.in-Some.route.now c.in-Some.routes.now c.as_slice-cells.result.now 0 (c.from.result * c.from-2.result) (length c.args.into.now) c.in-Some.ensures.cases.0 c.as_slice-cells.ensures.value more c.requires.many c.requires.small).small

pub write_run-requires : goal.write_run-requires
write_run-requires t c =
    let first = first_run c.args.i c.args.routes.now c.in-Some.route.now c.in-Some.routes.now c.as_slice-cells.result.now 0 (c.args.i * c.in-Some.route.now.stride) (length c.args.into.now) c.in-Some.ensures.cases.0 c.as_slice-cells.ensures.value refl c.requires.many c.requires.small in
    (omega (arith, ap (length {A = Route}) c.in-Some.ensures.cases.0), (omega (arith, first.count, c.split_at_mut-own.ensures.back_len, c.split_at_mut-own.ensures.front_len), first.later_small))
