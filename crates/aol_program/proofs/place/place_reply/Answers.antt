use Rattle.std.proofs.Common.{sym, subst, arith}
use Rattle.aol_assign.proofs.LeafNumbers.{numbers_small}
use Rattle.aol_lines.specs.declared.status.StatusKind.TheVariants.{Done}
use Rattle.aol_lines.specs.Reply.{reply}
use Rattle.aol_program.specs.Made.{ArePlaced, IsPlacedFor, IsPlaceReply, by_entry, lines}
use Rattle.aol_program.specs.Placed.{place_lines}
use Rattle.aol_program.proofs.place.place_reply.Goals as goal
use Rattle.aol_program.proofs.Replies.{made_of}

pub lines_of-requires-clause-placed : goal.lines_of-requires-clause-placed
lines_of-requires-clause-placed c = (subst (IsPlacedFor c.args.flat.now.model c.args.entries.now c.args.workers) c.in-Ok.is c.in_ok-outcome.ensures).placement.many

pub lines_of-requires-clause-few : goal.lines_of-requires-clause-few
lines_of-requires-clause-few c =
    let had = subst (IsPlacedFor c.args.flat.now.model c.args.entries.now c.args.workers) c.in-Ok.is c.in_ok-outcome.ensures in
    omega (arith, had.placement.many, numbers_small c.args.flat.now.model c.model-model.ensures.flat.sound c.model-model.ensures.flat.limits)

pub returns-in-Ok : goal.returns-in-Ok
returns-in-Ok c =
    let m = c.args.flat.now.model in
    let had = subst (IsPlacedFor m c.args.entries.now c.args.workers) c.in-Ok.is c.in_ok-outcome.ensures in
    made_of (IsPlaceReply m c.args.entries.now c.args.workers) c.lines_of.result _ c.lines_of.ensures
    (subst (λ ws. IsPlaceReply m c.args.entries.now c.args.workers (reply Done (place_lines m ws))) (sym had.of_instance) (lines had.no_cause))

pub returns-in-Err : goal.returns-in-Err
returns-in-Err c = by_entry _ (subst (IsPlacedFor c.args.flat.now.model c.args.entries.now c.args.workers) c.in-Err.is c.in_ok-outcome.ensures)
