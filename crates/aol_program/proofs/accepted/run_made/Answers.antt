use Rattle.std.proofs.Common.{◌≡◌, refl, subst}
use Rattle.aol_flat.specs.Tasks.{main_inputs}
use Rattle.aol_runner.specs.Run.{IsRunField}
use Rattle.aol_lines.specs.Reply.{reply_of}
use Rattle.aol_program.specs.Inputs.{given_arrays}
use Rattle.aol_program.specs.Made.{IsPlacedFor}
use Rattle.aol_program.specs.Run.{IsRunReply}
use Rattle.aol_program.proofs.accepted.run_made.Goals as goal

pub run_placed-requires-clause-placement : goal.run_placed-requires-clause-placement
run_placed-requires-clause-placement g c = λ _ _. (subst (IsPlacedFor c.args.made.flat.model c.args.job.now.allocate c.args.workers) c.in-Ok.is c.in_ok-outcome.ensures).placement

pub returns-in_ok-reply-in-Ok : goal.returns-in_ok-reply-in-Ok
returns-in_ok-reply-in-Ok g c = record {
  prints = subst (λ xs. IsRunReply c.args.made.flat.model xs (reply_of c.in_ok-reply-in-Ok.reply)) c.as_slice-inputs.ensures c.in_ok-reply-in-Ok.ensures.reply;
  laid = c.model-model.ensures.flat;
  of_model = refl;
  placed = subst (IsPlacedFor c.args.made.flat.model c.args.job.now.allocate c.args.workers) c.in-Ok.is c.in_ok-outcome.ensures;
  memory = subst (λ xs. IsRunField c.args.made.flat c.in-Ok.placed.of_instance (given_arrays xs (main_inputs c.args.made.flat.model)) c.in_ok-reply-in-Ok.memory) c.as_slice-inputs.ensures c.in_ok-reply-in-Ok.ensures.memory;
}

pub returns-in-Err : goal.returns-in-Err
returns-in-Err g c = subst (IsPlacedFor c.args.made.flat.model c.args.job.now.allocate c.args.workers) c.in-Err.is c.in_ok-outcome.ensures
