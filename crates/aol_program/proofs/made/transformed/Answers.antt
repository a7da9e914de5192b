use Rattle.std.proofs.Common.{◌≡◌}
use Rattle.aol_program.proofs.made.transformed.Goals as goal

pub returns-in-Ok : goal.returns-in-Ok
returns-in-Ok c = record { made = c.in-Ok.ensures.kept; keeps = c.in-Ok.ensures.agrees; writers = c.in-Ok.ensures.writers }

pub step_reply-requires : goal.step_reply-requires
step_reply-requires c = (c.args.flat.model, c.args.steps.now, c.in-Err.ensures.refused)

pub returns-in_ok-reply-in-Err : goal.returns-in_ok-reply-in-Err
returns-in_ok-reply-in-Err c = c.in_ok-reply-in-Err.ensures c.args.flat.model c.args.steps.now c.in-Err.ensures.refused
