use Rattle.std.proofs.Common.{[], ◌∙◌}
use Rattle.aol_vsl.specs.Reading.{tiler_goals}
use Rattle.aol_vsl.proofs.Entries.{stuck_within, stuck_if}
use Rattle.aol_vsl.proofs.matrix.tiler_stuck.Goals as goal

pub returns-in-Ok-clause-within : goal.returns-in-Ok-clause-within
returns-in-Ok-clause-within c = stuck_if tiler_goals c.args.text.now c.stuck_behind.result (c.in-Ok.ensures.passes [] ∙ c.stuck_behind.ensures)

pub returns-in-Err-clause-stuck : goal.returns-in-Err-clause-stuck
returns-in-Err-clause-stuck c = c.in-Err.ensures.passes []

pub returns-in-Err-clause-within : goal.returns-in-Err-clause-within
returns-in-Err-clause-within c = stuck_within tiler_goals c.args.text.now c.in-Err.byte (c.in-Err.ensures.passes [])
