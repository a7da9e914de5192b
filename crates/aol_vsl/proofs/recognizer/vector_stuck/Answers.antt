use Rattle.std.proofs.Common.{[], ◌∙◌}
use Rattle.aol_vsl.specs.Reading.{vector_goals}
use Rattle.aol_vsl.proofs.Entries.{stuck_within, stuck_if}
use Rattle.aol_vsl.proofs.recognizer.vector_stuck.Goals as goal

pub returns-in-Ok-clause-within : goal.returns-in-Ok-clause-within
returns-in-Ok-clause-within c = stuck_if vector_goals c.args.text.now c.stuck_behind.result (c.in-Ok.ensures.passes [] ∙ c.stuck_behind.ensures)

pub returns-in-Err-clause-within : goal.returns-in-Err-clause-within
returns-in-Err-clause-within c = stuck_within vector_goals c.args.text.now c.in-Err.byte (c.in-Err.ensures.passes [])
