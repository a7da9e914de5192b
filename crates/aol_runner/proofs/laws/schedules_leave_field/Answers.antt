use Rattle.aol_runner.proofs.Alike.{schedules_leave_field}
use Rattle.aol_runner.proofs.laws.schedules_leave_field.Goals as goal

pub returns : goal.returns
returns c = schedules_leave_field
