use Rattle.std.proofs.Common.{length, arith, ap}
use Rattle.aol_depend.proofs.Rows.{length-rows_of}
use Rattle.aol_depend.proofs.needs.Needs.len.Goals as goal

pub returns-clause-many : goal.returns-clause-many
returns-clause-many c = omega (arith, ap length c.self.view_is, length-rows_of c.self.inside.starts.items c.self.inside.list.items, c.len.ensures)
