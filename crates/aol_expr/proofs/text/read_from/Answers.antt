use Rattle.aol_expr.proofs.Ends.{answered_at_end}
use Rattle.aol_expr.proofs.text.read_from.Goals as goal

pub returns-in-Ok : goal.returns-in-Ok
returns-in-Ok c = answered_at_end c.args.reader.now.held.place c.args.reader.now c.run.new.reader c.args.bytes.now c.ended.result c.in-Ok.ensures.goes_on c.ended.ensures
