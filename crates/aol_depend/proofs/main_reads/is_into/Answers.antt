use Rattle.std.proofs.Common.{sym, ◌∙◌}
use Rattle.aol_flat.proofs.Names.{same-equal}
use Rattle.aol_depend.proofs.main_reads.is_into.Goals as goal

pub returns-then-are_same : goal.returns-then-are_same
returns-then-are_same c there = record {
  name = c.in-Some.name;
  part = c.in-Some.is;
  number = c.is_part.ensures there;
  port_is = same-equal c.args.end.now.port c.args.port.now (sym c.are_same.ensures ∙ c.if-are_same.true);
}
