use Rattle.std.proofs.Common.{length}
use Rattle.aol_lower.proofs.widths.+ports_test.Given as goal

abbrev pub decreases-ports_test : goal.decreases-ports_test
decreases-ports_test l = length l.ins.now
