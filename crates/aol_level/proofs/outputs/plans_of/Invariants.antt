use Rattle.std.proofs.Common.{take}
use Rattle.aol_level.specs.Puts.{ArePlans}
use Rattle.aol_level.proofs.outputs.plans_of.Given as goal

abbrev pub invariant-loop-out : goal.invariant-loop-out
invariant-loop-out l = ArePlans l.ins (take l.out-index l.outs) l.plans.items
