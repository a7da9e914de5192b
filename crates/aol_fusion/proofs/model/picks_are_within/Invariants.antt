use Rattle.std.proofs.Common.{take}
use Rattle.std.specs.List.{AllByRecursion}
use Rattle.aol_model_types.specs.Types.{IsPick}
use Rattle.aol_fusion.proofs.model.picks_are_within.Given as goal

abbrev pub invariant-loop-pick : goal.invariant-loop-pick
invariant-loop-pick l = record { within : AllByRecursion IsPick (take l.pick-index l.picks) }
