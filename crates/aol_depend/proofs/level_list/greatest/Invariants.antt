use Rattle.std.proofs.Common.{◌≡◌, take, fold, max}
use Rattle.aol_depend.proofs.level_list.greatest.Given as goal

abbrev pub invariant-loop-number : goal.invariant-loop-number
invariant-loop-number l = l.greatest ≡ fold max 0 (take l.number-index l.numbers)
