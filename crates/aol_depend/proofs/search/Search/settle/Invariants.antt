use Rattle.std.proofs.Common.{reverse}
use Rattle.aol_depend.specs.Search.{IsSearch, KeepsOld, steps_left}
use Rattle.aol_depend.proofs.search.Search.settle.Given as goal

abbrev pub invariant-loop-visit : goal.invariant-loop-visit
invariant-loop-visit l = record { state : IsSearch l.needs l.self; old : KeepsOld l.fn.self.marks.items l.self.marks.items }

abbrev pub decreases-loop-visit : goal.decreases-loop-visit
decreases-loop-visit l = steps_left l.needs l.self.marks.items (reverse l.self.path.items)
