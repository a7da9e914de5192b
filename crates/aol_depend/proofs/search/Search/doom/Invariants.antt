use Rattle.std.proofs.Common.{◌≡◌, ◌<◌, length, reverse}
use Rattle.std.specs.List.{IsAmong}
use Rattle.aol_depend.specs.declared.search.Visit.{Visit}
use Rattle.aol_depend.specs.Search.{doomed}
use Rattle.aol_depend.proofs.search.Search.doom.Given as goal

abbrev pub invariant-loop-visit : goal.invariant-loop-visit
invariant-loop-visit l = record {
  marks : doomed l.self.marks.items (reverse l.self.path.items) ≡ doomed l.fn.self.marks.items (reverse l.fn.self.path.items);
  within : (v : Visit) → IsAmong (reverse l.self.path.items) v → v.instance < length l.self.marks.items;
  levels : l.self.levels.items ≡ l.fn.self.levels.items;
  ranked : l.self.ranked ≡ l.fn.self.ranked;
}

abbrev pub decreases-loop-visit : goal.decreases-loop-visit
decreases-loop-visit l = goal.left-loop-visit l
