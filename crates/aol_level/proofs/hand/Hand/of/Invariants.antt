use Rattle.std.proofs.Common.{◌≡◌, ℕ, ◌<◌, ◌≤◌, length}
use Rattle.aol_flat.specs.LeafCursor.{reads_each}
use Rattle.aol_level.proofs.Cursored.{AreFirst}
use Rattle.aol_level.proofs.hand.Hand.of.Given as goal

abbrev pub invariant-loop-leaf : goal.invariant-loop-leaf
invariant-loop-leaf l = record {
  many : length l.cursors.items ≡ l.leaf;
  first : AreFirst l.flat l.cursors.items;
  most : (k : ℕ) → k < l.leaf → reads_each l.flat.model k ≤ l.most;
}
