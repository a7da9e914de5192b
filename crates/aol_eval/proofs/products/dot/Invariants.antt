use Rattle.std.proofs.Common.{◌≡◌, Ok}
use Rattle.aol_eval.specs.Products.{dotted}
use Rattle.aol_eval.proofs.products.dot.Given as goal

abbrev pub invariant-loop-k : goal.invariant-loop-k
invariant-loop-k l = dotted l.left.nums.now l.left.ranks l.right.nums.now l.right.ranks l.sum l.k ≡ Ok l.total
