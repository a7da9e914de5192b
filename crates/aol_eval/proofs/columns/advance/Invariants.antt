use Rattle.std.proofs.Common.{◌≡◌, ℕ, ◌<◌, ◌≤◌, ℤ, pos, List, ◌∷◌, get_or}
use Rattle.aol_eval.specs.Places.{rank_on}
use Rattle.aol_eval.proofs.columns.advance.Given as goal

abbrev pub invariant-loop-k : goal.invariant-loop-k
invariant-loop-k l = record {
  done : (i : ℕ) → i < l.k → (rest : List ℕ) (more : List ℤ) → rank_on (l.entry ∷ rest) (get_or l.initial.ranks i 0) (get_or l.indices i (pos 0) ∷ more) ≡ rank_on rest (get_or l.ranks i 0) more;
  rest : (i : ℕ) → l.k ≤ i → get_or l.ranks i 0 ≡ get_or l.initial.ranks i 0;
}
