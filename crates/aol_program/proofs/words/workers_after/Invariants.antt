use Rattle.std.proofs.Common.{◌≡◌, ℕ, ◌≤◌, [], ◌∷◌, map, string_bytes}
use Rattle.std.specs.Fmt.{decimal}
use Rattle.aol_program.proofs.words.workers_after.Given as goal

-- none of the numbers so far is named
abbrev pub invariant-loop-before : goal.invariant-loop-before
invariant-loop-before l = (k : ℕ) → 1 ≤ k → k ≤ l.before → map string_bytes l.words ≡ l.name ∷ decimal k ∷ [] → ⊥
