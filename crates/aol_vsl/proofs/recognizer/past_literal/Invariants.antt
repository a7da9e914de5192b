use Rattle.std.proofs.Common.{◌≤◌, ℕ, Result, length, drop, false}
use Rattle.aol_vsl.specs.Passing.{Passes, literal_goals}
use Rattle.aol_vsl.proofs.recognizer.past_literal.Given as goal

abbrev pub invariant-loop-byte : goal.invariant-loop-byte
invariant-loop-byte l = (l.at ≤ length l.fn.text) × ((r : Result ℕ ℕ) → Passes (literal_goals l.in_word (drop l.byte-index l.literal)) l.fn.text l.at r → Passes (literal_goals false l.literal) l.fn.text l.fn.start r)
