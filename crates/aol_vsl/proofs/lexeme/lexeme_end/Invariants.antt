use Rattle.std.proofs.Common.{◌≡◌, ◌-◌, take, drop, true}
use Rattle.aol_vsl.proofs.Lexemes.{together}
use Rattle.aol_vsl.proofs.lexeme.lexeme_end.Given as goal

abbrev pub invariant-loop-end : goal.invariant-loop-end
invariant-loop-end l = together (take (l.end - l.start) (drop l.start l.text)) ≡ true
