use Rattle.std.proofs.Common.{◌≡◌}
use Rattle.aol_vsl.specs.Number.{lexemes_at}
use Rattle.aol_vsl.proofs.lexeme.lexeme_start.Given as goal

abbrev pub invariant-loop-start : goal.invariant-loop-start
invariant-loop-start l = lexemes_at l.text l.fn.place ≡ lexemes_at l.text l.start
