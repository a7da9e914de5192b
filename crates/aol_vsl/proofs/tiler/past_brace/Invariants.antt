use Rattle.std.proofs.Common.{◌≡◌, ◌≤◌, ◌-◌, length}
use Rattle.aol_vsl.specs.Number.{lexemes_at}
use Rattle.aol_vsl.specs.Walk.{behind_brace}
use Rattle.aol_vsl.proofs.tiler.past_brace.Given as goal

abbrev pub invariant-loop-found : goal.invariant-loop-found
invariant-loop-found l = record {
  lexemes : behind_brace (lexemes_at l.text l.start) ≡ behind_brace (lexemes_at l.text l.place);
  within : l.place ≤ length l.text;
}

abbrev pub decreases-loop-found : goal.decreases-loop-found
decreases-loop-found l = length l.text - l.place
