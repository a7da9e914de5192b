use Rattle.std.proofs.Common.{◌≡◌}
use Rattle.aol_model_types.specs.Rules.{each}
use Rattle.aol_rules.specs.Walk.{first_failing}
use Rattle.aol_rules.proofs.Walks.{behind}
use Rattle.aol_rules.proofs.agree.walk.test_each.Given as goal

abbrev pub invariant-loop-k : goal.invariant-loop-k
invariant-loop-k g l = first_failing (each (g.R.MemberRules.checks l.rules) l.at l.list) ≡ behind (g.R.MemberRules.checks l.rules) l.at l.list l.k
