use Rattle.std.proofs.Common.{◌≡◌}
use Rattle.aol_model_types.specs.Rules.{each, task_checks}
use Rattle.aol_rules.specs.Walk.{first_failing}
use Rattle.aol_rules.proofs.Walks.{behind}
use Rattle.aol_rules.proofs.agree.model.test_tasks.Given as goal

abbrev pub invariant-loop-k : goal.invariant-loop-k
invariant-loop-k l = first_failing (each task_checks l.at l.list) ≡ behind task_checks l.at l.list l.k
