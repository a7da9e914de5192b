use Rattle.std.proofs.Common.{arith, ap, sym, ◌∙◌}
use Rattle.std.proofs.lemmas.Grind.{common_steps}
use Rattle.std.proofs.lemmas.Result.{err_from_is_err_and}
use Rattle.aol_model_types.specs.Rules.{each}
use Rattle.aol_rules.specs.Walk.{first_failing}
use Rattle.aol_rules.proofs.Walks.{went_on, stopped}
use Rattle.aol_rules.proofs.agree.walk.test_each.Goals as goal

pub returns-in_err-test : goal.returns-in_err-test
returns-in_err-test g c =
    let p = err_from_is_err_and c.from_residual.result c.from_residual.ensures.1 in
    rw (p.1, p.2) (ap (λ xs. first_failing (each (g.R.MemberRules.checks c.args.rules.now) c.args.at.now xs)) (sym c.as_slice-list.ensures)
    ∙ stopped (g.R.MemberRules.checks c.args.rules.now) c.args.at.now c.as_slice-list.result.now c.loop-k.k _ _ _ _ c.in_err-test.ensures c.loop-k.invariant
    (omega arith) c.to_index.ensures (grind (arith, common_steps)) c.index-list-k.is)

pub loop-k-preserved : goal.loop-k-preserved
loop-k-preserved g c =
    went_on (g.R.MemberRules.checks c.args.rules.now) c.args.at.now c.as_slice-list.result.now c.loop-k.k _ _ _ c.in_ok-test.ensures c.loop-k.invariant
    (omega arith) c.to_index.ensures (grind (arith, common_steps)) c.index-list-k.is
