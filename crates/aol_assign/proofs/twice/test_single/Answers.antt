use Rattle.std.proofs.Common.{sym, ◌∙◌, ap, subst}
use Rattle.aol_flat.specs.Numbered.{number_named}
use Rattle.aol_flat.specs.Targets.{IsSingleAssignment}
use Rattle.aol_assign.proofs.TwiceWalk.{no_main}
use Rattle.aol_assign.proofs.twice.test_single.Goals as goal

pub returns-in_default-clause-ok : goal.returns-in_default-clause-ok
returns-in_default-clause-ok c =
    let m = c.model-model.result.now in
    subst IsSingleAssignment c.model-model.ensures.same
    (no_main m (sym (c.number_named.ensures c.as_slice.result.now c.in_ok-numbers.ensures ∙ ap (λ ts. number_named ts m.main) c.as_slice.ensures) ∙ c.in_default.is))
