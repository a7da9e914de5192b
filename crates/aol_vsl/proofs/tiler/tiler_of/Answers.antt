use Rattle.std.proofs.Common.{Ok, ◌∙◌, ap}
use Rattle.std.proofs.lemmas.Result.{err_from_is_err_and}
use Rattle.aol_vsl.specs.Walk.{then_read}
use Rattle.aol_vsl.proofs.WalkSteps.{behind_origin, behind_paving, origin_first, paving_then, fitting_last, refused_then}
use Rattle.aol_vsl.proofs.tiler.tiler_of.Goals as goal

pub returns-in_err-origin-clause-read : goal.returns-in_err-origin-clause-read
returns-in_err-origin-clause-read c =
    let p = err_from_is_err_and c.from_residual.result c.from_residual.ensures.1 in
    rw (p.1, p.2) (refused_then _ _ behind_origin _ c.in_err-origin.ensures.read (origin_first c.args.text.now c.past_brace.result c.requires.spelled c.past_brace.ensures.lexemes))

pub returns-in_err-paving-clause-read : goal.returns-in_err-paving-clause-read
returns-in_err-paving-clause-read c =
    let p = err_from_is_err_and c.from_residual-in_err-paving.result c.from_residual-in_err-paving.ensures.1 in
    rw (p.1, p.2)
    (refused_then _ _ (behind_paving c.in_ok-origin.origin) _ c.in_err-paving.ensures.read
    (paving_then c.args.text.now c.past_brace.result c.requires.spelled c.past_brace.ensures.lexemes c.in_ok-origin.origin c.in_ok-origin.end c.past_brace-2.result c.in_ok-origin.ensures.read c.past_brace-2.ensures.lexemes))

pub returns-in_err-fitting-clause-read : goal.returns-in_err-fitting-clause-read
returns-in_err-fitting-clause-read c =
    let p = err_from_is_err_and c.from_residual-in_err-fitting.result c.from_residual-in_err-fitting.ensures.1 in
    rw (p.1, p.2)
    (refused_then _ _ _ _ c.in_err-fitting.ensures.read
    (fitting_last c.args.text.now c.past_brace.result c.requires.spelled c.past_brace.ensures.lexemes c.in_ok-origin.origin c.in_ok-origin.end c.past_brace-2.result c.in_ok-origin.ensures.read c.past_brace-2.ensures.lexemes
    c.in_ok-paving.paving c.in_ok-paving.end c.past_brace-3.result c.in_ok-paving.ensures.read c.past_brace-3.ensures.lexemes))

pub returns-clause-read : goal.returns-clause-read
returns-clause-read c =
    fitting_last c.args.text.now c.past_brace.result c.requires.spelled c.past_brace.ensures.lexemes c.in_ok-origin.origin c.in_ok-origin.end c.past_brace-2.result c.in_ok-origin.ensures.read c.past_brace-2.ensures.lexemes
    c.in_ok-paving.paving c.in_ok-paving.end c.past_brace-3.result c.in_ok-paving.ensures.read c.past_brace-3.ensures.lexemes
    ∙ ap (λ r. then_read r (λ q. Ok (record { origin = c.in_ok-origin.origin; paving = c.in_ok-paving.paving; fitting = q.0 }))) c.in_ok-fitting.ensures.read
