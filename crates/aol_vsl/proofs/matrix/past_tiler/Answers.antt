use Rattle.std.proofs.Common.{◌++◌, ◌∷◌, [], List, Err, false, codes}
use Rattle.std.proofs.lemmas.Result.{err_from_is_err_and}
use Rattle.aol_vsl.specs.Passing.{literal_goals}
use Rattle.aol_vsl.specs.Reading.{Goal, sign, vector_goals, matrix_goals}
use Rattle.aol_vsl.proofs.Parts.{passes_then, passes_err}
use Rattle.aol_vsl.proofs.matrix.past_tiler.Goals as goal

abbrev origin : List Goal
origin = literal_goals false (codes "(origin=") ++ vector_goals

abbrev paving : List Goal
paving = literal_goals false (codes ",paving=") ++ matrix_goals

abbrev fitting : List Goal
fitting = literal_goals false (codes ",fitting=") ++ matrix_goals

abbrev close : List Goal
close = sign 41 ∷ []

pub returns-in_err-fitting-clause-passes : goal.returns-in_err-fitting-clause-passes
returns-in_err-fitting-clause-passes c =
    let text = c.args.text.now in
    let e = c.in_err-fitting.field-0.0 in
    let p = err_from_is_err_and c.from_residual-in_err-fitting.result c.from_residual-in_err-fitting.ensures.1 in
    rw (p.1, p.2) (passes_then origin (paving ++ (fitting ++ close)) text 0 c.in_ok-paving.paving (Err e) c.in_ok-paving.ensures.passes
    (passes_err paving (fitting ++ close) text c.in_ok-paving.paving e c.in_err-fitting.ensures.passes))

pub returns-in_err-end-clause-passes : goal.returns-in_err-end-clause-passes
returns-in_err-end-clause-passes c =
    let text = c.args.text.now in
    let e = c.in_err-end.field-0.0 in
    let p = err_from_is_err_and c.from_residual-in_err-end.result c.from_residual-in_err-end.ensures.1 in
    rw (p.1, p.2) (passes_then origin (paving ++ (fitting ++ close)) text 0 c.in_ok-paving.paving (Err e) c.in_ok-paving.ensures.passes
    (passes_then paving (fitting ++ close) text c.in_ok-paving.paving c.in_ok-fitting.fitting (Err e) c.in_ok-fitting.ensures.passes
    (passes_err fitting close text c.in_ok-fitting.fitting e c.in_err-end.ensures.passes)))

pub returns-clause-passes : goal.returns-clause-passes
returns-clause-passes c =
    let text = c.args.text.now in
    let r = c.past_sign.result in
    passes_then origin (paving ++ (fitting ++ close)) text 0 c.in_ok-paving.paving r c.in_ok-paving.ensures.passes
    (passes_then paving (fitting ++ close) text c.in_ok-paving.paving c.in_ok-fitting.fitting r c.in_ok-fitting.ensures.passes
    (passes_then fitting close text c.in_ok-fitting.fitting c.in_ok-end.end r c.in_ok-end.ensures.passes c.past_sign.ensures.passes))
