use Rattle.std.proofs.Common.{◌≡◌, ◌+◌, ℤ, None, List, [], ◌∷◌, ◌++◌, length, sym, ◌∙◌, ap, subst, arith, rules}
use Rattle.std.proofs.lemmas.List.{length-append}
use Rattle.std.proofs.lemmas.Result.{err_from_is_err_and}
use Rattle.std.specs.List.{AllByRecursion}
use Rattle.aol_shape.specs.Vectors.{IsVector}
use Rattle.aol_vsl.specs.Number.{lexeme_of, lexemes_at}
use Rattle.aol_vsl.specs.Walk.{then_read, matrix_walk}
use Rattle.aol_vsl.proofs.Entries.{all_push}
use Rattle.aol_vsl.proofs.WalkSteps.{after_column, matrix_column, refused_then}
use Rattle.aol_vsl.proofs.tiler.matrix_from.Goals as goal

pub returns-in_err-column-clause-read : goal.returns-in_err-column-clause-read
returns-in_err-column-clause-read c =
    let text = c.args.text.now in
    let cs = c.loop-found.columns in
    let p = err_from_is_err_and c.from_residual.result c.from_residual.ensures.1 in
    rw (p.1, p.2)
    (refused_then _ _ (after_column cs) _ c.in_err-column.ensures.read
    (c.loop-found.invariant.read ∙ matrix_column cs (lexeme_of text c.in-Some.found) (lexemes_at text c.loop-found.place) (lexemes_at text c.in-Some.found.end) c.len.result c.in-Some.ensures.found (search rules) (search rules) (search rules)))

pub loop-found-preserved-then-begins-2 : goal.loop-found-preserved-then-begins-2
loop-found-preserved-then-begins-2 c =
    let text = c.args.text.now in
    let cs = c.loop-found.columns in
    let v : List ℤ = c.in_ok-column.column in
    let all = c.push.new.self in
    let pushed : all ≡ cs ++ v ∷ [] = search rules in
    record {
      read = c.loop-found.invariant.read
          ∙ matrix_column cs (lexeme_of text c.in-Some.found) (lexemes_at text c.loop-found.place) (lexemes_at text c.in-Some.found.end) c.len.result c.in-Some.ensures.found (search rules) (search rules) (search rules)
          ∙ ap (λ r. then_read r (after_column cs)) c.in_ok-column.ensures.read
          ∙ ap (λ ds. matrix_walk None ds (lexemes_at text c.in_ok-column.end)) (sym pushed);
      few = omega (arith, ap length pushed, length-append cs (v ∷ []), c.in_ok-column.ensures.limits.1, c.len.ensures);
      vectors = subst (AllByRecursion IsVector) (sym pushed) (all_push IsVector cs v c.loop-found.invariant.vectors c.in_ok-column.ensures.limits.0);
      within = c.in_ok-column.ensures.within.1;
    }
