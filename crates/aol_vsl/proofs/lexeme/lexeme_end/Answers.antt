use Rattle.std.proofs.Common.{◌<◌, length, sym, ◌∙◌, ap, arith}
use Rattle.std.proofs.lemmas.List.{drop_all}
use Rattle.aol_vsl.proofs.Lexemes.{goes_on}
use Rattle.aol_vsl.proofs.Runs.{run_more, run_ends, run_all, goes_on_no}
use Rattle.aol_vsl.proofs.lexeme.lexeme_end.Goals as goal

pub returns-then-not-joins-clause-lexemes : goal.returns-then-not-joins-clause-lexemes
returns-then-not-joins-clause-lexemes c =
    let some : c.args.start < c.loop-end.end = omega arith in
    run_ends c.args.text.now c.args.start c.loop-end.end some (omega arith) c.loop-end.invariant
    (goes_on_no c.args.text.now c.args.start c.loop-end.end some (omega arith) c.loop-end-test.true (sym c.joins.ensures ∙ c.if-not-joins.true))

pub loop-end-preserved : goal.loop-end-preserved
loop-end-preserved c =
    let some : c.args.start < c.loop-end.end = omega arith in
    run_more c.args.text.now c.args.start c.loop-end.end some (omega arith) c.loop-end-test.true c.loop-end.invariant (sym c.joins.ensures ∙ c.if-not-joins.false)

pub returns-clause-lexemes : goal.returns-clause-lexemes
returns-clause-lexemes c = run_all c.args.text.now c.args.start c.loop-end.end (omega arith) (omega arith) c.loop-end.invariant
