use Rattle.std.proofs.Common.{◌≡◌, List, [], ◌∷◌, ◌+◌, ◌++◌, drop, get_or, Bool, Ok, Err, Some, arith, subst, ap}
use Rattle.std.proofs.lemmas.List.{drop_all}
use Rattle.std.proofs.lemmas.Result.{err_from_is_err_and}
use Rattle.aol_shape.specs.Texts.{is_letter}
use Rattle.aol_shape.specs.Machine.{stuck_from}
use Rattle.aol_vsl.specs.Reading.{Goal}
use Rattle.aol_vsl.specs.Passing.{parts, Passes, part_of, literal_goals}
use Rattle.aol_vsl.proofs.Parts.{passes_then, passes_err, literal_more, literal_end}
use Rattle.aol_vsl.proofs.recognizer.past_literal.Goals as goal

pub loop-byte-preserved : goal.loop-byte-preserved
loop-byte-preserved c =
    let literal = c.args.literal.now in
    let text = c.args.text.now in
    let i = c.loop-byte.byte-index in
    let at = c.loop-byte.at in
    let byte = get_or literal i 0 in (
      c.in_ok-at.ensures.within,
      λ r p. c.loop-byte.invariant.1 r (literal_more literal text i at c.loop-byte.in_word r c.loop-byte-test.true
          (passes_then (part_of c.loop-byte.in_word byte ∷ []) (literal_goals (is_letter byte) (drop (i + 1) literal)) text at c.in_ok-at.at r c.in_ok-at.ensures.passes
          (subst (λ (b : Bool). Passes (literal_goals b (drop (i + 1) literal)) text c.in_ok-at.at r) c.is_letter-in_word.ensures p))),
    )

pub returns-in_err-at-clause-passes : goal.returns-in_err-at-clause-passes
returns-in_err-at-clause-passes c =
    let literal = c.args.literal.now in
    let i = c.loop-byte.byte-index in
    let byte = get_or literal i 0 in
    let p = err_from_is_err_and c.from_residual.result c.from_residual.ensures.1 in
    rw (p.1, p.2) (c.loop-byte.invariant.1 (Err c.in_err-at.field-0.0) (literal_more literal c.args.text.now i c.loop-byte.at c.loop-byte.in_word (Err c.in_err-at.field-0.0) c.loop-byte-test.true
    (passes_err (part_of c.loop-byte.in_word byte ∷ []) (literal_goals (is_letter byte) (drop (i + 1) literal)) c.args.text.now c.loop-byte.at c.in_err-at.field-0.0 c.in_err-at.ensures.passes)))

pub returns-clause-passes : goal.returns-clause-passes
returns-clause-passes c = c.loop-byte.invariant.1 (Ok c.loop-byte.at) (literal_end c.args.literal.now c.args.text.now c.loop-byte.byte-index c.loop-byte.at c.loop-byte.in_word c.loop-byte-test.false)
