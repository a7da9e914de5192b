use Rattle.std.proofs.Common.{rules, ◌≡◌, ◌+◌, ◌-◌, ◌++◌, ◌∷◌, [], arith, sym, ap, ◌∙◌, w64, FitsSigned}
use Rattle.std.proofs.lemmas.Int.{to_z-of_z}
use Rattle.aol_cread.specs.Lines.{read_further}
use Rattle.aol_cread.proofs.Loops.{continued, further_more, further_stop, further_done}
use Rattle.aol_cread.proofs.bytes.Reader.numbers.Goals as goal

pub returns-in_default-number_after : goal.returns-in_default-number_after
returns-in_default-number_after c =
    c.loop-k.invariant ∙ further_stop c.args.count c.loop-k._k c.loop-k.numbers c.loop-k.self.left.now (omega arith) c.in_default-number_after.ensures

pub loop-k-preserved : goal.loop-k-preserved
loop-k-preserved c =
    let z = c.in-Some-number_after.number in
    let fits : FitsSigned w64 c.in-Some-number_after.number = search rules in
    let pushed : c.push-in-loop-k.new.self ≡ c.loop-k.numbers ++ c.in-Some-number_after.number ∷ [] = simp (to_z-of_z w64) at c.in_ok-push-2.ensures.ok in
    c.loop-k.invariant
    ∙ (further_more c.args.count c.loop-k._k c.loop-k.numbers c.loop-k.self.left.now z c.number_after.new.self.left.now (omega arith) c.in-Some-number_after.ensures
    ∙ ap (λ xs. continued xs (read_further (c.args.count - (c.loop-k._k + 1)) c.number_after.new.self.left.now)) (sym pushed))

pub returns : goal.returns
returns c = c.loop-k.invariant ∙ further_done c.args.count c.loop-k._k c.loop-k.numbers c.loop-k.self.left.now (omega arith)
