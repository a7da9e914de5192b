use Rattle.std.specs.Prelude.{◌≡◌, ◌∷◌, ◌++◌, codes, pos}
use Rattle.std.proofs.Common.{rules, arith, refl, sym, ap}
use Rattle.aol_csyn.specs.Text.{number_text, further_text, numbers_text}
use Rattle.aol_csyn.proofs.Written.{adds_both, adds_then, begun_at, begun_end}
use Rattle.aol_csyn.proofs.writing.put_numbers.Goals as goal

pub loop-number-preserved : goal.loop-number-preserved
loop-number-preserved g c =
    begun_at (λ i xs. further_text xs) (λ i z. codes "," ++ number_text z) (λ i x xs. refl) c.in-Some.others.now c.loop-number.number-index (pos 0) c.loop-number-test.true c.loop-number.invariant
    (adds_then c.put_number_after.ensures (search rules))

pub returns-after-loop-number : goal.returns-after-loop-number
returns-after-loop-number g c =
    let rest = begun_end further_text c.in-Some.others.now c.loop-number.number-index (omega arith) refl c.loop-number.invariant in
    adds_then (adds_both c.put_number.ensures rest) (search rules)
