-- Saturated sums and products.
use Rattle.std.specs.Prelude.{◌≡◌, ℕ, zero, suc, ◌+◌, ◌*◌, ◌-◌, ◌^◌, ℤ, min}
use Rattle.std.proofs.Common.{ap, arith, ◌∙◌}
use Rattle.aol_csyn.specs.Meaning.{turn_count}
use Rattle.aol_cexec.specs.Work.{saturated, for_work}

saturated_product : (n m : ℕ) → min (n * saturated m) (2 ^ 64 - 1) ≡ saturated (n * m)
saturated_product zero m = omega arith
saturated_product (suc n) m = grind arith

-- the work of a `For`, by numbers of 64 bits
pub for_saturated : (a b : ℤ) (n body more turns product all : ℕ) → body ≡ saturated n → more ≡ min (body + 1) (2 ^ 64 - 1) → turns ≡ turn_count a b
    → product ≡ min (turns * more) (2 ^ 64 - 1) → all ≡ min (product + 1) (2 ^ 64 - 1) → all ≡ saturated (for_work a b n)
for_saturated a b n body more turns product all is_body is_more is_turns is_product is_all =
    let next : more ≡ saturated (1 + n) = omega (arith, is_body, is_more) in
    let whole : product ≡ saturated (turn_count a b * (1 + n)) =
    is_product ∙ (ap (λ t. min (t * more) (2 ^ 64 - 1)) is_turns ∙ (ap (λ m. min (turn_count a b * m) (2 ^ 64 - 1)) next ∙ saturated_product (turn_count a b) (1 + n))) in
    omega (arith, is_all, whole)
