-- Products of whole numbers: sums in one factor, and three factors.
use Rattle.std.proofs.Common.{◌≡◌, zero, suc, ℤ, pos, negsuc, ◌+ℤ◌, ◌-ℤ◌, ◌*ℤ◌, sym, ◌∙◌, ap, arith}
use Rattle.std.proofs.lemmas.Int.{ints}
use Rattle.std.proofs.Math.IntN.{suc_ℤ, pred_ℤ, suc_ℤ-+ℤ, pred_ℤ-+ℤ, suc_ℤ-*ℤ, pred_ℤ-*ℤ, zero-*ℤ, *ℤ_comm}

-- what holds at 0, and with each number at the next and the last, holds of all
each : (P : ℤ → Type 0) → P (pos 0) → ((m : ℤ) → P m → P (suc_ℤ m)) → ((m : ℤ) → P m → P (pred_ℤ m)) → (z : ℤ) → P z
each P none up down (pos zero) = none
each P none up down (pos (suc n)) = up (pos n) (each P none up down (pos n))
each P none up down (negsuc zero) = down (pos zero) none
each P none up down (negsuc (suc n)) = down (negsuc n) (each P none up down (negsuc n))

-- a sum times a number
pub sum-times : (a b c : ℤ) → (a +ℤ b) *ℤ c ≡ a *ℤ c +ℤ b *ℤ c
sum-times a b c = each (λ m. (m +ℤ b) *ℤ c ≡ m *ℤ c +ℤ b *ℤ c) none up down a
  where
    none : (pos 0 +ℤ b) *ℤ c ≡ pos 0 *ℤ c +ℤ b *ℤ c
    none = let e : pos 0 +ℤ b ≡ b = omega (arith, ints) in ap (λ k. k *ℤ c) e ∙ omega (arith, ints, zero-*ℤ c)

    up : (m : ℤ) → (m +ℤ b) *ℤ c ≡ m *ℤ c +ℤ b *ℤ c → (suc_ℤ m +ℤ b) *ℤ c ≡ suc_ℤ m *ℤ c +ℤ b *ℤ c
    up m h = ap (λ k. k *ℤ c) (suc_ℤ-+ℤ m b) ∙ omega (arith, ints, suc_ℤ-*ℤ (m +ℤ b) c, suc_ℤ-*ℤ m c, h)

    down : (m : ℤ) → (m +ℤ b) *ℤ c ≡ m *ℤ c +ℤ b *ℤ c → (pred_ℤ m +ℤ b) *ℤ c ≡ pred_ℤ m *ℤ c +ℤ b *ℤ c
    down m h = ap (λ k. k *ℤ c) (pred_ℤ-+ℤ m b) ∙ omega (arith, ints, pred_ℤ-*ℤ (m +ℤ b) c, pred_ℤ-*ℤ m c, h)

-- a number times a sum
pub times-sum : (a b c : ℤ) → a *ℤ (b +ℤ c) ≡ a *ℤ b +ℤ a *ℤ c
times-sum a b c = omega (arith, ints, *ℤ_comm a (b +ℤ c), *ℤ_comm a b, *ℤ_comm a c, sum-times b c a)

less-times : (a b c : ℤ) → (a -ℤ b) *ℤ c ≡ a *ℤ c -ℤ b *ℤ c
less-times a b c =
    let e : (a -ℤ b) +ℤ b ≡ a = omega (arith, ints) in
    let back : ((a -ℤ b) +ℤ b) *ℤ c ≡ a *ℤ c = ap (λ k. k *ℤ c) e in
    omega (arith, ints, back, sum-times (a -ℤ b) b c)

-- three factors
pub times-times : (a b c : ℤ) → a *ℤ (b *ℤ c) ≡ (a *ℤ b) *ℤ c
times-times a b c = each (λ m. m *ℤ (b *ℤ c) ≡ (m *ℤ b) *ℤ c) none up down a
  where
    none : pos 0 *ℤ (b *ℤ c) ≡ (pos 0 *ℤ b) *ℤ c
    none = zero-*ℤ (b *ℤ c) ∙ sym (ap (λ k. k *ℤ c) (zero-*ℤ b) ∙ zero-*ℤ c)

    up : (m : ℤ) → m *ℤ (b *ℤ c) ≡ (m *ℤ b) *ℤ c → suc_ℤ m *ℤ (b *ℤ c) ≡ (suc_ℤ m *ℤ b) *ℤ c
    up m h =
        let more : (suc_ℤ m *ℤ b) *ℤ c ≡ (m *ℤ b) *ℤ c +ℤ b *ℤ c = ap (λ k. k *ℤ c) (suc_ℤ-*ℤ m b) ∙ sum-times (m *ℤ b) b c in
        omega (arith, ints, more, suc_ℤ-*ℤ m (b *ℤ c), h)

    down : (m : ℤ) → m *ℤ (b *ℤ c) ≡ (m *ℤ b) *ℤ c → pred_ℤ m *ℤ (b *ℤ c) ≡ (pred_ℤ m *ℤ b) *ℤ c
    down m h =
        let less : (pred_ℤ m *ℤ b) *ℤ c ≡ (m *ℤ b) *ℤ c -ℤ b *ℤ c = ap (λ k. k *ℤ c) (pred_ℤ-*ℤ m b) ∙ less-times (m *ℤ b) b c in
        omega (arith, ints, less, pred_ℤ-*ℤ m (b *ℤ c), h)
