-- What holds of the first elements of a list, and of one more that is written.
use Rattle.std.proofs.Common.{◌≡◌, ℕ, zero, suc, ◌+◌, ◌<◌, List, [], ◌∷◌, ◌++◌, length, take, Some, slice_get, sym, ◌∙◌, ap, arith, subst}
use Rattle.std.proofs.Math.ListN.{set}
use Rattle.std.proofs.Math.Seq.{take-suc-set}
use Rattle.std.proofs.lemmas.List.{length-take-le}
use Rattle.std.proofs.lemmas.Option.{none-some}

one_more : {Y : Type 0} (P : ℕ → Y → Type 0) (xs : List Y) (v : Y) → ((x : ℕ) (y : Y) → slice_get xs x ≡ Some y → P x y) → P (length xs) v → (x : ℕ) (y : Y) → slice_get (xs ++ v ∷ []) x ≡ Some y → P x y
one_more P [] v all last zero y h = let f : v ≡ y = cc in subst (P 0) f last
one_more P [] v all last (suc x) y h = absurd (none-some y h)
one_more P (w ∷ xs) v all last zero y h = all zero y h
one_more P (w ∷ xs) v all last (suc x) y h = one_more (λ n. P (suc n)) xs v (λ n z. all (suc n) z) last x y h

pub first_more : {Y : Type 0} (P : ℕ → Y → Type 0) (ys : List Y) (i : ℕ) (v : Y) → i < length ys → ((x : ℕ) (y : Y) → slice_get (take i ys) x ≡ Some y → P x y) → P i v
    → (x : ℕ) (y : Y) → slice_get (take (i + 1) (set ys i v)) x ≡ Some y → P x y
first_more {Y} P ys i v within all last x y h =
    let more : i + 1 ≡ suc i = omega arith in
    let split : take (i + 1) (set ys i v) ≡ take i ys ++ v ∷ [] = ap (λ n. take n (set ys i v)) more ∙ take-suc-set ys i v within in
    let count : length (take i ys) ≡ i = length-take-le i ys (omega (arith, within)) in
    one_more P (take i ys) v all (subst (λ n. P n v) (sym count) last) x y (sym (ap (λ (zs : List Y). slice_get zs x) split) ∙ h)
