-- Steps of the reader's loops.
use Rattle.std.specs.Prelude.{◌≡◌, ℕ, zero, suc, ◌+◌, ◌-◌, ◌<◌, ◌≤◌, List, [], ◌∷◌, ◌++◌, codes, ℤ, Some, None, option_map, option_and_then}
use Rattle.std.proofs.Common.{sym, refl, ap, arith, ◌∙◌, append_assoc}
use Rattle.std.proofs.lemmas.List.{append-nil}
use Rattle.aol_cread.specs.Bytes.{Read, found, after, mapped, read_number, read_expr, read_deeper}
use Rattle.aol_cread.specs.Lines.{read_further, read_numbers}

-- further numbers, after those that were read
abbrev pub continued : List ℤ → Read (List ℤ) → Read (List ℤ)
continued xs r = option_map (λ (zs, q). (xs ++ zs, q)) r

continued_none : (r : Read (List ℤ)) → continued [] r ≡ r
continued_none None = refl
continued_none (Some p) = refl

continued_more : (xs : List ℤ) (z : ℤ) (r : Read (List ℤ)) → continued xs (option_map (λ (p : List ℤ × List ℕ). (z ∷ p.0, p.1)) r) ≡ continued (xs ++ z ∷ []) r
continued_more xs z None = refl
continued_more xs z (Some p) = ap (λ ys. Some (ys, p.1)) (sym (append_assoc xs (z ∷ []) p.0))

further_next : (n : ℕ) (t : List ℕ) → read_further (suc n) t ≡ option_and_then (λ (p : ℤ × List ℕ). mapped (λ ys. p.0 ∷ ys) (read_further n) p.1) (after (codes ",") read_number t)
unfolding read_further
further_next n t = refl

numbers_next : (n : ℕ) (t : List ℕ) → read_numbers (suc n) t ≡ option_and_then (λ (p : ℤ × List ℕ). mapped (λ ys. p.0 ∷ ys) (read_further n) p.1) (read_number t)
unfolding read_numbers
numbers_next n t = refl

further_none : (t : List ℕ) → read_further 0 t ≡ found [] t
unfolding read_further
further_none t = refl

pub numbers_start : (c : ℕ) (z : ℤ) (t r : List ℕ) → 0 < c → read_number t ≡ found z r → read_numbers c t ≡ continued ([] ++ z ∷ []) (read_further (c - 1) r)
numbers_start c z t r some is =
    let next : c ≡ suc (c - 1) = omega (arith, some) in
    ap (λ n. read_numbers n t) next ∙ (numbers_next (c - 1) t ∙ (ap (option_and_then (λ (p : ℤ × List ℕ). mapped (λ ys. p.0 ∷ ys) (read_further (c - 1)) p.1)) is ∙ (sym (continued_none (option_map (λ (p : List ℤ × List ℕ). (z ∷ p.0, p.1)) (read_further (c - 1) r))) ∙ continued_more [] z (read_further (c - 1) r))))

pub numbers_stop : (c : ℕ) (t : List ℕ) → 0 < c → read_number t ≡ None → read_numbers c t ≡ None
numbers_stop c t some is =
    let next : c ≡ suc (c - 1) = omega (arith, some) in
    ap (λ n. read_numbers n t) next ∙ (numbers_next (c - 1) t ∙ ap (option_and_then (λ (p : ℤ × List ℕ). mapped (λ ys. p.0 ∷ ys) (read_further (c - 1)) p.1)) is)

module _ (c k : ℕ) (xs : List ℤ) (t : List ℕ) where
  pub further_more : (z : ℤ) (r : List ℕ) → k < c → after (codes ",") read_number t ≡ found z r → continued xs (read_further (c - k) t) ≡ continued (xs ++ z ∷ []) (read_further (c - (k + 1)) r)
  further_more z r below is =
      let next : c - k ≡ suc (c - (k + 1)) = omega (arith, below) in
      ap (continued xs) (ap (λ n. read_further n t) next ∙ (further_next (c - (k + 1)) t ∙ ap (option_and_then (λ (p : ℤ × List ℕ). mapped (λ ys. p.0 ∷ ys) (read_further (c - (k + 1))) p.1)) is))
      ∙ continued_more xs z (read_further (c - (k + 1)) r)

  pub further_stop : k < c → after (codes ",") read_number t ≡ None → continued xs (read_further (c - k) t) ≡ None
  further_stop below is =
      let next : c - k ≡ suc (c - (k + 1)) = omega (arith, below) in
      ap (continued xs) (ap (λ n. read_further n t) next ∙ (further_next (c - (k + 1)) t ∙ ap (option_and_then (λ (p : ℤ × List ℕ). mapped (λ ys. p.0 ∷ ys) (read_further (c - (k + 1))) p.1)) is))

  pub further_done : c ≤ k → continued xs (read_further (c - k) t) ≡ found xs t
  further_done past =
      let none : c - k ≡ 0 = omega (arith, past) in
      ap (continued xs) (ap (λ n. read_further n t) none ∙ further_none t) ∙ ap (λ ys. found ys t) (append-nil xs)

-- with some levels left
pub expr_room : (room : ℕ) (t : List ℕ) → 0 < room → read_expr room t ≡ read_deeper (read_expr (room - 1)) t
unfolding read_expr
expr_room zero t some = absurd (omega (arith, some))
expr_room (suc room) t some = let same : room ≡ suc room - 1 = omega arith in ap (λ n. read_deeper (read_expr n) t) same
