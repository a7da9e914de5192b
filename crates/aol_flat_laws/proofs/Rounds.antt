-- Levels by rounds, where no set of numbers goes round in a circle.
use Rattle.std.proofs.Common.{◌≡◌, ℕ, zero, suc, ◌+◌, ◌<◌, ◌≤◌, Bool, true, false, cond, ◌||◌, ◌==◌, List, [], ◌∷◌, length, map, filter, sym, ◌∙◌, ap, refl, arith, subst, ◌⊎◌, inl, inr}
use Rattle.std.specs.Prelude.{slice_index}
use Rattle.std.specs.List.{IsAmong, list_any}
use Rattle.std.proofs.lemmas.Bool.{eqb-true, eq-eqb}
use Rattle.aol_shape.specs.Lists.{numbers_from, numbers_below}
use Rattle.aol_flat.specs.Level.{above_all}
use Rattle.aol_flat.proofs.Agree.{IsAmong-tail}
use Rattle.aol_flat.proofs.Inside.{numbers_among}
use Rattle.aol_flat_laws.proofs.Apart.{first_among, among_filtered}

-- ---- tests of lists

pub any_of : {X : Type 0} (test : X → Bool) (xs : List X) → list_any test xs ≡ true → (x : X) × IsAmong xs x × (test x ≡ true)
any_of test [] h = absurd (cc)
any_of {X = X} test (x ∷ xs) h = go (test x) refl h (any_of test xs)
  where
    go : (b : Bool) → test x ≡ b → (b || list_any test xs) ≡ true → (list_any test xs ≡ true → (y : X) × IsAmong xs y × (test y ≡ true)) → (y : X) × IsAmong (x ∷ xs) y × (test y ≡ true)
    go true e k rest = (x, first_among x xs, e)
    go false e k rest = let r = rest k in (r.0, IsAmong-tail x xs r.0 r.1, r.2)

pub of_any : {X : Type 0} (test : X → Bool) (xs : List X) (x : X) → IsAmong xs x → test x ≡ true → list_any test xs ≡ true
of_any test [] x a t = absurd (omega (arith, a.1.0))
of_any test (y ∷ xs) x (zero, a) t = ap (λ b. b || list_any test xs) (ap test (sym a.1) ∙ t)
of_any test (y ∷ xs) x (suc i, a) t = go (test y) (of_any test xs x (i, (omega (arith, a.0), a.1)) t)
  where
    go : (b : Bool) → list_any test xs ≡ true → (b || list_any test xs) ≡ true
    go true e = refl
    go false e = e

abbrev pub is_in : List ℕ → ℕ → Bool
is_in xs k = list_any (λ x. x == k) xs

pub in_among : (xs : List ℕ) (k : ℕ) → is_in xs k ≡ true → IsAmong xs k
in_among xs k h =
    let r = any_of (λ x. x == k) xs h in
    let e : r.0 ≡ k = eqb-true r.0 k r.2 in
    let P : ℕ → Type 0 = λ x. IsAmong xs x in
    subst P e r.1

pub among_in : (xs : List ℕ) (k : ℕ) → IsAmong xs k → is_in xs k ≡ true
among_in xs k a = of_any (λ x. x == k) xs k a (eq-eqb k k refl)

-- what is kept is no longer, and where it is as long, all is kept
kept_length : {X : Type 0} (keep : X → Bool) (xs : List X) → length (filter keep xs) ≤ length xs
kept_length keep [] = omega arith
kept_length keep (x ∷ xs) = go (keep x) (kept_length keep xs)
  where
    go : (b : Bool) → length (filter keep xs) ≤ length xs → length (cond b (x ∷ filter keep xs) (filter keep xs)) ≤ length (x ∷ xs)
    go true h = omega (arith, h)
    go false h = omega (arith, h)

all_kept : {X : Type 0} (keep : X → Bool) (xs : List X) (x : X) → length xs ≤ length (filter keep xs) → IsAmong xs x → keep x ≡ true
all_kept keep [] x h a = absurd (omega (arith, a.1.0))
all_kept keep (y ∷ xs) x h a = go (keep y) refl h a (all_kept keep xs x)
  where
    go : (b : Bool) → keep y ≡ b → length (y ∷ xs) ≤ length (cond b (y ∷ filter keep xs) (filter keep xs)) → IsAmong (y ∷ xs) x → (length xs ≤ length (filter keep xs) → IsAmong xs x → keep x ≡ true) → keep x ≡ true
    go false e l b rest = absurd (omega (arith, l, kept_length keep xs))
    go true e l (zero, b) rest = ap keep b.1 ∙ e
    go true e l (suc i, b) rest = rest (omega (arith, l)) (i, (omega (arith, b.0), b.1))

-- ---- numbers below n

numbered_length : (f : ℕ → ℕ) (n a : ℕ) → length (map f (numbers_from a n)) ≡ n
numbered_length f zero a = refl
numbered_length f (suc n) a = ap (λ k. suc k) (numbered_length f n (a + 1))

numbered_at : (f : ℕ → ℕ) (n a j : ℕ) → j < n → slice_index (map f (numbers_from a n)) j ≡ f (a + j)
numbered_at f zero a j h = absurd (omega (arith, h))
numbered_at f (suc n) a zero h = ap f (omega arith)
numbered_at f (suc n) a (suc j) h =
    let e : (a + 1) + j ≡ a + suc j = omega arith in
    numbered_at f n (a + 1) j (omega (arith, h)) ∙ ap f e

same_above : (l k ks : List ℕ) → ((x : ℕ) → IsAmong ks x → slice_index l x ≡ slice_index k x) → above_all l ks ≡ above_all k ks
same_above l k [] h = refl
same_above l k (x ∷ ks) h =
    let first : slice_index l x ≡ slice_index k x = h x (first_among x ks) in
    let rest : above_all l ks ≡ above_all k ks = same_above l k ks (λ y a. h y (IsAmong-tail x ks y a)) in
    cc

-- ---- rounds

module _ (n : ℕ) (needs : ℕ → List ℕ) (within : (j k : ℕ) → IsAmong (needs j) k → k < n) where
  -- the levels after so many rounds
  abbrev round : ℕ → List ℕ
  round zero = []
  round (suc t) = map (λ j. above_all (round t) (needs j)) (numbers_below n)

  -- the numbers that are not settled
  abbrev left : ℕ → List ℕ
  left zero = numbers_below n
  left (suc t) = filter (λ j. list_any (is_in (left t)) (needs j)) (left t)

  at_round : (t j : ℕ) → j < n → slice_index (round (suc t)) j ≡ above_all (round t) (needs j)
  at_round t j h =
      let e : 0 + j ≡ j = omega arith in
      numbered_at (λ i. above_all (round t) (needs i)) n 0 j h ∙ ap (λ i. above_all (round t) (needs i)) e

  -- what is settled stays
  settled : (t s j : ℕ) → j < n → (IsAmong (left t) j → ⊥) → slice_index (round (suc (t + s))) j ≡ slice_index (round (t + s)) j
  settled zero s j h gone = absurd (gone (numbers_among n 0 j (omega arith) (omega (arith, h))))
  settled (suc t) s j h gone = go (list_any (is_in (left t)) (needs j)) refl (λ r i k. settled t r i k)
    where
      go : (b : Bool) → list_any (is_in (left t)) (needs j) ≡ b
          → ((r i : ℕ) → i < n → (IsAmong (left t) i → ⊥) → slice_index (round (suc (t + r))) i ≡ slice_index (round (t + r)) i)
          → slice_index (round (suc (suc t + s))) j ≡ slice_index (round (suc t + s)) j
      go true e before =
          let shift : t + suc s ≡ suc t + s = omega arith in
          let same : slice_index (round (suc (t + suc s))) j ≡ slice_index (round (t + suc s)) j =
          before (suc s) j h (λ a. gone (among_filtered (λ i. list_any (is_in (left t)) (needs i)) (left t) j a e)) in
          sym (ap (λ k. slice_index (round (suc k)) j) shift) ∙ (same ∙ ap (λ k. slice_index (round k) j) shift)
      go false e before =
          let shift : suc (t + s) ≡ suc t + s = omega arith in
          let each : above_all (round (suc (t + s))) (needs j) ≡ above_all (round (t + s)) (needs j) =
          same_above (round (suc (t + s))) (round (t + s)) (needs j)
          (λ k a. before s k (within j k a) (λ b. let both : true ≡ false = sym (of_any (is_in (left t)) (needs j) k a (among_in (left t) k b)) ∙ e in cc)) in
          let next : slice_index (round (suc (suc (t + s)))) j ≡ slice_index (round (suc (t + s))) j =
          at_round (suc (t + s)) j h ∙ (each ∙ sym (at_round (t + s) j h)) in
          sym (ap (λ k. slice_index (round (suc k)) j) shift) ∙ (next ∙ ap (λ k. slice_index (round k) j) shift)

  -- where no set goes round in a circle, all is settled in the end
  module _ (straight : (set : List ℕ) (j : ℕ) → IsAmong set j → ((i : ℕ) → IsAmong set i → (k : ℕ) × IsAmong set k × IsAmong (needs i) k) → ⊥) where
    no_member : (t : ℕ) → length (left t) ≤ length (left (suc t)) → (j : ℕ) → IsAmong (left t) j → ⊥
    no_member t l j a =
        straight (left t) j a
        (λ i b.
        let r = any_of (is_in (left t)) (needs i) (all_kept (λ x. list_any (is_in (left t)) (needs x)) (left t) i l b) in
        (r.0, in_among (left t) r.0 r.2, r.1))

    empty : (xs : List ℕ) → ((j : ℕ) → IsAmong xs j → ⊥) → length xs ≡ 0
    empty [] h = refl
    empty (x ∷ xs) h = absurd (h x (first_among x xs))

    below_or_not : (a b : ℕ) → (a < b) ⊎ (b ≤ a)
    below_or_not a b = grind arith

    counted_left : (t : ℕ) → (length (left t) + t ≤ n) ⊎ (length (left t) ≡ 0)
    counted_left zero = inl (omega (arith, numbers_length n 0))
      where
        numbers_length : (n a : ℕ) → length (numbers_from a n) ≡ n
        numbers_length zero a = refl
        numbers_length (suc n) a = ap (λ k. suc k) (numbers_length n (a + 1))
    counted_left (suc t) = go (counted_left t) (below_or_not (length (left (suc t))) (length (left t)))
      where
        shorter : length (left (suc t)) ≤ length (left t)
        shorter = kept_length (λ x. list_any (is_in (left t)) (needs x)) (left t)

        go : (length (left t) + t ≤ n) ⊎ (length (left t) ≡ 0) → (length (left (suc t)) < length (left t)) ⊎ (length (left t) ≤ length (left (suc t))) → (length (left (suc t)) + suc t ≤ n) ⊎ (length (left (suc t)) ≡ 0)
        go (inr h) k = inr (omega (arith, h, shorter))
        go (inl h) (inl k) = inl (omega (arith, h, k))
        go (inl h) (inr k) = inr (omega (arith, shorter, empty (left t) (no_member t k)))

    none_left : (j : ℕ) → IsAmong (left (suc n)) j → ⊥
    none_left j a = go (counted_left (suc n))
      where
        go : (length (left (suc n)) + suc n ≤ n) ⊎ (length (left (suc n)) ≡ 0) → ⊥
        go (inl h) = omega (arith, h)
        go (inr h) = omega (arith, h, a.1.0)

    pub rounds_end : (level : List ℕ) × (length level ≡ n) × ((j : ℕ) → j < n → slice_index level j ≡ above_all level (needs j))
    rounds_end = (
      round (suc n),
      numbered_length (λ j. above_all (round n) (needs j)) n 0,
      λ j h.
          let zero_more : suc n + 0 ≡ suc n = omega arith in
          let stays : slice_index (round (suc (suc n + 0))) j ≡ slice_index (round (suc n + 0)) j = settled (suc n) 0 j h (none_left j) in
          let whole : slice_index (round (suc (suc n))) j ≡ slice_index (round (suc n)) j =
          sym (ap (λ k. slice_index (round (suc k)) j) zero_more) ∙ (stays ∙ ap (λ k. slice_index (round k) j) zero_more) in
          sym whole ∙ at_round (suc n) j h,
    )
