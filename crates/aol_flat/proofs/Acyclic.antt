-- Among finitely many elements that need no others, where none needs itself, every list of needs ends.
use Rattle.std.proofs.Common.{◌≡◌, ℕ, zero, ◌+◌, ◌<◌, ◌≤◌, suc, List, [], ◌∷◌, length, get_or, sym, ◌∙◌, refl, arith, ◌⊎◌, inl, inr, subst}
use Rattle.std.specs.List.{IsAmong, range_with_len}
use Rattle.aol_model_types.specs.declared.document.Model.{Model}
use Rattle.aol_flat.specs.Place.{Element}
use Rattle.aol_flat.specs.Need.{Needs, Leads, one, more, NeedsItself, IsGrounded, grounded, IsClosed}
use Rattle.aol_flat.specs.Unique.{AcyclicIsGrounded}
use Rattle.aol_flat.proofs.Agree.{IsAmong-tail}

-- a list of numbers without the one at place k
abbrev pub without : List ℕ → ℕ → List ℕ
without [] k = []
without (x ∷ xs) zero = xs
without (x ∷ xs) (suc k) = x ∷ without xs k

pub length-without : (xs : List ℕ) (k : ℕ) → k < length xs → length (without xs k) + 1 ≡ length xs
length-without [] k h = absurd (omega (arith, h))
length-without (x ∷ xs) zero h = omega arith
length-without (x ∷ xs) (suc k) h =
    let shorter : k < length xs = omega (arith, h) in
    omega (arith, length-without xs k shorter)

-- a number of the list stays, or is the one at place k
pub kept_at : (xs : List ℕ) (k v : ℕ) → v ≡ get_or xs k v → (j i : ℕ) → i < length xs → j ≡ get_or xs i j → IsAmong (without xs k) j ⊎ (j ≡ v)
kept_at [] k v f j i h e = absurd (omega (arith, h))
kept_at (x ∷ xs) zero v f j zero h e = inr (e ∙ sym f)
kept_at (x ∷ xs) zero v f j (suc i) h e = inl (i, (omega (arith, h), e))
kept_at (x ∷ xs) (suc k) v f j zero h e = inl (0, (omega arith, e))
kept_at (x ∷ xs) (suc k) v f j (suc i) h e = kept_tail x (without xs k) v j (kept_at xs k v f j i (omega (arith, h)) e)
  where
    kept_tail : (x : ℕ) (ys : List ℕ) (v j : ℕ) → IsAmong ys j ⊎ (j ≡ v) → IsAmong (x ∷ ys) j ⊎ (j ≡ v)
    kept_tail x ys v j (inl a) = inl (IsAmong-tail x ys j a)
    kept_tail x ys v j (inr s) = inr s

first_or_later : (a j : ℕ) → a ≤ j → (j ≡ a) ⊎ (a + 1 ≤ j)
first_or_later a j h = grind arith

pub among_from : (n a j : ℕ) → a ≤ j → j < a + n → IsAmong (range_with_len a n) j
among_from zero a j low high = absurd (omega (arith, low, high))
among_from (suc n) a j low high =
    elim (first_or_later a j low) [
      | inl e ↦ (0, (omega arith, e))
      | inr h ↦ IsAmong-tail a (range_with_len (a + 1) n) j (among_from n (a + 1) j h (omega (arith, high)))
    ]

pub same_default : {X : Type 0} (xs : List X) (i : ℕ) (x y : X) → i < length xs → get_or xs i x ≡ get_or xs i y
same_default [] i x y h = absurd (omega (arith, h))
same_default (a ∷ xs) zero x y h = refl
same_default (a ∷ xs) (suc i) x y h = same_default xs i x y (omega (arith, h))

pub leads_on : (m : Model) (p q r : Element) → Leads m p q → Needs m q r → Leads m p r
leads_on m p q r (one n) k = more n (one k)
leads_on m p q r (more {q = x} n l) k = more n (leads_on m x q r l k)

module _ (m : Model) (all : List Element) (closed : IsClosed m all) (acyclic : (p : Element) → IsAmong all p → NeedsItself m p → ⊥) where
  -- q is p, or leads to it
  abbrev IsBefore : Element → Element → Type 0
  IsBefore q p = (q ≡ p) ⊎ Leads m q p

  -- each element's number is still to be visited, or it stands before p
  abbrev Visited : List ℕ → Element → Type 0
  Visited rest p = (i : ℕ) (q : Element) → i < length all → q ≡ get_or all i q → IsAmong rest i ⊎ IsBefore q p

  -- an element that p needs does not stand before p
  no_return : (p q : Element) → IsAmong all p → Needs m p q → IsBefore q p → ⊥
  no_return p q a n (inl e) =
      let P : Element → Type 0 = λ x. Needs m p x in
      acyclic p a (one (subst P e n))
  no_return p q a n (inr l) = acyclic p a (more n l)

  -- what stood before p stands before what p needs
  before_next : (p q x : Element) → Needs m p q → IsBefore x p → IsBefore x q
  before_next p q x n (inl e) =
      let P : Element → Type 0 = λ y. Needs m y q in
      inr (one (subst P (sym e) n))
  before_next p q x n (inr l) = inr (leads_on m x p q l n)

  -- one visit fewer is left after a step from p to q, which has number i
  step : (rest : List ℕ) (p q : Element) (i : ℕ) → Needs m p q → Visited rest p → i < length all → q ≡ get_or all i q → (r : IsAmong rest i) → Visited (without rest r.0) q
  step rest p q i n v h e r j y hj ey = go (v j y hj ey)
    where
      same : (j ≡ i) → IsAmong (without rest r.0) j ⊎ IsBefore y q
      same f =
          let P : ℕ → Type 0 = λ k. y ≡ get_or all k y in
          inr (inl (subst P f ey ∙ (same_default all i y q h ∙ sym e)))

      told : IsAmong (without rest r.0) j ⊎ (j ≡ i) → IsAmong (without rest r.0) j ⊎ IsBefore y q
      told (inl a) = inl a
      told (inr f) = same f

      go : IsAmong rest j ⊎ IsBefore y p → IsAmong (without rest r.0) j ⊎ IsBefore y q
      go (inl a) = told (kept_at rest r.0 i r.1.1 j a.0 a.1.0 a.1.1)
      go (inr b) = inr (before_next p q y n b)

  visit : (n : ℕ) (rest : List ℕ) (p : Element) → length rest ≤ n → IsAmong all p → Visited rest p → IsGrounded m p
  visit zero rest p small a v =
      grounded (λ q need.
      let b = closed p q a need in
      elim (v b.0 q b.1.0 b.1.1) [
        | inl r ↦ absurd (omega (arith, small, r.1.0))
        | inr s ↦ absurd (no_return p q a need s)
      ])
  visit (suc n) rest p small a v =
      grounded (λ q need.
      let b = closed p q a need in
      elim (v b.0 q b.1.0 b.1.1) [
        | inl r ↦ visit n (without rest r.0) q (omega (arith, small, length-without rest r.0 r.1.0)) b (step rest p q b.0 need v b.1.0 b.1.1 r)
        | inr s ↦ absurd (no_return p q a need s)
      ])

  pub all_grounded : (p : Element) → IsAmong all p → IsGrounded m p
  all_grounded p a =
      visit (length (range_with_len 0 (length all))) (range_with_len 0 (length all)) p (omega arith) a
      (λ i q h e. inl (among_from (length all) 0 i (omega arith) (omega (arith, h))))

pub acyclic_is_grounded : AcyclicIsGrounded
acyclic_is_grounded m all closed acyclic p a = all_grounded m all closed acyclic p a
