-- A finite set in which every instance needs one of the set has an instance that needs itself.
use Rattle.std.proofs.Common.{◌≡◌, ℕ, zero, suc, ◌<◌, ◌≤◌, List, length, get_or, sym, ◌∙◌, arith, ◌⊎◌, inl, inr, subst}
use Rattle.std.specs.Prelude.{slice_index}
use Rattle.std.specs.List.{IsAmong, range_with_len}
use Rattle.aol_model_types.specs.declared.document.Model.{Model}
use Rattle.aol_flat.specs.InstanceNeed.{InstanceNeeds, AreLevelsOf, NeedChain, one, more, CyclesAreNeeds}
use Rattle.aol_flat.proofs.Acyclic.{without, length-without, kept_at, among_from, same_default}

chain_on : (m : Model) (i j k : ℕ) → NeedChain m i j → InstanceNeeds m j k → NeedChain m i k
chain_on m i j k (one n) l = more n (one l)
chain_on m i j k (more {j = x} n c) l = more n (chain_on m x j k c l)

module _ (m : Model) (set : List ℕ) (on : (i : ℕ) → IsAmong set i → (k : ℕ) × IsAmong set k × InstanceNeeds m i k) where
  abbrev IsBefore : ℕ → ℕ → Type 0
  IsBefore j i = (j ≡ i) ⊎ NeedChain m j i

  abbrev Visited : List ℕ → ℕ → Type 0
  Visited rest i = (p j : ℕ) → p < length set → j ≡ get_or set p j → IsAmong rest p ⊎ IsBefore j i

  closes : (i k : ℕ) → InstanceNeeds m i k → IsBefore k i → (n : ℕ) × NeedChain m n n
  closes i k n (inl e) = let P : ℕ → Type 0 = λ x. InstanceNeeds m i x in (i, one (subst P e n))
  closes i k n (inr c) = (k, chain_on m k i k c n)

  before_next : (i k j : ℕ) → InstanceNeeds m i k → IsBefore j i → IsBefore j k
  before_next i k j n (inl e) = let P : ℕ → Type 0 = λ x. InstanceNeeds m x k in inr (one (subst P (sym e) n))
  before_next i k j n (inr c) = inr (chain_on m j i k c n)

  step : (rest : List ℕ) (i k p : ℕ) → InstanceNeeds m i k → Visited rest i → p < length set → k ≡ get_or set p k → (r : IsAmong rest p) → Visited (without rest r.0) k
  step rest i k p n v h e r q y hq ey = go (v q y hq ey)
    where
      told : IsAmong (without rest r.0) q ⊎ (q ≡ p) → IsAmong (without rest r.0) q ⊎ IsBefore y k
      told (inl a) = inl a
      told (inr f) = let P : ℕ → Type 0 = λ x. y ≡ get_or set x y in inr (inl (subst P f ey ∙ (same_default set p y k h ∙ sym e)))

      go : IsAmong rest q ⊎ IsBefore y i → IsAmong (without rest r.0) q ⊎ IsBefore y k
      go (inl a) = told (kept_at rest r.0 p r.1.1 q a.0 a.1.0 a.1.1)
      go (inr b) = inr (before_next i k y n b)

  walk : (n : ℕ) (rest : List ℕ) (i : ℕ) → length rest ≤ n → IsAmong set i → Visited rest i → (k : ℕ) × NeedChain m k k
  walk zero rest i small a v =
      let next = on i a in
      elim (v next.1.0 next.0 next.1.1.0 next.1.1.1) [
        | inl r ↦ absurd (omega (arith, small, r.1.0))
        | inr b ↦ closes i next.0 next.2 b
      ]
  walk (suc n) rest i small a v =
      let next = on i a in
      elim (v next.1.0 next.0 next.1.1.0 next.1.1.1) [
        | inl r ↦ walk n (without rest r.0) next.0 (omega (arith, small, length-without rest r.0 r.1.0)) next.1 (step rest i next.0 next.1.0 next.2 v next.1.1.0 next.1.1.1 r)
        | inr b ↦ closes i next.0 next.2 b
      ]

  find_cycle : (i : ℕ) → IsAmong set i → (k : ℕ) × NeedChain m k k
  find_cycle i a =
      walk (length (range_with_len 0 (length set))) (range_with_len 0 (length set)) i (omega arith) a
      (λ p j h e. inl (among_from (length set) 0 p (omega arith) (omega (arith, h))))

-- levels fall along a chain
falls : (m : Model) (level : List ℕ) → AreLevelsOf m level → (i j : ℕ) → NeedChain m i j → slice_index level j < slice_index level i
falls m level l i j (one n) = l.above i j n
falls m level l i j (more {j = k} n c) = omega (arith, l.above i k n, falls m level l k j c)

pub cycles_are_needs : (m : Model) → CyclesAreNeeds m
cycles_are_needs m = record {
  some = λ j c. find_cycle m c.set c.goes_on j c.within;
  none = λ level l j c.
      let k = find_cycle m c.set c.goes_on j c.within in
      let f : slice_index level k.0 < slice_index level k.0 = falls m level l k.0 k.0 k.1 in
      omega (arith, f);
}
