-- Cursors of leaves, one after another, and the most that an instance of a leaf has.
use Rattle.std.specs.Cmp.{ranks}
use Rattle.std.specs.Ordering.{ord_max, nat_cmp}
use Rattle.std.proofs.Common.{◌≡◌, ℕ, ◌<◌, ◌≤◌, ◌+◌, List, [], ◌∷◌, ◌++◌, length, get_or, ◌∙◌, sym, ap, arith, inl, inr}
use Rattle.std.proofs.lemmas.Bool.Decides.{nat_tests}
use Rattle.std.proofs.lemmas.List.{length-append, get_or_append_left}
use Rattle.std.proofs.Math.Nat.{eq-or-lt_of_le}
use Rattle.std.proofs.Math.Seq.{get_or-append_seam}
use Rattle.aol_flat.specs.Cursor.{CursorOf}
use Rattle.aol_flat.specs.Laid.{Laid}

-- the first cursors of a model
abbrev pub AreFirst : Laid → List CursorOf → Type 0
AreFirst f cs = (k : ℕ) (d : CursorOf) → k < length cs → get_or cs k d ≡ record { flat = f; leaf = k }

-- the cursor that is put after others stands last
last_is : (cs : List CursorOf) (c d : CursorOf) (k : ℕ) → k ≡ length cs → get_or (cs ++ c ∷ []) k d ≡ c
last_is cs c d k end = ap (λ i. get_or (cs ++ c ∷ []) i d) end ∙ get_or-append_seam cs c [] d

-- the first cursors, and the next one after them
pub first_next : (f : Laid) (cs new : List CursorOf) (c : CursorOf) (n : ℕ) → length cs ≡ n → AreFirst f cs → new ≡ cs ++ c ∷ [] → c ≡ record { flat = f; leaf = n } → (length new ≡ n + 1) × AreFirst f new
first_next f cs new c n many first more is =
    let long : length new ≡ n + 1 = omega (arith, ap length more, length-append cs (c ∷ []), many) in (
      long,
      λ k d low. ap (λ (l : List CursorOf). get_or l k d) more ∙ let up : k ≤ n = omega (arith, low, long) in elim (eq-or-lt_of_le up) [
        | inl e ↦ last_is cs c d k (omega (arith, e, many)) ∙ (is ∙ ap (λ (i : ℕ). record { flat = f; leaf = i }) (sym e))
        | inr e ↦ get_or_append_left cs (c ∷ []) d k (omega (arith, e, many)) ∙ first k d (omega (arith, e, many))
      ],
    )

-- no leaf so far has more, nor has the next one
pub most_next : (each : ℕ → ℕ) (n old new one : ℕ) → ((k : ℕ) → k < n → each k ≤ old) → old ≤ new → one ≤ new → one ≡ each n → (k : ℕ) → k < n + 1 → each k ≤ new
most_next each n old new one before more own is k low =
    let up : k ≤ n = omega (arith, low) in elim (eq-or-lt_of_le up) [
      | inl e ↦ omega (arith, ap each e, is, own)
      | inr e ↦ omega (arith, before k e, more)
    ]

-- the greater of two is no less than either
pub max_above : (a b o : ℕ) → o ≡ ord_max nat_cmp a b → (a ≤ o) × (b ≤ o)
max_above a b o is = grind (arith, nat_tests, ranks b a)
