-- Where instances have levels, a settled memory exists: each cell by the cells of lower levels.
use Rattle.std.proofs.Common.{◌≡◌, ℕ, zero, suc, ◌+◌, ◌<◌, List, [], ◌∷◌, length, map, Some, None, Option, sym, ◌∙◌, ap, refl, arith, ◌⊎◌, inl, inr}
use Rattle.std.specs.Prelude.{slice_get, unwrap_or}
use Rattle.std.proofs.lemmas.List.{length-map}
use Rattle.aol_expr_tree.specs.declared.value.Val.{Val}
use Rattle.aol_flat.specs.Net.{Net, Memory, read_value, reads_at, IsSettled, IsWritten}
use Rattle.aol_flat.specs.declared.view.Read.{Read}
use Rattle.aol_flat.specs.declared.view.Read.TheVariants.{Cell, Const}
use Rattle.aol_runner.specs.Schedule.{AreLevelled, HasWriters, SettledMemoryExists}

pub same_reads : (a b : Memory) (rs : List Read) → ((n c : ℕ) → slice_get rs n ≡ Some (Cell c) → a c ≡ b c) → map (read_value a) rs ≡ map (read_value b) rs
same_reads a b [] h = refl
same_reads a b (Cell c ∷ rs) h =
    let first : a c ≡ b c = h 0 c refl in
    let rest : map (read_value a) rs ≡ map (read_value b) rs = same_reads a b rs (λ n d e. h (suc n) d e) in
    cc
same_reads a b (Const z ∷ rs) h =
    let rest : map (read_value a) rs ≡ map (read_value b) rs = same_reads a b rs (λ n d e. h (suc n) d e) in
    cc

some_injective : {X : Type 0} (a b : X) → Some a ≡ Some b → a ≡ b
some_injective a b h = cc

unwrapped : {X : Type 0} (o : Option X) (x d : X) → o ≡ Some x → unwrap_or o d ≡ x
unwrapped o x d h = ap (λ p. unwrap_or p d) h

module _ (net : Net) (writer : ℕ → Option (ℕ × ℕ)) (levels : List ℕ) (count : ℕ) (writers : HasWriters net writer) (levelled : AreLevelled net levels count) (opening : Memory) where
  -- what a cell's writer gives, from what the others hold
  given_by : Memory → ℕ → Option (ℕ × ℕ) → Val
  given_by mem c None = opening c
  given_by mem c (Some (j, k)) = unwrap_or (slice_get (net.gives j (map (read_value mem) (reads_at net j))) k) (opening c)

  -- the memory after so many levels
  value : ℕ → Memory
  value zero c = opening c
  value (suc n) c = given_by (value n) c (writer c)

  -- an instance's cells from a level's memory on
  given_at : (n c j k : ℕ) → writer c ≡ Some (j, k) → value (suc n) c ≡ unwrap_or (slice_get (net.gives j (map (read_value (value n)) (reads_at net j))) k) (opening c)
  unfolding value given_by
  given_at n c j k h = ap (given_by (value n) c) h

  opening_at : (n c : ℕ) → writer c ≡ None → value n c ≡ opening c
  unfolding value given_by
  opening_at zero c h = refl
  opening_at (suc n) c h = ap (given_by (value n) c) h

  -- the level of a cell's writer is below n, or nothing writes it
  IsBelow : ℕ → ℕ → Type 0
  IsBelow n c = (j k l : ℕ) → writer c ≡ Some (j, k) → slice_get levels j ≡ Some l → l < n

  writer_cases : (c : ℕ) → ((j : ℕ) × (k : ℕ) × (writer c ≡ Some (j, k))) ⊎ (writer c ≡ None)
  writer_cases c = go (writer c) refl
    where
      go : (o : Option (ℕ × ℕ)) → writer c ≡ o → ((j : ℕ) × (k : ℕ) × (writer c ≡ Some (j, k))) ⊎ (writer c ≡ None)
      go (Some (j, k)) e = inl (j, k, e)
      go None e = inr e

  -- what an instance of a level below n + 1 reads is below n
  reads_below : (n j k c l d i : ℕ) → writer c ≡ Some (j, k) → slice_get levels j ≡ Some l → l < n + 1 → slice_get (reads_at net j) i ≡ Some (Cell d) → IsBelow n d
  unfolding IsBelow
  reads_below n j k c l d i h at below r = λ j' k' l' h' at'.
      let lower : l' < l = levelled.above j i d j' k' l l' r (writers.writes d j' k' h') at at' in
      omega (arith, lower, below)

  stable : (n c : ℕ) → IsBelow n c → value n c ≡ value (suc n) c
  unfolding IsBelow
  stable zero c b =
      elim (writer_cases c) [
        | inl w ↦ let l = levelled.level w.0 w.1 c (writers.writes c w.0 w.1 w.2) in absurd (omega (arith, b w.0 w.1 l.0 w.2 l.1))
        | inr e ↦ opening_at zero c e ∙ sym (opening_at (suc zero) c e)
      ]
  stable (suc n) c b =
      elim (writer_cases c) [
        | inl w ↦
            let l = levelled.level w.0 w.1 c (writers.writes c w.0 w.1 w.2) in
            let below : l.0 < n + 1 = omega (arith, b w.0 w.1 l.0 w.2 l.1) in
            let same : map (read_value (value n)) (reads_at net w.0) ≡ map (read_value (value (suc n))) (reads_at net w.0) =
            same_reads (value n) (value (suc n)) (reads_at net w.0) (λ i d r. stable n d (reads_below n w.0 w.1 c l.0 d i w.2 l.1 below r)) in
            given_at n c w.0 w.1 w.2 ∙ (ap (λ xs. unwrap_or (slice_get (net.gives w.0 xs) w.1) (opening c)) same ∙ sym (given_at (suc n) c w.0 w.1 w.2))
        | inr e ↦ opening_at (suc n) c e ∙ sym (opening_at (suc (suc n)) c e)
      ]

  -- the memory after all levels
  settled_memory : Memory
  settled_memory = value (suc count)

  is_settled : IsSettled net settled_memory
  unfolding settled_memory
  is_settled j k c h =
      let w : writer c ≡ Some (j, k) = writers.one c j k h in
      let l = levelled.level j k c h in
      let same : map (read_value (value count)) (reads_at net j) ≡ map (read_value (value (suc count))) (reads_at net j) =
      same_reads (value count) (value (suc count)) (reads_at net j) (λ i d r. stable count d (reads_below count j k c l.0 d i w l.1 (omega (arith, l.2)) r)) in
      let many : length (map (read_value (value count)) (reads_at net j)) ≡ length (reads_at net j) = length-map (reads_at net j) (read_value (value count)) in
      let x = writers.gives c j k (map (read_value (value count)) (reads_at net j)) many h in
      let gave : value (suc count) c ≡ x.0 = given_at count c j k w ∙ unwrapped (slice_get (net.gives j (map (read_value (value count)) (reads_at net j))) k) x.0 (opening c) x.1 in
      ap (λ xs. slice_get (net.gives j xs) k) (sym same) ∙ (x.1 ∙ ap (λ a. Some a) (sym gave))

  others_open : (c : ℕ) → (IsWritten net c → ⊥) → settled_memory c ≡ opening c
  unfolding settled_memory
  others_open c n =
      elim (writer_cases c) [
        | inl w ↦ absurd (n (record { writer = w.0; place = w.1; at = writers.writes c w.0 w.1 w.2 }))
        | inr e ↦ opening_at (suc count) c e
      ]

pub settled_memory_exists : SettledMemoryExists
settled_memory_exists net writer levels count writers levelled opening = (
  settled_memory net writer levels count writers levelled opening,
  record { settled = is_settled net writer levels count writers levelled opening; others = others_open net writer levels count writers levelled opening },
)
