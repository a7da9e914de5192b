-- A tiler whose pairs have different points writes none twice.
use Rattle.std.proofs.Common.{◌≡◌, ◌<◌, ◌≤◌, ◌+◌, ◌*◌, ◌/◌, ◌%◌, ℕ, List, [], ◌∷◌, ◌++◌, length, option_map, Option, Some, None, slice_get, sym, ◌∙◌, ap, refl, arith, subst}
use Rattle.std.specs.List.{AllByRecursion}
use Rattle.std.proofs.lemmas.List.{append-nil, append_assoc}
use Rattle.std.proofs.lemmas.Option.{slice_get_within}
use Rattle.aol_shape.specs.Shape.{size, rank, point_at}
use Rattle.aol_shape.proofs.Points.{point_at-is, rank-point_at}
use Rattle.aol_shape.proofs.Sizes.{size_positive}
use Rattle.aol_tiler.specs.Tiler.{address_point}
use Rattle.aol_flat.specs.Targets.{Writing, earlier_writing, first_repeat}
use Rattle.aol_flat.proofs.Names.{slice_get-left, slice_get-right}
use Rattle.aol_flat.proofs.Twice.{earlier_at}
use Rattle.aol_assign.specs.Apart.{WritesApart}
use Rattle.aol_assign.specs.Marks.{repeat_of}
use Rattle.aol_assign.specs.Pairs.{FitsIn, member_writings, all_writings}
use Rattle.aol_assign.specs.declared.marks.Repeat.{Repeat}
use Rattle.aol_assign.specs.declared.pairs.Member.{Member}
use Rattle.aol_assign.proofs.Counts.{quotient_below}
use Rattle.aol_assign.proofs.WritingRanks.{writing_count, writing_at}

-- two writings of a list have different points
abbrev AllApart : List Writing → Type 0
AllApart ws = (j k : ℕ) (v w : Writing) → j < k → slice_get ws j ≡ Some v → slice_get ws k ≡ Some w → v.1 ≡ w.1 → ⊥

-- so none repeats
unrepeated : (seen ws : List Writing) → AllApart (seen ++ ws) → first_repeat seen ws ≡ None
unrepeated seen [] h = refl
unrepeated seen (w ∷ ws) h =
    let P : List Writing → Type 0 = λ xs. AllApart xs in
    go (earlier_writing seen w.1) refl (unrepeated (seen ++ w ∷ []) ws (subst P (sym (append_assoc seen (w ∷ []) ws)) h))
  where
    go : (o : Option Writing) → earlier_writing seen w.1 ≡ o → first_repeat (seen ++ w ∷ []) ws ≡ None
        → ◌≡◌ {A = Option (Writing × Writing)} (elim o [ Some before ↦ Some (before, w) | None ↦ first_repeat (seen ++ w ∷ []) ws ]) None
    go (Some before) e rest =
        let r = earlier_at seen w.1 before e in
        absurd (h r.0 (length seen + 0) before w (omega (arith, slice_get_within seen r.0 before r.1)) (slice_get-left seen (w ∷ ws) r.0 before r.1) (slice_get-right seen (w ∷ ws) 0) r.2)
    go None e rest = rest

-- numbers with one quotient and one remainder are the same
same_number : (j k p : ℕ) → 1 ≤ p → j / p ≡ k / p → j % p ≡ k % p → j ≡ k
same_number j k p some q r =
    let a : j / p * p + j % p ≡ j = omega (arith, some) in
    let b : k / p * p + k % p ≡ k = omega (arith, some) in
    sym a ∙ (ap (λ n. n * p + j % p) q ∙ (ap (λ n. k / p * p + n) r ∙ b))

module _ (array : List ℕ) (b : Member) (fits : FitsIn array b) (apart : WritesApart b.tiler.now array b.space.now b.pattern.now) where
  abbrev space : List ℕ
  space = b.space.now

  abbrev pattern : List ℕ
  pattern = b.pattern.now

  some : 1 ≤ size pattern
  some = size_positive b.pattern.now fits.pattern_shape.entry

  -- the point of the pair with a number
  abbrev point : ℕ → List ℕ
  point n = address_point b.tiler.now array (point_at space (n / size pattern)) (point_at pattern (n % size pattern))

  point_is : (n : ℕ) (w : Writing) → slice_get (member_writings array b) n ≡ Some w → n < size space * size pattern → w.1 ≡ point n
  point_is n w at within =
      let there = writing_at b.item b.tiler.now array space pattern n some within in
      let both = sym at ∙ there in
      let f = ap (λ (o : Option Writing). option_map (λ (v : Writing). v.1) o) both in
      let g : w.1 ≡ point n = cc in
      g

  all_apart : AllApart (member_writings array b)
  all_apart j k v w lt at there same =
      let count = writing_count b.item b.tiler.now array space pattern in
      let k_low : k < size space * size pattern = omega (arith, slice_get_within (member_writings array b) k w there, count) in
      let j_low : j < size space * size pattern = omega (arith, lt, k_low) in
      let equal : point j ≡ point k = sym (point_is j v at j_low) ∙ (same ∙ point_is k w there k_low) in
      let j_row = quotient_below j (size space) (size pattern) some j_low in
      let k_row = quotient_below k (size space) (size pattern) some k_low in
      let j_rest : j % size pattern < size pattern = omega (arith, some) in
      let k_rest : k % size pattern < size pattern = omega (arith, some) in
      let r = apart (point_at space (j / size pattern)) (point_at pattern (j % size pattern)) (point_at space (k / size pattern)) (point_at pattern (k % size pattern)) (point_at-is space (j / size pattern) j_row)
      (point_at-is pattern (j % size pattern) j_rest) (point_at-is space (k / size pattern) k_row) (point_at-is pattern (k % size pattern) k_rest) equal in
      let rows : j / size pattern ≡ k / size pattern = sym (rank-point_at space (j / size pattern) j_row) ∙ (ap (rank space) r.0 ∙ rank-point_at space (k / size pattern) k_row) in
      let rests : j % size pattern ≡ k % size pattern = sym (rank-point_at pattern (j % size pattern) j_rest) ∙ (ap (rank pattern) r.1 ∙ rank-point_at pattern (k % size pattern) k_rest) in
      let one : j ≡ k = same_number j k (size pattern) some rows rests in
      omega (arith, lt, one)

  none_repeats : repeat_of (all_writings array (b ∷ [])) ≡ None
  none_repeats =
      ap repeat_of (append-nil (member_writings array b))
      ∙ ap (λ o. option_map {U = Repeat} (λ (p : Writing × Writing). record { first = p.0.0; second = p.1.0; point = p.1.1 }) o) (unrepeated [] (member_writings array b) all_apart)

-- the one member of a list
pub one_apart : (array : List ℕ) (bs : List Member) (b : Member) → length bs ≡ 1 → slice_get bs 0 ≡ Some b → AllByRecursion (FitsIn array) bs → WritesApart b.tiler.now array b.space.now b.pattern.now → repeat_of (all_writings array bs) ≡ None
one_apart array [] b many at fits apart = absurd (omega (arith, many))
one_apart array (x ∷ []) b many at fits apart =
    let same : x ≡ b = cc in
    let P : Member → Type 0 = λ z. FitsIn array z in
    ap (λ z. repeat_of (all_writings array (z ∷ []))) same ∙ none_repeats array b (subst P same fits.0) apart
one_apart array (x ∷ y ∷ bs) b many at fits apart = absurd (omega (arith, many))
