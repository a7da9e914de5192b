-- Levels of one instance after another, where each needs earlier ones alone.
use Rattle.std.proofs.Common.{◌≡◌, ◌≤◌, ◌<◌, ◌^◌, ℕ, zero, suc, ◌+◌, max, fold, List, [], ◌∷◌, ◌++◌, length, take, slice_get, get_or, Option, Some, unwrap_or, sym, ◌∙◌, ap, refl, subst, arith, length-append, inl, inr}
use Rattle.std.specs.List.{IsAmong}
use Rattle.std.proofs.lemmas.Bool.{cases_lt}
use Rattle.std.proofs.lemmas.List.{take_more}
use Rattle.std.proofs.lemmas.Option.{slice_get_within}
use Rattle.aol_shape.specs.Shape.{point_at}
use Rattle.aol_model_types.specs.declared.document.Model.{Model}
use Rattle.aol_flat.specs.Instance.{instances, instance_on}
use Rattle.aol_flat.specs.Laid.{Laid}
use Rattle.aol_flat.specs.LeafCursor.{first_on}
use Rattle.aol_flat.specs.Leaves.{IsLeafRow}
use Rattle.aol_flat.specs.Level.{Reads, AreReadsOf, AreReads, writers_read, above_all, AreLevels}
use Rattle.aol_flat.specs.declared.leaf.Leaf.{Leaf as LeafRow}
use Rattle.aol_flat.specs.declared.view.Read.{Read}
use Rattle.aol_flat.proofs.Among.{among_append}
use Rattle.aol_flat.proofs.Names.{slice_get-right}
use Rattle.aol_flat_laws.proofs.CellNeeds.{there_at}
use Rattle.aol_depend.specs.InOrder.{AreLow, IsAbove, IsRankedAt, AreRankedBefore}
use Rattle.aol_depend.proofs.Finding.{most_below}
use Rattle.aol_depend.proofs.Gathering.{writers-append}
use Rattle.aol_depend.proofs.LeafRows.{numbered, leaf_ends}
use Rattle.aol_depend.proofs.Moves.{above_all-same, above_all-low}

-- ---- lists

-- what stands at a place, after one more is added
get-before : {X : Type 0} (xs : List X) (y : X) (j : ℕ) → j < length xs → slice_get (xs ++ y ∷ []) j ≡ slice_get xs j
get-before [] y j lt = absurd (omega (arith, lt))
get-before (x ∷ xs) y zero lt = refl
get-before (x ∷ xs) y (suc j) lt = get-before xs y j (omega (arith, lt))

number-before : (xs : List ℕ) (y j : ℕ) → j < length xs → get_or (xs ++ y ∷ []) j 0 ≡ get_or xs j 0
number-before [] y j lt = absurd (omega (arith, lt))
number-before (x ∷ xs) y zero lt = refl
number-before (x ∷ xs) y (suc j) lt = number-before xs y j (omega (arith, lt))

number-last : (xs : List ℕ) (y j : ℕ) → j ≡ length xs → get_or (xs ++ y ∷ []) j 0 ≡ y
number-last [] y zero e = refl
number-last [] y (suc j) e = absurd (omega (arith, e))
number-last (x ∷ xs) y zero e = absurd (omega (arith, e))
number-last (x ∷ xs) y (suc j) e = number-last xs y j (omega (arith, e))

-- ---- what some reads need

-- the greatest level of two lists
above_all-append : (levels ks js : List ℕ) → above_all levels (ks ++ js) ≡ max (above_all levels ks) (above_all levels js)
above_all-append levels [] js = omega arith
above_all-append levels (k ∷ ks) js = let later = above_all-append levels ks js in omega (arith, later)

-- nothing is read
pub above_none : (levels : List ℕ) (list : List (Option ℕ)) → IsAbove levels list [] 0
above_none levels list = record { known = λ k a. absurd (omega (arith, a.1.0)); is = refl }

-- one read more
pub above_more : (levels : List ℕ) (list : List (Option ℕ)) (rs : List Read) (i : ℕ) (d : Read) (level more : ℕ) → i < length rs → IsAbove levels list (take i rs) level → IsAbove levels list (get_or rs i d ∷ []) more
    → IsAbove levels list (take (i + 1) rs) (max more level)
above_more levels list rs i d level more within before next =
    let both : writers_read list (take (i + 1) rs) ≡ writers_read list (take i rs) ++ writers_read list (get_or rs i d ∷ []) =
    ap (writers_read list) (take_more rs i d within) ∙ writers-append list (take i rs) (get_or rs i d ∷ []) in
    record {
      known = λ k a.
          let P : List ℕ → Type 0 = λ ks. IsAmong ks k in
          elim (among_append (writers_read list (take i rs)) (writers_read list (get_or rs i d ∷ [])) k (subst P both a)) [
            | inl first ↦ before.known k first
            | inr last ↦ next.known k last
          ];
      is = omega (arith, before.is, next.is, ap (above_all levels) both, above_all-append levels (writers_read list (take i rs)) (writers_read list (get_or rs i d ∷ [])));
    }

-- ---- one instance after another

pub none_ranked : (f : Laid) (list : List (Option ℕ)) → AreRankedBefore f list 0 []
none_ranked f list = record {
  reads = [];
  many_reads = refl;
  many = refl;
  low = λ j lt. absurd (omega (arith, lt));
  each = λ j rs at. absurd (none j rs at);
}
  where
    none : (j : ℕ) (rs : List Read) → slice_get {X = List Read} [] j ≡ Some rs → ⊥
    none j rs at = cc

pub levels_low : (f : Laid) (list : List (Option ℕ)) (n : ℕ) (levels : List ℕ) → AreRankedBefore f list n levels → n < 2 ^ 32 → AreLow levels
levels_low f list n levels r few = record { few = omega (arith, few, r.many); each = λ j lt. r.low j (omega (arith, lt, r.many)) }

pub more_ranked : (f : Laid) (list : List (Option ℕ)) (n : ℕ) (levels : List ℕ) (rs : List Read) (level : ℕ) → AreRankedBefore f list n levels → AreReadsOf f n rs → IsAbove levels list rs level
    → AreRankedBefore f list (n + 1) (levels ++ level ∷ [])
more_ranked f list n levels rs level r is above = record {
  reads = r.reads ++ rs ∷ [];
  many_reads = omega (arith, length-append r.reads (rs ∷ []), r.many_reads);
  many = omega (arith, length-append levels (level ∷ []), r.many);
  low = λ j lt. elim (cases_lt j n) [
    | inl before ↦ omega (arith, r.low j before, number-before levels level j (omega (arith, before, r.many)))
    | inr past ↦
        let here : j ≡ length levels = omega (arith, past, lt, r.many) in
        let top : above_all levels (writers_read list rs) ≤ n = above_all-low levels (writers_read list rs) n (λ k a. let within : k < n = omega (arith, above.known k a, r.many) in omega (arith, within, r.low k within)) in
        omega (arith, number-last levels level j here, above.is, top, here, r.many)
  ];
  each = λ j ss at. elim (cases_lt j n) [
    | inl before ↦ kept j ss before (r.each j ss (sym (get-before r.reads rs j (omega (arith, before, r.many_reads))) ∙ at))
    | inr past ↦
        let here : j ≡ n = omega (arith, past, slice_get_within (r.reads ++ rs ∷ []) j ss at, length-append r.reads (rs ∷ []), r.many_reads) in
        let last : slice_get (r.reads ++ rs ∷ []) (length r.reads + 0) ≡ Some rs = slice_get-right r.reads (rs ∷ []) 0 in
        let place : length r.reads + 0 ≡ j = omega (arith, here, r.many_reads) in
        let both : Some rs ≡ Some ss = sym last ∙ ap (slice_get (r.reads ++ rs ∷ [])) place ∙ at in
        let one : rs ≡ ss = cc in
        let P : List Read → Type 0 = λ xs. IsRankedAt f list (levels ++ level ∷ []) j xs in
        let Q : ℕ → Type 0 = λ k. IsRankedAt f list (levels ++ level ∷ []) k rs in
        subst P one (subst Q (sym here) added)
  ];
}
  where
    -- levels below stay
    same : (ks : List ℕ) → ((k : ℕ) → IsAmong ks k → k < n) → above_all (levels ++ level ∷ []) ks ≡ above_all levels ks
    same ks within = above_all-same levels (levels ++ level ∷ []) ks (λ k a. number-before levels level k (omega (arith, within k a, r.many)))

    kept : (j : ℕ) (ss : List Read) → j < n → IsRankedAt f list levels j ss → IsRankedAt f list (levels ++ level ∷ []) j ss
    kept j ss before h = record {
      reads = h.reads;
      earlier = h.earlier;
      level = number-before levels level j (omega (arith, before, r.many)) ∙ (h.level ∙ sym (same (writers_read list ss) (λ k a. omega (arith, h.earlier k a, before))));
    }

    added : IsRankedAt f list (levels ++ level ∷ []) n rs
    added = record {
      reads = is;
      earlier = λ k a. omega (arith, above.known k a, r.many);
      level = number-last levels level n (sym r.many) ∙ (above.is ∙ sym (same (writers_read list rs) (λ k a. omega (arith, above.known k a, r.many))));
    }

-- ---- at the end

pub all_ranked : (f : Laid) (list : List (Option ℕ)) (n : ℕ) (levels : List ℕ) → AreRankedBefore f list n levels → n ≡ length (instances f.model) → (reads : Reads) × AreReads f reads × AreLevels reads list levels
all_ranked f list n levels r all = (
  r.reads,
  record { many = r.many_reads ∙ all; each = λ j rs at. (r.each j rs at).reads },
  record {
    many = r.many ∙ sym r.many_reads;
    each = λ j within.
        let rs = there_at r.reads j within in
        (r.each j rs.0 rs.1).level ∙ ap (λ o. above_all levels (writers_read list (unwrap_or o []))) (sym rs.1);
  },
)

-- there is room for one more than the greatest level
pub ranks_fit : (f : Laid) (list : List (Option ℕ)) (n : ℕ) (levels : List ℕ) → AreRankedBefore f list n levels → n < 2 ^ 32 → fold max 0 levels + 1 < 2 ^ 32
ranks_fit f list n levels r few = most_below levels n 0 (omega arith) few (λ j lt. let within : j < n = omega (arith, lt, r.many) in omega (arith, within, r.low j within))

-- ---- the instances of a leaf

-- no instance of the leaf yet
pub leaf_unranked : (f : Laid) (list : List (Option ℕ)) (leaf : ℕ) (levels : List ℕ) → AreRankedBefore f list (first_on f.model leaf) levels → AreRankedBefore f list (first_on f.model leaf + 0) levels
leaf_unranked f list leaf levels r =
    let P : ℕ → Type 0 = λ k. AreRankedBefore f list k levels in
    let e : first_on f.model leaf ≡ first_on f.model leaf + 0 = omega arith in
    subst P e r

-- one instance more
pub leaf_ranked : (f : Laid) (list : List (Option ℕ)) (leaf number : ℕ) (levels : List ℕ) (rs : List Read) (level : ℕ) (more : List ℕ) → AreRankedBefore f list (first_on f.model leaf + number) levels
    → AreReadsOf f (first_on f.model leaf + number) rs → IsAbove levels list rs level → more ≡ levels ++ level ∷ [] → AreRankedBefore f list (first_on f.model leaf + (number + 1)) more
leaf_ranked f list leaf number levels rs level more r reads above added =
    let next : (first_on f.model leaf + number) + 1 ≡ first_on f.model leaf + (number + 1) = omega arith in
    let P : ℕ → Type 0 = λ k. AreRankedBefore f list k (levels ++ level ∷ []) in
    let Q : List ℕ → Type 0 = λ ls. AreRankedBefore f list (first_on f.model leaf + (number + 1)) ls in
    subst Q (sym added) (subst P next (more_ranked f list (first_on f.model leaf + number) levels rs level r reads above))

-- all instances of the leaf
pub all_leaf_ranked : (f : Laid) (list : List (Option ℕ)) (leaf number : ℕ) (row : LeafRow) (levels : List ℕ) → IsLeafRow f.model leaf row → number ≡ row.count → AreRankedBefore f list (first_on f.model leaf + number) levels
    → AreRankedBefore f list (first_on f.model (leaf + 1)) levels
all_leaf_ranked f list leaf number row levels r all h =
    let P : ℕ → Type 0 = λ k. AreRankedBefore f list k levels in
    subst P (leaf_ends f.model leaf number row r all) h

-- the instances before are fewer than all
pub before_few : (m : Model) (leaf number : ℕ) (row : LeafRow) → length (instances m) < 2 ^ 32 → IsLeafRow m leaf row → number < row.count → first_on m leaf + number < 2 ^ 32
before_few m leaf number row few r low =
    omega (arith, few, slice_get_within (instances m) (first_on m leaf + number) (instance_on r.leaf (point_at r.leaf.space number)) (numbered m leaf number row r low))
