-- The needs of one instance after another.
use Rattle.std.proofs.Common.{◌≡◌, ◌≤◌, ◌<◌, ◌^◌, ℕ, zero, suc, ◌+◌, List, [], ◌∷◌, ◌++◌, map, length, slice_get, Option, Some, None, Result, Ok, Err, IfOk, unwrap_or, option_map, sym, ◌∙◌, ap, refl, subst, arith, length-append, inl, inr}
use Rattle.std.specs.List.{IsAmong, AllZip}
use Rattle.std.proofs.lemmas.Bool.{cases_lt}
use Rattle.std.proofs.lemmas.List.{map-append, length-map}
use Rattle.std.proofs.lemmas.Option.{slice_get_within, slice_get-map}
use Rattle.aol_flat.specs.Place.{Element}
use Rattle.aol_flat.specs.Instance.{instances}
use Rattle.aol_flat.specs.Laid.{Laid, IsReadOf}
use Rattle.aol_flat.specs.Level.{Reads, AreReadsOf, AreReads, writers_read, with_writer, needed_by, above_all, AreLevels, IsInLoop, IsFirstInLoop}
use Rattle.aol_flat.specs.declared.view.Read.{Read}
use Rattle.aol_flat.specs.declared.view.Read.TheVariants.{Cell, Const}
use Rattle.aol_flat.proofs.Names.{slice_get-right}
use Rattle.aol_depend.specs.Needs.{Rows, row, AreWithin, HaveLevels, IsCircling, IsFirstCircling}
use Rattle.aol_depend.specs.Rows.{rows_of}
use Rattle.aol_depend.specs.Gather.{IsInList, AreEntries, AreGathered, AreNeeds}
use Rattle.aol_depend.proofs.Rows.{length-rows_of}
use Rattle.aol_depend.proofs.AddedRow.{has_row}
use Rattle.aol_depend.proofs.Moves.{among_cases}

-- what is read is one of the cells
pub reads_in_list : (f : Laid) (list : List (Option ℕ)) (es : List Element) (rs : List Read) → AreEntries f list → AllZip (IsReadOf f) es rs → (r : Read) → IsAmong rs r → IsInList list r
reads_in_list f list es [] entries all r a = absurd (omega (arith, a.1.0))
reads_in_list f list [] (x ∷ rs) entries all r a = absurd all
reads_in_list f list (e ∷ es) (x ∷ rs) entries all r a =
    let P : Read → Type 0 = λ y. IsInList list y in
    elim (among_cases x rs r a) [
      | inl here ↦ subst P (sym here) (first x all.0)
      | inr later ↦ reads_in_list f list es rs entries all.1 r later
    ]
  where
    first : (y : Read) → IsReadOf f e y → IsInList list y
    first (Cell c) is = omega (arith, slice_get_within f.cells c is.home is.at_cell, entries.many)
    first (Const n) is = tt

-- the first rows of the list
pub none_gathered : (f : Laid) (list : List (Option ℕ)) → AreGathered f list 0 (0 ∷ []) []
none_gathered f list = record {
  rows = record { some = omega arith; few = omega arith; ascend = λ j lt. absurd (omega (arith, lt)); last = refl };
  reads = [];
  many = refl;
  each = λ j rs at. absurd (none j rs at);
  are = refl;
}
  where
    none : (j : ℕ) (rs : List Read) → slice_get {X = List Read} [] j ≡ Some rs → ⊥
    none j rs at = cc

-- one instance more
pub more_gathered : (f : Laid) (list : List (Option ℕ)) (n : ℕ) (starts needed : List ℕ) (rs : List Read) → AreGathered f list n starts needed → n + 2 ≤ 2 ^ 32 → AreReadsOf f n rs
    → AreGathered f list (n + 1) (starts ++ length (needed ++ writers_read list rs) ∷ []) (needed ++ writers_read list rs)
more_gathered f list n starts needed rs g few is =
    let many : length (rows_of starts needed) ≡ n = ap length g.are ∙ length-map g.reads (writers_read list) ∙ g.many in
    let r = has_row starts needed (writers_read list rs) g.rows (omega (arith, few, many, length-rows_of starts needed, g.rows.some)) in
    record {
      rows = r.ascend;
      reads = g.reads ++ rs ∷ [];
      many = omega (arith, length-append g.reads (rs ∷ []), g.many);
      each = λ j ss at. elim (cases_lt j n) [
        | inl before ↦ g.each j ss (sym (slice_get-before g.reads rs j (omega (arith, before, g.many))) ∙ at)
        | inr past ↦
            let here : j ≡ n = omega (arith, past, slice_get_within (g.reads ++ rs ∷ []) j ss at, length-append g.reads (rs ∷ []), g.many) in
            let last : slice_get (g.reads ++ rs ∷ []) (length g.reads + 0) ≡ Some rs = slice_get-right g.reads (rs ∷ []) 0 in
            let place : length g.reads + 0 ≡ j = omega (arith, here, g.many) in
            let both : Some rs ≡ Some ss = sym last ∙ ap (slice_get (g.reads ++ rs ∷ [])) place ∙ at in
            let one : rs ≡ ss = cc in
            let P : List Read → Type 0 = λ xs. AreReadsOf f j xs in
            let Q : ℕ → Type 0 = λ k. AreReadsOf f k rs in
            subst P one (subst Q (sym here) is)
      ];
      are = r.are ∙ ap (λ rows. rows ++ writers_read list rs ∷ []) g.are ∙ sym (map-append (writers_read list) g.reads (rs ∷ []));
    }
  where
    slice_get-before : (xs : Reads) (y : List Read) (j : ℕ) → j < length xs → slice_get (xs ++ y ∷ []) j ≡ slice_get xs j
    slice_get-before [] y j lt = absurd (omega (arith, lt))
    slice_get-before (x ∷ xs) y zero lt = refl
    slice_get-before (x ∷ xs) y (suc j) lt = slice_get-before xs y j (omega (arith, lt))

-- at the end
pub all_gathered : (f : Laid) (list : List (Option ℕ)) (n : ℕ) (starts needed : List ℕ) → AreGathered f list n starts needed → n ≡ length (instances f.model) → AreNeeds f list (rows_of starts needed)
all_gathered f list n starts needed g all = (g.reads, record { many = g.many ∙ all; each = g.each }, g.are)

-- each writer is one of the instances
writer_within : (f : Laid) (list : List (Option ℕ)) (rs : List Read) (k : ℕ) → AreEntries f list → IsAmong (writers_read list rs) k → k < length (instances f.model)
writer_within f list [] k entries a = absurd (omega (arith, a.1.0))
writer_within f list (Const n ∷ rs) k entries a = writer_within f list rs k entries a
writer_within f list (Cell c ∷ rs) k entries a = go (slice_get list c) refl (writer_within f list rs k entries) a
  where
    go : (o : Option (Option ℕ)) → slice_get list c ≡ o → (IsAmong (writers_read list rs) k → k < length (instances f.model)) → IsAmong (with_writer o (writers_read list rs)) k → k < length (instances f.model)
    go None e rest b = rest b
    go (Some None) e rest b = rest b
    go (Some (Some j)) e rest b = elim (among_cases j (writers_read list rs) k b) [
      | inl here ↦ omega (arith, entries.each c j e, here)
      | inr later ↦ rest later
    ]

pub needs_within : (f : Laid) (list : List (Option ℕ)) (needs : Rows) → AreEntries f list → AreNeeds f list needs → AreWithin needs
needs_within f list needs entries n j k a =
    let reads = n.0 in
    let many : length needs ≡ length (instances f.model) = ap length n.2 ∙ length-map reads (writers_read list) ∙ n.1.many in
    go (slice_get reads j) (ap (λ rows. slice_get rows j) n.2 ∙ slice_get-map (writers_read list) reads j) many a
  where
    go : (o : Option (List Read)) → slice_get needs j ≡ option_map (writers_read list) o → length needs ≡ length (instances f.model) → IsAmong (row needs j) k → k < length needs
    go None e many b = let P : Option (List ℕ) → Type 0 = λ r. IsAmong (unwrap_or r []) k in absurd (let h = subst P e b in omega (arith, h.1.0))
    go (Some rs) e many b = let P : Option (List ℕ) → Type 0 = λ r. IsAmong (unwrap_or r []) k in omega (arith, many, writer_within f list rs k entries (subst P e b))

-- levels and circles of the needs are those of the reads
needed_is : (reads : Reads) (list : List (Option ℕ)) (needs : Rows) (j : ℕ) → needs ≡ map (writers_read list) reads → row needs j ≡ needed_by reads list j
needed_is reads list needs j e = ap (λ (rows : Rows). unwrap_or (slice_get rows j) []) e ∙ ap (λ o. unwrap_or o []) (slice_get-map (writers_read list) reads j) ∙ go (slice_get reads j)
  where
    go : (o : Option (List Read)) → unwrap_or (option_map (writers_read list) o) [] ≡ writers_read list (unwrap_or o [])
    go None = refl
    go (Some rs) = refl

pub levels_by_reads : (f : Laid) (list : List (Option ℕ)) (needs : Rows) (level : List ℕ) → AreNeeds f list needs → HaveLevels needs level → (reads : Reads) × AreReads f reads × AreLevels reads list level
levels_by_reads f list needs level n h =
    let many : length needs ≡ length n.0 = ap length n.2 ∙ length-map n.0 (writers_read list) in (
      n.0,
      n.1,
      record {
        many = h.many ∙ many;
        each = λ j within. h.each j (omega (arith, within, many)) ∙ ap (above_all level) (needed_is n.0 list needs j n.2);
      },
    )

circles : (reads : Reads) (list : List (Option ℕ)) (needs : Rows) (j : ℕ) → needs ≡ map (writers_read list) reads → IsCircling needs j → IsInLoop reads list j
circles reads list needs j e c = record {
  set = c.set;
  within = c.within;
  goes_on = λ i a. let r = c.goes_on i a in let P : List ℕ → Type 0 = λ ks. IsAmong ks r.0 in (r.0, r.1, subst P (needed_is reads list needs i e) r.2);
}

loops : (reads : Reads) (list : List (Option ℕ)) (needs : Rows) (j : ℕ) → needs ≡ map (writers_read list) reads → IsInLoop reads list j → IsCircling needs j
loops reads list needs j e c = record {
  set = c.set;
  within = c.within;
  goes_on = λ i a. let r = c.goes_on i a in let P : List ℕ → Type 0 = λ ks. IsAmong ks r.0 in (r.0, r.1, subst P (sym (needed_is reads list needs i e)) r.2);
}

pub loop_by_reads : (f : Laid) (list : List (Option ℕ)) (needs : Rows) (j : ℕ) → AreNeeds f list needs → IsFirstCircling needs j → (reads : Reads) × AreReads f reads × IsFirstInLoop reads list j
loop_by_reads f list needs j n h = (
  n.0,
  n.1,
  record {
    in_loop = circles n.0 list needs j n.2 h.circling;
    first = λ i lt l. h.first i lt (loops n.0 list needs i n.2 l);
  },
)

-- what a value has, another fact follows from
pub weaker_ok : {A E : Type 0} (r : Result A E) {P Q : A → Type 0} → ((a : A) → P a → Q a) → IfOk r P → IfOk r Q
weaker_ok (Err e) f h = tt
weaker_ok (Ok a) f h = f a h
