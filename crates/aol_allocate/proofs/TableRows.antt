-- Rows of leaves, entry by entry.
use Rattle.std.proofs.Common.{◌≡◌, ◌≢◌, ℕ, zero, suc, ◌+◌, ◌<◌, ◌==◌, Bool, true, false, cond, ◌||◌, List, [], ◌∷◌, ◌++◌, length, replicate, Option, Some, None, Err, is_some, option_map, slice_get, sym, ◌∙◌, ap, refl, arith, get_or}
use Rattle.std.specs.List.{list_any, count_by}
use Rattle.std.specs.Option.{option_or}
use Rattle.std.proofs.Math.ListN.{set}
use Rattle.std.proofs.lemmas.Bool.{eqb-true, eq-eqb}
use Rattle.std.proofs.lemmas.List.{length-append, length-set, length-replicate}
use Rattle.std.proofs.lemmas.List.Folds.{find-append}
use Rattle.std.proofs.lemmas.List.Sums.{sum_by-set}
use Rattle.std.proofs.lemmas.Option.{slice_get_within, slice_get_read, get_or_from_slice_get}
use Rattle.aol_shape.specs.Lists.{same}
use Rattle.aol_model_types.specs.declared.document.Model.{Model}
use Rattle.aol_model_types.specs.declared.job.Entry.{Entry}
use Rattle.aol_flat.specs.Instance.{Leaf, leaves}
use Rattle.aol_flat.proofs.Names.{same-equal, same-self}
use Rattle.aol_allocate.specs.declared.cause.PlaceCause.{PlaceCause}
use Rattle.aol_allocate.specs.declared.cause.PlaceCause.TheVariants.{NoLeaf}
use Rattle.aol_allocate.specs.declared.fault.PlaceFault.{PlaceFault}
use Rattle.aol_allocate.specs.declared.fault.PlaceFault.TheVariants.{Cause, NoMemory}
use Rattle.aol_allocate.specs.Placement.{leaf_number, leaf_of_path, is_number, entry_of, entry_cause, leaf_cause, space_cause}
use Rattle.aol_allocate.specs.Marks.{placed_workers, PlacesSpace}
use Rattle.aol_allocate.specs.Tables.{IsTable, PlacedAfter, row_of}
use Rattle.aol_allocate.proofs.LeafPaths.{found_leaf, one_path, leaf_by_number, no_leaf}

-- ---- lists with one element written

set_here : {X : Type 0} (xs : List X) (k : ℕ) (x : X) → k < length xs → slice_get (set xs k x) k ≡ Some x
set_here [] k x h = absurd (omega (arith, h))
set_here (y ∷ xs) zero x h = refl
set_here (y ∷ xs) (suc k) x h = set_here xs k x (omega (arith, h))

set_there : {X : Type 0} (xs : List X) (k j : ℕ) (x : X) → j ≢ k → slice_get (set xs k x) j ≡ slice_get xs j
set_there [] k j x h = refl
set_there (y ∷ xs) zero zero x h = absurd (h refl)
set_there (y ∷ xs) zero (suc j) x h = refl
set_there (y ∷ xs) (suc k) zero x h = refl
set_there (y ∷ xs) (suc k) (suc j) x h = set_there xs k j x (λ e. h (ap (λ i. suc i) e))

-- one more row is there
count_more : {X : Type 0} (rows : List (Option X)) (k : ℕ) (x : X) → slice_get rows k ≡ Some None → count_by is_some (set rows k (Some x)) ≡ count_by is_some rows + 1
count_more {X = X} rows k x h =
    let counts : Option X → ℕ = λ row. cond (is_some row) 1 0 in
    let before : counts (get_or rows k None) ≡ 0 = ap counts (get_or_from_slice_get rows k None None h) in
    omega (arith, sum_by-set counts rows k (Some x) None (slice_get_within rows k None h), before)

-- ---- the entry of a leaf

-- an earlier entry has the same path exactly where the leaf has its entry
named_before : (m : Model) (earlier : List Entry) (path : List ℕ) (k : ℕ) → leaf_number m path ≡ Some k
    → list_any (λ (f : Entry). same f.leaf path) earlier ≡ is_some (entry_of m earlier k)
named_before m [] path k h = refl
named_before m (f ∷ earlier) path k h = go (same f.leaf path) refl (is_number (leaf_number m f.leaf) k) refl (named_before m earlier path k h)
  where
    go : (b : Bool) → same f.leaf path ≡ b → (d : Bool) → is_number (leaf_number m f.leaf) k ≡ d → list_any (λ (g : Entry). same g.leaf path) earlier ≡ is_some (entry_of m earlier k)
        → list_any (λ (g : Entry). same g.leaf path) (f ∷ earlier) ≡ is_some (entry_of m (f ∷ earlier) k)
    go true t true u later =
        ap (λ b. b || list_any (λ (g : Entry). same g.leaf path) earlier) t ∙ sym (ap (λ d. is_some (cond d (Some f) (entry_of m earlier k))) u)
    go false t false u later =
        ap (λ b. b || list_any (λ (g : Entry). same g.leaf path) earlier) t ∙ (later ∙ sym (ap (λ d. is_some (cond d (Some f) (entry_of m earlier k))) u))
    go true t false u later =
        let number : leaf_number m f.leaf ≡ Some k = ap (leaf_number m) (same-equal f.leaf path t) ∙ h in
        let no : true ≡ false = sym (ap (λ o. is_number o k) number ∙ eq-eqb k k refl) ∙ u in
        cc
    go false t true u later = absurd (apart (leaf_number m f.leaf) refl u)
      where
        apart : (o : Option ℕ) → leaf_number m f.leaf ≡ o → is_number o k ≡ true → ⊥
        apart None e v = cc
        apart (Some j) e v =
            let number : leaf_number m f.leaf ≡ Some k = e ∙ ap Some (eqb-true j k v) in
            let path_is : f.leaf ≡ path = one_path m f.leaf path k number h in
            let no : true ≡ false = sym (ap (λ q. same q path) path_is ∙ same-self path) ∙ t in
            cc

entry_more : (m : Model) (earlier : List Entry) (e : Entry) (k j : ℕ) → leaf_number m e.leaf ≡ Some k → j ≢ k → entry_of m (earlier ++ e ∷ []) j ≡ entry_of m earlier j
entry_more m earlier e k j number other = go (k == j) refl
  where
    or_none : (o : Option Entry) → option_or o None ≡ o
    or_none None = refl
    or_none (Some f) = refl

    go : (b : Bool) → k == j ≡ b → entry_of m (earlier ++ e ∷ []) j ≡ entry_of m earlier j
    go true t = absurd (other (sym (eqb-true k j t)))
    go false t =
        find-append (λ (f : Entry). is_number (leaf_number m f.leaf) j) earlier (e ∷ [])
        ∙ (ap (λ b. option_or (entry_of m earlier j) (cond b (Some e) None)) (ap (λ o. is_number o j) number ∙ t)
        ∙ or_none (entry_of m earlier j))

entry_here : (m : Model) (earlier : List Entry) (e : Entry) (k : ℕ) → leaf_number m e.leaf ≡ Some k → entry_of m earlier k ≡ None → entry_of m (earlier ++ e ∷ []) k ≡ Some e
entry_here m earlier e k number none =
    find-append (λ (f : Entry). is_number (leaf_number m f.leaf) k) earlier (e ∷ [])
    ∙ (ap (λ o. option_or o (entry_of m (e ∷ []) k)) none
    ∙ ap (λ b. cond b (Some e) None) (ap (λ o. is_number o k) number ∙ eq-eqb k k refl))

-- ---- one more entry

-- no leaf has its path
pub unnamed : (m : Model) (earlier : List Entry) (e : Entry) → leaf_number m e.leaf ≡ None → entry_cause m earlier e ≡ Some NoLeaf
unnamed m earlier e none = go (list_any (λ (f : Entry). same f.leaf e.leaf) earlier) refl
  where
    go : (b : Bool) → list_any (λ (f : Entry). same f.leaf e.leaf) earlier ≡ b → entry_cause m earlier e ≡ Some NoLeaf
    go true t = ap (λ b. cond b (Some NoLeaf) (leaf_cause e (leaf_of_path m e.leaf))) t
    go false t = ap (λ b. cond b (Some NoLeaf) (leaf_cause e (leaf_of_path m e.leaf))) t ∙ ap (leaf_cause e) (no_leaf m e.leaf none)

is_some_map : {X Y : Type 0} (f : X → Y) (o : Option X) → is_some (option_map f o) ≡ is_some o
is_some_map f None = refl
is_some_map f (Some x) = refl

none_some : {X : Type 0} (o : Option X) → is_some o ≡ false → o ≡ None
none_some None h = refl
none_some (Some x) h = cc

module _ (m : Model) (workers : ℕ) (earlier : List Entry) (rows : List (Option (List ℕ))) (table : IsTable m workers earlier rows) (e : Entry) (k : ℕ) (l : Leaf)
    (number : leaf_number m e.leaf ≡ Some k) (at : slice_get (leaves m) k ≡ Some l) where
  -- whether its row is there
  abbrev pub HasRow : Bool → Type 0
  HasRow b = (row : Option (List ℕ)) → slice_get rows k ≡ Some row → b ≡ is_some row

  -- an earlier entry names the leaf exactly where its row is there
  named : (b : Bool) → HasRow b → list_any (λ (f : Entry). same f.leaf e.leaf) earlier ≡ b
  named b there =
      named_before m earlier e.leaf k number
      ∙ sym (there (row_of m workers earlier k l) (table.each k l at) ∙ is_some_map (λ e. placed_workers e workers l.space) (entry_of m earlier k))

  pub taken : HasRow true → entry_cause m earlier e ≡ Some NoLeaf
  taken there = ap (λ b. cond b (Some NoLeaf) (leaf_cause e (leaf_of_path m e.leaf))) (named true there)

  pub free : HasRow false → (cause : Option PlaceCause) → space_cause e l.space ≡ cause → entry_cause m earlier e ≡ cause
  free there cause told =
      ap (λ b. cond b (Some NoLeaf) (leaf_cause e (leaf_of_path m e.leaf))) (named false there) ∙ (ap (leaf_cause e) (leaf_by_number m e.leaf k l number at) ∙ told)

  -- the leaf has no entry yet
  free_row : HasRow false → entry_of m earlier k ≡ None
  free_row there =
      none_some (entry_of m earlier k)
      (sym (there (row_of m workers earlier k l) (table.each k l at) ∙ is_some_map (λ e. placed_workers e workers l.space) (entry_of m earlier k)))

  placed_there : (placed : List ℕ) → HasRow false → placed ≡ placed_workers e workers l.space → IsTable m workers (earlier ++ e ∷ []) (set rows k (Some placed))
  placed_there placed there is = record {
    many = length-set rows k (Some placed) ∙ table.many;
    counted = count_more rows k placed none_there ∙ (ap (λ n. n + 1) table.counted ∙ sym (length-append earlier (e ∷ [])));
    each = λ j o at_j. each j o at_j (j == k) refl;
  }
    where
      none_there : slice_get rows k ≡ Some None
      none_there = table.each k l at ∙ ap (λ o. Some (option_map (λ e. placed_workers e workers l.space) o)) (free_row there)

      each : (j : ℕ) (o : Leaf) → slice_get (leaves m) j ≡ Some o → (b : Bool) → j == k ≡ b → slice_get (set rows k (Some placed)) j ≡ Some (row_of m workers (earlier ++ e ∷ []) j o)
      each j o at_j true t =
          let here : j ≡ k = eqb-true j k t in
          let both : Some o ≡ Some l = sym at_j ∙ (ap (slice_get (leaves m)) here ∙ at) in
          let leaf : o ≡ l = cc in
          let row : row_of m workers (earlier ++ e ∷ []) k l ≡ Some (placed_workers e workers l.space) =
          ap (option_map (λ e. placed_workers e workers l.space)) (entry_here m earlier e k number (free_row there)) in
          ap (slice_get (set rows k (Some placed))) here
          ∙ (set_here rows k (Some placed) (slice_get_within rows k None none_there)
          ∙ (ap (λ ws. Some (Some ws)) is
          ∙ (ap Some (sym row)
          ∙ sym (ap (λ i. Some (row_of m workers (earlier ++ e ∷ []) i o)) here ∙ ap (λ (x : Leaf). Some (row_of m workers (earlier ++ e ∷ []) k x)) leaf))))
      each j o at_j false t =
          let other : j ≢ k = λ h. let no : true ≡ false = sym (eq-eqb j k h) ∙ t in cc in
          set_there rows k j (Some placed) other
          ∙ (table.each j o at_j
          ∙ ap (λ f. Some (option_map (λ e. placed_workers e workers o.space) f)) (sym (entry_more m earlier e k j number other)))

  pub placed_next : (placed : List ℕ) → HasRow false → (space_cause e l.space ≡ None) × (placed ≡ placed_workers e workers l.space)
      → (entry_cause m earlier e ≡ None) × IsTable m workers (earlier ++ e ∷ []) (set rows k (Some placed))
  placed_next placed there told = (free there None told.0, placed_there placed there told.1)

  -- or else the fault is that of its leaf
  pub refused_next : (fault : PlaceFault) (new : List (Option (List ℕ))) → HasRow false → PlacesSpace e workers l.space (Err fault) → PlacedAfter m workers earlier e new (Err fault)
  refused_next (Cause c) new there told = free there (Some c) told
  refused_next NoMemory new there told = tt

pub number_within : (m : Model) (path : List ℕ) (k : ℕ) → leaf_number m path ≡ Some k → k < length (leaves m)
number_within m path k h = let f = found_leaf m path k h in slice_get_within (leaves m) k f.leaf f.at

-- before any entry no row is there
count_none : (n : ℕ) → count_by is_some (replicate {A = Option (List ℕ)} n None) ≡ 0
count_none zero = refl
count_none (suc n) = count_none n

none_at : (n k : ℕ) → k < n → slice_get (replicate {A = Option (List ℕ)} n None) k ≡ Some None
none_at zero k h = absurd (omega (arith, h))
none_at (suc n) zero h = refl
none_at (suc n) (suc k) h = none_at n k (omega (arith, h))

pub none_placed : (m : Model) (workers : ℕ) (rows : List (Option (List ℕ))) → rows ≡ replicate (length (leaves m)) None → IsTable m workers [] rows
none_placed m workers rows h = record {
  many = ap length h ∙ length-replicate (length (leaves m)) None;
  counted = ap (count_by is_some) h ∙ count_none (length (leaves m));
  each = λ k l at. ap (λ rs. slice_get rs k) h ∙ none_at (length (leaves m)) k (slice_get_within (leaves m) k l at);
}

-- the row that is read there
pub row_there : (m : Model) (path : List ℕ) (k : ℕ) (rows seen : List (Option (List ℕ))) (row : Option (List ℕ)) → leaf_number m path ≡ Some k → length rows ≡ length (leaves m) → seen ≡ rows
    → row ≡ get_or seen k row → slice_get rows k ≡ Some row
row_there m path k rows seen row h many same_rows is =
    slice_get_read rows (length rows) k row refl (omega (arith, number_within m path k h, many)) (is ∙ ap (λ rs. get_or rs k row) same_rows)
