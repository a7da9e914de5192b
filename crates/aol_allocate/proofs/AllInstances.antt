-- The workers of all instances, leaf by leaf.
use Rattle.std.proofs.Common.{◌≡◌, ℕ, zero, suc, ◌+◌, ◌<◌, ◌≤◌, List, [], ◌∷◌, ◌++◌, length, map, flat_map, drop, Option, Some, None, option_map, slice_get, sym, ◌∙◌, ap, refl, subst, arith, add-one, append_assoc}
use Rattle.std.specs.List.{AllByRecursion, enumerate_from}
use Rattle.std.proofs.Math.Seq.{drop-cons}
use Rattle.std.proofs.lemmas.List.{map-append}
use Rattle.std.proofs.lemmas.Option.{get_or_from_slice_get, slice_get_within}
use Rattle.aol_shape.specs.Lists.{numbers_from, numbers_below}
use Rattle.aol_shape.specs.Shape.{size, rank, point_at, points}
use Rattle.aol_shape.proofs.Points.{rank-point_at}
use Rattle.aol_model_types.specs.declared.document.Model.{Model}
use Rattle.aol_model_types.specs.declared.job.Entry.{Entry}
use Rattle.aol_flat.specs.Instance.{Leaf, leaves}
use Rattle.aol_allocate.specs.Placement.{point_worker, even_worker, entry_of, leaf_workers, workers_of, max_workers, IsPlacement}
use Rattle.aol_allocate.specs.Marks.{placed_workers}
use Rattle.aol_allocate.specs.Tables.{IsTable, row_of, row_workers, rows_workers}
use Rattle.aol_allocate.proofs.Points.{numbers_same, points_numbered}
use Rattle.aol_allocate.proofs.Workers.{workers_are_a_placement}

-- ---- one leaf

numbers_more : (k n : ℕ) → numbers_from k (suc n) ≡ numbers_from k n ++ (k + n) ∷ []
numbers_more k zero = let here : k ≡ k + 0 = omega arith in ap (λ x. x ∷ []) here
numbers_more k (suc n) =
    let here : (k + 1) + n ≡ k + suc n = omega arith in
    ap (λ xs. k ∷ xs) (numbers_more (k + 1) n ∙ ap (λ x. numbers_from (k + 1) n ++ x ∷ []) here)

-- one more instance
pub evenly_more : (f : ℕ → ℕ) (old now next : List ℕ) (n worker : ℕ) → now ≡ old ++ map f (numbers_below n) → worker ≡ f n → next ≡ now ++ worker ∷ []
    → next ≡ old ++ map f (numbers_below (n + 1))
evenly_more f old now next n worker so_far is pushed =
    let number : 0 + n ≡ n = omega arith in
    pushed
    ∙ (ap (λ xs. xs ++ worker ∷ []) so_far
    ∙ (ap (λ x. (old ++ map f (numbers_below n)) ++ x ∷ []) (is ∙ ap f (sym number))
    ∙ (append_assoc old (map f (numbers_below n)) (f (0 + n) ∷ [])
    ∙ ap (λ xs. old ++ xs) (sym (ap (λ i. map f (numbers_below i)) (add-one n) ∙ (ap (map f) (numbers_more 0 n) ∙ map-append f (numbers_below n) ((0 + n) ∷ [])))))))

-- a leaf's row gives the workers of its instances
leaf_row : (workers : ℕ) (space : List ℕ) (o : Option Entry) → row_workers workers (size space) (option_map (λ e. placed_workers e workers space) o) ≡ map (point_worker o space workers) (points space)
leaf_row workers space (Some e) = refl
leaf_row workers space None =
    sym (points_numbered (λ x. even_worker workers (size space) (rank space x)) space
    ∙ numbers_same (λ k. even_worker workers (size space) (rank space (point_at space k))) (even_worker workers (size space)) 0 (size space)
    (λ j above below. ap (even_worker workers (size space)) (rank-point_at space j (omega (arith, below)))))

-- ---- all leaves

drop_next : {X : Type 0} (xs : List X) (k : ℕ) (x : X) → slice_get xs k ≡ Some x → drop k xs ≡ x ∷ drop (k + 1) xs
drop_next xs k x at =
    drop-cons xs k x (slice_get_within xs k x at)
    ∙ (ap (λ y. y ∷ drop (suc k) xs) (get_or_from_slice_get xs k x x at) ∙ ap (λ n. x ∷ drop n xs) (sym (add-one k)))

-- one more leaf
pub rows_more : (workers : ℕ) (ls : List Leaf) (rows : List (Option (List ℕ))) (k : ℕ) (l : Leaf) (row : Option (List ℕ)) (count : ℕ) (now next total : List ℕ) → slice_get ls k ≡ Some l
    → slice_get rows k ≡ Some row → count ≡ size l.space → now ++ rows_workers workers (drop k ls) (drop k rows) ≡ total → next ≡ now ++ row_workers workers count row
    → next ++ rows_workers workers (drop (k + 1) ls) (drop (k + 1) rows) ≡ total
rows_more workers ls rows k l row count now next total at there many so_far pushed =
    let later : List ℕ = rows_workers workers (drop (k + 1) ls) (drop (k + 1) rows) in
    ap (λ xs. xs ++ later) (pushed ∙ ap (λ n. now ++ row_workers workers n row) many)
    ∙ (append_assoc now (row_workers workers (size l.space) row) later
    ∙ (sym (ap (λ xs. now ++ rows_workers workers xs (drop k rows)) (drop_next ls k l at) ∙ ap (λ xs. now ++ rows_workers workers (l ∷ drop (k + 1) ls) xs) (drop_next rows k row there))
    ∙ so_far))

rows_from : (m : Model) (entries : List Entry) (workers k : ℕ) (ls : List Leaf) (rows : List (Option (List ℕ))) → length rows ≡ length ls
    → ((j : ℕ) (l : Leaf) → slice_get ls j ≡ Some l → slice_get rows j ≡ Some (row_of m workers entries (k + j) l))
    → rows_workers workers ls rows ≡ flat_map (leaf_workers m entries workers) (enumerate_from k ls)
rows_from m entries workers k [] rows many each = refl
rows_from m entries workers k (l ∷ ls) [] many each = absurd (omega (arith, many))
rows_from m entries workers k (l ∷ ls) (row ∷ rows) many each =
    let number : k + 0 ≡ k = omega arith in
    let first : Some row ≡ Some (row_of m workers entries (k + 0) l) = each 0 l refl in
    let row_is : row ≡ row_of m workers entries (k + 0) l = cc in
    let here : row_workers workers (size l.space) row ≡ leaf_workers m entries workers (k, l) =
    ap (row_workers workers (size l.space)) (row_is ∙ ap (λ i. row_of m workers entries i l) number) ∙ leaf_row workers l.space (entry_of m entries k) in
    let later = rows_from m entries workers (k + 1) ls rows (omega (arith, many))
    (λ j o at. let next : k + suc j ≡ (k + 1) + j = omega arith in each (suc j) o at ∙ ap (λ i. Some (row_of m workers entries i o)) next) in
    ap (λ xs. xs ++ rows_workers workers ls rows) here ∙ ap (λ xs. leaf_workers m entries workers (k, l) ++ xs) later

-- the rows after all entries give the workers of all instances
pub rows_are_workers : (m : Model) (entries : List Entry) (workers : ℕ) (rows : List (Option (List ℕ))) → IsTable m workers entries rows → rows_workers workers (leaves m) rows ≡ workers_of m entries workers
rows_are_workers m entries workers rows table =
    rows_from m entries workers 0 (leaves m) rows table.many
    (λ j l at. let number : j ≡ 0 + j = omega arith in table.each j l at ∙ ap (λ i. Some (row_of m workers entries i l)) number)

-- ---- each is one of the workers

all_at : (P : ℕ → Type 0) (xs : List ℕ) → ((j x : ℕ) → slice_get xs j ≡ Some x → P x) → AllByRecursion P xs
all_at P [] h = tt
all_at P (x ∷ xs) h = (h 0 x refl, all_at P xs (λ j y at. h (suc j) y at))

pub all_below : (m : Model) (entries : List Entry) (workers : ℕ) (of_instance : List ℕ) → 1 ≤ workers → workers ≤ max_workers → of_instance ≡ workers_of m entries workers
    → AllByRecursion (λ w. w < workers) of_instance
all_below m entries workers of_instance some bound is =
    subst (AllByRecursion (λ w. w < workers)) (sym is) (all_at (λ w. w < workers) (workers_of m entries workers) (workers_are_a_placement m entries workers some bound).each)

-- the same as they are read after all entries
pub all_are : (m : Model) (entries seen : List Entry) (workers : ℕ) (rows seen_rows : List (Option (List ℕ))) (of_instance : List ℕ) → of_instance ≡ rows_workers workers (leaves m) seen_rows
    → seen_rows ≡ rows → IsTable m workers seen rows → seen ≡ entries → of_instance ≡ workers_of m entries workers
all_are m entries seen workers rows seen_rows of_instance is rows_are table entries_are =
    is ∙ (ap (rows_workers workers (leaves m)) rows_are ∙ (rows_are_workers m seen workers rows table ∙ ap (λ (es : List Entry). workers_of m es workers) entries_are))

pub all_placed : (m : Model) (entries : List Entry) (workers : ℕ) (of_instance : List ℕ) (number : ℕ) → 1 ≤ workers → workers ≤ max_workers → of_instance ≡ workers_of m entries workers → number ≡ workers
    → IsPlacement m of_instance number
all_placed m entries workers of_instance number some bound is is_number =
    subst (IsPlacement m of_instance) (sym is_number)
    (subst (λ (ws : List ℕ). IsPlacement m ws workers) (sym is) (workers_are_a_placement m entries workers some bound))
