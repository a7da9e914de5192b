-- An instance by its number: its leaf, and what a cursor over that leaf reads.
use Rattle.std.proofs.Common.{◌≡◌, ℕ, zero, suc, ◌+◌, ◌-◌, ◌<◌, List, [], ◌∷◌, ◌++◌, length, take, get_or, Some, slice_get, sym, ◌∙◌, ap, refl, arith, ◌⊎◌, inl, inr, subst}
use Rattle.std.specs.Prelude.{replicate}
use Rattle.std.proofs.lemmas.List.{take_all, length-append, append_assoc}
use Rattle.std.proofs.lemmas.Option.{slice_get_within}
use Rattle.aol_model_types.specs.declared.document.Model.{Model}
use Rattle.aol_flat.specs.Cursor.{CursorOf, IsReadCount}
use Rattle.aol_flat.specs.Instance.{Instance, leaves, instances}
use Rattle.aol_flat.specs.Laid.{Laid}
use Rattle.aol_flat.specs.LeafCursor.{first_on, instances_on, reads_each}
use Rattle.aol_flat.specs.Leaves.{IsLeafRow, instances_of}
use Rattle.aol_flat.specs.Level.{AreReadsOf}
use Rattle.aol_flat.specs.declared.leaf.Leaf.{Leaf as LeafRow}
use Rattle.aol_flat.specs.declared.view.Read.{Read}
use Rattle.aol_flat.proofs.Alongs.{count_on, each_reads}
use Rattle.aol_flat.proofs.Totals.{length-instances}
use Rattle.aol_assign.proofs.LeafNumbers.{after_leaf}
use Rattle.aol_equiv.specs.Before.{IsOnLeaf, AreLeavesTo}

-- ---- the list of leaves

replicate_length : (n x : ℕ) → length (replicate n x) ≡ n
replicate_length zero x = refl
replicate_length (suc n) x = ap suc (replicate_length n x)

replicate_get : (n x j y : ℕ) → slice_get (replicate n x) j ≡ Some y → (y ≡ x) × (j < n)
replicate_get zero x j y h = cc
replicate_get (suc n) x zero y h = let e : y ≡ x = cc in (e, omega arith)
replicate_get (suc n) x (suc j) y h = let r = replicate_get n x j y h in (r.0, omega (arith, r.1))

split_get : (xs ys : List ℕ) (k x : ℕ) → slice_get (xs ++ ys) k ≡ Some x → (slice_get xs k ≡ Some x) ⊎ ((j : ℕ) × (k ≡ length xs + j) × (slice_get ys j ≡ Some x))
split_get [] ys k x h = inr (k, (omega arith), h)
split_get (y ∷ xs) ys zero x h = inl h
split_get (y ∷ xs) ys (suc k) x h = elim (split_get xs ys k x h) [ inl a ↦ inl a | inr b ↦ inr (b.0, (omega (arith, b.1)), b.2) ]

pub no_leaves : (m : Model) → AreLeavesTo m 0 []
no_leaves m = record { many = refl; each = λ i leaf h. cc }

pub leaves_more : (m : Model) (leaf : ℕ) (row : LeafRow) → IsLeafRow m leaf row → (list new : List ℕ) → AreLeavesTo m (instances_of (take leaf (leaves m))) list → new ≡ list ++ replicate row.count leaf → AreLeavesTo m (instances_of (take (leaf + 1) (leaves m))) new
leaves_more m leaf row is list new so_far more = record {
  many = let all = ap length more in omega (arith, all, length-append list (replicate row.count leaf), replicate_length row.count leaf, so_far.many, after_leaf m leaf row is, is.base);
  each = λ i l h. each i l (split_get list (replicate row.count leaf) i l (ap (λ xs. slice_get xs i) (sym more) ∙ h));
}
  where
    each : (i l : ℕ) → (slice_get list i ≡ Some l) ⊎ ((j : ℕ) × (i ≡ length list + j) × (slice_get (replicate row.count leaf) j ≡ Some l)) → IsOnLeaf m l i
    each i l (inl h) = so_far.each i l h
    each i l (inr b) =
        let r = replicate_get row.count leaf b.0 l b.2 in
        let P : ℕ → Type 0 = λ x. IsOnLeaf m x i in
        subst P (sym r.0) (record {
          within = slice_get_within (leaves m) leaf is.leaf is.at;
          low = omega (arith, b.1, so_far.many);
          high = omega (arith, b.1, so_far.many, r.1, count_on m leaf row is);
        })

pub all_leaves : (m : Model) (n : ℕ) (list : List ℕ) → AreLeavesTo m (instances_of (take n (leaves m))) list → n ≡ length (leaves m) → AreLeavesTo m (length (instances m)) list
all_leaves m n list h all =
    let P : ℕ → Type 0 = λ k. AreLeavesTo m k list in
    subst P (ap instances_of (take_all n (leaves m) (omega (arith, all))) ∙ sym (length-instances m)) h

pub on_leaf : (m : Model) (n : ℕ) (list : List ℕ) → AreLeavesTo m n list → (i : ℕ) → i < n → IsOnLeaf m (get_or list i 0) i
on_leaf m n list h i lt = h.each i (get_or list i 0) (there list i (omega (arith, h.many, lt)))
  where
    there : (xs : List ℕ) (i : ℕ) → i < length xs → slice_get xs i ≡ Some (get_or xs i 0)
    there [] i lt = absurd (omega (arith, lt))
    there (x ∷ xs) zero lt = refl
    there (x ∷ xs) (suc i) lt = there xs i (omega (arith, lt))

pub replicate_more : (n x : ℕ) → replicate (n + 1) x ≡ replicate n x ++ x ∷ []
replicate_more zero x = refl
replicate_more (suc n) x = let one : suc n + 1 ≡ suc (n + 1) = omega arith in ap (λ k. replicate k x) one ∙ ap (λ xs. x ∷ xs) (replicate_more n x)

pub leaf_added : (old now new : List ℕ) (n x : ℕ) → now ≡ old ++ replicate n x → new ≡ now ++ x ∷ [] → new ≡ old ++ replicate (n + 1) x
leaf_added old now new n x so_far more = more ∙ (ap (λ xs. xs ++ x ∷ []) so_far ∙ (append_assoc old (replicate n x) (x ∷ []) ∙ ap (λ xs. old ++ xs) (sym (replicate_more n x))))

-- ---- a cursor over a leaf

some_there : (xs : List Instance) (k : ℕ) → k < length xs → (x : Instance) × (slice_get xs k ≡ Some x)
some_there [] k lt = absurd (omega (arith, lt))
some_there (x ∷ xs) zero lt = (x, refl)
some_there (x ∷ xs) (suc k) lt = some_there xs k (omega (arith, lt))

module _ (f : Laid) (g : CursorOf) (leaf i : ℕ) (same : g.flat ≡ f) (at : g.leaf ≡ leaf) (on : IsOnLeaf f.model leaf i) where
  cursor_is : g ≡ record { flat = f; leaf = leaf }
  cursor_is = ap (λ (x : Laid). record { flat = x; leaf = g.leaf }) same ∙ ap (λ (l : ℕ). record { flat = f; leaf = l }) at

  pub many_there : (n : ℕ) → i < length (instances f.model) → IsReadCount f i n → n ≡ reads_each g.flat.model g.leaf
  many_there n lt count =
      let x = some_there (instances f.model) i lt in
      let number : first_on f.model leaf + (i - first_on f.model leaf) ≡ i = omega (arith, on.low) in
      let each = each_reads (record { flat = f; leaf = leaf }) (reads_each f.model leaf) refl (i - first_on f.model leaf) (omega (arith, on.low, on.high)) x.0 (ap (slice_get (instances f.model)) number ∙ x.1) in
      count x.0 x.1 ∙ (sym each ∙ ap (λ (c : CursorOf). reads_each c.flat.model c.leaf) (sym cursor_is))

  module _ (row : LeafRow) (is : IsLeafRow f.model leaf row) where
    pub base_under : row.base < i + 1
    base_under = omega (arith, is.base, on.low)

    pub number_on : i - row.base < instances_on g.flat.model g.leaf
    number_on =
        let P : CursorOf → Type 0 = λ c. i - row.base < instances_on c.flat.model c.leaf in
        subst P (sym cursor_is) (omega (arith, is.base, on.low, on.high))

    pub reads_are : (rs : List Read) → AreReadsOf g.flat (first_on g.flat.model g.leaf + (i - row.base)) rs → AreReadsOf f i rs
    reads_are rs h =
        let P : CursorOf → Type 0 = λ c. AreReadsOf c.flat (first_on c.flat.model c.leaf + (i - row.base)) rs in
        let number : first_on f.model leaf + (i - row.base) ≡ i = omega (arith, is.base, on.low) in
        let Q : ℕ → Type 0 = λ n. AreReadsOf f n rs in
        subst Q number (subst P cursor_is h)
