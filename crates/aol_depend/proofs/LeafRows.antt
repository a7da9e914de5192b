-- The rows of the instances of a leaf.
use Rattle.std.proofs.Common.{◌≡◌, ◌<◌, ◌^◌, ℕ, zero, suc, ◌+◌, List, [], ◌∷◌, ◌++◌, length, take, slice_get, Option, Some, sym, ◌∙◌, ap, subst, arith}
use Rattle.std.specs.List.{IsAmong}
use Rattle.std.proofs.lemmas.Option.{none-some, slice_get_within}
use Rattle.aol_shape.specs.Shape.{size, point_at}
use Rattle.aol_model_types.specs.declared.document.Model.{Model}
use Rattle.aol_flat.specs.Cursor.{CursorOf}
use Rattle.aol_flat.specs.Instance.{Leaf, leaves, instance_on, instances, read_elements}
use Rattle.aol_flat.specs.Laid.{Laid}
use Rattle.aol_flat.specs.LeafCursor.{first_on, instances_on}
use Rattle.aol_flat.specs.Leaves.{instances_of, IsLeafRow}
use Rattle.aol_flat.specs.Level.{AreReadsOf, writers_read}
use Rattle.aol_flat.specs.declared.leaf.Leaf.{Leaf as LeafRow}
use Rattle.aol_flat.specs.declared.view.Read.{Read}
use Rattle.std.proofs.lemmas.List.{take_all}
use Rattle.aol_flat.proofs.Totals.{length-instances}
use Rattle.aol_flat.proofs.Alongs.{count_on}
use Rattle.aol_flat.proofs.LeafAt.{instance_at}
use Rattle.aol_depend.specs.Gather.{IsInList, AreEntries, AreGathered}
use Rattle.aol_depend.proofs.Gathered.{reads_in_list, more_gathered}

-- the instances of one leaf more
more_leaves : (ls : List Leaf) (k : ℕ) (l : Leaf) → slice_get ls k ≡ Some l → instances_of (take (suc k) ls) ≡ instances_of (take k ls) + size l.space
more_leaves [] k l at = absurd (none-some l at)
more_leaves (x ∷ ls) zero l at = let same : size x.space ≡ size l.space = cc in omega (arith, same)
more_leaves (x ∷ ls) (suc k) l at = omega (arith, more_leaves ls k l at)

-- a number within a leaf is that of an instance
pub numbered : (m : Model) (leaf number : ℕ) (row : LeafRow) (r : IsLeafRow m leaf row) → number < row.count → slice_get (instances m) (first_on m leaf + number) ≡ Some (instance_on r.leaf (point_at r.leaf.space number))
numbered m leaf number row r low = instance_at m leaf r.leaf number r.at (omega (arith, low, r.count))

-- what an instance of the leaf reads is one of the cells
pub leaf_in_list : (f : Laid) (list : List (Option ℕ)) (leaf number : ℕ) (row : LeafRow) (rs : List Read) → AreEntries f list → IsLeafRow f.model leaf row → number < row.count → AreReadsOf f (first_on f.model leaf + number) rs
    → (r : Read) → IsAmong rs r → IsInList list r
leaf_in_list f list leaf number row rs entries r low reads =
    let i = instance_on r.leaf (point_at r.leaf.space number) in
    reads_in_list f list (read_elements f.model i) rs entries (reads i (numbered f.model leaf number row r low))

-- the row of one instance more
pub leaf_gathered : (f : Laid) (list : List (Option ℕ)) (leaf number : ℕ) (row : LeafRow) (starts needed : List ℕ) (rs : List Read) (ends more : List ℕ)
    → length (instances f.model) < 2 ^ 32 → IsLeafRow f.model leaf row → number < row.count → AreGathered f list (first_on f.model leaf + number) starts needed → AreReadsOf f (first_on f.model leaf + number) rs
    → more ≡ needed ++ writers_read list rs → ends ≡ starts ++ length more ∷ [] → AreGathered f list (first_on f.model leaf + (number + 1)) ends more
leaf_gathered f list leaf number row starts needed rs ends more few r low g reads added ended =
    let n = first_on f.model leaf + number in
    let all = needed ++ writers_read list rs in
    let within = slice_get_within (instances f.model) n (instance_on r.leaf (point_at r.leaf.space number)) (numbered f.model leaf number row r low) in
    let next : n + 1 ≡ first_on f.model leaf + (number + 1) = omega arith in
    let start : ends ≡ starts ++ length all ∷ [] = ended ∙ ap (λ xs. starts ++ length xs ∷ []) added in
    let P : ℕ → Type 0 = λ k. AreGathered f list k (starts ++ length all ∷ []) all in
    let Q : List ℕ → Type 0 = λ ss. AreGathered f list (first_on f.model leaf + (number + 1)) ss all in
    let R : List ℕ → Type 0 = λ ns. AreGathered f list (first_on f.model leaf + (number + 1)) ends ns in
    subst R (sym added) (subst Q (sym start) (subst P next (more_gathered f list n starts needed rs g (omega (arith, within, few)) reads)))

-- the instances of the leaf come before those of the next
pub leaf_ends : (m : Model) (leaf number : ℕ) (row : LeafRow) → IsLeafRow m leaf row → number ≡ row.count → first_on m leaf + number ≡ first_on m (leaf + 1)
leaf_ends m leaf number row r all =
    let next : first_on m (leaf + 1) ≡ first_on m leaf + size r.leaf.space =
    ap (first_on m) (let k : leaf + 1 ≡ suc leaf = omega arith in k) ∙ more_leaves (leaves m) leaf r.leaf r.at in
    omega (arith, all, r.count, next)

-- the rows of all instances of the leaf
pub leaf_done : (f : Laid) (list : List (Option ℕ)) (leaf number : ℕ) (row : LeafRow) (starts needed : List ℕ) → IsLeafRow f.model leaf row → number ≡ row.count → AreGathered f list (first_on f.model leaf + number) starts needed
    → AreGathered f list (first_on f.model (leaf + 1)) starts needed
leaf_done f list leaf number row starts needed r all g =
    let P : ℕ → Type 0 = λ k. AreGathered f list k starts needed in
    subst P (leaf_ends f.model leaf number row r all) g

-- no instance of the leaf yet
pub leaf_begun : (f : Laid) (list : List (Option ℕ)) (leaf : ℕ) (starts needed : List ℕ) → AreGathered f list (first_on f.model leaf) starts needed → AreGathered f list (first_on f.model leaf + 0) starts needed
leaf_begun f list leaf starts needed g =
    let P : ℕ → Type 0 = λ k. AreGathered f list k starts needed in
    let e : first_on f.model leaf ≡ first_on f.model leaf + 0 = omega arith in
    subst P e g

-- what a cursor tells, by the model and leaf that it is of
pub told_at : {c d : CursorOf} (number : ℕ) (rs : List Read) → c ≡ d → AreReadsOf c.flat (first_on c.flat.model c.leaf + number) rs → AreReadsOf d.flat (first_on d.flat.model d.leaf + number) rs
told_at {c} {d} number rs e h =
    let P : CursorOf → Type 0 = λ v. AreReadsOf v.flat (first_on v.flat.model v.leaf + number) rs in
    subst P e h

-- there are so many instances of its leaf
pub within_leaf : {c d : CursorOf} (number : ℕ) (row : LeafRow) → c ≡ d → IsLeafRow d.flat.model d.leaf row → number < row.count → number < instances_on c.flat.model c.leaf
within_leaf {c} {d} number row e r low = omega (arith, low, count_on d.flat.model d.leaf row r, ap (λ (v : CursorOf). instances_on v.flat.model v.leaf) e)

-- all leaves have all instances
pub all_leaves : (m : Model) (leaf : ℕ) → leaf ≡ length (leaves m) → first_on m leaf ≡ length (instances m)
all_leaves m leaf all = ap instances_of (take_all leaf (leaves m) (omega (arith, all))) ∙ sym (length-instances m)
