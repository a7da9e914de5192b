-- A cursor at an instance of its leaf.
use Rattle.std.proofs.Common.{◌≡◌, ℕ, ◌+◌, ◌<◌, List, Option, Some, None, slice_get, sum, sym, ◌∙◌, ap, refl, arith, subst}
use Rattle.std.specs.List.{AllZip}
use Rattle.aol_shape.specs.Shape.{IsPointOf, size, point_at}
use Rattle.aol_shape.proofs.Points.{point_at-is}
use Rattle.aol_model_types.specs.declared.document.Model.{Model}
use Rattle.aol_model_types.specs.Rules.{inputs_of, outputs_of}
use Rattle.aol_flat.specs.Accept.{IsSound}
use Rattle.aol_flat.specs.Cursor.{CursorOf, AreReadsAt, AreWritesAt}
use Rattle.aol_flat.specs.declared.leaf.Leaf.{Leaf as LeafRow}
use Rattle.aol_flat.specs.declared.view.Read.{Read}
use Rattle.aol_flat.specs.Instance.{Leaf, leaves, Instance, instances, instance_on, read_elements, written_elements, read_sizes, written_sizes}
use Rattle.aol_flat.specs.Laid.{Laid, IsReadOf, IsCellOf}
use Rattle.aol_flat.specs.LeafCursor.{IsLeafPoint, IsAlong, ReadsEach, WritesEach, instances_on, first_on, leaf_size, leaf_elements, reads_each, writes_each}
use Rattle.aol_flat.specs.Leaves.{IsLeafRow}
use Rattle.aol_flat.specs.Level.{AreReadsOf, AreWritesOf}
use Rattle.aol_flat.proofs.LeafAt.{instance_at}
use Rattle.aol_flat.proofs.LeafForm.{leaf_form, leaf_some, reads_on, writes_on}

-- a row counts the instances of its leaf
pub count_on : (m : Model) (k : ℕ) (row : LeafRow) → IsLeafRow m k row → row.count ≡ instances_on m k
count_on m k row r = r.count ∙ sym (ap leaf_size r.at)

pub along_point : (m : Model) (leaf number : ℕ) (at : List ℕ) (a : IsAlong m leaf number at) → IsPointOf a.of_leaf.space at
along_point m leaf number at a = subst (IsPointOf a.of_leaf.space) (sym a.is) (point_at-is a.of_leaf.space number a.within)

pub leaf_point : (m : Model) (leaf number : ℕ) (at : List ℕ) → IsAlong m leaf number at → IsLeafPoint m leaf at
leaf_point m leaf number at a = record { leaf = a.of_leaf; listed = a.listed; inside = along_point m leaf number at a }

-- the first instance of a leaf is there
pub some_instance : (m : Model) → IsSound m → (k : ℕ) (row : LeafRow) → IsLeafRow m k row → 0 < row.count
some_instance m sound k row r = omega (arith, r.count, leaf_some m sound r.leaf (leaf_form m k r.leaf r.at))

-- a cursor at an instance of the leaf of a row
pub along_row : (m : Model) (k : ℕ) (row : LeafRow) (number : ℕ) (at : List ℕ) → IsLeafRow m k row → number < row.count → at ≡ point_at row.space number → IsAlong m k number at
along_row m k row number at r low is = record { of_leaf = r.leaf; listed = r.at; within = omega (arith, low, r.count); is = is ∙ ap (λ s. point_at s number) r.space }

-- what the row of the leaf says of a cursor there
pub record OnRow (row : LeafRow) (number : ℕ) (at : List ℕ) : Type 0 where
  pub low : number < row.count
  pub is : at ≡ point_at row.space number

pub on_row : (m : Model) (k : ℕ) (row : LeafRow) (number : ℕ) (at : List ℕ) → IsLeafRow m k row → IsAlong m k number at → OnRow row number at
on_row m k row number at r a =
    let e : Some r.leaf ≡ Some a.of_leaf = sym r.at ∙ a.listed in
    let same : r.leaf ≡ a.of_leaf = cc in
    record { low = omega (arith, a.within, r.count, ap (λ (l : Leaf). size l.space) same); is = a.is ∙ sym (ap (λ s. point_at s number) (r.space ∙ ap (λ (l : Leaf). l.space) same)) }

-- ---- instances by number

number_is : (m : Model) (leaf number : ℕ) (at : List ℕ) (a : IsAlong m leaf number at) (i : Instance) → slice_get (instances m) (first_on m leaf + number) ≡ Some i → instance_on a.of_leaf at ≡ i
number_is m leaf number at a i got =
    let there = instance_at m leaf a.of_leaf number a.listed a.within in
    let e : Some (instance_on a.of_leaf (point_at a.of_leaf.space number)) ≡ Some i = sym there ∙ got in
    let f : instance_on a.of_leaf (point_at a.of_leaf.space number) ≡ i = cc in
    ap (instance_on a.of_leaf) a.is ∙ f

pub reads_by_number : (f : Laid) (leaf number : ℕ) (at : List ℕ) (reads : List Read) → IsAlong f.model leaf number at → AreReadsAt f leaf at reads → AreReadsOf f (first_on f.model leaf + number) reads
reads_by_number f leaf number at reads a h i got =
    subst (λ j. AllZip (IsReadOf f) (read_elements f.model j) reads) (number_is f.model leaf number at a i got) (h a.of_leaf a.listed)

pub writes_by_number : (f : Laid) (leaf number : ℕ) (at : List ℕ) (cells : List ℕ) → IsAlong f.model leaf number at → AreWritesAt f leaf at cells → AreWritesOf f (first_on f.model leaf + number) cells
writes_by_number f leaf number at cells a h i got =
    subst (λ j. AllZip (IsCellOf f) (written_elements f.model j) cells) (number_is f.model leaf number at a i got) (h a.of_leaf a.listed)

-- ---- how many elements each has

-- a leaf with an instance is there
record IsThere (m : Model) (leaf number : ℕ) : Type 0 where
  of_leaf : Leaf
  listed : slice_get (leaves m) leaf ≡ Some of_leaf
  within : number < size of_leaf.space

leaf_there : (m : Model) (leaf number : ℕ) → number < instances_on m leaf → IsThere m leaf number
leaf_there m leaf number low = go (slice_get (leaves m) leaf) refl
  where
    go : (o : Option Leaf) → slice_get (leaves m) leaf ≡ o → IsThere m leaf number
    go None e = absurd (omega (arith, low, ap leaf_size e))
    go (Some l) e = record { of_leaf = l; listed = e; within = omega (arith, low, ap leaf_size e) }

along_there : (m : Model) (leaf number : ℕ) (t : IsThere m leaf number) → IsAlong m leaf number (point_at t.of_leaf.space number)
along_there m leaf number t = record { of_leaf = t.of_leaf; listed = t.listed; within = t.within; is = refl }

pub each_reads : (c : CursorOf) (many : ℕ) → many ≡ reads_each c.flat.model c.leaf → ReadsEach c many
unfolding leaf_there along_there
each_reads c many is number low i got =
    let m : Model = c.flat.model in
    let t = leaf_there m c.leaf number low in
    let at : List ℕ = point_at t.of_leaf.space number in
    let same = number_is m c.leaf number at (along_there m c.leaf number t) i got in
    is ∙ (ap (leaf_elements inputs_of m) t.listed
    ∙ (reads_on m t.of_leaf at (leaf_form m c.leaf t.of_leaf t.listed) (point_at-is t.of_leaf.space number t.within)
    ∙ ap (λ j. sum (read_sizes m j)) same))

pub each_writes : (c : CursorOf) (many : ℕ) → many ≡ writes_each c.flat.model c.leaf → WritesEach c many
unfolding leaf_there along_there
each_writes c many is number low i got =
    let m : Model = c.flat.model in
    let t = leaf_there m c.leaf number low in
    let at : List ℕ = point_at t.of_leaf.space number in
    let same = number_is m c.leaf number at (along_there m c.leaf number t) i got in
    is ∙ (ap (leaf_elements outputs_of m) t.listed
    ∙ (writes_on m t.of_leaf at (leaf_form m c.leaf t.of_leaf t.listed) (point_at-is t.of_leaf.space number t.within)
    ∙ ap (λ j. sum (written_sizes m j)) same))

-- ---- as a cursor is seen

-- the same instance of the same leaf
pub same_along : (f g : Laid) (leaf other number : ℕ) (at is : List ℕ) → g ≡ f → other ≡ leaf → is ≡ at → IsAlong f.model leaf number at → IsAlong g.model other number is
same_along f g leaf other number at is same_flat same_leaf same_at h =
    subst (λ x. IsAlong g.model other number x) (sym same_at) (subst (λ k. IsAlong g.model k number at) (sym same_leaf) (subst (λ (x : Laid). IsAlong x.model leaf number at) (sym same_flat) h))

pub reads_seen : (f : Laid) (leaf number : ℕ) (reads : List Read) (c : CursorOf) → f ≡ c.flat → leaf ≡ c.leaf → AreReadsOf f (first_on f.model leaf + number) reads → AreReadsOf c.flat (first_on c.flat.model c.leaf + number) reads
reads_seen f leaf number reads c same_flat same_leaf h =
    subst (λ k. AreReadsOf c.flat (first_on c.flat.model k + number) reads) same_leaf (subst (λ (x : Laid). AreReadsOf x (first_on x.model leaf + number) reads) same_flat h)

pub writes_seen : (f : Laid) (leaf number : ℕ) (cells : List ℕ) (c : CursorOf) → f ≡ c.flat → leaf ≡ c.leaf → AreWritesOf f (first_on f.model leaf + number) cells → AreWritesOf c.flat (first_on c.flat.model c.leaf + number) cells
writes_seen f leaf number cells c same_flat same_leaf h =
    subst (λ k. AreWritesOf c.flat (first_on c.flat.model k + number) cells) same_leaf (subst (λ (x : Laid). AreWritesOf x (first_on x.model leaf + number) cells) same_flat h)
