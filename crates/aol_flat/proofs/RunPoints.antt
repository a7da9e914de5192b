-- What a leaf computes or copies at a point of its space, and how many elements that is.
use Rattle.std.proofs.Common.{◌≡◌, ℕ, zero, suc, ◌*◌, ◌≤◌, List, [], ◌∷◌, length, set, Some, slice_get, sym, ◌∙◌, ap, refl, arith, subst, inl, inr}
use Rattle.std.proofs.Math.Nat.{mul-le-mul_left}
use Rattle.aol_shape.specs.Shape.{IsPointOf, size}
use Rattle.aol_expr_tree.specs.declared.port.Port.{Port}
use Rattle.aol_model_types.specs.declared.document.Model.{Model}
use Rattle.aol_model_types.specs.declared.task.Task.{Task}
use Rattle.aol_model_types.specs.Rules.{inputs_of, outputs_of}
use Rattle.aol_flat.specs.Accept.{IsSound}
use Rattle.aol_flat.specs.Cursor.{IsRunPoint, IsCopyPoint}
use Rattle.aol_flat.specs.declared.leaf.Leaf.{Leaf as LeafRow}
use Rattle.aol_flat.specs.declared.leaf.LeafKind.{LeafKind}
use Rattle.aol_flat.specs.declared.leaf.LeafKind.TheVariants as kinds
use Rattle.aol_flat.specs.declared.nodes.LeafSpot.{LeafSpot}
use Rattle.aol_flat.specs.Instance.{Leaf, Work, Computes, Copies, leaves, Run, instance_on, read_elements, written_elements, of_task}
use Rattle.aol_flat.specs.LeafCursor.{HasPortsFrom, IsLeafPoint, elements_at, leaf_elements}
use Rattle.aol_flat.specs.Leaves.{IsLeafRow, kind_of, narrowed}
use Rattle.aol_flat.specs.Limits.{max_walk, own_walk, IsBounded}
use Rattle.aol_flat.specs.Node.{Node, space_around, place_on, node_task, nodes}
use Rattle.aol_flat.specs.NodeTable.{IsNode, IsLeafSpot}
use Rattle.aol_flat.specs.Place.{elements_of}
use Rattle.aol_flat.specs.Saturated.{saturated}
use Rattle.aol_flat.proofs.Few.{walk_few}
use Rattle.aol_flat.proofs.LeafForm.{leaf_form, node_some}
use Rattle.aol_flat.proofs.NodeAt.{known, one_node, task_there_on}
use Rattle.aol_flat.proofs.Totals.{walk_of}

pub one_leaf : (m : Model) (leaf : ℕ) (l k : Leaf) → slice_get (leaves m) leaf ≡ Some l → slice_get (leaves m) leaf ≡ Some k → l ≡ k
one_leaf m leaf l k at here = let e : Some l ≡ Some k = sym at ∙ here in cc

-- ---- by the kind of a leaf

pub computes_is : (m : Model) (l : Leaf) (kind : LeafKind) (n : ℕ) → kind ≡ kind_of m l → kind ≡ kinds.Elementary n → l.work ≡ Computes
computes_is m l kind n is elementary = go l.work refl
  where
    go : (w : Work) → l.work ≡ w → l.work ≡ Computes
    go Computes e = e
    go (Copies k entries) e = let f : kind_of m l ≡ kinds.Copy = rw e refl in cc

-- the leaf copies
pub record IsCopyWork (l : Leaf) : Type 0 where
  pub reshape : ℕ
  pub entries : ℕ
  pub is : l.work ≡ Copies reshape entries

pub copies_is : (m : Model) (l : Leaf) (kind : LeafKind) → kind ≡ kind_of m l → kind ≡ kinds.Copy → IsCopyWork l
copies_is m l kind is copy = go l.work refl
  where
    go : (w : Work) → l.work ≡ w → IsCopyWork l
    go Computes e = let f : (n : ℕ) × (kind_of m l ≡ kinds.Elementary n) = rw e (_, refl) in let g = f.1 in cc
    go (Copies k entries) e = record { reshape = k; entries = entries; is = e }

-- the elements of a leaf that computes are those of its task
pub run_elements : (ports : Task → List Port) (m : Model) (leaf : ℕ) (l : Leaf) (t : Task) → slice_get (leaves m) leaf ≡ Some l → l.work ≡ Computes → node_task m l.node ≡ Some t
    → leaf_elements ports m (slice_get (leaves m) leaf) ≡ elements_at (ports t)
run_elements ports m leaf l t at computes task = rw (at, computes, task) refl

-- that of a copy is one
pub copy_elements : (ports : Task → List Port) (m : Model) (leaf : ℕ) (l : Leaf) (k n : ℕ) → slice_get (leaves m) leaf ≡ Some l → l.work ≡ Copies k n → leaf_elements ports m (slice_get (leaves m) leaf) ≡ 1
copy_elements ports m leaf l k n at copies = rw (at, copies) refl

-- one element that is written to a list of one is the whole list
pub one_written : {Y : Type 0} (ys : List Y) (y : Y) → length ys ≡ 1 → set ys 0 y ≡ y ∷ []
one_written [] y h = absurd (omega (arith, h))
one_written (z ∷ []) y h = refl
one_written (z ∷ w ∷ ys) y h = absurd (omega (arith, h))

pub run_point : (m : Model) (leaf : ℕ) (at : List ℕ) (row : LeafRow) (n : ℕ) → IsLeafPoint m leaf at → IsLeafRow m leaf row → row.kind ≡ kinds.Elementary n → IsRunPoint m leaf at
run_point m leaf at row n p r kind =
    let same = one_leaf m leaf r.leaf p.leaf r.at p.listed in
    record { leaf = p.leaf; listed = p.listed; computes = sym (ap (λ (l : Leaf). l.work) same) ∙ computes_is m r.leaf row.kind n r.kind kind; inside = p.inside }

pub copy_point : (m : Model) (leaf : ℕ) (at : List ℕ) (row : LeafRow) → IsLeafPoint m leaf at → IsLeafRow m leaf row → row.kind ≡ kinds.Copy → IsCopyPoint m leaf at
copy_point m leaf at row p r kind =
    let same = one_leaf m leaf r.leaf p.leaf r.at p.listed in
    let c = copies_is m r.leaf row.kind r.kind kind in
    record { leaf = p.leaf; listed = p.listed; reshape = c.reshape; entries = c.entries; copies = sym (ap (λ (l : Leaf). l.work) same) ∙ c.is; inside = p.inside }

-- ---- a run

pub run_space : (m : Model) (leaf : ℕ) (l : Leaf) → slice_get (leaves m) leaf ≡ Some l → l.work ≡ Computes → l.space ≡ space_around l.node
run_space m leaf l at computes =
    elim (leaf_form m leaf l at).form [
      | inl r ↦ r.space
      | inr c ↦ let e = c.copies in cc
    ]

instance_runs : (l : Leaf) (at : List ℕ) → l.work ≡ Computes → instance_on l at ≡ Run (place_on l.node at)
instance_runs l at computes = rw computes refl

walk_part : (ns : List (Node × Task)) (node : Node) (t : Task) (i : ℕ) → slice_get ns i ≡ Some (node, t) → own_walk t * size (space_around node) ≤ walk_of ns
walk_part [] node t i h = cc
walk_part ((n, u) ∷ ns) node t zero h =
    let pairs : ◌≡◌ {A = Node × Task} (n, u) (node, t) = cc in
    let same_walk : own_walk u * size (space_around n) ≡ own_walk t * size (space_around node) = ap (λ (p : Node × Task). own_walk p.1 * size (space_around p.0)) pairs in
    omega (arith, same_walk)
walk_part ((n, u) ∷ ns) node t (suc i) h = omega (arith, walk_part ns node t i h)

module _ (m : Model) (sound : IsSound m) where
  module _ (leaf : ℕ) (spot : LeafSpot) (at : List ℕ) (s : IsLeafSpot m leaf spot) (p : IsRunPoint m leaf at) where
    same : s.leaf ≡ p.leaf
    same = one_leaf m leaf s.leaf p.leaf s.at p.listed

    computes : s.leaf.work ≡ Computes
    computes = ap (λ (l : Leaf). l.work) same ∙ p.computes

    around : IsPointOf (space_around s.leaf.node) at
    around = subst (λ x. IsPointOf x at) (sym (ap (λ (l : Leaf). l.space) same) ∙ run_space m leaf s.leaf s.at computes) p.inside

    task_is : node_task m s.leaf.node ≡ Some s.task
    task_is = (known m spot.node s.leaf.node s.task s.node).task

    -- all ports of its task
    pub run_ports : (ports : Task → List Port) (many : ℕ) → many ≡ leaf_elements ports m (slice_get (leaves m) leaf) → HasPortsFrom m ports spot.node 0 many at
    run_ports ports many is =
        record { node = s.leaf.node; task = s.task; at_node = s.node; around = around; many_is = is ∙ run_elements ports m leaf s.leaf s.task s.at computes task_is }

    run_of : (l : Leaf) → slice_get (leaves m) leaf ≡ Some l → instance_on l at ≡ Run (place_on s.leaf.node at)
    run_of l listed = ap (λ x. instance_on x at) (one_leaf m leaf l s.leaf listed s.at) ∙ instance_runs s.leaf at computes

    pub reads_of_run : (l : Leaf) → slice_get (leaves m) leaf ≡ Some l → read_elements m (instance_on l at) ≡ elements_of (place_on s.leaf.node at) (inputs_of s.task)
    reads_of_run l listed = ap (read_elements m) (run_of l listed) ∙ ap (of_task (λ t. elements_of (place_on s.leaf.node at) (inputs_of t))) (task_there_on m sound spot.node s.leaf.node s.task at s.node around)

    pub writes_of_run : (l : Leaf) → slice_get (leaves m) leaf ≡ Some l → written_elements m (instance_on l at) ≡ elements_of (place_on s.leaf.node at) (outputs_of s.task)
    writes_of_run l listed = ap (written_elements m) (run_of l listed) ∙ ap (of_task (λ t. elements_of (place_on s.leaf.node at) (outputs_of t))) (task_there_on m sound spot.node s.leaf.node s.task at s.node around)

  -- ---- counts

  -- the elements of a task at a node are few
  own_few : (limits : IsBounded m) (number : ℕ) (node : Node) (t : Task) → IsNode m number node t → own_walk t ≤ max_walk
  own_few limits number node t at =
      let some = node_some m sound node (known m number node t at).spaces in
      omega (arith, mul-le-mul_left (own_walk t) some, walk_part (nodes m) node t number at, walk_few m sound limits)

  pub read_count : (limits : IsBounded m) (number : ℕ) (node : Node) (t : Task) → IsNode m number node t → narrowed (saturated (elements_at (inputs_of t))) ≡ elements_at (inputs_of t)
  read_count limits number node t at = omega (arith, own_few limits number node t at)

  pub write_count : (limits : IsBounded m) (number : ℕ) (node : Node) (t : Task) → IsNode m number node t → narrowed (saturated (elements_at (outputs_of t))) ≡ elements_at (outputs_of t)
  write_count limits number node t at = omega (arith, own_few limits number node t at)

  pub reads_counted : (limits : IsBounded m) (leaf : ℕ) (row : LeafRow) (spot : LeafSpot) (n : ℕ) (node : Node) (t : Task) → IsLeafRow m leaf row → row.kind ≡ kinds.Elementary n → IsLeafSpot m leaf spot → IsNode m spot.node node t
      → narrowed (saturated (elements_at (inputs_of t))) ≡ leaf_elements inputs_of m (slice_get (leaves m) leaf)
  reads_counted limits leaf row spot n node t r kind s here =
      let one = one_node m spot.node s.leaf.node node s.task t s.node here in
      let work : s.leaf.work ≡ Computes = ap (λ (l : Leaf). l.work) (one_leaf m leaf s.leaf r.leaf s.at r.at) ∙ computes_is m r.leaf row.kind n r.kind kind in
      let task : node_task m s.leaf.node ≡ Some t = (known m spot.node s.leaf.node s.task s.node).task ∙ ap Some one.1 in
      read_count limits spot.node node t here ∙ sym (run_elements inputs_of m leaf s.leaf t s.at work task)

  pub writes_counted : (limits : IsBounded m) (leaf : ℕ) (row : LeafRow) (spot : LeafSpot) (n : ℕ) (node : Node) (t : Task) → IsLeafRow m leaf row → row.kind ≡ kinds.Elementary n → IsLeafSpot m leaf spot → IsNode m spot.node node t
      → narrowed (saturated (elements_at (outputs_of t))) ≡ leaf_elements outputs_of m (slice_get (leaves m) leaf)
  writes_counted limits leaf row spot n node t r kind s here =
      let one = one_node m spot.node s.leaf.node node s.task t s.node here in
      let work : s.leaf.work ≡ Computes = ap (λ (l : Leaf). l.work) (one_leaf m leaf s.leaf r.leaf s.at r.at) ∙ computes_is m r.leaf row.kind n r.kind kind in
      let task : node_task m s.leaf.node ≡ Some t = (known m spot.node s.leaf.node s.task s.node).task ∙ ap Some one.1 in
      write_count limits spot.node node t here ∙ sym (run_elements outputs_of m leaf s.leaf t s.at work task)
