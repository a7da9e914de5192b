-- What the instances of a leaf give, by the kind of the leaf.
use Rattle.std.proofs.Common.{◌≡◌, ℕ, zero, suc, ◌+◌, ◌-◌, ◌<◌, ◌≤◌, ◌^◌, Bool, true, false, not, cond, List, [], ◌∷◌, map, flat_map, length, take, drop, slice_get, Option, Some, None, option_and_then, unwrap_or, refl, sym, ◌∙◌, ap, subst, arith, inl, inr}
use Rattle.std.specs.List.{IsAmong, filter, prefix_len, enumerate_from}
use Rattle.std.proofs.lemmas.List.Sums.{sum_by-cons}
use Rattle.aol_shape.specs.Lists.{same}
use Rattle.aol_shape.specs.Shape.{IsPointOf, size, point_at}
use Rattle.aol_shape.proofs.Points.{point_at-is}
use Rattle.aol_expr_tree.specs.declared.port.Port.{Port}
use Rattle.aol_expr_tree.specs.declared.value.Val.{Val}
use Rattle.aol_model_types.specs.declared.document.Model.{Model}
use Rattle.aol_model_types.specs.declared.task.Elementary.{Elementary}
use Rattle.aol_model_types.specs.declared.task.OutPort.{OutPort}
use Rattle.aol_model_types.specs.declared.task.Part.{Part}
use Rattle.aol_model_types.specs.declared.task.Task.{Task}
use Rattle.aol_model_types.specs.declared.task.Task.TheVariants as tasks
use Rattle.aol_model_types.specs.Rules.{task_name, task_named, inputs_of, outputs_of}
use Rattle.aol_flat.specs.Accept.{IsSound}
use Rattle.aol_flat.specs.Instance.{Leaf, Computes, Copies, leaves, leaves_below, leaf_path, reshape_leaf, Instance, Run, Copy, instances, instance_on}
use Rattle.aol_flat.specs.InstanceValue.{instance_outputs}
use Rattle.aol_flat.specs.LeafCursor.{elements_at, first_on, leaf_size, reads_each, writes_each}
use Rattle.aol_flat.specs.Leaves.{IsLeafRow, instances_of, kind_of}
use Rattle.aol_flat.specs.Net.{instance_gives, task_gives}
use Rattle.aol_flat.specs.Node.{Node, ToPart, ToBody, space_around, place_on, node_task, task_under}
use Rattle.aol_flat.specs.Numbered.{number_from, number_named}
use Rattle.aol_flat.specs.Place.{Place, task_at}
use Rattle.aol_flat.specs.Tasks.{main_task, is_elementary, elementary_number}
use Rattle.aol_flat.specs.declared.leaf.Leaf.{Leaf as LeafRow}
use Rattle.aol_flat.specs.declared.leaf.LeafKind.TheVariants as kinds
use Rattle.aol_flat.proofs.Among.{among_append, among_flat_map, among_map, get_among}
use Rattle.aol_flat.proofs.Find.{task_at_named}
use Rattle.aol_flat.proofs.LeafAt.{instance_at}
use Rattle.aol_flat.proofs.LeafForm.{leaf_form}
use Rattle.aol_flat.proofs.NodeTasks.{task_on}
use Rattle.aol_flat.proofs.RunPoints.{computes_is, copies_is, run_elements, copy_elements}
use Rattle.aol_flat.proofs.SourceBack.{at_number}
use Rattle.aol_flat.proofs.Subtrees.{named_number}
use Rattle.aol_flat.proofs.Totals.{read_named}
use Rattle.aol_level.specs.Puts.{elements}
use Rattle.aol_level.specs.Made.{IsLeafOf, elementary_among}

-- ---- numbers among the elementary tasks

above_from : (from : ℕ) (ts : List Task) (name : List ℕ) (n : ℕ) → number_from from ts name ≡ Some n → from ≤ n
above_from from [] name n h = cc
above_from from (t ∷ ts) name n h = go (same (task_name t) name) refl (above_from (from + 1) ts name n)
  where
    go : (b : Bool) → same (task_name t) name ≡ b → (number_from (from + 1) ts name ≡ Some n → from + 1 ≤ n) → from ≤ n
    go true e rest = let k = rw e at h in let here : from ≡ n = cc in omega (arith, here)
    go false e rest = omega (arith, rest (rw e at h))

-- the elementary tasks before the first one with a name
by_number : (from : ℕ) (ts : List Task) (name : List ℕ) (j : ℕ) (e : Elementary) → number_from from ts name ≡ Some (from + j) → slice_get ts j ≡ Some (tasks.Elementary e)
    → prefix_len (λ t. not (same (task_name t) name)) (filter is_elementary ts) ≡ length (filter is_elementary (take j ts))
by_number from [] name j e h at = cc
by_number from (t ∷ ts) name zero e h at = go (same (task_name t) name) refl
  where
    is : t ≡ tasks.Elementary e
    is = cc

    kept : filter is_elementary (t ∷ ts) ≡ t ∷ filter is_elementary ts
    kept = ap (λ u. cond (is_elementary u) (t ∷ filter is_elementary ts) (filter is_elementary ts)) is

    go : (b : Bool) → same (task_name t) name ≡ b → prefix_len (λ u. not (same (task_name u) name)) (filter is_elementary (t ∷ ts)) ≡ 0
    go true s = ap (prefix_len (λ u. not (same (task_name u) name))) kept ∙ ap (λ b. cond (not b) (1 + prefix_len (λ u. not (same (task_name u) name)) (filter is_elementary ts)) 0) s
    go false s = absurd (omega (arith, above_from (from + 1) ts name (from + 0) (rw s at h)))
by_number from (t ∷ ts) name (suc j) e h at = go (same (task_name t) name) refl (by_number (from + 1) ts name j e)
  where
    later : (c : Bool) → same (task_name t) name ≡ false → prefix_len (λ u. not (same (task_name u) name)) (filter is_elementary ts) ≡ length (filter is_elementary (take j ts))
        → prefix_len (λ u. not (same (task_name u) name)) (cond c (t ∷ filter is_elementary ts) (filter is_elementary ts)) ≡ length (cond c (t ∷ filter is_elementary (take j ts)) (filter is_elementary (take j ts)))
    later true s rest =
        let more : 1 + length (filter is_elementary (take j ts)) ≡ suc (length (filter is_elementary (take j ts))) = omega arith in
        ap (λ b. cond (not b) (1 + prefix_len (λ u. not (same (task_name u) name)) (filter is_elementary ts)) 0) s ∙ (ap (λ n. 1 + n) rest ∙ more)
    later false s rest = rest

    go : (b : Bool) → same (task_name t) name ≡ b
        → (number_from (from + 1) ts name ≡ Some (from + 1 + j) → slice_get ts j ≡ Some (tasks.Elementary e) → prefix_len (λ u. not (same (task_name u) name)) (filter is_elementary ts) ≡ length (filter is_elementary (take j ts)))
        → prefix_len (λ u. not (same (task_name u) name)) (filter is_elementary (t ∷ ts)) ≡ length (filter is_elementary (t ∷ take j ts))
    go true s rest = let k = rw s at h in let here : from ≡ from + suc j = cc in absurd (omega (arith, here))
    go false s rest =
        let moved : from + suc j ≡ from + 1 + j = omega arith in
        later (is_elementary t) s (rest (rw s at h ∙ ap (λ n. Some n) moved) at)

pub number_counts : (m : Model) (e : Elementary) (j : ℕ) → number_named m.tasks e.name ≡ Some j → slice_get m.tasks j ≡ Some (tasks.Elementary e) → elementary_among (take j m.tasks) ≡ elementary_number m e.name
number_counts m e j h at = let z : j ≡ 0 + j = omega arith in sym (by_number 0 m.tasks e.name j e (h ∙ ap (λ n. Some n) z) at)

-- ---- leaves that compute

-- the task of a leaf that computes is elementary
computes_below : (m : Model) (depth : ℕ) (o : Option Task) (node : Node) → node_task m node ≡ o → (l : Leaf) → IsAmong (leaves_below depth m o node) l → l.work ≡ Computes → (e : Elementary) × (node_task m l.node ≡ Some (tasks.Elementary e))
computes_below m zero o node e l a w = absurd (omega (arith, a.1.0))
computes_below m (suc depth) None node e l a w = absurd (omega (arith, a.1.0))
computes_below m (suc depth) (Some (tasks.Elementary t)) node e l (zero, a) w = (t, ap (λ (x : Leaf). node_task m x.node) a.1 ∙ e)
computes_below m (suc depth) (Some (tasks.Elementary t)) node e l (suc i, a) w = absurd (omega (arith, a.0))
computes_below m (suc depth) (Some (tasks.Repeated t)) node e l a w =
    computes_below m depth (task_named m.tasks t.task) (ToBody t.space ∷ node) (ap (option_and_then (λ v. task_under m v (ToBody t.space))) e) l a w
computes_below m (suc depth) (Some (tasks.Compound c)) node e l a w =
    let f : ℕ × Part → List Leaf = λ p. leaves_below depth m (task_named m.tasks p.1.task) (ToPart p.0 ∷ node) in
    elim (among_append (flat_map f (enumerate_from 0 c.parts)) (map (reshape_leaf node) (enumerate_from 0 c.reshapes)) l a) [
      | inl b ↦
          let p = among_flat_map f (enumerate_from 0 c.parts) l b in
          let here : node_task m (ToPart p.0.0 ∷ node) ≡ task_named m.tasks p.0.1.task =
          ap (option_and_then (λ t. task_under m t (ToPart p.0.0))) e ∙ ap (option_and_then (λ (q : Part). task_named m.tasks q.task)) (at_number c.parts p.0 p.1) in
          computes_below m depth (task_named m.tasks p.0.1.task) (ToPart p.0.0 ∷ node) here l p.2 w
      | inr b ↦
          let r = among_map (reshape_leaf node) (enumerate_from 0 c.reshapes) l b in
          let copies : Computes ≡ Copies r.0.0 (length r.0.1.by.space) = sym w ∙ ap (λ (x : Leaf). x.work) r.2 in
          cc
    ]

pub elements_of_ports : (outs : List OutPort) → elements_at (map (λ (o : OutPort). o.port) outs) ≡ elements outs
elements_of_ports [] = refl
elements_of_ports (o ∷ outs) =
    sum_by-cons (λ (p : Port). size p.shape) o.port (map (λ (q : OutPort). q.port) outs) ∙ (ap (λ n. size o.port.shape + n) (elements_of_ports outs) ∙ sym (sum_by-cons (λ (q : OutPort). size q.port.shape) o outs))

copy_form : (l : Leaf) (at : List ℕ) (k n : ℕ) → l.work ≡ Copies k n → (place : Place) × (q : ℕ) × (repetition : List ℕ) × (part : List ℕ) × (instance_on l at ≡ Copy place q repetition part)
copy_form l at k n work =
    let around = length (space_around l.node) in
    let is : instance_on l at ≡ Copy (place_on l.node (take around at)) k (take n (drop around at)) (drop n (drop around at)) = rw work refl in
    (place_on l.node (take around at), k, take n (drop around at), drop n (drop around at), is)

-- the row of a leaf
abbrev pub row_for : Model → ℕ → Leaf → LeafRow
row_for m leaf l = record { path = leaf_path m l; space = l.space; base = instances_of (take leaf (leaves m)); count = size l.space; kind = kind_of m l }

pub row_is : (m : Model) (leaf : ℕ) (l : Leaf) → slice_get (leaves m) leaf ≡ Some l → IsLeafRow m leaf (row_for m leaf l)
row_is m leaf l at = record { leaf = l; at = at; path = refl; space = refl; base = refl; count = refl; kind = refl }

-- an instance runs the elementary task with this number in the task list
pub record IsRunOf (m : Model) (leaf j k : ℕ) : Type 0 where
  pub task : Elementary
  pub listed : slice_get m.tasks k ≡ Some (tasks.Elementary task)
  pub number : elementary_among (take k m.tasks) ≡ elementary_number m task.name
  pub instance : Instance
  pub at : slice_get (instances m) j ≡ Some instance
  pub gives : (taken : List Val) → instance_gives m instance taken ≡ instance_outputs (elementary_number m task.name) task taken
  pub writes : writes_each m leaf ≡ elements task.outs
  pub few : length task.outs < 2 ^ 32

-- it copies one element
pub record IsCopyOf (m : Model) (leaf j : ℕ) : Type 0 where
  pub instance : Instance
  pub at : slice_get (instances m) j ≡ Some instance
  pub form : (place : Place) × (k : ℕ) × (repetition : List ℕ) × (part : List ℕ) × (instance ≡ Copy place k repetition part)
  pub gives : (taken : List Val) → instance_gives m instance taken ≡ taken
  pub reads : reads_each m leaf ≡ 1
  pub writes : writes_each m leaf ≡ 1

module _ (m : Model) (leaf j : ℕ) (row : LeafRow) (r : IsLeafRow m leaf row) (b : IsLeafOf m j leaf) where
  number : ℕ
  number = j - first_on m leaf

  pub number_within : j - first_on m leaf < size r.leaf.space
  number_within = omega (arith, b.from, b.before, ap leaf_size r.at)

  pub instance_there : slice_get (instances m) j ≡ Some (instance_on r.leaf (point_at r.leaf.space (j - first_on m leaf)))
  instance_there =
      let e : j ≡ first_on m leaf + (j - first_on m leaf) = omega (arith, b.from) in
      ap (slice_get (instances m)) e ∙ instance_at m leaf r.leaf (j - first_on m leaf) r.at number_within

  pub copy_of : row.kind ≡ kinds.Copy → IsCopyOf m leaf j
  copy_of kind =
      let c = copies_is m r.leaf row.kind r.kind kind in
      record {
        instance = instance_on r.leaf (point_at r.leaf.space (j - first_on m leaf));
        at = instance_there;
        form = copy_form r.leaf (point_at r.leaf.space (j - first_on m leaf)) c.reshape c.entries c.is;
        gives = λ taken. rw c.is refl;
        reads = copy_elements inputs_of m leaf r.leaf c.reshape c.entries r.at c.is;
        writes = copy_elements outputs_of m leaf r.leaf c.reshape c.entries r.at c.is;
      }

  pub run_of : IsSound m → (k : ℕ) → row.kind ≡ kinds.Elementary k → IsRunOf m leaf j k
  run_of sound k kind =
      let l = r.leaf in
      let at = point_at l.space (j - first_on m leaf) in
      let inside : IsPointOf l.space at = point_at-is l.space (j - first_on m leaf) number_within in
      let work = computes_is m l row.kind k r.kind kind in
      let form = leaf_form m leaf l r.at in
      let t = computes_below m (length m.tasks) (main_task m) [] refl l (get_among (leaves m) leaf l r.at) work in
      let e = t.0 in
      let space : l.space ≡ space_around l.node =
      elim form.form [
        | inl x ↦ x.space
        | inr x ↦ let copies = x.copies in cc
      ] in
      let around : IsPointOf (space_around l.node) at = subst (λ s. IsPointOf s at) space inside in
      let there : task_at m (place_on l.node at) ≡ Some (tasks.Elementary e) = task_on m l.node form.spaces at around ∙ t.1 in
      let named : task_named m.tasks e.name ≡ Some (tasks.Elementary e) = task_at_named m (place_on l.node at) (tasks.Elementary e) there in
      let found = named_number m e.name (tasks.Elementary e) named in
      let kinds_same : kinds.Elementary k ≡ kinds.Elementary found.0 =
      sym kind ∙ (r.kind ∙ (ap (λ w. elim w [ Computes ↦ kinds.Elementary (unwrap_or (option_and_then (λ t. number_named m.tasks (task_name t)) (node_task m l.node)) 0) | Copies x n ↦ kinds.Copy ]) work
      ∙ (ap (λ o. kinds.Elementary (unwrap_or (option_and_then (λ t. number_named m.tasks (task_name t)) o) 0)) t.1 ∙ ap (λ o. kinds.Elementary (unwrap_or o 0)) found.1))) in
      let place : k ≡ found.0 = cc in
      let listed : slice_get m.tasks k ≡ Some (tasks.Elementary e) = ap (slice_get m.tasks) place ∙ found.2 in
      let runs : instance_on l at ≡ Run (place_on l.node at) = rw work refl in
      let types = (read_named m e.name (tasks.Elementary e) sound.read named).types in
      record {
        task = e;
        listed = listed;
        number = number_counts m e k (found.1 ∙ ap (λ n. Some n) (sym place)) listed;
        instance = instance_on l at;
        at = instance_there;
        gives = λ taken. ap (λ i. instance_gives m i taken) runs ∙ ap (task_gives m taken) there;
        writes = run_elements outputs_of m leaf l (tasks.Elementary e) r.at work t.1 ∙ elements_of_ports e.outs;
        few = types.out_count;
      }
