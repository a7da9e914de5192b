-- Nodes and leaves below a repetition of a model, and the entries before those of its space.
use Rattle.std.proofs.Common.{◌≡◌, ◌≢◌, ℕ, zero, suc, ◌+◌, ◌*◌, ◌<◌, ◌≤◌, Bool, true, false, cond, List, [], ◌∷◌, ◌++◌, length, take, drop, map, flat_map, get_or, Option, Some, None, option_map, option_and_then, slice_get, sym, ◌∙◌, ap, refl, arith, subst, append_assoc, inl, inr}
use Rattle.std.specs.Prelude.{Result, Ok, Err, OnOk}
use Rattle.std.specs.List.{IsAmong, enumerate_from}
use Rattle.std.proofs.Math.Seq.{take-append_seam, drop-append_seam}
use Rattle.std.proofs.lemmas.List.{length-append, append-nil}
use Rattle.std.proofs.lemmas.Option.{none-some, get_or_from_slice_get}
use Rattle.aol_shape.specs.Lists.{same}
use Rattle.aol_shape.specs.Shape.{size}
use Rattle.aol_shape.proofs.Sizes.{size_both}
use Rattle.aol_model_types.specs.declared.document.Model.{Model}
use Rattle.aol_model_types.specs.declared.task.Part.{Part}
use Rattle.aol_model_types.specs.declared.task.Repeated.{Repeated}
use Rattle.aol_model_types.specs.declared.task.Task.{Task}
use Rattle.aol_model_types.specs.declared.task.Task.TheVariants as tasks
use Rattle.aol_model_types.specs.Rules.{task_name, task_named}
use Rattle.aol_flat.specs.Accept.{IsSound}
use Rattle.aol_flat.specs.declared.leaf.Leaf.{Leaf as LeafRow}
use Rattle.aol_flat.specs.declared.nodes.LeafSpot.{LeafSpot}
use Rattle.aol_flat.specs.declared.nodes.NodeRow.{NodeRow}
use Rattle.aol_flat.specs.Instance.{Leaf, leaves_below, leaves, reshape_leaf, instances}
use Rattle.aol_flat.specs.Leaves.{instances_of, IsLeafRow}
use Rattle.aol_flat.specs.Node.{Branch, ToPart, ToBody, Node, space_around, task_under, node_task}
use Rattle.aol_flat.specs.NodeTable.{IsNode, IsNodeRow, IsLeafSpot}
use Rattle.aol_flat.specs.Tasks.{main_task}
use Rattle.aol_flat.proofs.Among.{among_get, among_append, among_map, among_flat_map}
use Rattle.aol_flat.proofs.Find.{found_name, and_then_some}
use Rattle.aol_flat.proofs.LeafForm.{LeafForm, leaf_form, leaf_some}
use Rattle.aol_flat.proofs.Names.{same-equal}
use Rattle.aol_flat.proofs.NodeAt.{is_under, one_node, known}
use Rattle.aol_flat.proofs.NodeTasks.{HasSpaces}
use Rattle.aol_flat.proofs.Sites.{find-passes}
use Rattle.aol_flat.proofs.SourceBack.{at_number}
use Rattle.aol_flat.proofs.Totals.{length-instances}
use Rattle.aol_change.specs.Change.{is_named}
use Rattle.aol_change.proofs.Factors.{factors}
use Rattle.aol_change.specs.Unblocked.{entries_before, numbers_in_tasks, numbers_in_leaf, numbers_in_leaves}
use Rattle.aol_change.specs.UnblockedParts.{IsEntriesBefore}

-- ---- the tasks at nodes, by their names

-- a task that is found has the name that was looked for
pub own_name : (ts : List Task) (n : List ℕ) (u : Task) → task_named ts n ≡ Some u → task_name u ≡ n
own_name ts n u h = same-equal (task_name u) n (find-passes (λ t. same (task_name t) n) ts u h)

module _ (m : Model) where
  under_named : (v : Task) (b : Branch) (u : Task) → task_under m v b ≡ Some u → task_named m.tasks (task_name u) ≡ Some u
  under_named (tasks.Elementary e) b u h = cc
  under_named (tasks.Compound c) (ToPart k) u h = let f = and_then_some (λ (p : Part). task_named m.tasks p.task) (slice_get c.parts k) u h in found_name m f.0.task u f.2
  under_named (tasks.Compound c) (ToBody s) u h = cc
  under_named (tasks.Repeated r) (ToPart k) u h = cc
  under_named (tasks.Repeated r) (ToBody s) u h = found_name m r.task u h

  -- the task at a node is that of its name
  pub node_named : (node : Node) (u : Task) → node_task m node ≡ Some u → task_named m.tasks (task_name u) ≡ Some u
  node_named [] u h = found_name m m.main u h
  node_named (b ∷ up) u h = let f = and_then_some (λ v. task_under m v b) (node_task m up) u h in under_named f.0 b u f.2

  task_below : (depth : ℕ) (o : Option Task) (node : Node) → node_task m node ≡ o → (l : Leaf) → IsAmong (leaves_below depth m o node) l → (u : Task) × (node_task m l.node ≡ Some u)
  task_below zero o node e l a = absurd (omega (arith, a.1.0))
  task_below (suc depth) None node e l a = absurd (omega (arith, a.1.0))
  task_below (suc depth) (Some (tasks.Elementary t)) node e l (zero, a) = (tasks.Elementary t, ap (λ (x : Leaf). node_task m x.node) a.1 ∙ e)
  task_below (suc depth) (Some (tasks.Elementary t)) node e l (suc i, a) = absurd (omega (arith, a.0))
  task_below (suc depth) (Some (tasks.Compound c)) node e l a =
      let f : ℕ × Part → List Leaf = λ p. leaves_below depth m (task_named m.tasks p.1.task) (ToPart p.0 ∷ node) in
      elim (among_append (flat_map f (enumerate_from 0 c.parts)) (map (reshape_leaf node) (enumerate_from 0 c.reshapes)) l a) [
        | inl b ↦
            let p = among_flat_map f (enumerate_from 0 c.parts) l b in
            let here : node_task m (ToPart p.0.0 ∷ node) ≡ task_named m.tasks p.0.1.task =
            ap (option_and_then (λ t. task_under m t (ToPart p.0.0))) e ∙ ap (option_and_then (λ (q : Part). task_named m.tasks q.task)) (at_number c.parts p.0 p.1) in
            task_below depth (task_named m.tasks p.0.1.task) (ToPart p.0.0 ∷ node) here l p.2
        | inr b ↦
            let r = among_map (reshape_leaf node) (enumerate_from 0 c.reshapes) l b in
            (tasks.Compound c, ap (λ (x : Leaf). node_task m x.node) r.2 ∙ e)
      ]
  task_below (suc depth) (Some (tasks.Repeated t)) node e l a =
      task_below depth (task_named m.tasks t.task) (ToBody t.space ∷ node) (ap (option_and_then (λ v. task_under m v (ToBody t.space))) e) l a

  -- a leaf stands at a node with a task
  pub leaf_task : (l : Leaf) → IsAmong (leaves m) l → (u : Task) × (node_task m l.node ≡ Some u)
  leaf_task l a = task_below (length m.tasks) (main_task m) [] refl l a

  -- and has one of the two forms
  pub listed_form : (l : Leaf) → IsAmong (leaves m) l → LeafForm m l
  listed_form l a = leaf_form m a.0 l (among_get (leaves m) a.0 l a.1.0 a.1.1)

  -- ---- the entries before those of a task, step by step

  pub before_named : (name : List ℕ) (b : Branch) (up : Node) (v : Task) → node_task m up ≡ Some v → same (task_name v) name ≡ true → entries_before m name (b ∷ up) ≡ Some (length (space_around up))
  before_named name b up v at e =
      ap (λ o. cond (is_named (option_map task_name o) name) (Some (length (space_around up))) (entries_before m name up)) at
      ∙ ap (λ c. cond c (Some (length (space_around up))) (entries_before m name up)) e

  pub before_other : (name : List ℕ) (b : Branch) (up : Node) (v : Task) → node_task m up ≡ Some v → same (task_name v) name ≡ false → entries_before m name (b ∷ up) ≡ entries_before m name up
  before_other name b up v at e =
      ap (λ o. cond (is_named (option_map task_name o) name) (Some (length (space_around up))) (entries_before m name up)) at
      ∙ ap (λ c. cond c (Some (length (space_around up))) (entries_before m name up)) e

  -- ---- by the rows of the nodes

  module _ (sound : IsSound m) (name : List ℕ) (number : ℕ) (row above : NodeRow) (task : Task) (some : number ≢ 0) (known : IsNodeRow m number row) (known_above : IsNodeRow m row.up above) (is : task ≡ get_or m.tasks above.task task) where
    above_task : (u : Task) → slice_get m.tasks above.task ≡ Some u → task ≡ u
    above_task u h = is ∙ get_or_from_slice_get m.tasks above.task u task h

    -- the task above the node with this number
    record IsTaskAbove (node : Node) : Type 0 where
      branch : Branch
      up : Node
      is_node : node ≡ branch ∷ up
      at : node_task m up ≡ Some task
      at_up : (u : Task) × IsNode m row.up up u
      around : above.around ≡ length (space_around up)

    task_above : (node : Node) (t : Task) → IsNode m number node t → IsTaskAbove node
    task_above node t at =
        let u = is_under m sound number row node t some known at in
        let one = one_node m row.up known_above.node u.up known_above.task u.above known_above.at u.at_up in
        record {
          branch = u.branch;
          up = u.up;
          is_node = u.is;
          at = u.above_is ∙ ap (λ x. Some x) (sym one.1 ∙ sym (above_task known_above.task known_above.listed));
          at_up = (u.above, u.at_up);
          around = known_above.around ∙ ap (λ n. length (space_around n)) one.0;
        }

    pub named_above : same (task_name task) name ≡ true → (node : Node) (t : Task) → IsNode m number node t → Some above.around ≡ entries_before m name node
    named_above e node t at =
        let u = task_above node t at in
        ap (λ k. Some k) u.around ∙ (sym (before_named name u.branch u.up task u.at e) ∙ ap (entries_before m name) (sym u.is_node))

    pub other_above : same (task_name task) name ≡ false → (before : Option ℕ) → ((node : Node) (t : Task) → IsNode m row.up node t → before ≡ entries_before m name node)
        → (node : Node) (t : Task) → IsNode m number node t → before ≡ entries_before m name node
    other_above e before rec node t at =
        let u = task_above node t at in
        rec u.up u.at_up.0 u.at_up.1 ∙ (sym (before_other name u.branch u.up task u.at e) ∙ ap (entries_before m name) (sym u.is_node))

-- ---- the space around a node below a repetition

-- the entries of this space stand after so many others
pub record StandsAfter (space around : List ℕ) (before : ℕ) : Type 0 where
  pub front : List ℕ
  pub rest : List ℕ
  pub is : around ≡ front ++ (space ++ rest)
  pub count : length front ≡ before

more_after : (space around s : List ℕ) (before : ℕ) → StandsAfter space around before → StandsAfter space (around ++ s) before
more_after space around s before a = record {
  front = a.front;
  rest = a.rest ++ s;
  is = ap (λ z. z ++ s) a.is ∙ (append_assoc a.front (space ++ a.rest) s ∙ ap (λ z. a.front ++ z) (append_assoc space a.rest s));
  count = a.count;
}

module _ (m : Model) (t : Repeated) (named : task_named m.tasks t.name ≡ Some (tasks.Repeated t)) where
  -- the task of its name is the repetition
  pub is_task : (node : Node) (v : Task) → node_task m node ≡ Some v → same (task_name v) t.name ≡ true → v ≡ tasks.Repeated t
  is_task node v at e =
      let equal : task_name v ≡ t.name = same-equal (task_name v) t.name e in
      let same_task : Some v ≡ Some (tasks.Repeated t) = sym (node_named m node v at) ∙ (ap (task_named m.tasks) equal ∙ named) in
      cc

  pub stands_after : (node : Node) (u : Task) (before : ℕ) → HasSpaces m node → node_task m node ≡ Some u → entries_before m t.name node ≡ Some before → StandsAfter t.space (space_around node) before
  stands_after [] u before spaces at h = cc
  stands_after (b ∷ up) u before spaces at h =
      let f = and_then_some (λ v. task_under m v b) (node_task m up) u at in
      step b spaces f.0 f.1 f.2 h (same (task_name f.0) t.name) refl (λ s k. stands_after up f.0 before s f.1 k)
    where
      step : (b : Branch) → HasSpaces m (b ∷ up) → (v : Task) → node_task m up ≡ Some v → task_under m v b ≡ Some u → entries_before m t.name (b ∷ up) ≡ Some before → (c : Bool) → same (task_name v) t.name ≡ c
          → (HasSpaces m up → entries_before m t.name up ≡ Some before → StandsAfter t.space (space_around up) before) → StandsAfter t.space (space_around (b ∷ up)) before
      step (ToPart k) spaces v here leads h true e rec =
          let is = is_task up v here e in
          let clash : None ≡ Some u = sym (ap (λ x. task_under m x (ToPart k)) is) ∙ leads in
          absurd (cc)
      step (ToPart k) spaces v here leads h false e rec = rec spaces (sym (before_other m t.name (ToPart k) up v here e) ∙ h)
      step (ToBody s) spaces v here leads h true e rec =
          let is = is_task up v here e in
          let count : Some (length (space_around up)) ≡ Some before = sym (before_named m t.name (ToBody s) up v here e) ∙ h in
          let both : Some (tasks.Repeated spaces.0.0) ≡ Some (tasks.Repeated t) = sym spaces.0.1 ∙ (here ∙ ap (λ x. Some x) is) in
          let same_space : spaces.0.0 ≡ t = cc in
          record {
            front = space_around up;
            rest = [];
            is = ap (λ z. space_around up ++ z) (spaces.0.2 ∙ (ap (λ (r : Repeated). r.space) same_space ∙ sym (append-nil t.space)));
            count = cc;
          }
      step (ToBody s) spaces v here leads h false e rec = more_after t.space (space_around up) s before (rec spaces.1 (sym (before_other m t.name (ToBody s) up v here e) ∙ h))

-- the space around a leaf in three parts, by their sizes
pub record HasParts (space around : List ℕ) (before : ℕ) : Type 0 where
  pub within : before + length space ≤ length around
  pub many_some : 0 < size (take before around)
  pub each_some : 0 < size (drop (before + length space) around)
  pub many_few : size (take before around) ≤ size around
  pub each_few : size (drop (before + length space) around) ≤ size around
  pub all : size (take before around) * (size space * size (drop (before + length space) around)) ≡ size around

pub parts_after : (space around : List ℕ) (before : ℕ) → StandsAfter space around before → 0 < size around → HasParts space around before
parts_after space around before s some =
    let seam : before + length space ≡ length (s.front ++ space) = omega (arith, s.count, length-append s.front space) in
    let left : take before around ≡ s.front = ap (λ k. take k around) (sym s.count) ∙ (ap (take (length s.front)) s.is ∙ take-append_seam s.front (space ++ s.rest)) in
    let right : drop (before + length space) around ≡ s.rest =
    ap (λ k. drop k around) seam ∙ (ap (drop (length (s.front ++ space))) (s.is ∙ sym (append_assoc s.front space s.rest)) ∙ drop-append_seam (s.front ++ space) s.rest) in
    let all : size s.front * (size space * size s.rest) ≡ size around = ap (λ z. size s.front * z) (sym (size_both space s.rest)) ∙ (sym (size_both s.front (space ++ s.rest)) ∙ ap size (sym s.is)) in
    let outer = factors (size s.front) (size space * size s.rest) (omega (arith, all, some)) in
    let inner = factors (size space) (size s.rest) outer.1 in
    let left_size : size (take before around) ≡ size s.front = ap size left in
    let right_size : size (drop (before + length space) around) ≡ size s.rest = ap size right in
    record {
      within = omega (arith, s.count, ap length s.is, length-append s.front (space ++ s.rest), length-append space s.rest);
      many_some = omega (arith, left_size, outer.0);
      each_some = omega (arith, right_size, inner.1);
      many_few = omega (arith, left_size, outer.2, all);
      each_few = omega (arith, right_size, inner.3, outer.3, all);
      all = ap (λ z. z * (size space * size (drop (before + length space) around))) left_size ∙ (ap (λ z. size s.front * (size space * z)) right_size ∙ all);
    }

-- ---- leaves

pub part_of_leaves : (ls : List Leaf) (k : ℕ) (l : Leaf) → slice_get ls k ≡ Some l → instances_of (take k ls) + size l.space ≤ instances_of ls
part_of_leaves [] k l h = absurd (none-some l h)
part_of_leaves (x ∷ ls) zero l h = let e : x ≡ l = cc in let s : size x.space ≡ size l.space = ap (λ (y : Leaf). size y.space) e in omega (arith, s)
part_of_leaves (x ∷ ls) (suc k) l h = omega (arith, part_of_leaves ls k l h)

pub numbers_few : (m : Model) (k : ℕ) (l : Leaf) → slice_get (leaves m) k ≡ Some l → instances_of (take k (leaves m)) + size l.space ≤ length (instances m)
numbers_few m k l h = omega (arith, part_of_leaves (leaves m) k l h, length-instances m)

next_base : (ls : List Leaf) (k : ℕ) (l : Leaf) → slice_get ls k ≡ Some l → instances_of (take (k + 1) ls) ≡ instances_of (take k ls) + size l.space
next_base [] k l h = absurd (none-some l h)
next_base (x ∷ ls) zero l h = let e : x ≡ l = cc in let s : size x.space ≡ size l.space = ap (λ (y : Leaf). size y.space) e in omega (arith, s)
next_base (x ∷ ls) (suc k) l h =
    let e : suc k + 1 ≡ suc (k + 1) = omega arith in
    let rest = next_base ls k l h in
    ap (λ n. instances_of (take n (x ∷ ls))) e ∙ omega (arith, rest)

next_leaf : (ls : List Leaf) (k : ℕ) (l : Leaf) → slice_get ls k ≡ Some l → drop k ls ≡ l ∷ drop (k + 1) ls
next_leaf [] k l h = absurd (none-some l h)
next_leaf (x ∷ ls) zero l h = let e : x ≡ l = cc in ap (λ (y : Leaf). y ∷ ls) e
next_leaf (x ∷ ls) (suc k) l h =
    let e : suc k + 1 ≡ suc (k + 1) = omega arith in
    next_leaf ls k l h ∙ ap (λ n. l ∷ drop n (x ∷ ls)) (sym e)

pub listed_at : {X : Type 0} (xs : List X) (k : ℕ) → k < length xs → (x : X) × (slice_get xs k ≡ Some x)
listed_at [] k h = absurd (omega (arith, h))
listed_at (x ∷ xs) zero h = (x, refl)
listed_at (x ∷ xs) (suc k) h = listed_at xs k (omega (arith, h))

-- the numbers of one leaf more
pub one_leaf_more : (m : Model) (t : Repeated) (outer block all old new : List ℕ) (k : ℕ) (l : Leaf) → slice_get (leaves m) k ≡ Some l
    → all ≡ old ++ numbers_in_leaves m t outer block (instances_of (take k (leaves m))) (drop k (leaves m))
    → new ≡ old ++ numbers_in_leaf t.space outer block (instances_of (take k (leaves m))) l.space (entries_before m t.name l.node)
    → all ≡ new ++ numbers_in_leaves m t outer block (instances_of (take (k + 1) (leaves m))) (drop (k + 1) (leaves m))
one_leaf_more m t outer block all old new k l at so_far pushed =
    let base : ℕ = instances_of (take k (leaves m)) in
    let here : List ℕ = numbers_in_leaf t.space outer block base l.space (entries_before m t.name l.node) in
    so_far
    ∙ (ap (λ ls. old ++ numbers_in_leaves m t outer block base ls) (next_leaf (leaves m) k l at)
    ∙ (sym (append_assoc old here (numbers_in_leaves m t outer block (base + size l.space) (drop (k + 1) (leaves m))))
    ∙ (ap (λ z. z ++ numbers_in_leaves m t outer block (base + size l.space) (drop (k + 1) (leaves m))) (sym pushed)
    ∙ ap (λ b. new ++ numbers_in_leaves m t outer block b (drop (k + 1) (leaves m))) (sym (next_base (leaves m) k l at)))))

-- the numbers of a leaf, by its row and its place
pub numbers_by_row : (m : Model) (t : Repeated) (outer block : List ℕ) (k : ℕ) (row : LeafRow) (spot : LeafSpot) (before : Option ℕ) → IsLeafRow m k row → IsLeafSpot m k spot
    → IsEntriesBefore m t.name spot.node before → (l : Leaf) → slice_get (leaves m) k ≡ Some l
    → numbers_in_leaf t.space outer block row.base row.space before ≡ numbers_in_leaf t.space outer block (instances_of (take k (leaves m))) l.space (entries_before m t.name l.node)
numbers_by_row m t outer block k row spot before r s b l at =
    let first : Some r.leaf ≡ Some l = sym r.at ∙ at in
    let by_row : r.leaf ≡ l = cc in
    let second : Some s.leaf ≡ Some l = sym s.at ∙ at in
    let by_spot : s.leaf ≡ l = cc in
    ap (λ n. numbers_in_leaf t.space outer block n row.space before) r.base
    ∙ (ap (λ z. numbers_in_leaf t.space outer block (instances_of (take k (leaves m))) z before) (r.space ∙ ap (λ (x : Leaf). x.space) by_row)
    ∙ ap (numbers_in_leaf t.space outer block (instances_of (take k (leaves m))) l.space) (b s.leaf.node s.task s.node ∙ ap (λ (x : Leaf). entries_before m t.name x.node) by_spot))

-- what is known of a row below the repetition
pub row_parts : (m : Model) → IsSound m → (t : Repeated) → task_named m.tasks t.name ≡ Some (tasks.Repeated t) → (k : ℕ) (row : LeafRow) (spot : LeafSpot) (before : ℕ) → IsLeafRow m k row → IsLeafSpot m k spot
    → IsEntriesBefore m t.name spot.node (Some before) → HasParts t.space row.space before
row_parts m sound t named k row spot before r s b =
    let form : LeafForm m s.leaf = leaf_form m k s.leaf s.at in
    let both : Some r.leaf ≡ Some s.leaf = sym r.at ∙ s.at in
    let same_leaf : r.leaf ≡ s.leaf = cc in
    let space_is : row.space ≡ s.leaf.space = r.space ∙ ap (λ (x : Leaf). x.space) same_leaf in
    let at : node_task m s.leaf.node ≡ Some s.task = (known m spot.node s.leaf.node s.task s.node).task in
    let after = stands_after m t named s.leaf.node s.task before form.spaces at (sym (b s.leaf.node s.task s.node)) in
    let whole : StandsAfter t.space s.leaf.space before = elim form.form [
      | inl f ↦ subst (λ z. StandsAfter t.space z before) (sym f.space) after
      | inr f ↦
          subst (λ z. StandsAfter t.space z before) (sym f.space)
          (more_after t.space (space_around s.leaf.node ++ f.reshape.by.space) f.reshape.by.pattern before (more_after t.space (space_around s.leaf.node) f.reshape.by.space before after))
    ] in
    parts_after t.space row.space before (subst (λ z. StandsAfter t.space z before) (sym space_is) whole) (omega (arith, leaf_some m sound s.leaf form, ap size space_is))

-- the numbers by the sizes of these parts
module _ (space around s r : List ℕ) (before many each : ℕ) (s_is : s ≡ around) (r_is : r ≡ space) (many_is : many ≡ size (take before s)) (each_is : each ≡ size (drop (before + length r) s)) where
  many_all : many ≡ size (take before around)
  many_all = many_is ∙ ap (λ z. size (take before z)) s_is

  each_all : each ≡ size (drop (before + length space) around)
  each_all = each_is ∙ (ap (λ z. size (drop (before + length r) z)) s_is ∙ ap (λ z. size (drop (before + length z) around)) r_is)

  pub parts_all : HasParts space around before → many * (size space * each) ≡ size around
  parts_all h = ap (λ z. z * (size space * each)) many_all ∙ (ap (λ z. size (take before around) * (size space * z)) each_all ∙ h.all)

  pub numbers_all : (outer block : List ℕ) (first : ℕ) → numbers_in_tasks space outer block many first each ≡ numbers_in_leaf space outer block first around (Some before)
  numbers_all outer block first =
      ap (λ k. numbers_in_tasks space outer block k first each) many_all ∙ ap (numbers_in_tasks space outer block (size (take before around)) first) each_all

-- ---- answers

-- the task of a row, read from the list
pub read_task : (ts us : List Task) (k : ℕ) (t : Task) → t ≡ get_or ts k t → ts ≡ us → t ≡ get_or us k t
read_task ts us k t h e = h ∙ ap (λ xs. get_or xs k t) e

-- its name, by the test
pub tested_name : (t : Task) (name found : List ℕ) (result b : Bool) → found ≡ task_name t → result ≡ same found name → result ≡ b → same (task_name t) name ≡ b
tested_name t name found result b h k e = ap (λ n. same n name) (sym h) ∙ (sym k ∙ e)

pub ok_also : {X E : Type 0} {P Q : Type 0} (r : Result X E) → (P → Q) → OnOk r P → OnOk r Q
ok_also (Ok x) f h = f h
ok_also (Err e) f h = h
