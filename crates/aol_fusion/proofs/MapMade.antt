-- The numbers of the old leaves are the map of the fusion.
use Rattle.std.proofs.Common.{◌≡◌, ℕ, zero, suc, ◌+◌, ◌<◌, Bool, true, false, cond, List, [], ◌∷◌, ◌++◌, length, take, drop, flat_map, Some, option_map, unwrap_or, slice_get, sym, ◌∙◌, ap, refl, arith, subst, append_assoc, ◌⊎◌, inl, inr}
use Rattle.std.specs.List.{IsAmong}
use Rattle.std.proofs.lemmas.List.{append-nil, length-append, length-map}
use Rattle.std.proofs.lemmas.Option.{none-some, get_or_from_slice_get, slice_get-map}
use Rattle.aol_shape.specs.Lists.{same, numbers_below}
use Rattle.aol_shape.specs.Shape.{IsPointOf, size, point_at, points}
use Rattle.aol_model_types.specs.declared.document.Model.{Model}
use Rattle.aol_model_types.specs.declared.task.Compound.{Compound}
use Rattle.aol_model_types.specs.declared.task.Copied.{Copied}
use Rattle.aol_model_types.specs.declared.task.Elementary.{Elementary}
use Rattle.aol_model_types.specs.declared.task.Task.{Task}
use Rattle.aol_model_types.specs.declared.task.Task.TheVariants as tasks
use Rattle.aol_model_types.specs.Rules.{task_name}
use Rattle.aol_flat.specs.Instance.{Leaf, Computes, Copies, Instance, Run, Copy, leaves, leaves_below, leaf_instances, instances, reshape_leaf, instance_on}
use Rattle.aol_flat.specs.Keep.{runs_task, AreAlike}
use Rattle.aol_flat.specs.LeafCursor.{first_on}
use Rattle.aol_flat.specs.Node.{Node, space_around, place_on, node_task}
use Rattle.aol_flat.specs.Place.{Place}
use Rattle.aol_flat.proofs.Among.{among_map, among_flat_map, get_among, points_inside}
use Rattle.aol_flat.proofs.LeafAt.{instance_at}
use Rattle.aol_flat.proofs.LeafForm.{IsCopyForm, IsRunForm}
use Rattle.aol_flat.proofs.Names.{same-self, slice_get-right}
use Rattle.aol_flat.proofs.NodeTasks.{HasSpaces, task_on}
use Rattle.aol_change.specs.Change.{is_named, name_at, old_place, IsMapOf, KeepsTasks}
use Rattle.aol_change.specs.Unblocked.{entries_before}
use Rattle.aol_change.proofs.Below.{node_named, listed_form, listed_at}
use Rattle.aol_change.proofs.EqualParts.{numbers_get, numbers_many}
use Rattle.aol_fusion_parts.specs.Changed.{first_goes, changed_from, changed_to, changed_reshape, copied_to}
use Rattle.aol_fusion_parts.specs.Fuse.{Fusing}
use Rattle.aol_fusion_parts.specs.Made.{fused_names}
use Rattle.aol_fusion_parts.specs.Ports.{unjoined_ports}
use Rattle.aol_fusion_rules.proofs.Sound.{IsFusing}
use Rattle.aol_paving.proofs.NewLeaves.{Enough}
use Rattle.aol_fusion.specs.Map.{origins_from, old_reshape, unfuse, unfuse_reshape, fuse_origin}
use Rattle.aol_fusion.specs.Numbers.{leaves_of, first_leaf, copy_leaves, old_leaf, numbers_in_leaf, numbers_of_leaf, fused_numbers}
use Rattle.aol_fusion.proofs.Comes.{now, whole_enough, old_order, low_apart, is_compound, name_there}
use Rattle.aol_fusion.proofs.ManyLeaves.{leaf_of_reshape}
use Rattle.aol_fusion.proofs.LeafComes.{computes_elementary, at_work, ArePair, LeafFrom, same_leaf, block_leaf}
use Rattle.aol_fusion.proofs.Lookups.{next, origin, before_or_after, in_front, inner_there, changed_task, changed_of, whole_task, block_task, once_task, pair_task, pair_of}
use Rattle.aol_fusion.proofs.NodeComes.{OldAt, AsOld, InBlock, Comes, as_old, in_block, at_whole, at_pair, at_first, at_second}
use Rattle.aol_fusion.proofs.NodeSteps.{comes}

module _ (f : Fusing) (h : IsFusing f) where
  abbrev m : Model
  m = f.model

  abbrev c : Compound
  c = f.compound

  abbrev new : Model
  new = next f h

  abbrev block_name : List ℕ
  block_name = (fused_names f.model f.compound.name).block

  abbrev back_to : Place → Place
  back_to = old_place (unfuse f) new

  abbrev back : Instance → Instance
  back = fuse_origin f new

  -- the old leaf of a new one, and its instances
  pub record OldLeaf (l : Leaf) : Type 0 where
    pub old : Leaf
    pub at : slice_get (leaves m) (old_leaf f new l) ≡ Some old
    pub from : LeafFrom f h l (entries_before new block_name l.node) old

  -- ---- leaves that compute

  old_leaf_run : (l : Leaf) → l.work ≡ Computes → old_leaf f new l ≡ first_leaf f new l.node
  old_leaf_run l e = ap (λ w. elim w [ Computes ↦ first_leaf f new l.node | Copies k n ↦ first_leaf f new l.node + copy_leaves f (node_task new l.node) k ]) e

  old_leaf_copy : (l : Leaf) (k n : ℕ) → l.work ≡ Copies k n → old_leaf f new l ≡ first_leaf f new l.node + copy_leaves f (node_task new l.node) k
  old_leaf_copy l k n e = ap (λ w. elim w [ Computes ↦ first_leaf f new l.node | Copies k n ↦ first_leaf f new l.node + copy_leaves f (node_task new l.node) k ]) e

  abbrev run_leaf : Node → Leaf
  run_leaf node = record { node = node; work = Computes; space = space_around node }

  elementary_is : (t : Task) (e : Elementary) → Some (now f h t) ≡ Some (tasks.Elementary e) → t ≡ tasks.Elementary e
  elementary_is t e k = go (same (task_name t) c.name) refl k
    where
      go : (b : Bool) → same (task_name t) c.name ≡ b → Some (cond b (changed_task f h) t) ≡ Some (tasks.Elementary e) → t ≡ tasks.Elementary e
      go true g k = cc
      go false g k = cc

  run_at : (l : Leaf) (node : Node) (t : Task) (e : Elementary) → OldAt f h l.node node t → t ≡ tasks.Elementary e → l.work ≡ Computes → slice_get (leaves m) (old_leaf f new l) ≡ Some (run_leaf node)
  run_at l node t e o is computes = go o.leaves.depth o.leaves.enough o.leaves.leaf
    where
      go : (d : ℕ) → Enough m.tasks (task_name t) d → ((k : ℕ) (x : Leaf) → slice_get (leaves_below d m (Some t) node) k ≡ Some x → slice_get (leaves m) (first_leaf f new l.node + k) ≡ Some x) → slice_get (leaves m) (old_leaf f new l) ≡ Some (run_leaf node)
      go zero enough leaf = (let n : enough.number < 0 = enough.under in absurd (omega (arith, n)))
      go (suc d) enough leaf =
          let z : first_leaf f new l.node ≡ first_leaf f new l.node + 0 = omega arith in
          ap (slice_get (leaves m)) (old_leaf_run l computes ∙ z) ∙ leaf 0 (run_leaf node) (ap (λ x. slice_get (leaves_below (suc d) m (Some x) node) 0) is)

  run_pair : (l : Leaf) (node : Node) (t : Task) (e : Elementary) → OldAt f h l.node node t → t ≡ tasks.Elementary e → node_task new l.node ≡ Some (tasks.Elementary e) → IsRunForm l → ArePair f h (run_leaf node) l
  run_pair l node t e o is at r = record {
    rest = [];
    old_space = sym (append-nil (space_around node));
    new_space = r.space ∙ sym (append-nil (space_around l.node));
    old_none = λ k. refl;
    new_none = λ k. refl;
    work = λ x y place inside leads. ap (λ w. back (at_work w (place_on l.node x) y)) r.computes ∙ ap (λ p. Run p) leads;
    runs = λ x x' y inside old_inside.
        ap (option_map task_name) (task_on m node o.spaces x' old_inside ∙ (o.at ∙ ap (λ k. Some k) is))
        ∙ (sym (ap (option_map task_name) (task_on new l.node o.new_spaces x inside ∙ at)) ∙ ap (λ w. runs_task new (at_work w (place_on l.node x) y)) (sym r.computes));
  }

  run_old : (l : Leaf) → IsAmong (leaves new) l → IsRunForm l → HasSpaces new l.node → OldLeaf l
  run_old l a r spaces =
      let e = computes_elementary new l a r.computes in
      go e.0 e.1 (comes f h l.node (tasks.Elementary e.0) spaces e.1)
    where
      go : (e : Elementary) → node_task new l.node ≡ Some (tasks.Elementary e) → Comes f h l.node → OldLeaf l
      go e at (as_old node t o) =
          let is = elementary_is t e (sym o.old.now_at ∙ at) in
          record {
            old = run_leaf node;
            at = run_at l node t e o.old is r.computes;
            from = subst (λ b. LeafFrom f h l b (run_leaf node)) (sym o.none) (same_leaf f h (run_leaf node) l (run_pair l node t e o.old is at r) o.around o.from);
          }
      go e at (in_block node t o) =
          let is = elementary_is t e (sym o.old.now_at ∙ at) in
          record {
            old = run_leaf node;
            at = run_at l node t e o.old is r.computes;
            from = subst (λ b. LeafFrom f h l b (run_leaf node)) (sym o.some) (block_leaf f h (run_leaf node) l (run_pair l node t e o.old is at r) o.front o.rest o.around o.new_around o.from);
          }
      go e at (at_whole q) = let k : Some (whole_task f h) ≡ Some (tasks.Elementary e) = sym q.task ∙ at in absurd (cc)
      go e at (at_pair up q s is k) = let k : Some (pair_task f h) ≡ Some (tasks.Elementary e) = sym k ∙ at in absurd (cc)
      go e at (at_first up q s is k) = let k : Some (block_task f h) ≡ Some (tasks.Elementary e) = sym k ∙ at in absurd (cc)
      go e at (at_second up q s is k) = let k : Some (once_task f h) ≡ Some (tasks.Elementary e) = sym k ∙ at in absurd (cc)

  -- ---- leaves that copy

  -- the leaf of a reshape of an old compound
  copy_at : (l : Leaf) (node : Node) (x : Compound) (k : ℕ) (r : Copied) → OldAt f h l.node node (tasks.Compound x) → slice_get x.reshapes k ≡ Some r → old_leaf f new l ≡ first_leaf f new l.node + (leaves_of m x.parts + k)
      → slice_get (leaves m) (old_leaf f new l) ≡ Some (reshape_leaf node (k, r))
  copy_at l node x k r o at number = go o.leaves.depth o.leaves.enough o.leaves.leaf
    where
      go : (d : ℕ) → Enough m.tasks x.name d → ((j : ℕ) (y : Leaf) → slice_get (leaves_below d m (Some (tasks.Compound x)) node) j ≡ Some y → slice_get (leaves m) (first_leaf f new l.node + j) ≡ Some y)
          → slice_get (leaves m) (old_leaf f new l) ≡ Some (reshape_leaf node (k, r))
      go zero enough leaf = (let n : enough.number < 0 = enough.under in absurd (omega (arith, n)))
      go (suc d) enough leaf =
          ap (slice_get (leaves m)) number
          ∙ leaf (leaves_of m x.parts + k) (reshape_leaf node (k, r))
          (leaf_of_reshape m (old_order f h) (inner_there m h.sound.shapes) d x.name node x (node_named m node (tasks.Compound x) o.at) enough (whole_enough f h) k r at)

  -- both copy, by equal tilers
  copy_pair : (l : Leaf) (node : Node) (k k' : ℕ) (r r' : Copied) → r'.by ≡ r.by → l.work ≡ Copies k' (length r'.by.space) → l.space ≡ space_around l.node ++ r'.by.space ++ r'.by.pattern
      → ((x : List ℕ) → IsPointOf (space_around l.node) x → unfuse_reshape f (name_at new (place_on l.node x)) k' ≡ k) → ArePair f h (reshape_leaf node (k, r)) l
  copy_pair l node k k' r r' by copies space number =
      let none : (w : l.work ≡ Computes) → r.by.space ++ r.by.pattern ≡ [] = λ w. (let clash : Copies k' (length r'.by.space) ≡ Computes = sym copies ∙ w in absurd (cc)) in
      let old_none : (w : (reshape_leaf node (k, r)).work ≡ Computes) → r.by.space ++ r.by.pattern ≡ [] = λ w. absurd (cc) in
      record {
        rest = r.by.space ++ r.by.pattern;
        old_space = append_assoc (space_around node) r.by.space r.by.pattern;
        new_space = space ∙ (ap (λ b. space_around l.node ++ b.space ++ b.pattern) by ∙ append_assoc (space_around l.node) r.by.space r.by.pattern);
        old_none = old_none;
        new_none = none;
        work = λ x y place inside leads.
            ap (λ w. back (at_work w (place_on l.node x) y)) copies
            ∙ (ap (λ q. Copy q (unfuse_reshape f (name_at new (place_on l.node x)) k') (take (length r'.by.space) y) (drop (length r'.by.space) y)) leads
            ∙ (ap (λ j. Copy place j (take (length r'.by.space) y) (drop (length r'.by.space) y)) (number x inside)
            ∙ ap (λ b. Copy place k (take (length b.space) y) (drop (length b.space) y)) by));
        runs = λ x x' y inside old_inside. ap (λ w. runs_task new (at_work w (place_on l.node x) y)) (sym copies);
      }

  -- of an unchanged compound
  plain_number : (l : Leaf) (x : Compound) (k n : ℕ) → same x.name c.name ≡ false → node_task new l.node ≡ Some (tasks.Compound x) → l.work ≡ Copies k n → old_leaf f new l ≡ first_leaf f new l.node + (leaves_of m x.parts + k)
  plain_number l x k n e at copies =
      old_leaf_copy l k n copies
      ∙ (ap (λ t. first_leaf f new l.node + copy_leaves f t k) at ∙ ap (λ b. first_leaf f new l.node + cond b (leaves_of m c.parts + old_reshape f k) (leaves_of m x.parts + k)) e)

  plain_reshape : (l : Leaf) (x : Compound) (k : ℕ) → same x.name c.name ≡ false → HasSpaces new l.node → node_task new l.node ≡ Some (tasks.Compound x) → (y : List ℕ) → IsPointOf (space_around l.node) y
      → unfuse_reshape f (name_at new (place_on l.node y)) k ≡ k
  plain_reshape l x k e spaces at y inside = ap (λ b. cond b (old_reshape f k) k) (ap (λ z. is_named z c.name) (name_there f h l.node (tasks.Compound x) y spaces at inside) ∙ e)

  -- of the changed one
  record CopiedFrom (k' : ℕ) (r' : Copied) : Type 0 where
    number : ℕ
    old : Copied
    at : slice_get c.reshapes number ≡ Some old
    is : old_reshape f k' ≡ number
    by : r'.by ≡ old.by

  copied_from : (k' : ℕ) (r' : Copied) → slice_get (changed_of f h).reshapes k' ≡ Some r' → CopiedFrom k' r'
  copied_from k' r' listed =
      let change : Copied → List Copied = changed_reshape f.args f.one f.two (unjoined_ports f.args c f.two.ins) (first_goes f.args c) in
      let r = origin change c.reshapes k' r' listed in
      let e = among_map (copied_to (changed_from f.args f.two r.old.from) r.old.by) (changed_to f.args f.one (unjoined_ports f.args c f.two.ins) (first_goes f.args c) r.old.to) r' r.among in
      record { number = r.number; old = r.old; at = r.at; is = get_or_from_slice_get (origins_from change 0 c.reshapes) k' r.number 0 r.listed; by = ap (λ (x : Copied). x.by) e.2 }

  compound_is : (t : Task) (x : Compound) → Some (now f h t) ≡ Some (tasks.Compound x) → ((same (task_name t) c.name ≡ true) × (x ≡ changed_of f h)) ⊎ ((same (task_name t) c.name ≡ false) × (t ≡ tasks.Compound x))
  compound_is t x k = go (same (task_name t) c.name) refl k
    where
      go : (b : Bool) → same (task_name t) c.name ≡ b → Some (cond b (changed_task f h) t) ≡ Some (tasks.Compound x) → ((same (task_name t) c.name ≡ true) × (x ≡ changed_of f h)) ⊎ ((same (task_name t) c.name ≡ false) × (t ≡ tasks.Compound x))
      go true g k = let is : changed_of f h ≡ x = cc in inl (g, sym is)
      go false g k = let is : t ≡ tasks.Compound x = cc in inr (g, is)

  copy_old : (l : Leaf) (form : IsCopyForm new l) → HasSpaces new l.node → OldLeaf l
  copy_old l form spaces = go (comes f h l.node (tasks.Compound form.compound) spaces form.task)
    where
      x : Compound
      x = form.compound

      k' : ℕ
      k' = form.number

      plain_old : (node : Node) (t : Task) → AsOld f h l.node node t → same (task_name t) c.name ≡ false → t ≡ tasks.Compound x → OldLeaf l
      plain_old node t o e is =
          let own : same x.name c.name ≡ false = ap (λ z. same (task_name z) c.name) (sym is) ∙ e in
          let old = subst (OldAt f h l.node node) is o.old in
          record {
            old = reshape_leaf node (k', form.reshape);
            at = copy_at l node x k' form.reshape old form.listed (plain_number l x k' (length form.reshape.by.space) own form.task form.copies);
            from = subst (λ b. LeafFrom f h l b (reshape_leaf node (k', form.reshape))) (sym o.none)
                (same_leaf f h (reshape_leaf node (k', form.reshape)) l (copy_pair l node k' k' form.reshape form.reshape refl form.copies form.space (plain_reshape l x k' own spaces form.task)) o.around o.from);
          }

      changed_old : (node : Node) (t : Task) → AsOld f h l.node node t → same (task_name t) c.name ≡ true → x ≡ changed_of f h → OldLeaf l
      changed_old node t o e is =
          let compound = is_compound f h t (node_named m node t o.old.at) e in
          let old = subst (OldAt f h l.node node) compound o.old in
          let r = copied_from k' form.reshape (ap (λ (z : Compound). slice_get z.reshapes k') (sym is) ∙ form.listed) in
          let here : node_task new l.node ≡ Some (changed_task f h) = form.task ∙ ap (λ z. Some (tasks.Compound z)) is in
          let number : old_leaf f new l ≡ first_leaf f new l.node + (leaves_of m c.parts + r.number) =
          old_leaf_copy l k' (length form.reshape.by.space) form.copies
          ∙ (ap (λ z. first_leaf f new l.node + copy_leaves f z k') here
          ∙ (ap (λ b. first_leaf f new l.node + cond b (leaves_of m c.parts + old_reshape f k') (leaves_of m (changed_of f h).parts + k')) (same-self c.name)
          ∙ ap (λ j. first_leaf f new l.node + (leaves_of m c.parts + j)) r.is)) in
          let renumbered : (y : List ℕ) → IsPointOf (space_around l.node) y → unfuse_reshape f (name_at new (place_on l.node y)) k' ≡ r.number = λ y inside.
          ap (λ b. cond b (old_reshape f k') k') (ap (λ z. is_named z c.name) (name_there f h l.node (changed_task f h) y spaces here inside) ∙ same-self c.name) ∙ r.is in
          record {
            old = reshape_leaf node (r.number, r.old);
            at = copy_at l node c r.number r.old old r.at number;
            from = subst (λ b. LeafFrom f h l b (reshape_leaf node (r.number, r.old))) (sym o.none)
                (same_leaf f h (reshape_leaf node (r.number, r.old)) l (copy_pair l node r.number k' r.old form.reshape r.by form.copies form.space renumbered) o.around o.from);
          }

      old_by : (node : Node) (t : Task) → AsOld f h l.node node t → ((same (task_name t) c.name ≡ true) × (x ≡ changed_of f h)) ⊎ ((same (task_name t) c.name ≡ false) × (t ≡ tasks.Compound x)) → OldLeaf l
      old_by node t o (inl k) = changed_old node t o k.0 k.1
      old_by node t o (inr k) = plain_old node t o k.0 k.1

      block_by : (node : Node) (t : Task) → InBlock f h l.node node t → ((same (task_name t) c.name ≡ true) × (x ≡ changed_of f h)) ⊎ ((same (task_name t) c.name ≡ false) × (t ≡ tasks.Compound x)) → OldLeaf l
      block_by node t o (inl k) = let clash : true ≡ false = sym k.0 ∙ low_apart f h (task_name t) o.low in absurd (cc)
      block_by node t o (inr k) =
          let own : same x.name c.name ≡ false = ap (λ z. same (task_name z) c.name) (sym k.1) ∙ k.0 in
          let old = subst (OldAt f h l.node node) k.1 o.old in
          record {
            old = reshape_leaf node (k', form.reshape);
            at = copy_at l node x k' form.reshape old form.listed (plain_number l x k' (length form.reshape.by.space) own form.task form.copies);
            from = subst (λ b. LeafFrom f h l b (reshape_leaf node (k', form.reshape))) (sym o.some)
                (block_leaf f h (reshape_leaf node (k', form.reshape)) l (copy_pair l node k' k' form.reshape form.reshape refl form.copies form.space (plain_reshape l x k' own spaces form.task)) o.front o.rest o.around o.new_around o.from);
          }

      go : Comes f h l.node → OldLeaf l
      go (as_old node t o) = old_by node t o (compound_is t x (sym o.old.now_at ∙ form.task))
      go (in_block node t o) = block_by node t o (compound_is t x (sym o.old.now_at ∙ form.task))
      go (at_whole q) = let k : Some (whole_task f h) ≡ Some (tasks.Compound x) = sym q.task ∙ form.task in absurd (cc)
      go (at_pair up q s is k) =
          let both : Some (pair_task f h) ≡ Some (tasks.Compound x) = sym k ∙ form.task in
          let same_compound : pair_of f h ≡ x = cc in
          absurd (none-some form.reshape (ap (λ (z : Compound). slice_get z.reshapes k') same_compound ∙ form.listed))
      go (at_first up q s is k) = let k : Some (block_task f h) ≡ Some (tasks.Compound x) = sym k ∙ form.task in absurd (cc)
      go (at_second up q s is k) = let k : Some (once_task f h) ≡ Some (tasks.Compound x) = sym k ∙ form.task in absurd (cc)

  -- every leaf has an old one
  pub leaf_from : (l : Leaf) → IsAmong (leaves new) l → OldLeaf l
  leaf_from l a =
      let form = listed_form new l a in
      elim form.form [ inl r ↦ run_old l a r form.spaces | inr k ↦ copy_old l k form.spaces ]

  -- ---- all leaves

  on_leaf : (l : Leaf) (k : ℕ) → k < size l.space → slice_get (leaf_instances l) k ≡ Some (instance_on l (point_at l.space k))
  on_leaf l k low =
      let e : 0 + k ≡ k = omega arith in
      slice_get-map (instance_on l) (points l.space) k
      ∙ (ap (option_map (instance_on l)) (slice_get-map (point_at l.space) (numbers_below (size l.space)) k)
      ∙ ap (λ o. option_map (instance_on l) (option_map (point_at l.space) o)) (numbers_get 0 (size l.space) k low ∙ ap (λ j. Some j) e))

  many_on : (l : Leaf) → length (leaf_instances l) ≡ size l.space
  many_on l = length-map (points l.space) (instance_on l) ∙ (length-map (numbers_below (size l.space)) (point_at l.space) ∙ numbers_many 0 (size l.space))

  numbers_are : (l : Leaf) (o : OldLeaf l) → numbers_of_leaf f new l ≡ numbers_in_leaf f (first_on m (old_leaf f new l)) o.old.space (entries_before new block_name l.node)
  numbers_are l o =
      ap (λ x. numbers_in_leaf f (first_on m (old_leaf f new l)) (unwrap_or (option_map (λ (y : Leaf). y.space) x) []) (entries_before new block_name l.node)) o.at

  many_numbers : (l : Leaf) → OldLeaf l → length (numbers_of_leaf f new l) ≡ size l.space
  many_numbers l o = ap length (numbers_are l o) ∙ o.from.many (first_on m (old_leaf f new l))

  many_all : (ls : List Leaf) → ((l : Leaf) → IsAmong ls l → OldLeaf l) → length (flat_map (numbers_of_leaf f new) ls) ≡ length (flat_map leaf_instances ls)
  many_all [] h = refl
  many_all (l ∷ ls) h =
      omega (
        arith,
        many_numbers l (h l (0, (omega arith, refl))),
        many_on l,
        many_all ls (λ x a. h x (suc a.0, (omega (arith, a.1.0), a.1.1))),
        length-append (numbers_of_leaf f new l) (flat_map (numbers_of_leaf f new) ls),
        length-append (leaf_instances l) (flat_map leaf_instances ls),
      )

  -- the number of the old instance of the one with the number j
  abbrev IsOrigin : List Leaf → ℕ → Instance → Type 0
  IsOrigin ls j i = (k : ℕ) × (slice_get (flat_map (numbers_of_leaf f new) ls) j ≡ Some k) × (slice_get (instances m) k ≡ Some (back i))

  origins : (ls : List Leaf) → ((l : Leaf) → IsAmong ls l → OldLeaf l) → (j : ℕ) (i : Instance) → slice_get (flat_map leaf_instances ls) j ≡ Some i → IsOrigin ls j i
  origins [] h j i at = absurd (none-some i at)
  origins (l ∷ ls) h j i at = go (origins ls (λ x a. h x (suc a.0, (omega (arith, a.1.0), a.1.1)))) (h l (0, (omega arith, refl))) (before_or_after j (size l.space))
    where
      numbers : List ℕ
      numbers = numbers_of_leaf f new l

      go : ((k : ℕ) (x : Instance) → slice_get (flat_map leaf_instances ls) k ≡ Some x → IsOrigin ls k x) → OldLeaf l → (j < size l.space) ⊎ ((k : ℕ) × (j ≡ size l.space + k)) → IsOrigin (l ∷ ls) j i
      go rec o (inl low) =
          let first : ℕ = first_on m (old_leaf f new l) in
          let r = o.from.number first j low in
          let here : Some (instance_on l (point_at l.space j)) ≡ Some i = sym (on_leaf l j low) ∙ (sym (in_front (leaf_instances l) (flat_map leaf_instances ls) j (omega (arith, low, many_on l))) ∙ at) in
          let is : instance_on l (point_at l.space j) ≡ i = cc in (
            first + r.0,
            in_front numbers (flat_map (numbers_of_leaf f new) ls) j (omega (arith, low, many_numbers l o)) ∙ (ap (λ ns. slice_get ns j) (numbers_are l o) ∙ r.2),
            instance_at m (old_leaf f new l) o.old r.0 o.at r.1 ∙ ap (λ x. Some x) (r.3 ∙ ap back is),
          )
      go rec o (inr later) =
          let place : j ≡ length (leaf_instances l) + later.0 = omega (arith, later.1, many_on l) in
          let number : j ≡ length numbers + later.0 = omega (arith, later.1, many_numbers l o) in
          let r = rec later.0 i (sym (slice_get-right (leaf_instances l) (flat_map leaf_instances ls) later.0) ∙ (ap (slice_get (leaf_instances l ++ flat_map leaf_instances ls)) (sym place) ∙ at)) in
          (r.0, ap (slice_get (numbers ++ flat_map (numbers_of_leaf f new) ls)) number ∙ (slice_get-right numbers (flat_map (numbers_of_leaf f new) ls) later.0 ∙ r.1), r.2)

  -- the numbers are the map
  pub map_is : IsMapOf m new back (fused_numbers f new)
  map_is = record {
    each = many_all (leaves new) leaf_from;
    number = λ j i at.
        (let r = origins (leaves new) leaf_from j i at in
        ap (slice_get (instances m)) (get_or_from_slice_get (fused_numbers f new) j r.0 0 r.1) ∙ r.2);
  }

  -- ---- the models are alike

  runs_all : (i : Instance) → IsAmong (instances new) i → runs_task m (back i) ≡ runs_task new i
  runs_all i a =
      let l = among_flat_map leaf_instances (leaves new) i a in
      let at = among_map (instance_on l.0) (points l.0.space) i l.2 in
      ap (λ x. runs_task m (back x)) at.2 ∙ ((leaf_from l.0 l.1).from.runs at.0 (points_inside l.0.space at.0 at.1) ∙ ap (runs_task new) (sym at.2))

  pub alike_is : KeepsTasks m new → AreAlike m new (fused_numbers f new)
  alike_is keeps = record {
    elementary = keeps.elementary;
    each = map_is.each;
    kinds = λ j low.
        (let i = listed_at (instances new) j low in
        record { old_instance = back i.0; new_instance = i.0; at_old = map_is.number j i.0 i.1; at_new = i.1; alike = runs_all i.0 (get_among (instances new) j i.0 i.1) });
    same_ins = keeps.ins;
    same_outs = keeps.outs;
  }
