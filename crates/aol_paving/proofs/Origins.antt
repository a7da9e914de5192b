-- Where the instances of the paved model come from.
use Rattle.std.proofs.Common.{◌≡◌, ℕ, zero, suc, ◌<◌, Bool, true, false, cond, List, [], ◌∷◌, ◌++◌, length, map, flat_map, take, drop, Option, Some, None, is_some, option_map, option_and_then, slice_get, sym, ◌∙◌, ap, refl, arith, subst, append_assoc, inl, inr}
use Rattle.std.specs.List.{IsAmong, AllByRecursion, enumerate_from}
use Rattle.std.proofs.Math.Seq.{take-append_seam, drop-append_seam}
use Rattle.aol_shape.specs.Lists.{same}
use Rattle.aol_shape.specs.Shape.{IsPointOf, IsEntry}
use Rattle.aol_model_types.specs.declared.document.Model.{Model}
use Rattle.aol_model_types.specs.declared.task.Part.{Part}
use Rattle.aol_model_types.specs.declared.task.Repeated.{Repeated}
use Rattle.aol_model_types.specs.declared.task.Task.{Task}
use Rattle.aol_model_types.specs.declared.task.Task.TheVariants as tasks
use Rattle.aol_model_types.specs.Rules.{task_name, task_named}
use Rattle.aol_flat.specs.Accept.{IsSound}
use Rattle.aol_flat.specs.Instance.{Leaf, leaves, leaves_below, reshape_leaf}
use Rattle.aol_flat.specs.Keep.{AreAlike}
use Rattle.aol_flat.specs.Node.{Branch, ToPart, ToBody, Node, space_around, place_on, node_task, task_under}
use Rattle.aol_flat.specs.Numbered.{number_named, inner_names, StandOnEarlier}
use Rattle.aol_flat.specs.Place.{Down, Place, IntoPart, IntoRepetition}
use Rattle.aol_flat.specs.Tasks.{main_task}
use Rattle.aol_flat.proofs.Among.{among_append, among_map, among_flat_map, map_among, get_among}
use Rattle.aol_flat.proofs.Find.{and_then_some}
use Rattle.aol_flat.proofs.Inside.{point_both, point_length, place_in_body}
use Rattle.aol_flat.proofs.LeafForm.{LeafForm}
use Rattle.aol_flat.proofs.Names.{same-self, same-equal}
use Rattle.aol_flat.proofs.NodeTasks.{HasSpaces, task_on}
use Rattle.aol_flat.proofs.Order.{stand_on_earlier}
use Rattle.aol_flat.proofs.SourceBack.{at_number}
use Rattle.aol_flat.proofs.TaskNumbers.{found}
use Rattle.aol_change.specs.Change.{StepBack, old_place, name_at, is_named, unblocked, IsMapOf, KeepsTasks}
use Rattle.aol_change.specs.Unblocked.{entries_before, old_numbers}
use Rattle.aol_change.specs.UnblockedParts.{HaveRank}
use Rattle.aol_change.proofs.Below.{own_name, node_named, listed_form, before_named, before_other, is_task}
use Rattle.aol_change.proofs.ComesFrom.{ComesFrom, whole, map_of}
use Rattle.aol_change.proofs.NodeFrom.{NodeFrom, as_before, in_blocks, into_part, into_body, leaf_from, kind_kept, alike}
use Rattle.aol_paving.specs.Leaves.{is_at, is_body_of, new_node, new_leaf}
use Rattle.aol_paving.specs.Pave.{paved_model, paved_inner, paved_outer, inner_name, unpave, pave_origin}
use Rattle.aol_paving.proofs.NewLeaves.{free_new, in_next, one_in_next, apart_from_new, numbered_there, inner_other, paved_leaves}

-- ---- one step back

other_name : (a b : List ℕ) → same a b ≡ false → same b a ≡ false
other_name a b h = go (same b a) refl
  where
    go : (c : Bool) → same b a ≡ c → same b a ≡ false
    go false e = e
    go true e =
        let equal : b ≡ a = same-equal b a e in
        let clash : true ≡ false = sym (same-self a) ∙ (ap (same a) (sym equal) ∙ h) in
        absurd (cc)

-- a step from another task stays
unpave_else : (name space block : List ℕ) (above : Option (List ℕ)) (d : Down) (up : Place) → is_named above name ≡ false → unpave name space block above d up ≡ d ∷ up
unpave_else name space block above (IntoPart k) up h = refl
unpave_else name space block above (IntoRepetition i) [] h = refl
unpave_else name space block above (IntoRepetition i) (IntoPart k ∷ up) h = refl
unpave_else name space block above (IntoRepetition i) (IntoRepetition r ∷ up) h =
    ap (λ b. cond b (IntoRepetition (drop (length block) i) ∷ IntoRepetition (unblocked space block r (take (length block) i)) ∷ up) (IntoRepetition i ∷ IntoRepetition r ∷ up)) h

-- the position inside a block moves to the step above
unpave_both : (name space block : List ℕ) (above : Option (List ℕ)) (b c r : List ℕ) (up : Place) → length b ≡ length block → is_named above name ≡ true
    → unpave name space block above (IntoRepetition (b ++ c)) (IntoRepetition r ∷ up) ≡ IntoRepetition c ∷ IntoRepetition (unblocked space block r b) ∷ up
unpave_both name space block above b c r up count h =
    ap (λ z. cond z (IntoRepetition (drop (length block) (b ++ c)) ∷ IntoRepetition (unblocked space block r (take (length block) (b ++ c))) ∷ up) (IntoRepetition (b ++ c) ∷ IntoRepetition r ∷ up)) h
    ∙ (ap (λ k. IntoRepetition (drop k (b ++ c)) ∷ IntoRepetition (unblocked space block r (take k (b ++ c))) ∷ up) (sym count)
    ∙ (ap (λ z. IntoRepetition z ∷ IntoRepetition (unblocked space block r (take (length b) (b ++ c))) ∷ up) (drop-append_seam b c)
    ∙ ap (λ z. IntoRepetition c ∷ IntoRepetition (unblocked space block r z) ∷ up) (take-append_seam b c)))

-- ---- leaves

-- a leaf stands at a task that is not a repetition
abbrev is_repeated : Task → Bool
is_repeated (tasks.Repeated r) = true
is_repeated _ = false

record LeafTask (m : Model) (node : Node) : Type 0 where
  task : Task
  at : node_task m node ≡ Some task
  plain : is_repeated task ≡ false

leaf_below : (m : Model) (depth : ℕ) (o : Option Task) (node : Node) → node_task m node ≡ o → (l : Leaf) → IsAmong (leaves_below depth m o node) l → LeafTask m l.node
leaf_below m zero o node e l a = absurd (omega (arith, a.1.0))
leaf_below m (suc depth) None node e l a = absurd (omega (arith, a.1.0))
leaf_below m (suc depth) (Some (tasks.Elementary t)) node e l (zero, a) = record { task = tasks.Elementary t; at = ap (λ (x : Leaf). node_task m x.node) a.1 ∙ e; plain = refl }
leaf_below m (suc depth) (Some (tasks.Elementary t)) node e l (suc i, a) = absurd (omega (arith, a.0))
leaf_below m (suc depth) (Some (tasks.Compound c)) node e l a =
    let f : ℕ × Part → List Leaf = λ p. leaves_below depth m (task_named m.tasks p.1.task) (ToPart p.0 ∷ node) in
    elim (among_append (flat_map f (enumerate_from 0 c.parts)) (map (reshape_leaf node) (enumerate_from 0 c.reshapes)) l a) [
      | inl b ↦
          let p = among_flat_map f (enumerate_from 0 c.parts) l b in
          let here : node_task m (ToPart p.0.0 ∷ node) ≡ task_named m.tasks p.0.1.task =
          ap (option_and_then (λ t. task_under m t (ToPart p.0.0))) e ∙ ap (option_and_then (λ (q : Part). task_named m.tasks q.task)) (at_number c.parts p.0 p.1) in
          leaf_below m depth (task_named m.tasks p.0.1.task) (ToPart p.0.0 ∷ node) here l p.2
      | inr b ↦
          let r = among_map (reshape_leaf node) (enumerate_from 0 c.reshapes) l b in
          record { task = tasks.Compound c; at = ap (λ (x : Leaf). node_task m x.node) r.2 ∙ e; plain = refl }
    ]
leaf_below m (suc depth) (Some (tasks.Repeated t)) node e l a =
    leaf_below m depth (task_named m.tasks t.task) (ToBody t.space ∷ node) (ap (option_and_then (λ v. task_under m v (ToBody t.space))) e) l a

module _ (m : Model) (t u : Repeated) (outer block : List ℕ) (sound : IsSound m) (next_sound : IsSound (paved_model m t u outer block)) (named : task_named m.tasks t.name ≡ Some (tasks.Repeated t))
    (below : task_named m.tasks t.task ≡ Some (tasks.Repeated u)) (entries : AllByRecursion IsEntry t.space) (rank : HaveRank t.space outer block) where
  abbrev next : Model
  next = paved_model m t u outer block

  abbrev name : List ℕ
  name = inner_name m t

  abbrev one : Repeated
  one = paved_inner m t u block (inner_name m t)

  abbrev all : Repeated
  all = paved_outer m t u outer block (inner_name m t)

  abbrev moved : Node → Node
  moved = new_node m t.name outer block

  abbrev back : StepBack
  back = unpave (inner_name m t) t.space block

  abbrev old_of : Place → Place
  old_of = old_place (unpave (inner_name m t) t.space block) next

  order : StandOnEarlier next.tasks
  order = stand_on_earlier next next_sound.shapes

  old_order : StandOnEarlier m.tasks
  old_order = stand_on_earlier m sound.shapes

  free : is_some (task_named m.tasks name) ≡ false
  free = free_new m t sound

  -- ---- tasks

  in_new : (n : List ℕ) (v : Task) → task_named m.tasks n ≡ Some v → task_named next.tasks n ≡ Some (cond (same n t.name) (tasks.Repeated all) v)
  in_new n v h = in_next m sound.shapes t u named below outer block name one all refl refl refl refl refl refl free next refl order old_order n v h

  one_there : task_named next.tasks name ≡ Some (tasks.Repeated one)
  one_there = one_in_next m sound.shapes t u named below outer block name one all refl refl refl refl refl refl free next refl order old_order

  apart : (n : List ℕ) (v : Task) → task_named m.tasks n ≡ Some v → same name n ≡ false
  apart n v h = apart_from_new m sound.shapes t u named below outer block name one all refl refl refl refl refl refl free next refl order old_order n v h

  u_other : same u.name t.name ≡ false
  u_other = inner_other m sound.shapes t u named below outer block name one all refl refl refl refl refl refl free next refl order old_order

  -- the task of this name in the new model, by the name that it has
  in_new_own : (n : List ℕ) (v : Task) → task_named m.tasks n ≡ Some v → task_named next.tasks n ≡ Some (cond (same (task_name v) t.name) (tasks.Repeated all) v)
  in_new_own n v h = in_new n v h ∙ ap (λ x. Some (cond (same x t.name) (tasks.Repeated all) v)) (sym (own_name m.tasks n v h))

  node_apart : (node : Node) (v : Task) → node_task m node ≡ Some v → same (task_name v) name ≡ false
  node_apart node v h = other_name name (task_name v) (apart (task_name v) v (node_named m node v h))

  -- the task at a node, in the new model
  abbrev now : Task → Task
  now v = cond (same (task_name v) t.name) (tasks.Repeated all) v

  -- its name is the old one
  name_now : (v : Task) → task_name (now v) ≡ task_name v
  name_now v = go (same (task_name v) t.name) refl
    where
      go : (c : Bool) → same (task_name v) t.name ≡ c → task_name (cond c (tasks.Repeated all) v) ≡ task_name v
      go true e = sym (same-equal (task_name v) t.name e)
      go false e = refl

  now_other : (v : Task) → same (task_name v) t.name ≡ false → now v ≡ v
  now_other v e = ap (λ c. cond c (tasks.Repeated all) v) e

  now_named : (v : Task) → same (task_name v) t.name ≡ true → now v ≡ tasks.Repeated all
  now_named v e = ap (λ c. cond c (tasks.Repeated all) v) e

  -- ---- where the outer and the inner repetition stand

  at_is : (node : Node) (v : Task) → node_task m node ≡ Some v → is_at m t.name node ≡ same (task_name v) t.name
  at_is node v h = ap (λ o. is_named (option_map task_name o) t.name) h

  -- the body of the outer repetition has the inner one
  body_task : (node : Node) (v : Task) → node_task m node ≡ Some v → is_body_of m t.name node ≡ true → v ≡ tasks.Repeated u
  body_task [] v h e = cc
  body_task (ToPart k ∷ up) v h e = cc
  body_task (ToBody s ∷ up) v h e =
      let f = and_then_some (λ x. task_under m x (ToBody s)) (node_task m up) v h in
      let is = is_task m t named up f.0 f.1 (sym (at_is up f.0 f.1) ∙ e) in
      let both : Some v ≡ Some (tasks.Repeated u) = sym f.2 ∙ (ap (λ x. task_under m x (ToBody s)) is ∙ below) in
      cc

  no_body : (node : Node) (v : Task) → node_task m node ≡ Some v → ((r : Repeated) → v ≡ tasks.Repeated r → r ≡ u → ⊥) → is_body_of m t.name node ≡ false
  no_body node v h other = go (is_body_of m t.name node) refl
    where
      go : (b : Bool) → is_body_of m t.name node ≡ b → is_body_of m t.name node ≡ false
      go false e = e
      go true e = absurd (other u (body_task node v h e) refl)

  -- a task that is the outer repetition is not in its own body
  named_no_body : (node : Node) (v : Task) → node_task m node ≡ Some v → same (task_name v) t.name ≡ true → is_body_of m t.name node ≡ false
  named_no_body node v h e = go (is_body_of m t.name node) refl
    where
      go : (b : Bool) → is_body_of m t.name node ≡ b → is_body_of m t.name node ≡ false
      go false f = f
      go true f =
          let clash : true ≡ false = sym e ∙ (ap (λ x. same (task_name x) t.name) (body_task node v h f) ∙ u_other) in
          absurd (cc)

  -- ---- the outer repetition is not inside itself

  inner_among : (v : Task) (b : Branch) (w : Task) → task_under m v b ≡ Some w → IsAmong (inner_names v) (task_name w)
  inner_among (tasks.Elementary x) b w h = cc
  inner_among (tasks.Compound x) (ToBody s) w h = cc
  inner_among (tasks.Compound x) (ToPart k) w h =
      let f = and_then_some (λ (p : Part). task_named m.tasks p.task) (slice_get x.parts k) w h in
      subst (IsAmong (inner_names (tasks.Compound x))) (sym (own_name m.tasks f.0.task w f.2)) (map_among (λ (p : Part). p.task) x.parts f.0 (get_among x.parts k f.0 f.1))
  inner_among (tasks.Repeated r) (ToPart k) w h = cc
  inner_among (tasks.Repeated r) (ToBody s) w h = (0, (omega arith, own_name m.tasks r.task w h))

  -- what a task is made of has a smaller number
  smaller : (v : Task) (b : Branch) (w : Task) → task_named m.tasks (task_name v) ≡ Some v → task_under m v b ≡ Some w → (j k : ℕ) → number_named m.tasks (task_name w) ≡ Some j → number_named m.tasks (task_name v) ≡ Some k → j < k
  smaller v b w h leads j k low above =
      let f = found m.tasks (task_name v) k above in
      let both : Some f.task ≡ Some v = sym f.is ∙ h in
      let is : f.task ≡ v = cc in
      old_order k j v (task_name w) (f.at ∙ ap (λ x. Some x) is) (inner_among v b w leads) low

  below_number : (node : Node) (w : Task) (before : ℕ) → node_task m node ≡ Some w → entries_before m t.name node ≡ Some before → (j k : ℕ) → number_named m.tasks (task_name w) ≡ Some j → number_named m.tasks t.name ≡ Some k → j < k
  below_number [] w before h e j k low above = cc
  below_number (b ∷ up) w before h e j k low above =
      let f = and_then_some (λ v. task_under m v b) (node_task m up) w h in
      let own = node_named m up f.0 f.1 in
      go f.0 f.1 own (smaller f.0 b w own f.2) (same (task_name f.0) t.name) refl (below_number up f.0 before f.1)
    where
      go : (v : Task) → node_task m up ≡ Some v → task_named m.tasks (task_name v) ≡ Some v → ((j k : ℕ) → number_named m.tasks (task_name w) ≡ Some j → number_named m.tasks (task_name v) ≡ Some k → j < k)
          → (c : Bool) → same (task_name v) t.name ≡ c
          → (entries_before m t.name up ≡ Some before → (j k : ℕ) → number_named m.tasks (task_name v) ≡ Some j → number_named m.tasks t.name ≡ Some k → j < k) → j < k
      go v at own less true e' rec = less j k low (ap (number_named m.tasks) (same-equal (task_name v) t.name e') ∙ above)
      go v at own less false e' rec =
          let n = numbered_there m.tasks (task_name v) v own in
          omega (arith, less j n.0 low n.1, rec (sym (before_other m t.name b up v at e') ∙ e) n.0 k n.1 above)

  not_inside : (up : Node) (r : Repeated) → node_task m up ≡ Some (tasks.Repeated r) → same r.name t.name ≡ true → entries_before m t.name up ≡ None
  not_inside up r at e = go (entries_before m t.name up) refl
    where
      go : (o : Option ℕ) → entries_before m t.name up ≡ o → o ≡ None
      go None k = refl
      go (Some before) k =
          let n = numbered_there m.tasks t.name (tasks.Repeated t) named in
          let own : number_named m.tasks r.name ≡ Some n.0 = ap (number_named m.tasks) (same-equal r.name t.name e) ∙ n.1 in
          let less : n.0 < n.0 = below_number up (tasks.Repeated r) before at k n.0 n.0 own n.1 in
          absurd (omega (arith, less))

  -- ---- nodes

  abbrev From : Node → Option ℕ → Type 0
  From node before = NodeFrom t.space outer block (unpave (inner_name m t) t.space block) next node (moved node) before

  -- a node that is not the inner repetition stands in the new model with its task, and its instances come from the old ones
  record IsMoved (node : Node) (v : Task) : Type 0 where
    task : node_task next (moved node) ≡ Some (now v)
    spaces : HasSpaces next (moved node)
    from : From node (entries_before m t.name node)

  inside : (r p : List ℕ) → IsPointOf outer r → IsPointOf block p → IsPointOf t.space (unblocked t.space block r p)
  inside = whole t.space outer block entries rank

  -- the name of the task at an instance of a node
  name_there : (node : Node) (v : Task) (at : List ℕ) → HasSpaces next node → node_task next node ≡ Some v → IsPointOf (space_around node) at → name_at next (place_on node at) ≡ Some (task_name v)
  name_there node v at spaces h inside = ap (option_map task_name) (task_on next node spaces at inside ∙ h)

  top_moved : (v : Task) → node_task m [] ≡ Some v → IsMoved [] v
  top_moved v h = record { task = in_new_own m.main v h; spaces = tt; from = as_before refl (λ at inside. refl) }

  part_moved : (k : ℕ) (up : Node) (v w : Task) → node_task m up ≡ Some v → task_under m v (ToPart k) ≡ Some w → IsMoved up v → IsMoved (ToPart k ∷ up) w
  part_moved k up (tasks.Elementary x) w at leads mv = cc
  part_moved k up (tasks.Repeated r) w at leads mv = cc
  part_moved k up (tasks.Compound x) w at leads mv = go (same x.name t.name) refl
    where
      go : (c : Bool) → same x.name t.name ≡ c → IsMoved (ToPart k ∷ up) w
      go true e = let is = is_task m t named up (tasks.Compound x) at e in absurd (cc)
      go false e =
          let f = and_then_some (λ (p : Part). task_named m.tasks p.task) (slice_get x.parts k) w leads in
          let there : node_task next (moved up) ≡ Some (tasks.Compound x) = mv.task ∙ ap (λ y. Some y) (now_other (tasks.Compound x) e) in
          record {
            task = ap (option_and_then (λ y. task_under next y (ToPart k))) there ∙ (ap (option_and_then (λ (p : Part). task_named next.tasks p.task)) f.1 ∙ in_new_own f.0.task w f.2);
            spaces = mv.spaces;
            from = subst (From (ToPart k ∷ up)) (sym (before_other m t.name (ToPart k) up (tasks.Compound x) at e))
                (into_part t.space outer block inside back next up (moved up) (entries_before m t.name up) k (λ p. refl) mv.from);
          }

  body_moved : (s : List ℕ) (up : Node) (r : Repeated) (w : Task) → node_task m up ≡ Some (tasks.Repeated r) → s ≡ r.space → node_task m (ToBody s ∷ up) ≡ Some w → same r.name t.name ≡ false → is_body_of m t.name up ≡ false
      → IsMoved up (tasks.Repeated r) → IsMoved (ToBody s ∷ up) w
  body_moved s up r w at space_is h e aside mv =
      let leads : task_named m.tasks r.task ≡ Some w = sym (ap (option_and_then (λ y. task_under m y (ToBody s))) at) ∙ h in
      let there : node_task next (moved up) ≡ Some (tasks.Repeated r) = mv.task ∙ ap (λ y. Some y) (now_other (tasks.Repeated r) e) in
      let here : moved (ToBody s ∷ up) ≡ ToBody s ∷ moved up =
      ap (λ b. ToBody (cond b outer (cond (is_body_of m t.name up) (block ++ s) s)) ∷ moved up) (at_is up (tasks.Repeated r) at ∙ e) ∙ ap (λ b. ToBody (cond b (block ++ s) s) ∷ moved up) aside in
      let keeps : (x y : List ℕ) → IsPointOf (space_around (moved up)) x → IsPointOf s y
      → unpave name t.space block (name_at next (place_on (moved up) x)) (IntoRepetition y) (old_of (place_on (moved up) x)) ≡ IntoRepetition y ∷ old_of (place_on (moved up) x) =
      λ x y hx hy.
      unpave_else name t.space block (name_at next (place_on (moved up) x)) (IntoRepetition y) (old_of (place_on (moved up) x))
      (ap (λ z. is_named z name) (name_there (moved up) (tasks.Repeated r) x mv.spaces there hx) ∙ node_apart up (tasks.Repeated r) at) in
      record {
        task = ap (node_task next) here ∙ (ap (option_and_then (λ y. task_under next y (ToBody s))) there ∙ in_new_own r.task w leads);
        spaces = subst (HasSpaces next) (sym here) ((r, there, space_is), mv.spaces);
        from = subst (λ n. NodeFrom t.space outer block back next (ToBody s ∷ up) n (entries_before m t.name (ToBody s ∷ up))) (sym here)
            (subst (NodeFrom t.space outer block back next (ToBody s ∷ up) (ToBody s ∷ moved up)) (sym (before_other m t.name (ToBody s) up (tasks.Repeated r) at e))
            (into_body t.space outer block inside back next up (moved up) (entries_before m t.name up) s keeps mv.from));
      }

  -- the body of the inner repetition, two steps below the outer one
  inner_moved : (s s' : List ℕ) (up : Node) (w : Task) → node_task m up ≡ Some (tasks.Repeated t) → s' ≡ t.space → s ≡ u.space → node_task m (ToBody s ∷ ToBody s' ∷ up) ≡ Some w → IsMoved up (tasks.Repeated t)
      → IsMoved (ToBody s ∷ ToBody s' ∷ up) w
  inner_moved s s' up w at outer_is inner_is h mv = record {
    task = ap (node_task next) here ∙ (ap (option_and_then (λ y. task_under next y (ToBody (block ++ s)))) one_at ∙ in_new_own u.task w leads);
    spaces = subst (HasSpaces next) (sym here) ((one, one_at, ap (λ z. block ++ z) inner_is), ((all, there, refl), mv.spaces));
    from = subst (λ n. NodeFrom t.space outer block back next (ToBody s ∷ ToBody s' ∷ up) n (entries_before m t.name (ToBody s ∷ ToBody s' ∷ up))) (sym here)
        (subst (NodeFrom t.space outer block back next (ToBody s ∷ ToBody s' ∷ up) (ToBody (block ++ s) ∷ ToBody outer ∷ moved up)) (sym entries_is) (both_from (subst (From up) (not_inside up t at (same-self t.name)) mv.from)));
  }
    where
      middle : node_task m (ToBody s' ∷ up) ≡ Some (tasks.Repeated u)
      middle = ap (option_and_then (λ y. task_under m y (ToBody s'))) at ∙ below

      leads : task_named m.tasks u.task ≡ Some w
      leads = sym (ap (option_and_then (λ y. task_under m y (ToBody s))) middle) ∙ h

      there : node_task next (moved up) ≡ Some (tasks.Repeated all)
      there = mv.task ∙ ap (λ y. Some y) (now_named (tasks.Repeated t) (same-self t.name))

      one_at : node_task next (ToBody outer ∷ moved up) ≡ Some (tasks.Repeated one)
      one_at = ap (option_and_then (λ y. task_under next y (ToBody outer))) there ∙ one_there

      outer_at : is_at m t.name up ≡ true
      outer_at = at_is up (tasks.Repeated t) at ∙ same-self t.name

      outer_here : moved (ToBody s' ∷ up) ≡ ToBody outer ∷ moved up
      outer_here = ap (λ b. ToBody (cond b outer (cond (is_body_of m t.name up) (block ++ s') s')) ∷ moved up) outer_at

      here : moved (ToBody s ∷ ToBody s' ∷ up) ≡ ToBody (block ++ s) ∷ ToBody outer ∷ moved up
      here =
          ap (λ b. ToBody (cond b outer (cond (is_body_of m t.name (ToBody s' ∷ up)) (block ++ s) s)) ∷ moved (ToBody s' ∷ up)) (at_is (ToBody s' ∷ up) (tasks.Repeated u) middle ∙ u_other)
          ∙ (ap (λ b. ToBody (cond b (block ++ s) s) ∷ moved (ToBody s' ∷ up)) outer_at ∙ ap (λ z. ToBody (block ++ s) ∷ z) outer_here)

      entries_is : entries_before m t.name (ToBody s ∷ ToBody s' ∷ up) ≡ Some (length (space_around up))
      entries_is = before_other m t.name (ToBody s) (ToBody s' ∷ up) (tasks.Repeated u) middle u_other ∙ before_named m t.name (ToBody s') up (tasks.Repeated t) at (same-self t.name)

      both_from : From up None → NodeFrom t.space outer block back next (ToBody s ∷ ToBody s' ∷ up) (ToBody (block ++ s) ∷ ToBody outer ∷ moved up) (Some (length (space_around up)))
      both_from (as_before around same_places) =
          in_blocks (space_around up) s refl (append_assoc (space_around up) s' s ∙ ap (λ z. space_around up ++ (z ++ s)) outer_is)
          (append_assoc (space_around (moved up)) outer (block ++ s) ∙ ap (λ z. z ++ (outer ++ (block ++ s))) around) places
        where
          places : (a o b c : List ℕ) → IsPointOf (space_around up) a → IsPointOf outer o → IsPointOf block b → IsPointOf s c
              → old_of (place_on (ToBody (block ++ s) ∷ ToBody outer ∷ moved up) (a ++ (o ++ (b ++ c)))) ≡ place_on (ToBody s ∷ ToBody s' ∷ up) (a ++ (unblocked t.space block o b ++ c))
          places a o b c ha ho hb hc =
              let x : List ℕ = unblocked t.space block o b in
              let x_is : IsPointOf s' x = subst (λ z. IsPointOf z x) (sym outer_is) (inside o b ho hb) in
              let new_a : IsPointOf (space_around (moved up)) a = subst (λ z. IsPointOf z a) (sym around) ha in
              let both : IsPointOf (space_around (moved up) ++ outer) (a ++ o) = point_both (space_around (moved up)) outer a o new_a ho in
              let outer_spaces : HasSpaces next (ToBody outer ∷ moved up) = ((all, there, refl), mv.spaces) in
              let above : is_named (name_at next (place_on (ToBody outer ∷ moved up) (a ++ o))) name ≡ true =
              ap (λ z. is_named z name) (name_there (ToBody outer ∷ moved up) (tasks.Repeated one) (a ++ o) outer_spaces one_at both) ∙ same-self name in
              let outer_above : is_named (name_at next (place_on (moved up) a)) name ≡ false =
              ap (λ z. is_named z name) (name_there (moved up) (tasks.Repeated all) a mv.spaces there new_a) ∙ node_apart up (tasks.Repeated t) at in
              let over : old_of (place_on (ToBody outer ∷ moved up) (a ++ o)) ≡ IntoRepetition o ∷ place_on up a =
              ap old_of (place_in_body outer (moved up) a o ho)
              ∙ (unpave_else name t.space block (name_at next (place_on (moved up) a)) (IntoRepetition o) (old_of (place_on (moved up) a)) outer_above ∙ ap (λ p. IntoRepetition o ∷ p) (same_places a ha)) in
              ap (λ z. old_of (place_on (ToBody (block ++ s) ∷ ToBody outer ∷ moved up) z)) (sym (append_assoc a o (b ++ c)))
              ∙ (ap old_of (place_in_body (block ++ s) (ToBody outer ∷ moved up) (a ++ o) (b ++ c) (point_both block s b c hb hc))
              ∙ (ap (unpave name t.space block (name_at next (place_on (ToBody outer ∷ moved up) (a ++ o))) (IntoRepetition (b ++ c))) over
              ∙ (unpave_both name t.space block (name_at next (place_on (ToBody outer ∷ moved up) (a ++ o))) b c o (place_on up a) (point_length block b hb) above
              ∙ (ap (λ p. IntoRepetition c ∷ p) (sym (place_in_body s' up a x x_is))
              ∙ (sym (place_in_body s (ToBody s' ∷ up) (a ++ x) c hc) ∙ ap (place_on (ToBody s ∷ ToBody s' ∷ up)) (append_assoc a x c))))))

  -- a body below a body
  twice_moved : (s s' : List ℕ) (up : Node) (r r' : Repeated) (w : Task) → node_task m (ToBody s' ∷ up) ≡ Some (tasks.Repeated r) → s ≡ r.space → node_task m up ≡ Some (tasks.Repeated r') → s' ≡ r'.space
      → node_task m (ToBody s ∷ ToBody s' ∷ up) ≡ Some w → is_body_of m t.name (ToBody s ∷ ToBody s' ∷ up) ≡ false → (is_body_of m t.name (ToBody s' ∷ up) ≡ false → IsMoved (ToBody s' ∷ up) (tasks.Repeated r))
      → (is_body_of m t.name up ≡ false → IsMoved up (tasks.Repeated r')) → IsMoved (ToBody s ∷ ToBody s' ∷ up) w
  twice_moved s s' up r r' w at inner_is at' outer_is h aside rec rec' = go (same r'.name t.name) refl
    where
      go : (c : Bool) → same r'.name t.name ≡ c → IsMoved (ToBody s ∷ ToBody s' ∷ up) w
      go false e =
          let plain : is_body_of m t.name (ToBody s' ∷ up) ≡ false = at_is up (tasks.Repeated r') at' ∙ e in
          body_moved s (ToBody s' ∷ up) r w at inner_is h (sym (at_is (ToBody s' ∷ up) (tasks.Repeated r) at) ∙ aside) plain (rec plain)
      go true e =
          let is = is_task m t named up (tasks.Repeated r') at' e in
          let same_outer : r' ≡ t = cc in
          let at_t : node_task m up ≡ Some (tasks.Repeated t) = at' ∙ ap (λ x. Some x) is in
          let in_body : is_body_of m t.name (ToBody s' ∷ up) ≡ true = at_is up (tasks.Repeated r') at' ∙ e in
          let inner = body_task (ToBody s' ∷ up) (tasks.Repeated r) at in_body in
          let same_inner : r ≡ u = cc in
          inner_moved s s' up w at_t (outer_is ∙ ap (λ (x : Repeated). x.space) same_outer) (inner_is ∙ ap (λ (x : Repeated). x.space) same_inner) h
          (subst (IsMoved up) is (rec' (named_no_body up (tasks.Repeated r') at' e)))

  node_moved : (node : Node) (v : Task) → node_task m node ≡ Some v → HasSpaces m node → is_body_of m t.name node ≡ false → IsMoved node v
  node_moved [] v h spaces aside = top_moved v h
  node_moved (ToPart k ∷ up) v h spaces aside =
      let f = and_then_some (λ x. task_under m x (ToPart k)) (node_task m up) v h in
      let plain : is_body_of m t.name up ≡ false = no_body up f.0 f.1 (λ r e is. let clash : None ≡ Some v = sym (ap (λ x. task_under m x (ToPart k)) e) ∙ f.2 in absurd (cc)) in
      part_moved k up f.0 v f.1 f.2 (node_moved up f.0 f.1 spaces plain)
  node_moved (ToBody s ∷ []) v h spaces aside =
      body_moved s [] spaces.0.0 v spaces.0.1 spaces.0.2 h (sym (at_is [] (tasks.Repeated spaces.0.0) spaces.0.1) ∙ aside) refl (top_moved (tasks.Repeated spaces.0.0) spaces.0.1)
  node_moved (ToBody s ∷ ToPart k ∷ up) v h spaces aside =
      body_moved s (ToPart k ∷ up) spaces.0.0 v spaces.0.1 spaces.0.2 h (sym (at_is (ToPart k ∷ up) (tasks.Repeated spaces.0.0) spaces.0.1) ∙ aside) refl
      (node_moved (ToPart k ∷ up) (tasks.Repeated spaces.0.0) spaces.0.1 spaces.1 refl)
  node_moved (ToBody s ∷ ToBody s' ∷ up) v h spaces aside =
      twice_moved s s' up spaces.0.0 spaces.1.0.0 v spaces.0.1 spaces.0.2 spaces.1.0.1 spaces.1.0.2 h aside (λ plain. node_moved (ToBody s' ∷ up) (tasks.Repeated spaces.0.0) spaces.0.1 spaces.1 plain)
      (λ plain. node_moved up (tasks.Repeated spaces.1.0.0) spaces.1.0.1 spaces.1.1 plain)

  -- ---- the map

  -- what is known of the node of a leaf
  leaf_moved : (l : Leaf) → IsAmong (leaves m) l → (v : Task) × (node_task m l.node ≡ Some v) × IsMoved l.node v
  leaf_moved l a =
      let k = leaf_below m (length m.tasks) (main_task m) [] refl l a in
      let form : LeafForm m l = listed_form m l a in
      let plain : is_body_of m t.name l.node ≡ false = no_body l.node k.task k.at (λ r e is. let clash : true ≡ false = sym (ap is_repeated e) ∙ k.plain in absurd (cc)) in
      (k.task, k.at, node_moved l.node k.task k.at form.spaces plain)

  all_come : (l : Leaf) → IsAmong (leaves m) l → ComesFrom t.space outer block (pave_origin m t block next) l (new_leaf m t.name outer block l) (entries_before m t.name l.node)
  all_come l a =
      let k = leaf_moved l a in
      leaf_from t.space outer block inside back next m l (new_leaf m t.name outer block l) (entries_before m t.name l.node) k.2.from (listed_form m l a) refl refl

  pub paved_map : IsMapOf m next (pave_origin m t block next) (old_numbers m t outer block)
  paved_map = map_of m t outer block entries rank (pave_origin m t block next) (new_leaf m t.name outer block) next (paved_leaves m t u outer block sound next_sound named below) all_come

  pub paved_alike : KeepsTasks m next → AreAlike m next (old_numbers m t outer block)
  paved_alike keeps =
      alike m next (pave_origin m t block next) (new_leaf m t.name outer block) (old_numbers m t outer block) keeps (paved_leaves m t u outer block sound next_sound named below) paved_map
      (λ l a.
      let k = leaf_moved l a in
      let new_among : IsAmong (leaves next) (new_leaf m t.name outer block l) =
      subst (λ ls. IsAmong ls (new_leaf m t.name outer block l)) (sym (paved_leaves m t u outer block sound next_sound named below)) (map_among (new_leaf m t.name outer block) (leaves m) l a) in
      let names : option_map task_name (node_task next (moved l.node)) ≡ option_map task_name (node_task m l.node) =
      ap (option_map task_name) k.2.task ∙ (ap (λ n. Some n) (name_now k.0) ∙ sym (ap (option_map task_name) k.1)) in
      kind_kept m next t.space outer block entries rank (pave_origin m t block next) l (new_leaf m t.name outer block l) (entries_before m t.name l.node) (all_come l a)
      (listed_form m l a) (listed_form next (new_leaf m t.name outer block l) new_among) refl names)
