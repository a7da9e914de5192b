-- Where the instances of the tiled model come from.
use Rattle.std.proofs.Common.{◌≡◌, ℕ, zero, suc, ◌+◌, ◌<◌, ◌^◌, Bool, true, false, cond, List, [], ◌∷◌, ◌++◌, length, map, Option, Some, None, is_some, option_map, option_and_then, slice_get, sym, ◌∙◌, ap, refl, arith, subst, append_assoc}
use Rattle.std.specs.List.{IsAmong, AllByRecursion}
use Rattle.std.proofs.lemmas.List.{append-nil}
use Rattle.aol_shape.specs.Lists.{same}
use Rattle.aol_shape.specs.Shape.{IsPointOf, IsEntry}
use Rattle.aol_model_types.specs.declared.document.Model.{Model}
use Rattle.aol_model_types.specs.declared.task.Part.{Part}
use Rattle.aol_model_types.specs.declared.task.Repeated.{Repeated}
use Rattle.aol_model_types.specs.declared.task.Task.{Task}
use Rattle.aol_model_types.specs.declared.task.Task.TheVariants as tasks
use Rattle.aol_model_types.specs.Rules.{task_name, task_named}
use Rattle.aol_flat.specs.Accept.{IsSound}
use Rattle.aol_flat.specs.Instance.{Leaf, leaves, Instance, instance_on}
use Rattle.aol_flat.specs.Keep.{runs_task, AreAlike}
use Rattle.aol_flat.specs.Node.{Branch, ToPart, ToBody, Node, space_around, place_on, node_task, task_under}
use Rattle.aol_flat.specs.Numbered.{number_named, inner_names, StandOnEarlier}
use Rattle.aol_flat.specs.Place.{Down, Place, IntoPart, IntoRepetition, task_at}
use Rattle.aol_flat.proofs.Among.{map_among, get_among}
use Rattle.aol_flat.proofs.Find.{and_then_some}
use Rattle.aol_flat.proofs.Inside.{point_both, place_in_body}
use Rattle.aol_flat.proofs.LeafForm.{LeafForm}
use Rattle.aol_flat.proofs.Names.{same-self, same-equal}
use Rattle.aol_flat.proofs.NodeTasks.{HasSpaces, task_on}
use Rattle.aol_flat.proofs.Order.{stand_on_earlier}
use Rattle.aol_flat.proofs.TaskNumbers.{found}
use Rattle.aol_change.specs.Blocks.{block_task, block_name, untile}
use Rattle.aol_change.specs.Change.{old_place, name_at, is_named, unblocked, IsMapOf, KeepsTasks}
use Rattle.aol_change.specs.Unblocked.{entries_before, old_numbers}
use Rattle.aol_change.specs.UnblockedParts.{HaveRank}
use Rattle.aol_change.proofs.Below.{own_name, node_named, leaf_task, listed_form, before_named, before_other, is_task}
use Rattle.aol_change.proofs.ComesFrom.{ComesFrom, whole, map_of}
use Rattle.aol_change.proofs.NodeFrom.{NodeFrom, as_before, in_blocks, into_part, into_body, leaf_from, kind_kept, alike}
use Rattle.aol_tiling.specs.Leaves.{new_node, new_leaf}
use Rattle.aol_tiling.specs.Tile.{tiled_model, blocks_task, tile_origin}
use Rattle.aol_tiling.proofs.NewLeaves.{free_new, in_next, one_in_next, apart_from_new, numbered_there, tiled_leaves}

-- ---- one step back

other_name : (a b : List ℕ) → same a b ≡ false → same b a ≡ false
other_name a b h = go (same b a) refl
  where
    go : (c : Bool) → same b a ≡ c → same b a ≡ false
    go false e = e
    go true e =
        let equal : b ≡ a = same-equal b a e in
        let clash : true ≡ false = sym (same-self a) ∙ (ap (same a) (sym equal) ∙ h) in
        absurd (cc)

-- a step from another task stays
untile_else : (name space block : List ℕ) (above : Option (List ℕ)) (d : Down) (up : Place) → is_named above name ≡ false → untile name space block above d up ≡ d ∷ up
untile_else name space block above (IntoPart k) up h = refl
untile_else name space block above (IntoRepetition i) [] h = refl
untile_else name space block above (IntoRepetition i) (IntoPart k ∷ up) h = refl
untile_else name space block above (IntoRepetition i) (IntoRepetition r ∷ up) h = ap (λ b. cond b (IntoRepetition (unblocked space block r i) ∷ up) (IntoRepetition i ∷ IntoRepetition r ∷ up)) h

-- the two steps to a block and to a repetition in it become one
untile_both : (name space block : List ℕ) (above : Option (List ℕ)) (i r : List ℕ) (up : Place) → is_named above name ≡ true
    → untile name space block above (IntoRepetition i) (IntoRepetition r ∷ up) ≡ IntoRepetition (unblocked space block r i) ∷ up
untile_both name space block above i r up h = ap (λ b. cond b (IntoRepetition (unblocked space block r i) ∷ up) (IntoRepetition i ∷ IntoRepetition r ∷ up)) h

module _ (m : Model) (t : Repeated) (outer block : List ℕ) (sound : IsSound m) (next_sound : IsSound (tiled_model m t outer block)) (named : task_named m.tasks t.name ≡ Some (tasks.Repeated t))
    (entries : AllByRecursion IsEntry t.space) (rank : HaveRank t.space outer block) where
  abbrev next : Model
  next = tiled_model m t outer block

  abbrev name : List ℕ
  name = block_name m t

  abbrev one : Repeated
  one = block_task m t block (block_name m t)

  abbrev all : Repeated
  all = blocks_task t outer block (block_name m t)

  abbrev moved : Node → Node
  moved = new_node m t.name outer block

  abbrev old_of : Place → Place
  old_of = old_place (untile (block_name m t) t.space block) next

  order : StandOnEarlier next.tasks
  order = stand_on_earlier next next_sound.shapes

  old_order : StandOnEarlier m.tasks
  old_order = stand_on_earlier m sound.shapes

  free : is_some (task_named m.tasks name) ≡ false
  free = free_new m t sound

  -- ---- tasks

  in_new : (n : List ℕ) (u : Task) → task_named m.tasks n ≡ Some u → task_named next.tasks n ≡ Some (cond (same n t.name) (tasks.Repeated all) u)
  in_new n u h = in_next m sound.shapes t named outer block name one all refl refl refl refl refl refl free next refl order old_order n u h

  one_there : task_named next.tasks name ≡ Some (tasks.Repeated one)
  one_there = one_in_next m sound.shapes t named outer block name one all refl refl refl refl refl refl free next refl order old_order

  apart : (n : List ℕ) (u : Task) → task_named m.tasks n ≡ Some u → same name n ≡ false
  apart n u h = apart_from_new m sound.shapes t named outer block name one all refl refl refl refl refl refl free next refl order old_order n u h

  -- the task of this name in the new model, by the name that it has
  in_new_own : (n : List ℕ) (u : Task) → task_named m.tasks n ≡ Some u → task_named next.tasks n ≡ Some (cond (same (task_name u) t.name) (tasks.Repeated all) u)
  in_new_own n u h = in_new n u h ∙ ap (λ x. Some (cond (same x t.name) (tasks.Repeated all) u)) (sym (own_name m.tasks n u h))

  node_apart : (node : Node) (u : Task) → node_task m node ≡ Some u → same (task_name u) name ≡ false
  node_apart node u h = other_name name (task_name u) (apart (task_name u) u (node_named m node u h))

  moved_named : (s : List ℕ) (up : Node) (v : Task) → node_task m up ≡ Some v → same (task_name v) t.name ≡ true → moved (ToBody s ∷ up) ≡ ToBody block ∷ ToBody outer ∷ moved up
  moved_named s up v at e =
      ap (λ o. cond (is_named (option_map task_name o) t.name) (ToBody block ∷ ToBody outer ∷ moved up) (ToBody s ∷ moved up)) at
      ∙ ap (λ b. cond b (ToBody block ∷ ToBody outer ∷ moved up) (ToBody s ∷ moved up)) e

  moved_other : (s : List ℕ) (up : Node) (v : Task) → node_task m up ≡ Some v → same (task_name v) t.name ≡ false → moved (ToBody s ∷ up) ≡ ToBody s ∷ moved up
  moved_other s up v at e =
      ap (λ o. cond (is_named (option_map task_name o) t.name) (ToBody block ∷ ToBody outer ∷ moved up) (ToBody s ∷ moved up)) at
      ∙ ap (λ b. cond b (ToBody block ∷ ToBody outer ∷ moved up) (ToBody s ∷ moved up)) e

  -- the task at a node, in the new model
  abbrev now : Task → Task
  now u = cond (same (task_name u) t.name) (tasks.Repeated all) u

  -- below the task of blocks stands that of one block
  block_node : (up : Node) → node_task next (moved up) ≡ Some (tasks.Repeated all) → node_task next (ToBody outer ∷ moved up) ≡ Some (tasks.Repeated one)
  block_node up h = ap (option_and_then (λ v. task_under next v (ToBody outer))) h ∙ one_there

  node_step : (b : Branch) (up : Node) (v u : Task) → node_task m up ≡ Some v → task_under m v b ≡ Some u → (c : Bool) → same (task_name v) t.name ≡ c → node_task next (moved up) ≡ Some (cond c (tasks.Repeated all) v)
      → node_task next (moved (b ∷ up)) ≡ Some (now u)
  node_step (ToPart k) up (tasks.Elementary x) u at leads c e rec = cc
  node_step (ToPart k) up (tasks.Repeated r) u at leads c e rec = cc
  node_step (ToPart k) up (tasks.Compound x) u at leads true e rec = let is = is_task m t named up (tasks.Compound x) at e in cc
  node_step (ToPart k) up (tasks.Compound x) u at leads false e rec =
      let f = and_then_some (λ (p : Part). task_named m.tasks p.task) (slice_get x.parts k) u leads in
      ap (option_and_then (λ v. task_under next v (ToPart k))) rec
      ∙ (ap (option_and_then (λ (p : Part). task_named next.tasks p.task)) f.1 ∙ in_new_own f.0.task u f.2)
  node_step (ToBody s) up (tasks.Elementary x) u at leads c e rec = cc
  node_step (ToBody s) up (tasks.Compound x) u at leads c e rec = cc
  node_step (ToBody s) up (tasks.Repeated r) u at leads true e rec =
      let is = is_task m t named up (tasks.Repeated r) at e in
      let same_task : r ≡ t = cc in
      ap (node_task next) (moved_named s up (tasks.Repeated r) at e)
      ∙ (ap (option_and_then (λ v. task_under next v (ToBody block))) (block_node up rec)
      ∙ in_new_own t.task u (ap (λ (x : Repeated). task_named m.tasks x.task) (sym same_task) ∙ leads))
  node_step (ToBody s) up (tasks.Repeated r) u at leads false e rec =
      ap (node_task next) (moved_other s up (tasks.Repeated r) at e)
      ∙ (ap (option_and_then (λ v. task_under next v (ToBody s))) rec ∙ in_new_own r.task u leads)

  node_now : (node : Node) (u : Task) → node_task m node ≡ Some u → node_task next (moved node) ≡ Some (now u)
  node_now [] u h = in_new_own m.main u h
  node_now (b ∷ up) u h =
      let f = and_then_some (λ v. task_under m v b) (node_task m up) u h in
      node_step b up f.0 u f.1 f.2 (same (task_name f.0) t.name) refl (node_now up f.0 f.1)

  -- its name is the old one
  name_now : (u : Task) → task_name (now u) ≡ task_name u
  name_now u = go (same (task_name u) t.name) refl
    where
      go : (c : Bool) → same (task_name u) t.name ≡ c → task_name (cond c (tasks.Repeated all) u) ≡ task_name u
      go true e = sym (same-equal (task_name u) t.name e)
      go false e = refl

  now_other : (u : Task) → same (task_name u) t.name ≡ false → now u ≡ u
  now_other u e = ap (λ c. cond c (tasks.Repeated all) u) e

  now_named : (u : Task) → same (task_name u) t.name ≡ true → now u ≡ tasks.Repeated all
  now_named u e = ap (λ c. cond c (tasks.Repeated all) u) e

  -- ---- spaces

  spaces_now : (node : Node) (u : Task) → node_task m node ≡ Some u → HasSpaces m node → HasSpaces next (moved node)
  spaces_now [] u h spaces = tt
  spaces_now (ToPart k ∷ up) u h spaces =
      let f = and_then_some (λ v. task_under m v (ToPart k)) (node_task m up) u h in
      spaces_now up f.0 f.1 spaces
  spaces_now (ToBody s ∷ up) u h spaces = by_name (same r.name t.name) refl (spaces_now up (tasks.Repeated r) spaces.0.1 spaces.1)
    where
      r : Repeated
      r = spaces.0.0

      by_name : (c : Bool) → same r.name t.name ≡ c → HasSpaces next (moved up) → HasSpaces next (moved (ToBody s ∷ up))
      by_name false e rec =
          let there : node_task next (moved up) ≡ Some (tasks.Repeated r) = node_now up (tasks.Repeated r) spaces.0.1 ∙ ap (λ x. Some x) (now_other (tasks.Repeated r) e) in
          subst (HasSpaces next) (sym (moved_other s up (tasks.Repeated r) spaces.0.1 e)) ((r, there, spaces.0.2), rec)
      by_name true e rec =
          let there : node_task next (moved up) ≡ Some (tasks.Repeated all) = node_now up (tasks.Repeated r) spaces.0.1 ∙ ap (λ x. Some x) (now_named (tasks.Repeated r) e) in
          subst (HasSpaces next) (sym (moved_named s up (tasks.Repeated r) spaces.0.1 e)) ((one, block_node up there, refl), ((all, there, refl), rec))

  -- ---- the task is not inside itself

  inner_among : (v : Task) (b : Branch) (u : Task) → task_under m v b ≡ Some u → IsAmong (inner_names v) (task_name u)
  inner_among (tasks.Elementary x) b u h = cc
  inner_among (tasks.Compound x) (ToBody s) u h = cc
  inner_among (tasks.Compound x) (ToPart k) u h =
      let f = and_then_some (λ (p : Part). task_named m.tasks p.task) (slice_get x.parts k) u h in
      subst (IsAmong (inner_names (tasks.Compound x))) (sym (own_name m.tasks f.0.task u f.2)) (map_among (λ (p : Part). p.task) x.parts f.0 (get_among x.parts k f.0 f.1))
  inner_among (tasks.Repeated r) (ToPart k) u h = cc
  inner_among (tasks.Repeated r) (ToBody s) u h = (0, (omega arith, own_name m.tasks r.task u h))

  -- what a task is made of has a smaller number
  smaller : (v : Task) (b : Branch) (u : Task) → task_named m.tasks (task_name v) ≡ Some v → task_under m v b ≡ Some u → (j k : ℕ) → number_named m.tasks (task_name u) ≡ Some j → number_named m.tasks (task_name v) ≡ Some k → j < k
  smaller v b u h leads j k below above =
      let f = found m.tasks (task_name v) k above in
      let both : Some f.task ≡ Some v = sym f.is ∙ h in
      let is : f.task ≡ v = cc in
      old_order k j v (task_name u) (f.at ∙ ap (λ x. Some x) is) (inner_among v b u leads) below

  below_number : (node : Node) (u : Task) (before : ℕ) → node_task m node ≡ Some u → entries_before m t.name node ≡ Some before → (j k : ℕ) → number_named m.tasks (task_name u) ≡ Some j → number_named m.tasks t.name ≡ Some k → j < k
  below_number [] u before h e j k below above = cc
  below_number (b ∷ up) u before h e j k below above =
      let f = and_then_some (λ v. task_under m v b) (node_task m up) u h in
      let own = node_named m up f.0 f.1 in
      go f.0 f.1 own (smaller f.0 b u own f.2) (same (task_name f.0) t.name) refl (below_number up f.0 before f.1)
    where
      go : (v : Task) → node_task m up ≡ Some v → task_named m.tasks (task_name v) ≡ Some v → ((j k : ℕ) → number_named m.tasks (task_name u) ≡ Some j → number_named m.tasks (task_name v) ≡ Some k → j < k)
          → (c : Bool) → same (task_name v) t.name ≡ c
          → (entries_before m t.name up ≡ Some before → (j k : ℕ) → number_named m.tasks (task_name v) ≡ Some j → number_named m.tasks t.name ≡ Some k → j < k) → j < k
      go v at own less true e' rec = less j k below (ap (number_named m.tasks) (same-equal (task_name v) t.name e') ∙ above)
      go v at own less false e' rec =
          let n = numbered_there m.tasks (task_name v) v own in
          omega (arith, less j n.0 below n.1, rec (sym (before_other m t.name b up v at e') ∙ e) n.0 k n.1 above)

  not_inside : (up : Node) (r : Repeated) → node_task m up ≡ Some (tasks.Repeated r) → same r.name t.name ≡ true → entries_before m t.name up ≡ None
  not_inside up r at e = go (entries_before m t.name up) refl
    where
      go : (o : Option ℕ) → entries_before m t.name up ≡ o → o ≡ None
      go None k = refl
      go (Some before) k =
          let n = numbered_there m.tasks t.name (tasks.Repeated t) named in
          let own : number_named m.tasks r.name ≡ Some n.0 = ap (number_named m.tasks) (same-equal r.name t.name e) ∙ n.1 in
          let less : n.0 < n.0 = below_number up (tasks.Repeated r) before at k n.0 n.0 own n.1 in
          absurd (omega (arith, less))

  -- ---- the instances of nodes

  abbrev From : Node → Option ℕ → Type 0
  From node before = NodeFrom t.space outer block (untile (block_name m t) t.space block) next node (moved node) before

  inside : (r p : List ℕ) → IsPointOf outer r → IsPointOf block p → IsPointOf t.space (unblocked t.space block r p)
  inside = whole t.space outer block entries rank

  -- the name of the task at an instance of a node
  name_there : (node : Node) (v : Task) (at : List ℕ) → HasSpaces next node → node_task next node ≡ Some v → IsPointOf (space_around node) at → name_at next (place_on node at) ≡ Some (task_name v)
  name_there node v at spaces h inside = ap (option_map task_name) (task_on next node spaces at inside ∙ h)

  body_named : (s : List ℕ) (up : Node) (r : Repeated) → s ≡ t.space → HasSpaces m up → HasSpaces next (moved up) → node_task m up ≡ Some (tasks.Repeated r) → same r.name t.name ≡ true → From up None
      → From (ToBody s ∷ up) (Some (length (space_around up)))
  body_named s up r space_is spaces new_spaces at e (as_before around h) =
      subst (λ n. NodeFrom t.space outer block (untile (block_name m t) t.space block) next (ToBody s ∷ up) n (Some (length (space_around up)))) (sym (moved_named s up (tasks.Repeated r) at e))
      (in_blocks (space_around up) [] refl (ap (λ z. space_around up ++ z) (space_is ∙ sym (append-nil t.space)))
      (append_assoc (space_around (moved up)) outer block ∙ (ap (λ z. z ++ (outer ++ block)) around ∙ ap (λ z. space_around up ++ (outer ++ z)) (sym (append-nil block))))
      places)
    where
      there : node_task next (moved up) ≡ Some (tasks.Repeated all)
      there = node_now up (tasks.Repeated r) at ∙ ap (λ x. Some x) (now_named (tasks.Repeated r) e)

      places : (a o b c : List ℕ) → IsPointOf (space_around up) a → IsPointOf outer o → IsPointOf block b → IsPointOf [] c
          → old_of (place_on (ToBody block ∷ ToBody outer ∷ moved up) (a ++ (o ++ (b ++ c)))) ≡ place_on (ToBody s ∷ up) (a ++ (unblocked t.space block o b ++ c))
      places a o b [] ha ho hb hc =
          let u : List ℕ = unblocked t.space block o b in
          let u_is : IsPointOf s u = subst (λ z. IsPointOf z u) (sym space_is) (inside o b ho hb) in
          let new_a : IsPointOf (space_around (moved up)) a = subst (λ z. IsPointOf z a) (sym around) ha in
          let both : IsPointOf (space_around (moved up) ++ outer) (a ++ o) = point_both (space_around (moved up)) outer a o new_a ho in
          let block_spaces : HasSpaces next (ToBody outer ∷ moved up) = ((all, there, refl), new_spaces) in
          let above : is_named (name_at next (place_on (ToBody outer ∷ moved up) (a ++ o))) name ≡ true =
          ap (λ x. is_named x name) (name_there (ToBody outer ∷ moved up) (tasks.Repeated one) (a ++ o) block_spaces (block_node up there) both) ∙ same-self name in
          let outer_above : is_named (name_at next (place_on (moved up) a)) name ≡ false =
          ap (λ x. is_named x name) (name_there (moved up) (tasks.Repeated all) a new_spaces there new_a) ∙ (ap (λ x. same x name) (sym (same-equal r.name t.name e)) ∙ node_apart up (tasks.Repeated r) at) in
          let over : old_of (place_on (ToBody outer ∷ moved up) (a ++ o)) ≡ IntoRepetition o ∷ place_on up a =
          ap old_of (place_in_body outer (moved up) a o ho)
          ∙ (untile_else name t.space block (name_at next (place_on (moved up) a)) (IntoRepetition o) (old_of (place_on (moved up) a)) outer_above ∙ ap (λ p. IntoRepetition o ∷ p) (h a ha)) in
          ap (λ z. old_of (place_on (ToBody block ∷ ToBody outer ∷ moved up) (a ++ (o ++ z)))) (append-nil b)
          ∙ (ap (λ z. old_of (place_on (ToBody block ∷ ToBody outer ∷ moved up) z)) (sym (append_assoc a o b))
          ∙ (ap old_of (place_in_body block (ToBody outer ∷ moved up) (a ++ o) b hb)
          ∙ (ap (untile name t.space block (name_at next (place_on (ToBody outer ∷ moved up) (a ++ o))) (IntoRepetition b)) over
          ∙ (untile_both name t.space block (name_at next (place_on (ToBody outer ∷ moved up) (a ++ o))) b o (place_on up a) above
          ∙ (sym (place_in_body s up a u u_is) ∙ ap (λ z. place_on (ToBody s ∷ up) (a ++ z)) (sym (append-nil u)))))))
      places a o b (i ∷ c) ha ho hb hc = absurd hc

  from_node : (node : Node) (u : Task) → node_task m node ≡ Some u → HasSpaces m node → From node (entries_before m t.name node)
  from_node [] u h spaces = as_before refl (λ at inside. refl)
  from_node (ToPart k ∷ up) u h spaces =
      let f = and_then_some (λ v. task_under m v (ToPart k)) (node_task m up) u h in
      part_step f.0 f.1 f.2 (same (task_name f.0) t.name) refl (from_node up f.0 f.1 spaces)
    where
      part_step : (v : Task) → node_task m up ≡ Some v → task_under m v (ToPart k) ≡ Some u → (c : Bool) → same (task_name v) t.name ≡ c → From up (entries_before m t.name up) → From (ToPart k ∷ up) (entries_before m t.name (ToPart k ∷ up))
      part_step v at leads true e rec =
          let is = is_task m t named up v at e in
          let clash : None ≡ Some u = sym (ap (λ x. task_under m x (ToPart k)) is) ∙ leads in
          absurd (cc)
      part_step v at leads false e rec =
          subst (From (ToPart k ∷ up)) (sym (before_other m t.name (ToPart k) up v at e))
          (into_part t.space outer block inside (untile (block_name m t) t.space block) next up (moved up) (entries_before m t.name up) k (λ p. refl) rec)
  from_node (ToBody s ∷ up) u h spaces = by_name (same r.name t.name) refl (from_node up (tasks.Repeated r) spaces.0.1 spaces.1)
    where
      r : Repeated
      r = spaces.0.0

      new_spaces : HasSpaces next (moved up)
      new_spaces = spaces_now up (tasks.Repeated r) spaces.0.1 spaces.1

      by_name : (c : Bool) → same r.name t.name ≡ c → From up (entries_before m t.name up) → From (ToBody s ∷ up) (entries_before m t.name (ToBody s ∷ up))
      by_name true e rec =
          let is = is_task m t named up (tasks.Repeated r) spaces.0.1 e in
          let same_task : r ≡ t = cc in
          subst (From (ToBody s ∷ up)) (sym (before_named m t.name (ToBody s) up (tasks.Repeated r) spaces.0.1 e))
          (body_named s up r (spaces.0.2 ∙ ap (λ (x : Repeated). x.space) same_task) spaces.1 new_spaces spaces.0.1 e (subst (From up) (not_inside up r spaces.0.1 e) rec))
      by_name false e rec =
          let there : node_task next (moved up) ≡ Some (tasks.Repeated r) = node_now up (tasks.Repeated r) spaces.0.1 ∙ ap (λ x. Some x) (now_other (tasks.Repeated r) e) in
          let keeps : (x y : List ℕ) → IsPointOf (space_around (moved up)) x → IsPointOf s y
          → untile name t.space block (name_at next (place_on (moved up) x)) (IntoRepetition y) (old_of (place_on (moved up) x)) ≡ IntoRepetition y ∷ old_of (place_on (moved up) x) =
          λ x y hx hy.
          untile_else name t.space block (name_at next (place_on (moved up) x)) (IntoRepetition y) (old_of (place_on (moved up) x))
          (ap (λ z. is_named z name) (name_there (moved up) (tasks.Repeated r) x new_spaces there hx) ∙ node_apart up (tasks.Repeated r) spaces.0.1) in
          subst (λ n. NodeFrom t.space outer block (untile (block_name m t) t.space block) next (ToBody s ∷ up) n (entries_before m t.name (ToBody s ∷ up))) (sym (moved_other s up (tasks.Repeated r) spaces.0.1 e))
          (subst (NodeFrom t.space outer block (untile (block_name m t) t.space block) next (ToBody s ∷ up) (ToBody s ∷ moved up)) (sym (before_other m t.name (ToBody s) up (tasks.Repeated r) spaces.0.1 e))
          (into_body t.space outer block inside (untile (block_name m t) t.space block) next up (moved up) (entries_before m t.name up) s keeps rec))

  -- ---- the map

  all_come : (l : Leaf) → IsAmong (leaves m) l → ComesFrom t.space outer block (tile_origin m t block next) l (new_leaf m t.name outer block l) (entries_before m t.name l.node)
  all_come l a =
      let u = leaf_task m l a in
      let form : LeafForm m l = listed_form m l a in
      leaf_from t.space outer block inside (untile (block_name m t) t.space block) next m l (new_leaf m t.name outer block l) (entries_before m t.name l.node) (from_node l.node u.0 u.1 form.spaces) form refl refl

  pub tiled_map : IsMapOf m next (tile_origin m t block next) (old_numbers m t outer block)
  tiled_map = map_of m t outer block entries rank (tile_origin m t block next) (new_leaf m t.name outer block) next (tiled_leaves m t outer block sound next_sound named) all_come

  pub tiled_alike : KeepsTasks m next → AreAlike m next (old_numbers m t outer block)
  tiled_alike keeps =
      alike m next (tile_origin m t block next) (new_leaf m t.name outer block) (old_numbers m t outer block) keeps (tiled_leaves m t outer block sound next_sound named) tiled_map
      (λ l a.
      let u = leaf_task m l a in
      let new_among : IsAmong (leaves next) (new_leaf m t.name outer block l) =
      subst (λ ls. IsAmong ls (new_leaf m t.name outer block l)) (sym (tiled_leaves m t outer block sound next_sound named)) (map_among (new_leaf m t.name outer block) (leaves m) l a) in
      let names : option_map task_name (node_task next (moved l.node)) ≡ option_map task_name (node_task m l.node) =
      ap (option_map task_name) (node_now l.node u.0 u.1) ∙ (ap (λ n. Some n) (name_now u.0) ∙ sym (ap (option_map task_name) u.1)) in
      kind_kept m next t.space outer block entries rank (tile_origin m t block next) l (new_leaf m t.name outer block l) (entries_before m t.name l.node) (all_come l a)
      (listed_form m l a) (listed_form next (new_leaf m t.name outer block l) new_among) refl names)
