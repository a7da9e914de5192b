-- The leaves of the paved model are the old ones, with a block more in the space of the inner level.
use Rattle.std.proofs.Common.{◌≡◌, ℕ, zero, suc, ◌^◌, ◌<◌, Bool, true, false, cond, List, [], ◌∷◌, ◌++◌, length, drop, map, Option, Some, None, is_some, option_map, option_and_then, slice_get, sym, ◌∙◌, ap, refl, arith, subst}
use Rattle.std.specs.List.{IsAmong, enumerate_from, flat_map}
use Rattle.std.proofs.lemmas.List.{append_assoc, append-nil, map-append}
use Rattle.std.proofs.Math.Seq.{drop-append_seam}
use Rattle.std.proofs.lemmas.List.Concat.{flat_map-cons}
use Rattle.aol_shape.specs.Lists.{same}
use Rattle.aol_model_types.specs.declared.document.Model.{Model}
use Rattle.aol_model_types.specs.declared.place.Key.TheVariants.{KParts}
use Rattle.aol_model_types.specs.declared.task.Compound.{Compound}
use Rattle.aol_model_types.specs.declared.task.Copied.{Copied}
use Rattle.aol_model_types.specs.declared.task.Elementary.{Elementary}
use Rattle.aol_model_types.specs.declared.task.Part.{Part}
use Rattle.aol_model_types.specs.declared.task.Repeated.{Repeated}
use Rattle.aol_model_types.specs.declared.task.Task.{Task}
use Rattle.aol_model_types.specs.declared.task.Task.TheVariants as tasks
use Rattle.aol_model_types.specs.Places.{to_key}
use Rattle.aol_model_types.specs.Rules.{ShapesAgree, task_name, task_named, is_earlier_task, is_new_part, part_checks}
use Rattle.aol_flat.specs.Accept.{IsSound}
use Rattle.aol_flat.specs.Instance.{Leaf, Computes, Copies, leaves_below, reshape_leaf}
use Rattle.aol_flat.specs.Node.{ToPart, ToBody, Node, space_around, node_task, task_under}
use Rattle.aol_flat.specs.Numbered.{number_named, inner_names, StandOnEarlier}
use Rattle.aol_flat.specs.Tasks.{main_task}
use Rattle.aol_flat.proofs.Among.{map_among, get_among}
use Rattle.aol_flat.proofs.Checked.{task_of, of_compound, of_repeated, member, named_earlier}
use Rattle.aol_flat.proofs.Find.{found_name}
use Rattle.aol_flat.proofs.Inside.{number_of_member}
use Rattle.aol_flat.proofs.Names.{both-true, same-self, same-equal}
use Rattle.aol_flat.proofs.Once.{there}
use Rattle.aol_flat.proofs.Order.{stand_on_earlier}
use Rattle.aol_flat.proofs.TaskNumbers.{found, none_from}
use Rattle.aol_change.specs.Change.{put_before, is_taken, is_named}
use Rattle.aol_change.proofs.Below.{own_name}
use Rattle.aol_change.proofs.KeptTasks.{main_there, new_is_free}
use Rattle.aol_change.proofs.StillThere.{not_among}
use Rattle.aol_paving.specs.Leaves.{is_at, is_body_of, new_node, new_leaf, PavedLeaves}
use Rattle.aol_paving.specs.Pave.{paved_model, paved_inner, paved_outer, inner_name}

-- ---- looking up

module _ (name new : List ℕ) (one all : Task) (one_named : task_name one ≡ new) (all_named : task_name all ≡ name) where
  -- a task of the old list is still found, or the changed one in its place
  pub still_found : (ts : List Task) (n : List ℕ) (u : Task) → same new n ≡ false → task_named ts n ≡ Some u → task_named (put_before ts name (one ∷ []) all) n ≡ Some (cond (same n name) all u)
  still_found [] n u apart h = cc
  still_found (x ∷ ts) n u apart h = go (same (task_name x) name) refl h (still_found ts n u apart)
    where
      skip_one : (us : List Task) → task_named (one ∷ us) n ≡ task_named us n
      skip_one us = ap (λ m. cond (same m n) (Some one) (task_named us n)) one_named ∙ ap (λ b. cond b (Some one) (task_named us n)) apart

      at_all : (b : Bool) → same name n ≡ b → task_name x ≡ name → cond (same (task_name x) n) (Some x) (task_named ts n) ≡ Some u → task_named (all ∷ ts) n ≡ Some (cond (same n name) all u)
      at_all true e is k =
          let equal : name ≡ n = same-equal name n e in
          ap (λ m. cond (same m n) (Some all) (task_named ts n)) all_named
          ∙ (ap (λ b. cond b (Some all) (task_named ts n)) e ∙ ap (λ b. Some (cond b all u)) (sym (ap (λ m. same m name) (sym equal) ∙ same-self name)))
      at_all false e is k =
          let no : same n name ≡ false = flipped (same n name) refl in
          ap (λ m. cond (same m n) (Some all) (task_named ts n)) all_named
          ∙ (ap (λ b. cond b (Some all) (task_named ts n)) e
          ∙ (sym (ap (λ b. cond b (Some x) (task_named ts n)) e) ∙ (sym (ap (λ m. cond (same m n) (Some x) (task_named ts n)) is) ∙ (k ∙ ap (λ b. Some (cond b all u)) (sym no)))))
        where
          flipped : (b : Bool) → same n name ≡ b → same n name ≡ false
          flipped false f = f
          flipped true f =
              let equal : n ≡ name = same-equal n name f in
              let clash : true ≡ false = sym (same-self name) ∙ (ap (same name) (sym equal) ∙ e) in
              absurd (cc)

      go : (b : Bool) → same (task_name x) name ≡ b → cond (same (task_name x) n) (Some x) (task_named ts n) ≡ Some u
          → (task_named ts n ≡ Some u → task_named (put_before ts name (one ∷ []) all) n ≡ Some (cond (same n name) all u))
          → task_named (cond b (one ∷ all ∷ ts) (x ∷ put_before ts name (one ∷ []) all)) n ≡ Some (cond (same n name) all u)
      go true e k rest = skip_one (all ∷ ts) ∙ at_all (same name n) refl (same-equal (task_name x) name e) k
      go false e k rest = by_own (same (task_name x) n) refl k
        where
          by_own : (b : Bool) → same (task_name x) n ≡ b → cond b (Some x) (task_named ts n) ≡ Some u
              → cond (same (task_name x) n) (Some x) (task_named (put_before ts name (one ∷ []) all) n) ≡ Some (cond (same n name) all u)
          by_own true f k =
              let equal : task_name x ≡ n = same-equal (task_name x) n f in
              let is : x ≡ u = cc in
              let no : same n name ≡ false = ap (λ m. same m name) (sym equal) ∙ e in
              ap (λ b. cond b (Some x) (task_named (put_before ts name (one ∷ []) all) n)) f ∙ (ap (λ y. Some y) is ∙ ap (λ b. Some (cond b all u)) (sym no))
          by_own false f k = ap (λ b. cond b (Some x) (task_named (put_before ts name (one ∷ []) all) n)) f ∙ rest k

  -- the new task is found
  pub new_found : (ts : List Task) (t : Task) → task_named ts name ≡ Some t → is_some (task_named ts new) ≡ false → task_named (put_before ts name (one ∷ []) all) new ≡ Some one
  new_found [] t h free = cc
  new_found (x ∷ ts) t h free = go (same (task_name x) name) refl h (same (task_name x) new) refl free (new_found ts t)
    where
      go : (b : Bool) → same (task_name x) name ≡ b → cond b (Some x) (task_named ts name) ≡ Some t → (c : Bool) → same (task_name x) new ≡ c → is_some (cond c (Some x) (task_named ts new)) ≡ false
          → (task_named ts name ≡ Some t → is_some (task_named ts new) ≡ false → task_named (put_before ts name (one ∷ []) all) new ≡ Some one)
          → task_named (cond (same (task_name x) name) (one ∷ all ∷ ts) (x ∷ put_before ts name (one ∷ []) all)) new ≡ Some one
      go true e k c f g rest =
          ap (λ b. task_named (cond b (one ∷ all ∷ ts) (x ∷ put_before ts name (one ∷ []) all)) new) e
          ∙ (ap (λ m. cond (same m new) (Some one) (task_named (all ∷ ts) new)) one_named ∙ ap (λ b. cond b (Some one) (task_named (all ∷ ts) new)) (same-self new))
      go false e k true f g rest = let clash : true ≡ false = g in absurd (cc)
      go false e k false f g rest =
          ap (λ b. task_named (cond b (one ∷ all ∷ ts) (x ∷ put_before ts name (one ∷ []) all)) new) e
          ∙ (ap (λ b. cond b (Some x) (task_named (put_before ts name (one ∷ []) all) new)) f ∙ rest k g)

-- ---- enough steps down

-- the number of the task of this name is below the steps that are left
pub record Enough (ts : List Task) (n : List ℕ) (depth : ℕ) : Type 0 where
  pub number : ℕ
  pub named : number_named ts n ≡ Some number
  pub under : number < depth

pub numbered_there : (ts : List Task) (n : List ℕ) (u : Task) → task_named ts n ≡ Some u → (j : ℕ) × (number_named ts n ≡ Some j)
numbered_there ts n u h = go (number_named ts n) refl
  where
    go : (o : Option ℕ) → number_named ts n ≡ o → (j : ℕ) × (number_named ts n ≡ Some j)
    go (Some j) e = (j, e)
    go None e = let none : task_named ts n ≡ None = none_from 0 ts n e in let clash : None ≡ Some u = sym none ∙ h in absurd (cc)

-- so it is for a task that it is made of
pub enough_below : (ts : List Task) (n inner : List ℕ) (u v : Task) (depth : ℕ) → StandOnEarlier ts → task_named ts n ≡ Some u → IsAmong (inner_names u) inner → task_named ts inner ≡ Some v
    → Enough ts n (suc depth) → Enough ts inner depth
enough_below ts n inner u v depth order h among there e =
    let f = found ts n e.number e.named in
    let same_task : f.task ≡ u = (let g : Some f.task ≡ Some u = sym f.is ∙ h in cc) in
    let j = numbered_there ts inner v there in
    let P : Task → Type 0 = λ x. IsAmong (inner_names x) inner in
    let less : j.0 < e.number = order e.number j.0 f.task inner f.at (subst P (sym same_task) among) j.1 in
    record { number = j.0; named = j.1; under = omega (arith, less, e.under) }

-- ---- leaves

module _ (m : Model) (agree : ShapesAgree m) (t u : Repeated) (name_is : task_named m.tasks t.name ≡ Some (tasks.Repeated t)) (below_is : task_named m.tasks t.task ≡ Some (tasks.Repeated u)) (outer block new : List ℕ) (one all : Repeated)
    (one_named : one.name ≡ new) (one_space : one.space ≡ block ++ u.space) (one_inner : one.task ≡ u.task) (all_named : all.name ≡ t.name) (all_space : all.space ≡ outer) (all_inner : all.task ≡ new)
    (free : is_some (task_named m.tasks new) ≡ false) (next : Model) (next_tasks : next.tasks ≡ put_before m.tasks t.name (tasks.Repeated one ∷ []) (tasks.Repeated all)) (order : StandOnEarlier next.tasks) (old_order : StandOnEarlier m.tasks) where
  abbrev moved : Node → Node
  moved = new_node m t.name outer block

  abbrev leaf : Leaf → Leaf
  leaf = new_leaf m t.name outer block

  -- the leaves at and below a node that is not the inner repetition, with so many steps down in the old model
  abbrev AtDepth : ℕ → Type 0
  AtDepth d =
      (d' : ℕ) (n : List ℕ) (node : Node) (v : Task) → task_named m.tasks n ≡ Some v → Enough m.tasks n d → Enough next.tasks n d' → node_task m node ≡ Some v → is_body_of m t.name node ≡ false
      → leaves_below d' next (task_named next.tasks n) (moved node) ≡ map leaf (leaves_below d m (task_named m.tasks n) node)

  pub apart_from_new : (n : List ℕ) (u : Task) → task_named m.tasks n ≡ Some u → same new n ≡ false
  apart_from_new n u h = go (same new n) refl
    where
      go : (b : Bool) → same new n ≡ b → same new n ≡ false
      go false e = e
      go true e =
          let equal : new ≡ n = same-equal new n e in
          let clash : true ≡ false = sym (ap is_some (ap (task_named m.tasks) equal ∙ h)) ∙ free in
          absurd (cc)

  pub in_next : (n : List ℕ) (u : Task) → task_named m.tasks n ≡ Some u → task_named next.tasks n ≡ Some (cond (same n t.name) (tasks.Repeated all) u)
  in_next n u h =
      ap (λ ts. task_named ts n) next_tasks
      ∙ still_found t.name new (tasks.Repeated one) (tasks.Repeated all) one_named all_named m.tasks n u (apart_from_new n u h) h

  pub one_in_next : task_named next.tasks new ≡ Some (tasks.Repeated one)
  one_in_next = ap (λ ts. task_named ts new) next_tasks ∙ new_found t.name new (tasks.Repeated one) (tasks.Repeated all) one_named all_named m.tasks (tasks.Repeated t) name_is free

  -- ---- reshapes

  reshape_moved : (node : Node) (r : ℕ × Copied) → leaf (reshape_leaf node r) ≡ reshape_leaf (moved node) r
  reshape_moved node r =
      ap (λ (s : List ℕ). record { node = moved node; work = Copies r.0 (length r.1.by.space); space = s })
      (ap (λ s. space_around (moved node) ++ s)
      (ap (drop (length (space_around node))) (append_assoc (space_around node) r.1.by.space r.1.by.pattern) ∙ drop-append_seam (space_around node) (r.1.by.space ++ r.1.by.pattern))
      ∙ sym (append_assoc (space_around (moved node)) r.1.by.space r.1.by.pattern))

  reshapes_moved : (node : Node) (rs : List (ℕ × Copied)) → map (reshape_leaf (moved node)) rs ≡ map leaf (map (reshape_leaf node) rs)
  reshapes_moved node [] = refl
  reshapes_moved node (r ∷ rs) = ap (λ l. l ∷ map (reshape_leaf (moved node)) rs) (sym (reshape_moved node r)) ∙ ap (λ ls. leaf (reshape_leaf node r) ∷ ls) (reshapes_moved node rs)

  -- ---- parts

  all_moved : {X : Type 0} (f g : X → List Leaf) (xs : List X) → ((x : X) → IsAmong xs x → f x ≡ map leaf (g x)) → flat_map f xs ≡ map leaf (flat_map g xs)
  all_moved f g [] h = refl
  all_moved f g (x ∷ xs) h =
      flat_map-cons f x xs
      ∙ (ap (λ ls. ls ++ flat_map f xs) (h x (0, (omega arith, refl)))
      ∙ (ap (λ ls. map leaf (g x) ++ ls) (all_moved f g xs (λ y a. h y (suc a.0, (omega (arith, a.1.0), a.1.1))))
      ∙ (sym (map-append leaf (g x) (flat_map g xs)) ∙ ap (map leaf) (sym (flat_map-cons g x xs)))))

  not_all : (n : List ℕ) (u : Task) → task_named m.tasks n ≡ Some u → ((r : Repeated) → u ≡ tasks.Repeated r → r ≡ t → ⊥) → same n t.name ≡ false
  not_all n u h other = go (same n t.name) refl
    where
      go : (b : Bool) → same n t.name ≡ b → same n t.name ≡ false
      go false e = e
      go true e =
          let equal : n ≡ t.name = same-equal n t.name e in
          let is : Some u ≡ Some (tasks.Repeated t) = sym h ∙ (ap (task_named m.tasks) equal ∙ name_is) in
          let is_task : u ≡ tasks.Repeated t = cc in
          absurd (other t is_task refl)

  part_moved : (d d' : ℕ) (rec : AtDepth d) (n : List ℕ) (node : Node) (c : Compound) → task_named m.tasks n ≡ Some (tasks.Compound c) → Enough m.tasks n (suc d) → Enough next.tasks n (suc d')
      → task_named next.tasks n ≡ Some (tasks.Compound c) → node_task m node ≡ Some (tasks.Compound c) → (p : ℕ × Part) → IsAmong (enumerate_from 0 c.parts) p
      → leaves_below d' next (task_named next.tasks p.1.task) (ToPart p.0 ∷ moved node) ≡ map leaf (leaves_below d m (task_named m.tasks p.1.task) (ToPart p.0 ∷ node))
  part_moved d d' rec n node c h e e' in_new at p a =
      let k = number_of_member c.parts 0 p a in
      let number : p.0 ≡ k.0 = omega (arith, k.1) in
      let r = task_of m (tasks.Compound c) n agree h in
      let holds = of_compound r.before r.place c r.holds in
      let listed : IsAmong c.parts p.1 = get_among c.parts k.0 p.1 k.2 in
      let of_part = member (part_checks r.before) (to_key r.place KParts) c.parts p.1 holds.parts listed in
      let earlier : is_earlier_task r.before p.1.task ≡ true = (both-true (is_earlier_task r.before p.1.task) true (both-true (is_new_part of_part.before p.1) _ of_part.holds).1).0 in
      let v = there (task_named r.before p.1.task) earlier in
      let found_v : task_named m.tasks p.1.task ≡ Some v.0 = named_earlier m r.before (tasks.Compound c ∷ r.rest) p.1.task v.0 r.split v.1 in
      let inner : IsAmong (inner_names (tasks.Compound c)) p.1.task = map_among (λ (q : Part). q.task) c.parts p.1 listed in
      let below : node_task m (ToPart p.0 ∷ node) ≡ Some v.0 =
      ap (λ o. option_and_then (λ x. task_under m x (ToPart p.0)) o) at
      ∙ (ap (λ j. option_and_then (λ (q : Part). task_named m.tasks q.task) (slice_get c.parts j)) number ∙ (ap (option_and_then (λ (q : Part). task_named m.tasks q.task)) k.2 ∙ found_v)) in
      rec d' p.1.task (ToPart p.0 ∷ node) v.0 found_v (enough_below m.tasks n p.1.task (tasks.Compound c) v.0 d old_order h inner found_v e)
      (enough_below next.tasks n p.1.task (tasks.Compound c) (cond (same p.1.task t.name) (tasks.Repeated all) v.0) d' order in_new inner (in_next p.1.task v.0 found_v) e') below refl

  -- ---- one level more

  compound_moved : (d d' : ℕ) (rec : AtDepth d) (n : List ℕ) (node : Node) (c : Compound) → task_named m.tasks n ≡ Some (tasks.Compound c) → Enough m.tasks n (suc d) → Enough next.tasks n (suc d')
      → node_task m node ≡ Some (tasks.Compound c) → leaves_below (suc d') next (task_named next.tasks n) (moved node) ≡ map leaf (leaves_below (suc d) m (task_named m.tasks n) node)
  compound_moved d d' rec n node c h e e' at =
      let plain : same n t.name ≡ false = not_all n (tasks.Compound c) h (λ r k l. let clash : tasks.Compound c ≡ tasks.Repeated r = k in absurd (cc)) in
      let in_new : task_named next.tasks n ≡ Some (tasks.Compound c) = in_next n (tasks.Compound c) h ∙ ap (λ b. Some (cond b (tasks.Repeated all) (tasks.Compound c))) plain in
      let f : ℕ × Part → List Leaf = λ p. leaves_below d' next (task_named next.tasks p.1.task) (ToPart p.0 ∷ moved node) in
      let g : ℕ × Part → List Leaf = λ p. leaves_below d m (task_named m.tasks p.1.task) (ToPart p.0 ∷ node) in
      ap (λ o. leaves_below (suc d') next o (moved node)) in_new
      ∙ (ap (λ ls. ls ++ map (reshape_leaf (moved node)) (enumerate_from 0 c.reshapes)) (all_moved f g (enumerate_from 0 c.parts) (part_moved d d' rec n node c h e e' in_new at))
      ∙ (ap (λ ls. map leaf (flat_map g (enumerate_from 0 c.parts)) ++ ls) (reshapes_moved node (enumerate_from 0 c.reshapes))
      ∙ (sym (map-append leaf (flat_map g (enumerate_from 0 c.parts)) (map (reshape_leaf node) (enumerate_from 0 c.reshapes)))
      ∙ ap (λ o. map leaf (leaves_below (suc d) m o node)) (sym h))))

  elementary_moved : (d d' : ℕ) (n : List ℕ) (node : Node) (x : Elementary) → task_named m.tasks n ≡ Some (tasks.Elementary x)
      → leaves_below (suc d') next (task_named next.tasks n) (moved node) ≡ map leaf (leaves_below (suc d) m (task_named m.tasks n) node)
  elementary_moved d d' n node x h =
      let plain : same n t.name ≡ false = not_all n (tasks.Elementary x) h (λ r k l. let clash : tasks.Elementary x ≡ tasks.Repeated r = k in absurd (cc)) in
      let in_new : task_named next.tasks n ≡ Some (tasks.Elementary x) = in_next n (tasks.Elementary x) h ∙ ap (λ b. Some (cond b (tasks.Repeated all) (tasks.Elementary x))) plain in
      let none : drop (length (space_around node)) (space_around node) ≡ [] =
      sym (ap (drop (length (space_around node))) (append-nil (space_around node))) ∙ drop-append_seam (space_around node) [] in
      let whole : space_around (moved node) ≡ space_around (moved node) ++ drop (length (space_around node)) (space_around node) =
      sym (append-nil (space_around (moved node))) ∙ ap (λ s. space_around (moved node) ++ s) (sym none) in
      ap (λ o. leaves_below (suc d') next o (moved node)) in_new
      ∙ (ap (λ (s : List ℕ). record { node = moved node; work = Computes; space = s } ∷ []) whole ∙ ap (λ o. map leaf (leaves_below (suc d) m o node)) (sym h))

  inner_found : (n : List ℕ) (r : Repeated) → task_named m.tasks n ≡ Some (tasks.Repeated r) → (v : Task) × (task_named m.tasks r.task ≡ Some v)
  inner_found n r h =
      let k = task_of m (tasks.Repeated r) n agree h in
      let holds = of_repeated k.before k.place r k.holds in
      let v = there (task_named k.before r.task) holds.inner in
      (v.0, named_earlier m k.before (tasks.Repeated r ∷ k.rest) r.task v.0 k.split v.1)

  only : (x : List ℕ) → IsAmong (x ∷ []) x
  only x = (0, (omega arith, refl))

  -- the inner repetition is another task than the outer one
  pub inner_other : same u.name t.name ≡ false
  inner_other = go (same u.name t.name) refl
    where
      go : (b : Bool) → same u.name t.name ≡ b → same u.name t.name ≡ false
      go false f = f
      go true f =
          let own : task_named m.tasks u.name ≡ Some (tasks.Repeated u) = found_name m t.task (tasks.Repeated u) below_is in
          let j = numbered_there m.tasks t.name (tasks.Repeated t) name_is in
          let k = found m.tasks t.name j.0 j.1 in
          let is : Some k.task ≡ Some (tasks.Repeated t) = sym k.is ∙ name_is in
          let is_task : k.task ≡ tasks.Repeated t = cc in
          let inner_own : u.name ≡ t.task = own_name m.tasks t.task (tasks.Repeated u) below_is in
          let below : number_named m.tasks t.task ≡ Some j.0 = ap (number_named m.tasks) (sym inner_own ∙ same-equal u.name t.name f) ∙ j.1 in
          let less : j.0 < j.0 = old_order j.0 j.0 (tasks.Repeated t) t.task (k.at ∙ ap (λ x. Some x) is_task) (only t.task) below in
          absurd (omega (arith, less))

  repeated_moved : (d d' : ℕ) (rec : AtDepth d) (rec_twice : (k : ℕ) → d ≡ suc k → AtDepth k) (n : List ℕ) (node : Node) (r : Repeated) → task_named m.tasks n ≡ Some (tasks.Repeated r) → Enough m.tasks n (suc d) → Enough next.tasks n (suc d')
      → node_task m node ≡ Some (tasks.Repeated r) → is_body_of m t.name node ≡ false → leaves_below (suc d') next (task_named next.tasks n) (moved node) ≡ map leaf (leaves_below (suc d) m (task_named m.tasks n) node)
  repeated_moved d d' rec rec_twice n node r h e e' at no_body = go (same n t.name) refl
    where
      below : node_task m (ToBody r.space ∷ node) ≡ Some (inner_found n r h).0
      below = ap (λ o. option_and_then (λ x. task_under m x (ToBody r.space)) o) at ∙ (inner_found n r h).1

      own : r.name ≡ n
      own = own_name m.tasks n (tasks.Repeated r) h

      at_is : is_at m t.name node ≡ same n t.name
      at_is = ap (λ o. is_named (option_map task_name o) t.name) at ∙ ap (λ x. same x t.name) own

      enough : Enough m.tasks r.task d
      enough = enough_below m.tasks n r.task (tasks.Repeated r) (inner_found n r h).0 d old_order h (only r.task) (inner_found n r h).1 e

      go : (b : Bool) → same n t.name ≡ b → leaves_below (suc d') next (task_named next.tasks n) (moved node) ≡ map leaf (leaves_below (suc d) m (task_named m.tasks n) node)
      go false f =
          let in_new : task_named next.tasks n ≡ Some (tasks.Repeated r) = in_next n (tasks.Repeated r) h ∙ ap (λ b. Some (cond b (tasks.Repeated all) (tasks.Repeated r))) f in
          let here : moved (ToBody r.space ∷ node) ≡ ToBody r.space ∷ moved node =
          ap (λ b. ToBody (cond b outer (cond (is_body_of m t.name node) (block ++ r.space) r.space)) ∷ moved node) (at_is ∙ f)
          ∙ ap (λ b. ToBody (cond b (block ++ r.space) r.space) ∷ moved node) no_body in
          let in_inner : task_named next.tasks r.task ≡ Some (cond (same r.task t.name) (tasks.Repeated all) (inner_found n r h).0) = in_next r.task (inner_found n r h).0 (inner_found n r h).1 in
          ap (λ o. leaves_below (suc d') next o (moved node)) in_new
          ∙ (ap (leaves_below d' next (task_named next.tasks r.task)) (sym here)
          ∙ (rec d' r.task (ToBody r.space ∷ node) (inner_found n r h).0 (inner_found n r h).1 enough
          (enough_below next.tasks n r.task (tasks.Repeated r) (cond (same r.task t.name) (tasks.Repeated all) (inner_found n r h).0) d' order in_new (only r.task) in_inner e') below (at_is ∙ f)
          ∙ ap (λ o. map leaf (leaves_below (suc d) m o node)) (sym h)))
      go true f =
          let equal : n ≡ t.name = same-equal n t.name f in
          let same_task : Some (tasks.Repeated r) ≡ Some (tasks.Repeated t) = sym h ∙ (ap (task_named m.tasks) equal ∙ name_is) in
          let is : tasks.Repeated r ≡ tasks.Repeated t = cc in
          let inner_is : r.task ≡ t.task = ap inner_of is in
          let in_new : task_named next.tasks n ≡ Some (tasks.Repeated all) = in_next n (tasks.Repeated r) h ∙ ap (λ b. Some (cond b (tasks.Repeated all) (tasks.Repeated r))) f in
          let found_u : task_named m.tasks r.task ≡ Some (tasks.Repeated u) = ap (task_named m.tasks) inner_is ∙ below_is in
          let a : IsAmong (inner_names (tasks.Repeated all)) new = (let P : List ℕ → Type 0 = λ x. IsAmong (x ∷ []) new in subst P (sym all_inner) (only new)) in
          let first : Enough next.tasks new d' = enough_below next.tasks n new (tasks.Repeated all) (tasks.Repeated one) d' order in_new a one_in_next e' in
          ap (λ o. leaves_below (suc d') next o (moved node)) in_new
          ∙ (ap (λ s. leaves_below d' next (task_named next.tasks all.task) (ToBody s ∷ moved node)) all_space
          ∙ (ap (λ x. leaves_below d' next (task_named next.tasks x) (ToBody outer ∷ moved node)) all_inner
          ∙ (ap (λ o. leaves_below d' next o (ToBody outer ∷ moved node)) one_in_next
          ∙ (inside d d' rec_twice enough first found_u
          ∙ (ap (λ o. map leaf (leaves_below d m o (ToBody r.space ∷ node))) (sym found_u) ∙ ap (λ o. map leaf (leaves_below (suc d) m o node)) (sym h))))))
        where
          inner_of : Task → List ℕ
          inner_of (tasks.Repeated x) = x.task
          inner_of _ = []

          inside : (d d' : ℕ) → ((k : ℕ) → d ≡ suc k → AtDepth k) → Enough m.tasks r.task d → Enough next.tasks new d' → task_named m.tasks r.task ≡ Some (tasks.Repeated u)
              → leaves_below d' next (Some (tasks.Repeated one)) (ToBody outer ∷ moved node) ≡ map leaf (leaves_below d m (Some (tasks.Repeated u)) (ToBody r.space ∷ node))
          inside zero d' twice few few' found_u = (let k : few.number < 0 = few.under in absurd (omega (arith, k)))
          inside (suc d) zero twice few few' found_u = (let k : few'.number < 0 = few'.under in absurd (omega (arith, k)))
          inside (suc d) (suc d') twice few few' found_u =
              let w = inner_found r.task u found_u in
              let in_inner : task_named next.tasks u.task ≡ Some (cond (same u.task t.name) (tasks.Repeated all) w.0) = in_next u.task w.0 w.1 in
              let b : IsAmong (inner_names (tasks.Repeated one)) u.task = (let P : List ℕ → Type 0 = λ x. IsAmong (x ∷ []) u.task in subst P (sym one_inner) (only u.task)) in
              let last : Enough m.tasks u.task d = enough_below m.tasks r.task u.task (tasks.Repeated u) w.0 d old_order found_u (only u.task) w.1 few in
              let last' : Enough next.tasks u.task d' = enough_below next.tasks new u.task (tasks.Repeated one) (cond (same u.task t.name) (tasks.Repeated all) w.0) d' order one_in_next b in_inner few' in
              let middle : node_task m (ToBody r.space ∷ node) ≡ Some (tasks.Repeated u) = ap (λ o. option_and_then (λ x. task_under m x (ToBody r.space)) o) at ∙ found_u in
              let other : is_at m t.name (ToBody r.space ∷ node) ≡ false = ap (λ o. is_named (option_map task_name o) t.name) middle ∙ inner_other in
              let low : node_task m (ToBody u.space ∷ ToBody r.space ∷ node) ≡ Some w.0 = ap (λ o. option_and_then (λ x. task_under m x (ToBody u.space)) o) middle ∙ w.1 in
              let outer_here : moved (ToBody r.space ∷ node) ≡ ToBody outer ∷ moved node = ap (λ b. ToBody (cond b outer (cond (is_body_of m t.name node) (block ++ r.space) r.space)) ∷ moved node) (at_is ∙ f) in
              let here : moved (ToBody u.space ∷ ToBody r.space ∷ node) ≡ ToBody (block ++ u.space) ∷ ToBody outer ∷ moved node =
              ap (λ b. ToBody (cond b outer (cond (is_body_of m t.name (ToBody r.space ∷ node)) (block ++ u.space) u.space)) ∷ moved (ToBody r.space ∷ node)) other
              ∙ (ap (λ b. ToBody (cond b (block ++ u.space) u.space) ∷ moved (ToBody r.space ∷ node)) (at_is ∙ f) ∙ ap (λ z. ToBody (block ++ u.space) ∷ z) outer_here) in
              ap (λ s. leaves_below d' next (task_named next.tasks one.task) (ToBody s ∷ ToBody outer ∷ moved node)) one_space
              ∙ (ap (λ x. leaves_below d' next (task_named next.tasks x) (ToBody (block ++ u.space) ∷ ToBody outer ∷ moved node)) one_inner
              ∙ (ap (leaves_below d' next (task_named next.tasks u.task)) (sym here) ∙ twice d refl d' u.task (ToBody u.space ∷ ToBody r.space ∷ node) w.0 w.1 last last' low other))

  -- ---- all depths

  one_deeper : (d : ℕ) → AtDepth d → ((k : ℕ) → d ≡ suc k → AtDepth k) → AtDepth (suc d)
  one_deeper d rec twice zero n node v h e e' at no_body = (let k : e'.number < 0 = e'.under in absurd (omega (arith, k)))
  one_deeper d rec twice (suc d') n node (tasks.Elementary x) h e e' at no_body = elementary_moved d d' n node x h
  one_deeper d rec twice (suc d') n node (tasks.Compound c) h e e' at no_body = compound_moved d d' rec n node c h e e' at
  one_deeper d rec twice (suc d') n node (tasks.Repeated r) h e e' at no_body = repeated_moved d d' rec twice n node r h e e' at no_body

  both_depths : (d : ℕ) → AtDepth d × ((k : ℕ) → d ≡ suc k → AtDepth k)
  both_depths zero = (λ d' n node v h e e' at no_body. (let k : e.number < 0 = e.under in absurd (omega (arith, k))), λ k f. absurd (omega (arith, f)))
  both_depths (suc d) =
      let r = both_depths d in
      (one_deeper d r.0 r.1, λ k f. let is : d ≡ k = omega (arith, f) in subst AtDepth is r.0)

  pub leaves_moved : (d : ℕ) → AtDepth d
  leaves_moved d = (both_depths d).0

-- ---- the paved model

-- the main task has enough steps below it
enough_whole : (ts : List Task) (n : List ℕ) (u : Task) → task_named ts n ≡ Some u → Enough ts n (length ts)
enough_whole ts n u h =
    let j = numbered_there ts n u h in
    record { number = j.0; named = j.1; under = (found ts n j.0 j.1).within }

-- no task has the name of the new one
pub free_new : (m : Model) (t : Repeated) → IsSound m → is_some (task_named m.tasks (inner_name m t)) ≡ false
free_new m t sound =
    let none : 0 < 2 ^ 32 = omega arith in
    let free_names : is_taken (map task_name m.tasks) (inner_name m t) ≡ false =
    ap (λ ns. is_taken ns (inner_name m t)) (sym (append-nil (map task_name m.tasks))) ∙ new_is_free m [] t.name sound none in
    not_among m.tasks (inner_name m t) free_names

pub paved_leaves : PavedLeaves
paved_leaves m t u outer block sound next_sound named below =
    let free : is_some (task_named m.tasks (inner_name m t)) ≡ false = free_new m t sound in
    let one : Repeated = paved_inner m t u block (inner_name m t) in
    let all : Repeated = paved_outer m t u outer block (inner_name m t) in
    let next : Model = paved_model m t u outer block in
    let main = there (main_task m) (main_there m sound.shapes) in
    let order : StandOnEarlier next.tasks = stand_on_earlier next next_sound.shapes in
    let apart : same (inner_name m t) m.main ≡ false =
    apart_from_new m sound.shapes t u named below outer block (inner_name m t) one all refl refl refl refl refl refl free next refl order (stand_on_earlier m sound.shapes) m.main main.0 main.1 in
    let in_new : task_named next.tasks m.main ≡ Some (cond (same m.main t.name) (tasks.Repeated all) main.0) =
    still_found t.name (inner_name m t) (tasks.Repeated one) (tasks.Repeated all) refl refl m.tasks m.main main.0 apart main.1 in
    leaves_moved m sound.shapes t u named below outer block (inner_name m t) one all refl refl refl refl refl refl free next refl order (stand_on_earlier m sound.shapes)
    (length m.tasks) (length next.tasks) m.main [] main.0 main.1 (enough_whole m.tasks m.main main.0 main.1)
    (enough_whole next.tasks m.main (cond (same m.main t.name) (tasks.Repeated all) main.0) in_new) main.1 refl
