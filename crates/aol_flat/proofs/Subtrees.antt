-- The nodes at and below a node stand side by side in the list of all nodes, so a part's node comes where they are counted.
use Rattle.std.proofs.Common.{◌≡◌, ℕ, zero, suc, ◌+◌, ◌<◌, ◌≤◌, List, [], ◌∷◌, ◌++◌, length, true, Option, Some, None, slice_get, sym, ◌∙◌, ap, refl, arith, subst, ◌⊎◌, inl, inr}
use Rattle.std.specs.List.{IsAmong, enumerate_from}
use Rattle.std.proofs.lemmas.List.{append-nil, append_assoc, length-append}
use Rattle.std.proofs.lemmas.Option.{slice_get_within}
use Rattle.aol_model_types.specs.declared.document.Model.{Model}
use Rattle.aol_model_types.specs.declared.place.Key.TheVariants.{KParts}
use Rattle.aol_model_types.specs.declared.task.Compound.{Compound}
use Rattle.aol_model_types.specs.declared.task.Part.{Part}
use Rattle.aol_model_types.specs.declared.task.Task.{Task}
use Rattle.aol_model_types.specs.declared.task.Task.TheVariants as tasks
use Rattle.aol_model_types.specs.Places.{to_key}
use Rattle.aol_model_types.specs.Rules.{ShapesAgree, part_checks, is_new_part, is_earlier_task, task_name, task_named}
use Rattle.aol_flat.specs.Node.{Node, ToPart, ToBody, nodes_below, nodes}
use Rattle.aol_flat.specs.Numbered.{StandOnEarlier, number_named, inner_names}
use Rattle.aol_flat.specs.Tasks.{main_task}
use Rattle.aol_flat.specs.Walked.{nodes_in}
use Rattle.aol_flat.proofs.Among.{map_among, get_among}
use Rattle.aol_flat.proofs.Checked.{task_numbered, named_earlier, member, of_compound}
use Rattle.aol_flat.proofs.Names.{both-true}
use Rattle.aol_flat.proofs.Once.{there}
use Rattle.aol_flat.proofs.Order.{stand_on_earlier}
use Rattle.aol_flat.proofs.TaskNumbers.{found, first_of_own, none_from}
use Rattle.aol_flat.proofs.Visiting.{nodes_split}

-- ---- two lists side by side

get_both : {X : Type 0} (xs ys : List X) (k : ℕ) (x : X) → slice_get (xs ++ ys) k ≡ Some x → (slice_get xs k ≡ Some x) ⊎ ((j : ℕ) × (k ≡ length xs + j) × (slice_get ys j ≡ Some x))
get_both [] ys k x h = let none : k ≡ 0 + k = omega arith in inr (k, none, h)
get_both (y ∷ xs) ys zero x h = inl h
get_both (y ∷ xs) ys (suc k) x h = go (get_both xs ys k x h)
  where
    go : (slice_get xs k ≡ Some x) ⊎ ((j : ℕ) × (k ≡ length xs + j) × (slice_get ys j ≡ Some x))
        → (slice_get (y ∷ xs) (suc k) ≡ Some x) ⊎ ((j : ℕ) × (suc k ≡ length (y ∷ xs) + j) × (slice_get ys j ≡ Some x))
    go (inl l) = inl l
    go (inr r) = let more : suc k ≡ suc (length xs) + r.0 = omega (arith, r.1) in inr (r.0, more, r.2)

-- ---- a task of a name

-- the number of the task of a name
pub named_number : (m : Model) (name : List ℕ) (u : Task) → task_named m.tasks name ≡ Some u → (j : ℕ) × (number_named m.tasks name ≡ Some j) × (slice_get m.tasks j ≡ Some u) × (number_named m.tasks (task_name u) ≡ Some j)
named_number m name u h = go (number_named m.tasks name) refl
  where
    go : (o : Option ℕ) → number_named m.tasks name ≡ o → (j : ℕ) × (number_named m.tasks name ≡ Some j) × (slice_get m.tasks j ≡ Some u) × (number_named m.tasks (task_name u) ≡ Some j)
    go None e = let missing = none_from 0 m.tasks name e in cc
    go (Some j) e =
        let f = found m.tasks name j e in
        let equal : Some f.task ≡ Some u = sym f.is ∙ h in
        let is : f.task ≡ u = cc in
        (j, e, f.at ∙ equal, ap (λ t. number_named m.tasks (task_name t)) (sym is) ∙ first_of_own m.tasks name j e)

-- ---- what is below a node

-- the nodes at and below one with this number stand together
pub record IsSubtree (m : Model) (ns : List (Node × Task)) (k : ℕ) (node : Node) (t : Task) : Type 0 where
  pub fuel : ℕ
  pub number : ℕ
  pub before : List (Node × Task)
  pub after : List (Node × Task)
  pub split : ns ≡ before ++ (nodes_below (suc fuel) m (Some t) node ++ after)
  pub count : length before ≡ k
  pub listed : slice_get m.tasks number ≡ Some t
  pub first : number_named m.tasks (task_name t) ≡ Some number
  pub low : number ≤ fuel

-- so they do in a longer list
further : (m : Model) (front ns rest : List (Node × Task)) (j k : ℕ) (node : Node) (t : Task) → IsSubtree m ns j node t → k ≡ length front + j → IsSubtree m (front ++ (ns ++ rest)) k node t
further m front ns rest j k node t s is = record {
  fuel = s.fuel;
  number = s.number;
  before = front ++ s.before;
  after = s.after ++ rest;
  split =
      ap (λ xs. front ++ (xs ++ rest)) s.split
      ∙ (ap (λ xs. front ++ xs) (append_assoc s.before (nodes_below (suc s.fuel) m (Some t) node ++ s.after) rest
      ∙ ap (λ xs. s.before ++ xs) (append_assoc (nodes_below (suc s.fuel) m (Some t) node) s.after rest))
      ∙ sym (append_assoc front s.before (nodes_below (suc s.fuel) m (Some t) node ++ (s.after ++ rest))));
  count = length-append front s.before ∙ (ap (λ n. length front + n) s.count ∙ sym is);
  listed = s.listed;
  first = s.first;
  low = s.low;
}

module _ (m : Model) (earlier : StandOnEarlier m.tasks) where
  -- the task of a name has a low number
  abbrev IsLow : ℕ → Option Task → Type 0
  IsLow fuel o = (u : Task) → o ≡ Some u → (j : ℕ) × (slice_get m.tasks j ≡ Some u) × (number_named m.tasks (task_name u) ≡ Some j) × (j < fuel)

  low_named : (number fuel : ℕ) (t : Task) (name : List ℕ) → slice_get m.tasks number ≡ Some t → number ≤ fuel → IsAmong (inner_names t) name → IsLow fuel (task_named m.tasks name)
  low_named number fuel t name listed low among u h =
      let n = named_number m name u h in
      (n.0, n.2, n.3, omega (arith, earlier number n.0 t name listed among n.1, low))

  -- so many steps down
  abbrev HasSubtrees : ℕ → Type 0
  HasSubtrees fuel = (o : Option Task) (top : Node) (k : ℕ) (node : Node) (t : Task) → IsLow fuel o → slice_get (nodes_below fuel m o top) k ≡ Some (node, t) → IsSubtree m (nodes_below fuel m o top) k node t

  in_parts : (fuel : ℕ) → HasSubtrees fuel → (from : ℕ) (parts : List Part) (top : Node) (k : ℕ) (node : Node) (t : Task) → ((p : Part) → IsAmong parts p → IsLow fuel (task_named m.tasks p.task))
      → slice_get (nodes_in fuel m top (enumerate_from from parts)) k ≡ Some (node, t) → IsSubtree m (nodes_in fuel m top (enumerate_from from parts)) k node t
  in_parts fuel has from [] top k node t low h = cc
  in_parts fuel has from (p ∷ parts) top k node t low h =
      go (get_both (nodes_below fuel m (task_named m.tasks p.task) (ToPart from ∷ top)) (nodes_in fuel m top (enumerate_from (from + 1) parts)) k (node, t) h)
      (λ j at. in_parts fuel has (from + 1) parts top j node t (λ q a. low q (suc a.0, (omega (arith, a.1.0), a.1.1))) at)
    where
      first : List (Node × Task)
      first = nodes_below fuel m (task_named m.tasks p.task) (ToPart from ∷ top)

      rest : List (Node × Task)
      rest = nodes_in fuel m top (enumerate_from (from + 1) parts)

      go : (slice_get first k ≡ Some (node, t)) ⊎ ((j : ℕ) × (k ≡ length first + j) × (slice_get rest j ≡ Some (node, t)))
          → ((j : ℕ) → slice_get rest j ≡ Some (node, t) → IsSubtree m rest j node t) → IsSubtree m (first ++ rest) k node t
      go (inl l) later =
          let none : k ≡ 0 + k = omega arith in
          further m [] first rest k k node t (has (task_named m.tasks p.task) (ToPart from ∷ top) k node t (low p (zero, (omega arith, refl))) l) none
      go (inr r) later =
          let P : List (Node × Task) → Type 0 = λ xs. IsSubtree m (first ++ xs) k node t in
          subst P (append-nil rest) (further m first rest [] r.0 k node t (later r.0 r.2) r.1)

  pub subtrees : (fuel : ℕ) → HasSubtrees fuel
  subtrees zero o top k node t low h = cc
  subtrees (suc fuel) None top k node t low h = cc
  subtrees (suc fuel) (Some u) top zero node t low h =
      let split = nodes_split fuel m u top in
      let same_pair : (top, u) ≡ (node, t) = let e = sym (ap (λ xs. slice_get xs 0) split) ∙ h in cc in
      let n = low u refl in
      let P : Node × Task → Type 0 = λ x. IsSubtree m (nodes_below (suc fuel) m (Some u) top) 0 x.0 x.1 in
      subst P same_pair (record {
        fuel = fuel;
        number = n.0;
        before = [];
        after = [];
        split = sym (append-nil (nodes_below (suc fuel) m (Some u) top));
        count = refl;
        listed = n.1;
        first = n.2;
        low = omega (arith, n.3);
      })
  subtrees (suc fuel) (Some (tasks.Elementary e)) top (suc k) node t low h = cc
  subtrees (suc fuel) (Some (tasks.Repeated r)) top (suc k) node t low h =
      let n = low (tasks.Repeated r) refl in
      let inner : List (Node × Task) = nodes_below fuel m (task_named m.tasks r.task) (ToBody r.space ∷ top) in
      let s = subtrees fuel (task_named m.tasks r.task) (ToBody r.space ∷ top) k node t
      (low_named n.0 fuel (tasks.Repeated r) r.task n.1 (omega (arith, n.3)) (zero, (omega arith, refl))) h in
      let one : suc k ≡ 1 + k = omega arith in
      let P : List (Node × Task) → Type 0 = λ xs. IsSubtree m ((top, tasks.Repeated r) ∷ xs) (suc k) node t in
      subst P (append-nil inner) (further m ((top, tasks.Repeated r) ∷ []) inner [] k (suc k) node t s one)
  subtrees (suc fuel) (Some (tasks.Compound c)) top (suc k) node t low h =
      let n = low (tasks.Compound c) refl in
      let inner : List (Node × Task) = nodes_in fuel m top (enumerate_from 0 c.parts) in
      let s = in_parts fuel (subtrees fuel) 0 c.parts top k node t
      (λ p a. low_named n.0 fuel (tasks.Compound c) p.task n.1 (omega (arith, n.3)) (map_among (λ (q : Part). q.task) c.parts p a)) h in
      let one : suc k ≡ 1 + k = omega arith in
      let P : List (Node × Task) → Type 0 = λ xs. IsSubtree m ((top, tasks.Compound c) ∷ xs) (suc k) node t in
      subst P (append-nil inner) (further m ((top, tasks.Compound c) ∷ []) inner [] k (suc k) node t s one)

module _ (m : Model) (agree : ShapesAgree m) where
  -- each node of the model
  pub subtree : (k : ℕ) (node : Node) (t : Task) → slice_get (nodes m) k ≡ Some (node, t) → IsSubtree m (nodes m) k node t
  subtree k node t h =
      subtrees m (stand_on_earlier m agree) (length m.tasks) (main_task m) [] k node t
      (λ u e. let n = named_number m m.main u e in (n.0, n.2, n.3, slice_get_within m.tasks n.0 u n.2)) h

  -- the task of a part is there
  pub part_task : (number : ℕ) (c : Compound) (k : ℕ) (p : Part) → slice_get m.tasks number ≡ Some (tasks.Compound c) → slice_get c.parts k ≡ Some p → (u : Task) × (task_named m.tasks p.task ≡ Some u)
  part_task number c k p listed at =
      let r = task_numbered m (tasks.Compound c) number agree listed in
      let holds = of_compound r.0.before r.0.place c r.0.holds in
      let of_part = member (part_checks r.0.before) (to_key r.0.place KParts) c.parts p holds.parts (get_among c.parts k p at) in
      let h4 = both-true (is_new_part of_part.before p) _ of_part.holds in
      let h5 = both-true (is_earlier_task r.0.before p.task) true h4.1 in
      let v = there (task_named r.0.before p.task) h5.0 in
      (v.0, named_earlier m r.0.before (tasks.Compound c ∷ r.0.rest) p.task v.0 r.0.split v.1)
