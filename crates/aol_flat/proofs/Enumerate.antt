-- Each instance that is there is one of a listed node.
use Rattle.std.proofs.Common.{◌≡◌, ℕ, suc, ◌+◌, ◌-◌, ◌<◌, ◌≤◌, Bool, true, false, List, [], ◌∷◌, ◌++◌, length, map, flat_map, Option, Some, slice_get, sym, ◌∙◌, ap, refl, arith, subst}
use Rattle.std.specs.List.{IsAmong, enumerate_from, position_or_len}
use Rattle.std.proofs.lemmas.List.Folds.{find_at}
use Rattle.std.proofs.lemmas.Option.{slice_get_within}
use Rattle.aol_shape.specs.Lists.{same}
use Rattle.aol_shape.specs.Shape.{IsPointOf}
use Rattle.aol_tiler.specs.Tiler.{integers}
use Rattle.aol_shape.specs.Vectors.{is_inside}
use Rattle.aol_model_types.specs.declared.document.Model.{Model}
use Rattle.aol_model_types.specs.declared.place.Key.TheVariants.{KParts}
use Rattle.aol_model_types.specs.declared.task.Compound.{Compound}
use Rattle.aol_model_types.specs.declared.task.Part.{Part}
use Rattle.aol_model_types.specs.declared.task.Repeated.{Repeated}
use Rattle.aol_model_types.specs.declared.task.Task.{Task}
use Rattle.aol_model_types.specs.declared.task.Task.TheVariants as tasks
use Rattle.aol_model_types.specs.Places.{to_key}
use Rattle.aol_model_types.specs.Rules.{ShapesAgree, part_checks, is_new_part, is_earlier_task, task_name, task_named}
use Rattle.aol_flat.specs.Tasks.{main_task}
use Rattle.aol_flat.specs.Place.{Place, Down, IntoPart, IntoRepetition, task_at, task_below}
use Rattle.aol_flat.specs.Node.{Node, ToPart, ToBody, space_around, place_on, nodes_below, nodes}
use Rattle.aol_flat.specs.Instance.{Leaf, leaves_below, leaves, reshape_leaf}
use Rattle.aol_flat.proofs.Agree.{IsAmong-tail}
use Rattle.aol_flat.proofs.Among.{get_among}
use Rattle.aol_flat.proofs.Checked.{IsTaskOf, task_numbered, named_earlier, member, of_compound, of_repeated}
use Rattle.aol_flat.proofs.Find.{and_then_some}
use Rattle.aol_flat.proofs.Inside.{among_left, flat_map_among, numbered_among, point_both, inside_point, place_in_body}
use Rattle.aol_flat.proofs.Names.{both-true, slice_get-left}
use Rattle.aol_flat.proofs.Once.{there}

-- a member with its number, from 0
pub with_number : {X : Type 0} (xs : List X) (k : ℕ) (x : X) → slice_get xs k ≡ Some x → IsAmong (enumerate_from 0 xs) (k, x)
with_number {X = X} xs k x at =
    let number : 0 + k ≡ k = omega arith in
    let P : ℕ → Type 0 = λ n. IsAmong (enumerate_from 0 xs) (n, x) in
    subst P number (numbered_among xs 0 k x at)

-- the task of a name that an earlier task has stands before
pub record StandsBefore (m : Model) (before : List Task) (u : Task) : Type 0 where
  pub number : ℕ
  pub at : slice_get m.tasks number ≡ Some u
  pub under : number < length before

pub stands_before : (m : Model) (before rest : List Task) (name : List ℕ) (u : Task) → m.tasks ≡ before ++ rest → is_earlier_task before name ≡ true → task_named m.tasks name ≡ Some u → StandsBefore m before u
stands_before m before rest name u split earlier found =
    let v = there (task_named before name) earlier in
    let number : ℕ = position_or_len (λ (t : Task). same (task_name t) name) before in
    let in_front : slice_get before number ≡ Some v.0 = sym (find_at (λ (t : Task). same (task_name t) name) before) ∙ v.1 in
    let equal : Some v.0 ≡ Some u = sym (named_earlier m before rest name v.0 split v.1) ∙ found in
    record {
      number = number;
      at = ap (λ ts. slice_get ts number) split ∙ (slice_get-left before rest number v.0 in_front ∙ equal);
      under = slice_get_within before number v.0 in_front;
    }

-- an instance of a task: its node and indices, and what lies below that node in the lists
pub record OnNode (m : Model) (place : Place) (t : Task) : Type 0 where
  pub node : Node
  pub at : List ℕ
  pub inside : IsPointOf (space_around node) at
  pub is : place_on node at ≡ place
  pub task : IsTaskOf m t
  pub depth : ℕ
  pub deep : length task.before ≤ depth
  pub low : length place + length task.before < length m.tasks
  pub nodes_in : (x : Node × Task) → IsAmong (nodes_below (suc depth) m (Some t) node) x → IsAmong (nodes m) x
  pub leaves_in : (x : Leaf) → IsAmong (leaves_below (suc depth) m (Some t) node) x → IsAmong (leaves m) x

module _ (m : Model) (agree : ShapesAgree m) where
  root : (t : Task) → main_task m ≡ Some t → OnNode m [] t
  root t h =
      let number : ℕ = position_or_len (λ (u : Task). same (task_name u) m.main) m.tasks in
      let at : slice_get m.tasks number ≡ Some t = sym (find_at (λ (u : Task). same (task_name u) m.main) m.tasks) ∙ h in
      let within : number < length m.tasks = slice_get_within m.tasks number t at in
      let r = task_numbered m t number agree at in
      let whole : suc (length m.tasks - 1) ≡ length m.tasks = omega (arith, within) in
      let P : (Node × Task) → ℕ → Type 0 = λ x d. IsAmong (nodes_below d m (Some t) []) x in
      let Q : (Node × Task) → Option Task → Type 0 = λ x o. IsAmong (nodes_below (length m.tasks) m o []) x in
      let R : Leaf → ℕ → Type 0 = λ x d. IsAmong (leaves_below d m (Some t) []) x in
      let S : Leaf → Option Task → Type 0 = λ x o. IsAmong (leaves_below (length m.tasks) m o []) x in
      record {
        node = [];
        at = [];
        inside = tt;
        is = refl;
        task = r.0;
        depth = length m.tasks - 1;
        deep = omega (arith, r.1, within);
        low = omega (arith, r.1, within);
        nodes_in = λ x a. subst (Q x) (sym h) (subst (P x) whole a);
        leaves_in = λ x a. subst (S x) (sym h) (subst (R x) whole a);
      }

  into_part : (place : Place) (c : Compound) (k : ℕ) (p : Part) (u : Task) → OnNode m place (tasks.Compound c) → slice_get c.parts k ≡ Some p → task_named m.tasks p.task ≡ Some u → OnNode m (IntoPart k ∷ place) u
  into_part place c k p u o at found =
      let holds = of_compound o.task.before o.task.place c o.task.holds in
      let of_part = member (part_checks o.task.before) (to_key o.task.place KParts) c.parts p holds.parts (get_among c.parts k p at) in
      let h4 = both-true (is_new_part of_part.before p) _ of_part.holds in
      let h5 = both-true (is_earlier_task o.task.before p.task) true h4.1 in
      let s = stands_before m o.task.before (tasks.Compound c ∷ o.task.rest) p.task u o.task.split h5.0 found in
      let r = task_numbered m u s.number agree s.at in
      let less : suc (o.depth - 1) ≡ o.depth = omega (arith, o.deep, s.under) in
      let P : (Node × Task) → ℕ → Type 0 = λ x d. IsAmong (nodes_below d m (Some u) (ToPart k ∷ o.node)) x in
      let Q : (Node × Task) → Option Task → Type 0 = λ x t. IsAmong (nodes_below o.depth m t (ToPart k ∷ o.node)) x in
      let R : Leaf → ℕ → Type 0 = λ x d. IsAmong (leaves_below d m (Some u) (ToPart k ∷ o.node)) x in
      let S : Leaf → Option Task → Type 0 = λ x t. IsAmong (leaves_below o.depth m t (ToPart k ∷ o.node)) x in
      let f : ℕ × Part → List (Node × Task) = λ q. nodes_below o.depth m (task_named m.tasks q.1.task) (ToPart q.0 ∷ o.node) in
      let g : ℕ × Part → List Leaf = λ q. leaves_below o.depth m (task_named m.tasks q.1.task) (ToPart q.0 ∷ o.node) in
      record {
        node = ToPart k ∷ o.node;
        at = o.at;
        inside = o.inside;
        is = ap (λ (x : Place). IntoPart k ∷ x) o.is;
        task = r.0;
        depth = o.depth - 1;
        deep = omega (arith, r.1, o.deep, s.under);
        low = omega (arith, r.1, o.low, s.under);
        nodes_in = λ x a. o.nodes_in x (IsAmong-tail (o.node, tasks.Compound c) (flat_map f (enumerate_from 0 c.parts)) x
            (flat_map_among f (enumerate_from 0 c.parts) (k, p) x (with_number c.parts k p at) (subst (Q x) (sym found) (subst (P x) less a))));
        leaves_in = λ x a. o.leaves_in x (among_left (flat_map g (enumerate_from 0 c.parts)) (map (reshape_leaf o.node) (enumerate_from 0 c.reshapes)) x
            (flat_map_among g (enumerate_from 0 c.parts) (k, p) x (with_number c.parts k p at) (subst (S x) (sym found) (subst (R x) less a))));
      }

  into_repetition : (place : Place) (t : Repeated) (r : List ℕ) (u : Task) → OnNode m place (tasks.Repeated t) → IsPointOf t.space r → task_named m.tasks t.task ≡ Some u → OnNode m (IntoRepetition r ∷ place) u
  into_repetition place t r u o point found =
      let holds = of_repeated o.task.before o.task.place t o.task.holds in
      let s = stands_before m o.task.before (tasks.Repeated t ∷ o.task.rest) t.task u o.task.split holds.inner found in
      let of_task = task_numbered m u s.number agree s.at in
      let less : suc (o.depth - 1) ≡ o.depth = omega (arith, o.deep, s.under) in
      let P : (Node × Task) → ℕ → Type 0 = λ x d. IsAmong (nodes_below d m (Some u) (ToBody t.space ∷ o.node)) x in
      let Q : (Node × Task) → Option Task → Type 0 = λ x v. IsAmong (nodes_below o.depth m v (ToBody t.space ∷ o.node)) x in
      let R : Leaf → ℕ → Type 0 = λ x d. IsAmong (leaves_below d m (Some u) (ToBody t.space ∷ o.node)) x in
      let S : Leaf → Option Task → Type 0 = λ x v. IsAmong (leaves_below o.depth m v (ToBody t.space ∷ o.node)) x in
      record {
        node = ToBody t.space ∷ o.node;
        at = o.at ++ r;
        inside = point_both (space_around o.node) t.space o.at r o.inside point;
        is = place_in_body t.space o.node o.at r point ∙ ap (λ (x : Place). IntoRepetition r ∷ x) o.is;
        task = of_task.0;
        depth = o.depth - 1;
        deep = omega (arith, of_task.1, o.deep, s.under);
        low = omega (arith, of_task.1, o.low, s.under);
        nodes_in = λ x a. o.nodes_in x (IsAmong-tail (o.node, tasks.Repeated t) (nodes_below o.depth m (task_named m.tasks t.task) (ToBody t.space ∷ o.node)) x (subst (Q x) (sym found) (subst (P x) less a)));
        leaves_in = λ x a. o.leaves_in x (subst (S x) (sym found) (subst (R x) less a));
      }

  below : (place : Place) (t : Task) (d : Down) (u : Task) → OnNode m place t → task_below m t d ≡ Some u → OnNode m (d ∷ place) u
  below place (tasks.Elementary e) d u o h = cc
  below place (tasks.Compound c) (IntoRepetition r) u o h = cc
  below place (tasks.Repeated t) (IntoPart k) u o h = cc
  below place (tasks.Compound c) (IntoPart k) u o h =
      let found = and_then_some (λ (p : Part). task_named m.tasks p.task) (slice_get c.parts k) u h in
      into_part place c k found.0 u o found.1 found.2
  below place (tasks.Repeated t) (IntoRepetition r) u o h = go (is_inside t.space (integers r)) refl
    where
      go : (b : Bool) → is_inside t.space (integers r) ≡ b → OnNode m (IntoRepetition r ∷ place) u
      go true e = into_repetition place t r u o (inside_point t.space r e) (rw e at h)
      go false e = let k = rw e at h in cc

  -- so each instance that is there
  pub on_node : (place : Place) (t : Task) → task_at m place ≡ Some t → OnNode m place t
  on_node [] t h = root t h
  on_node (d ∷ up) t h =
      let found = and_then_some (λ v. task_below m v d) (task_at m up) t h in
      below up found.0 d t (on_node up found.0 found.1) found.2
