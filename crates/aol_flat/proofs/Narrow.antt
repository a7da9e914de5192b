-- In a model within the limits a u32 counts the nodes, the entries around each, its parts and its reshapes.
use Rattle.std.proofs.Common.{◌≡◌, ℕ, zero, suc, ◌+◌, ◌*◌, ◌^◌, ◌<◌, ◌≤◌, nat_lt, Bool, true, false, cond, List, [], ◌∷◌, length, map, Option, Some, None, slice_get, sym, ◌∙◌, ap, refl, arith, subst, ◌⊎◌, inl, inr}
use Rattle.std.specs.List.{IsAmong, enumerate_from}
use Rattle.std.proofs.lemmas.Bool.Decides.{nat_tests}
use Rattle.std.proofs.lemmas.List.{length-append}
use Rattle.std.proofs.lemmas.Option.{slice_get_within}
use Rattle.aol_shape.specs.declared.limit.LimitName.TheVariants.{Hierarchy, Nodes, Walk, Work}
use Rattle.aol_shape.specs.Shape.{size}
use Rattle.aol_model_types.specs.declared.document.Model.{Model}
use Rattle.aol_model_types.specs.declared.task.Part.{Part}
use Rattle.aol_model_types.specs.declared.task.Task.{Task}
use Rattle.aol_model_types.specs.declared.task.Task.TheVariants as tasks
use Rattle.aol_model_types.specs.Rules.{task_named}
use Rattle.aol_model_types.specs.Types.{IsReadModel}
use Rattle.aol_flat.specs.Instance.{Leaf, leaves_below, leaves, reshape_leaf}
use Rattle.aol_flat.specs.Leaves.{narrowed}
use Rattle.aol_flat.specs.Limits.{max_hierarchy, max_node_count, max_walk, max_work, own_walk, own_work, passed, first_past, IsBounded}
use Rattle.aol_flat.specs.Node.{Node, ToPart, ToBody, space_around, node_task, nodes_below, nodes}
use Rattle.aol_flat.specs.NodeTable.{reshape_number}
use Rattle.aol_flat.specs.Tasks.{main_task}
use Rattle.aol_flat.specs.Walked.{nodes_in, leaves_in}
use Rattle.aol_flat.proofs.Among.{among_append, among_flat_map, among_map, get_among}
use Rattle.aol_flat.proofs.Inside.{number_of_member}
use Rattle.aol_flat.proofs.Totals.{IsReadTaskOf, read_named, no_limit}
use Rattle.aol_flat.proofs.Visiting.{part_step, body_step}

-- ---- the limits at each node

none_passed : (depth n w k : ℕ) → passed depth n w k ≡ None → (depth ≤ max_hierarchy) × (n ≤ max_node_count)
none_passed depth n w k h = go (nat_lt max_hierarchy depth) (nat_lt max_node_count n) (nat_lt max_walk w) (nat_lt max_work k) refl refl h
  where
    go : (a b c d : Bool) → nat_lt max_hierarchy depth ≡ a → nat_lt max_node_count n ≡ b → cond a (Some Hierarchy) (cond b (Some Nodes) (cond c (Some Walk) (cond d (Some Work) None))) ≡ None
        → (depth ≤ max_hierarchy) × (n ≤ max_node_count)
    go true b c d e f h = cc
    go false true c d e f h = cc
    go false false c d e f h =
        let first : depth ≤ max_hierarchy = grind (arith, nat_tests) in
        let second : n ≤ max_node_count = grind (arith, nat_tests) in
        (first, second)

nodes_within : (n w k : ℕ) (ns : List (Node × Task)) → n ≤ max_node_count → first_past n w k ns ≡ None → n + length ns ≤ max_node_count
nodes_within n w k [] few h = omega (arith, few)
nodes_within n w k ((node, t) ∷ rest) few h =
    let w' : ℕ = w + own_walk t * size (space_around node) in
    let k' : ℕ = k + own_work t * size (space_around node) in
    let both = no_limit node (passed (length node + 1) (n + 1) w' k') (first_past (n + 1) w' k' rest) h in
    let here = none_passed (length node + 1) (n + 1) w' k' both.0 in
    omega (arith, nodes_within (n + 1) w' k' rest here.1 both.1)

deep_within : (n w k : ℕ) (ns : List (Node × Task)) (i : ℕ) (x : Node × Task) → first_past n w k ns ≡ None → slice_get ns i ≡ Some x → length x.0 < max_hierarchy
deep_within n w k [] i x h at = cc
deep_within n w k ((node, t) ∷ rest) zero x h at =
    let w' : ℕ = w + own_walk t * size (space_around node) in
    let k' : ℕ = k + own_work t * size (space_around node) in
    let both = no_limit node (passed (length node + 1) (n + 1) w' k') (first_past (n + 1) w' k' rest) h in
    let here = none_passed (length node + 1) (n + 1) w' k' both.0 in
    let is : node ≡ x.0 = let e : (node, t) ≡ x = cc in ap (λ (y : Node × Task). y.0) e in
    omega (arith, here.0, ap length is)
deep_within n w k ((node, t) ∷ rest) (suc i) x h at =
    let w' : ℕ = w + own_walk t * size (space_around node) in
    let k' : ℕ = k + own_work t * size (space_around node) in
    let both = no_limit node (passed (length node + 1) (n + 1) w' k') (first_past (n + 1) w' k' rest) h in
    deep_within (n + 1) w' k' rest i x both.1 at

pub few_nodes : (m : Model) → IsBounded m → length (nodes m) ≤ max_node_count
few_nodes m bounded = omega (arith, nodes_within 0 0 0 (nodes m) (omega arith) bounded)

-- ---- what is around each node

-- a u32 counts the parts on the way
abbrev pub PartsCounted : Node → Type 0
PartsCounted [] = Unit {0}
PartsCounted (ToPart k ∷ up) = (k < 2 ^ 32) × PartsCounted up
PartsCounted (ToBody space ∷ up) = PartsCounted up

pub record IsSmall (node : Node) : Type 0 where
  pub wide : length (space_around node) ≤ 12 * length node
  pub parts : PartsCounted node

-- the task of a listed node is the one that stands there
pub record IsListed (m : Model) (x : Node × Task) : Type 0 where
  pub small : IsSmall x.0
  pub task : node_task m x.0 ≡ Some x.1

head_or : {X : Type 0} (y : X) (ys : List X) (x : X) → IsAmong (y ∷ ys) x → (x ≡ y) ⊎ IsAmong ys x
head_or y ys x (zero, a) = inl a.1
head_or y ys x (suc i, a) = inr (i, (omega (arith, a.0), a.1))

module _ (m : Model) (read : IsReadModel m) where
  small_below : (fuel : ℕ) (o : Option Task) (top : Node) → ((u : Task) → o ≡ Some u → IsReadTaskOf u) → IsSmall top → node_task m top ≡ o
      → (x : Node × Task) → IsAmong (nodes_below fuel m o top) x → IsListed m x
  small_below zero o top types small at x a = absurd (omega (arith, a.1.0))
  small_below (suc fuel) None top types small at x a = absurd (omega (arith, a.1.0))
  small_below (suc fuel) (Some (tasks.Elementary e)) top types small at x a = go (head_or (top, tasks.Elementary e) [] x a)
    where
      go : (x ≡ (top, tasks.Elementary e)) ⊎ IsAmong [] x → IsListed m x
      go (inl is) = subst (IsListed m) (sym is) (record { small = small; task = at })
      go (inr b) = absurd (omega (arith, b.1.0))
  small_below (suc fuel) (Some (tasks.Compound c)) top types small at x a =
      go (head_or (top, tasks.Compound c) (nodes_in fuel m top (enumerate_from 0 c.parts)) x a)
      (λ k p fits here b. small_below fuel (task_named m.tasks p.task) (ToPart k ∷ top) (λ u h. read_named m p.task u read h)
      (record { wide = omega (arith, small.wide); parts = (fits, small.parts) }) (part_step m top c k p at here).task x b)
    where
      go : (x ≡ (top, tasks.Compound c)) ⊎ IsAmong (nodes_in fuel m top (enumerate_from 0 c.parts)) x
          → ((k : ℕ) (p : Part) → k < 2 ^ 32 → slice_get c.parts k ≡ Some p → IsAmong (nodes_below fuel m (task_named m.tasks p.task) (ToPart k ∷ top)) x → IsListed m x) → IsListed m x
      go (inl is) later = subst (IsListed m) (sym is) (record { small = small; task = at })
      go (inr b) later =
          let r = among_flat_map (λ (p : ℕ × Part). nodes_below fuel m (task_named m.tasks p.1.task) (ToPart p.0 ∷ top)) (enumerate_from 0 c.parts) x b in
          let k = number_of_member c.parts 0 r.0 r.1 in
          let within : k.0 < length c.parts = slice_get_within c.parts k.0 r.0.1 k.2 in
          let count = (types (tasks.Compound c) refl).types.part_count in
          let same_number : k.0 ≡ r.0.0 = omega (arith, k.1) in
          later r.0.0 r.0.1 (omega (arith, within, count, k.1)) (ap (slice_get c.parts) (sym same_number) ∙ k.2) r.2
  small_below (suc fuel) (Some (tasks.Repeated t)) top types small at x a =
      let rank = (types (tasks.Repeated t) refl).types.space.rank in
      go (head_or (top, tasks.Repeated t) (nodes_below fuel m (task_named m.tasks t.task) (ToBody t.space ∷ top)) x a)
      (λ b. small_below fuel (task_named m.tasks t.task) (ToBody t.space ∷ top) (λ u h. read_named m t.task u read h)
      (record { wide = omega (arith, small.wide, rank, length-append (space_around top) t.space); parts = small.parts }) (body_step m top t at).task x b)
    where
      go : (x ≡ (top, tasks.Repeated t)) ⊎ IsAmong (nodes_below fuel m (task_named m.tasks t.task) (ToBody t.space ∷ top)) x
          → (IsAmong (nodes_below fuel m (task_named m.tasks t.task) (ToBody t.space ∷ top)) x → IsListed m x) → IsListed m x
      go (inl is) later = subst (IsListed m) (sym is) (record { small = small; task = at })
      go (inr b) later = later b

  leaves_small : (fuel : ℕ) (o : Option Task) (top : Node) → ((u : Task) → o ≡ Some u → IsReadTaskOf u) → (l : Leaf) → IsAmong (leaves_below fuel m o top) l → reshape_number l.work < 2 ^ 32
  leaves_small zero o top types l a = absurd (omega (arith, a.1.0))
  leaves_small (suc fuel) None top types l a = absurd (omega (arith, a.1.0))
  leaves_small (suc fuel) (Some (tasks.Elementary e)) top types l (zero, a) = let is = ap (λ (l : Leaf). reshape_number l.work) a.1 in omega (arith, is)
  leaves_small (suc fuel) (Some (tasks.Elementary e)) top types l (suc i, a) = absurd (omega (arith, a.0))
  leaves_small (suc fuel) (Some (tasks.Compound c)) top types l a =
      go (among_append (leaves_in fuel m top (enumerate_from 0 c.parts)) (map (reshape_leaf top) (enumerate_from 0 c.reshapes)) l a)
      (λ k p b. leaves_small fuel (task_named m.tasks p.task) (ToPart k ∷ top) (λ u h. read_named m p.task u read h) l b)
    where
      go : IsAmong (leaves_in fuel m top (enumerate_from 0 c.parts)) l ⊎ IsAmong (map (reshape_leaf top) (enumerate_from 0 c.reshapes)) l
          → ((k : ℕ) (p : Part) → IsAmong (leaves_below fuel m (task_named m.tasks p.task) (ToPart k ∷ top)) l → reshape_number l.work < 2 ^ 32) → reshape_number l.work < 2 ^ 32
      go (inl b) later =
          let r = among_flat_map (λ (p : ℕ × Part). leaves_below fuel m (task_named m.tasks p.1.task) (ToPart p.0 ∷ top)) (enumerate_from 0 c.parts) l b in
          later r.0.0 r.0.1 r.2
      go (inr b) later =
          let r = among_map (reshape_leaf top) (enumerate_from 0 c.reshapes) l b in
          let k = number_of_member c.reshapes 0 r.0 r.1 in
          let within : k.0 < length c.reshapes = slice_get_within c.reshapes k.0 r.0.1 k.2 in
          let is : reshape_number l.work ≡ r.0.0 = ap (λ (l : Leaf). reshape_number l.work) r.2 in
          omega (arith, within, (types (tasks.Compound c) refl).types.reshape_count, k.1, is)
  leaves_small (suc fuel) (Some (tasks.Repeated t)) top types l a =
      leaves_small fuel (task_named m.tasks t.task) (ToBody t.space ∷ top) (λ u h. read_named m t.task u read h) l a

  listed_node : (k : ℕ) (x : Node × Task) → slice_get (nodes m) k ≡ Some x → IsListed m x
  listed_node k x h =
      small_below (length m.tasks) (main_task m) [] (λ u e. read_named m m.main u read e) (record { wide = omega arith; parts = tt }) refl x (get_among (nodes m) k x h)

  pub small_node : (k : ℕ) (x : Node × Task) → slice_get (nodes m) k ≡ Some x → IsSmall x.0
  small_node k x h = (listed_node k x h).small

  -- the task of a listed node
  pub task_of_node : (k : ℕ) (x : Node × Task) → slice_get (nodes m) k ≡ Some x → node_task m x.0 ≡ Some x.1
  task_of_node k x h = (listed_node k x h).task

  -- so its entries are counted
  pub few_around : (k : ℕ) (x : Node × Task) → IsBounded m → slice_get (nodes m) k ≡ Some x → narrowed (length (space_around x.0)) ≡ length (space_around x.0)
  few_around k x bounded h =
      let deep = deep_within 0 0 0 (nodes m) k x bounded h in
      let wide = (small_node k x h).wide in
      omega (arith, deep, wide)

  pub small_leaf : (k : ℕ) (l : Leaf) → slice_get (leaves m) k ≡ Some l → reshape_number l.work < 2 ^ 32
  small_leaf k l h = leaves_small (length m.tasks) (main_task m) [] (λ u e. read_named m m.main u read e) l (get_among (leaves m) k l h)
