-- A model within the limits has no more leaves than instances, and no more instances than its walk.
use Rattle.std.proofs.Common.{◌≡◌, ℕ, zero, suc, ◌+◌, ◌*◌, ◌≤◌, nat_lt, Bool, true, false, cond, List, [], ◌∷◌, ◌++◌, length, map, flat_map, sum_by, Option, Some, None, find, sym, ◌∙◌, ap, refl, arith, subst}
use Rattle.std.specs.List.{AllByRecursion, enumerate_from}
use Rattle.std.proofs.lemmas.Bool.Decides.{nat_tests}
use Rattle.std.proofs.lemmas.List.{length-append, length-map}
use Rattle.std.proofs.lemmas.List.Sums.{sum_by-cons}
use Rattle.aol_shape.specs.declared.limit.LimitName.{LimitName}
use Rattle.aol_shape.specs.declared.limit.LimitName.TheVariants.{Hierarchy, Nodes, Walk, Work}
use Rattle.aol_shape.specs.Lists.{same, numbers_from, numbers_below}
use Rattle.aol_shape.specs.Shape.{size, points, point_at}
use Rattle.aol_shape.proofs.Sizes.{size_both, size_positive}
use Rattle.aol_expr_tree.specs.declared.port.Port.{Port}
use Rattle.aol_model_types.specs.declared.document.Model.{Model}
use Rattle.aol_model_types.specs.declared.task.Copied.{Copied}
use Rattle.aol_model_types.specs.declared.task.Elementary.{Elementary}
use Rattle.aol_model_types.specs.declared.task.OutPort.{OutPort}
use Rattle.aol_model_types.specs.declared.task.Part.{Part}
use Rattle.aol_model_types.specs.declared.task.Task.{Task}
use Rattle.aol_model_types.specs.declared.task.Task.TheVariants as tasks
use Rattle.aol_model_types.specs.Rules.{task_name, task_named}
use Rattle.aol_model_types.specs.Types.{IsReadModel, IsTask, IsCopied, IsOutPort, HasOutput}
use Rattle.aol_flat.specs.Instance.{Leaf, leaves_below, leaves, reshape_leaf, leaf_instances, instance_on, instances}
use Rattle.aol_flat.specs.Leaves.{instances_of}
use Rattle.aol_flat.specs.Limits.{max_hierarchy, max_node_count, max_walk, max_work, own_walk, own_work, passed, limit_at, first_past, IsBounded}
use Rattle.aol_flat.specs.Node.{Node, ToPart, ToBody, space_around, nodes_below, nodes}
use Rattle.aol_flat.specs.Tasks.{main_task}

-- ---- the walk of some nodes

-- the walk of all of them
abbrev pub walk_of : List (Node × Task) → ℕ
walk_of [] = 0
walk_of ((node, t) ∷ rest) = own_walk t * size (space_around node) + walk_of rest

walk_of-append : (a b : List (Node × Task)) → walk_of (a ++ b) ≡ walk_of a + walk_of b
walk_of-append [] b = omega arith
walk_of-append ((node, t) ∷ a) b = omega (arith, walk_of-append a b)

pub no_limit : (node : Node) (o : Option LimitName) (later : Option (Node × LimitName)) → limit_at node o later ≡ None → (o ≡ None) × (later ≡ None)
no_limit node None later h = (refl, h)
no_limit node (Some limit) later h = cc

within : (depth n w k : ℕ) → passed depth n w k ≡ None → w ≤ max_walk
within depth n w k h = go (nat_lt max_hierarchy depth) (nat_lt max_node_count n) (nat_lt max_walk w) (nat_lt max_work k) refl h
  where
    go : (a b c d : Bool) → nat_lt max_walk w ≡ c → cond a (Some Hierarchy) (cond b (Some Nodes) (cond c (Some Walk) (cond d (Some Work) None))) ≡ None → w ≤ max_walk
    go true b c d e h = cc
    go false true c d e h = cc
    go false false true d e h = cc
    go false false false d e h = grind (arith, nat_tests)

pub walk_within : (n w k : ℕ) (ns : List (Node × Task)) → w ≤ max_walk → first_past n w k ns ≡ None → w + walk_of ns ≤ max_walk
walk_within n w k [] few h = omega arith
walk_within n w k ((node, t) ∷ rest) few h =
    let w' : ℕ = w + own_walk t * size (space_around node) in
    let k' : ℕ = k + own_work t * size (space_around node) in
    let both = no_limit node (passed (length node + 1) (n + 1) w' k') (first_past (n + 1) w' k' rest) h in
    omega (arith, walk_within (n + 1) w' k' rest (within (length node + 1) (n + 1) w' k' both.0) both.1)

-- ---- what a task of a model that was read has

-- a listed task has an output, and its types hold
pub record IsReadTaskOf (t : Task) : Type 0 where
  pub types : IsTask t
  pub output : HasOutput t

found_read : (ts : List Task) (test : Task → Bool) (t : Task) → AllByRecursion IsTask ts → AllByRecursion HasOutput ts → find test ts ≡ Some t → IsReadTaskOf t
found_read [] test t types outputs h = cc
found_read (u ∷ ts) test t types outputs h = go (test u) refl (found_read ts test t types.1 outputs.1)
  where
    go : (b : Bool) → test u ≡ b → (find test ts ≡ Some t → IsReadTaskOf t) → IsReadTaskOf t
    go true e later =
        let k = rw e at h in
        let here : u ≡ t = cc in
        subst IsReadTaskOf here (record { types = types.0; output = outputs.0 })
    go false e later = later (rw e at h)

pub read_named : (m : Model) (name : List ℕ) (t : Task) → IsReadModel m → task_named m.tasks name ≡ Some t → IsReadTaskOf t
read_named m name t read h = found_read m.tasks (λ u. same (task_name u) name) t read.model.tasks read.outputs h

-- an elementary task has an element at least
some_element : (outs : List OutPort) → AllByRecursion IsOutPort outs → 1 ≤ length outs → 1 ≤ sum_by (λ (p : Port). size p.shape) (map (λ (o : OutPort). o.port) outs)
some_element [] types h = omega (arith, h)
some_element (o ∷ outs) types h =
    omega (arith, size_positive o.port.shape types.0.port.entry, sum_by-cons (λ (p : Port). size p.shape) o.port (map (λ (q : OutPort). q.port) outs))

elementary_walk : (e : Elementary) → IsReadTaskOf (tasks.Elementary e) → 1 ≤ own_walk (tasks.Elementary e)
elementary_walk e r =
    let many : 1 ≤ length e.outs = omega (arith, r.output, length-map e.outs (λ (o : OutPort). o.port)) in
    omega (arith, some_element e.outs r.types.outs many)

-- ---- leaves and instances against the walk

-- some leaves are no more than their instances, and these no more than the walk
pub record AreFew (ls : List Leaf) (walk : ℕ) : Type 0 where
  pub leaves : length ls ≤ instances_of ls
  pub instances : instances_of ls ≤ walk

instances-append : (a b : List Leaf) → instances_of (a ++ b) ≡ instances_of a + instances_of b
instances-append [] b = omega arith
instances-append (l ∷ a) b = omega (arith, instances-append a b)

few_both : (a b : List Leaf) (x y : ℕ) → AreFew a x → AreFew b y → AreFew (a ++ b) (x + y)
few_both a b x y f g = record {
  leaves = omega (arith, f.leaves, g.leaves, length-append a b, instances-append a b);
  instances = omega (arith, f.instances, g.instances, instances-append a b);
}

-- the copies that some reshapes make
abbrev copies : List Copied → ℕ
copies rs = sum_by (λ (r : Copied). size r.by.space * size r.by.pattern) rs

some_product : (a b : ℕ) → 1 ≤ a → 1 ≤ b → 1 ≤ a * b
some_product zero b h k = absurd (omega (arith, h))
some_product (suc a) zero h k = absurd (omega (arith, k))
some_product (suc a) (suc b) h k = let e : suc a * suc b ≡ suc a * b + suc a = grind arith in omega (arith, e)

copies_few : (node : Node) (k : ℕ) (rs : List Copied) → 1 ≤ size (space_around node) → AllByRecursion IsCopied rs → AreFew (map (reshape_leaf node) (enumerate_from k rs)) (copies rs * size (space_around node))
copies_few node k [] pos types = record { leaves = omega arith; instances = omega arith }
copies_few node k (r ∷ rs) pos types =
    let around : ℕ = size (space_around node) in
    let here : ℕ = size r.by.space * size r.by.pattern in
    let rest = copies_few node (k + 1) rs pos types.1 in
    let leaf : size ((space_around node ++ r.by.space) ++ r.by.pattern) ≡ (around * size r.by.space) * size r.by.pattern =
    size_both (space_around node ++ r.by.space) r.by.pattern ∙ ap (λ n. n * size r.by.pattern) (size_both (space_around node) r.by.space) in
    let regroup : (around * size r.by.space) * size r.by.pattern ≡ here * around = grind arith in
    let positive : 1 ≤ here * around = some_product here around (some_product (size r.by.space) (size r.by.pattern) (size_positive r.by.space types.0.space.entry) (size_positive r.by.pattern types.0.pattern.entry)) pos in
    let split : copies (r ∷ rs) ≡ here + copies rs = sum_by-cons (λ (q : Copied). size q.by.space * size q.by.pattern) r rs in
    let spread : (here + copies rs) * around ≡ here * around + copies rs * around = grind arith in
    let all : copies (r ∷ rs) * around ≡ here * around + copies rs * around = ap (λ n. n * around) split ∙ spread in
    record {
      leaves = omega (arith, rest.leaves, leaf, regroup, positive);
      instances = omega (arith, rest.instances, leaf, regroup, all);
    }

few_wider : (ls : List Leaf) (x y : ℕ) → AreFew ls x → x ≤ y → AreFew ls y
few_wider ls x y f h = record { leaves = f.leaves; instances = omega (arith, f.instances, h) }

times_most : (a b x : ℕ) → a ≤ b → a * x ≤ b * x
times_most a b zero h = let e : a * 0 ≡ 0 = grind arith in omega (arith, e)
times_most a b (suc x) h =
    let e : a * suc x ≡ a * x + a = grind arith in
    let f : b * suc x ≡ b * x + b = grind arith in
    omega (arith, e, f, h, times_most a b x h)

at_least : (a x : ℕ) → 1 ≤ a → x ≤ a * x
at_least a x h = let one : 1 * x ≡ x = grind arith in omega (arith, one, times_most 1 a x h)

module _ (m : Model) (read : IsReadModel m) where
  -- what is below a node, so many steps down
  abbrev FewBelow : ℕ → Type 0
  FewBelow fuel =
      (t : Option Task) (node : Node) → ((u : Task) → t ≡ Some u → IsReadTaskOf u) → 1 ≤ size (space_around node) → AreFew (leaves_below fuel m t node) (walk_of (nodes_below fuel m t node))

  parts_few : (fuel : ℕ) → FewBelow fuel → (k : ℕ) (parts : List Part) (node : Node) → 1 ≤ size (space_around node)
      → AreFew (flat_map (λ (p : ℕ × Part). leaves_below fuel m (task_named m.tasks p.1.task) (ToPart p.0 ∷ node)) (enumerate_from k parts))
      (walk_of (flat_map (λ (p : ℕ × Part). nodes_below fuel m (task_named m.tasks p.1.task) (ToPart p.0 ∷ node)) (enumerate_from k parts)))
  parts_few fuel few k [] node pos = record { leaves = omega arith; instances = omega arith }
  parts_few fuel few k (p ∷ parts) node pos =
      let g : ℕ × Part → List Leaf = λ q. leaves_below fuel m (task_named m.tasks q.1.task) (ToPart q.0 ∷ node) in
      let f : ℕ × Part → List (Node × Task) = λ q. nodes_below fuel m (task_named m.tasks q.1.task) (ToPart q.0 ∷ node) in
      let one = few (task_named m.tasks p.task) (ToPart k ∷ node) (λ u h. read_named m p.task u read h) pos in
      let rest = parts_few fuel few (k + 1) parts node pos in
      let W : ℕ → Type 0 = λ w. AreFew (g (k, p) ++ flat_map g (enumerate_from (k + 1) parts)) w in
      subst W (sym (walk_of-append (f (k, p)) (flat_map f (enumerate_from (k + 1) parts))))
      (few_both (g (k, p)) (flat_map g (enumerate_from (k + 1) parts)) (walk_of (f (k, p))) (walk_of (flat_map f (enumerate_from (k + 1) parts))) one rest)

  below_few : (fuel : ℕ) → FewBelow fuel
  below_few zero t node types pos = record { leaves = omega arith; instances = omega arith }
  below_few (suc fuel) None node types pos = record { leaves = omega arith; instances = omega arith }
  below_few (suc fuel) (Some (tasks.Elementary e)) node types pos =
      let around : ℕ = size (space_around node) in
      let enough : around ≤ own_walk (tasks.Elementary e) * around = at_least (own_walk (tasks.Elementary e)) around (elementary_walk e (types (tasks.Elementary e) refl)) in
      record { leaves = omega (arith, pos); instances = omega (arith, enough) }
  below_few (suc fuel) (Some (tasks.Compound c)) node types pos =
      let around : ℕ = size (space_around node) in
      let f : ℕ × Part → List (Node × Task) = λ p. nodes_below fuel m (task_named m.tasks p.1.task) (ToPart p.0 ∷ node) in
      let g : ℕ × Part → List Leaf = λ p. leaves_below fuel m (task_named m.tasks p.1.task) (ToPart p.0 ∷ node) in
      let inside : ℕ = walk_of (flat_map f (enumerate_from 0 c.parts)) in
      let own : copies c.reshapes * around ≤ own_walk (tasks.Compound c) * around = times_most (copies c.reshapes) (own_walk (tasks.Compound c)) around (omega arith) in
      few_wider (leaves_below (suc fuel) m (Some (tasks.Compound c)) node) (inside + copies c.reshapes * around) (own_walk (tasks.Compound c) * around + inside)
      (few_both (flat_map g (enumerate_from 0 c.parts)) (map (reshape_leaf node) (enumerate_from 0 c.reshapes)) inside (copies c.reshapes * around)
      (parts_few fuel (below_few fuel) 0 c.parts node pos) (copies_few node 0 c.reshapes pos (types (tasks.Compound c) refl).types.reshapes))
      (omega (arith, own))
  below_few (suc fuel) (Some (tasks.Repeated r)) node types pos =
      let space = (types (tasks.Repeated r) refl).types.space in
      let wider : 1 ≤ size (space_around node ++ r.space) =
      omega (arith, some_product (size (space_around node)) (size r.space) pos (size_positive r.space space.entry), size_both (space_around node) r.space) in
      let inner : List (Node × Task) = nodes_below fuel m (task_named m.tasks r.task) (ToBody r.space ∷ node) in
      few_wider (leaves_below fuel m (task_named m.tasks r.task) (ToBody r.space ∷ node)) (walk_of inner) (own_walk (tasks.Repeated r) * size (space_around node) + walk_of inner)
      (below_few fuel (task_named m.tasks r.task) (ToBody r.space ∷ node) (λ u h. read_named m r.task u read h) wider) (omega arith)

  -- a model within the limits has few leaves and instances
  pub all_few : IsBounded m → AreFew (leaves m) max_walk
  all_few bounded =
      few_wider (leaves m) (walk_of (nodes m)) max_walk (below_few (length m.tasks) (main_task m) [] (λ u h. read_named m m.main u read h) (omega arith))
      (omega (arith, walk_within 0 0 0 (nodes m) (omega arith) bounded))

-- ---- the instances

pub length-numbers : (from n : ℕ) → length (numbers_from from n) ≡ n
length-numbers from zero = refl
length-numbers from (suc n) = ap suc (length-numbers (from + 1) n)

length-instances_of : (ls : List Leaf) → length (flat_map leaf_instances ls) ≡ instances_of ls
length-instances_of [] = refl
length-instances_of (l ∷ ls) =
    length-append (leaf_instances l) (flat_map leaf_instances ls)
    ∙ (ap (λ n. n + length (flat_map leaf_instances ls)) (length-map (points l.space) (instance_on l) ∙ (length-map (numbers_below (size l.space)) (point_at l.space) ∙ length-numbers 0 (size l.space)))
    ∙ ap (λ n. size l.space + n) (length-instances_of ls))

-- how many instances a model has
pub length-instances : (m : Model) → length (instances m) ≡ instances_of (leaves m)
length-instances m = length-instances_of (leaves m)
