-- A walk goes over a node: first the node itself, then what is below it, then the reshapes of a compound task.
use Rattle.std.proofs.Common.{◌≡◌, ℕ, zero, suc, ◌+◌, ◌<◌, ◌≤◌, List, [], ◌∷◌, ◌++◌, length, map, flat_map, take, drop, get_or, codes, decimal, Option, Some, None, slice_get, option_and_then, option_map, unwrap_or, Result, Ok, Err, string_bytes, sym, ◌∙◌, ap, refl, arith, subst, add-one}
use Rattle.std.specs.List.{IsAmong, enumerate_from}
use Rattle.std.proofs.Math.Seq.{take-suc}
use Rattle.std.proofs.lemmas.List.{append-nil, take_all}
use Rattle.std.proofs.lemmas.Grind.{flat_map-append}
use Rattle.aol_model_types.specs.declared.document.Model.{Model}
use Rattle.aol_model_types.specs.declared.task.Compound.{Compound}
use Rattle.aol_model_types.specs.declared.task.Copied.{Copied}
use Rattle.aol_model_types.specs.declared.task.Elementary.{Elementary}
use Rattle.aol_model_types.specs.declared.task.Part.{Part}
use Rattle.aol_model_types.specs.declared.task.Repeated.{Repeated}
use Rattle.aol_model_types.specs.declared.task.Task.{Task}
use Rattle.aol_model_types.specs.declared.task.Task.TheVariants as tasks
use Rattle.aol_model_types.specs.Rules.{task_name, task_named}
use Rattle.aol_flat.specs.declared.refused.FlatRefused.{FlatRefused}
use Rattle.aol_flat.specs.declared.spot.Spot.{Spot}
use Rattle.aol_flat.specs.declared.walk.Walk.{Walk}
use Rattle.aol_shape.specs.Shape.{size}
use Rattle.aol_flat.specs.declared.leaf.LeafKind.TheVariants as kinds
use Rattle.aol_flat.specs.Instance.{Leaf, Computes, leaves_below, reshape_leaf}
use Rattle.aol_flat.specs.Leaves.{narrowed}
use Rattle.aol_flat.specs.Saturated.{saturated}
use Rattle.aol_flat.specs.Node.{Node, Branch, ToPart, ToBody, space_around, node_task, task_under, nodes_below, branch_text, steps_text, root_or}
use Rattle.aol_flat.specs.Numbered.{StandOnEarlier, number_named}
use Rattle.aol_flat.specs.Walked.{IsSpot, StandsAt, IsStep, AreBelow, GoesOver, GoesBelow, GoesDown, GoesOverParts, GoesOverRun, GoesOverCopy, GoesOverCopies, nodes_in, leaves_in}
use Rattle.aol_flat.proofs.TaskNumbers.{found, first_of_own, none_from}
use Rattle.aol_flat.proofs.Walking.{goes_on, stops, stays, pushes}
use Rattle.aol_flat.proofs.Among.{map_among, get_among}

-- what a walk answers
abbrev pub Answer : Type 0
Answer = Result (Unit {0}) FlatRefused

-- ---- lists with numbers

enumerate-append : {X : Type 0} (from : ℕ) (xs ys : List X) → enumerate_from from (xs ++ ys) ≡ enumerate_from from xs ++ enumerate_from (from + length xs) ys
enumerate-append from [] ys = let none : from ≡ from + 0 = omega arith in ap (λ n. enumerate_from n ys) none
enumerate-append from (x ∷ xs) ys =
    let more : (from + 1) + length xs ≡ from + suc (length xs) = omega arith in
    ap (λ rest. (from, x) ∷ rest) (enumerate-append (from + 1) xs ys ∙ ap (λ n. enumerate_from (from + 1) xs ++ enumerate_from n ys) more)

length-take : {X : Type 0} (xs : List X) (i : ℕ) → i ≤ length xs → length (take i xs) ≡ i
length-take xs zero h = refl
length-take [] (suc i) h = absurd (omega (arith, h))
length-take (x ∷ xs) (suc i) h = ap suc (length-take xs i (omega (arith, h)))

take_drop : {X : Type 0} (i : ℕ) (xs : List X) → take i xs ++ drop i xs ≡ xs
take_drop zero xs = refl
take_drop (suc i) [] = refl
take_drop (suc i) (x ∷ xs) = ap (λ ys. x ∷ ys) (take_drop i xs)

-- one member more
pub numbered_more : {X Y : Type 0} (f : ℕ × X → List Y) (xs : List X) (i : ℕ) (x : X) → i < length xs → x ≡ get_or xs i x
    → flat_map f (enumerate_from 0 (take (i + 1) xs)) ≡ flat_map f (enumerate_from 0 (take i xs)) ++ f (i, x)
numbered_more f xs i x lt is =
    let longer : take (i + 1) xs ≡ take i xs ++ x ∷ [] = rw add-one (take-suc xs i x lt ∙ ap (λ y. take i xs ++ y ∷ []) (sym is)) in
    let number : 0 + length (take i xs) ≡ i = omega (arith, length-take xs i (omega (arith, lt))) in
    ap (λ ys. flat_map f (enumerate_from 0 ys)) longer
    ∙ (ap (flat_map f) (enumerate-append 0 (take i xs) (x ∷ []) ∙ ap (λ n. enumerate_from 0 (take i xs) ++ (n, x) ∷ []) number)
    ∙ (flat_map-append f (enumerate_from 0 (take i xs)) ((i, x) ∷ []) ∙ ap (λ ys. flat_map f (enumerate_from 0 (take i xs)) ++ ys) (append-nil (f (i, x)))))

-- a front, and what comes after it
pub numbered_rest : {X Y : Type 0} (f : ℕ × X → List Y) (xs : List X) (i : ℕ)
    → flat_map f (enumerate_from 0 xs) ≡ flat_map f (enumerate_from 0 (take i xs)) ++ flat_map f (enumerate_from (0 + length (take i xs)) (drop i xs))
numbered_rest f xs i =
    ap (λ ys. flat_map f (enumerate_from 0 ys)) (sym (take_drop i xs))
    ∙ (ap (flat_map f) (enumerate-append 0 (take i xs) (drop i xs)) ∙ flat_map-append f (enumerate_from 0 (take i xs)) (enumerate_from (0 + length (take i xs)) (drop i xs)))

-- ---- a step down

module _ (m : Model) where
  -- into a part
  pub part_step : (node : Node) (c : Compound) (k : ℕ) (p : Part) → node_task m node ≡ Some (tasks.Compound c) → slice_get c.parts k ≡ Some p → IsStep m node (ToPart k) p.task p.name []
  part_step node c k p at listed = record {
    task =
        ap (λ t. option_and_then (λ u. task_under m u (ToPart k)) t) at
        ∙ ap (λ q. option_and_then (λ (q : Part). task_named m.tasks q.task) q) listed;
    text_is = ap (λ t. branch_text t (ToPart k)) at ∙ ap (λ o. unwrap_or (option_map (λ (q : Part). q.name) o) []) listed;
    around = sym (append-nil (space_around node));
  }

  -- into the body of a repetition
  pub body_step : (node : Node) (r : Repeated) → node_task m node ≡ Some (tasks.Repeated r) → IsStep m node (ToBody r.space) r.task (codes "*") r.space
  body_step node r at = record {
    task = ap (λ t. option_and_then (λ u. task_under m u (ToBody r.space)) t) at;
    text_is = ap (λ t. branch_text t (ToBody r.space)) at;
    around = refl;
  }

  -- the spot after a step
  pub spot_below : (node : Node) (branch : Branch) (name text space : List ℕ) (spot below : Spot) → IsSpot m node spot → IsStep m node branch name text space
      → below.depth ≡ spot.depth + 1 → below.space ≡ spot.space ++ space → string_bytes below.path ≡ string_bytes spot.path ++ codes "/" ++ text → IsSpot m (branch ∷ node) below
  spot_below node branch name text space spot below at step deeper wider longer = record {
    depth = deeper ∙ (ap (λ n. n + 1) at.depth ∙ deep (length node));
    space = wider ∙ (ap (λ s. s ++ space) at.space ∙ sym step.around);
    path = longer ∙ (ap (λ p. p ++ codes "/" ++ text) at.path ∙ ap (λ t. steps_text m node ++ codes "/" ++ t) (sym step.text_is));
  }
    where
      deep : (n : ℕ) → (n + 1) + 1 ≡ suc n + 1
      deep n = omega arith

  pub no_nodes : (fuel : ℕ) (node : Node) → nodes_below fuel m None node ≡ []
  no_nodes zero node = refl
  no_nodes (suc fuel) node = refl

  pub no_leaves : (fuel : ℕ) (node : Node) → leaves_below fuel m None node ≡ []
  no_leaves zero node = refl
  no_leaves (suc fuel) node = refl

  -- a name without a task leads nowhere
  pub nowhere : (name text space : List ℕ) (spot : Spot) (walk : Walk) (done : Unit {0}) → number_named m.tasks name ≡ None → GoesDown m name text space spot walk walk (Ok done)
  nowhere name text space spot walk done none node branch fuel at step low =
      let missing : task_named m.tasks name ≡ None = none_from 0 m.tasks name none in
      let nodes_are : nodes_below fuel m (task_named m.tasks name) (branch ∷ node) ≡ [] = ap (λ t. nodes_below fuel m t (branch ∷ node)) missing ∙ no_nodes fuel (branch ∷ node) in
      let leaves_are : leaves_below fuel m (task_named m.tasks name) (branch ∷ node) ≡ [] = ap (λ t. leaves_below fuel m t (branch ∷ node)) missing ∙ no_leaves fuel (branch ∷ node) in
      let P : List (Node × Task) → Type 0 = λ ns. GoesOver m ns (leaves_below fuel m (task_named m.tasks name) (branch ∷ node)) walk walk (Ok done) in
      let Q : List Leaf → Type 0 = λ ls. GoesOver m [] ls walk walk (Ok done) in
      subst P (sym nodes_are) (subst Q (sym leaves_are) (stays m walk done))

  -- a name with one leads to its node
  pub leads : (name text space : List ℕ) (spot below : Spot) (s0 s1 : Walk) (number : ℕ) (answer : Answer) → number_named m.tasks name ≡ Some number
      → below.depth ≡ spot.depth + 1 → below.space ≡ spot.space ++ space → string_bytes below.path ≡ string_bytes spot.path ++ codes "/" ++ text
      → GoesBelow m number below s0 s1 answer → GoesDown m name text space spot s0 s1 answer
  leads name text space spot below s0 s1 number answer named deeper wider longer goes node branch fuel at step low =
      let f = found m.tasks name number named in
      let stands : StandsAt m (branch ∷ node) number f.task = record { at_node = step.task ∙ f.is; listed = f.at; first = first_of_own m.tasks name number named } in
      let P : Option Task → Type 0 = λ t. GoesOver m (nodes_below fuel m t (branch ∷ node)) (leaves_below fuel m t (branch ∷ node)) s0 s1 answer in
      subst P (sym f.is) (goes (branch ∷ node) f.task fuel (spot_below node branch name text space spot below at step deeper wider longer) stands (low number named))

-- ---- the parts of a compound task

module _ (m : Model) (c : Compound) (spot : Spot) where
  -- so far
  abbrev pub GoesOverFront : ℕ → Walk → Walk → Answer → Type 0
  GoesOverFront i s0 s1 answer =
      (node : Node) (fuel : ℕ) → IsSpot m node spot → node_task m node ≡ Some (tasks.Compound c) → AreBelow m fuel c.parts
      → GoesOver m (nodes_in fuel m node (enumerate_from 0 (take i c.parts))) (leaves_in fuel m node (enumerate_from 0 (take i c.parts))) s0 s1 answer

  pub front_more : (i : ℕ) (p : Part) (s0 s1 s2 : Walk) (r1 r2 : Answer) (done : Unit {0}) → i < length c.parts → p ≡ get_or c.parts i p → slice_get c.parts i ≡ Some p
      → GoesOverFront i s0 s1 r1 → r1 ≡ Ok done → GoesDown m p.task p.name [] spot s1 s2 r2 → GoesOverFront (i + 1) s0 s2 r2
  front_more i p s0 s1 s2 r1 r2 done lt is listed front was down node fuel at stands low =
      let f : ℕ × Part → List (Node × Task) = λ q. nodes_below fuel m (task_named m.tasks q.1.task) (ToPart q.0 ∷ node) in
      let g : ℕ × Part → List Leaf = λ q. leaves_below fuel m (task_named m.tasks q.1.task) (ToPart q.0 ∷ node) in
      let P : List (Node × Task) → Type 0 = λ ns. GoesOver m ns (leaves_in fuel m node (enumerate_from 0 (take (i + 1) c.parts))) s0 s2 r2 in
      let Q : List Leaf → Type 0 = λ ls. GoesOver m (nodes_in fuel m node (enumerate_from 0 (take i c.parts)) ++ f (i, p)) ls s0 s2 r2 in
      subst P (sym (numbered_more f c.parts i p lt is)) (subst Q (sym (numbered_more g c.parts i p lt is))
      (goes_on m (nodes_in fuel m node (enumerate_from 0 (take i c.parts))) (f (i, p)) (leaves_in fuel m node (enumerate_from 0 (take i c.parts))) (g (i, p)) s0 s1 s2 r1 r2 done
      (front node fuel at stands low) was (down node (ToPart i) fuel at (part_step m node c i p stands listed) (λ j h. low i j p listed h))))

  pub front_all : (i : ℕ) (s0 s1 : Walk) (r : Answer) → length c.parts ≤ i → GoesOverFront i s0 s1 r → GoesOverParts m c spot s0 s1 r
  front_all i s0 s1 r long front =
      let P : List Part → Type 0 = λ parts.
      (node : Node) (fuel : ℕ) → IsSpot m node spot → node_task m node ≡ Some (tasks.Compound c) → AreBelow m fuel c.parts
      → GoesOver m (nodes_in fuel m node (enumerate_from 0 parts)) (leaves_in fuel m node (enumerate_from 0 parts)) s0 s1 r in
      subst P (take_all i c.parts long) front

  pub front_stops : (i : ℕ) (s0 s1 : Walk) (r : Answer) (e : FlatRefused) → GoesOverFront i s0 s1 r → r ≡ Err e → GoesOverParts m c spot s0 s1 (Err e)
  front_stops i s0 s1 r e front was node fuel at stands low =
      let f : ℕ × Part → List (Node × Task) = λ q. nodes_below fuel m (task_named m.tasks q.1.task) (ToPart q.0 ∷ node) in
      let g : ℕ × Part → List Leaf = λ q. leaves_below fuel m (task_named m.tasks q.1.task) (ToPart q.0 ∷ node) in
      let rest : List (ℕ × Part) = enumerate_from (0 + length (take i c.parts)) (drop i c.parts) in
      let P : List (Node × Task) → Type 0 = λ ns. GoesOver m ns (leaves_in fuel m node (enumerate_from 0 c.parts)) s0 s1 (Err e) in
      let Q : List Leaf → Type 0 = λ ls. GoesOver m (nodes_in fuel m node (enumerate_from 0 (take i c.parts)) ++ nodes_in fuel m node rest) ls s0 s1 (Err e) in
      subst P (sym (numbered_rest f c.parts i)) (subst Q (sym (numbered_rest g c.parts i))
      (stops m (nodes_in fuel m node (enumerate_from 0 (take i c.parts))) (nodes_in fuel m node rest) (leaves_in fuel m node (enumerate_from 0 (take i c.parts))) (leaves_in fuel m node rest) s0 s1 s1 r e
      (front node fuel at stands low) was))

-- ---- a node and what is below it

-- the nodes below one with this task
abbrev pub nodes_under : ℕ → Model → Task → Node → List (Node × Task)
nodes_under fuel m (tasks.Elementary e) node = []
nodes_under fuel m (tasks.Compound c) node = nodes_in fuel m node (enumerate_from 0 c.parts)
nodes_under fuel m (tasks.Repeated r) node = nodes_below fuel m (task_named m.tasks r.task) (ToBody r.space ∷ node)

-- the leaves at and below one with this task
abbrev pub leaves_under : ℕ → Model → Task → Node → List Leaf
leaves_under fuel m (tasks.Elementary e) node = record { node = node; work = Computes; space = space_around node } ∷ []
leaves_under fuel m (tasks.Compound c) node = leaves_in fuel m node (enumerate_from 0 c.parts) ++ map (reshape_leaf node) (enumerate_from 0 c.reshapes)
leaves_under fuel m (tasks.Repeated r) node = leaves_below fuel m (task_named m.tasks r.task) (ToBody r.space ∷ node)

pub nodes_split : (fuel : ℕ) (m : Model) (t : Task) (node : Node) → nodes_below (suc fuel) m (Some t) node ≡ (node, t) ∷ nodes_under fuel m t node
nodes_split fuel m (tasks.Elementary e) node = refl
nodes_split fuel m (tasks.Compound c) node = refl
nodes_split fuel m (tasks.Repeated r) node = refl

pub leaves_split : (fuel : ℕ) (m : Model) (t : Task) (node : Node) → leaves_below (suc fuel) m (Some t) node ≡ leaves_under fuel m t node
leaves_split fuel m (tasks.Elementary e) node = refl
leaves_split fuel m (tasks.Compound c) node = refl
leaves_split fuel m (tasks.Repeated r) node = refl

-- the walk goes over what is below a node with this task
abbrev pub GoesUnder : Model → ℕ → Task → Spot → Walk → Walk → Answer → Type 0
GoesUnder m number t spot s0 s1 answer =
    (node : Node) (fuel : ℕ) → IsSpot m node spot → StandsAt m node number t → number ≤ fuel → GoesOver m (nodes_under fuel m t node) (leaves_under fuel m t node) s0 s1 answer

pub listed_task : (ts : List Task) (k : ℕ) (t u : Task) → slice_get ts k ≡ Some t → u ≡ get_or ts k u → t ≡ u
listed_task [] k t u h is = cc
listed_task (x ∷ ts) zero t u h is = let here : x ≡ t = cc in sym here ∙ sym is
listed_task (x ∷ ts) (suc k) t u h is = listed_task ts k t u h is

module _ (m : Model) (number : ℕ) (task : Task) (spot : Spot) (is : task ≡ get_or m.tasks number task) where
  -- a limit is passed at the node
  pub refused_there : (s0 s1 : Walk) (answer : Answer)
      → ((node : Node) (more : List (Node × Task)) (la : List Leaf) → IsSpot m node spot → GoesOver m ((node, task) ∷ more) la s0 s1 answer) → GoesBelow m number spot s0 s1 answer
  refused_there s0 s1 answer refused node t zero at stands low = absurd (omega (arith, low))
  refused_there s0 s1 answer refused node t (suc fuel) at stands low =
      let same_task : t ≡ task = listed_task m.tasks number t task stands.listed is in
      let P : Task → Type 0 = λ u. GoesOver m (nodes_below (suc fuel) m (Some u) node) (leaves_below (suc fuel) m (Some u) node) s0 s1 answer in
      let Q : List (Node × Task) → Type 0 = λ ns. GoesOver m ns (leaves_below (suc fuel) m (Some task) node) s0 s1 answer in
      subst P (sym same_task) (subst Q (sym (nodes_split fuel m task node)) (refused node (nodes_under fuel m task node) (leaves_below (suc fuel) m (Some task) node) at))

  -- the node, and then what is below it
  pub node_first : (s0 s1 s2 : Walk) (done : Unit {0}) (answer : Answer) → ((node : Node) → IsSpot m node spot → GoesOver m ((node, task) ∷ []) [] s0 s1 (Ok done))
      → GoesUnder m number task spot s1 s2 answer → GoesBelow m number spot s0 s2 answer
  node_first s0 s1 s2 done answer entered under node t zero at stands low = absurd (omega (arith, low))
  node_first s0 s1 s2 done answer entered under node t (suc fuel) at stands low =
      let same_task : t ≡ task = listed_task m.tasks number t task stands.listed is in
      let S : Task → Type 0 = λ u. StandsAt m node number u in
      let P : Task → Type 0 = λ u. GoesOver m (nodes_below (suc fuel) m (Some u) node) (leaves_below (suc fuel) m (Some u) node) s0 s2 answer in
      let Q : List (Node × Task) → Type 0 = λ ns. GoesOver m ns (leaves_below (suc fuel) m (Some task) node) s0 s2 answer in
      let R : List Leaf → Type 0 = λ ls. GoesOver m ((node, task) ∷ nodes_under fuel m task node) ls s0 s2 answer in
      subst P (sym same_task) (subst Q (sym (nodes_split fuel m task node)) (subst R (sym (leaves_split fuel m task node))
      (goes_on m ((node, task) ∷ []) (nodes_under fuel m task node) [] (leaves_under fuel m task node) s0 s1 s2 (Ok done) answer done
      (entered node at) refl (under node fuel at (subst S same_task stands) (omega (arith, low))))))

parts_below : (m : Model) (number : ℕ) (c : Compound) (fuel : ℕ) (node : Node) → StandOnEarlier m.tasks → StandsAt m node number (tasks.Compound c) → number ≤ fuel → AreBelow m fuel c.parts
parts_below m number c fuel node earlier stands low k j p listed named =
    let among : IsAmong (map (λ (q : Part). q.task) c.parts) p.task = map_among (λ (q : Part). q.task) c.parts p (get_among c.parts k p listed) in
    omega (arith, earlier number j (tasks.Compound c) p.task stands.listed among named, low)

-- below a compound task: its parts, and then its reshapes
pub under_compound : (m : Model) (number : ℕ) (c : Compound) (spot : Spot) (s0 s1 s2 : Walk) (r1 r2 : Answer) (done : Unit {0}) → StandOnEarlier m.tasks
    → GoesOverParts m c spot s0 s1 r1 → r1 ≡ Ok done → GoesOverCopies c.reshapes spot s1 s2 r2 → GoesUnder m number (tasks.Compound c) spot s0 s2 r2
under_compound m number c spot s0 s1 s2 r1 r2 done earlier parts was copies node fuel at stands low =
    let below : AreBelow m fuel c.parts = parts_below m number c fuel node earlier stands low in
    let all : List (Node × Task) = nodes_in fuel m node (enumerate_from 0 c.parts) in
    let P : List (Node × Task) → Type 0 = λ ns. GoesOver m ns (leaves_in fuel m node (enumerate_from 0 c.parts) ++ map (reshape_leaf node) (enumerate_from 0 c.reshapes)) s0 s2 r2 in
    subst P (append-nil all) (goes_on m all [] (leaves_in fuel m node (enumerate_from 0 c.parts)) (map (reshape_leaf node) (enumerate_from 0 c.reshapes)) s0 s1 s2 r1 r2 done
    (parts node fuel at stands.at_node below) was (copies m node at))

-- where the walk stops in its parts
pub under_compound_stops : (m : Model) (number : ℕ) (c : Compound) (spot : Spot) (s0 s1 : Walk) (r : Answer) (e : FlatRefused) → StandOnEarlier m.tasks
    → GoesOverParts m c spot s0 s1 r → r ≡ Err e → GoesUnder m number (tasks.Compound c) spot s0 s1 (Err e)
under_compound_stops m number c spot s0 s1 r e earlier parts was node fuel at stands low =
    let below : AreBelow m fuel c.parts = parts_below m number c fuel node earlier stands low in
    let all : List (Node × Task) = nodes_in fuel m node (enumerate_from 0 c.parts) in
    let P : List (Node × Task) → Type 0 = λ ns. GoesOver m ns (leaves_in fuel m node (enumerate_from 0 c.parts) ++ map (reshape_leaf node) (enumerate_from 0 c.reshapes)) s0 s1 (Err e) in
    subst P (append-nil all) (stops m all [] (leaves_in fuel m node (enumerate_from 0 c.parts)) (map (reshape_leaf node) (enumerate_from 0 c.reshapes)) s0 s1 s1 r e
    (parts node fuel at stands.at_node below) was)

-- at an elementary task: its leaf
pub under_elementary : (m : Model) (number : ℕ) (e : Elementary) (spot : Spot) (s0 s1 : Walk) (r : Answer) → GoesOverRun number spot s0 s1 r → GoesUnder m number (tasks.Elementary e) spot s0 s1 r
under_elementary m number e spot s0 s1 r run node fuel at stands low = run m node (tasks.Elementary e) at stands

-- below a repeated task: its body
pub under_repeated : (m : Model) (number : ℕ) (t : Repeated) (spot : Spot) (s0 s1 : Walk) (r : Answer) → StandOnEarlier m.tasks → GoesDown m t.task (codes "*") t.space spot s0 s1 r
    → GoesUnder m number (tasks.Repeated t) spot s0 s1 r
under_repeated m number t spot s0 s1 r earlier down node fuel at stands low =
    down node (ToBody t.space) fuel at (body_step m node t stands.at_node)
    (λ j named. omega (arith, earlier number j (tasks.Repeated t) t.task stands.listed (0, (omega arith, refl)) named, low))

-- ---- the leaves at a node

pub run_there : (number : ℕ) (spot : Spot) (s0 s1 : Walk) (path space : List ℕ) (done : Unit {0})
    → path ≡ root_or (string_bytes spot.path) → space ≡ spot.space ++ [] ++ []
    → s1.counts ≡ s0.counts → s1.instances ≡ saturated (s0.instances + saturated (size space))
    → s1.leaves ≡ s0.leaves ++ record { path = path; space = space; base = narrowed s0.instances; count = narrowed (saturated (size space)); kind = kinds.Elementary number } ∷ []
    → GoesOverRun number spot s0 s1 (Ok done)
run_there number spot s0 s1 path space done path_is space_is counts instances rows m node t at stands =
    let l : Leaf = record { node = node; work = Computes; space = space_around node } in
    let there : unwrap_or (option_and_then (λ t. number_named m.tasks (task_name t)) (node_task m node)) 0 ≡ number =
    ap (λ o. unwrap_or (option_and_then (λ t. number_named m.tasks (task_name t)) o) 0) stands.at_node ∙ ap (λ o. unwrap_or o 0) stands.first in
    let bare : spot.space ++ [] ++ [] ≡ spot.space = append-nil (spot.space ++ []) ∙ append-nil spot.space in
    pushes m l s0 s1 path space (kinds.Elementary number) done counts instances rows
    (path_is ∙ ap root_or at.path)
    (space_is ∙ (bare ∙ at.space))
    (ap kinds.Elementary (sym there))

pub copy_there : (number : ℕ) (r : Copied) (spot : Spot) (s0 s1 : Walk) (path space : List ℕ) (done : Unit {0})
    → path ≡ string_bytes spot.path ++ codes "/#" ++ decimal number → space ≡ spot.space ++ r.by.space ++ r.by.pattern
    → s1.counts ≡ s0.counts → s1.instances ≡ saturated (s0.instances + saturated (size space))
    → s1.leaves ≡ s0.leaves ++ record { path = path; space = space; base = narrowed s0.instances; count = narrowed (saturated (size space)); kind = kinds.Copy } ∷ []
    → GoesOverCopy number r spot s0 s1 (Ok done)
copy_there number r spot s0 s1 path space done path_is space_is counts instances rows m node at =
    pushes m (reshape_leaf node (number, r)) s0 s1 path space kinds.Copy done counts instances rows
    (path_is ∙ ap (λ p. p ++ codes "/#" ++ decimal number) at.path)
    (space_is ∙ ap (λ s. s ++ r.by.space ++ r.by.pattern) at.space)
    refl

-- ---- the reshapes of a compound task

map_single : {X Y : Type 0} (f : X → Y) (xs : List X) → flat_map (λ x. f x ∷ []) xs ≡ map f xs
map_single f [] = refl
map_single f (x ∷ xs) = ap (λ ys. f x ∷ ys) (map_single f xs)

module _ (reshapes : List Copied) (spot : Spot) where
  -- so far
  abbrev pub GoesOverFrontCopies : ℕ → Walk → Walk → Answer → Type 0
  GoesOverFrontCopies i s0 s1 answer = GoesOverCopies (take i reshapes) spot s0 s1 answer

  pub copies_more : (i : ℕ) (r : Copied) (s0 s1 s2 : Walk) (r1 r2 : Answer) (done : Unit {0}) → i < length reshapes → r ≡ get_or reshapes i r
      → GoesOverFrontCopies i s0 s1 r1 → r1 ≡ Ok done → GoesOverCopy i r spot s1 s2 r2 → GoesOverFrontCopies (i + 1) s0 s2 r2
  copies_more i r s0 s1 s2 r1 r2 done lt is front was copy m node at =
      let f : ℕ × Copied → List Leaf = λ q. reshape_leaf node q ∷ [] in
      let grown : map (reshape_leaf node) (enumerate_from 0 (take (i + 1) reshapes)) ≡ map (reshape_leaf node) (enumerate_from 0 (take i reshapes)) ++ reshape_leaf node (i, r) ∷ [] =
      sym (map_single (reshape_leaf node) (enumerate_from 0 (take (i + 1) reshapes)))
      ∙ (numbered_more f reshapes i r lt is ∙ ap (λ ls. ls ++ reshape_leaf node (i, r) ∷ []) (map_single (reshape_leaf node) (enumerate_from 0 (take i reshapes)))) in
      let Q : List Leaf → Type 0 = λ ls. GoesOver m [] ls s0 s2 r2 in
      subst Q (sym grown) (goes_on m [] [] (map (reshape_leaf node) (enumerate_from 0 (take i reshapes))) (reshape_leaf node (i, r) ∷ []) s0 s1 s2 r1 r2 done (front m node at) was (copy m node at))

  pub copies_stop : (i : ℕ) (s0 s1 : Walk) (r : Answer) (e : FlatRefused) → GoesOverFrontCopies i s0 s1 r → r ≡ Err e → GoesOverCopies reshapes spot s0 s1 (Err e)
  copies_stop i s0 s1 r e front was m node at =
      let f : ℕ × Copied → List Leaf = λ q. reshape_leaf node q ∷ [] in
      let rest : List (ℕ × Copied) = enumerate_from (0 + length (take i reshapes)) (drop i reshapes) in
      let all : map (reshape_leaf node) (enumerate_from 0 reshapes) ≡ map (reshape_leaf node) (enumerate_from 0 (take i reshapes)) ++ flat_map f rest =
      sym (map_single (reshape_leaf node) (enumerate_from 0 reshapes)) ∙ (numbered_rest f reshapes i ∙ ap (λ ls. ls ++ flat_map f rest) (map_single (reshape_leaf node) (enumerate_from 0 (take i reshapes)))) in
      let Q : List Leaf → Type 0 = λ ls. GoesOver m [] ls s0 s1 (Err e) in
      subst Q (sym all) (stops m [] [] (map (reshape_leaf node) (enumerate_from 0 (take i reshapes))) (flat_map f rest) s0 s1 s1 r e (front m node at) was)
