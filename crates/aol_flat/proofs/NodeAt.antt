-- What is known of the node with a number, and of the node above it.
use Rattle.std.proofs.Common.{◌≡◌, ◌≢◌, ℕ, ◌<◌, List, [], ◌∷◌, length, get_or, Some, slice_get, sym, ◌∙◌, ap, refl, arith, subst}
use Rattle.std.specs.Prelude.{option_and_then}
use Rattle.std.proofs.lemmas.Option.{slice_get_within, get_or_from_slice_get}
use Rattle.aol_shape.specs.Shape.{IsPointOf}
use Rattle.aol_expr_tree.specs.declared.port.Port.{Port}
use Rattle.aol_model_types.specs.declared.document.Model.{Model}
use Rattle.aol_model_types.specs.declared.task.Part.{Part}
use Rattle.aol_model_types.specs.declared.task.Task.{Task}
use Rattle.aol_model_types.specs.declared.task.Task.TheVariants as tasks
use Rattle.aol_model_types.specs.Rules.{task_named}
use Rattle.aol_model_types.specs.Types.{IsTask}
use Rattle.aol_flat.specs.Accept.{IsSound}
use Rattle.aol_flat.specs.declared.nodes.NodeRow.{NodeRow}
use Rattle.aol_flat.specs.Node.{Branch, ToPart, ToBody, Node, space_around, place_on, task_under, node_task, nodes}
use Rattle.aol_flat.specs.NodeTable.{IsNode, IsNodeRow, IsAbove}
use Rattle.aol_flat.specs.NodeTable as table
use Rattle.aol_flat.specs.Place.{task_at}
use Rattle.aol_flat.proofs.Among.{get_among}
use Rattle.aol_flat.proofs.Checked.{IsTaskOf, task_of}
use Rattle.aol_flat.proofs.Find.{and_then_some}
use Rattle.aol_flat.proofs.NodeTasks.{IsNodeTask, listed_is_known, task_on}
use Rattle.aol_flat.proofs.Real.{task_limits}

-- a task to which a step leads is one of the model
named_under : (m : Model) (t : Task) (b : Branch) (u : Task) → task_under m t b ≡ Some u → (n : List ℕ) × (task_named m.tasks n ≡ Some u)
named_under m (tasks.Elementary e) b u h = cc
named_under m (tasks.Compound c) (ToPart k) u h =
    let found = and_then_some (λ (p : Part). task_named m.tasks p.task) (slice_get c.parts k) u h in
    (found.0.task, found.2)
named_under m (tasks.Compound c) (ToBody space) u h = cc
named_under m (tasks.Repeated t) (ToPart k) u h = cc
named_under m (tasks.Repeated t) (ToBody space) u h = (t.task, h)

named_node : (m : Model) (node : Node) (t : Task) → node_task m node ≡ Some t → (n : List ℕ) × (task_named m.tasks n ≡ Some t)
named_node m [] t h = (m.main, h)
named_node m (b ∷ up) t h =
    let found = and_then_some (λ u. task_under m u b) (node_task m up) t h in
    named_under m found.0 b t found.2

-- one number has one node
pub one_node : (m : Model) (number : ℕ) (a b : Node) (t u : Task) → IsNode m number a t → IsNode m number b u → (a ≡ b) × (t ≡ u)
one_node m number a b t u h k =
    let pairs : Some (a, t) ≡ Some (b, u) = sym h ∙ k in
    let pair : ◌≡◌ {A = Node × Task} (a, t) (b, u) = cc in
    (ap (λ (p : Node × Task). p.0) pair, ap (λ (p : Node × Task). p.1) pair)

pub known : (m : Model) (number : ℕ) (node : Node) (t : Task) → IsNode m number node t → IsNodeTask m (node, t)
known m number node t h = listed_is_known m (node, t) (get_among (nodes m) number (node, t) h)

pub number_within : (m : Model) (number : ℕ) (node : Node) (t : Task) → IsNode m number node t → number < length (nodes m)
number_within m number node t h = slice_get_within (nodes m) number (node, t) h

-- how a node that isn't the root is reached
pub record IsUnder (m : Model) (number : ℕ) (row : NodeRow) (node : Node) (t : Task) : Type 0 where
  pub branch : Branch
  pub up : Node
  pub above : Task
  pub is : node ≡ branch ∷ up
  pub lower : row.up < number
  pub at_up : IsNode m row.up up above
  pub above_is : node_task m up ≡ Some above
  pub leads : task_under m above branch ≡ Some t
  pub part : (k : ℕ) → branch ≡ ToPart k → row.part ≡ k

module _ (m : Model) (sound : IsSound m) where
  pub task_known : (number : ℕ) (node : Node) (t : Task) → IsNode m number node t → IsTaskOf m t
  task_known number node t h = let n = named_node m node t (known m number node t h).task in task_of m t n.0 sound.shapes n.1

  pub limits_known : (number : ℕ) (node : Node) (t : Task) → IsNode m number node t → IsTask t
  limits_known number node t h = task_limits m sound t (task_known number node t h)

  -- the task at each instance of a node
  pub task_there_on : (number : ℕ) (node : Node) (t : Task) (at : List ℕ) → IsNode m number node t → IsPointOf (space_around node) at → task_at m (place_on node at) ≡ Some t
  task_there_on number node t at h inside = let n = known m number node t h in task_on m node n.spaces at inside ∙ n.task

  under : (number : ℕ) (row : NodeRow) (b : Branch) (up : Node) (above t : Task) → IsNode m number (b ∷ up) t → IsNode m row.up up above → row.up < number → ((k : ℕ) → b ≡ ToPart k → row.part ≡ k)
      → IsUnder m number row (b ∷ up) t
  under number row b up above t h at lower part =
      let here = (known m number (b ∷ up) t h).task in
      let there = (known m row.up up above at).task in
      record {
        branch = b;
        up = up;
        above = above;
        is = refl;
        lower = lower;
        at_up = at;
        above_is = there;
        leads = sym (ap (option_and_then (λ u. task_under m u b)) there) ∙ here;
        part = part;
      }

  under_row : (number : ℕ) (row : NodeRow) (node : Node) (t : Task) → number ≢ 0 → IsAbove m number row node → IsNode m number node t → IsUnder m number row node t
  under_row number row node t h (table.root zero_is) at = absurd (h zero_is)
  under_row number row node t h (table.part {up = up} {t = above} lower there) at = under number row (ToPart row.part) up above t at there lower (λ k e. cc)
  under_row number row node t h (table.body {up = up} {t = above} {space = space} lower there) at = under number row (ToBody space) up above t at there lower (λ k e. cc)

  pub is_under : (number : ℕ) (row : NodeRow) (node : Node) (t : Task) → number ≢ 0 → IsNodeRow m number row → IsNode m number node t → IsUnder m number row node t
  is_under number row node t h r at =
      let one = one_node m number r.node node r.task t r.at at in
      let P : Node → Type 0 = λ x. IsAbove m number row x in
      under_row number row node t h (subst P one.0 r.above) at

  root_row : (number : ℕ) (row : NodeRow) (node : Node) → number ≡ 0 → IsAbove m number row node → node ≡ []
  root_row number row node e (table.root zero_is) = refl
  root_row number row node e (table.part lower there) = absurd (omega (arith, e, lower))
  root_row number row node e (table.body lower there) = absurd (omega (arith, e, lower))

  pub is_root : (number : ℕ) (row : NodeRow) (node : Node) (t : Task) → number ≡ 0 → IsNodeRow m number row → IsNode m number node t → node ≡ []
  is_root number row node t e r at = sym (one_node m number r.node node r.task t r.at at).0 ∙ root_row number row r.node e r.above

-- a node below another isn't the root
pub not_root : (m : Model) → IsSound m → (number : ℕ) (row : NodeRow) (b : Branch) (up : Node) (t : Task) → IsNodeRow m number row → IsNode m number (b ∷ up) t → number ≢ 0
not_root m sound number row b up t known at e = let root : b ∷ up ≡ [] = is_root m sound number row (b ∷ up) t e known at in cc

pub under_up : (m : Model) (number : ℕ) (row : NodeRow) (b : Branch) (up : Node) (t : Task) → (u : IsUnder m number row (b ∷ up) t) → u.up ≡ up
under_up m number row b up t u = let e = u.is in let f : up ≡ u.up = cc in sym f

-- the task above is the one that is looked up
pub above_same : (m : Model) (number : ℕ) (row : NodeRow) (node up : Node) (t a : Task) (u : IsUnder m number row node t) → IsNode m row.up up a → u.above ≡ a
above_same m number row node up t a u at = (one_node m row.up u.up up u.above a u.at_up at).1

-- a port that is read by its number is the listed one
pub read_port : (ports : Task → List Port) (t u : Task) (k : ℕ) (p q : Port) → t ≡ u → slice_get (ports t) k ≡ Some p → q ≡ get_or (ports u) k q → q ≡ p
read_port ports t u k p q e listed is = is ∙ (ap (λ x. get_or (ports x) k q) (sym e) ∙ get_or_from_slice_get (ports t) k p q listed)

-- an element that is read by its number is the listed one
pub read_item : {X : Type 0} (xs ys : List X) (k : ℕ) (x d : X) → ys ≡ xs → slice_get xs k ≡ Some x → get_or ys k d ≡ x
read_item xs ys k x d e listed = ap (λ zs. get_or zs k d) e ∙ get_or_from_slice_get xs k x d listed
