-- The task at each instance of a listed node.
use Rattle.std.proofs.Common.{◌≡◌, ℕ, zero, suc, true, cond, List, [], ◌∷◌, length, Option, Some, None, option_and_then, sym, ◌∙◌, ap, refl, arith, subst}
use Rattle.std.specs.List.{IsAmong, enumerate_from}
use Rattle.aol_shape.specs.Shape.{IsPointOf}
use Rattle.aol_shape.specs.Vectors.{is_inside}
use Rattle.aol_tiler.specs.Tiler.{integers}
use Rattle.aol_model_types.specs.declared.document.Model.{Model}
use Rattle.aol_model_types.specs.declared.task.Part.{Part}
use Rattle.aol_model_types.specs.declared.task.Repeated.{Repeated}
use Rattle.aol_model_types.specs.declared.task.Task.{Task}
use Rattle.aol_model_types.specs.declared.task.Task.TheVariants as tasks
use Rattle.aol_model_types.specs.Rules.{task_named}
use Rattle.aol_flat.specs.Tasks.{main_task}
use Rattle.aol_flat.specs.Place.{IntoPart, IntoRepetition, task_at, task_below}
use Rattle.aol_flat.specs.Node.{Branch, ToPart, ToBody, Node, space_around, place_on, task_under, node_task, nodes_below, nodes}
use Rattle.aol_flat.proofs.Among.{among_flat_map}
use Rattle.aol_flat.proofs.Inside.{point_split, point_inside, place_in_body}
use Rattle.aol_flat.proofs.SourceBack.{at_number}

-- the space of each repetition around a node is that of its task
abbrev pub HasSpaces : Model → Node → Type 0
HasSpaces m [] = Unit {0}
HasSpaces m (ToPart k ∷ up) = HasSpaces m up
HasSpaces m (ToBody space ∷ up) = ((t : Repeated) × (node_task m up ≡ Some (tasks.Repeated t)) × (space ≡ t.space)) × HasSpaces m up

pub spaces_up : (m : Model) (b : Branch) (up : Node) → HasSpaces m (b ∷ up) → HasSpaces m up
spaces_up m (ToPart k) up h = h
spaces_up m (ToBody space) up h = h.1

same_part_task : (m : Model) (o : Option Task) (k : ℕ) → option_and_then (λ t. task_below m t (IntoPart k)) o ≡ option_and_then (λ t. task_under m t (ToPart k)) o
same_part_task m None k = refl
same_part_task m (Some (tasks.Elementary e)) k = refl
same_part_task m (Some (tasks.Compound c)) k = refl
same_part_task m (Some (tasks.Repeated t)) k = refl

-- the task at each instance of a node is the node's
pub task_on : (m : Model) (node : Node) → HasSpaces m node → (at : List ℕ) → IsPointOf (space_around node) at → task_at m (place_on node at) ≡ node_task m node
task_on m [] h at inside = refl
task_on m (ToPart k ∷ up) h at inside =
    ap (option_and_then (λ t. task_below m t (IntoPart k))) (task_on m up h at inside) ∙ same_part_task m (node_task m up) k
task_on m (ToBody space ∷ up) h at inside =
    let z = point_split (space_around up) space at inside in
    let t = h.0.0 in
    let P : List ℕ → Type 0 = λ s. IsPointOf s z.1 in
    let passes : is_inside t.space (integers z.1) ≡ true = point_inside t.space z.1 (subst P h.0.2 z.4) in
    let here : task_at m (place_on up z.0) ≡ Some (tasks.Repeated t) = task_on m up h.1 z.0 z.3 ∙ h.0.1 in
    ap (λ x. task_at m (place_on (ToBody space ∷ up) x)) z.2
    ∙ (ap (task_at m) (place_in_body space up z.0 z.1 z.4)
    ∙ (ap (option_and_then (λ v. task_below m v (IntoRepetition z.1))) here
    ∙ (ap (λ b. cond b (task_named m.tasks t.task) None) passes
    ∙ ap (option_and_then (λ v. task_under m v (ToBody space))) (sym h.0.1))))

-- what is known of a listed node
pub record IsNodeTask (m : Model) (x : Node × Task) : Type 0 where
  pub spaces : HasSpaces m x.0
  pub task : node_task m x.0 ≡ Some x.1

moved_known : (m : Model) (x y : Node × Task) → y ≡ x → IsNodeTask m x → IsNodeTask m y
moved_known m x y e n = subst (IsNodeTask m) (sym e) n

below_is_known : (m : Model) (depth : ℕ) (o : Option Task) (node : Node) → HasSpaces m node → node_task m node ≡ o → (x : Node × Task) → IsAmong (nodes_below depth m o node) x → IsNodeTask m x
below_is_known m zero o node s e x a = absurd (omega (arith, a.1.0))
below_is_known m (suc depth) None node s e x a = absurd (omega (arith, a.1.0))
below_is_known m (suc depth) (Some (tasks.Elementary t)) node s e x (zero, a) = moved_known m (node, tasks.Elementary t) x a.1 (record { spaces = s; task = e })
below_is_known m (suc depth) (Some (tasks.Elementary t)) node s e x (suc i, a) = absurd (omega (arith, a.0))
below_is_known m (suc depth) (Some (tasks.Compound c)) node s e x (zero, a) = moved_known m (node, tasks.Compound c) x a.1 (record { spaces = s; task = e })
below_is_known m (suc depth) (Some (tasks.Compound c)) node s e x (suc i, a) =
    let f : ℕ × Part → List (Node × Task) = λ p. nodes_below depth m (task_named m.tasks p.1.task) (ToPart p.0 ∷ node) in
    let p = among_flat_map f (enumerate_from 0 c.parts) x (i, (omega (arith, a.0), a.1)) in
    let here : node_task m (ToPart p.0.0 ∷ node) ≡ task_named m.tasks p.0.1.task =
    ap (option_and_then (λ t. task_under m t (ToPart p.0.0))) e ∙ ap (option_and_then (λ (q : Part). task_named m.tasks q.task)) (at_number c.parts p.0 p.1) in
    below_is_known m depth (task_named m.tasks p.0.1.task) (ToPart p.0.0 ∷ node) s here x p.2
below_is_known m (suc depth) (Some (tasks.Repeated t)) node s e x (zero, a) = moved_known m (node, tasks.Repeated t) x a.1 (record { spaces = s; task = e })
below_is_known m (suc depth) (Some (tasks.Repeated t)) node s e x (suc i, a) =
    below_is_known m depth (task_named m.tasks t.task) (ToBody t.space ∷ node) ((t, e, refl), s)
    (ap (option_and_then (λ v. task_under m v (ToBody t.space))) e) x (i, (omega (arith, a.0), a.1))

pub listed_is_known : (m : Model) (x : Node × Task) → IsAmong (nodes m) x → IsNodeTask m x
listed_is_known m x a = below_is_known m (length m.tasks) (main_task m) [] tt refl x a
