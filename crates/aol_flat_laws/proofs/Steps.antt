-- The nodes of a model are different by their steps, which each instance shows.
use Rattle.std.proofs.Common.{◌≡◌, ◌≢◌, ℕ, zero, suc, List, [], ◌∷◌, ◌++◌, length, Option, Some, None, slice_get, sym, ◌∙◌, ap, refl, arith}
use Rattle.std.specs.List.{IsAmong, enumerate_from}
use Rattle.std.proofs.lemmas.List.{append-nil, append_assoc}
use Rattle.aol_shape.specs.Shape.{IsPointOf}
use Rattle.aol_model_types.specs.declared.document.Model.{Model}
use Rattle.aol_model_types.specs.declared.task.Part.{Part}
use Rattle.aol_model_types.specs.declared.task.Task.{Task}
use Rattle.aol_model_types.specs.declared.task.Task.TheVariants as tasks
use Rattle.aol_model_types.specs.Rules.{task_named}
use Rattle.aol_flat.specs.Place.{Place, IntoPart, IntoRepetition}
use Rattle.aol_flat.specs.Node.{Branch, ToPart, ToBody, Node, space_around, place_on, indices_of, nodes_below}
use Rattle.aol_flat.proofs.Among.{among_flat_map}
use Rattle.aol_flat.proofs.Inside.{point_split, place_in_body}
use Rattle.aol_flat_laws.proofs.Apart.{Apart, apart_flat_map, numbered_differ}

-- ---- steps without what differs from instance to instance

-- a step to a part is its number
abbrev pub kind : Branch → Option ℕ
kind (ToPart k) = Some k
kind (ToBody space) = None

-- the steps to a node, the first one first
abbrev pub kinds : Node → List (Option ℕ)
kinds [] = []
kinds (b ∷ up) = kinds up ++ kind b ∷ []

-- the steps to an instance
abbrev pub place_kinds : Place → List (Option ℕ)
place_kinds [] = []
place_kinds (IntoPart k ∷ up) = place_kinds up ++ Some k ∷ []
place_kinds (IntoRepetition r ∷ up) = place_kinds up ++ None ∷ []

-- an instance shows the steps to its node
pub kinds_on : (node : Node) (at : List ℕ) → place_kinds (place_on node at) ≡ kinds node
kinds_on [] at = refl
kinds_on (ToPart k ∷ up) at = ap (λ ks. ks ++ Some k ∷ []) (kinds_on up at)
kinds_on (ToBody space ∷ up) at = ap (λ ks. ks ++ None ∷ []) (kinds_on up _)

-- and its indices
pub indices_on : (node : Node) (at : List ℕ) → IsPointOf (space_around node) at → indices_of (place_on node at) ≡ at
indices_on [] [] h = refl
indices_on [] (i ∷ at) h = absurd h
indices_on (ToPart k ∷ up) at h = indices_on up at h
indices_on (ToBody space ∷ up) at h =
    let z = point_split (space_around up) space at h in
    ap (λ x. indices_of (place_on (ToBody space ∷ up) x)) z.2
    ∙ (ap indices_of (place_in_body space up z.0 z.1 z.4)
    ∙ (ap (λ x. x ++ z.1) (indices_on up z.0 z.3) ∙ sym z.2))

-- ---- nodes

at_length : (ks more : List (Option ℕ)) (k : Option ℕ) → slice_get (ks ++ k ∷ [] ++ more) (length ks) ≡ Some k
at_length [] more k = refl
at_length (x ∷ ks) more k = at_length ks more k

no_longer : (ks more : List (Option ℕ)) (k : Option ℕ) → ks ≢ ks ++ k ∷ [] ++ more
no_longer [] more k e = cc
no_longer (x ∷ ks) more k e = let f : ks ≡ ks ++ k ∷ [] ++ more = cc in no_longer ks more k f

-- the node's steps begin so
abbrev pub Begins : List (Option ℕ) → Node × Task → Type 0
Begins ks x = (more : List (Option ℕ)) × (kinds x.0 ≡ ks ++ more)

one_less : (ks : List (Option ℕ)) (k : Option ℕ) (x : Node × Task) → Begins (ks ++ k ∷ []) x → Begins ks x
one_less ks k x (more, e) = (k ∷ more, e ∙ append_assoc ks (k ∷ []) more)

module _ (m : Model) where
  -- the nodes below a node begin with its steps
  begins : (depth : ℕ) (o : Option Task) (node : Node) (x : Node × Task) → IsAmong (nodes_below depth m o node) x → Begins (kinds node) x
  begins zero o node x a = absurd (omega (arith, a.1.0))
  begins (suc depth) None node x a = absurd (omega (arith, a.1.0))
  begins (suc depth) (Some (tasks.Elementary e)) node x (zero, a) = ([], ap (λ (y : Node × Task). kinds y.0) a.1 ∙ sym (append-nil (kinds node)))
  begins (suc depth) (Some (tasks.Elementary e)) node x (suc i, a) = absurd (omega (arith, a.0))
  begins (suc depth) (Some (tasks.Compound c)) node x (zero, a) = ([], ap (λ (y : Node × Task). kinds y.0) a.1 ∙ sym (append-nil (kinds node)))
  begins (suc depth) (Some (tasks.Compound c)) node x (suc i, a) =
      let f : ℕ × Part → List (Node × Task) = λ p. nodes_below depth m (task_named m.tasks p.1.task) (ToPart p.0 ∷ node) in
      let p = among_flat_map f (enumerate_from 0 c.parts) x (i, (omega (arith, a.0), a.1)) in
      one_less (kinds node) (Some p.0.0) x (begins depth (task_named m.tasks p.0.1.task) (ToPart p.0.0 ∷ node) x p.2)
  begins (suc depth) (Some (tasks.Repeated t)) node x (zero, a) = ([], ap (λ (y : Node × Task). kinds y.0) a.1 ∙ sym (append-nil (kinds node)))
  begins (suc depth) (Some (tasks.Repeated t)) node x (suc i, a) =
      one_less (kinds node) None x (begins depth (task_named m.tasks t.task) (ToBody t.space ∷ node) x (i, (omega (arith, a.0), a.1)))

  -- different nodes have different steps
  abbrev pub DifferentSteps : Node × Task → Node × Task → Type 0
  DifferentSteps x y = kinds x.0 ≢ kinds y.0

  deeper_differs : (node : Node) (k : Option ℕ) (x : Node × Task) → Begins (kinds node ++ k ∷ []) x → kinds node ≢ kinds x.0
  deeper_differs node k x (more, e) same = no_longer (kinds node) more k (same ∙ e)

  parts_differ : (node : Node) (j k : ℕ) (x y : Node × Task) → Begins (kinds node ++ Some j ∷ []) x → Begins (kinds node ++ Some k ∷ []) y → j ≢ k → kinds x.0 ≢ kinds y.0
  parts_differ node j k x y (more, e) (other, f) apart same =
      let whole : kinds node ++ Some j ∷ [] ++ more ≡ kinds node ++ Some k ∷ [] ++ other = sym e ∙ (same ∙ f) in
      let at : Some (Some j) ≡ Some (Some k) =
      sym (at_length (kinds node) more (Some j)) ∙ (ap (λ ks. slice_get ks (length (kinds node))) whole ∙ at_length (kinds node) other (Some k)) in
      let number : j ≡ k = cc in
      apart number

  pub nodes_differ : (depth : ℕ) (o : Option Task) (node : Node) → Apart DifferentSteps (nodes_below depth m o node)
  nodes_differ zero o node = tt
  nodes_differ (suc depth) None node = tt
  nodes_differ (suc depth) (Some (tasks.Elementary e)) node = (λ x a. absurd (omega (arith, a.1.0)), tt)
  nodes_differ (suc depth) (Some (tasks.Compound c)) node =
      let f : ℕ × Part → List (Node × Task) = λ p. nodes_below depth m (task_named m.tasks p.1.task) (ToPart p.0 ∷ node) in (
        λ x a. let p = among_flat_map f (enumerate_from 0 c.parts) x a in
            deeper_differs node (Some p.0.0) x (begins depth (task_named m.tasks p.0.1.task) (ToPart p.0.0 ∷ node) x p.2),
        apart_flat_map (λ (p q : ℕ × Part). p.0 ≢ q.0) DifferentSteps f (enumerate_from 0 c.parts) (numbered_differ c.parts 0)
            (λ p a. nodes_differ depth (task_named m.tasks p.1.task) (ToPart p.0 ∷ node))
            (λ p q a b apart x y i j.
            parts_differ node p.0 q.0 x y (begins depth (task_named m.tasks p.1.task) (ToPart p.0 ∷ node) x i)
            (begins depth (task_named m.tasks q.1.task) (ToPart q.0 ∷ node) y j) apart),
      )
  nodes_differ (suc depth) (Some (tasks.Repeated t)) node = (
    λ x a. deeper_differs node None x (begins depth (task_named m.tasks t.task) (ToBody t.space ∷ node) x a),
    nodes_differ depth (task_named m.tasks t.task) (ToBody t.space ∷ node),
  )
