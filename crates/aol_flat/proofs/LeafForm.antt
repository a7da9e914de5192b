-- What is known of the leaf with a number: its node, its space, and how many elements an instance of it has.
use Rattle.std.proofs.Common.{◌≡◌, ℕ, zero, suc, ◌≤◌, List, [], ◌∷◌, ◌++◌, length, map, flat_map, sum, Option, Some, None, option_map, option_and_then, unwrap_or, slice_get, sym, ◌∙◌, ap, refl, arith, subst, ◌⊎◌, inl, inr}
use Rattle.std.specs.List.{IsAmong, enumerate_from}
use Rattle.std.proofs.lemmas.List.Sums.{sum-map}
use Rattle.aol_shape.specs.Shape.{IsPointOf, size}
use Rattle.aol_shape.proofs.Sizes.{size_both, size_positive, product_positive}
use Rattle.aol_expr_tree.specs.declared.port.Port.{Port}
use Rattle.aol_model_types.specs.declared.document.Model.{Model}
use Rattle.aol_model_types.specs.declared.task.Compound.{Compound}
use Rattle.aol_model_types.specs.declared.task.Copied.{Copied}
use Rattle.aol_model_types.specs.declared.task.Part.{Part}
use Rattle.aol_model_types.specs.declared.task.Task.{Task}
use Rattle.aol_model_types.specs.declared.task.Task.TheVariants as tasks
use Rattle.aol_model_types.specs.Rules.{task_named, inputs_of, outputs_of}
use Rattle.aol_model_types.specs.Types.{IsTask, IsCopied}
use Rattle.aol_flat.specs.Accept.{IsSound}
use Rattle.aol_flat.specs.Instance.{Leaf, Computes, Copies, leaves_below, leaves, reshape_leaf, instance_on, port_sizes, read_sizes, written_sizes}
use Rattle.aol_flat.specs.LeafCursor.{task_elements, leaf_elements}
use Rattle.aol_flat.specs.Node.{Branch, ToPart, ToBody, Node, space_around, task_under, node_task}
use Rattle.aol_flat.specs.Tasks.{main_task}
use Rattle.aol_flat.proofs.Among.{among_append, among_map, among_flat_map, get_among}
use Rattle.aol_flat.proofs.Checked.{task_of}
use Rattle.aol_flat.proofs.Find.{and_then_some}
use Rattle.aol_flat.proofs.Given.{AllByRecursion-at}
use Rattle.aol_flat.proofs.NodeTasks.{HasSpaces, task_on}
use Rattle.aol_flat.proofs.Real.{task_limits}
use Rattle.aol_flat.proofs.SourceBack.{at_number}

-- ---- the forms of leaves

-- the leaf computes
pub record IsRunForm (l : Leaf) : Type 0 where
  pub computes : l.work ≡ Computes
  pub space : l.space ≡ space_around l.node

-- it copies by a reshape of its compound task
pub record IsCopyForm (m : Model) (l : Leaf) : Type 0 where
  pub compound : Compound
  pub task : node_task m l.node ≡ Some (tasks.Compound compound)
  pub number : ℕ
  pub reshape : Copied
  pub listed : slice_get compound.reshapes number ≡ Some reshape
  pub copies : l.work ≡ Copies number (length reshape.by.space)
  pub space : l.space ≡ space_around l.node ++ reshape.by.space ++ reshape.by.pattern

-- a leaf is one or the other
pub record LeafForm (m : Model) (l : Leaf) : Type 0 where
  pub spaces : HasSpaces m l.node
  pub form : IsRunForm l ⊎ IsCopyForm m l

module _ (m : Model) where
  form_below : (depth : ℕ) (o : Option Task) (node : Node) → HasSpaces m node → node_task m node ≡ o → (l : Leaf) → IsAmong (leaves_below depth m o node) l → LeafForm m l
  form_below zero o node s e l a = absurd (omega (arith, a.1.0))
  form_below (suc depth) None node s e l a = absurd (omega (arith, a.1.0))
  form_below (suc depth) (Some (tasks.Elementary t)) node s e l (zero, a) =
      let here : Leaf = record { node = node; work = Computes; space = space_around node } in
      let known : LeafForm m here = record { spaces = s; form = inl (record { computes = refl; space = refl }) } in
      subst (LeafForm m) (sym a.1) known
  form_below (suc depth) (Some (tasks.Elementary t)) node s e l (suc i, a) = absurd (omega (arith, a.0))
  form_below (suc depth) (Some (tasks.Compound c)) node s e l a =
      let f : ℕ × Part → List Leaf = λ p. leaves_below depth m (task_named m.tasks p.1.task) (ToPart p.0 ∷ node) in
      elim (among_append (flat_map f (enumerate_from 0 c.parts)) (map (reshape_leaf node) (enumerate_from 0 c.reshapes)) l a) [
        | inl b ↦
            let p = among_flat_map f (enumerate_from 0 c.parts) l b in
            let here : node_task m (ToPart p.0.0 ∷ node) ≡ task_named m.tasks p.0.1.task =
            ap (option_and_then (λ t. task_under m t (ToPart p.0.0))) e ∙ ap (option_and_then (λ (q : Part). task_named m.tasks q.task)) (at_number c.parts p.0 p.1) in
            form_below depth (task_named m.tasks p.0.1.task) (ToPart p.0.0 ∷ node) s here l p.2
        | inr b ↦
            let r = among_map (reshape_leaf node) (enumerate_from 0 c.reshapes) l b in
            let form : IsCopyForm m (reshape_leaf node r.0) =
            record { compound = c; task = e; number = r.0.0; reshape = r.0.1; listed = at_number c.reshapes r.0 r.1; copies = refl; space = refl } in
            let known : LeafForm m (reshape_leaf node r.0) = record { spaces = s; form = inr form } in
            subst (LeafForm m) (sym r.2) known
      ]
  form_below (suc depth) (Some (tasks.Repeated t)) node s e l a =
      form_below depth (task_named m.tasks t.task) (ToBody t.space ∷ node) ((t, e, refl), s) (ap (option_and_then (λ v. task_under m v (ToBody t.space))) e) l a

  pub leaf_form : (number : ℕ) (l : Leaf) → slice_get (leaves m) number ≡ Some l → LeafForm m l
  leaf_form number l at = form_below (length m.tasks) (main_task m) [] tt refl l (get_among (leaves m) number l at)

-- ---- the tasks at nodes

named_under : (m : Model) (t : Task) (b : Branch) (u : Task) → task_under m t b ≡ Some u → (n : List ℕ) × (task_named m.tasks n ≡ Some u)
named_under m (tasks.Elementary e) b u h = cc
named_under m (tasks.Compound c) (ToPart k) u h =
    let found = and_then_some (λ (p : Part). task_named m.tasks p.task) (slice_get c.parts k) u h in
    (found.0.task, found.2)
named_under m (tasks.Compound c) (ToBody space) u h = cc
named_under m (tasks.Repeated t) (ToPart k) u h = cc
named_under m (tasks.Repeated t) (ToBody space) u h = (t.task, h)

named_node : (m : Model) (node : Node) (t : Task) → node_task m node ≡ Some t → (n : List ℕ) × (task_named m.tasks n ≡ Some t)
named_node m [] t h = (m.main, h)
named_node m (b ∷ up) t h =
    let found = and_then_some (λ u. task_under m u b) (node_task m up) t h in
    named_under m found.0 b t found.2

module _ (m : Model) (sound : IsSound m) where
  limits_at : (node : Node) (t : Task) → node_task m node ≡ Some t → IsTask t
  limits_at node t h = let n = named_node m node t h in task_limits m sound t (task_of m t n.0 sound.shapes n.1)

  -- a node has an instance
  pub node_some : (node : Node) → HasSpaces m node → 1 ≤ size (space_around node)
  node_some [] h = omega arith
  node_some (ToPart k ∷ up) h = node_some up h
  node_some (ToBody space ∷ up) h =
      let types = limits_at up (tasks.Repeated h.0.0) h.0.1 in
      let inner : 1 ≤ size space = omega (arith, size_positive h.0.0.space types.space.entry, ap size h.0.2) in
      omega (arith, size_both (space_around up) space, product_positive (size (space_around up)) (size space) (node_some up h.1) inner)

  -- so has a leaf
  pub leaf_some : (l : Leaf) → LeafForm m l → 1 ≤ size l.space
  leaf_some l h =
      elim h.form [
        | inl r ↦ omega (arith, ap size r.space, node_some l.node h.spaces)
        | inr c ↦
            let types = limits_at l.node (tasks.Compound c.compound) c.task in
            let r = AllByRecursion-at IsCopied c.compound.reshapes c.number c.reshape types.reshapes c.listed in
            let s : ℕ = size (space_around l.node) in
            let both : 1 ≤ size (space_around l.node ++ c.reshape.by.space) =
            omega (arith, size_both (space_around l.node) c.reshape.by.space, product_positive s (size c.reshape.by.space) (node_some l.node h.spaces) (size_positive c.reshape.by.space r.space.entry)) in
            omega (
              arith,
              ap size c.space,
              size_both (space_around l.node ++ c.reshape.by.space) c.reshape.by.pattern,
              product_positive (size (space_around l.node ++ c.reshape.by.space)) (size c.reshape.by.pattern) both (size_positive c.reshape.by.pattern r.pattern.entry),
            )
      ]

-- ---- how many elements

task_sizes : (ports : Task → List Port) (o : Option Task) → sum (unwrap_or (option_map (λ t. port_sizes (ports t)) o) []) ≡ task_elements ports o
task_sizes ports None = refl
task_sizes ports (Some t) = sum-map (λ (p : Port). size p.shape) (ports t)

-- an instance of a leaf reads as many elements as the leaf says
pub reads_on : (m : Model) (l : Leaf) (at : List ℕ) → LeafForm m l → IsPointOf l.space at → leaf_elements inputs_of m (Some l) ≡ sum (read_sizes m (instance_on l at))
reads_on m l at h inside =
    elim h.form [
      | inl r ↦
          let around : IsPointOf (space_around l.node) at = subst (λ s. IsPointOf s at) r.space inside in
          rw r.computes (sym (ap (λ o. sum (unwrap_or (option_map (λ t. port_sizes (inputs_of t)) o) [])) (task_on m l.node h.spaces at around) ∙ task_sizes inputs_of (node_task m l.node)))
      | inr c ↦ rw c.copies refl
    ]

-- and writes as many
pub writes_on : (m : Model) (l : Leaf) (at : List ℕ) → LeafForm m l → IsPointOf l.space at → leaf_elements outputs_of m (Some l) ≡ sum (written_sizes m (instance_on l at))
writes_on m l at h inside =
    elim h.form [
      | inl r ↦
          let around : IsPointOf (space_around l.node) at = subst (λ s. IsPointOf s at) r.space inside in
          rw r.computes (sym (ap (λ o. sum (unwrap_or (option_map (λ t. port_sizes (outputs_of t)) o) [])) (task_on m l.node h.spaces at around) ∙ task_sizes outputs_of (node_task m l.node)))
      | inr c ↦ rw c.copies refl
    ]
