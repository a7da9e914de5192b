-- The ends of a copy are elements at listed nodes.
use Rattle.std.proofs.Common.{◌≡◌, ℕ, ◌<◌, ◌^◌, true, get_or, List, [], ◌∷◌, length, Option, Some, None, is_some, option_map, unwrap_or, slice_get, sym, ◌∙◌, ap, refl, subst}
use Rattle.std.specs.Prelude.{option_and_then}
use Rattle.std.proofs.lemmas.Option.{slice_get_within}
use Rattle.aol_shape.specs.Shape.{IsPointOf, size, point_at}
use Rattle.aol_tiler.specs.Makers.{IsAddressed}
use Rattle.aol_tiler.specs.Matrices.{TilerOf}
use Rattle.aol_tiler.specs.Tiler.{Fits, address, address_point}
use Rattle.aol_expr_tree.specs.declared.port.Port.{Port}
use Rattle.aol_model_types.specs.declared.document.Model.{Model}
use Rattle.aol_model_types.specs.declared.place.Key.TheVariants.{KReshapes}
use Rattle.aol_model_types.specs.declared.task.Compound.{Compound}
use Rattle.aol_model_types.specs.declared.task.Copied.{Copied}
use Rattle.aol_model_types.specs.declared.task.Hook.{Hook}
use Rattle.aol_model_types.specs.declared.task.Part.{Part}
use Rattle.aol_model_types.specs.declared.task.Task.{Task}
use Rattle.aol_model_types.specs.declared.task.Task.TheVariants as tasks
use Rattle.aol_model_types.specs.Places.{to_key}
use Rattle.aol_model_types.specs.Rules.{task_named, inputs_of, outputs_of, port_shape, part_named, copied_checks, gives, takes, source_fits, target_fits, from_shape, to_shape}
use Rattle.aol_model_types.specs.Types.{IsTask, IsCopied}
use Rattle.aol_flat.specs.Accept.{IsSound}
use Rattle.aol_flat.specs.Copies.{IsCopyAt, node_of_end, HasEndNode, IsEndNode, IsFitting, HasEnd}
use Rattle.aol_flat.specs.Feed.{IsNumberOf, HasTask}
use Rattle.aol_flat.specs.Follow.{IsElementOf}
use Rattle.aol_flat.specs.Instance.{end_shape}
use Rattle.aol_flat.specs.Node.{Node, ToPart, space_around, place_on, task_under, node_task}
use Rattle.aol_flat.specs.NodeTable.{IsNode}
use Rattle.aol_flat.specs.Place.{Place, end_element, instance_of_end}
use Rattle.aol_flat.specs.Tasks.{part_number}
use Rattle.aol_flat.proofs.Among.{get_among}
use Rattle.aol_flat.proofs.Arrays.{addressed, address_back}
use Rattle.aol_flat.proofs.Checked.{IsTaskOf, member, of_compound, named_earlier}
use Rattle.aol_flat.proofs.Find.{and_then_some}
use Rattle.aol_flat.proofs.Given.{AllByRecursion-at}
use Rattle.aol_flat.proofs.HasShape.{HasShape, moved_shape, port_shaped}
use Rattle.aol_flat.proofs.LinkRules.{part_at}
use Rattle.aol_flat.proofs.Names.{both-true}
use Rattle.aol_flat.proofs.NodeAt.{one_node, known, task_known, limits_known, read_port}
use Rattle.aol_flat.proofs.PortsOf.{own_input, input_shape_on, own_output, output_shape_on}
use Rattle.aol_flat.proofs.Real.{fits_both, shape_at_end, shape_limits}

-- ---- the nodes at the ends

pub part_within : (m : Model) (c : Compound) (up : Node) (part : List ℕ) (t : Task) → node_task m up ≡ Some (tasks.Compound c) → node_task m (ToPart (part_number c part) ∷ up) ≡ Some t → part_number c part < length c.parts
part_within m c up part t above here =
    let found = and_then_some (λ (p : Part). task_named m.tasks p.task) (slice_get c.parts (part_number c part)) t
    (sym (ap (option_and_then (λ u. task_under m u (ToPart (part_number c part)))) above) ∙ here) in
    slice_get_within c.parts (part_number c part) found.0 found.1

around_end : (c : Compound) (up : Node) (o : Option (List ℕ)) → space_around (node_of_end c up o) ≡ space_around up
around_end c up None = refl
around_end c up (Some part) = refl

place_end : (c : Compound) (up : Node) (o : Option (List ℕ)) (around : List ℕ) → place_on (node_of_end c up o) around ≡ instance_of_end c (place_on up around) o
place_end c up None around = refl
place_end c up (Some part) around = refl

-- ---- what the rules say of the ends of a copy

module _ (m : Model) (sound : IsSound m) (number : ℕ) (c : Compound) (copied : Copied) (up : Node) (at : IsNode m number up (tasks.Compound c)) where
  pub above : node_task m up ≡ Some (tasks.Compound c)
  above = (known m number up (tasks.Compound c) at).task

  pub checks : IsTaskOf m (tasks.Compound c)
  checks = task_known m sound number up (tasks.Compound c) at

  own_end : (ports : Task → List Port) (h : Hook) (tiler : TilerOf) (shape : List ℕ) → h.part ≡ None → port_shape (ports (tasks.Compound c)) h.port ≡ Some shape → Fits tiler shape copied.by.space copied.by.pattern
      → IsFitting m ports c copied h tiler up
  own_end ports h tiler shape none port fits = record { task = tasks.Compound c; at_end = ap (λ o. node_task m (node_of_end c up o)) none ∙ above; shape = shape; at_port = port; fits = fits }

  part_end : (ports : Task → List Port) (h : Hook) (tiler : TilerOf) (shape part : List ℕ) → h.part ≡ Some part
      → option_and_then (λ (p : Part). port_shape (unwrap_or (option_map ports (task_named checks.before p.task)) []) h.port) (part_named c part) ≡ Some shape → Fits tiler shape copied.by.space copied.by.pattern
      → IsFitting m ports c copied h tiler up
  part_end ports h tiler shape part some found fits =
      let p = and_then_some (λ (q : Part). port_shape (unwrap_or (option_map ports (task_named checks.before q.task)) []) h.port) (part_named c part) shape found in
      let u = port_shaped ports (task_named checks.before p.0.task) h.port shape p.2 in
      let named : task_named m.tasks p.0.task ≡ Some u.0 = named_earlier m checks.before (tasks.Compound c ∷ checks.rest) p.0.task u.0 checks.split u.1 in
      let here : node_task m (ToPart (part_number c part) ∷ up) ≡ Some u.0 =
      ap (option_and_then (λ t. task_under m t (ToPart (part_number c part)))) above ∙ (ap (option_and_then (λ (q : Part). task_named m.tasks q.task)) (part_at c part p.0 p.1) ∙ named) in
      record { task = u.0; at_end = ap (λ o. node_task m (node_of_end c up o)) some ∙ here; shape = shape; at_port = u.2; fits = fits }

  module _ (k : ℕ) (listed : slice_get c.reshapes k ≡ Some copied) where
    both_rules : ((array : List ℕ) × (from_shape checks.before c copied.from ≡ Some array) × Fits copied.by.source array copied.by.space copied.by.pattern)
        × ((array : List ℕ) × (to_shape checks.before c copied.to ≡ Some array) × Fits copied.by.target array copied.by.space copied.by.pattern)
    both_rules =
        let rules = member (copied_checks checks.before c) (to_key checks.place KReshapes) c.reshapes copied (of_compound checks.before checks.place c checks.holds).reshapes (get_among c.reshapes k copied listed) in
        let h6 = both-true (gives checks.before c copied.from) _ rules.holds in
        let h7 = both-true (takes checks.before c copied.to) _ h6.1 in
        let h11 = both-true (source_fits checks.before c copied) _ h7.1 in
        let h12 = both-true (target_fits checks.before c copied) true h11.1 in (
          fits_both copied.by.source (from_shape checks.before c copied.from) copied.by.space copied.by.pattern h11.0,
          fits_both copied.by.target (to_shape checks.before c copied.to) copied.by.space copied.by.pattern h12.0,
        )

    source_rule : (array : List ℕ) × (from_shape checks.before c copied.from ≡ Some array) × Fits copied.by.source array copied.by.space copied.by.pattern
    source_rule = both_rules.0

    pub target_rule : (array : List ℕ) × (to_shape checks.before c copied.to ≡ Some array) × Fits copied.by.target array copied.by.space copied.by.pattern
    target_rule = both_rules.1

    pub source_own : copied.from.part ≡ None → IsFitting m inputs_of c copied copied.from copied.by.source up
    source_own none =
        own_end inputs_of copied.from copied.by.source source_rule.0 none (sym (ap (λ o. from_shape checks.before c (record { part = o; port = copied.from.port })) none) ∙ source_rule.1) source_rule.2

    pub source_part : (part : List ℕ) → copied.from.part ≡ Some part → IsFitting m outputs_of c copied copied.from copied.by.source up
    source_part part some =
        part_end outputs_of copied.from copied.by.source source_rule.0 part some (sym (ap (λ o. from_shape checks.before c (record { part = o; port = copied.from.port })) some) ∙ source_rule.1) source_rule.2

    pub target_own : copied.to.part ≡ None → IsFitting m outputs_of c copied copied.to copied.by.target up
    target_own none =
        own_end outputs_of copied.to copied.by.target target_rule.0 none (sym (ap (λ o. to_shape checks.before c (record { part = o; port = copied.to.port })) none) ∙ target_rule.1) target_rule.2

    pub target_part : (part : List ℕ) → copied.to.part ≡ Some part → IsFitting m inputs_of c copied copied.to copied.by.target up
    target_part part some =
        part_end inputs_of copied.to copied.by.target target_rule.0 part some (sym (ap (λ o. to_shape checks.before c (record { part = o; port = copied.to.port })) some) ∙ target_rule.1) target_rule.2

    -- the space and the pattern of the reshape are shapes
    pub copied_limits : IsCopied copied
    copied_limits = AllByRecursion-at IsCopied c.reshapes k copied (limits_known m sound number up (tasks.Compound c) at).reshapes listed

-- a copy has the ends of its reshape at its one node
module _ (m : Model) (sound : IsSound m) (number : ℕ) (c : Compound) (copied : Copied) (around r i : List ℕ) (place : IsCopyAt m number c copied around r i) where
  pub has_source_own : copied.from.part ≡ None → HasEnd m inputs_of number c copied copied.from copied.by.source
  has_source_own e up at = source_own m sound number c copied up at place.reshape place.listed e

  pub has_source_part : (part : List ℕ) → copied.from.part ≡ Some part → HasEnd m outputs_of number c copied copied.from copied.by.source
  has_source_part part e up at = source_part m sound number c copied up at place.reshape place.listed part e

  pub has_target_own : copied.to.part ≡ None → HasEnd m outputs_of number c copied copied.to copied.by.target
  has_target_own e up at = target_own m sound number c copied up at place.reshape place.listed e

  pub has_target_part : (part : List ℕ) → copied.to.part ≡ Some part → HasEnd m inputs_of number c copied copied.to copied.by.target
  has_target_part part e up at = target_part m sound number c copied up at place.reshape place.listed part e

  -- the indices are those of an instance of that node
  pub around_of : (up : Node) → IsNode m number up (tasks.Compound c) → IsPointOf (space_around up) around
  around_of up at =
      let same : place.node ≡ up = (one_node m number place.node up (tasks.Compound c) (tasks.Compound c) place.at_node at).0 in
      subst (λ n. IsPointOf (space_around n) around) same place.around_inside

  pub ends_somewhere : (ports : Task → List Port) (h : Hook) (tiler : TilerOf) → HasEnd m ports number c copied h tiler → HasEndNode m number c h
  ends_somewhere ports h tiler e up at = ((e up at).task, (e up at).at_end)

-- ---- the element at an end

-- the port of a task that is found at the end has the shape that the tiler fits
module _ (m : Model) (sound : IsSound m) (number : ℕ) (c : Compound) (copied : Copied) (ports : Task → List Port) (h : Hook) (tiler : TilerOf) (up : Node) (e : IsFitting m ports c copied h tiler up)
    (below : ℕ) (t : Task) (here : IsNode m below (node_of_end c up h.part) t) where
  pub end_task : t ≡ e.task
  end_task = let both : Some t ≡ Some e.task = sym (known m below (node_of_end c up h.part) t here).task ∙ e.at_end in cc

  pub end_port : is_some (port_shape (ports t) h.port) ≡ true
  end_port = ap (λ u. is_some (port_shape (ports u) h.port)) end_task ∙ ap is_some e.at_port

  module _ (p : Port) (named : p.name ≡ h.port) (own : port_shape (ports t) p.name ≡ Some p.shape) where
    pub end_fits : Fits tiler p.shape copied.by.space copied.by.pattern
    end_fits =
        let both : Some p.shape ≡ Some e.shape = sym own ∙ (ap (port_shape (ports t)) named ∙ (ap (λ u. port_shape (ports u) h.port) end_task ∙ e.at_port)) in
        let is : p.shape ≡ e.shape = cc in
        subst (λ s. Fits tiler s copied.by.space copied.by.pattern) (sym is) e.fits

    pub end_addressed : (r i : List ℕ) → IsCopied copied → IsPointOf copied.by.space r → IsPointOf copied.by.pattern i → IsAddressed tiler p.shape r i
    end_addressed r i limits inside inside' = addressed tiler p.shape copied.by.space copied.by.pattern r i end_fits limits.space limits.pattern inside inside'

    pub end_is : (around r i : List ℕ) (k x : ℕ) → slice_get (ports t) k ≡ Some p → IsPointOf (space_around up) around → HasShape m (place_on (node_of_end c up h.part) around) p.name p.shape
        → x ≡ address tiler p.shape r i → x < size p.shape
        → IsElementOf m ports below k around x (end_element c (place_on up around) h (address_point tiler (end_shape m c (place_on up around) h) r i))
    end_is around r i k x listed inside there is small =
        let above : Place = place_on up around in
        let moved : HasShape m (instance_of_end c above h.part) h.port p.shape =
        moved_shape m (place_on (node_of_end c up h.part) around) (instance_of_end c above h.part) p.name h.port p.shape (place_end c up h.part around) named there in
        let shape : end_shape m c above h ≡ p.shape = shape_at_end m sound c above h p.shape moved in
        let index : address_point tiler (end_shape m c above h) r i ≡ point_at p.shape x =
        ap (λ s. address_point tiler s r i) shape
        ∙ (sym (address_back tiler p.shape copied.by.space copied.by.pattern r i end_fits (shape_limits m sound (instance_of_end c above h.part) h.port p.shape moved)) ∙ ap (point_at p.shape) (sym is)) in
        let P : List ℕ → Type 0 = λ s. IsPointOf s around in
        record {
          node = node_of_end c up h.part;
          task = t;
          at_node = here;
          port = p;
          listed = listed;
          around = subst P (sym (around_end c up h.part)) inside;
          within = small;
          is = ap (λ y. end_element c above h y) index
              ∙ (ap (λ (y : Place). record { place = y; port = h.port; index = point_at p.shape x }) (sym (place_end c up h.part around))
              ∙ ap (λ n. record { place = place_on (node_of_end c up h.part) around; port = n; index = point_at p.shape x }) (sym named));
        }

-- ---- the port that is found at an end

-- a u32 counts the inputs of a task
pub inputs_few : (t : Task) → IsTask t → length (inputs_of t) < 2 ^ 32
inputs_few (tasks.Elementary e) h = h.in_count
inputs_few (tasks.Compound c) h = h.in_count
inputs_few (tasks.Repeated r) h = h.in_count

-- the task that is looked up is that of the end
pub end_here : (m : Model) (number : ℕ) (c : Compound) (h : Hook) (up : Node) (below : ℕ) (t : Task) → IsNode m number up (tasks.Compound c) → IsEndNode m number c h below → HasTask m below t → IsNode m below (node_of_end c up h.part) t
end_here m number c h up below t at ends has =
    let b = ends up at in
    let P : Node → Type 0 = λ n. IsNode m below n t in
    subst P (one_node m below has.0 (node_of_end c up h.part) t b.0 has.1 b.1).0 has.1

-- the k-th port has the name, its own shape, and stands so at each instance
pub record IsFoundPort (m : Model) (ports : Task → List Port) (node : Node) (around name : List ℕ) (t : Task) (k : ℕ) (q : Port) : Type 0 where
  pub named : q.name ≡ name
  pub listed : slice_get (ports t) k ≡ Some q
  pub own : port_shape (ports t) q.name ≡ Some q.shape
  pub there : HasShape m (place_on node around) q.name q.shape

module _ (m : Model) (sound : IsSound m) (c : Compound) (up : Node) (h : Hook) (below : ℕ) (t : Task) (around : List ℕ) (here : IsNode m below (node_of_end c up h.part) t) (inside : IsPointOf (space_around up) around)
    (k : ℕ) (q : Port) where
  inside_end : IsPointOf (space_around (node_of_end c up h.part)) around
  inside_end = subst (λ s. IsPointOf s around) (sym (around_end c up h.part)) inside

  pub found_input : IsNumberOf (inputs_of t) h.port k → q ≡ get_or (inputs_of t) k q → IsFoundPort m inputs_of (node_of_end c up h.part) around h.port t k q
  found_input n is =
      let same : q ≡ n.port = read_port inputs_of t t k n.port q refl n.listed is in
      let listed : slice_get (inputs_of t) k ≡ Some q = n.listed ∙ ap (λ x. Some x) (sym same) in
      record {
        named = ap (λ (x : Port). x.name) same ∙ n.named;
        listed = listed;
        own = own_input m sound below (node_of_end c up h.part) t around here inside_end k q listed;
        there = input_shape_on m sound below (node_of_end c up h.part) t around here inside_end k q listed;
      }

  pub found_output : IsNumberOf (outputs_of t) h.port k → q ≡ get_or (outputs_of t) k q → IsFoundPort m outputs_of (node_of_end c up h.part) around h.port t k q
  found_output n is =
      let same : q ≡ n.port = read_port outputs_of t t k n.port q refl n.listed is in
      let listed : slice_get (outputs_of t) k ≡ Some q = n.listed ∙ ap (λ x. Some x) (sym same) in
      record {
        named = ap (λ (x : Port). x.name) same ∙ n.named;
        listed = listed;
        own = own_output m sound below (node_of_end c up h.part) t around here inside_end k q listed;
        there = output_shape_on m sound below (node_of_end c up h.part) t around here inside_end k q listed;
      }
