-- What is known of the listed instances, and the writing of a copy.
use Rattle.std.proofs.Common.{◌≡◌, ℕ, zero, suc, ◌+◌, Bool, true, cond, ◌&&◌, List, [], ◌∷◌, ◌++◌, length, map, flat_map, Option, Some, None, is_some, slice_get, option_map, unwrap_or, find, sym, ◌∙◌, ap, refl, arith, subst, inl, inr}
use Rattle.std.specs.List.{IsAmong, enumerate_from}
use Rattle.aol_shape.specs.Lists.{same}
use Rattle.aol_shape.specs.Shape.{IsPointOf, points}
use Rattle.aol_tiler.specs.Tiler.{address_point}
use Rattle.aol_expr_tree.specs.declared.port.Port.{Port}
use Rattle.aol_model_types.specs.declared.document.Model.{Model}
use Rattle.aol_model_types.specs.declared.place.Key.TheVariants.{KReshapes}
use Rattle.aol_model_types.specs.declared.task.Compound.{Compound}
use Rattle.aol_model_types.specs.declared.task.Copied.{Copied}
use Rattle.aol_model_types.specs.declared.task.Elementary.{Elementary}
use Rattle.aol_model_types.specs.declared.task.Part.{Part}
use Rattle.aol_model_types.specs.declared.task.Task.{Task}
use Rattle.aol_model_types.specs.declared.task.Task.TheVariants as tasks
use Rattle.aol_model_types.specs.Places.{to_key}
use Rattle.aol_model_types.specs.Rules.{task_named, inputs_of, inputs_named, port_shape, part_named, same_part, copied_checks, gives, takes, source_fits, target_fits, to_shape}
use Rattle.aol_flat.specs.Tasks.{main_task, part_number}
use Rattle.aol_flat.specs.Place.{Place, IntoPart, Element, task_at, instance_of_end}
use Rattle.aol_flat.specs.Node.{Node, ToPart, ToBody, space_around, place_on, nodes}
use Rattle.aol_flat.specs.Instance.{Leaf, reshape_leaf, leaves_below, leaves, Instance, Run, Copy, instance_on, leaf_instances, instances, end_shape, copy_target}
use Rattle.aol_flat.specs.Targets.{Writing, Target, writings_of, targets, node_targets, reshape_target, reshape_writings, earlier_writing, IsSingleAssignment}
use Rattle.aol_flat.specs.Wired.{IsInput, IsOutput}
use Rattle.aol_flat.specs.Accept.{IsSound}
use Rattle.aol_flat.specs.declared.view.Writer.{Writer}
use Rattle.aol_flat.proofs.Among.{among_append, among_map, among_flat_map, get_among, map_among, points_inside}
use Rattle.aol_flat.proofs.Checked.{IsTaskOf, member, of_compound, named_earlier}
use Rattle.aol_flat.proofs.Elements.{node_first}
use Rattle.aol_flat.proofs.Enumerate.{on_node, with_number}
use Rattle.aol_flat.proofs.Find.{and_then_some}
use Rattle.aol_flat.proofs.HasShape.{port_shaped, taken_shape}
use Rattle.aol_flat.proofs.Inside.{among_left, among_right, flat_map_among, number_of_member, point_split}
use Rattle.aol_flat.proofs.LinkRules.{part_at, part_name}
use Rattle.aol_flat.proofs.LinkSides.{task_there, taken_input, output_there, at_input, at_output}
use Rattle.aol_flat.proofs.Names.{both-true, same-self}
use Rattle.aol_flat.proofs.Numbered.{copy_instance}
use Rattle.aol_flat.proofs.OneWriting.{pair_among, only_writing, found_by_name}
use Rattle.aol_flat.proofs.Real.{IsGood, good_part, good_body, fits_both, shape_at_end}

-- ---- listed instances

-- a copy of a reshape of the compound task at a place
pub record IsCopyOf (m : Model) (place : Place) (k : ℕ) (repetition part : List ℕ) : Type 0 where
  pub task : Compound
  pub at : task_at m place ≡ Some (tasks.Compound task)
  pub reshape : Copied
  pub listed : slice_get task.reshapes k ≡ Some reshape
  pub repetition_inside : IsPointOf reshape.by.space repetition
  pub part_inside : IsPointOf reshape.by.pattern part

-- the instance is of a task that is there
abbrev pub IsOfTask : Model → Instance → Type 0
IsOfTask m (Run place) = (e : Elementary) × (task_at m place ≡ Some (tasks.Elementary e))
IsOfTask m (Copy place k repetition part) = IsCopyOf m place k repetition part

module _ (m : Model) (sound : IsSound m) where
  reshape_of : (c : Compound) (node : Node) (k : ℕ) (r : Copied) → IsGood m sound (Some (tasks.Compound c)) node → slice_get c.reshapes k ≡ Some r → (at : List ℕ)
      → IsPointOf (space_around node ++ r.by.space ++ r.by.pattern) at → IsOfTask m (instance_on (reshape_leaf node (k, r)) at)
  reshape_of c node k r good listed at inside =
      let z = point_split (space_around node ++ r.by.space) r.by.pattern at inside in
      let y = point_split (space_around node) r.by.space z.0 z.3 in
      let R : Instance → Type 0 = λ i. IsOfTask m i in
      let S : List ℕ → Type 0 = λ x. IsOfTask m (instance_on (reshape_leaf node (k, r)) x) in
      let whole : at ≡ y.0 ++ y.1 ++ z.1 = z.2 ∙ ap (λ x. x ++ z.1) y.2 in
      let of : IsCopyOf m (place_on node y.0) k y.1 z.1 =
      record { task = c; at = good (tasks.Compound c) refl y.0 y.3; reshape = r; listed = listed; repetition_inside = y.4; part_inside = z.4 } in
      subst S (sym whole) (subst R (sym (copy_instance node k r y.0 y.1 z.1 y.3 y.4)) of)

  leaf_of : (depth : ℕ) (o : Option Task) (node : Node) → IsGood m sound o node → (l : Leaf) → IsAmong (leaves_below depth m o node) l → (at : List ℕ) → IsPointOf l.space at → IsOfTask m (instance_on l at)
  leaf_of zero o node good l a at inside = absurd (omega (arith, a.1.0))
  leaf_of (suc depth) None node good l a at inside = absurd (omega (arith, a.1.0))
  leaf_of (suc depth) (Some (tasks.Elementary e)) node good l (zero, a) at inside =
      let P : Leaf → Type 0 = λ x. IsPointOf x.space at in
      let Q : Leaf → Type 0 = λ x. IsOfTask m (instance_on x at) in
      let here : IsPointOf (space_around node) at = subst P a.1 inside in
      let of : IsOfTask m (Run (place_on node at)) = (e, good (tasks.Elementary e) refl at here) in
      subst Q (sym a.1) of
  leaf_of (suc depth) (Some (tasks.Elementary e)) node good l (suc i, a) at inside = absurd (omega (arith, a.0))
  leaf_of (suc depth) (Some (tasks.Repeated t)) node good l a at inside = leaf_of depth (task_named m.tasks t.task) (ToBody t.space ∷ node) (good_body m sound t node good) l a at inside
  leaf_of (suc depth) (Some (tasks.Compound c)) node good l a at inside =
      let f : ℕ × Part → List Leaf = λ q. leaves_below depth m (task_named m.tasks q.1.task) (ToPart q.0 ∷ node) in
      elim (among_append (flat_map f (enumerate_from 0 c.parts)) (map (reshape_leaf node) (enumerate_from 0 c.reshapes)) l a) [
        | inl b ↦
            let q = among_flat_map f (enumerate_from 0 c.parts) l b in
            let k = number_of_member c.parts 0 q.0 q.1 in
            let number : 0 + k.0 ≡ k.0 = omega arith in
            let listed : slice_get c.parts q.0.0 ≡ Some q.0.1 = ap (slice_get c.parts) (k.1 ∙ number) ∙ k.2 in
            leaf_of depth (task_named m.tasks q.0.1.task) (ToPart q.0.0 ∷ node) (good_part m sound c node q.0.0 q.0.1 good listed) l q.2 at inside
        | inr b ↦
            let q = among_map (reshape_leaf node) (enumerate_from 0 c.reshapes) l b in
            let k = number_of_member c.reshapes 0 q.0 q.1 in
            let number : 0 + k.0 ≡ k.0 = omega arith in
            let listed : slice_get c.reshapes q.0.0 ≡ Some q.0.1 = ap (slice_get c.reshapes) (k.1 ∙ number) ∙ k.2 in
            let P : Leaf → Type 0 = λ x. IsPointOf x.space at in
            let Q : Leaf → Type 0 = λ x. IsOfTask m (instance_on x at) in
            subst Q (sym q.2) (reshape_of c node q.0.0 q.0.1 good listed at (subst P q.2 inside))
      ]

  -- each listed instance is of a task that is there
  pub listed_of : (j : ℕ) (i : Instance) → slice_get (instances m) j ≡ Some i → IsOfTask m i
  listed_of j i h =
      let l = among_flat_map leaf_instances (leaves m) i (get_among (instances m) j i h) in
      let at = among_map (instance_on l.0) (points l.0.space) i l.2 in
      let P : Instance → Type 0 = λ x. IsOfTask m x in
      subst P (sym at.2)
      (leaf_of (length m.tasks) (main_task m) [] (λ t e x inside. e) l.0 l.1 at.0 (points_inside l.0.space at.0 at.1))

  -- ---- the target of a copy

  -- a pair of a reshape into a port, whose point is that of the element
  pub record IsPairOf (c : Compound) (part : Option (List ℕ)) (u : Port) (x : List ℕ) (k : ℕ) (repetition pattern : List ℕ) : Type 0 where
    pub reshape : Copied
    pub listed : slice_get c.reshapes k ≡ Some reshape
    pub into : (same_part reshape.to.part part && same reshape.to.port u.name) ≡ true
    pub repetition_inside : IsPointOf reshape.by.space repetition
    pub pattern_inside : IsPointOf reshape.by.pattern pattern
    pub point : address_point reshape.by.target u.shape repetition pattern ≡ x

  pair_writing : (c : Compound) (part : Option (List ℕ)) (u : Port) (x : List ℕ) (k : ℕ) (repetition pattern : List ℕ) → (p : IsPairOf c part u x k repetition pattern) → (node : Node)
      → IsAmong (reshape_target node c part u).writings (record { item = k; rep = repetition; pattern = pattern }, address_point p.reshape.by.target u.shape repetition pattern)
  pair_writing c part u x k repetition pattern p node =
      let w : Writing = (record { item = k; rep = repetition; pattern = pattern }, address_point p.reshape.by.target u.shape repetition pattern) in
      let P : Bool → Type 0 = λ b. IsAmong (cond b (writings_of k p.reshape.by.target u.shape p.reshape.by.space p.reshape.by.pattern) []) w in
      flat_map_among (reshape_writings part u) (enumerate_from 0 c.reshapes) (k, p.reshape) w (with_number c.reshapes k p.reshape p.listed)
      (subst P (sym p.into) (pair_among k p.reshape.by.target u.shape p.reshape.by.space p.reshape.by.pattern repetition pattern p.repetition_inside p.pattern_inside))

  -- the pair that writes a point is the only one
  pub only_pair : IsSingleAssignment m → (c : Compound) (part : Option (List ℕ)) (u : Port) (node : Node) → IsAmong (targets m) (reshape_target node c part u) → (x : List ℕ) (k k' : ℕ) (r r' i i' : List ℕ)
      → IsPairOf c part u x k r i → IsPairOf c part u x k' r' i' → ◌≡◌ {A = Writer} (record { item = k; rep = r; pattern = i }) (record { item = k'; rep = r'; pattern = i' })
  only_pair single c part u node listed x k k' r r' i i' p q =
      let t : Target = reshape_target node c part u in
      let w : Writing = (record { item = k; rep = r; pattern = i }, address_point p.reshape.by.target u.shape r i) in
      let v : Writing = (record { item = k'; rep = r'; pattern = i' }, address_point q.reshape.by.target u.shape r' i') in
      let one : earlier_writing t.writings x ≡ Some w = only_writing m single t listed w x (pair_writing c part u x k r i p node) p.point in
      let other : earlier_writing t.writings x ≡ Some v = only_writing m single t listed v x (pair_writing c part u x k' r' i' q node) q.point in
      let both : Some w ≡ Some v = sym one ∙ other in
      let same_writing : w ≡ v = cc in
      ap (λ (z : Writing). z.0) same_writing

  pub own_target : (place : Place) (c : Compound) (y : Port) → task_at m place ≡ Some (tasks.Compound c) → IsAmong c.outs y → (node : Node) × IsAmong (targets m) (reshape_target node c None y)
  own_target place c y h listed =
      let o = on_node m sound.shapes place (tasks.Compound c) h in
      let f : Part → List Target = λ p. map (reshape_target o.node c (Some p.name)) (inputs_named m.tasks p.task) in (
        o.node,
        flat_map_among (node_targets m) (nodes m) (o.node, tasks.Compound c) (reshape_target o.node c None y) (o.nodes_in (o.node, tasks.Compound c) (node_first m o.depth (tasks.Compound c) o.node))
            (among_right (flat_map f c.parts) (map (reshape_target o.node c None) c.outs) (reshape_target o.node c None y) (map_among (reshape_target o.node c None) c.outs y listed)),
      )

  pub part_target : (place : Place) (c : Compound) (p : Part) (u : Port) → task_at m place ≡ Some (tasks.Compound c) → IsAmong c.parts p → IsAmong (inputs_named m.tasks p.task) u
      → (node : Node) × IsAmong (targets m) (reshape_target node c (Some p.name) u)
  part_target place c p u h among listed =
      let o = on_node m sound.shapes place (tasks.Compound c) h in
      let f : Part → List Target = λ q. map (reshape_target o.node c (Some q.name)) (inputs_named m.tasks q.task) in (
        o.node,
        flat_map_among (node_targets m) (nodes m) (o.node, tasks.Compound c) (reshape_target o.node c (Some p.name) u) (o.nodes_in (o.node, tasks.Compound c) (node_first m o.depth (tasks.Compound c) o.node))
            (among_left (flat_map f c.parts) (map (reshape_target o.node c None) c.outs) (reshape_target o.node c (Some p.name) u)
            (flat_map_among f c.parts p (reshape_target o.node c (Some p.name) u) among (map_among (reshape_target o.node c (Some p.name)) (inputs_named m.tasks p.task) u listed))),
      )

  -- ---- where a copy writes

  -- the shape of the target of a reshape
  reshape_shape : (place : Place) (c : Compound) (r : Copied) (k : ℕ) → task_at m place ≡ Some (tasks.Compound c) → slice_get c.reshapes k ≡ Some r → (t : IsTaskOf m (tasks.Compound c))
      → (s : List ℕ) × (to_shape t.before c r.to ≡ Some s) × (end_shape m c place r.to ≡ s)
  reshape_shape place c r k at listed t =
      let holds = of_compound t.before t.place c t.holds in
      let rules = member (copied_checks t.before c) (to_key t.place KReshapes) c.reshapes r holds.reshapes (get_among c.reshapes k r listed) in
      let h6 = both-true (gives t.before c r.from) _ rules.holds in
      let h7 = both-true (takes t.before c r.to) _ h6.1 in
      let h11 = both-true (source_fits t.before c r) _ h7.1 in
      let h12 = both-true (target_fits t.before c r) true h11.1 in
      let to = fits_both r.by.target (to_shape t.before c r.to) r.by.space r.by.pattern h12.0 in
      (to.0, to.1, shape_at_end m sound c place r.to to.0 (taken_shape m sound place c r.to to.0 at t to.1))

  -- the pair of a copy that writes an own output
  pub record WritesOwn (place : Place) (c : Compound) (k : ℕ) (repetition pattern : List ℕ) (e : Element) : Type 0 where
    pub port : Port
    pub found : find (λ (p : Port). same p.name e.port) c.outs ≡ Some port
    pub pair : IsPairOf c None port e.index k repetition pattern
    pub here : e.place ≡ place
    pub output : IsOutput m e

  pub record WritesPart (place : Place) (c : Compound) (k : ℕ) (repetition pattern : List ℕ) (e : Element) : Type 0 where
    pub number : ℕ
    pub part : Part
    pub at_number : slice_get c.parts number ≡ Some part
    pub port : Port
    pub found : find (λ (p : Port). same p.name e.port) (inputs_named m.tasks part.task) ≡ Some port
    pub pair : IsPairOf c (Some part.name) port e.index k repetition pattern
    pub here : e.place ≡ IntoPart number ∷ place
    pub input : IsInput m e

  module _ (place : Place) (k : ℕ) (repetition pattern : List ℕ) (f : IsCopyOf m place k repetition pattern) (e : Element) (is : e ≡ copy_target m f.task place f.reshape repetition pattern) where
    task : IsTaskOf m (tasks.Compound f.task)
    task = task_there m sound.shapes place (tasks.Compound f.task) f.at

    shape : (s : List ℕ) × (to_shape task.before f.task f.reshape.to ≡ Some s) × (end_shape m f.task place f.reshape.to ≡ s)
    shape = reshape_shape place f.task f.reshape k f.at f.listed task

    port_is : e.port ≡ f.reshape.to.port
    port_is = ap (λ (x : Element). x.port) is

    point_is : (u : Port) → u.shape ≡ shape.0 → address_point f.reshape.by.target u.shape repetition pattern ≡ e.index
    point_is u same_shape = ap (λ s. address_point f.reshape.by.target s repetition pattern) (same_shape ∙ sym shape.2) ∙ sym (ap (λ (x : Element). x.index) is)

    pub writes_own : f.reshape.to.part ≡ None → WritesOwn place f.task k repetition pattern e
    writes_own own =
        let known : port_shape f.task.outs f.reshape.to.port ≡ Some shape.0 = sym (ap (λ o. to_shape task.before f.task (record { part = o; port = f.reshape.to.port })) own) ∙ shape.1 in
        let y = found_by_name f.task.outs f.reshape.to.port shape.0 known in
        let here : e.place ≡ place = ap (λ (x : Element). x.place) is ∙ ap (instance_of_end f.task place) own in
        record {
          port = y.0;
          found = ap (λ n. find (λ (p : Port). same p.name n) f.task.outs) port_is ∙ y.1;
          pair = record {
            reshape = f.reshape;
            listed = f.listed;
            into = ap (λ o. same_part o None && same f.reshape.to.port y.0.name) own ∙ (ap (same f.reshape.to.port) y.2 ∙ same-self f.reshape.to.port);
            repetition_inside = f.repetition_inside;
            pattern_inside = f.part_inside;
            point = point_is y.0 y.3;
          };
          here = here;
          output = at_output m e place f.reshape.to.port here port_is (output_there m sound.shapes place (tasks.Compound f.task) f.reshape.to.port f.at (ap is_some known));
        }

    pub writes_part : (name : List ℕ) → f.reshape.to.part ≡ Some name → WritesPart place f.task k repetition pattern e
    writes_part name into =
        let c = f.task in
        let r = f.reshape in
        let part = and_then_some (λ (x : Part). port_shape (inputs_named task.before x.task) r.to.port) (part_named c name) shape.0
        (sym (ap (λ o. to_shape task.before c (record { part = o; port = r.to.port })) into) ∙ shape.1) in
        let u = port_shaped inputs_of (task_named task.before part.0.task) r.to.port shape.0 part.2 in
        let named : task_named m.tasks part.0.task ≡ Some u.0 = named_earlier m task.before (tasks.Compound c ∷ task.rest) part.0.task u.0 task.split u.1 in
        let known : port_shape (inputs_named m.tasks part.0.task) r.to.port ≡ Some shape.0 = ap (λ o. port_shape (unwrap_or (option_map inputs_of o) []) r.to.port) named ∙ u.2 in
        let y = found_by_name (inputs_named m.tasks part.0.task) r.to.port shape.0 known in
        let is_part : part.0.name ≡ name = part_name c name part.0 part.1 in
        let here : e.place ≡ IntoPart (part_number c name) ∷ place = ap (λ (x : Element). x.place) is ∙ ap (instance_of_end c place) into in
        record {
          number = part_number c name;
          part = part.0;
          at_number = part_at c name part.0 part.1;
          port = y.0;
          found = ap (λ n. find (λ (p : Port). same p.name n) (inputs_named m.tasks part.0.task)) port_is ∙ y.1;
          pair = record {
            reshape = r;
            listed = f.listed;
            into =
                ap (λ o. same_part o (Some part.0.name) && same r.to.port y.0.name) into
                ∙ (ap (λ n. same name n && same r.to.port y.0.name) is_part
                ∙ (ap (λ b. b && same r.to.port y.0.name) (same-self name) ∙ (ap (same r.to.port) y.2 ∙ same-self r.to.port)));
            repetition_inside = f.repetition_inside;
            pattern_inside = f.part_inside;
            point = point_is y.0 y.3;
          };
          here = here;
          input = at_input m e (IntoPart (part_number c name) ∷ place) r.to.port here port_is (taken_input m sound.shapes place c r.to name f.at task (ap is_some shape.1) into);
        }
