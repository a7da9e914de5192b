-- The look-up of sources finds what reshapes copy.
use Rattle.std.proofs.Common.{◌≡◌, ℕ, ◌≤◌, Bool, true, false, cond, ◌&&◌, ◌||◌, ◌==◌, List, [], ◌∷◌, map, flat_map, Option, Some, None, is_some, option_map, unwrap_or, slice_get, sym, ◌∙◌, ap, refl, arith, subst}
use Rattle.std.specs.Prelude.{option_and_then, nat_le}
use Rattle.std.specs.List.{IsAmong, list_all, count_by, enumerate_from}
use Rattle.std.proofs.lemmas.Bool.{eqb-true}
use Rattle.aol_shape.specs.Lists.{same}
use Rattle.aol_tiler.specs.Tiler.{address_point}
use Rattle.aol_expr_tree.specs.declared.port.Port.{Port}
use Rattle.aol_model_types.specs.declared.document.Model.{Model}
use Rattle.aol_model_types.specs.declared.place.Key.TheVariants.{KParts, KReshapes}
use Rattle.aol_model_types.specs.declared.place.PlaceStep.{PlaceStep}
use Rattle.aol_model_types.specs.declared.task.Compound.{Compound}
use Rattle.aol_model_types.specs.declared.task.Copied.{Copied}
use Rattle.aol_model_types.specs.declared.task.Hook.{Hook}
use Rattle.aol_model_types.specs.declared.task.Part.{Part}
use Rattle.aol_model_types.specs.declared.task.Plain.{Plain}
use Rattle.aol_model_types.specs.declared.task.Task.{Task}
use Rattle.aol_model_types.specs.declared.task.Task.TheVariants as tasks
use Rattle.aol_model_types.specs.Places.{to_key}
use Rattle.aol_model_types.specs.Rules.{task_named, inputs_of, inputs_named, port_shape, part_named, same_part, same_hook, is_fed, copied_checks, gives, takes, source_fits, target_fits, to_shape}
use Rattle.aol_flat.specs.Tasks.{part_number}
use Rattle.aol_flat.specs.Place.{Place, IntoPart, Element, task_at, end_element, instance_of_end}
use Rattle.aol_flat.specs.Equation.{CopiedElement}
use Rattle.aol_flat.specs.Node.{Node, nodes}
use Rattle.aol_flat.specs.Home.{is_part_end, link_into_part}
use Rattle.aol_flat.specs.Instance.{copy_source}
use Rattle.aol_flat.specs.Targets.{Writing, Target, writings_of, reshape_writings, reshape_target, node_targets, targets, earlier_writing, IsSingleAssignment}
use Rattle.aol_flat.specs.Sources.{copied_writings, written_by, copied_source, linked_source, is_own_end, link_into_own, part_writing, part_source, output_source, input_source, source_at}
use Rattle.aol_flat.specs.Accept.{IsSound}
use Rattle.aol_flat.proofs.Among.{among_get, map_among}
use Rattle.aol_flat.proofs.Checked.{IsTaskOf, HoldsOfCompound, member, fed_checks, of_compound, named_port, named_earlier}
use Rattle.aol_flat.proofs.Elements.{node_first}
use Rattle.aol_flat.proofs.Enumerate.{on_node, with_number}
use Rattle.aol_flat.proofs.Find.{and_then_some}
use Rattle.aol_flat.proofs.HasShape.{port_shaped, taken_shape}
use Rattle.aol_flat.proofs.Inside.{among_left, among_right, flat_map_among}
use Rattle.aol_flat.proofs.LinkRules.{end_agrees, part_at, part_name}
use Rattle.aol_flat.proofs.Names.{both-true, same-self}
use Rattle.aol_flat.proofs.Numbered.{end_exists}
use Rattle.aol_flat.proofs.Once.{all_at, found_among, same_found, counted, found_none}
use Rattle.aol_flat.proofs.OneWriting.{pair_among, only_writing, found_by_name, written_there}
use Rattle.aol_flat.proofs.Real.{fits_both, shape_at_end}
use Rattle.aol_flat.proofs.SourceSteps.{from_input, from_output, own_end_agrees, own_there, own_fed}
use Rattle.aol_flat.proofs.LinkSides.{task_there, taken_input, output_there, at_input, at_output}

-- where some reshape feeds an end, no link does
pub no_link : (n r : ℕ) → ((n == 1 && r == 0) || (n == 0 && nat_le 1 r)) ≡ true → 1 ≤ r → n ≡ 0
no_link n r h k = go (n == 1) refl (r == 0) refl (n == 0) refl h
  where
    go : (a : Bool) → (n == 1) ≡ a → (b : Bool) → (r == 0) ≡ b → (c : Bool) → (n == 0) ≡ c → ((a && b) || (c && nat_le 1 r)) ≡ true → n ≡ 0
    go a e true f c g x = let none : r ≡ 0 = eqb-true r 0 f in absurd (omega (arith, none, k))
    go a e false f true g x = eqb-true n 0 g
    go true e false f false g x = cc
    go false e false f false g x = cc

-- an input of a part is fed by one link alone or by reshapes alone
pub part_fed : (ts : List Task) (place : List PlaceStep) (c : Compound) (name port : List ℕ) (p : Part) → HoldsOfCompound ts place c → part_named c name ≡ Some p
    → is_some (port_shape (inputs_named ts p.task) port) ≡ true → is_fed c (record { part = Some name; port = port }) ≡ true
part_fed ts place c name port p holds named known =
    let u = named_port (inputs_named ts p.task) port known in
    let of_part = member (fed_checks ts c) (to_key place KParts) c.parts p holds.fed (found_among (λ (q : Part). same q.name name) c.parts p named) in
    let fed_all = (both-true (list_all (λ (v : Port). is_fed c (record { part = Some p.name; port = v.name })) (inputs_named ts p.task)) true of_part.holds).0 in
    ap (λ (n : List ℕ). is_fed c (record { part = Some n; port = port })) (sym (part_name c name p named))
    ∙ (ap (λ (n : List ℕ). is_fed c (record { part = Some p.name; port = n })) (sym u.2)
    ∙ all_at (λ (v : Port). is_fed c (record { part = Some p.name; port = v.name })) (inputs_named ts p.task) u.0 fed_all u.1)

-- the writing of a copy is one of its reshape's port
copy_among : (c : Compound) (part : Option (List ℕ)) (u : Port) (k : ℕ) (r : Copied) (w : Writing) → slice_get c.reshapes k ≡ Some r → (same_part r.to.part part && same r.to.port u.name) ≡ true
    → IsAmong (writings_of k r.by.target u.shape r.by.space r.by.pattern) w → IsAmong (copied_writings c part u) w
copy_among c part u k r w at into a =
    let P : Bool → Type 0 = λ b. IsAmong (cond b (writings_of k r.by.target u.shape r.by.space r.by.pattern) []) w in
    flat_map_among (reshape_writings part u) (enumerate_from 0 c.reshapes) (k, r) w (with_number c.reshapes k r at) (subst P (sym into) a)

module _ (m : Model) (sound : IsSound m) (single : IsSingleAssignment m) where
  -- the targets of a compound at an instance are listed
  own_listed : (up : Place) (c : Compound) (y : Port) → task_at m up ≡ Some (tasks.Compound c) → IsAmong c.outs y → (node : Node) × IsAmong (targets m) (reshape_target node c None y)
  own_listed up c y h listed =
      let o = on_node m sound.shapes up (tasks.Compound c) h in
      let f : Part → List Target = λ p. map (reshape_target o.node c (Some p.name)) (inputs_named m.tasks p.task) in (
        o.node,
        flat_map_among (node_targets m) (nodes m) (o.node, tasks.Compound c) (reshape_target o.node c None y) (o.nodes_in (o.node, tasks.Compound c) (node_first m o.depth (tasks.Compound c) o.node))
            (among_right (flat_map f c.parts) (map (reshape_target o.node c None) c.outs) (reshape_target o.node c None y) (map_among (reshape_target o.node c None) c.outs y listed)),
      )

  part_listed : (up : Place) (c : Compound) (p : Part) (u : Port) → task_at m up ≡ Some (tasks.Compound c) → IsAmong c.parts p → IsAmong (inputs_named m.tasks p.task) u
      → (node : Node) × IsAmong (targets m) (reshape_target node c (Some p.name) u)
  part_listed up c p u h among listed =
      let o = on_node m sound.shapes up (tasks.Compound c) h in
      let f : Part → List Target = λ q. map (reshape_target o.node c (Some q.name)) (inputs_named m.tasks q.task) in (
        o.node,
        flat_map_among (node_targets m) (nodes m) (o.node, tasks.Compound c) (reshape_target o.node c (Some p.name) u) (o.nodes_in (o.node, tasks.Compound c) (node_first m o.depth (tasks.Compound c) o.node))
            (among_left (flat_map f c.parts) (map (reshape_target o.node c None) c.outs) (reshape_target o.node c (Some p.name) u)
            (flat_map_among f c.parts p (reshape_target o.node c (Some p.name) u) among (map_among (reshape_target o.node c (Some p.name)) (inputs_named m.tasks p.task) u listed))),
      )

  -- the shape of a copy's target
  pub target_shape : (p q : Element) (f : CopiedElement m p q) (t : IsTaskOf m (tasks.Compound f.task)) → (s : List ℕ) × (to_shape t.before f.task f.reshape.to ≡ Some s) × (s ≡ f.target.shape)
  target_shape p q f t =
      let holds = of_compound t.before t.place f.task t.holds in
      let rules = member (copied_checks t.before f.task) (to_key t.place KReshapes) f.task.reshapes f.reshape holds.reshapes f.listed in
      let h6 = both-true (gives t.before f.task f.reshape.from) _ rules.holds in
      let h7 = both-true (takes t.before f.task f.reshape.to) _ h6.1 in
      let h11 = both-true (source_fits t.before f.task f.reshape) _ h7.1 in
      let h12 = both-true (target_fits t.before f.task f.reshape) true h11.1 in
      let to = fits_both f.reshape.by.target (to_shape t.before f.task f.reshape.to) f.reshape.by.space f.reshape.by.pattern h12.0 in (
        to.0,
        to.1,
        sym (shape_at_end m sound f.task f.up f.reshape.to to.0 (taken_shape m sound f.up f.task f.reshape.to to.0 f.at_place t to.1))
            ∙ end_exists m f.task f.up f.reshape.to p f.target (address_point f.reshape.by.target f.target.shape f.repetition f.part) f.left,
      )

  -- the source of the copy of a writing
  copy_found : (p q : Element) (f : CopiedElement m p q) (w : Option Writing) (v : Writing) → w ≡ Some v → v.0 ≡ record { item = f.listed.0; rep = f.repetition; pattern = f.part } → copied_source m f.task f.up w ≡ Some q
  copy_found p q f w v found pair =
      let at : slice_get f.task.reshapes f.listed.0 ≡ Some f.reshape = among_get f.task.reshapes f.listed.0 f.reshape f.listed.1.0 f.listed.1.1 in
      let source : copy_source m f.task f.up f.reshape f.repetition f.part ≡ q =
      ap (λ s. end_element f.task f.up f.reshape.from (address_point f.reshape.by.source s f.repetition f.part))
      (end_exists m f.task f.up f.reshape.from q f.source (address_point f.reshape.by.source f.source.shape f.repetition f.part) f.right)
      ∙ sym f.right in
      ap (copied_source m f.task f.up) found
      ∙ (ap (λ x. option_map (λ (r : Copied). copy_source m f.task f.up r x.rep x.pattern) (slice_get f.task.reshapes x.item)) pair
      ∙ (ap (option_map (λ (r : Copied). copy_source m f.task f.up r f.repetition f.part)) at ∙ ap Some source))

  own_copied : (p q : Element) (f : CopiedElement m p q) → f.reshape.to.part ≡ None → source_at m p ≡ Some q
  own_copied p q f e =
      let c = f.task in
      let r = f.reshape in
      let t = task_there m sound.shapes f.up (tasks.Compound c) f.at_place in
      let holds = of_compound t.before t.place c t.holds in
      let shape = target_shape p q f t in
      let at : slice_get c.reshapes f.listed.0 ≡ Some r = among_get c.reshapes f.listed.0 r f.listed.1.0 f.listed.1.1 in
      let own : port_shape c.outs r.to.port ≡ Some shape.0 = sym (ap (λ o. to_shape t.before c (record { part = o; port = r.to.port })) e) ∙ shape.1 in
      let y = found_by_name c.outs r.to.port shape.0 own in
      let listed = own_listed f.up c y.0 f.at_place (found_among (λ (x : Port). same x.name r.to.port) c.outs y.0 y.1) in
      let w : Writing = (record { item = f.listed.0; rep = f.repetition; pattern = f.part }, address_point r.by.target y.0.shape f.repetition f.part) in
      let into : (same_part r.to.part None && same r.to.port y.0.name) ≡ true =
      ap (λ o. same_part o None && same r.to.port y.0.name) e ∙ (ap (same r.to.port) y.2 ∙ same-self r.to.port) in
      let among : IsAmong (copied_writings c None y.0) w =
      copy_among c None y.0 f.listed.0 r w at into (pair_among f.listed.0 r.by.target y.0.shape r.by.space r.by.pattern f.repetition f.part f.repetition_inside f.part_inside) in
      let index : w.1 ≡ p.index = ap (λ x. address_point r.by.target x f.repetition f.part) (y.3 ∙ shape.2) ∙ sym (ap (λ (x : Element). x.index) f.left) in
      let first : earlier_writing (copied_writings c None y.0) p.index ≡ Some w = only_writing m single (reshape_target listed.0 c None y.0) listed.1 w p.index among index in
      let end : Hook = record { part = None; port = r.to.port } in
      let none : link_into_own c r.to.port ≡ None =
      same_found (λ (k : Plain). is_own_end r.to.port k.to) (λ (k : Plain). same_hook k.to end) c.links (λ k a. own_end_agrees r.to.port k.to)
      ∙ found_none (λ (k : Plain). same_hook k.to end) c.links
      (no_link (count_by (λ (k : Plain). same_hook k.to end) c.links) (count_by (λ (k : Copied). same_hook k.to end) c.reshapes) (own_fed t.before t.place c r.to.port holds (ap is_some own))
      (counted (λ (k : Copied). same_hook k.to end) c.reshapes r f.listed (own_there r.to.port r.to e refl))) in
      let place : p.place ≡ f.up = ap (λ (x : Element). x.place) f.left ∙ ap (instance_of_end c f.up) e in
      let port : p.port ≡ r.to.port = ap (λ (x : Element). x.port) f.left in
      from_output m p (at_output m p f.up r.to.port place port (output_there m sound.shapes f.up (tasks.Compound c) r.to.port f.at_place (ap is_some own)))
      ∙ (ap (λ x. output_source m (task_at m x) x p.port p.index) place
      ∙ (ap (λ n. output_source m (task_at m f.up) f.up n p.index) port
      ∙ (ap (λ o. output_source m o f.up r.to.port p.index) f.at_place
      ∙ (ap (λ l. linked_source c f.up p.index l (copied_source m c f.up (written_by (copied_writings c None) c.outs r.to.port p.index))) none
      ∙ copy_found p q f (written_by (copied_writings c None) c.outs r.to.port p.index) w (written_there (copied_writings c None) c.outs r.to.port y.0 p.index w y.1 first) refl))))

  part_copied : (p q : Element) (f : CopiedElement m p q) (name : List ℕ) → f.reshape.to.part ≡ Some name → source_at m p ≡ Some q
  part_copied p q f name e =
      let c = f.task in
      let r = f.reshape in
      let t = task_there m sound.shapes f.up (tasks.Compound c) f.at_place in
      let holds = of_compound t.before t.place c t.holds in
      let shape = target_shape p q f t in
      let at : slice_get c.reshapes f.listed.0 ≡ Some r = among_get c.reshapes f.listed.0 r f.listed.1.0 f.listed.1.1 in
      let part = and_then_some (λ (x : Part). port_shape (inputs_named t.before x.task) r.to.port) (part_named c name) shape.0
      (sym (ap (λ o. to_shape t.before c (record { part = o; port = r.to.port })) e) ∙ shape.1) in
      let u = port_shaped inputs_of (task_named t.before part.0.task) r.to.port shape.0 part.2 in
      let named : task_named m.tasks part.0.task ≡ Some u.0 = named_earlier m t.before (tasks.Compound c ∷ t.rest) part.0.task u.0 t.split u.1 in
      let own : port_shape (inputs_named m.tasks part.0.task) r.to.port ≡ Some shape.0 =
      ap (λ o. port_shape (unwrap_or (option_map inputs_of o) []) r.to.port) named ∙ u.2 in
      let y = found_by_name (inputs_named m.tasks part.0.task) r.to.port shape.0 own in
      let is_part : part.0.name ≡ name = part_name c name part.0 part.1 in
      let listed = part_listed f.up c part.0 y.0 f.at_place (found_among (λ (x : Part). same x.name name) c.parts part.0 part.1)
      (found_among (λ (x : Port). same x.name r.to.port) (inputs_named m.tasks part.0.task) y.0 y.1) in
      let w : Writing = (record { item = f.listed.0; rep = f.repetition; pattern = f.part }, address_point r.by.target y.0.shape f.repetition f.part) in
      let into : (same_part r.to.part (Some part.0.name) && same r.to.port y.0.name) ≡ true =
      ap (λ o. same_part o (Some part.0.name) && same r.to.port y.0.name) e
      ∙ (ap (λ n. same name n && same r.to.port y.0.name) is_part
      ∙ (ap (λ b. b && same r.to.port y.0.name) (same-self name) ∙ (ap (same r.to.port) y.2 ∙ same-self r.to.port))) in
      let among : IsAmong (copied_writings c (Some part.0.name) y.0) w =
      copy_among c (Some part.0.name) y.0 f.listed.0 r w at into (pair_among f.listed.0 r.by.target y.0.shape r.by.space r.by.pattern f.repetition f.part f.repetition_inside f.part_inside) in
      let index : w.1 ≡ p.index = ap (λ x. address_point r.by.target x f.repetition f.part) (y.3 ∙ shape.2) ∙ sym (ap (λ (x : Element). x.index) f.left) in
      let first : earlier_writing (copied_writings c (Some part.0.name) y.0) p.index ≡ Some w =
      only_writing m single (reshape_target listed.0 c (Some part.0.name) y.0) listed.1 w p.index among index in
      let end : Hook = record { part = Some name; port = r.to.port } in
      let into_end : same_hook r.to end ≡ true =
      ap (λ o. same_part o (Some name) && same r.to.port r.to.port) e ∙ (ap (λ b. b && same r.to.port r.to.port) (same-self name) ∙ same-self r.to.port) in
      let none : link_into_part c (part_number c name) r.to.port ≡ None =
      same_found (λ (k : Plain). is_part_end c (part_number c name) r.to.port k.to) (λ (k : Plain). same_hook k.to end) c.links (λ k a. end_agrees c name part.0 part.1 r.to.port k.to)
      ∙ found_none (λ (k : Plain). same_hook k.to end) c.links
      (no_link (count_by (λ (k : Plain). same_hook k.to end) c.links) (count_by (λ (k : Copied). same_hook k.to end) c.reshapes)
      (part_fed t.before t.place c name r.to.port part.0 holds part.1 (ap is_some part.2)) (counted (λ (k : Copied). same_hook k.to end) c.reshapes r f.listed into_end)) in
      let place : p.place ≡ IntoPart (part_number c name) ∷ f.up = ap (λ (x : Element). x.place) f.left ∙ ap (instance_of_end c f.up) e in
      let port : p.port ≡ r.to.port = ap (λ (x : Element). x.port) f.left in
      let copies : Option Writing = part_writing m c (part_number c name) r.to.port p.index in
      let found : copies ≡ Some w =
      ap (option_and_then (λ (x : Part). written_by (copied_writings c (Some x.name)) (inputs_named m.tasks x.task) r.to.port p.index)) (part_at c name part.0 part.1)
      ∙ written_there (copied_writings c (Some part.0.name)) (inputs_named m.tasks part.0.task) r.to.port y.0 p.index w y.1 first in
      from_input m p (at_input m p (IntoPart (part_number c name) ∷ f.up) r.to.port place port (taken_input m sound.shapes f.up c r.to name f.at_place t (ap is_some shape.1) e))
      ∙ (ap (λ x. input_source m x p.port p.index) place
      ∙ (ap (λ n. input_source m (IntoPart (part_number c name) ∷ f.up) n p.index) port
      ∙ (ap (λ o. part_source m o f.up (part_number c name) r.to.port p.index) f.at_place
      ∙ (ap (λ l. linked_source c f.up p.index l (copied_source m c f.up copies)) none
      ∙ copy_found p q f copies w found refl))))

  pub copied_found : (p q : Element) → CopiedElement m p q → source_at m p ≡ Some q
  copied_found p q f = go f.reshape.to.part refl
    where
      go : (o : Option (List ℕ)) → f.reshape.to.part ≡ o → source_at m p ≡ Some q
      go None e = own_copied p q f e
      go (Some name) e = part_copied p q f name e
