-- An input of a part to which a reshape leads is stored by itself.
use Rattle.std.proofs.Common.{◌≡◌, ℕ, ℤ, true, ◌&&◌, List, ◌∷◌, slice_get, Some, None, is_some, sym, ◌∙◌, ap, refl}
use Rattle.std.specs.List.{count_by}
use Rattle.aol_shape.specs.Lists.{same}
use Rattle.aol_shape.specs.Shape.{IsPointOf}
use Rattle.aol_tiler.specs.Tiler.{address_point}
use Rattle.aol_model_types.specs.declared.document.Model.{Model}
use Rattle.aol_model_types.specs.declared.task.Compound.{Compound}
use Rattle.aol_model_types.specs.declared.task.Copied.{Copied}
use Rattle.aol_model_types.specs.declared.task.Hook.{Hook}
use Rattle.aol_model_types.specs.declared.task.Part.{Part}
use Rattle.aol_model_types.specs.declared.task.Plain.{Plain}
use Rattle.aol_model_types.specs.declared.task.Task.TheVariants as tasks
use Rattle.aol_model_types.specs.Rules.{inputs_named, port_shape, part_named, same_part, same_hook, to_shape}
use Rattle.aol_flat.specs.Accept.{IsSound}
use Rattle.aol_flat.specs.Home.{Kept, Constant, origin, origin_home, home_of, is_part_end, link_into_part, linked_origin, part_origin}
use Rattle.aol_flat.specs.Instance.{end_shape, copy_target}
use Rattle.aol_flat.specs.Node.{Node, space_around, place_on}
use Rattle.aol_flat.specs.NodeTable.{IsNode}
use Rattle.aol_flat.specs.Place.{Place, Element, IntoPart, task_at, instance_of_end}
use Rattle.aol_flat.specs.Tasks.{part_number}
use Rattle.aol_flat.specs.Wired.{IsInput}
use Rattle.aol_flat.proofs.Among.{get_among}
use Rattle.aol_flat.proofs.Checked.{of_compound}
use Rattle.aol_flat.proofs.CopyEnds.{checks, target_rule}
use Rattle.aol_flat.proofs.Find.{and_then_some}
use Rattle.aol_flat.proofs.Homes.{input_home}
use Rattle.aol_flat.proofs.LinkRules.{end_agrees}
use Rattle.aol_flat.proofs.LinkSides.{taken_input, at_input}
use Rattle.aol_flat.proofs.Names.{same-self}
use Rattle.aol_flat.proofs.NodeAt.{task_there_on}
use Rattle.aol_flat.proofs.Once.{same_found, counted, found_none}
use Rattle.aol_flat.proofs.SourceCopies.{no_link, part_fed}

module _ (m : Model) (sound : IsSound m) (number : ℕ) (c : Compound) (copied : Copied) (up : Node) (at : IsNode m number up (tasks.Compound c)) (number_of : ℕ) (listed : slice_get c.reshapes number_of ≡ Some copied)
    (name : List ℕ) (into : copied.to.part ≡ Some name) where
  -- no plain link leads there
  unlinked : link_into_part c (part_number c name) copied.to.port ≡ None
  unlinked =
      let t = checks m sound number c copied up at in
      let shape = target_rule m sound number c copied up at number_of listed in
      let part = and_then_some (λ (x : Part). port_shape (inputs_named t.before x.task) copied.to.port) (part_named c name) shape.0
      (sym (ap (λ o. to_shape t.before c (record { part = o; port = copied.to.port })) into) ∙ shape.1) in
      let end : Hook = record { part = Some name; port = copied.to.port } in
      let into_end : same_hook copied.to end ≡ true =
      ap (λ o. same_part o (Some name) && same copied.to.port copied.to.port) into ∙ (ap (λ b. b && same copied.to.port copied.to.port) (same-self name) ∙ same-self copied.to.port) in
      same_found (λ (k : Plain). is_part_end c (part_number c name) copied.to.port k.to) (λ (k : Plain). same_hook k.to end) c.links (λ k a. end_agrees c name part.0 part.1 copied.to.port k.to)
      ∙ found_none (λ (k : Plain). same_hook k.to end) c.links
      (no_link (count_by (λ (k : Plain). same_hook k.to end) c.links) (count_by (λ (k : Copied). same_hook k.to end) c.reshapes)
      (part_fed t.before t.place c name copied.to.port part.0 (of_compound t.before t.place c t.holds) part.1 (ap is_some part.2))
      (counted (λ (k : Copied). same_hook k.to end) c.reshapes copied (get_among c.reshapes number_of copied listed) into_end))

  -- so it is its own home
  target_home : (around x : List ℕ) → IsPointOf (space_around up) around
      → home_of m (record { place = IntoPart (part_number c name) ∷ place_on up around; port = copied.to.port; index = x }) ≡ Kept (record { place = IntoPart (part_number c name) ∷ place_on up around; port = copied.to.port; index = x })
  target_home around x inside =
      let t = checks m sound number c copied up at in
      let shape = target_rule m sound number c copied up at number_of listed in
      let k : ℕ = part_number c name in
      let place : Place = place_on up around in
      let e : Element = record { place = IntoPart k ∷ place; port = copied.to.port; index = x } in
      let here : task_at m place ≡ Some (tasks.Compound c) = task_there_on m sound number up (tasks.Compound c) around at inside in
      let input : IsInput m e = at_input m e (IntoPart k ∷ place) copied.to.port refl refl (taken_input m sound.shapes place c copied.to name here t (ap is_some shape.1) into) in
      input_home m e input
      ∙ (ap (λ o. origin_home m (part_origin o place k copied.to.port x (origin m place))) here
      ∙ ap (λ l. origin_home m (linked_origin c place k copied.to.port x (origin m place) l)) unlinked)

  pub target_is_stored : (around r i : List ℕ) (n : ℤ) → IsPointOf (space_around up) around → home_of m (copy_target m c (place_on up around) copied r i) ≡ Constant n → ⊥
  target_is_stored around r i n inside h =
      let place : Place = place_on up around in
      let x : List ℕ = address_point copied.by.target (end_shape m c place copied.to) r i in
      let e : Element = record { place = IntoPart (part_number c name) ∷ place; port = copied.to.port; index = x } in
      let is : copy_target m c place copied r i ≡ e = ap (λ o. record { place = instance_of_end c place o; port = copied.to.port; index = x }) into in
      let both : Kept e ≡ Constant n = sym (target_home around x inside) ∙ (sym (ap (home_of m) is) ∙ h) in
      cc
