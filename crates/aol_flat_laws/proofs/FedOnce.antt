-- A target of a copy follows nothing.
use Rattle.std.proofs.Common.{◌≡◌, ℕ, ◌≤◌, true, ◌&&◌, List, ◌∷◌, Option, Some, None, is_some, sym, ◌∙◌, ap, refl, arith, subst}
use Rattle.std.specs.List.{IsAmong, count_by}
use Rattle.std.proofs.lemmas.Bool.{eq-eqb}
use Rattle.aol_shape.specs.Lists.{same}
use Rattle.aol_model_types.specs.declared.document.Model.{Model}
use Rattle.aol_model_types.specs.declared.task.Compound.{Compound}
use Rattle.aol_model_types.specs.declared.task.Copied.{Copied}
use Rattle.aol_model_types.specs.declared.task.Hook.{Hook}
use Rattle.aol_model_types.specs.declared.task.Plain.{Plain}
use Rattle.aol_model_types.specs.declared.task.Task.TheVariants as tasks
use Rattle.aol_model_types.specs.Rules.{port_shape, to_shape, same_hook, same_part, is_fed}
use Rattle.aol_flat.specs.Tasks.{part_number}
use Rattle.aol_flat.specs.Place.{Place, IntoPart, IntoRepetition, Element, task_at, instance_of_end}
use Rattle.aol_flat.specs.Equation.{PartInput, OwnOutput, CopiedElement}
use Rattle.aol_flat.specs.Home.{is_part_end}
use Rattle.aol_flat.specs.Need.{Follows, by_part_input, by_own_output, by_tiled_input, by_link, by_default, by_outer_output}
use Rattle.aol_flat.specs.Targets.{IsSingleAssignment}
use Rattle.aol_flat.specs.Wired.{IsInput, IsOutput, IsWired}
use Rattle.aol_flat.specs.Accept.{IsSound}
use Rattle.aol_flat.proofs.Checked.{IsTaskOf, of_compound}
use Rattle.aol_flat.proofs.Levelled.{two_sides}
use Rattle.aol_flat.proofs.LinkRules.{taken_by_part, end_agrees}
use Rattle.aol_flat.proofs.LinkSides.{task_there, taken_input, output_there, at_input, at_output}
use Rattle.aol_flat.proofs.Names.{same-self}
use Rattle.aol_flat.proofs.Once.{counted}
use Rattle.aol_flat.proofs.SourceCopies.{no_link, part_fed, target_shape}
use Rattle.aol_flat.proofs.SourceSteps.{own_there, own_fed}
use Rattle.aol_flat.proofs.Wired.{agreeing_is_wired}

-- an end is not fed by a link and a reshape
fed_by_both : (c : Compound) (end : Hook) (l : Plain) (r : Copied) → is_fed c end ≡ true → IsAmong c.links l → same_hook l.to end ≡ true → IsAmong c.reshapes r → same_hook r.to end ≡ true → ⊥
fed_by_both c end l r fed a e b f =
    let links : ℕ = count_by (λ (k : Plain). same_hook k.to end) c.links in
    let copies : ℕ = count_by (λ (k : Copied). same_hook k.to end) c.reshapes in
    let one : 1 ≤ links = counted (λ (k : Plain). same_hook k.to end) c.links l a e in
    let some : 1 ≤ copies = counted (λ (k : Copied). same_hook k.to end) c.reshapes r b f in
    let none : links ≡ 0 = no_link links copies fed some in
    omega (arith, one, none)

module _ (m : Model) (sound : IsSound m) (single : IsSingleAssignment m) (p q : Element) (f : CopiedElement m p q) where
  t : IsTaskOf m (tasks.Compound f.task)
  t = task_there m sound.shapes f.up (tasks.Compound f.task) f.at_place

  port : p.port ≡ f.reshape.to.port
  port = ap (λ (x : Element). x.port) f.left

  place : p.place ≡ instance_of_end f.task f.up f.reshape.to.part
  place = ap (λ (x : Element). x.place) f.left

  shaped : is_some (to_shape t.before f.task f.reshape.to) ≡ true
  shaped = ap is_some (target_shape m sound single p q f t).1

  own_known : f.reshape.to.part ≡ None → is_some (port_shape f.task.outs f.reshape.to.port) ≡ true
  own_known e = sym (ap (λ o. is_some (to_shape t.before f.task (record { part = o; port = f.reshape.to.port }))) e) ∙ shaped

  -- it is an own output, or an input of a part
  pub copy_output : f.reshape.to.part ≡ None → IsOutput m p
  copy_output e =
      at_output m p f.up f.reshape.to.port (place ∙ ap (instance_of_end f.task f.up) e) port
      (output_there m sound.shapes f.up (tasks.Compound f.task) f.reshape.to.port f.at_place (own_known e))

  pub copy_input : (name : List ℕ) → f.reshape.to.part ≡ Some name → IsInput m p
  copy_input name e =
      at_input m p (IntoPart (part_number f.task name) ∷ f.up) f.reshape.to.port (place ∙ ap (instance_of_end f.task f.up) e) port
      (taken_input m sound.shapes f.up f.task f.reshape.to name f.at_place t shaped e)

  -- no link leads there
  own_unlinked : (r : Element) → OwnOutput m p r → f.reshape.to.part ≡ None → ⊥
  own_unlinked r g e =
      let here : p.place ≡ f.up = place ∙ ap (instance_of_end f.task f.up) e in
      let both : Some (tasks.Compound g.task) ≡ Some (tasks.Compound f.task) = sym g.at_place ∙ (ap (task_at m) here ∙ f.at_place) in
      let one : g.task ≡ f.task = cc in
      let L : Compound → Type 0 = λ x. IsAmong x.links g.link in
      let to : g.link.to.port ≡ f.reshape.to.port = sym (ap (λ (x : Element). x.port) g.left) ∙ port in
      fed_by_both f.task (record { part = None; port = f.reshape.to.port }) g.link f.reshape
      (own_fed t.before t.place f.task f.reshape.to.port (of_compound t.before t.place f.task t.holds) (own_known e))
      (subst L one g.listed) (own_there f.reshape.to.port g.link.to g.into_own to) f.listed (own_there f.reshape.to.port f.reshape.to e refl)

  part_unlinked : (r : Element) → PartInput m p r → (name : List ℕ) → f.reshape.to.part ≡ Some name → ⊥
  part_unlinked r g name e =
      let there : IntoPart (part_number g.task g.part) ∷ g.up ≡ IntoPart (part_number f.task name) ∷ f.up =
      sym (ap (λ (x : Element). x.place) g.left ∙ ap (instance_of_end g.task g.up) g.into_part) ∙ (place ∙ ap (instance_of_end f.task f.up) e) in
      let above : g.up ≡ f.up = cc in
      let step : IntoPart (part_number g.task g.part) ≡ IntoPart (part_number f.task name) = cc in
      let numbers : part_number g.task g.part ≡ part_number f.task name = cc in
      let both : Some (tasks.Compound g.task) ≡ Some (tasks.Compound f.task) = sym g.at_place ∙ (ap (task_at m) above ∙ f.at_place) in
      let one : g.task ≡ f.task = cc in
      let L : Compound → Type 0 = λ x. IsAmong x.links g.link in
      let to : g.link.to.port ≡ f.reshape.to.port = sym (ap (λ (x : Element). x.port) g.left) ∙ port in
      let number : part_number f.task g.part ≡ part_number f.task name = ap (λ (x : Compound). part_number x g.part) (sym one) ∙ numbers in
      let end : Hook = record { part = Some name; port = f.reshape.to.port } in
      let part = taken_by_part t.before f.task f.reshape.to name e shaped in
      let copy_there : same_hook f.reshape.to end ≡ true =
      ap (λ o. same_part o (Some name) && same f.reshape.to.port f.reshape.to.port) e
      ∙ (ap (λ b. b && same f.reshape.to.port f.reshape.to.port) (same-self name) ∙ same-self f.reshape.to.port) in
      let link_there : is_part_end f.task (part_number f.task name) f.reshape.to.port g.link.to ≡ true =
      ap (λ o. is_part_end f.task (part_number f.task name) f.reshape.to.port (record { part = o; port = g.link.to.port })) g.into_part
      ∙ (ap (λ b. b && same g.link.to.port f.reshape.to.port) (eq-eqb (part_number f.task g.part) (part_number f.task name) number)
      ∙ (ap (λ n. same n f.reshape.to.port) to ∙ same-self f.reshape.to.port)) in
      fed_by_both f.task end g.link f.reshape
      (part_fed t.before t.place f.task name f.reshape.to.port part.0 (of_compound t.before t.place f.task t.holds) part.1 part.2)
      (subst L one g.listed) (sym (end_agrees f.task name part.0 part.1 f.reshape.to.port g.link.to) ∙ link_there) f.listed copy_there

  wired : IsWired m
  wired = agreeing_is_wired m sound.shapes

  -- an input of a repetition is no target
  pub not_repeated : (up : Place) (r : List ℕ) → p.place ≡ IntoRepetition r ∷ up → IsInput m p → ⊥
  not_repeated up r h input = go f.reshape.to.part refl
    where
      go : (o : Option (List ℕ)) → f.reshape.to.part ≡ o → ⊥
      go None e = two_sides m p input (copy_output e)
      go (Some name) e =
          let both : IntoRepetition r ∷ up ≡ IntoPart (part_number f.task name) ∷ f.up = sym h ∙ (place ∙ ap (instance_of_end f.task f.up) e) in
          let steps : IntoRepetition r ≡ IntoPart (part_number f.task name) = cc in
          cc

  -- so it follows nothing
  pub copy_follows_none : (r : Element) → Follows m p r → ⊥
  copy_follows_none r (by_part_input g) = go f.reshape.to.part refl
    where
      go : (o : Option (List ℕ)) → f.reshape.to.part ≡ o → ⊥
      go None e = two_sides m p (wired.part_input p r g) (copy_output e)
      go (Some name) e = part_unlinked r g name e
  copy_follows_none r (by_own_output g) = go f.reshape.to.part refl
    where
      go : (o : Option (List ℕ)) → f.reshape.to.part ≡ o → ⊥
      go None e = own_unlinked r g e
      go (Some name) e = two_sides m p (copy_input name e) (wired.own_output p r g).0
  copy_follows_none r (by_tiled_input g) = not_repeated g.up g.repetition (ap (λ (x : Element). x.place) g.left) (wired.tiled_input p r g).0
  copy_follows_none r (by_link g) = not_repeated g.linked.up g.linked.repetition (ap (λ (x : Element). x.place) g.linked.left) (wired.earlier p r g).0
  copy_follows_none r (by_default g) = not_repeated g.linked.up g.linked.repetition (ap (λ (x : Element). x.place) g.linked.left) (wired.default_element p r g).0
  copy_follows_none r (by_outer_output g) = go f.reshape.to.part refl
    where
      go : (o : Option (List ℕ)) → f.reshape.to.part ≡ o → ⊥
      go None e =
          let both : Some (tasks.Repeated g.task) ≡ Some (tasks.Compound f.task) = sym g.at_place ∙ (ap (task_at m) (place ∙ ap (instance_of_end f.task f.up) e) ∙ f.at_place) in
          let kinds : tasks.Repeated g.task ≡ tasks.Compound f.task = cc in
          cc
      go (Some name) e = two_sides m p (copy_input name e) (wired.outer_output p r g).0
