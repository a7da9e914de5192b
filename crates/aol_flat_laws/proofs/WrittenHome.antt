-- The home of what is written is an element.
use Rattle.std.proofs.Common.{◌≡◌, ℕ, List, Option, Some, None, is_some, sym, ◌∙◌, ap, refl, subst}
use Rattle.std.specs.List.{IsAmong}
use Rattle.aol_model_types.specs.declared.document.Model.{Model}
use Rattle.aol_model_types.specs.declared.task.Plain.{Plain}
use Rattle.aol_model_types.specs.declared.task.Task.TheVariants as tasks
use Rattle.aol_model_types.specs.Rules.{outputs_of}
use Rattle.aol_flat.specs.Tasks.{part_number}
use Rattle.aol_flat.specs.Place.{Element, IsElement, elements_of, end_element, instance_of_end}
use Rattle.aol_flat.specs.Equation.{CopiedElement}
use Rattle.aol_flat.specs.Home.{Kept, origin, origin_home, handed, home_of, link_into_part, linked_origin, part_origin}
use Rattle.aol_flat.specs.Instance.{Instance, Run, Copy, of_task, written_elements}
use Rattle.aol_flat.specs.InstanceNeed.{IsReal}
use Rattle.aol_flat.specs.Need.{Follows, by_part_input}
use Rattle.aol_flat.specs.Targets.{IsSingleAssignment}
use Rattle.aol_flat.specs.Wired.{IsInput, IsOutput}
use Rattle.aol_flat.specs.Accept.{IsSound}
use Rattle.aol_flat.proofs.Among.{at_port}
use Rattle.aol_flat.proofs.Homes.{input_home, output_home}
use Rattle.aol_flat.proofs.LinkSides.{task_there, output_there, at_output}
use Rattle.aol_flat.proofs.Shapes.{output_own}
use Rattle.aol_flat.proofs.SourceRight.{same_element}
use Rattle.aol_flat_laws.proofs.FedOnce.{copy_output, copy_input, copy_follows_none}
use Rattle.aol_flat_laws.proofs.OneWriter.{only_member}
use Rattle.aol_flat_laws.proofs.Stands.{of_part, part_fed_by}

module _ (m : Model) (sound : IsSound m) (single : IsSingleAssignment m) where
  abbrev HasHome : Element → Type 0
  HasHome e = (h : Element) × (home_of m e ≡ Kept h)

  part_target_home : (p q : Element) (f : CopiedElement m p q) (name : List ℕ) → p ≡ of_part f.up (part_number f.task name) f.reshape.to.port p.index → IsInput m p → HasHome p
  part_target_home p q f name is input = go (link_into_part f.task (part_number f.task name) f.reshape.to.port) refl
    where
      go : (o : Option Plain) → link_into_part f.task (part_number f.task name) f.reshape.to.port ≡ o → HasHome p
      go None g =
          let k : ℕ = part_number f.task name in
          let u : List ℕ = f.reshape.to.port in
          let e : Element = of_part f.up k u p.index in
          let I : Element → Type 0 = λ x. IsInput m x in
          let home : home_of m e ≡ Kept e =
          input_home m e (subst I is input)
          ∙ (ap (λ t. origin_home m (part_origin t f.up k u p.index (origin m f.up))) f.at_place
          ∙ ap (λ l. origin_home m (linked_origin f.task f.up k u p.index (origin m f.up) l)) g) in
          (e, ap (home_of m) is ∙ home)
      go (Some l) g =
          let k : ℕ = part_number f.task name in
          let u : List ℕ = f.reshape.to.port in
          let E : Element → Type 0 = λ x. IsElement m x in
          let F : Element → Type 0 = λ x. (r : Element) → Follows m x r → ⊥ in
          let fed = part_fed_by m f.up k u p.index f.task l f.at_place g (subst E is f.target) in
          absurd (subst F is (copy_follows_none m sound single p q f) (end_element f.task f.up l.from p.index) (by_part_input fed))

  target_home : (p q : Element) → CopiedElement m p q → HasHome p
  target_home p q f = go f.reshape.to.part refl
    where
      go : (o : Option (List ℕ)) → f.reshape.to.part ≡ o → HasHome p
      go None e = (handed m p.place p.port p.index, output_home m p (copy_output m sound single p q f e))
      go (Some name) e =
          part_target_home p q f name
          (same_element p (of_part f.up (part_number f.task name) f.reshape.to.port p.index)
          (ap (λ (x : Element). x.place) f.left ∙ ap (instance_of_end f.task f.up) e) (ap (λ (x : Element). x.port) f.left) refl)
          (copy_input m sound single p q f name e)

  pub written_home : (i : Instance) → IsReal m i → (w : Element) → IsAmong (written_elements m i) w → HasHome w
  written_home (Run place) real w a =
      let t = tasks.Elementary real.0 in
      let P : List Element → Type 0 = λ es. IsAmong es w in
      let outs : written_elements m (Run place) ≡ elements_of place (outputs_of t) = ap (of_task (λ u. elements_of place (outputs_of u))) real.1 in
      let at = at_port place (outputs_of t) w (subst P outs a) in
      let r = task_there m sound.shapes place t real.1 in
      let output : IsOutput m w =
      at_output m w place at.port.name (ap (λ (x : Element). x.place) at.is) (ap (λ (x : Element). x.port) at.is)
      (output_there m sound.shapes place t at.port.name real.1 (ap is_some (output_own r.before r.place t at.port r.holds at.listed))) in
      (handed m w.place w.port w.index, output_home m w output)
  written_home (Copy place k repetition part) real w a =
      let P : List Element → Type 0 = λ es. IsAmong es w in
      let Q : Element → Type 0 = λ x. HasHome x in
      subst Q (sym (only_member real.0 w (subst P real.3 a))) (target_home real.0 real.1 real.2)
