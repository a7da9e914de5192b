-- The look-up of sources finds what plain links, tilers and links between repetitions say.
use Rattle.std.proofs.Common.{◌≡◌, ℕ, ℤ, true, ◌&&◌, List, [], ◌∷◌, map, Option, Some, None, is_some, unwrap_or, sym, ◌∙◌, ap, refl}
use Rattle.std.specs.List.{IsAmong, count_by}
use Rattle.aol_shape.specs.Lists.{same}
use Rattle.aol_tiler.specs.Tiler.{address_point}
use Rattle.aol_expr_tree.specs.declared.port.Port.{Port}
use Rattle.aol_model_types.specs.declared.document.Model.{Model}
use Rattle.aol_model_types.specs.declared.place.Key.TheVariants.{KOut}
use Rattle.aol_model_types.specs.declared.place.PlaceStep.{PlaceStep}
use Rattle.aol_model_types.specs.declared.task.Compound.{Compound}
use Rattle.aol_model_types.specs.declared.task.Copied.{Copied}
use Rattle.aol_model_types.specs.declared.task.Hook.{Hook}
use Rattle.aol_model_types.specs.declared.task.OutPort.{OutPort}
use Rattle.aol_model_types.specs.declared.task.Plain.{Plain}
use Rattle.aol_model_types.specs.declared.task.Task.{Task}
use Rattle.aol_model_types.specs.declared.task.Task.TheVariants as tasks
use Rattle.aol_model_types.specs.Places.{to_key}
use Rattle.aol_model_types.specs.Rules.{is_fed, output_is_fed, same_hook, same_part, to_shape, port_shape, inputs_of}
use Rattle.aol_flat.specs.Tasks.{part_number}
use Rattle.aol_flat.specs.Place.{IntoRepetition, Element, task_at, end_element, instance_of_end}
use Rattle.aol_flat.specs.Equation.{MainInput, ElementaryOutput, PartInput, OwnOutput, TiledInput, LinkedInput, EarlierOutput, DefaultNumber, DefaultElement, source_of}
use Rattle.aol_flat.specs.Home.{is_input_at}
use Rattle.aol_flat.specs.Wired.{IsInput, IsOutput, IsWired}
use Rattle.aol_flat.specs.Sources.{source_at, input_source, output_source, part_source, repetition_source, tiled_source, interlink_source, earlier_source, choice_source, fallback_source, linked_source, is_own_end, link_into_own, copied_source, part_writing, written_by, copied_writings}
use Rattle.aol_flat.specs.Accept.{IsSound}
use Rattle.aol_flat.proofs.Among.{get_among, map_among}
use Rattle.aol_flat.proofs.Checked.{member, output_fed_checks, HoldsOfCompound, of_compound, named_port, sides_apart}
use Rattle.aol_flat.proofs.Names.{both-true, same-self}
use Rattle.aol_flat.proofs.Once.{same_found, counted, found_only, one_feeds}
use Rattle.aol_flat.proofs.Shapes.{input_own, output_own}
use Rattle.aol_flat.proofs.LinkSides.{task_there, link_there}
use Rattle.aol_flat.proofs.Wired.{agreeing_is_wired}

-- ---- the link into an own output

pub own_end_agrees : (port : List ℕ) (h : Hook) → is_own_end port h ≡ same_hook h (record { part = None; port = port })
own_end_agrees port h = go h.part refl
  where
    go : (o : Option (List ℕ)) → h.part ≡ o → is_own_end port h ≡ same_hook h (record { part = None; port = port })
    go None e =
        ap (λ o. is_own_end port (record { part = o; port = h.port })) e
        ∙ sym (ap (λ o. same_hook (record { part = o; port = h.port }) (record { part = None; port = port })) e)
    go (Some name) e =
        ap (λ o. is_own_end port (record { part = o; port = h.port })) e
        ∙ sym (ap (λ o. same_hook (record { part = o; port = h.port }) (record { part = None; port = port })) e)

pub own_there : (port : List ℕ) (h : Hook) → h.part ≡ None → h.port ≡ port → same_hook h (record { part = None; port = port }) ≡ true
own_there port h e f = ap (λ o. same_part o None && same h.port port) e ∙ (ap (λ n. same n port) f ∙ same-self port)

-- an own output is fed by one link alone or by reshapes alone
pub own_fed : (ts : List Task) (place : List PlaceStep) (c : Compound) (port : List ℕ) → HoldsOfCompound ts place c → is_some (port_shape c.outs port) ≡ true
    → is_fed c (record { part = None; port = port }) ≡ true
own_fed ts place c port holds known =
    let y = named_port c.outs port known in
    let r = member (output_fed_checks c) (to_key place KOut) c.outs y.0 holds.outs_fed y.1 in
    let fed : output_is_fed c y.0 ≡ true = (both-true (output_is_fed c y.0) true r.holds).0 in
    ap (λ n. is_fed c (record { part = None; port = n })) (sym y.2) ∙ fed

only_link_own : (ts : List Task) (place : List PlaceStep) (c : Compound) (l : Plain) → HoldsOfCompound ts place c → IsAmong c.links l → l.to.part ≡ None → is_some (port_shape c.outs l.to.port) ≡ true
    → link_into_own c l.to.port ≡ Some l
only_link_own ts place c l holds listed own known =
    let end : Hook = record { part = None; port = l.to.port } in
    let passes : same_hook l.to end ≡ true = own_there l.to.port l.to own refl in
    let once : count_by (λ (k : Plain). same_hook k.to end) c.links ≡ 1 =
    one_feeds (count_by (λ (k : Plain). same_hook k.to end) c.links) (count_by (λ (k : Copied). same_hook k.to end) c.reshapes) (own_fed ts place c l.to.port holds known)
    (counted (λ (k : Plain). same_hook k.to end) c.links l listed passes) in
    same_found (λ (k : Plain). is_own_end l.to.port k.to) (λ (k : Plain). same_hook k.to end) c.links (λ k a. own_end_agrees l.to.port k.to)
    ∙ found_only (λ (k : Plain). same_hook k.to end) c.links l listed passes once

-- ---- the two sides of the look-up

pub from_input : (m : Model) (p : Element) → IsInput m p → source_at m p ≡ input_source m p.place p.port p.index
from_input m p h = rw h

pub from_output : (m : Model) (p : Element) → IsOutput m p → source_at m p ≡ output_source m (task_at m p.place) p.place p.port p.index
from_output m p h = rw h

-- an element that is written out
pub input_at : (m : Model) (p r : Element) → p ≡ r → input_source m p.place p.port p.index ≡ input_source m r.place r.port r.index
input_at m p r e = ap (λ (x : Element). input_source m x.place x.port x.index) e

module _ (m : Model) (sound : IsSound m) where
  pub wired : IsWired m
  wired = agreeing_is_wired m sound.shapes

  pub part_found : (p q : Element) → PartInput m p q → source_at m p ≡ Some q
  part_found p q f =
      let k : ℕ = part_number f.task f.part in
      from_input m p (wired.part_input p q f)
      ∙ (input_at m p (end_element f.task f.up f.link.to p.index) f.left
      ∙ (ap (λ place. input_source m place f.link.to.port p.index) (ap (instance_of_end f.task f.up) f.into_part)
      ∙ (ap (λ t. part_source m t f.up k f.link.to.port p.index) f.at_place
      ∙ (ap (λ l. linked_source f.task f.up p.index l (copied_source m f.task f.up (part_writing m f.task k f.link.to.port p.index))) (wired.link_in f.up f.task f.link f.part f.at_place f.listed f.into_part)
      ∙ ap Some (sym f.right)))))

  pub own_found : (p q : Element) → OwnOutput m p q → source_at m p ≡ Some q
  own_found p q f =
      let r = link_there m sound.shapes p.place f.task f.link f.at_place f.listed in
      let holds = of_compound r.0.before r.0.place f.task r.0.holds in
      let known : is_some (port_shape f.task.outs f.link.to.port) ≡ true =
      sym (ap (λ o. is_some (to_shape r.0.before f.task (record { part = o; port = f.link.to.port }))) f.into_own) ∙ r.1.takes in
      let port : p.port ≡ f.link.to.port = ap (λ (x : Element). x.port) f.left in
      from_output m p (wired.own_output p q f).0
      ∙ (ap (λ t. output_source m t p.place p.port p.index) f.at_place
      ∙ (ap (λ y. output_source m (Some (tasks.Compound f.task)) p.place y p.index) port
      ∙ (ap (λ l. linked_source f.task p.place p.index l (copied_source m f.task p.place (written_by (copied_writings f.task None) f.task.outs f.link.to.port p.index)))
      (only_link_own r.0.before r.0.place f.task f.link holds f.listed f.into_own known)
      ∙ ap Some (sym f.right))))

  pub tiled_found : (p q : Element) → TiledInput m p q → source_at m p ≡ Some q
  tiled_found p q f =
      from_input m p (wired.tiled_input p q f).0
      ∙ (input_at m p (record { place = IntoRepetition f.repetition ∷ f.up; port = f.tiling.inner; index = p.index }) f.left
      ∙ (ap (λ t. repetition_source t f.up f.repetition f.tiling.inner p.index) f.at_place
      ∙ (ap (tiled_source f.task f.up f.repetition f.tiling.inner p.index) (wired.tiler f.up f.task f.tiling f.at_place f.listed)
      ∙ (ap (λ (a : Option (List ℕ)). Some (record { place = f.up; port = f.tiling.outer; index = address_point f.tiling.tiler (unwrap_or a []) f.repetition p.index })) f.outer_shape
      ∙ ap Some (sym f.right)))))

  -- the source of an input into which a link between repetitions leads
  linked_found : (p : Element) (l : LinkedInput m p) → IsInput m p → source_at m p ≡ earlier_source l.task l.up l.repetition p.index l.link (source_of l)
  linked_found p l input =
      from_input m p input
      ∙ (input_at m p (record { place = IntoRepetition l.repetition ∷ l.up; port = l.link.to; index = p.index }) l.left
      ∙ (ap (λ t. repetition_source t l.up l.repetition l.link.to p.index) l.at_place
      ∙ (ap (tiled_source l.task l.up l.repetition l.link.to p.index) (wired.untiled l.up l.task l.link l.at_place l.listed)
      ∙ ap (interlink_source l.task l.up l.repetition p.index) (wired.link_inside l.up l.task l.link l.at_place l.listed))))

  pub earlier_found : (p q : Element) → EarlierOutput m p q → source_at m p ≡ Some q
  earlier_found p q f =
      let l = f.linked in
      linked_found p l (wired.earlier p q f).0 ∙ (ap (earlier_source l.task l.up l.repetition p.index l.link) f.in_space ∙ ap Some (sym f.right))

  pub default_found : (p q : Element) → DefaultElement m p q → source_at m p ≡ Some q
  default_found p q f =
      let l = f.linked in
      linked_found p l (wired.default_element p q f).0
      ∙ (ap (earlier_source l.task l.up l.repetition p.index l.link) f.outside
      ∙ (ap (choice_source l.task l.up l.repetition p.index) f.chosen
      ∙ (ap (fallback_source l.task l.up l.repetition p.index) f.takes
      ∙ (ap (λ (a : Option (List ℕ)). Some (record { place = l.up; port = f.outer; index = address_point f.tiler (unwrap_or a []) l.repetition p.index })) f.outer_shape
      ∙ ap Some (sym f.right)))))

  -- ---- where there is none

  pub number_none : (p : Element) (n : ℤ) → DefaultNumber m p n → source_at m p ≡ None
  number_none p n f =
      let l = f.linked in
      linked_found p l (wired.default_number p n f)
      ∙ (ap (earlier_source l.task l.up l.repetition p.index l.link) f.outside
      ∙ (ap (choice_source l.task l.up l.repetition p.index) f.chosen
      ∙ ap (fallback_source l.task l.up l.repetition p.index) f.takes))

  -- an elementary output is an output
  pub computed_output : (p : Element) → ElementaryOutput m p → IsOutput m p
  computed_output p o =
      let r = task_there m sound.shapes p.place (tasks.Elementary o.task) o.at_place in
      let outs : List Port = map (λ (x : OutPort). x.port) o.task.outs in
      let listed : IsAmong outs o.out.port = map_among (λ (x : OutPort). x.port) o.task.outs o.out (get_among o.task.outs o.number o.out o.listed) in
      let known : is_some (port_shape outs p.port) ≡ true = ap (λ n. is_some (port_shape outs n)) o.named ∙ ap is_some (output_own r.before r.place (tasks.Elementary o.task) o.out.port r.holds listed) in
      ap (λ t. is_input_at t p.port) o.at_place ∙ sides_apart r.before r.place (tasks.Elementary o.task) p.port r.holds known

  pub computed_none : (p : Element) → ElementaryOutput m p → source_at m p ≡ None
  computed_none p o = from_output m p (computed_output p o) ∙ ap (λ t. output_source m t p.place p.port p.index) o.at_place

  -- a main input is an input
  pub main_input_side : (p : Element) → MainInput m p → IsInput m p
  main_input_side p a =
      let here : task_at m p.place ≡ Some a.task = ap (task_at m) a.is_main ∙ a.at_place in
      let r = task_there m sound.shapes p.place a.task here in
      ap (λ t. is_input_at t p.port) here
      ∙ (ap (λ n. is_some (port_shape (inputs_of a.task) n)) a.named
      ∙ ap is_some (input_own r.before r.place a.task a.port r.holds (get_among (inputs_of a.task) a.number a.port a.listed)))

  pub main_none : (p : Element) → MainInput m p → source_at m p ≡ None
  main_none p a = from_input m p (main_input_side p a) ∙ ap (λ place. input_source m place p.port p.index) a.is_main
