-- The elements of a sound model are listed, and need no others.
use Rattle.std.proofs.Common.{◌≡◌, ℕ, suc, List, [], ◌++◌, flat_map, Option, Some, None, option_map, unwrap_or, sym, refl, arith, subst}
use Rattle.std.specs.List.{IsAmong}
use Rattle.aol_shape.specs.Shape.{points, IsPointOf}
use Rattle.aol_model_types.specs.declared.document.Model.{Model}
use Rattle.aol_model_types.specs.declared.task.Task.{Task}
use Rattle.aol_model_types.specs.declared.task.Task.TheVariants as tasks
use Rattle.aol_model_types.specs.Rules.{inputs_of, outputs_of}
use Rattle.aol_flat.specs.Tasks.{main_task}
use Rattle.aol_flat.specs.Place.{Place, Element, IsElement, elements_of}
use Rattle.aol_flat.specs.Need.{IsClosed}
use Rattle.aol_flat.specs.Node.{Node, space_around, place_on, nodes_below, nodes}
use Rattle.aol_flat.specs.Laid.{main_output_elements}
use Rattle.aol_flat.specs.Reads.{IsRead, by_run, by_copy, by_caller}
use Rattle.aol_flat.specs.Accept.{IsSound, ElementsAreListed, ReadValuesAgree}
use Rattle.aol_flat.specs.Keep.{KeptSoundAgree}
use Rattle.aol_flat.proofs.Accepted.{accepted_solutions_agree}
use Rattle.aol_flat.proofs.Acyclic.{acyclic_is_grounded}
use Rattle.aol_flat.proofs.Enumerate.{on_node}
use Rattle.aol_flat.proofs.Exists.{input_exists, output_exists, needed_exists}
use Rattle.aol_flat.proofs.Inside.{flat_map_among, point_among}
use Rattle.aol_flat.proofs.Kept.{kept_outputs_agree}
use Rattle.aol_flat.proofs.Numbered.{of_port}
use Rattle.aol_flat.proofs.Shapes.{found_port}

-- the elements of one instance of a node, and of all of them
abbrev pub instance_elements : Node × Task → List ℕ → List Element
instance_elements n at = elements_of (place_on n.0 at) (inputs_of n.1 ++ outputs_of n.1)

abbrev pub node_elements : Node × Task → List Element
node_elements n = flat_map (instance_elements n) (points (space_around n.0))

abbrev pub all_elements : Model → List Element
all_elements m = flat_map node_elements (nodes m)

-- a node stands first among those below it
pub node_first : (m : Model) (depth : ℕ) (t : Task) (node : Node) → IsAmong (nodes_below (suc depth) m (Some t) node) (node, t)
node_first m depth (tasks.Elementary e) node = (0, (omega arith, refl))
node_first m depth (tasks.Compound c) node = (0, (omega arith, refl))
node_first m depth (tasks.Repeated t) node = (0, (omega arith, refl))

module _ (m : Model) (sound : IsSound m) where
  -- each element that exists is listed
  pub element_listed : (p : Element) → IsElement m p → IsAmong (all_elements m) p
  element_listed p e =
      let o = on_node m sound.shapes p.place e.task e.at_place in
      let port = found_port (inputs_of e.task ++ outputs_of e.task) p.port e.shape e.at_port in
      let P : List ℕ → Type 0 = λ s. IsPointOf s p.index in
      let Q : Place → Type 0 = λ x. IsAmong (elements_of x (inputs_of e.task ++ outputs_of e.task)) p in
      let own : IsAmong (elements_of p.place (inputs_of e.task ++ outputs_of e.task)) p =
      of_port p.place (inputs_of e.task ++ outputs_of e.task) port.0 p port.1 refl (sym port.2) (subst P (sym port.3) e.inside) in
      flat_map_among node_elements (nodes m) (o.node, e.task) p (o.nodes_in (o.node, e.task) (node_first m o.depth e.task o.node))
      (flat_map_among (instance_elements (o.node, e.task)) (points (space_around o.node)) o.at p (point_among (space_around o.node) o.at o.inside) (subst Q (sym o.is) own))

  pub all_closed : IsClosed m (all_elements m)
  all_closed p q a need = element_listed q (needed_exists m sound p q need)

  -- what is read exists
  main_exists : (p : Element) → IsAmong (main_output_elements m) p → IsElement m p
  main_exists p a = go (main_task m) refl a
    where
      go : (o : Option Task) → main_task m ≡ o → IsAmong (elements_of [] (unwrap_or (option_map outputs_of o) [])) p → IsElement m p
      go None e b = absurd (omega (arith, b.1.0))
      go (Some t) e b = output_exists m sound [] t p e b

  pub read_exists : (p : Element) → IsRead m p → IsElement m p
  read_exists p (by_run place e at a) = input_exists m sound place (tasks.Elementary e) p at a
  read_exists p (by_copy target c) = c.source
  read_exists p (by_caller a) = main_exists p a

pub elements_are_listed : ElementsAreListed
elements_are_listed m sound = (all_elements m, all_closed m sound, element_listed m sound)

pub read_values_agree : ReadValuesAgree
read_values_agree m sound accepted inputs v w fit s t p read =
    accepted_solutions_agree m (all_elements m) (all_closed m sound) accepted inputs v w fit s t p (element_listed m sound p (read_exists m sound p read)) read

pub kept_sound_agree : KeptSoundAgree
kept_sound_agree old new old_of sound comparable keeps inputs v w fit s t p listed =
    kept_outputs_agree old new old_of comparable keeps
    (λ q a. acyclic_is_grounded old (all_elements old) (all_closed old sound) (λ r b. comparable.accepted.acyclic r) q (element_listed old sound q (main_exists old sound q a)))
    inputs v w fit s t p listed
