-- The look-up of sources finds what tilers and reshapes write.
use Rattle.std.proofs.Common.{◌≡◌, ℕ, Bool, true, false, cond, List, [], ◌∷◌, Option, Some, None, is_some, option_map, unwrap_or, slice_get, sym, ◌∙◌, ap, subst}
use Rattle.std.specs.List.{IsAmong, enumerate_from}
use Rattle.std.specs.Option.{option_or}
use Rattle.aol_shape.specs.Lists.{same}
use Rattle.aol_shape.specs.Shape.{IsPointOf}
use Rattle.aol_tiler.specs.Tiler.{address_point}
use Rattle.aol_expr_tree.specs.declared.port.Port.{Port}
use Rattle.aol_model_types.specs.declared.document.Model.{Model}
use Rattle.aol_model_types.specs.declared.task.Repeated.{Repeated}
use Rattle.aol_model_types.specs.declared.task.Task.TheVariants as tasks
use Rattle.aol_model_types.specs.declared.task.TilerOn.{TilerOn}
use Rattle.aol_model_types.specs.Rules.{task_named, inputs_of, outputs_of, port_shape}
use Rattle.aol_model_types.proofs.PortNames.{port_behind}
use Rattle.aol_flat.specs.Place.{Place, IntoRepetition, Element, task_at}
use Rattle.aol_flat.specs.Equation.{OuterOutput}
use Rattle.aol_flat.specs.Node.{Node, nodes}
use Rattle.aol_flat.specs.Home.{is_input_at}
use Rattle.aol_flat.specs.Targets.{Writing, writings_of, inner_shape, tiler_writings, output_target, node_targets, targets, earlier_writing, IsSingleAssignment}
use Rattle.aol_flat.specs.Sources.{tiled_writings, inner_source, output_source, source_at}
use Rattle.aol_flat.specs.Accept.{IsSound}
use Rattle.aol_flat.proofs.Among.{among_get, map_among}
use Rattle.aol_flat.proofs.Elements.{node_first}
use Rattle.aol_flat.proofs.Enumerate.{on_node, with_number}
use Rattle.aol_flat.proofs.Exists.{repetition_point}
use Rattle.aol_flat.proofs.Inside.{flat_map_among}
use Rattle.aol_flat.proofs.Once.{found_among}
use Rattle.aol_flat.proofs.OneWriting.{pair_among, only_writing, found_by_name, written_there}
use Rattle.aol_flat.proofs.SourceSteps.{wired, from_output}
use Rattle.aol_flat.proofs.Names.{same-self}
use Rattle.aol_flat.proofs.Wired.{repetition_task}

-- where the inputs have not the name, an output's shape is that of the outputs
only_outs : (o p : Option (List ℕ)) (s : List ℕ) → option_or o p ≡ Some s → is_some o ≡ false → p ≡ Some s
only_outs None p s h k = h
only_outs (Some x) p s h k = cc

module _ (m : Model) (sound : IsSound m) (single : IsSingleAssignment m) where
  -- the target of an output is listed
  output_listed : (place : Place) (t : Repeated) (y : Port) → task_at m place ≡ Some (tasks.Repeated t) → IsAmong t.outs y → (node : Node) × IsAmong (targets m) (output_target m node t y)
  output_listed place t y h listed =
      let o = on_node m sound.shapes place (tasks.Repeated t) h in (
        o.node,
        flat_map_among (node_targets m) (nodes m) (o.node, tasks.Repeated t) (output_target m o.node t y) (o.nodes_in (o.node, tasks.Repeated t) (node_first m o.depth (tasks.Repeated t) o.node))
            (map_among (output_target m o.node t) t.outs y listed),
      )

  pub outer_found : (p q : Element) → OuterOutput m p q → source_at m p ≡ Some q
  outer_found p q f =
      let t = f.task in
      let k = f.listed in
      let at : slice_get t.tilers k.0 ≡ Some f.tiling = among_get t.tilers k.0 f.tiling k.1.0 k.1.1 in
      let y = found_by_name t.outs f.tiling.outer f.array f.outer_shape in
      let listed = output_listed p.place t y.0 f.at_place (found_among (λ (x : Port). same x.name f.tiling.outer) t.outs y.0 y.1) in
      let here : q.place ≡ IntoRepetition f.repetition ∷ p.place = ap (λ (x : Element). x.place) f.right in
      let there : task_at m (IntoRepetition f.repetition ∷ p.place) ≡ Some f.exists.task = sym (ap (task_at m) here) ∙ f.exists.at_place in
      let named : task_named m.tasks t.task ≡ Some f.exists.task = repetition_task m sound.shapes p.place t f.repetition f.at_place f.exists.task there in
      let point : IsPointOf t.space f.repetition = repetition_point m sound p.place t f.repetition f.at_place f.exists.task there in
      let inner : q.port ≡ f.tiling.inner = ap (λ (x : Element). x.port) f.right in
      let no_input : is_some (port_shape (inputs_of f.exists.task) q.port) ≡ false = sym (ap (λ o. is_input_at o q.port) f.exists.at_place) ∙ ((wired m sound).outer_output p q f).1 in
      let outs : port_shape (outputs_of f.exists.task) q.port ≡ Some f.exists.shape =
      only_outs (port_shape (inputs_of f.exists.task) q.port) (port_shape (outputs_of f.exists.task) q.port) f.exists.shape
      (sym (port_behind (inputs_of f.exists.task) (outputs_of f.exists.task) q.port) ∙ f.exists.at_port) no_input in
      let shape : inner_shape m t f.tiling.inner ≡ f.exists.shape =
      ap (λ o. unwrap_or (port_shape (unwrap_or (option_map outputs_of o) []) f.tiling.inner) []) named
      ∙ (ap (λ n. unwrap_or (port_shape (outputs_of f.exists.task) n) []) (sym inner) ∙ ap (λ o. unwrap_or o []) outs) in
      let P : List ℕ → Type 0 = λ s. IsPointOf s q.index in
      let w : Writing = (record { item = k.0; rep = f.repetition; pattern = q.index }, address_point f.tiling.tiler y.0.shape f.repetition q.index) in
      let pair : IsAmong (writings_of k.0 f.tiling.tiler y.0.shape t.space (inner_shape m t f.tiling.inner)) w =
      pair_among k.0 f.tiling.tiler y.0.shape t.space (inner_shape m t f.tiling.inner) f.repetition q.index point (subst P (sym shape) f.exists.inside) in
      let outer : same f.tiling.outer y.0.name ≡ true = ap (same f.tiling.outer) y.2 ∙ same-self f.tiling.outer in
      let Q : Bool → Type 0 = λ b. IsAmong (cond b (writings_of k.0 f.tiling.tiler y.0.shape t.space (inner_shape m t f.tiling.inner)) []) w in
      let among : IsAmong (tiled_writings m t y.0) w =
      flat_map_among (tiler_writings m t y.0) (enumerate_from 0 t.tilers) (k.0, f.tiling) w (with_number t.tilers k.0 f.tiling at) (subst Q (sym outer) pair) in
      let index : w.1 ≡ p.index = ap (λ s. address_point f.tiling.tiler s f.repetition q.index) y.3 ∙ sym (ap (λ (x : Element). x.index) f.left) in
      let first : earlier_writing (tiled_writings m t y.0) p.index ≡ Some w = only_writing m single (output_target m listed.0 t y.0) listed.1 w p.index among index in
      let port : p.port ≡ f.tiling.outer = ap (λ (x : Element). x.port) f.left in
      from_output m p ((wired m sound).outer_output p q f).0
      ∙ (ap (λ o. output_source m o p.place p.port p.index) f.at_place
      ∙ (ap (λ n. output_source m (Some (tasks.Repeated t)) p.place n p.index) port
      ∙ (ap (inner_source t p.place) (written_there (tiled_writings m t) t.outs f.tiling.outer y.0 p.index w y.1 first)
      ∙ (ap (option_map (λ (o : TilerOn). record { place = IntoRepetition f.repetition ∷ p.place; port = o.inner; index = q.index })) at
      ∙ ap Some (sym f.right)))))
