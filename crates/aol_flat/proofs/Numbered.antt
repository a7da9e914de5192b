-- Each elementary output and each copy belongs to a listed instance, so levels rule cycles out.
use Rattle.std.proofs.Common.{◌≡◌, ℕ, ◌+◌, ◌≤◌, List, [], ◌∷◌, ◌++◌, length, map, flat_map, take, drop, Option, Some, None, slice_get, unwrap_or, option_map, option_and_then, sym, ◌∙◌, ap, refl, arith, subst}
use Rattle.std.specs.List.{IsAmong, enumerate_from}
use Rattle.std.specs.Option.{option_to_list}
use Rattle.std.proofs.Math.Seq.{take-append_seam, drop-append_seam}
use Rattle.std.proofs.lemmas.List.{append_assoc}
use Rattle.aol_shape.specs.Shape.{points, IsPointOf}
use Rattle.aol_tiler.specs.Tiler.{address_point}
use Rattle.aol_expr_tree.specs.declared.port.Port.{Port}
use Rattle.aol_model_types.specs.declared.document.Model.{Model}
use Rattle.aol_model_types.specs.declared.task.Compound.{Compound}
use Rattle.aol_model_types.specs.declared.task.Copied.{Copied}
use Rattle.aol_model_types.specs.declared.task.Elementary.{Elementary}
use Rattle.aol_model_types.specs.declared.task.Hook.{Hook}
use Rattle.aol_model_types.specs.declared.task.OutPort.{OutPort}
use Rattle.aol_model_types.specs.declared.task.Part.{Part}
use Rattle.aol_model_types.specs.declared.task.Task.{Task}
use Rattle.aol_model_types.specs.declared.task.Task.TheVariants as tasks
use Rattle.aol_model_types.specs.Rules.{ShapesAgree, task_named, inputs_of, outputs_of, port_shape}
use Rattle.aol_flat.specs.Place.{Place, Down, Element, IsElement, task_at, port_elements, elements_of, end_element, instance_of_end}
use Rattle.aol_flat.specs.Equation.{ElementaryOutput, CopiedElement}
use Rattle.aol_flat.specs.Need.{Follows, by_part_input, by_own_output, by_tiled_input, by_link, by_default, by_outer_output}
use Rattle.aol_flat.specs.Node.{Node, ToPart, space_around, place_on}
use Rattle.aol_flat.specs.Instance.{Leaf, Computes, reshape_leaf, leaves_below, leaves, Instance, Run, Copy, instance_on, leaf_instances, instances, end_shape, copy_source, copy_target, copy_end, of_task, read_elements, written_elements}
use Rattle.aol_flat.specs.Followed.{AgreeingIsNumbered, AgreeingLevelsAreAcyclic}
use Rattle.aol_flat.proofs.Among.{map_among, among_get, get_among}
use Rattle.aol_flat.proofs.Enumerate.{on_node, with_number}
use Rattle.aol_flat.proofs.Inside.{among_right, flat_map_among, point_among, point_both, point_length}
use Rattle.aol_flat.proofs.Levelled.{levels_are_acyclic}
use Rattle.aol_flat.proofs.Wired.{agreeing_is_wired}

-- ---- instances of a leaf

-- the instance of a listed leaf at a point is listed
pub instance_listed : (m : Model) (l : Leaf) (at : List ℕ) → IsAmong (leaves m) l → IsPointOf l.space at → IsAmong (instances m) (instance_on l at)
instance_listed m l at listed inside =
    flat_map_among leaf_instances (leaves m) l (instance_on l at) listed (map_among (instance_on l) (points l.space) at (point_among l.space at inside))

-- a listed instance has a number
pub number_of_instance : (m : Model) (i : Instance) → IsAmong (instances m) i → (j : ℕ) × (slice_get (instances m) j ≡ Some i)
number_of_instance m i a = (a.0, among_get (instances m) a.0 i a.1.0 a.1.1)

-- an element of a port is one of the elements of the ports
pub of_port : (place : Place) (ports : List Port) (port : Port) (p : Element) → IsAmong ports port → p.place ≡ place → p.port ≡ port.name → IsPointOf port.shape p.index → IsAmong (elements_of place ports) p
of_port place ports port p listed here named inside =
    let at : List ℕ → Element = λ x. record { place = place; port = port.name; index = x } in
    let is : at p.index ≡ p =
    ap (λ (n : List ℕ). record { place = place; port = n; index = p.index }) (sym named) ∙ ap (λ (x : Place). record { place = x; port = p.port; index = p.index }) (sym here) in
    let P : Element → Type 0 = λ e. IsAmong (elements_of place ports) e in
    subst P is (flat_map_among (port_elements place) ports port (at p.index) listed (map_among at (points port.shape) p.index (point_among port.shape p.index inside)))

-- the element at an end of a reshape that exists has the shape of that end
pub end_exists : (m : Model) (c : Compound) (up : Place) (h : Hook) (p : Element) (exists : IsElement m p) (x : List ℕ) → p ≡ end_element c up h x → end_shape m c up h ≡ exists.shape
end_exists m c up h p exists x e =
    let here : instance_of_end c up h.part ≡ p.place = sym (ap (λ (q : Element). q.place) e) in
    let port : h.port ≡ p.port = sym (ap (λ (q : Element). q.port) e) in
    ap (λ (place : Place). unwrap_or (option_and_then (λ t. port_shape (inputs_of t ++ outputs_of t) h.port) (task_at m place)) []) here
    ∙ (ap (λ o. unwrap_or (option_and_then (λ t. port_shape (inputs_of t ++ outputs_of t) h.port) o) []) exists.at_place
    ∙ (ap (λ (name : List ℕ). unwrap_or (port_shape (inputs_of exists.task ++ outputs_of exists.task) name) []) port
    ∙ ap (λ o. unwrap_or o []) exists.at_port))

-- what a copy is at a compound
pub copied_end : (end : Model → Compound → Place → Copied → List ℕ → List ℕ → Element) (m : Model) (up : Place) (c : Compound) (k : ℕ) (r : Copied) (repetition part : List ℕ)
    → task_at m up ≡ Some (tasks.Compound c) → slice_get c.reshapes k ≡ Some r → copy_end end m up k repetition part (task_at m up) ≡ Some (end m c up r repetition part)
copied_end end m up c k r repetition part at listed =
    ap (copy_end end m up k repetition part) at ∙ ap (option_map (λ q. end m c up q repetition part)) listed

only_among : (x y : Element) (o : Option Element) → o ≡ Some x → y ≡ x → IsAmong (option_to_list o) y
only_among x y o e f =
    let P : Option Element → Type 0 = λ q. IsAmong (option_to_list q) y in
    subst P (sym e) (0, (omega arith, f))

-- the instance of a reshape's leaf, by its indices
pub copy_instance : (node : Node) (k : ℕ) (r : Copied) (at repetition part : List ℕ) → IsPointOf (space_around node) at → IsPointOf r.by.space repetition
    → instance_on (reshape_leaf node (k, r)) (at ++ repetition ++ part) ≡ Copy (place_on node at) k repetition part
copy_instance node k r at repetition part inside inside' =
    let around : length (space_around node) ≡ length at = sym (point_length (space_around node) at inside) in
    let entries : length r.by.space ≡ length repetition = sym (point_length r.by.space repetition inside') in
    let whole : at ++ repetition ++ part ≡ at ++ (repetition ++ part) = append_assoc at repetition part in
    let n : ℕ = length r.by.space in
    let tail : List ℕ = drop (length (space_around node)) (at ++ repetition ++ part) in
    let first : take (length (space_around node)) (at ++ repetition ++ part) ≡ at =
    ap (λ d. take d (at ++ repetition ++ part)) around ∙ (ap (take (length at)) whole ∙ take-append_seam at (repetition ++ part)) in
    let rest : tail ≡ repetition ++ part = ap (λ d. drop d (at ++ repetition ++ part)) around ∙ (ap (drop (length at)) whole ∙ drop-append_seam at (repetition ++ part)) in
    let second : take n tail ≡ repetition = ap (take n) rest ∙ (ap (λ d. take d (repetition ++ part)) entries ∙ take-append_seam repetition part) in
    let third : drop n tail ≡ part = ap (drop n) rest ∙ (ap (λ d. drop d (repetition ++ part)) entries ∙ drop-append_seam repetition part) in
    ap (λ x. Copy (place_on node x) k (take n tail) (drop n tail)) first
    ∙ (ap (λ x. Copy (place_on node at) k x (drop n tail)) second
    ∙ ap (λ x. Copy (place_on node at) k repetition x) third)

module _ (m : Model) (agree : ShapesAgree m) where
  -- ---- runs

  pub run_listed : (place : Place) (e : Elementary) → task_at m place ≡ Some (tasks.Elementary e) → IsAmong (instances m) (Run place)
  run_listed place e h =
      let o = on_node m agree place (tasks.Elementary e) h in
      let leaf : Leaf = record { node = o.node; work = Computes; space = space_around o.node } in
      let P : Place → Type 0 = λ x. IsAmong (instances m) (Run x) in
      subst P o.is (instance_listed m leaf o.at (o.leaves_in leaf (0, (omega arith, refl))) o.inside)

  runs : (p : Element) (o : ElementaryOutput m p) → (j : ℕ) × (i : Instance) × (slice_get (instances m) j ≡ Some i) × IsAmong (written_elements m i) p
      × ((q : Element) → IsAmong (elements_of p.place o.task.ins) q → IsAmong (read_elements m i) q)
  runs p o =
      let number = number_of_instance m (Run p.place) (run_listed p.place o.task o.at_place) in
      let outs : List Port = map (λ (x : OutPort). x.port) o.task.outs in
      let P : Option Task → Type 0 = λ t. IsAmong (of_task (λ u. elements_of p.place (outputs_of u)) t) p in
      let Q : Option Task → Element → Type 0 = λ t q. IsAmong (of_task (λ u. elements_of p.place (inputs_of u)) t) q in
      let listed : IsAmong o.task.outs o.out = get_among o.task.outs o.number o.out o.listed in
      let written : IsAmong (elements_of p.place outs) p =
      of_port p.place outs o.out.port p (map_among (λ (x : OutPort). x.port) o.task.outs o.out listed) refl o.named o.inside in
      (number.0, Run p.place, number.1, subst P (sym o.at_place) written, λ q a. subst (λ t. Q t q) (sym o.at_place) a)

  -- ---- copies

  pub copy_listed : (up : Place) (c : Compound) (k : ℕ) (r : Copied) (repetition part : List ℕ) → task_at m up ≡ Some (tasks.Compound c) → slice_get c.reshapes k ≡ Some r
      → IsPointOf r.by.space repetition → IsPointOf r.by.pattern part → IsAmong (instances m) (Copy up k repetition part)
  copy_listed up c k r repetition part h at inside inside' =
      let o = on_node m agree up (tasks.Compound c) h in
      let leaf : Leaf = reshape_leaf o.node (k, r) in
      let f : ℕ × Part → List Leaf = λ q. leaves_below o.depth m (task_named m.tasks q.1.task) (ToPart q.0 ∷ o.node) in
      let listed : IsAmong (leaves m) leaf =
      o.leaves_in leaf (among_right (flat_map f (enumerate_from 0 c.parts)) (map (reshape_leaf o.node) (enumerate_from 0 c.reshapes)) leaf
      (map_among (reshape_leaf o.node) (enumerate_from 0 c.reshapes) (k, r) (with_number c.reshapes k r at))) in
      let point : IsPointOf (space_around o.node ++ r.by.space ++ r.by.pattern) (o.at ++ repetition ++ part) =
      point_both (space_around o.node ++ r.by.space) r.by.pattern (o.at ++ repetition) part (point_both (space_around o.node) r.by.space o.at repetition o.inside inside) inside' in
      let is : instance_on leaf (o.at ++ repetition ++ part) ≡ Copy up k repetition part =
      copy_instance o.node k r o.at repetition part o.inside inside ∙ ap (λ x. Copy x k repetition part) o.is in
      let P : Instance → Type 0 = λ i. IsAmong (instances m) i in
      subst P is (instance_listed m leaf (o.at ++ repetition ++ part) listed point)

  -- the instance of a copy, with its number
  pub copy_numbered : (p q : Element) (c : CopiedElement m p q) → (j : ℕ) × (slice_get (instances m) j ≡ Some (Copy c.up c.listed.0 c.repetition c.part))
      × IsAmong (written_elements m (Copy c.up c.listed.0 c.repetition c.part)) p × IsAmong (read_elements m (Copy c.up c.listed.0 c.repetition c.part)) q
  copy_numbered p q c =
      let k = c.listed in
      let at : slice_get c.task.reshapes k.0 ≡ Some c.reshape = among_get c.task.reshapes k.0 c.reshape k.1.0 k.1.1 in
      let number = number_of_instance m (Copy c.up k.0 c.repetition c.part) (copy_listed c.up c.task k.0 c.reshape c.repetition c.part c.at_place at c.repetition_inside c.part_inside) in
      let target : p ≡ copy_target m c.task c.up c.reshape c.repetition c.part =
      c.left ∙ ap (λ s. end_element c.task c.up c.reshape.to (address_point c.reshape.by.target s c.repetition c.part))
      (sym (end_exists m c.task c.up c.reshape.to p c.target (address_point c.reshape.by.target c.target.shape c.repetition c.part) c.left)) in
      let source : q ≡ copy_source m c.task c.up c.reshape c.repetition c.part =
      c.right ∙ ap (λ s. end_element c.task c.up c.reshape.from (address_point c.reshape.by.source s c.repetition c.part))
      (sym (end_exists m c.task c.up c.reshape.from q c.source (address_point c.reshape.by.source c.source.shape c.repetition c.part) c.right)) in (
        number.0,
        number.1,
        only_among (copy_target m c.task c.up c.reshape c.repetition c.part) p (copy_end copy_target m c.up k.0 c.repetition c.part (task_at m c.up))
            (copied_end copy_target m c.up c.task k.0 c.reshape c.repetition c.part c.at_place at) target,
        only_among (copy_source m c.task c.up c.reshape c.repetition c.part) q (copy_end copy_source m c.up k.0 c.repetition c.part (task_at m c.up))
            (copied_end copy_source m c.up c.task k.0 c.reshape c.repetition c.part c.at_place at) source,
      )

  copies : (p q : Element) → CopiedElement m p q → (j : ℕ) × (i : Instance) × (slice_get (instances m) j ≡ Some i) × IsAmong (written_elements m i) p × IsAmong (read_elements m i) q
  copies p q c = let k = copy_numbered p q c in (k.0, Copy c.up c.listed.0 c.repetition c.part, k.1, k.2, k.3)

  -- ---- depth

  -- a step below an instance that is there
  shallow_by : (up place : Place) (t : Task) → task_at m up ≡ Some t → length place ≤ length up + 1 → length place ≤ length m.tasks
  shallow_by up place t h l = let o = on_node m agree up t h in omega (arith, o.low, l)

  at_end : (c : Compound) (up : Place) (o : Option (List ℕ)) → length (instance_of_end c up o) ≤ length up + 1
  at_end c up None = omega arith
  at_end c up (Some part) = omega arith

  stepped : (up place : Place) (d : Down) → place ≡ d ∷ up → length place ≤ length up + 1
  stepped up place d e = omega (arith, ap length e)

  pub shallow : (p q : Element) → Follows m p q → length q.place ≤ length m.tasks
  shallow p q (by_part_input f) =
      shallow_by f.up q.place (tasks.Compound f.task) f.at_place
      (let e : q.place ≡ instance_of_end f.task f.up f.link.from.part = ap (λ (x : Element). x.place) f.right in omega (arith, ap length e, at_end f.task f.up f.link.from.part))
  shallow p q (by_own_output f) =
      shallow_by p.place q.place (tasks.Compound f.task) f.at_place
      (let e : q.place ≡ instance_of_end f.task p.place f.link.from.part = ap (λ (x : Element). x.place) f.right in omega (arith, ap length e, at_end f.task p.place f.link.from.part))
  shallow p q (by_tiled_input f) =
      shallow_by f.up q.place (tasks.Repeated f.task) f.at_place (let e : q.place ≡ f.up = ap (λ (x : Element). x.place) f.right in omega (arith, ap length e))
  shallow p q (by_link f) =
      shallow_by f.linked.up q.place (tasks.Repeated f.linked.task) f.linked.at_place (stepped f.linked.up q.place _ (ap (λ (x : Element). x.place) f.right))
  shallow p q (by_default f) =
      shallow_by f.linked.up q.place (tasks.Repeated f.linked.task) f.linked.at_place (let e : q.place ≡ f.linked.up = ap (λ (x : Element). x.place) f.right in omega (arith, ap length e))
  shallow p q (by_outer_output f) =
      shallow_by p.place q.place (tasks.Repeated f.task) f.at_place (stepped p.place q.place _ (ap (λ (x : Element). x.place) f.right))

pub agreeing_is_numbered : AgreeingIsNumbered
agreeing_is_numbered m agree = record { runs = runs m agree; copies = copies m agree }

pub agreeing_levels_are_acyclic : AgreeingLevelsAreAcyclic
agreeing_levels_are_acyclic m agree level levels =
    levels_are_acyclic m (agreeing_is_wired m agree) (agreeing_is_numbered m agree) (length m.tasks) (shallow m agree) level levels
