-- A node of a model within the limits has few instances, and so are its cells.
use Rattle.std.proofs.Common.{◌≡◌, ℕ, zero, suc, ◌+◌, ◌-◌, ◌*◌, ◌<◌, ◌≤◌, ◌^◌, List, [], ◌∷◌, ◌++◌, length, map, flat_map, sum_by, Option, Some, None, option_map, unwrap_or, slice_get, sym, ◌∙◌, ap, refl, arith}
use Rattle.std.specs.List.{AllByRecursion}
use Rattle.std.proofs.Math.Nat.{mul-le-mul_left}
use Rattle.std.proofs.lemmas.List.{length-append}
use Rattle.std.proofs.lemmas.Option.{slice_get_within}
use Rattle.std.proofs.lemmas.List.Sums.{sum_by-cons}
use Rattle.aol_shape.specs.Shape.{size}
use Rattle.aol_shape.proofs.Sizes.{size_positive}
use Rattle.aol_expr_tree.specs.declared.port.Port.{Port}
use Rattle.aol_model_types.specs.declared.document.Model.{Model}
use Rattle.aol_model_types.specs.declared.task.OutPort.{OutPort}
use Rattle.aol_model_types.specs.declared.task.Task.{Task}
use Rattle.aol_model_types.specs.declared.task.Task.TheVariants as tasks
use Rattle.aol_model_types.specs.Rules.{inputs_of, outputs_of}
use Rattle.aol_model_types.specs.Types.{IsTask, IsPort, IsOutPort, HasOutput}
use Rattle.aol_flat.specs.Accept.{IsSound}
use Rattle.aol_flat.specs.Limits.{max_walk, own_walk, IsBounded}
use Rattle.aol_flat.specs.Node.{Node, space_around, nodes_below, nodes}
use Rattle.aol_flat.specs.Laid.{homes_of, inner_cells, main_input_elements, main_output_elements}
use Rattle.aol_flat.specs.NodeTable.{IsNode}
use Rattle.aol_flat.proofs.CellTable.{inner_ports, root_ports, few_node}
use Rattle.aol_flat.proofs.Given.{AllByRecursion-at}
use Rattle.aol_flat.proofs.Names.{slice_get-right}
use Rattle.aol_flat.proofs.NodeAt.{task_known, limits_known}
use Rattle.aol_flat.proofs.Subtrees.{named_number}
use Rattle.aol_flat.proofs.Totals.{walk_of, walk_within}
use Rattle.aol_flat.proofs.Visiting.{nodes_split, nodes_under}
use Rattle.aol_flat.specs.Place.{elements_of}
use Rattle.aol_flat.specs.Tasks.{main_task}

-- ports that are there have a point
some_ports : (ps : List Port) → AllByRecursion IsPort ps → 1 ≤ length ps → 1 ≤ sum_by (λ (p : Port). size p.shape) ps
some_ports [] types h = omega (arith, h)
some_ports (p ∷ ps) types h = omega (arith, size_positive p.shape types.0.entry, sum_by-cons (λ (q : Port). size q.shape) p ps)

out_ports : (outs : List OutPort) → AllByRecursion IsOutPort outs → AllByRecursion IsPort (map (λ (o : OutPort). o.port) outs)
out_ports [] h = tt
out_ports (o ∷ outs) h = (h.0.port, out_ports outs h.1)

outputs_typed : (t : Task) → IsTask t → AllByRecursion IsPort (outputs_of t)
outputs_typed (tasks.Elementary e) h = out_ports e.outs h.outs
outputs_typed (tasks.Compound c) h = h.outs
outputs_typed (tasks.Repeated r) h = h.outs

some_walk : (t : Task) → IsTask t → HasOutput t → 1 ≤ own_walk t
some_walk t types output = let outs = some_ports (outputs_of t) (outputs_typed t types) output in omega (arith, outs)

walk_part : (ns : List (Node × Task)) (node : Node) (t : Task) (i : ℕ) → slice_get ns i ≡ Some (node, t) → own_walk t * size (space_around node) ≤ walk_of ns
walk_part [] node t i h = cc
walk_part ((n, u) ∷ ns) node t zero h =
    let pairs : ◌≡◌ {A = Node × Task} (n, u) (node, t) = cc in
    let same_walk : own_walk u * size (space_around n) ≡ own_walk t * size (space_around node) = ap (λ (p : Node × Task). own_walk p.1 * size (space_around p.0)) pairs in
    omega (arith, same_walk)
walk_part ((n, u) ∷ ns) node t (suc i) h = omega (arith, walk_part ns node t i h)

module _ (m : Model) (sound : IsSound m) (limits : IsBounded m) where
  pub walk_few : walk_of (nodes m) ≤ max_walk
  walk_few = let all = walk_within 0 0 0 (nodes m) (omega arith) limits in omega (arith, all)

  pub space_few : (number : ℕ) (node : Node) (t : Task) → IsNode m number node t → size (space_around node) ≤ max_walk
  space_few number node t at =
      let s = task_known m sound number node t at in
      let output : HasOutput t =
      AllByRecursion-at HasOutput m.tasks (length s.before + 0) t sound.read.outputs (ap (λ ts. slice_get ts (length s.before + 0)) s.split ∙ slice_get-right s.before (t ∷ s.rest) 0) in
      let least = mul-le-mul_left (size (space_around node)) (some_walk t (limits_known m sound number node t at) output) in
      omega (arith, least, walk_part (nodes m) node t number at, walk_few)

-- ---- cells

few_inner : (m : Model) (x : Node × Task) → length (inner_cells m x) ≤ own_walk x.1 * size (space_around x.0)
few_inner m ([], t) = omega arith
few_inner m (b ∷ up, t) = omega (arith, few_node m (b ∷ up, t), ap length (inner_ports m b up t))

few_inners : (m : Model) (ns : List (Node × Task)) → length (flat_map (inner_cells m) ns) ≤ walk_of ns
few_inners m [] = omega arith
few_inners m (x ∷ ns) = omega (arith, few_inner m x, few_inners m ns, length-append (inner_cells m x) (flat_map (inner_cells m) ns))

-- a u32 counts the cells
pub cells_few : (m : Model) → IsSound m → IsBounded m → length (homes_of m) < 2 ^ 32
cells_few m sound limits = go (main_task m) refl
  where
    parts : (o : Option Task) → main_task m ≡ o → length (homes_of m) ≡ length (elements_of [] (unwrap_or (option_map inputs_of o) []) ++ elements_of [] (unwrap_or (option_map outputs_of o) [])) + length (flat_map (inner_cells m) (nodes m))
    parts o e =
        length-append (main_input_elements m ++ main_output_elements m) (flat_map (inner_cells m) (nodes m))
        ∙ ap (λ u. length (elements_of [] (unwrap_or (option_map inputs_of u) []) ++ elements_of [] (unwrap_or (option_map outputs_of u) [])) + length (flat_map (inner_cells m) (nodes m))) e

    go : (o : Option Task) → main_task m ≡ o → length (homes_of m) < 2 ^ 32
    go None e =
        let whole : length (homes_of m) ≡ 0 + length (flat_map (inner_cells m) (nodes m)) = parts None e in
        omega (arith, whole, few_inners m (nodes m), walk_few m sound limits)
    go (Some t) e =
        let n = named_number m m.main t e in
        let some : suc (length m.tasks - 1) ≡ length m.tasks = omega (arith, slice_get_within m.tasks n.0 t n.2) in
        let split : nodes m ≡ ([], t) ∷ nodes_under (length m.tasks - 1) m t [] =
        ap (λ o. nodes_below (length m.tasks) m o []) e
        ∙ (ap (λ d. nodes_below d m (Some t) []) (sym some) ∙ nodes_split (length m.tasks - 1) m t []) in
        let root = walk_part (nodes m) [] t 0 (ap (λ ns. slice_get ns 0) split) in
        omega (arith, parts (Some t) e, root, few_node m ([], t), ap length (root_ports m t), few_inners m (nodes m), walk_few m sound limits)
