-- How a node stands in the node above, and the cells of its ports.
use Rattle.std.proofs.Common.{◌≡◌, ◌≢◌, ℕ, ◌+◌, ◌<◌, Bool, true, false, List, [], ◌∷◌, ◌++◌, length, flat_map, take, get_or, Some, slice_get, option_and_then, Ok, sym, ◌∙◌, ap, refl, arith, subst}
use Rattle.std.proofs.lemmas.List.{append-nil, length-append}
use Rattle.std.proofs.lemmas.Grind.{flat_map-append}
use Rattle.std.proofs.lemmas.Option.{slice_get_within, get_or_from_slice_get}
use Rattle.aol_shape.specs.Shape.{size}
use Rattle.aol_expr_tree.specs.declared.port.Port.{Port}
use Rattle.aol_model_types.specs.declared.document.Model.{Model}
use Rattle.aol_model_types.specs.declared.task.Task.{Task}
use Rattle.aol_model_types.specs.declared.task.Task.TheVariants as tasks
use Rattle.aol_model_types.specs.Rules.{inputs_of, outputs_of}
use Rattle.aol_flat.specs.declared.cells.Cells.{Cells}
use Rattle.aol_flat.specs.declared.nodes.NodeRow.{NodeRow}
use Rattle.aol_flat.specs.Accept.{IsSound}
use Rattle.aol_flat.specs.Cells.{NodePort, ports_on, ports_at, AreFirsts, begins_after, AreCellsOf, IsStand, PushesNode}
use Rattle.aol_flat.specs.Laid.{stores_input, stores_output}
use Rattle.aol_flat.specs.Limits.{IsBounded}
use Rattle.aol_flat.specs.Node.{Node, ToPart, ToBody, space_around, node_task, task_under, nodes}
use Rattle.aol_flat.specs.NodeTable.{IsNode, IsAbove, IsNodeRow, stores_at}
use Rattle.aol_flat.specs.NodeTable as table
use Rattle.aol_flat.specs.Placed.{AreRowsAmong}
use Rattle.aol_flat.specs.Saturated.{saturated}
use Rattle.aol_flat.specs.Stored.{stored_by}
use Rattle.aol_flat.proofs.Firsts.{take_next}
use Rattle.aol_flat.proofs.Narrow.{task_of_node}
use Rattle.aol_flat.proofs.NodeRows.{listed_at, node_row, row_at, some-equal}
use Rattle.aol_flat.proofs.Placing.{length_rows}
use Rattle.aol_flat.proofs.Visiting.{listed_task}

-- ---- the task above

part_stores : (m : Model) (above : Task) (k : ℕ) (input : Bool) (port : List ℕ) (up : Node) (t : Task) → node_task m up ≡ Some above → task_under m above (ToPart k) ≡ Some t
    → stored_by false above k input port ≡ stores_at m (ToPart k ∷ up) input port
part_stores m (tasks.Compound c) k true port up t at under = ap (λ o. stores_input o (ToPart k) port) (sym at)
part_stores m (tasks.Compound c) k false port up t at under = ap (λ o. stores_output o (ToPart k) port) (sym at)
part_stores m (tasks.Repeated r) k input port up t at under = cc
part_stores m (tasks.Elementary e) k input port up t at under = cc

body_stores : (m : Model) (above : Task) (k : ℕ) (space : List ℕ) (input : Bool) (port : List ℕ) (up : Node) (t : Task) → node_task m up ≡ Some above → task_under m above (ToBody space) ≡ Some t
    → stored_by false above k input port ≡ stores_at m (ToBody space ∷ up) input port
body_stores m (tasks.Repeated r) k space true port up t at under = ap (λ o. stores_input o (ToBody space) port) (sym at)
body_stores m (tasks.Repeated r) k space false port up t at under = ap (λ o. stores_output o (ToBody space) port) (sym at)
body_stores m (tasks.Compound c) k space input port up t at under = cc
body_stores m (tasks.Elementary e) k space input port up t at under = cc

module _ (m : Model) (sound : IsSound m) (bounded : IsBounded m) (rows : List NodeRow) (are : AreRowsAmong m (nodes m) 0 (nodes m) rows) where
  pub many_rows : length rows ≡ length (nodes m)
  many_rows = length_rows m (nodes m) 0 (nodes m) rows are

  module _ (number : ℕ) (row : NodeRow) (lt : number < length (nodes m)) (is : row ≡ get_or rows number row) where
    pub task_there : row.task < length m.tasks
    task_there = let r = node_row m sound bounded rows are number row lt is in slice_get_within m.tasks row.task r.task r.listed

    above_there : (node : Node) → IsAbove m number row node → number ≢ 0 → row.up < length (nodes m)
    above_there node (table.root h) inner = absurd (inner h)
    above_there node (table.part {up = up} {t = t} low at) inner = slice_get_within (nodes m) row.up (up, t) at
    above_there node (table.body {up = up} {t = t} low at) inner = slice_get_within (nodes m) row.up (up, t) at

    pub up_there : number ≢ 0 → row.up < length (nodes m)
    up_there inner = let r = node_row m sound bounded rows are number row lt is in above_there r.node r.above inner

    -- the node of the row
    same_node : (node : Node) (t : Task) → IsNode m number node t → IsAbove m number row node
    same_node node t at =
        let r = node_row m sound bounded rows are number row lt is in
        let P : Node → Type 0 = λ n. IsAbove m number row n in
        subst P (ap (λ (x : Node × Task). x.0) (some-equal (r.node, r.task) (node, t) (sym r.at ∙ at))) r.above

    root_stores : (node : Node) (above : Task) (k : ℕ) (input : Bool) (port : List ℕ) → number ≡ 0 → IsAbove m number row node → stored_by true above k input port ≡ stores_at m node input port
    root_stores node above k input port zeroth (table.root h) = refl
    root_stores node above k input port zeroth (table.part low at) = absurd (omega (arith, low, zeroth))
    root_stores node above k input port zeroth (table.body low at) = absurd (omega (arith, low, zeroth))

    -- the root
    pub stand_root : (above : Task) (k : ℕ) → number ≡ 0 → IsStand m number true above k
    stand_root above k zeroth node t input port at = root_stores node above k input port zeroth (same_node node t at)

    -- the task of the row above
    task_above : (u : NodeRow) (above : Task) (up : Node) (t : Task) → row.up < length (nodes m) → u ≡ get_or rows row.up u → above ≡ get_or m.tasks u.task above → IsNode m row.up up t
        → node_task m up ≡ Some above
    task_above u above up t within is_up is_above at =
        let r = node_row m sound bounded rows are row.up u within is_up in
        let same_task : r.task ≡ t = ap (λ (x : Node × Task). x.1) (some-equal (r.node, r.task) (up, t) (sym r.at ∙ at)) in
        task_of_node m sound.read row.up (up, t) at ∙ ap Some (sym same_task ∙ listed_task m.tasks u.task r.task above r.listed is_above)

    inner_stores : (node : Node) (t : Task) (u : NodeRow) (above : Task) (input : Bool) (port : List ℕ) → number ≢ 0 → u ≡ get_or rows row.up u → above ≡ get_or m.tasks u.task above
        → IsNode m number node t → IsAbove m number row node → stored_by false above row.part input port ≡ stores_at m node input port
    inner_stores node t u above input port inner is_up is_above at (table.root h) = absurd (inner h)
    inner_stores node t u above input port inner is_up is_above at (table.part {up = up} {t = v} low at_up) =
        let task_is = task_above u above up v (slice_get_within (nodes m) row.up (up, v) at_up) is_up is_above at_up in
        let under : task_under m above (ToPart row.part) ≡ Some t =
        sym (ap (λ o. option_and_then (λ w. task_under m w (ToPart row.part)) o) task_is) ∙ task_of_node m sound.read number (ToPart row.part ∷ up, t) at in
        part_stores m above row.part input port up t task_is under
    inner_stores node t u above input port inner is_up is_above at (table.body {up = up} {t = v} {space = space} low at_up) =
        let task_is = task_above u above up v (slice_get_within (nodes m) row.up (up, v) at_up) is_up is_above at_up in
        let under : task_under m above (ToBody space) ≡ Some t =
        sym (ap (λ o. option_and_then (λ w. task_under m w (ToBody space)) o) task_is) ∙ task_of_node m sound.read number (ToBody space ∷ up, t) at in
        body_stores m above row.part space input port up t task_is under

    -- the others
    pub stand_inner : (u : NodeRow) (above : Task) → number ≢ 0 → u ≡ get_or rows row.up u → above ≡ get_or m.tasks u.task above → IsStand m number false above row.part
    stand_inner u above inner is_up is_above node t input port at = inner_stores node t u above input port inner is_up is_above at (same_node node t at)

  -- ---- one node more

  same_ports : (node : Node) (f g : Port → Bool) → ((p : Port) → f p ≡ g p) → (ports : List Port) → ports_on node f ports ≡ ports_on node g ports
  same_ports node f g h [] = refl
  same_ports node f g h (p ∷ ports) = ap (λ b. record { node = node; port = p; stored = b } ∷ ports_on node f ports) (h p) ∙ ap (λ ps. record { node = node; port = p; stored = g p } ∷ ps) (same_ports node f g h ports)

  begins_more : (before : ℕ) (xs : List (Node × Task)) (x : Node × Task)
      → begins_after m before (xs ++ x ∷ []) ≡ begins_after m before xs ++ record { ins = before + length (flat_map (ports_at m) xs); outs = (before + length (flat_map (ports_at m) xs)) + length (inputs_of x.1) } ∷ []
  begins_more before [] x = let none : before ≡ before + 0 = omega arith in ap (λ n. record { ins = n; outs = n + length (inputs_of x.1) } ∷ []) none
  begins_more before (y ∷ xs) x =
      let regroup : (before + length (ports_at m y)) + length (flat_map (ports_at m) xs) ≡ before + length (flat_map (ports_at m) (y ∷ xs)) = omega (arith, length-append (ports_at m y) (flat_map (ports_at m) xs)) in
      ap (λ bs. record { ins = before; outs = before + length (inputs_of y.1) } ∷ bs)
      (begins_more (before + length (ports_at m y)) xs x
      ∙ ap (λ n. begins_after m (before + length (ports_at m y)) xs ++ record { ins = n; outs = n + length (inputs_of x.1) } ∷ []) regroup)

  node_more : (i : ℕ) (x : Node × Task) (s0 s1 : Cells) (root : Bool) (above : Task) (k instances : ℕ) (done : Unit {0}) → slice_get (nodes m) i ≡ Some x → instances ≡ saturated (size (space_around x.0))
      → IsStand m i root above k → PushesNode root above k instances x.1 s0 s1 (Ok done) → AreCellsOf m (take i (nodes m)) s0 → AreCellsOf m (take (i + 1) (nodes m)) s1
  node_more i x s0 s1 root above k instances done at many stand pushes so_far =
      let front : List (Node × Task) = take i (nodes m) in
      let ps : List NodePort = flat_map (ports_at m) front in
      let next = pushes x.0 ps many so_far.firsts in
      let ports_are : ports_on x.0 (λ p. stored_by root above k true p.name) (inputs_of x.1) ++ ports_on x.0 (λ p. stored_by root above k false p.name) (outputs_of x.1) ≡ ports_at m x =
      ap (λ qs. qs ++ ports_on x.0 (λ p. stored_by root above k false p.name) (outputs_of x.1))
      (same_ports x.0 (λ p. stored_by root above k true p.name) (λ p. stores_at m x.0 true p.name) (λ p. stand x.0 x.1 true p.name at) (inputs_of x.1))
      ∙ ap (λ qs. ports_on x.0 (λ p. stores_at m x.0 true p.name) (inputs_of x.1) ++ qs)
      (same_ports x.0 (λ p. stored_by root above k false p.name) (λ p. stores_at m x.0 false p.name) (λ p. stand x.0 x.1 false p.name at) (outputs_of x.1)) in
      let longer : take (i + 1) (nodes m) ≡ front ++ x ∷ [] = take_next (nodes m) i x (slice_get_within (nodes m) i x at) (sym (get_or_from_slice_get (nodes m) i x x at)) in
      let all_ports : ps ++ ports_at m x ≡ flat_map (ports_at m) (front ++ x ∷ []) = sym (flat_map-append (ports_at m) front (x ∷ []) ∙ ap (λ qs. ps ++ qs) (append-nil (ports_at m x))) in
      let none : length ps ≡ 0 + length ps = omega arith in
      subst (λ ns. AreCellsOf m ns s1) (sym longer)
      (record {
        begins =
            next.1 ∙ (ap (λ bs. bs ++ record { ins = length ps; outs = length ps + length (inputs_of x.1) } ∷ []) so_far.begins
            ∙ (ap (λ n. begins_after m 0 front ++ record { ins = n; outs = n + length (inputs_of x.1) } ∷ []) none ∙ sym (begins_more 0 front x)));
        firsts = subst (λ qs. AreFirsts qs s1.firsts s1.count) all_ports (subst (λ qs. AreFirsts (ps ++ qs) s1.firsts s1.count) ports_are next.0);
      })

  -- the node of a row
  pub row_more : (i : ℕ) (row : NodeRow) (task : Task) (s0 s1 : Cells) (root : Bool) (above : Task) (k : ℕ) (done : Unit {0}) → i < length (nodes m) → row ≡ get_or rows i row → task ≡ get_or m.tasks row.task task
      → IsStand m i root above k → PushesNode root above k row.instances task s0 s1 (Ok done) → AreCellsOf m (take i (nodes m)) s0 → AreCellsOf m (take (i + 1) (nodes m)) s1
  row_more i row task s0 s1 root above k done lt is is_task stand pushes so_far =
      let x = listed_at (nodes m) i lt in
      let r = row_at m (nodes m) 0 (nodes m) rows i x.0 row are x.1 is in
      let same_task : x.0.1 ≡ task = listed_task m.tasks row.task x.0.1 task r.listed is_task in
      node_more i x.0 s0 s1 root above k row.instances done x.1 r.instances stand (subst (λ t. PushesNode root above k row.instances t s0 s1 (Ok done)) (sym same_task) pushes) so_far
