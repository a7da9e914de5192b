-- What the table of first cells answers.
use Rattle.std.proofs.Common.{◌≡◌, ℕ, zero, suc, ◌+◌, ◌-◌, ◌*◌, ◌<◌, ◌≤◌, Bool, true, false, cond, List, [], ◌∷◌, ◌++◌, length, map, filter, flat_map, sum_by, take, drop, get_or, Option, Some, None, slice_get, unwrap_or, option_map, sym, ◌∙◌, ap, refl, arith, subst}
use Rattle.std.proofs.lemmas.List.{append_assoc, length-append, length-map}
use Rattle.std.proofs.lemmas.List.Sums.{sum_by-cons}
use Rattle.std.proofs.lemmas.Grind.{flat_map-append}
use Rattle.std.proofs.lemmas.Option.{slice_get_within}
use Rattle.aol_shape.specs.Lists.{numbers_from, numbers_below}
use Rattle.aol_shape.specs.Shape.{IsPointOf, size, rank, point_at, points}
use Rattle.aol_shape.proofs.Points.{rank-lt-size, point_at-rank}
use Rattle.aol_expr_tree.specs.declared.port.Port.{Port}
use Rattle.aol_model_types.specs.declared.document.Model.{Model}
use Rattle.aol_model_types.specs.declared.task.Task.{Task}
use Rattle.aol_model_types.specs.Rules.{inputs_of, outputs_of}
use Rattle.aol_flat.specs.declared.cells.Begins.{Begins}
use Rattle.aol_flat.specs.declared.cells.Cells.{Cells}
use Rattle.aol_flat.specs.declared.nodes.NodeRow.{NodeRow}
use Rattle.aol_flat.specs.Cells.{NodePort, cells_at, ports_on, ports_at, begins_after, AreCells}
use Rattle.aol_flat.specs.Laid.{main_input_elements, main_output_elements, cell_at, port_cells, inner_cells, homes_of}
use Rattle.aol_flat.specs.Leaves.{narrowed}
use Rattle.aol_flat.specs.Limits.{max_walk, copies_of, own_walk, IsBounded}
use Rattle.aol_flat.specs.Node.{Node, Branch, space_around, nodes_below, nodes}
use Rattle.aol_flat.specs.NodeTable.{IsNode, HasInput, HasOutput, stores_at, BeginsAt, IsFirstOfInput, IsFirstOfOutput}
use Rattle.aol_flat.specs.Place.{Element, port_elements, elements_of}
use Rattle.aol_flat.specs.Placed.{IsReached, at_root, AreRowsAmong}
use Rattle.aol_flat.specs.Tasks.{main_task}
use Rattle.aol_flat.proofs.Firsts.{length-port_cells}
use Rattle.aol_flat.proofs.Names.{slice_get-left, slice_get-right}
use Rattle.aol_flat.proofs.NodeRows.{listed_at, some-equal}
use Rattle.aol_flat.proofs.Subtrees.{named_number}
use Rattle.aol_flat.proofs.Totals.{walk_of, walk_within}
use Rattle.aol_flat.proofs.Visiting.{no_nodes, nodes_split, nodes_under}

-- ---- the homes, port by port

on_ports : (node : Node) (stored : Port → Bool) (ports : List Port) → flat_map cells_at (ports_on node stored ports) ≡ flat_map (port_cells node) (filter stored ports)
on_ports node stored [] = refl
on_ports node stored (p ∷ ports) = go (stored p) refl (on_ports node stored ports)
  where
    go : (b : Bool) → stored p ≡ b → flat_map cells_at (ports_on node stored ports) ≡ flat_map (port_cells node) (filter stored ports)
        → flat_map cells_at (ports_on node stored (p ∷ ports)) ≡ flat_map (port_cells node) (filter stored (p ∷ ports))
    go true e later = rw e (ap (λ xs. port_cells node p ++ xs) later)
    go false e later = rw e later

pub inner_ports : (m : Model) (b : Branch) (up : Node) (t : Task) → inner_cells m (b ∷ up, t) ≡ flat_map cells_at (ports_at m (b ∷ up, t))
inner_ports m b up t =
    let ins : List NodePort = ports_on (b ∷ up) (λ p. stores_at m (b ∷ up) true p.name) (inputs_of t) in
    let outs : List NodePort = ports_on (b ∷ up) (λ p. stores_at m (b ∷ up) false p.name) (outputs_of t) in
    sym (flat_map-append cells_at ins outs
    ∙ (ap (λ xs. xs ++ flat_map cells_at outs) (on_ports (b ∷ up) (λ p. stores_at m (b ∷ up) true p.name) (inputs_of t))
    ∙ ap (λ xs. flat_map (port_cells (b ∷ up)) (filter (λ (p : Port). stores_at m (b ∷ up) true p.name) (inputs_of t)) ++ xs) (on_ports (b ∷ up) (λ p. stores_at m (b ∷ up) false p.name) (outputs_of t))))

main_ports : (ports : List Port) → elements_of [] ports ≡ flat_map cells_at (ports_on [] (λ p. true) ports)
main_ports [] = refl
main_ports (p ∷ ports) = ap (λ xs. port_elements [] p ++ xs) (main_ports ports)

inner_of : (m : Model) (ns : List (Node × Task)) (k : ℕ) (x : Node × Task) (row : NodeRow) → IsReached ns (suc k) row.up row.part x.0 → inner_cells m x ≡ flat_map cells_at (ports_at m x)
inner_of m ns k ([], t) row (at_root h) = absurd (omega (arith, h))
inner_of m ns k (b ∷ up, t) row h = inner_ports m b up t

inner_all : (m : Model) (ns : List (Node × Task)) (k : ℕ) (xs : List (Node × Task)) (rows : List NodeRow) → AreRowsAmong m ns (k + 1) xs rows → flat_map (inner_cells m) xs ≡ flat_map cells_at (flat_map (ports_at m) xs)
inner_all m ns k [] rows h = refl
inner_all m ns k (x ∷ xs) [] h = elim h [ ]
inner_all m ns k (x ∷ xs) (row ∷ rows) h =
    let next : k + 1 ≡ suc k = omega arith in
    let here : IsReached ns (suc k) row.up row.part x.0 = subst (λ n. IsReached ns n row.up row.part x.0) next h.0.above in
    ap (λ ys. ys ++ flat_map (inner_cells m) xs) (inner_of m ns k x row here)
    ∙ (ap (λ ys. flat_map cells_at (ports_at m x) ++ ys) (inner_all m ns (k + 1) xs rows h.1) ∙ sym (flat_map-append cells_at (ports_at m x) (flat_map (ports_at m) xs)))

tail_inner : (m : Model) (ns : List (Node × Task)) (x : Node × Task) (rest : List (Node × Task)) (rows : List NodeRow) → AreRowsAmong m ns 0 (x ∷ rest) rows
    → flat_map (inner_cells m) rest ≡ flat_map cells_at (flat_map (ports_at m) rest)
tail_inner m ns x rest [] h = elim h [ ]
tail_inner m ns x rest (row ∷ rows) h = inner_all m ns 0 rest rows h.1

pub root_ports : (m : Model) (t : Task) → flat_map cells_at (ports_at m ([], t)) ≡ elements_of [] (inputs_of t) ++ elements_of [] (outputs_of t)
root_ports m t =
    let ins : List NodePort = ports_on [] (λ p. true) (inputs_of t) in
    let outs : List NodePort = ports_on [] (λ p. true) (outputs_of t) in
    flat_map-append cells_at ins outs
    ∙ (ap (λ xs. xs ++ flat_map cells_at outs) (sym (main_ports (inputs_of t))) ∙ ap (λ xs. elements_of [] (inputs_of t) ++ xs) (sym (main_ports (outputs_of t))))

module _ (m : Model) (rows : List NodeRow) (are : AreRowsAmong m (nodes m) 0 (nodes m) rows) where
  with_root : (t : Task) (rest : List (Node × Task)) → main_task m ≡ Some t → nodes m ≡ ([], t) ∷ rest → homes_of m ≡ flat_map cells_at (flat_map (ports_at m) (nodes m))
  with_root t rest main split =
      let rows_are : AreRowsAmong m (nodes m) 0 (([], t) ∷ rest) rows = subst (λ xs. AreRowsAmong m (nodes m) 0 xs rows) split are in
      let ins : List Element = elements_of [] (inputs_of t) in
      let outs : List Element = elements_of [] (outputs_of t) in
      let later : List NodePort = flat_map (ports_at m) rest in
      let left : homes_of m ≡ ins ++ (outs ++ flat_map cells_at later) =
      append_assoc (main_input_elements m) (main_output_elements m) (flat_map (inner_cells m) (nodes m))
      ∙ (ap (λ o. elements_of [] (unwrap_or (option_map inputs_of o) []) ++ (elements_of [] (unwrap_or (option_map outputs_of o) []) ++ flat_map (inner_cells m) (nodes m))) main
      ∙ (ap (λ xs. ins ++ (outs ++ flat_map (inner_cells m) xs)) split
      ∙ ap (λ xs. ins ++ (outs ++ xs)) (tail_inner m (nodes m) ([], t) rest rows rows_are))) in
      let right : flat_map cells_at (flat_map (ports_at m) (nodes m)) ≡ ins ++ (outs ++ flat_map cells_at later) =
      ap (λ xs. flat_map cells_at (flat_map (ports_at m) xs)) split
      ∙ (flat_map-append cells_at (ports_at m ([], t)) later
      ∙ (ap (λ xs. xs ++ flat_map cells_at later) (root_ports m t) ∙ append_assoc ins outs (flat_map cells_at later))) in
      left ∙ sym right

  -- the homes are the cells of all ports
  pub homes_by_port : homes_of m ≡ flat_map cells_at (flat_map (ports_at m) (nodes m))
  homes_by_port = go (main_task m) refl
    where
      go : (o : Option Task) → main_task m ≡ o → homes_of m ≡ flat_map cells_at (flat_map (ports_at m) (nodes m))
      go None e =
          let no_list : nodes m ≡ [] = ap (λ o. nodes_below (length m.tasks) m o []) e ∙ no_nodes m (length m.tasks) [] in
          append_assoc (main_input_elements m) (main_output_elements m) (flat_map (inner_cells m) (nodes m))
          ∙ (ap (λ o. elements_of [] (unwrap_or (option_map inputs_of o) []) ++ (elements_of [] (unwrap_or (option_map outputs_of o) []) ++ flat_map (inner_cells m) (nodes m))) e
          ∙ (ap (λ xs. flat_map (inner_cells m) xs) no_list ∙ sym (ap (λ xs. flat_map cells_at (flat_map (ports_at m) xs)) no_list)))
      go (Some t) e =
          let n = named_number m m.main t e in
          let some : suc (length m.tasks - 1) ≡ length m.tasks = omega (arith, slice_get_within m.tasks n.0 t n.2) in
          let split : nodes m ≡ ([], t) ∷ nodes_under (length m.tasks - 1) m t [] =
          ap (λ o. nodes_below (length m.tasks) m o []) e
          ∙ (ap (λ d. nodes_below d m (Some t) []) (sym some) ∙ nodes_split (length m.tasks - 1) m t []) in
          with_root t (nodes_under (length m.tasks - 1) m t []) e split

-- ---- a u32 counts them

spread : (a b s : ℕ) → (a + b) * s ≡ a * s + b * s
spread a b s = grind arith

few_ports : (node : Node) (stored : Port → Bool) (ports : List Port) → length (flat_map cells_at (ports_on node stored ports)) ≤ sum_by (λ (p : Port). size p.shape) ports * size (space_around node)
few_ports node stored [] = omega arith
few_ports node stored (p ∷ ports) =
    let s : ℕ = size (space_around node) in
    let rest : List Element = flat_map cells_at (ports_on node stored ports) in
    let turn : s * size p.shape ≡ size p.shape * s = grind arith in
    let both : sum_by (λ (p : Port). size p.shape) (p ∷ ports) * s ≡ size p.shape * s + sum_by (λ (p : Port). size p.shape) ports * s =
    ap (λ n. n * s) (sum_by-cons (λ (q : Port). size q.shape) p ports) ∙ spread (size p.shape) (sum_by (λ (q : Port). size q.shape) ports) s in
    omega (arith, few_ports node stored ports, here (stored p), turn, both, length-append (cond (stored p) (port_cells node p) []) rest)
  where
    here : (b : Bool) → length (cond b (port_cells node p) []) ≤ size (space_around node) * size p.shape
    here true = omega (arith, length-port_cells node p)
    here false = omega arith

pub few_node : (m : Model) (x : Node × Task) → length (flat_map cells_at (ports_at m x)) ≤ own_walk x.1 * size (space_around x.0)
few_node m (node, t) =
    let s : ℕ = size (space_around node) in
    let ins : List NodePort = ports_on node (λ p. stores_at m node true p.name) (inputs_of t) in
    let outs : List NodePort = ports_on node (λ p. stores_at m node false p.name) (outputs_of t) in
    let i : ℕ = sum_by (λ (p : Port). size p.shape) (inputs_of t) in
    let o : ℕ = sum_by (λ (p : Port). size p.shape) (outputs_of t) in
    let whole : own_walk t * s ≡ (i * s + o * s) + (2 * copies_of t) * s = spread (i + o) (2 * copies_of t) s ∙ ap (λ n. n + (2 * copies_of t) * s) (spread i o s) in
    let split : length (flat_map cells_at (ins ++ outs)) ≡ length (flat_map cells_at ins) + length (flat_map cells_at outs) =
    ap length (flat_map-append cells_at ins outs) ∙ length-append (flat_map cells_at ins) (flat_map cells_at outs) in
    omega (arith, few_ports node (λ p. stores_at m node true p.name) (inputs_of t), few_ports node (λ p. stores_at m node false p.name) (outputs_of t), whole, split)

few_nodes_cells : (m : Model) (ns : List (Node × Task)) → length (flat_map cells_at (flat_map (ports_at m) ns)) ≤ walk_of ns
few_nodes_cells m [] = omega arith
few_nodes_cells m (x ∷ ns) =
    let split : length (flat_map cells_at (flat_map (ports_at m) (x ∷ ns))) ≡ length (flat_map cells_at (ports_at m x)) + length (flat_map cells_at (flat_map (ports_at m) ns)) =
    ap length (flat_map-append cells_at (ports_at m x) (flat_map (ports_at m) ns)) ∙ length-append (flat_map cells_at (ports_at m x)) (flat_map cells_at (flat_map (ports_at m) ns)) in
    omega (arith, few_node m x, few_nodes_cells m ns, split)

few_cells : (m : Model) → IsBounded m → length (flat_map cells_at (flat_map (ports_at m) (nodes m))) ≤ max_walk
few_cells m bounded = omega (arith, few_nodes_cells m (nodes m), walk_within 0 0 0 (nodes m) (omega arith) bounded)

-- ---- places in lists

flat_at : {X Y : Type 0} (f : X → List Y) (xs : List X) (i k : ℕ) (x : X) (y : Y) → slice_get xs i ≡ Some x → slice_get (f x) k ≡ Some y
    → slice_get (flat_map f xs) (length (flat_map f (take i xs)) + k) ≡ Some y
flat_at f [] i k x y at h = cc
flat_at f (z ∷ xs) zero k x y at h =
    let here : z ≡ x = some-equal z x at in
    let none : 0 + k ≡ k = omega arith in
    ap (slice_get (f z ++ flat_map f xs)) none ∙ slice_get-left (f z) (flat_map f xs) k y (ap (λ w. slice_get (f w) k) here ∙ h)
flat_at f (z ∷ xs) (suc i) k x y at h =
    let regroup : length (flat_map f (take (suc i) (z ∷ xs))) + k ≡ length (f z) + (length (flat_map f (take i xs)) + k) = omega (arith, length-append (f z) (flat_map f (take i xs))) in
    ap (slice_get (f z ++ flat_map f xs)) regroup ∙ (slice_get-right (f z) (flat_map f xs) (length (flat_map f (take i xs)) + k) ∙ flat_at f xs i k x y at h)

map_at : {X Y : Type 0} (f : X → Y) (xs : List X) (k : ℕ) (x : X) → slice_get xs k ≡ Some x → slice_get (map f xs) k ≡ Some (f x)
map_at f [] k x h = cc
map_at f (y ∷ xs) zero x h = ap (λ z. Some (f z)) (some-equal y x h)
map_at f (y ∷ xs) (suc k) x h = map_at f xs k x h

numbers_at : (from n i : ℕ) → i < n → slice_get (numbers_from from n) i ≡ Some (from + i)
numbers_at from zero i h = absurd (omega (arith, h))
numbers_at from (suc n) zero h = let none : from ≡ from + 0 = omega arith in ap Some none
numbers_at from (suc n) (suc i) h = let regroup : (from + 1) + i ≡ from + suc i = omega arith in numbers_at (from + 1) n i (omega (arith, h)) ∙ ap Some regroup

-- the point of a rank
point_there : (shape at : List ℕ) → IsPointOf shape at → slice_get (points shape) (rank shape at) ≡ Some at
point_there shape at inside =
    let none : 0 + rank shape at ≡ rank shape at = omega arith in
    map_at (point_at shape) (numbers_below (size shape)) (rank shape at) (rank shape at) (numbers_at 0 (size shape) (rank shape at) (rank-lt-size shape at inside) ∙ ap Some none)
    ∙ ap Some (point_at-rank shape at inside)

split_at : {X : Type 0} (xs : List X) (j : ℕ) (x : X) → slice_get xs j ≡ Some x → xs ≡ take j xs ++ (x ∷ drop (suc j) xs)
split_at [] j x h = cc
split_at (y ∷ xs) zero x h = ap (λ z. z ∷ xs) (some-equal y x h)
split_at (y ∷ xs) (suc j) x h = ap (λ zs. y ∷ zs) (split_at xs j x h)

begin_at : (m : Model) (before : ℕ) (ns : List (Node × Task)) (i : ℕ) (x : Node × Task) (d : Begins) → slice_get ns i ≡ Some x
    → get_or (begins_after m before ns) i d ≡ record { ins = before + length (flat_map (ports_at m) (take i ns)); outs = (before + length (flat_map (ports_at m) (take i ns))) + length (inputs_of x.1) }
begin_at m before [] i x d h = cc
begin_at m before (y ∷ ns) zero x d h =
    let none : before ≡ before + 0 = omega arith in
    ap (λ (z : Node × Task). record { ins = before; outs = before + length (inputs_of z.1) }) (some-equal y x h)
    ∙ ap (λ n. record { ins = n; outs = n + length (inputs_of x.1) }) none
begin_at m before (y ∷ ns) (suc i) x d h =
    let regroup : (before + length (ports_at m y)) + length (flat_map (ports_at m) (take i ns)) ≡ before + length (flat_map (ports_at m) (take (suc i) (y ∷ ns))) =
    omega (arith, length-append (ports_at m y) (flat_map (ports_at m) (take i ns))) in
    begin_at m (before + length (ports_at m y)) ns i x d h ∙ ap (λ n. record { ins = n; outs = n + length (inputs_of x.1) }) regroup

length-begins : (m : Model) (before : ℕ) (ns : List (Node × Task)) → length (begins_after m before ns) ≡ length ns
length-begins m before [] = refl
length-begins m before (x ∷ ns) = ap suc (length-begins m (before + length (ports_at m x)) ns)

-- ---- the answers

module _ (m : Model) (bounded : IsBounded m) (rows : List NodeRow) (are : AreRowsAmong m (nodes m) 0 (nodes m) rows) (cells : Cells) (t : AreCells m cells) where
  abbrev ports : List NodePort
  ports = flat_map (ports_at m) (nodes m)

  -- how many cells there are
  pub count_cells : narrowed cells.count ≡ length (homes_of m)
  count_cells =
      let few = few_cells m bounded in
      let exact : narrowed cells.count ≡ length (flat_map cells_at ports) = omega (arith, t.firsts.all, few) in
      exact ∙ sym (ap length (homes_by_port m rows are))

  pub many_begins : length cells.begins ≡ length (nodes m)
  many_begins = ap length t.begins ∙ length-begins m 0 (nodes m)

  -- the array of a stored port begins at its first cell
  begins_there : (j : ℕ) (q : NodePort) → slice_get ports j ≡ Some q → q.stored ≡ true → BeginsAt m q.node q.port (get_or cells.firsts j 0)
  begins_there j q at stored point inside =
      let shape : List ℕ = space_around q.node ++ q.port.shape in
      let front : List Element = flat_map cells_at (take j ports) in
      let later : List Element = flat_map cells_at (drop (suc j) ports) in
      let split : flat_map cells_at ports ≡ front ++ (cells_at q ++ later) =
      ap (flat_map cells_at) (split_at ports j q at) ∙ flat_map-append cells_at (take j ports) (q ∷ drop (suc j) ports) in
      let few = few_cells m bounded in
      let within : j < length ports = slice_get_within ports j q at in
      let first : get_or cells.firsts j 0 ≡ length front = omega (arith, t.firsts.each j within, few, ap length split, length-append front (cells_at q ++ later)) in
      let own : cells_at q ≡ port_cells q.node q.port = ap (λ b. cond b (port_cells q.node q.port) []) stored in
      let cell : Element = cell_at q.node q.port.name (length (space_around q.node)) point in
      let here : slice_get (cells_at q) (rank shape point) ≡ Some cell =
      ap (λ xs. slice_get xs (rank shape point)) own ∙ map_at (cell_at q.node q.port.name (length (space_around q.node))) (points shape) (rank shape point) point (point_there shape point inside) in
      ap (λ xs. slice_get xs (get_or cells.firsts j 0 + rank shape point)) (homes_by_port m rows are ∙ split)
      ∙ (ap (λ n. slice_get (front ++ (cells_at q ++ later)) (n + rank shape point)) first
      ∙ (slice_get-right front (cells_at q ++ later) (rank shape point) ∙ slice_get-left (cells_at q) later (rank shape point) cell here))

  -- the numbers of the ports of a node
  module _ (number : ℕ) (d : Begins) where
    in_port : (node : Node) (u : Task) (k : ℕ) (p : Port) → IsNode m number node u → slice_get (inputs_of u) k ≡ Some p
        → slice_get ports ((get_or cells.begins number d).ins + k) ≡ Some (record { node = node; port = p; stored = stores_at m node true p.name })
    in_port node u k p at h =
        let ins : List NodePort = ports_on node (λ p. stores_at m node true p.name) (inputs_of u) in
        let outs : List NodePort = ports_on node (λ p. stores_at m node false p.name) (outputs_of u) in
        let q : NodePort = record { node = node; port = p; stored = stores_at m node true p.name } in
        let begin : (get_or cells.begins number d).ins ≡ 0 + length (flat_map (ports_at m) (take number (nodes m))) =
        ap (λ (b : Begins). b.ins) (ap (λ bs. get_or bs number d) t.begins ∙ begin_at m 0 (nodes m) number (node, u) d at) in
        let far : (get_or cells.begins number d).ins + k ≡ length (flat_map (ports_at m) (take number (nodes m))) + k = omega (arith, begin) in
        ap (slice_get ports) far
        ∙ flat_at (ports_at m) (nodes m) number k (node, u) q at
        (slice_get-left ins outs k q (map_at (λ (p : Port). record { node = node; port = p; stored = stores_at m node true p.name }) (inputs_of u) k p h))

    out_port : (node : Node) (u : Task) (k : ℕ) (p : Port) → IsNode m number node u → slice_get (outputs_of u) k ≡ Some p
        → slice_get ports ((get_or cells.begins number d).outs + k) ≡ Some (record { node = node; port = p; stored = stores_at m node false p.name })
    out_port node u k p at h =
        let place : Port → NodePort = λ p. record { node = node; port = p; stored = stores_at m node true p.name } in
        let ins : List NodePort = map place (inputs_of u) in
        let outs : List NodePort = ports_on node (λ p. stores_at m node false p.name) (outputs_of u) in
        let q : NodePort = record { node = node; port = p; stored = stores_at m node false p.name } in
        let begin : (get_or cells.begins number d).outs ≡ (0 + length (flat_map (ports_at m) (take number (nodes m)))) + length (inputs_of u) =
        ap (λ (b : Begins). b.outs) (ap (λ bs. get_or bs number d) t.begins ∙ begin_at m 0 (nodes m) number (node, u) d at) in
        let far : (get_or cells.begins number d).outs + k ≡ length (flat_map (ports_at m) (take number (nodes m))) + (length ins + k) = omega (arith, begin, length-map (inputs_of u) place) in
        ap (slice_get ports) far
        ∙ flat_at (ports_at m) (nodes m) number (length ins + k) (node, u) q at
        (slice_get-right ins outs k ∙ map_at (λ (p : Port). record { node = node; port = p; stored = stores_at m node false p.name }) (outputs_of u) k p h)

    -- the first cell of an input
    pub input_within : (k : ℕ) → HasInput m number k → (number < length cells.begins) × ((get_or cells.begins number d).ins + k < length cells.firsts)
    input_within k has =
        let p = listed_at (inputs_of has.1) k has.3 in (
          omega (arith, many_begins, slice_get_within (nodes m) number (has.0, has.1) has.2),
          omega (arith, t.firsts.many, slice_get_within ports ((get_or cells.begins number d).ins + k) _ (in_port has.0 has.1 k p.0 has.2 p.1)),
        )

    pub input_first : (k : ℕ) → IsFirstOfInput m number k (get_or cells.firsts ((get_or cells.begins number d).ins + k) 0)
    input_first k node u p at h stored = begins_there ((get_or cells.begins number d).ins + k) (record { node = node; port = p; stored = stores_at m node true p.name }) (in_port node u k p at h) stored

    -- and of an output
    pub output_within : (k : ℕ) → HasOutput m number k → (number < length cells.begins) × ((get_or cells.begins number d).outs + k < length cells.firsts)
    output_within k has =
        let p = listed_at (outputs_of has.1) k has.3 in (
          omega (arith, many_begins, slice_get_within (nodes m) number (has.0, has.1) has.2),
          omega (arith, t.firsts.many, slice_get_within ports ((get_or cells.begins number d).outs + k) _ (out_port has.0 has.1 k p.0 has.2 p.1)),
        )

    pub output_first : (k : ℕ) → IsFirstOfOutput m number k (get_or cells.firsts ((get_or cells.begins number d).outs + k) 0)
    output_first k node u p at h stored = begins_there ((get_or cells.begins number d).outs + k) (record { node = node; port = p; stored = stores_at m node false p.name }) (out_port node u k p at h) stored
