-- The stored elements of a node.
use Rattle.std.proofs.Common.{◌≡◌, ◌≢◌, ℕ, Bool, true, List, ◌∷◌, ◌++◌, length, flat_map, filter, drop, sym, ◌∙◌, ap, subst, ◌⊎◌, inl, inr}
use Rattle.std.specs.List.{IsAmong}
use Rattle.std.proofs.Math.Seq.{take-append_seam, drop-append_seam}
use Rattle.aol_shape.specs.Shape.{points, IsPointOf}
use Rattle.aol_expr_tree.specs.declared.port.Port.{Port}
use Rattle.aol_model_types.specs.declared.document.Model.{Model}
use Rattle.aol_model_types.specs.declared.task.Task.{Task}
use Rattle.aol_model_types.specs.Rules.{inputs_of, outputs_of}
use Rattle.aol_flat.specs.Place.{Element}
use Rattle.aol_flat.specs.Node.{Branch, Node, space_around, place_on, indices_of, node_task}
use Rattle.aol_flat.specs.Laid.{cell_at, port_cells, stores_input, stores_output, inner_cells}
use Rattle.aol_flat.proofs.Among.{among_append, among_map, among_flat_map, map_among, points_inside}
use Rattle.aol_flat.proofs.Inside.{among_left, among_right, flat_map_among, point_among, point_length, point_both, point_split}
use Rattle.aol_flat_laws.proofs.Apart.{AllDiffer, Apart, apart_append, apart_filter, apart_map, apart_flat_map, points_differ, filtered_among, among_filtered}
use Rattle.aol_flat_laws.proofs.Ports.{DifferentNames}
use Rattle.aol_flat_laws.proofs.Steps.{indices_on}

-- the element of a port of an instance of a node
abbrev pub node_element : Node → List ℕ → Port → List ℕ → Element
node_element node at p x = record { place = place_on node at; port = p.name; index = x }

-- it is the cell at the joined point
cell_split : (node : Node) (p : Port) (at x : List ℕ) → IsPointOf (space_around node) at → cell_at node p.name (length (space_around node)) (at ++ x) ≡ node_element node at p x
cell_split node p at x inside =
    let around : length (space_around node) ≡ length at = sym (point_length (space_around node) at inside) in
    ap (λ k. cell_at node p.name k (at ++ x)) around
    ∙ (ap (λ z. record { place = place_on node z; port = p.name; index = drop (length at) (at ++ x) }) (take-append_seam at x)
    ∙ ap (λ z. record { place = place_on node at; port = p.name; index = z }) (drop-append_seam at x))

-- ---- the cells of one port

pub record PortCell (node : Node) (p : Port) (e : Element) : Type 0 where
  pub at : List ℕ
  pub index : List ℕ
  pub around : IsPointOf (space_around node) at
  pub inside : IsPointOf p.shape index
  pub is : e ≡ node_element node at p index

port_cell : (node : Node) (p : Port) (e : Element) → IsAmong (port_cells node p) e → PortCell node p e
port_cell node p e a =
    let z = among_map (cell_at node p.name (length (space_around node))) (points (space_around node ++ p.shape)) e a in
    let s = point_split (space_around node) p.shape z.0 (points_inside (space_around node ++ p.shape) z.0 z.1) in
    record { at = s.0; index = s.1; around = s.3; inside = s.4; is = z.2 ∙ (ap (cell_at node p.name (length (space_around node))) s.2 ∙ cell_split node p s.0 s.1 s.3) }

port_cell_listed : (node : Node) (p : Port) (at x : List ℕ) → IsPointOf (space_around node) at → IsPointOf p.shape x → IsAmong (port_cells node p) (node_element node at p x)
port_cell_listed node p at x around inside =
    let P : Element → Type 0 = λ e. IsAmong (port_cells node p) e in
    subst P (cell_split node p at x around)
    (map_among (cell_at node p.name (length (space_around node))) (points (space_around node ++ p.shape)) (at ++ x)
    (point_among (space_around node ++ p.shape) (at ++ x) (point_both (space_around node) p.shape at x around inside)))

-- the point is seen again
point_back : (node : Node) (p : Port) (z : List ℕ) → IsPointOf (space_around node ++ p.shape) z
    → indices_of (cell_at node p.name (length (space_around node)) z).place ++ (cell_at node p.name (length (space_around node)) z).index ≡ z
point_back node p z inside =
    let s = point_split (space_around node) p.shape z inside in
    let is : cell_at node p.name (length (space_around node)) z ≡ node_element node s.0 p s.1 =
    ap (cell_at node p.name (length (space_around node))) s.2 ∙ cell_split node p s.0 s.1 s.3 in
    ap (λ (e : Element). indices_of e.place ++ e.index) is ∙ (ap (λ x. x ++ s.1) (indices_on node s.0 s.3) ∙ sym s.2)

port_cells_differ : (node : Node) (p : Port) → AllDiffer (port_cells node p)
port_cells_differ node p =
    let shape : List ℕ = space_around node ++ p.shape in
    apart_map (λ (x y : List ℕ). x ≢ y) (λ (x y : Element). x ≢ y) (cell_at node p.name (length (space_around node))) (points shape) (points_differ shape)
    (λ x y a b apart same.
    apart (sym (point_back node p x (points_inside shape x a)) ∙ (ap (λ (e : Element). indices_of e.place ++ e.index) same ∙ point_back node p y (points_inside shape y b))))

named : (node : Node) (p : Port) (e : Element) → IsAmong (port_cells node p) e → e.port ≡ p.name
named node p e a = ap (λ (x : Element). x.port) (port_cell node p e a).is

cells_differ : (node : Node) (ports : List Port) → Apart DifferentNames ports → AllDiffer (flat_map (port_cells node) ports)
cells_differ node ports h =
    apart_flat_map DifferentNames (λ (x y : Element). x ≢ y) (port_cells node) ports h (λ p a. port_cells_differ node p)
    (λ p q a b apart x y i j same. apart (sym (named node p x i) ∙ (ap (λ (e : Element). e.port) same ∙ named node q y j)))

-- ---- all cells of a node

-- which ports are stored
abbrev pub stored_input : Model → Branch → Node → Port → Bool
stored_input m b up p = stores_input (node_task m up) b p.name

abbrev pub stored_output : Model → Branch → Node → Port → Bool
stored_output m b up p = stores_output (node_task m up) b p.name

-- a stored element of a node below the main task
pub record InnerCell (m : Model) (b : Branch) (up : Node) (t : Task) (e : Element) : Type 0 where
  pub port : Port
  pub cell : PortCell (b ∷ up) port e
  pub side : (IsAmong (inputs_of t) port × (stored_input m b up port ≡ true)) ⊎ (IsAmong (outputs_of t) port × (stored_output m b up port ≡ true))

pub inner_cell : (m : Model) (b : Branch) (up : Node) (t : Task) (e : Element) → IsAmong (inner_cells m (b ∷ up, t)) e → InnerCell m b up t e
inner_cell m b up t e a =
    let ins : List Port = filter (stored_input m b up) (inputs_of t) in
    let outs : List Port = filter (stored_output m b up) (outputs_of t) in
    elim (among_append (flat_map (port_cells (b ∷ up)) ins) (flat_map (port_cells (b ∷ up)) outs) e a) [
      | inl i ↦
          let p = among_flat_map (port_cells (b ∷ up)) ins e i in
          record { port = p.0; cell = port_cell (b ∷ up) p.0 e p.2; side = inl (filtered_among (stored_input m b up) (inputs_of t) p.0 p.1) }
      | inr i ↦
          let p = among_flat_map (port_cells (b ∷ up)) outs e i in
          record { port = p.0; cell = port_cell (b ∷ up) p.0 e p.2; side = inr (filtered_among (stored_output m b up) (outputs_of t) p.0 p.1) }
    ]

module _ (m : Model) (b : Branch) (up : Node) (t : Task) (at x : List ℕ) (p : Port) (around : IsPointOf (space_around (b ∷ up)) at) (inside : IsPointOf p.shape x) where
  pub input_cell_listed : IsAmong (inputs_of t) p → stored_input m b up p ≡ true → IsAmong (inner_cells m (b ∷ up, t)) (node_element (b ∷ up) at p x)
  input_cell_listed a h =
      let ins : List Port = filter (stored_input m b up) (inputs_of t) in
      let outs : List Port = filter (stored_output m b up) (outputs_of t) in
      among_left (flat_map (port_cells (b ∷ up)) ins) (flat_map (port_cells (b ∷ up)) outs) (node_element (b ∷ up) at p x)
      (flat_map_among (port_cells (b ∷ up)) ins p (node_element (b ∷ up) at p x) (among_filtered (stored_input m b up) (inputs_of t) p a h) (port_cell_listed (b ∷ up) p at x around inside))

  pub output_cell_listed : IsAmong (outputs_of t) p → stored_output m b up p ≡ true → IsAmong (inner_cells m (b ∷ up, t)) (node_element (b ∷ up) at p x)
  output_cell_listed a h =
      let ins : List Port = filter (stored_input m b up) (inputs_of t) in
      let outs : List Port = filter (stored_output m b up) (outputs_of t) in
      among_right (flat_map (port_cells (b ∷ up)) ins) (flat_map (port_cells (b ∷ up)) outs) (node_element (b ∷ up) at p x)
      (flat_map_among (port_cells (b ∷ up)) outs p (node_element (b ∷ up) at p x) (among_filtered (stored_output m b up) (outputs_of t) p a h) (port_cell_listed (b ∷ up) p at x around inside))

-- they are different where the ports have different names
pub inner_cells_differ : (m : Model) (b : Branch) (up : Node) (t : Task) → Apart DifferentNames (inputs_of t) → Apart DifferentNames (outputs_of t)
    → ((p q : Port) → IsAmong (inputs_of t) p → IsAmong (outputs_of t) q → p.name ≢ q.name) → AllDiffer (inner_cells m (b ∷ up, t))
inner_cells_differ m b up t ins_apart outs_apart sides =
    let ins : List Port = filter (stored_input m b up) (inputs_of t) in
    let outs : List Port = filter (stored_output m b up) (outputs_of t) in
    apart_append (λ (x y : Element). x ≢ y) (flat_map (port_cells (b ∷ up)) ins) (flat_map (port_cells (b ∷ up)) outs)
    (cells_differ (b ∷ up) ins (apart_filter DifferentNames (stored_input m b up) (inputs_of t) ins_apart))
    (cells_differ (b ∷ up) outs (apart_filter DifferentNames (stored_output m b up) (outputs_of t) outs_apart))
    (λ x y i j same.
    let p = among_flat_map (port_cells (b ∷ up)) ins x i in
    let q = among_flat_map (port_cells (b ∷ up)) outs y j in
    sides p.0 q.0 (filtered_among (stored_input m b up) (inputs_of t) p.0 p.1).0 (filtered_among (stored_output m b up) (outputs_of t) q.0 q.1).0
    (sym (named (b ∷ up) p.0 x p.2) ∙ (ap (λ (e : Element). e.port) same ∙ named (b ∷ up) q.0 y q.2)))
