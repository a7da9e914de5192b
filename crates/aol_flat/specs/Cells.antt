-- The cells at which the arrays at the ports of all nodes begin.
use Rattle.std.specs.Prelude.{◌≡◌, ℕ, ◌+◌, ◌<◌, Bool, true, false, List, [], ◌∷◌, ◌++◌, map, flat_map, take, length, get_or, Result, OnOk, if◌then◌else◌}
use Rattle.aol_shape.specs.declared.memory.NoMemory.{NoMemory}
use Rattle.aol_shape.specs.Shape.{size}
use Rattle.aol_expr_tree.specs.declared.port.Port.{Port}
use Rattle.aol_model_types.specs.declared.document.Model.{Model}
use Rattle.aol_model_types.specs.declared.task.Task.{Task}
use Rattle.aol_model_types.specs.Rules.{inputs_of, outputs_of}
use Rattle.aol_flat.specs.declared.cells.Begins.{Begins}
use Rattle.aol_flat.specs.declared.cells.Cells.{Cells}
use Rattle.aol_flat.specs.Laid.{port_cells}
use Rattle.aol_flat.specs.Leaves.{narrowed}
use Rattle.aol_flat.specs.Node.{Node, space_around, nodes}
use Rattle.aol_flat.specs.NodeTable.{IsNode, stores_at}
use Rattle.aol_flat.specs.Place.{Element}
use Rattle.aol_flat.specs.Saturated.{saturated}
use Rattle.aol_flat.specs.Stored.{stored_by}

-- a port of a node, and whether its array is stored by itself
pub record NodePort : Type 0 where
  pub node : Node
  pub port : Port
  pub stored : Bool

-- its cells
abbrev pub cells_at : NodePort → List Element
cells_at p = if p.stored then port_cells p.node p.port else []

-- some inputs or outputs of a node
abbrev pub ports_on : Node → (Port → Bool) → List Port → List NodePort
ports_on node stored ports = map (λ (p : Port). record { node = node; port = p; stored = stored p }) ports

-- the ports of a node, its inputs first
abbrev pub ports_at : Model → Node × Task → List NodePort
ports_at m (node, t) = ports_on node (λ p. stores_at m node true p.name) (inputs_of t) ++ ports_on node (λ p. stores_at m node false p.name) (outputs_of t)

-- the cells before each of some ports are counted, and so are all
pub record AreFirsts (ps : List NodePort) (firsts : List ℕ) (count : ℕ) : Type 0 where
  pub many : length firsts ≡ length ps
  pub each : (k : ℕ) → k < length ps → get_or firsts k 0 ≡ narrowed (length (flat_map cells_at (take k ps)))
  pub all : count ≡ saturated (length (flat_map cells_at ps))

-- where the ports of each of some nodes begin, after so many ports
abbrev pub begins_after : Model → ℕ → List (Node × Task) → List Begins
begins_after m before [] = []
begins_after m before (x ∷ xs) = record { ins = before; outs = before + length (inputs_of x.1) } ∷ begins_after m (before + length (ports_at m x)) xs

-- the cells of some nodes
pub record AreCellsOf (m : Model) (ns : List (Node × Task)) (cells : Cells) : Type 0 where
  pub begins : cells.begins ≡ begins_after m 0 ns
  pub firsts : AreFirsts (flat_map (ports_at m) ns) cells.firsts cells.count

-- the cells of all nodes
abbrev pub AreCells : Model → Cells → Type 0
AreCells m cells = AreCellsOf m (nodes m) cells

-- what a node stands in decides which of its ports are stored
abbrev pub IsStand : Model → ℕ → Bool → Task → ℕ → Type 0
IsStand m number root above k = (node : Node) (t : Task) (input : Bool) (port : List ℕ) → IsNode m number node t → stored_by root above k input port ≡ stores_at m node input port

-- the ports of a node are added
abbrev pub PushesPorts : Bool → Task → ℕ → Bool → ℕ → List Port → Cells → Cells → Result (Unit {0}) NoMemory → Type 0
PushesPorts root above k input instances ports old new result =
    (node : Node) (ps : List NodePort) → instances ≡ saturated (size (space_around node)) → AreFirsts ps old.firsts old.count
    → OnOk result (AreFirsts (ps ++ ports_on node (λ p. stored_by root above k input p.name) ports) new.firsts new.count × (new.begins ≡ old.begins))

-- a node is added
abbrev pub PushesNode : Bool → Task → ℕ → ℕ → Task → Cells → Cells → Result (Unit {0}) NoMemory → Type 0
PushesNode root above k instances t old new result =
    (node : Node) (ps : List NodePort) → instances ≡ saturated (size (space_around node)) → AreFirsts ps old.firsts old.count
    → OnOk result (AreFirsts (ps ++ (ports_on node (λ p. stored_by root above k true p.name) (inputs_of t) ++ ports_on node (λ p. stored_by root above k false p.name) (outputs_of t))) new.firsts new.count
    × (new.begins ≡ old.begins ++ record { ins = length ps; outs = length ps + length (inputs_of t) } ∷ []))
