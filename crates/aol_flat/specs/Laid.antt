-- A model laid out in cells.
use Rattle.std.specs.Prelude.{◌≡◌, ◌≢◌, ◌↔◌, ℕ, List, [], ◌∷◌, ◌++◌, map, flat_map, filter, take, drop, length, Bool, false, is_none, slice_get, Option, Some}
use Rattle.std.specs.List.{IsAmong}
use Rattle.aol_shape.specs.Shape.{points}
use Rattle.aol_expr_tree.specs.declared.port.Port.{Port}
use Rattle.aol_model_types.specs.declared.document.Model.{Model}
use Rattle.aol_model_types.specs.declared.task.Task.{Task}
use Rattle.aol_model_types.specs.declared.task.Task.TheVariants as tasks
use Rattle.aol_model_types.specs.Rules.{inputs_of, outputs_of, ShapesAgree}
use Rattle.aol_flat.specs.Tasks.{main_inputs, main_outputs}
use Rattle.aol_flat.specs.Place.{Element, IsElement, elements_of}
use Rattle.aol_flat.specs.Home.{home_of, Kept, Constant, link_into_part, link_up, tiler_at}
use Rattle.aol_flat.specs.Node.{Branch, ToPart, ToBody, Node, space_around, place_on, node_task, nodes}
use Rattle.aol_flat.specs.declared.view.Read.{Read}
use Rattle.aol_flat.specs.declared.view.Read.TheVariants.{Cell, Const}

-- a model with its stored elements in an order; a cell is a place in that list
pub record Laid : Type 0 where
  pub model : Model
  pub cells : List Element

-- ---- the stored elements

-- the elements of the main inputs, by port and rank
abbrev pub main_input_elements : Model → List Element
main_input_elements m = elements_of [] (main_inputs m)

-- the elements of the main outputs, by port and rank
abbrev pub main_output_elements : Model → List Element
main_output_elements m = elements_of [] (main_outputs m)

-- the element of a port at a point of the joined space: so many indices of the node, then those of the port
abbrev pub cell_at : Node → List ℕ → ℕ → List ℕ → Element
cell_at node port around at = record { place = place_on node (take around at); port = port; index = drop around at }

-- the elements of a port of all instances of a node, instance by instance
abbrev pub port_cells : Node → Port → List Element
port_cells node p = map (cell_at node p.name (length (space_around node))) (points (space_around node ++ p.shape))

-- an input below the main task is stored by itself where no plain link feeds an input of a part
abbrev pub stores_input : Option Task → Branch → List ℕ → Bool
stores_input (Some (tasks.Compound c)) (ToPart k) u = is_none (link_into_part c k u)
stores_input _ b u = false

-- an output is where it is handed up nowhere
abbrev pub stores_output : Option Task → Branch → List ℕ → Bool
stores_output (Some (tasks.Compound c)) (ToPart k) y = is_none (link_up c k y)
stores_output (Some (tasks.Repeated t)) (ToBody space) y = is_none (tiler_at t y)
stores_output _ b y = false

-- the stored elements of a node below the main task: its inputs and then its outputs that are stored, in port order
abbrev pub inner_cells : Model → Node × Task → List Element
inner_cells m ([], t) = []
inner_cells m (b ∷ up, t) =
    flat_map (port_cells (b ∷ up)) (filter (λ (p : Port). stores_input (node_task m up) b p.name) (inputs_of t))
    ++ flat_map (port_cells (b ∷ up)) (filter (λ (p : Port). stores_output (node_task m up) b p.name) (outputs_of t))

-- all of them: the main inputs, the main outputs, and the others node by node in preorder
abbrev pub homes_of : Model → List Element
homes_of m = main_input_elements m ++ main_output_elements m ++ flat_map (inner_cells m) (nodes m)

-- the cells are these
abbrev pub IsLaid : Laid → Type 0
IsLaid f = f.cells ≡ homes_of f.model

-- ---- what a home is

-- an element inside that is its own home: an output that is handed up nowhere, or a part's input that reshapes feed
pub record IsInnerHome (m : Model) (e : Element) : Type 0 where
  pub exists : IsElement m e
  pub within : e.place ≢ []
  pub stands : home_of m e ≡ Kept e

-- the cells are the main inputs, the main outputs, and each other home once
pub record AreHomes (f : Laid) : Type 0 where
  pub rest : List Element
  pub order : f.cells ≡ (main_input_elements f.model ++ main_output_elements f.model) ++ rest
  pub homes : (e : Element) → IsInnerHome f.model e ↔ IsAmong rest e
  pub once : (j k : ℕ) (e : Element) → slice_get f.cells j ≡ Some e → slice_get f.cells k ≡ Some e → j ≡ k

-- the list that computes has exactly the homes
abbrev pub LaidCellsAreHomes : Type 0
LaidCellsAreHomes = (f : Laid) → ShapesAgree f.model → IsLaid f → AreHomes f

-- the cell holds what stands for the element
pub record IsCellOf (f : Laid) (e : Element) (cell : ℕ) : Type 0 where
  pub home : Element
  pub is_home : home_of f.model e ≡ Kept home
  pub at_cell : slice_get f.cells cell ≡ Some home

-- what reading the element means: its cell, or its default number
abbrev pub IsReadOf : Laid → Element → Read → Type 0
IsReadOf f e (Cell c) = IsCellOf f e c
IsReadOf f e (Const n) = home_of f.model e ≡ Constant n
