-- The leaves of the hierarchy and their instances in order, and what an instance reads and writes.
use Rattle.std.specs.Prelude.{ℕ, zero, suc, ◌+◌, List, [], ◌∷◌, ◌++◌, map, flat_map, take, drop, length, slice_get, Option, Some, None, unwrap_or, option_map, option_and_then, codes, decimal, nat_lt, ◌==◌, ◌&&◌, if◌then◌else◌}
use Rattle.std.specs.List.{enumerate_from}
use Rattle.std.specs.Option.{option_to_list}
use Rattle.aol_shape.specs.Lists.{numbers_below}
use Rattle.aol_shape.specs.Shape.{size, point_at, points}
use Rattle.aol_tiler.specs.Tiler.{address_point}
use Rattle.aol_expr_tree.specs.declared.port.Port.{Port}
use Rattle.aol_model_types.specs.declared.document.Model.{Model}
use Rattle.aol_model_types.specs.declared.task.Compound.{Compound}
use Rattle.aol_model_types.specs.declared.task.Copied.{Copied}
use Rattle.aol_model_types.specs.declared.task.Hook.{Hook}
use Rattle.aol_model_types.specs.declared.task.Part.{Part}
use Rattle.aol_model_types.specs.declared.task.Task.{Task}
use Rattle.aol_model_types.specs.declared.task.Task.TheVariants as tasks
use Rattle.aol_model_types.specs.Rules.{task_named, inputs_of, outputs_of, port_shape}
use Rattle.aol_flat.specs.Tasks.{main_task}
use Rattle.aol_flat.specs.Place.{Place, Element, task_at, elements_of, end_element}
use Rattle.aol_flat.specs.Node.{Node, ToPart, ToBody, space_around, place_on, steps_text, node_path}

-- ---- leaves

-- what a leaf does: it computes an elementary task, or copies by one reshape of its node, whose space has so many entries
pub data Work : Type 0 where
  Computes : Work
  Copies : (reshape entries : ℕ) → Work

-- a leaf: its node, what it does, and the space of its instances
pub record Leaf : Type 0 where
  pub node : Node
  pub work : Work
  pub space : List ℕ

-- the leaf of a reshape with its number at a node
abbrev pub reshape_leaf : Node → ℕ × Copied → Leaf
reshape_leaf node r =
    record { node = node; work = Copies r.0 (length r.1.by.space); space = space_around node ++ r.1.by.space ++ r.1.by.pattern }

-- the leaves at and below a node in preorder, where a compound's reshapes come after all its parts; so many steps down, as for the nodes
abbrev pub leaves_below : ℕ → Model → Option Task → Node → List Leaf
leaves_below zero m t node = []
leaves_below (suc depth) m None node = []
leaves_below (suc depth) m (Some (tasks.Elementary e)) node = record { node = node; work = Computes; space = space_around node } ∷ []
leaves_below (suc depth) m (Some (tasks.Compound c)) node =
    flat_map (λ (p : ℕ × Part). leaves_below depth m (task_named m.tasks p.1.task) (ToPart p.0 ∷ node)) (enumerate_from 0 c.parts)
    ++ map (reshape_leaf node) (enumerate_from 0 c.reshapes)
leaves_below (suc depth) m (Some (tasks.Repeated t)) node = leaves_below depth m (task_named m.tasks t.task) (ToBody t.space ∷ node)

-- all leaves
abbrev pub leaves : Model → List Leaf
leaves m = leaves_below (length m.tasks) m (main_task m) []

-- the path of a leaf, as `/h/*` or `/#0`
abbrev pub leaf_path : Model → Leaf → List ℕ
leaf_path m l = elim l.work [ Computes ↦ node_path m l.node | Copies k n ↦ steps_text m l.node ++ codes "/#" ++ decimal k ]

-- ---- instances

-- one run of an elementary task, or one copy
pub data Instance : Type 0 where
  Run : Place → Instance
  Copy : (place : Place) (reshape : ℕ) (repetition part : List ℕ) → Instance

-- the instance of a leaf at a point of its space
abbrev pub instance_on : Leaf → List ℕ → Instance
instance_on l at =
    elim l.work [
      | Computes ↦ Run (place_on l.node at)
      | Copies k n ↦
          let around = length (space_around l.node) in
          Copy (place_on l.node (take around at)) k (take n (drop around at)) (drop n (drop around at))
    ]

-- the instances of a leaf in row-major order
abbrev pub leaf_instances : Leaf → List Instance
leaf_instances l = map (instance_on l) (points l.space)

-- all instances: the place of one in this list is its number
abbrev pub instances : Model → List Instance
instances m = flat_map leaf_instances (leaves m)

-- ---- what an instance reads and writes

-- the element of rank x at a port, where there is one
abbrev pub element_of_port : Place → ℕ → Port → Option Element
element_of_port place x p = if nat_lt x (size p.shape) then Some (record { place = place; port = p.name; index = point_at p.shape x }) else None

-- the same at the k-th port
abbrev pub port_element : Place → List Port → ℕ → ℕ → Option Element
port_element place ports k x = option_and_then (element_of_port place x) (slice_get ports k)

-- the shape of the port at an end of a reshape
abbrev pub end_shape : Model → Compound → Place → Hook → List ℕ
end_shape m c up h =
    let e = end_element c up h [] in
    unwrap_or (option_and_then (λ t. port_shape (inputs_of t ++ outputs_of t) e.port) (task_at m e.place)) []

-- the element that a copy reads
abbrev pub copy_source : Model → Compound → Place → Copied → List ℕ → List ℕ → Element
copy_source m c up r repetition part = end_element c up r.from (address_point r.by.source (end_shape m c up r.from) repetition part)

-- the element that it writes
abbrev pub copy_target : Model → Compound → Place → Copied → List ℕ → List ℕ → Element
copy_target m c up r repetition part = end_element c up r.to (address_point r.by.target (end_shape m c up r.to) repetition part)

-- either of them, by the number of the reshape of the task at `up`
abbrev pub copy_end : (Model → Compound → Place → Copied → List ℕ → List ℕ → Element) → Model → Place → ℕ → List ℕ → List ℕ → Option Task → Option Element
copy_end end m up k repetition part (Some (tasks.Compound c)) = option_map (λ r. end m c up r repetition part) (slice_get c.reshapes k)
copy_end end m up k repetition part _ = None

-- the element of rank x that an instance reads at its k-th input
abbrev pub read_element : Model → Instance → ℕ → ℕ → Option Element
read_element m (Run place) k x = option_and_then (λ t. port_element place (inputs_of t) k x) (task_at m place)
read_element m (Copy place r repetition part) k x = if (k == 0) && (x == 0) then copy_end copy_source m place r repetition part (task_at m place) else None

-- the element of rank x that an instance writes at its k-th output
abbrev pub written_element : Model → Instance → ℕ → ℕ → Option Element
written_element m (Run place) k x = option_and_then (λ t. port_element place (outputs_of t) k x) (task_at m place)
written_element m (Copy place r repetition part) k x = if (k == 0) && (x == 0) then copy_end copy_target m place r repetition part (task_at m place) else None

-- how many elements each port has
abbrev pub port_sizes : List Port → List ℕ
port_sizes ports = map (λ (p : Port). size p.shape) ports

-- how many elements an instance reads at each input
abbrev pub read_sizes : Model → Instance → List ℕ
read_sizes m (Run place) = unwrap_or (option_map (λ t. port_sizes (inputs_of t)) (task_at m place)) []
read_sizes m (Copy place r repetition part) = 1 ∷ []

-- how many it writes at each output
abbrev pub written_sizes : Model → Instance → List ℕ
written_sizes m (Run place) = unwrap_or (option_map (λ t. port_sizes (outputs_of t)) (task_at m place)) []
written_sizes m (Copy place r repetition part) = 1 ∷ []

-- the pairs of a port's number, counted from k, and a rank, in order
abbrev pub places_of_sizes : ℕ → List ℕ → List (ℕ × ℕ)
places_of_sizes k [] = []
places_of_sizes k (n ∷ sizes) = map (λ (x : ℕ). (k, x)) (numbers_below n) ++ places_of_sizes (k + 1) sizes

-- what a task gives, where there is one
abbrev pub of_task : (Task → List Element) → Option Task → List Element
of_task f None = []
of_task f (Some t) = f t

-- the elements that an instance reads, by port and rank
abbrev pub read_elements : Model → Instance → List Element
read_elements m (Run place) = of_task (λ t. elements_of place (inputs_of t)) (task_at m place)
read_elements m (Copy place r repetition part) = option_to_list (copy_end copy_source m place r repetition part (task_at m place))

-- the elements that it writes
abbrev pub written_elements : Model → Instance → List Element
written_elements m (Run place) = of_task (λ t. elements_of place (outputs_of t)) (task_at m place)
written_elements m (Copy place r repetition part) = option_to_list (copy_end copy_target m place r repetition part (task_at m place))
