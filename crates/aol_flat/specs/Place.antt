-- Instances of the nodes of the hierarchy, and the elements of the arrays at their ports.
use Rattle.std.specs.Prelude.{◌≡◌, ℕ, List, [], ◌∷◌, ◌++◌, map, flat_map, Option, Some, None, option_and_then, if◌then◌else◌, slice_get}
use Rattle.aol_shape.specs.Shape.{IsPointOf, points}
use Rattle.aol_tiler.specs.Tiler.{integers}
use Rattle.aol_expr_tree.specs.declared.port.Port.{Port}
use Rattle.aol_shape.specs.Vectors.{is_inside}
use Rattle.aol_model_types.specs.declared.document.Model.{Model}
use Rattle.aol_model_types.specs.declared.task.Compound.{Compound}
use Rattle.aol_model_types.specs.declared.task.Hook.{Hook}
use Rattle.aol_model_types.specs.declared.task.Part.{Part}
use Rattle.aol_model_types.specs.declared.task.Task.{Task}
use Rattle.aol_model_types.specs.declared.task.Task.TheVariants as tasks
use Rattle.aol_model_types.specs.Rules.{task_named, inputs_of, outputs_of, port_shape}
use Rattle.aol_flat.specs.Tasks.{main_task, part_number}

-- a step down in the hierarchy: into a part of a compound, by its number, or into one repetition of a repeated task
pub data Down : Type 0 where
  IntoPart : ℕ → Down
  IntoRepetition : List ℕ → Down

-- an instance of a node: the steps that lead to it, the last one first; the one instance of the main task is []
abbrev pub Place : Type 0
Place = List Down

-- the task that a step leads to
abbrev pub task_below : Model → Task → Down → Option Task
task_below m (tasks.Compound c) (IntoPart k) = option_and_then (λ (p : Part). task_named m.tasks p.task) (slice_get c.parts k)
task_below m (tasks.Repeated t) (IntoRepetition r) = if is_inside t.space (integers r) then task_named m.tasks t.task else None
task_below m _ _ = None

-- the task at an instance, if there is such an instance
abbrev pub task_at : Model → Place → Option Task
task_at m [] = main_task m
task_at m (d ∷ up) = option_and_then (λ t. task_below m t d) (task_at m up)

-- one element of the array at a port of an instance
pub record Element : Type 0 where
  pub place : Place
  pub port : List ℕ
  pub index : List ℕ

-- it is there: the instance is, its task has the port, and the index is a point of the port's shape
pub record IsElement (m : Model) (e : Element) : Type 0 where
  pub task : Task
  pub at_place : task_at m e.place ≡ Some task
  pub shape : List ℕ
  pub at_port : port_shape (inputs_of task ++ outputs_of task) e.port ≡ Some shape
  pub inside : IsPointOf shape e.index

-- the elements at a port of an instance, in order of rank
abbrev pub port_elements : Place → Port → List Element
port_elements place p = map (λ x. record { place = place; port = p.name; index = x }) (points p.shape)

-- the elements at some ports, by port and rank
abbrev pub elements_of : Place → List Port → List Element
elements_of place ports = flat_map (port_elements place) ports

-- the instance at an end of a link of a compound: the compound's own, or that of a part
abbrev pub instance_of_end : Compound → Place → Option (List ℕ) → Place
instance_of_end c up None = up
instance_of_end c up (Some part) = IntoPart (part_number c part) ∷ up

-- the element at an end of a link of a compound
abbrev pub end_element : Compound → Place → Hook → List ℕ → Element
end_element c up h x = record { place = instance_of_end c up h.part; port = h.port; index = x }
