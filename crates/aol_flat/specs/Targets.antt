-- The points that tilers and reshapes write, and points that are written twice.
use Rattle.std.specs.Prelude.{◌≡◌, ◌↔◌, ℕ, ◌<◌, List, [], ◌∷◌, ◌++◌, map, flat_map, slice_get, Option, Some, None, option_map, unwrap_or, if◌then◌else◌, ◌&&◌}
use Rattle.std.specs.List.{IsAmong, enumerate_from}
use Rattle.aol_shape.specs.Lists.{same, first_some}
use Rattle.aol_shape.specs.Shape.{points}
use Rattle.aol_tiler.specs.Matrices.{TilerOf}
use Rattle.aol_tiler.specs.Tiler.{address_point}
use Rattle.aol_expr_tree.specs.declared.port.Port.{Port}
use Rattle.aol_model_types.specs.declared.document.Model.{Model}
use Rattle.aol_model_types.specs.declared.task.Compound.{Compound}
use Rattle.aol_model_types.specs.declared.task.Copied.{Copied}
use Rattle.aol_model_types.specs.declared.task.Part.{Part}
use Rattle.aol_model_types.specs.declared.task.Repeated.{Repeated}
use Rattle.aol_model_types.specs.declared.task.Task.{Task}
use Rattle.aol_model_types.specs.declared.task.Task.TheVariants as tasks
use Rattle.aol_model_types.specs.declared.task.TilerOn.{TilerOn}
use Rattle.aol_model_types.specs.Rules.{same_part, inputs_named, outputs_named, port_shape}
use Rattle.aol_flat.specs.Node.{Node, nodes}
use Rattle.aol_flat.specs.declared.view.Writer.{Writer}

-- a pair of a tiler or reshape, with the point of the target that it writes
abbrev pub Writing : Type 0
Writing = Writer × List ℕ

-- an output of a repeated task, or a port of a compound that reshapes write, with its writings: by place in the task's list, then repetition, then pattern element
pub record Target : Type 0 where
  pub node : Node
  pub part : Option (List ℕ)
  pub port : List ℕ
  pub writings : List Writing

-- the writings of the member of a list with this number and tiler, over a space and a pattern, into an array
abbrev pub writings_of : ℕ → TilerOf → List ℕ → List ℕ → List ℕ → List Writing
writings_of k t array space pattern =
    flat_map (λ r. map (λ i. (record { item = k; rep = r; pattern = i }, address_point t array r i)) (points pattern)) (points space)

-- the shape of an output of a repetition
abbrev pub inner_shape : Model → Repeated → List ℕ → List ℕ
inner_shape m t inner = unwrap_or (port_shape (outputs_named m.tasks t.task) inner) []

-- the writings of a tiler with its number, into an own output
abbrev pub tiler_writings : Model → Repeated → Port → ℕ × TilerOn → List Writing
tiler_writings m t y o =
    if same o.1.outer y.name then writings_of o.0 o.1.tiler y.shape t.space (inner_shape m t o.1.inner) else []

-- an own output of a repeated task as a target
abbrev pub output_target : Model → Node → Repeated → Port → Target
output_target m node t y =
    record { node = node; part = None; port = y.name; writings = flat_map (tiler_writings m t y) (enumerate_from 0 t.tilers) }

-- the writings of a reshape with its number, into this port of a part or of the compound
abbrev pub reshape_writings : Option (List ℕ) → Port → ℕ × Copied → List Writing
reshape_writings part u r =
    if same_part r.1.to.part part && same r.1.to.port u.name then writings_of r.0 r.1.by.target u.shape r.1.by.space r.1.by.pattern else []

-- a port of a part or of the compound as a target; it has no writings where links feed it
abbrev pub reshape_target : Node → Compound → Option (List ℕ) → Port → Target
reshape_target node c part u =
    record { node = node; part = part; port = u.name; writings = flat_map (reshape_writings part u) (enumerate_from 0 c.reshapes) }

-- the targets at a node: a repeated task's outputs; a compound's part inputs, by part and port, and then its own outputs
abbrev pub node_targets : Model → Node × Task → List Target
node_targets m (node, tasks.Elementary e) = []
node_targets m (node, tasks.Repeated t) = map (output_target m node t) t.outs
node_targets m (node, tasks.Compound c) =
    flat_map (λ (p : Part). map (reshape_target node c (Some p.name)) (inputs_named m.tasks p.task)) c.parts ++ map (reshape_target node c None) c.outs

-- all targets, node by node in preorder
abbrev pub targets : Model → List Target
targets m = flat_map (node_targets m) (nodes m)

-- ---- written twice

-- two different writings of one target have one point
pub record WrittenTwice (m : Model) : Type 0 where
  pub target : Target
  pub listed : IsAmong (targets m) target
  pub first : ℕ
  pub second : ℕ
  pub apart : first < second
  pub one : Writing
  pub other : Writing
  pub at_first : slice_get target.writings first ≡ Some one
  pub at_second : slice_get target.writings second ≡ Some other
  pub same_point : one.1 ≡ other.1

-- nothing is written twice
abbrev pub IsSingleAssignment : Model → Type 0
IsSingleAssignment m = WrittenTwice m → ⊥

-- the earliest writing of a list that has this point
abbrev pub earlier_writing : List Writing → List ℕ → Option Writing
earlier_writing [] x = None
earlier_writing (w ∷ ws) x = if same w.1 x then Some w else earlier_writing ws x

-- the first writing whose point an earlier one has, with that earlier one; `seen` are those before the list
abbrev pub first_repeat : List Writing → List Writing → Option (Writing × Writing)
first_repeat seen [] = None
first_repeat seen (w ∷ ws) =
    elim (earlier_writing seen w.1) [ Some before ↦ Some (before, w) | None ↦ first_repeat (seen ++ w ∷ []) ws ]

-- a point of a target with the first two that write it
pub record Twice : Type 0 where
  pub target : Target
  pub first : Writer
  pub second : Writer
  pub point : List ℕ

-- the first point of a target that is written twice
abbrev pub target_twice : Target → Option Twice
target_twice t = option_map (λ (p : Writing × Writing). record { target = t; first = p.0.0; second = p.1.0; point = p.1.1 }) (first_repeat [] t.writings)

-- the first point of the model that is
abbrev pub first_twice : Model → Option Twice
first_twice m = first_some (map target_twice (targets m))

-- there is none exactly where nothing is written twice
abbrev pub TwiceIsFound : Type 0
TwiceIsFound = (m : Model) → (first_twice m ≡ None) ↔ IsSingleAssignment m
