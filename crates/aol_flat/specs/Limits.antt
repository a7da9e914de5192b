-- The limits of the hierarchy.
use Rattle.std.specs.Prelude.{◌≡◌, ℕ, ◌+◌, ◌*◌, nat_lt, List, [], ◌∷◌, sum_by, length, Option, Some, None, if◌then◌else◌}
use Rattle.aol_shape.specs.declared.limit.LimitName.{LimitName}
use Rattle.aol_shape.specs.declared.limit.LimitName.TheVariants.{Hierarchy, Nodes, Walk, Work}
use Rattle.aol_shape.specs.Shape.{size}
use Rattle.aol_expr_tree.specs.declared.port.Port.{Port}
use Rattle.aol_expr_tree.specs.Tree.{work}
use Rattle.aol_model_types.specs.declared.document.Model.{Model}
use Rattle.aol_model_types.specs.declared.task.Copied.{Copied}
use Rattle.aol_model_types.specs.declared.task.OutPort.{OutPort}
use Rattle.aol_model_types.specs.declared.task.Task.{Task}
use Rattle.aol_model_types.specs.declared.task.Task.TheVariants as tasks
use Rattle.aol_model_types.specs.Rules.{inputs_of, outputs_of}
use Rattle.aol_flat.specs.declared.limits.TheConstants.{MAX_HIERARCHY, MAX_NODES, MAX_WALK, MAX_WORK}
use Rattle.aol_flat.specs.Node.{Node, nodes, space_around}

-- the most levels of the hierarchy
abbrev pub max_hierarchy : ℕ
max_hierarchy = MAX_HIERARCHY

-- the most nodes
abbrev pub max_node_count : ℕ
max_node_count = MAX_NODES

-- the most elements of all instances, with two for each copy
abbrev pub max_walk : ℕ
max_walk = MAX_WALK

-- the most evaluations of a node of an expression
abbrev pub max_work : ℕ
max_work = MAX_WORK

-- the copies that the reshapes of a task make
abbrev pub copies_of : Task → ℕ
copies_of (tasks.Compound c) = sum_by (λ (r : Copied). size r.by.space * size r.by.pattern) c.reshapes
copies_of _ = 0

-- the elements of one instance of a task, and two more for each copy
abbrev pub own_walk : Task → ℕ
own_walk t = sum_by (λ (p : Port). size p.shape) (inputs_of t) + sum_by (λ (p : Port). size p.shape) (outputs_of t) + 2 * copies_of t

-- the work of one instance of a task
abbrev pub own_work : Task → ℕ
own_work (tasks.Elementary e) = sum_by (λ (o : OutPort). size o.port.shape * work o.expr) e.outs
own_work _ = 0

-- the first limit that these counts pass
abbrev pub passed : ℕ → ℕ → ℕ → ℕ → Option LimitName
passed depth count walk all_work =
    if nat_lt max_hierarchy depth then Some Hierarchy
    else (if nat_lt max_node_count count then Some Nodes
    else (if nat_lt max_walk walk then Some Walk
    else (if nat_lt max_work all_work then Some Work
    else None)))

-- a limit with the node where it is passed, or else what comes later
abbrev pub limit_at : Node → Option LimitName → Option (Node × LimitName) → Option (Node × LimitName)
limit_at node (Some limit) later = Some (node, limit)
limit_at node None later = later

-- the first node in preorder at which a count passes its limit, after so many nodes, so much walk and so much work
abbrev pub first_past : ℕ → ℕ → ℕ → List (Node × Task) → Option (Node × LimitName)
first_past seen walk all_work [] = None
first_past seen walk all_work ((node, t) ∷ rest) =
    let walk_here = walk + own_walk t * size (space_around node) in
    let work_here = all_work + own_work t * size (space_around node) in
    limit_at node (passed (length node + 1) (seen + 1) walk_here work_here) (first_past (seen + 1) walk_here work_here rest)

-- the first node of the model at which one does
abbrev pub first_limit : Model → Option (Node × LimitName)
first_limit m = first_past 0 0 0 (nodes m)

-- the hierarchy is within its limits
abbrev pub IsBounded : Model → Type 0
IsBounded m = first_limit m ≡ None
