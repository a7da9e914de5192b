-- Which arrays are stored by themselves, by the task above a node.
use Rattle.std.specs.Prelude.{ℕ, Bool, true, false, is_none, List}
use Rattle.aol_model_types.specs.declared.task.Task.{Task}
use Rattle.aol_model_types.specs.declared.task.Task.TheVariants as tasks
use Rattle.aol_flat.specs.Home.{link_into_part, link_up, tiler_at}

-- the array at a port is stored: at the root, or at an input or output of part k of the task above or of its body
abbrev pub stored_by : Bool → Task → ℕ → Bool → List ℕ → Bool
stored_by true above k input port = true
stored_by false (tasks.Compound c) k true port = is_none (link_into_part c k port)
stored_by false (tasks.Compound c) k false port = is_none (link_up c k port)
stored_by false (tasks.Repeated t) k true port = false
stored_by false (tasks.Repeated t) k false port = is_none (tiler_at t port)
stored_by false (tasks.Elementary e) k input port = false
