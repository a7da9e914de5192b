-- Two repetitions that are joined in a compound, and whether a proposal to fuse them is well formed.
use Rattle.std.specs.Prelude.{ℕ, Bool, false, ◌==◌, ◌&&◌, not, is_some, List, ◌++◌, [], length, count_by, Option, Some, option_map, option_and_then, unwrap_or, if◌then◌else◌}
use Rattle.std.specs.List.{list_any, list_all, find}
use Rattle.aol_shape.specs.Lists.{same}
use Rattle.aol_tiler.specs.Tiler.{fits}
use Rattle.aol_expr_tree.specs.declared.port.Port.{Port}
use Rattle.aol_model_types.specs.declared.job.FuseArgs.{FuseArgs}
use Rattle.aol_model_types.specs.declared.job.Pick.{Pick}
use Rattle.aol_model_types.specs.declared.task.Compound.{Compound}
use Rattle.aol_model_types.specs.declared.task.Hook.{Hook}
use Rattle.aol_model_types.specs.declared.task.Part.{Part}
use Rattle.aol_model_types.specs.declared.task.Plain.{Plain}
use Rattle.aol_model_types.specs.declared.task.Repeated.{Repeated}
use Rattle.aol_model_types.specs.declared.task.Task.{Task}
use Rattle.aol_model_types.specs.declared.task.TilerOn.{TilerOn}
use Rattle.aol_model_types.specs.Rules.{task_named, port_shape, same_part, part_named}
use Rattle.aol_flat.specs.Home.{tiler_at}

-- ---- the two parts

-- the task of the part of this name
abbrev pub task_of_part : List Task → Compound → List ℕ → Option Task
task_of_part tasks c name = option_and_then (λ (p : Part). task_named tasks p.task) (part_named c name)

-- an end is at the part of this name
abbrev pub is_end_of : List ℕ → Hook → Bool
is_end_of part h = same_part h.part (Some part)

-- a plain link goes from the first part to the second
abbrev pub is_joint : FuseArgs → Plain → Bool
is_joint args l = is_end_of args.first l.from && is_end_of args.second l.to

-- the compound has both parts, they are two, and such a link
abbrev pub are_joined : Compound → FuseArgs → Bool
are_joined c args =
    is_some (part_named c args.first) && is_some (part_named c args.second) && not (same args.first args.second) && list_any (is_joint args) c.links

-- ---- what is picked

-- an input of the second part takes from the first one
abbrev pub is_joined : FuseArgs → Compound → List ℕ → Bool
is_joined args c name = list_any (λ (l : Plain). is_joint args l && same l.to.port name) c.links

-- the tiler on an inner input of the second repetition is on such an input
abbrev pub is_picked : FuseArgs → Compound → Repeated → List ℕ → Bool
is_picked args c two name = unwrap_or (option_map (λ (o : TilerOn). is_joined args c o.outer) (tiler_at two name)) false

-- the pick of an inner input
abbrev pub pick_to : List Pick → List ℕ → Option Pick
pick_to picks name = find (λ (p : Pick). same p.to name) picks

-- an output of the first inner task is one that a pick is from
abbrev pub is_source : List Pick → List ℕ → Bool
is_source picks name = list_any (λ (p : Pick). same p.from name) picks

-- ---- the proposal

-- an inner input of the second repetition has one pick where it is picked, and else none
abbrev pub is_picked_once : FuseArgs → Compound → Repeated → Port → Bool
is_picked_once args c two v = count_by (λ (p : Pick). same p.to v.name) args.picks == (if is_picked args c two v.name then 1 else 0)

-- the tiler of a pick leads from a block of this output to this input, without paving, where both are there
abbrev pub fits_block : FuseArgs → Pick → Option (List ℕ) → Option (List ℕ) → Bool
fits_block args p (Some from) (Some to) = fits p.tiler (args.block ++ from) [] to
fits_block args p _ _ = false

-- the same by the outputs of the first inner task and the inputs of the second
abbrev pub pick_fits : FuseArgs → List Port → List Port → Pick → Bool
pick_fits args outs ins p = fits_block args p (port_shape outs p.from) (port_shape ins p.to)

-- there are picks, of exactly the picked inputs and from outputs; the proposed tiler leads from the first space to the second, with blocks as its pattern; and the picks' tilers fit
abbrev pub is_well_formed : FuseArgs → Compound → Repeated → Repeated → List Port → List Port → Bool
is_well_formed args c one two outs ins =
    not (length args.picks == 0)
    && list_all (is_picked_once args c two) ins
    && fits args.tiler one.space two.space args.block
    && list_all (pick_fits args outs ins) args.picks
