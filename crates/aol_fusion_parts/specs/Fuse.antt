-- Fusion: two repetitions, joined in a compound, become one of a block of the first and one run of the second.
use Rattle.std.specs.Prelude.{◌≡◌, ℕ, Bool, ◌||◌, List, [], ◌∷◌, map, Option, Some, if◌then◌else◌}
use Rattle.aol_shape.specs.declared.limit.LimitName.{LimitName}
use Rattle.aol_shape.specs.Lists.{or_else}
use Rattle.aol_expr_tree.specs.declared.port.Port.{Port}
use Rattle.aol_model_types.specs.declared.document.Model.{Model}
use Rattle.aol_model_types.specs.declared.job.FuseArgs.{FuseArgs}
use Rattle.aol_model_types.specs.declared.task.Compound.{Compound}
use Rattle.aol_model_types.specs.declared.task.Repeated.{Repeated}
use Rattle.aol_model_types.specs.declared.task.Task.{Task}
use Rattle.aol_model_types.specs.declared.task.Task.TheVariants as tasks
use Rattle.aol_model_types.specs.Rules.{task_named, inputs_named, outputs_named}
use Rattle.aol_flat.specs.Accept.{IsSound}
use Rattle.aol_change.specs.declared.refused.StepRefused.TheVariants.{NotRepeated, NotJoined, HasLinks}
use Rattle.aol_change.specs.Change.{Stepped, Changed, Refused, KeepsTasks, within_limits, bounded, changed_model, has_links}
use Rattle.aol_fusion_parts.specs.declared.ports.FusedNames.{FusedNames}
use Rattle.aol_fusion_parts.specs.declared.ports.FusedPorts.{FusedPorts}
use Rattle.aol_fusion_parts.specs.Changed.{fused_compound}
use Rattle.aol_fusion_parts.specs.Joined.{task_of_part, are_joined, is_well_formed}
use Rattle.aol_fusion_parts.specs.Made.{fused_names, names_limit, block_of_first, block_limit, over_space, once_of_second, once_limit, pair_of_both, pair_limit}
use Rattle.aol_fusion_parts.specs.Ports.{sources, tiled_ports, picked_ports, unpicked_ports, unjoined_ports}
use Rattle.aol_fusion_parts.specs.Whole.{fused_repetition, whole_limit}

-- what a fusion speaks of: the compound, the repetitions at its two parts, and the proposal
pub record Fusing : Type 0 where
  pub model : Model
  pub compound : Compound
  pub one : Repeated
  pub two : Repeated
  pub args : FuseArgs

-- the same by its parts
abbrev pub fusing : Model → Compound → Repeated → Repeated → FuseArgs → Fusing
fusing m c one two args = record { model = m; compound = c; one = one; two = two; args = args }

-- ---- the ports that it needs

-- the inputs and outputs of the first inner task, and the outputs that a pick is from; the inputs of the second inner task, those that are picked and those that aren't, and its outputs with a tiler; and the inputs of the second repetition that aren't joined
abbrev pub fused_ports : Fusing → FusedPorts
fused_ports f =
    let outs = outputs_named f.model.tasks f.one.task in
    let ins = inputs_named f.model.tasks f.two.task in
    record {
      first_ins = inputs_named f.model.tasks f.one.task;
      first_outs = outs;
      used_outs = sources f.args.picks outs;
      second_ins = ins;
      picked_ins = picked_ports f.args f.compound f.two ins;
      free_ins = unpicked_ports f.args f.compound f.two ins;
      second_outs = tiled_ports f.two (outputs_named f.model.tasks f.two.task);
      unjoined = unjoined_ports f.args f.compound f.two.ins;
    }

-- ---- the model

-- the inputs of the repetition over one block
abbrev pub block_ins : FuseArgs → FusedPorts → List Port
block_ins args p = map (over_space args.block) p.first_ins

-- the four new tasks: a block, one run, both side by side, and the repetition of that
abbrev pub new_tasks : FuseArgs → Repeated → Repeated → FusedNames → FusedPorts → List Task
new_tasks args one two n p =
    tasks.Repeated (block_of_first n.block args.block one.task p.first_ins p.used_outs)
    ∷ tasks.Repeated (once_of_second n.once two.task args.block p.first_outs args.picks p.second_ins p.second_outs)
    ∷ tasks.Compound (pair_of_both n args.picks (block_ins args p) p.picked_ins p.free_ins p.second_outs)
    ∷ tasks.Repeated (fused_repetition n.whole n.pair one two args.tiler p.unjoined p.first_ins p.free_ins p.second_outs)
    ∷ []

-- the model with them and the changed compound
abbrev pub fused_with : Fusing → FusedNames → FusedPorts → Model
fused_with f n p = changed_model f.model f.compound.name (new_tasks f.args f.one f.two n p) (tasks.Compound (fused_compound f.args f.compound f.one f.two p.unjoined n.whole))

-- the fused model
abbrev pub fused_model : Fusing → Model
fused_model f = fused_with f (fused_names f.model f.compound.name) (fused_ports f)

-- ---- limits and causes

-- the first limit that the new tasks pass, in the order in which they are made
abbrev pub tasks_limit : FuseArgs → Repeated → Repeated → FusedPorts → Option LimitName
tasks_limit args one two p =
    or_else (block_limit args.block p.first_ins p.used_outs)
    (or_else (once_limit args.block p.first_outs args.picks p.second_ins p.second_outs)
    (or_else (pair_limit (block_ins args p) p.free_ins p.second_outs) (whole_limit one two args.tiler p.unjoined p.first_ins)))

-- the same after their names
abbrev pub fuse_limit : Fusing → Option LimitName
fuse_limit f = or_else (names_limit (fused_names f.model f.compound.name)) (tasks_limit f.args f.one f.two (fused_ports f))

-- the proposal is well formed
abbrev pub is_formed : Fusing → Bool
is_formed f = is_well_formed f.args f.compound f.one f.two (fused_ports f).first_outs (fused_ports f).second_ins

-- the fusion of two repetitions, or the first cause
abbrev pub fused : Fusing → Stepped
fused f =
    if has_links f.one || has_links f.two then Refused HasLinks
    else (if is_formed f then within_limits (fused_model f) (fuse_limit f) else Refused NotJoined)

-- the fusion of the tasks of the two parts, or the first cause
abbrev pub fused_parts : Model → Compound → FuseArgs → Option Task → Option Task → Stepped
fused_parts m c args (Some (tasks.Repeated one)) (Some (tasks.Repeated two)) = fused (fusing m c one two args)
fused_parts m c args _ _ = Refused NotRepeated

-- the fusion in this task, or the first cause, but for the limits of the hierarchy
abbrev pub fused_task : Model → Option Task → FuseArgs → Stepped
fused_task m (Some (tasks.Compound c)) args =
    if are_joined c args then fused_parts m c args (task_of_part m.tasks c args.first) (task_of_part m.tasks c args.second) else Refused NotJoined
fused_task m _ args = Refused NotJoined

-- the fusion in the task of this name, or the first cause
abbrev pub fuse : Model → List ℕ → FuseArgs → Stepped
fuse m name args = bounded (fused_task m (task_named m.tasks name) args)

-- the fused model of a sound one keeps its tasks
abbrev pub FusedKeepsTasks : Type 0
FusedKeepsTasks = (m next : Model) (name : List ℕ) (args : FuseArgs) → IsSound m → fuse m name args ≡ Changed next → KeepsTasks m next
