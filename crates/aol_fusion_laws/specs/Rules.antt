-- The rules that new tasks of a fusion keep, by what is known of the old ones.
use Rattle.std.specs.Prelude.{◌≡◌, ℕ, ◌+◌, ◌<◌, ◌^◌, List, [], map, length, Some, true}
use Rattle.std.specs.List.{list_all}
use Rattle.aol_tiler.specs.Tiler.{fits}
use Rattle.aol_expr_tree.specs.declared.port.Port.{Port}
use Rattle.aol_model_types.specs.declared.job.FuseArgs.{FuseArgs}
use Rattle.aol_model_types.specs.declared.job.Pick.{Pick}
use Rattle.aol_model_types.specs.declared.place.PlaceStep.{PlaceStep}
use Rattle.aol_model_types.specs.declared.task.Compound.{Compound}
use Rattle.aol_model_types.specs.declared.task.Repeated.{Repeated}
use Rattle.aol_model_types.specs.declared.task.Task.{Task}
use Rattle.aol_model_types.specs.declared.task.Task.TheVariants as tasks
use Rattle.aol_model_types.specs.Rules.{kind_checks, task_named, inputs_of, outputs_of}
use Rattle.aol_fusion_parts.specs.declared.ports.FusedNames.{FusedNames}
use Rattle.aol_fusion_parts.specs.Joined.{is_picked_once, pick_fits}
use Rattle.aol_fusion_parts.specs.Made.{over_space, block_of_first, once_of_second, pair_of_both}
use Rattle.aol_fusion_parts.specs.Ports.{sources, tiled_ports, picked_ports, unpicked_ports, unjoined_ports}
use Rattle.aol_fusion_parts.specs.Whole.{fused_repetition}

-- all rules of a task hold behind these tasks
abbrev pub KeepsRules : List Task → Task → Type 0
KeepsRules ts t = (at : List PlaceStep) → list_all (λ c. c.holds) (kind_checks ts at t) ≡ true

-- a repetition without links that keeps the rules, and its inner task that does
pub record IsOld (t : Repeated) (u : Task) : Type 0 where
  pub before : List Task
  pub found : task_named before t.task ≡ Some u
  pub rules : KeepsRules before (tasks.Repeated t)
  pub plain : t.links ≡ []
  pub earlier : List Task
  pub inner : KeepsRules earlier u

-- the repetition over one block keeps the rules
abbrev pub BlockKeepsRules : Type 0
BlockKeepsRules =
    (ts : List Task) (one : Repeated) (u : Task) (name block : List ℕ) (picks : List Pick) → IsOld one u → task_named ts one.task ≡ Some u
    → KeepsRules ts (tasks.Repeated (block_of_first name block one.task (inputs_of u) (sources picks (outputs_of u))))

-- so does one run, where the tilers of the picks fit
abbrev pub OnceKeepsRules : Type 0
OnceKeepsRules =
    (ts : List Task) (two : Repeated) (v : Task) (name : List ℕ) (args : FuseArgs) (outs : List Port) → IsOld two v → task_named ts two.task ≡ Some v
    → list_all (pick_fits args outs (inputs_of v)) args.picks ≡ true
    → KeepsRules ts (tasks.Repeated (once_of_second name two.task args.block outs args.picks (inputs_of v) (tiled_ports two (outputs_of v))))

-- so do both side by side, where each picked input has one pick and the picks' tilers fit
abbrev pub PairKeepsRules : Type 0
PairKeepsRules =
    (ts : List Task) (args : FuseArgs) (c : Compound) (one two : Repeated) (u v : Task) (n : FusedNames) → IsOld one u → IsOld two v
    → list_all (is_picked_once args c two) (inputs_of v) ≡ true → list_all (pick_fits args (outputs_of u) (inputs_of v)) args.picks ≡ true
    → length (inputs_of u) + length (inputs_of v) < 2 ^ 64 → length (outputs_of v) < 2 ^ 64
    → task_named ts n.block ≡ Some (tasks.Repeated (block_of_first n.block args.block one.task (inputs_of u) (sources args.picks (outputs_of u))))
    → task_named ts n.once ≡ Some (tasks.Repeated (once_of_second n.once two.task args.block (outputs_of u) args.picks (inputs_of v) (tiled_ports two (outputs_of v))))
    → KeepsRules ts
    (tasks.Compound (pair_of_both n args.picks (map (over_space args.block) (inputs_of u)) (picked_ports args c two (inputs_of v)) (unpicked_ports args c two (inputs_of v)) (tiled_ports two (outputs_of v))))

-- so does the fused repetition, where the proposed tiler fits
abbrev pub WholeKeepsRules : Type 0
WholeKeepsRules =
    (ts : List Task) (args : FuseArgs) (c : Compound) (one two : Repeated) (u v : Task) (n : FusedNames) → IsOld one u → IsOld two v
    → fits args.tiler one.space two.space args.block ≡ true
    → length one.ins + length two.ins < 2 ^ 64 → length two.outs < 2 ^ 64 → length (inputs_of u) + length (inputs_of v) < 2 ^ 64 → length (outputs_of v) < 2 ^ 64
    → task_named ts n.pair
    ≡ Some (tasks.Compound (pair_of_both n args.picks (map (over_space args.block) (inputs_of u)) (picked_ports args c two (inputs_of v)) (unpicked_ports args c two (inputs_of v)) (tiled_ports two (outputs_of v))))
    → KeepsRules ts (tasks.Repeated (fused_repetition n.whole n.pair one two args.tiler (unjoined_ports args c two.ins) (inputs_of u) (unpicked_ports args c two (inputs_of v)) (tiled_ports two (outputs_of v))))
