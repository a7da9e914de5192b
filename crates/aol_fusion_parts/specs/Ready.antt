-- What is known when the new tasks of a fusion are made.
use Rattle.std.specs.Prelude.{◌≡◌, ◌+◌, ◌<◌, ◌^◌, [], length, true, Some, None}
use Rattle.std.specs.List.{AllByRecursion}
use Rattle.aol_model_types.specs.declared.job.FuseArgs.{FuseArgs}
use Rattle.aol_model_types.specs.declared.task.Repeated.{Repeated}
use Rattle.aol_model_types.specs.declared.task.Task.TheVariants as tasks
use Rattle.aol_model_types.specs.Rules.{task_named}
use Rattle.aol_flat.specs.Accept.{IsSound}
use Rattle.aol_fusion_parts.specs.declared.ports.FusedPorts.{FusedPorts}
use Rattle.aol_fusion_parts.specs.Fuse.{Fusing, fused_ports, is_formed}
use Rattle.aol_fusion_parts.specs.Made.{over_limit}
use Rattle.aol_fusion_parts.specs.Room.{CanPlace}

-- no port is there yet
pub record HaveNoPorts (p : FusedPorts) : Type 0 where
  pub first_ins : p.first_ins ≡ []
  pub first_outs : p.first_outs ≡ []
  pub used_outs : p.used_outs ≡ []
  pub second_ins : p.second_ins ≡ []
  pub picked_ins : p.picked_ins ≡ []
  pub free_ins : p.free_ins ≡ []
  pub second_outs : p.second_outs ≡ []
  pub unjoined : p.unjoined ≡ []

-- where a block and each inner input of the first repetition have room in one shape, its tilers can be placed
abbrev pub CanPlaceAll : FuseArgs → Repeated → FusedPorts → Type 0
CanPlaceAll args one p = over_limit args.block p.first_ins ≡ None → AllByRecursion (CanPlace one args.tiler) p.first_ins

-- the ports can be counted
pub record IsFew (one : Repeated) (p : FusedPorts) : Type 0 where
  pub outside : length one.ins + length p.unjoined < 2 ^ 64
  pub inside : length p.first_ins + length p.free_ins < 2 ^ 64

-- the compound and both repetitions are tasks of a sound model
pub record AreFound (f : Fusing) : Type 0 where
  pub sound : IsSound f.model
  pub compound : task_named f.model.tasks f.compound.name ≡ Some (tasks.Compound f.compound)
  pub one : task_named f.model.tasks f.one.name ≡ Some (tasks.Repeated f.one)
  pub two : task_named f.model.tasks f.two.name ≡ Some (tasks.Repeated f.two)

-- so they are, the proposal is well formed, and these are its ports
pub record IsReady (f : Fusing) (p : FusedPorts) : Type 0 where
  pub found : AreFound f
  pub formed : is_formed f ≡ true
  pub ports : p ≡ fused_ports f
