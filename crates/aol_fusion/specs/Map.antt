-- The map of a fusion: the old instance of each instance of the fused model.
use Rattle.std.specs.Prelude.{ℕ, ◌+◌, List, [], ◌∷◌, ◌++◌, map, slice_index, Option, Some, if◌then◌else◌}
use Rattle.aol_tiler.specs.Tiler.{address_point}
use Rattle.aol_model_types.specs.declared.document.Model.{Model}
use Rattle.aol_model_types.specs.declared.job.FuseArgs.{FuseArgs}
use Rattle.aol_model_types.specs.declared.task.Compound.{Compound}
use Rattle.aol_model_types.specs.declared.task.Task.{Task}
use Rattle.aol_model_types.specs.declared.task.Task.TheVariants as tasks
use Rattle.aol_flat.specs.Instance.{Instance}
use Rattle.aol_flat.specs.Place.{Place, IntoPart, IntoRepetition}
use Rattle.aol_flat.specs.Tasks.{part_number}
use Rattle.aol_change.specs.Change.{StepBack, is_named, old_instance}
use Rattle.aol_fusion_parts.specs.Changed.{first_goes, changed_part, changed_reshape}
use Rattle.aol_fusion_parts.specs.Fuse.{Fusing, fusing, fused_ports}
use Rattle.aol_fusion_parts.specs.Joined.{task_of_part}
use Rattle.aol_fusion_parts.specs.Made.{fused_names}

-- for each member of the list in which each gives way to some, the number of the one that it stands for
abbrev pub origins_from : {X Y : Type 0} → (X → List Y) → ℕ → List X → List ℕ
origins_from change k [] = []
origins_from change k (x ∷ xs) = map (λ _. k) (change x) ++ origins_from change (k + 1) xs

-- the old number of a part of the changed compound
abbrev pub old_part : Fusing → ℕ → ℕ
old_part f k = slice_index (origins_from (changed_part f.args (fused_names f.model f.compound.name).whole (first_goes f.args f.compound)) 0 f.compound.parts) k

-- the old number of one of its reshapes
abbrev pub old_reshape : Fusing → ℕ → ℕ
old_reshape f k = slice_index (origins_from (changed_reshape f.args f.one f.two (fused_ports f).unjoined (first_goes f.args f.compound)) 0 f.compound.reshapes) k

-- the step to position j of a block: to the repetition of the first part that the proposed tiler gives there
abbrev pub unfuse_block : Fusing → List ℕ → Place → Place
unfuse_block f j (IntoPart k ∷ IntoRepetition r ∷ IntoPart g ∷ up) =
    IntoRepetition (address_point f.args.tiler f.one.space r j) ∷ IntoPart (part_number f.compound f.args.first) ∷ up
unfuse_block f j _ = []

-- the step to the one run: to the repetition of the second part
abbrev pub unfuse_once : Place → Place
unfuse_once (IntoPart k ∷ IntoRepetition r ∷ IntoPart g ∷ up) = IntoRepetition r ∷ IntoPart g ∷ up
unfuse_once _ = []

-- parts of the compound have their old numbers, and the steps to a block's repetition and to the run are mapped so
abbrev pub unfuse : Fusing → StepBack
unfuse f above (IntoPart k) up = IntoPart (if is_named above f.compound.name then old_part f k else k) ∷ up
unfuse f above (IntoRepetition i) up =
    if is_named above (fused_names f.model f.compound.name).block then unfuse_block f i up
    else (if is_named above (fused_names f.model f.compound.name).once then unfuse_once up else IntoRepetition i ∷ up)

-- the reshapes of the compound have their old numbers
abbrev pub unfuse_reshape : Fusing → Option (List ℕ) → ℕ → ℕ
unfuse_reshape f above k = if is_named above f.compound.name then old_reshape f k else k

-- the old instance of one of the fused model
abbrev pub fuse_origin : Fusing → Model → Instance → Instance
fuse_origin f new = old_instance (unfuse f) (unfuse_reshape f) new

-- the same by the tasks of the two parts, if both are repeated
abbrev pub fused_from_parts : Model → Compound → FuseArgs → Option Task → Option Task → Model → Instance → Instance
fused_from_parts m c args (Some (tasks.Repeated one)) (Some (tasks.Repeated two)) new i = fuse_origin (fusing m c one two args) new i
fused_from_parts m c args _ _ new i = i

-- the same by the compound that is changed, if there is one
abbrev pub fused_from : Option Task → Model → FuseArgs → Model → Instance → Instance
fused_from (Some (tasks.Compound c)) m args new i = fused_from_parts m c args (task_of_part m.tasks c args.first) (task_of_part m.tasks c args.second) new i
fused_from _ m args new i = i
