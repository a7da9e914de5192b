-- A fused model keeps the tasks.
use Rattle.std.proofs.Common.{◌≡◌, ℕ, ◌^◌, ◌<◌, Bool, true, false, ◌||◌, List, [], ◌∷◌, Option, Some, None, if◌then◌else◌, sym, subst, refl, arith}
use Rattle.std.specs.List.{list_any}
use Rattle.aol_shape.specs.Lists.{same}
use Rattle.aol_model_types.specs.declared.document.Model.{Model}
use Rattle.aol_model_types.specs.declared.task.Compound.{Compound}
use Rattle.aol_model_types.specs.declared.task.Task.{Task}
use Rattle.aol_model_types.specs.declared.task.Task.TheVariants as tasks
use Rattle.aol_model_types.specs.Rules.{task_name, task_named}
use Rattle.aol_flat.specs.Accept.{IsSound}
use Rattle.aol_change.specs.Change.{Changed, Refused, within_limits, has_links, KeepsTasks}
use Rattle.aol_change.specs.declared.refused.StepRefused.TheVariants.{NotJoined, HasLinks}
use Rattle.aol_change.proofs.ChangedTasks.{within_changed, bounded_changed}
use Rattle.aol_change.proofs.KeptTasks.{apart_from_main, keeps_tasks}
use Rattle.aol_fusion_parts.specs.Changed.{fused_compound}
use Rattle.aol_fusion_parts.specs.Fuse.{Fusing, fused_ports, new_tasks, fused_model, fuse_limit, is_formed, fused, fused_parts, fused_task, FusedKeepsTasks}
use Rattle.aol_fusion_parts.specs.Joined.{task_of_part, are_joined}
use Rattle.aol_fusion_parts.specs.Made.{fused_names}

-- the new tasks
abbrev made_tasks : Fusing → List Task
made_tasks f = new_tasks f.args f.one f.two (fused_names f.model f.compound.name) (fused_ports f)

none_of_four : (a b c d : Bool) → a ≡ false → b ≡ false → c ≡ false → d ≡ false → (a || (b || (c || (d || false)))) ≡ false
none_of_four false false false false h i j k = refl
none_of_four true b c d h i j k = cc
none_of_four false true c d h i j k = cc
none_of_four false false true d h i j k = cc
none_of_four false false false true h i j k = cc

-- none of them is the main task
four_apart : (f : Fusing) → IsSound f.model → list_any (λ u. same (task_name u) f.model.main) (made_tasks f) ≡ false
four_apart f sound =
    let n = fused_names f.model f.compound.name in
    let no : 0 < 2 ^ 32 = omega arith in
    let one : 1 < 2 ^ 32 = omega arith in
    let two : 2 < 2 ^ 32 = omega arith in
    let three : 3 < 2 ^ 32 = omega arith in
    none_of_four (same n.block f.model.main) (same n.once f.model.main) (same n.pair f.model.main) (same n.whole f.model.main)
    (apart_from_main f.model [] f.compound.name sound no)
    (apart_from_main f.model (n.block ∷ []) f.compound.name sound one)
    (apart_from_main f.model (n.block ∷ n.once ∷ []) f.compound.name sound two)
    (apart_from_main f.model (n.block ∷ n.once ∷ n.pair ∷ []) f.compound.name sound three)

fused_keeps : (f : Fusing) (next : Model) (name : List ℕ) → IsSound f.model → task_named f.model.tasks name ≡ Some (tasks.Compound f.compound) → fused f ≡ Changed next → KeepsTasks f.model next
fused_keeps f next name sound found h = by_links (has_links f.one || has_links f.two) h
  where
    done : next ≡ fused_model f → KeepsTasks f.model next
    done k =
        subst (KeepsTasks f.model) (sym k)
        (keeps_tasks f.model name (made_tasks f) (tasks.Compound f.compound)
        (tasks.Compound (fused_compound f.args f.compound f.one f.two (fused_ports f).unjoined (fused_names f.model f.compound.name).whole)) found refl (λ rest. refl) refl refl refl (four_apart f sound))

    by_form : (b : Bool) → (if b then within_limits (fused_model f) (fuse_limit f) else Refused NotJoined) ≡ Changed next → KeepsTasks f.model next
    by_form true k = done (within_changed (fused_model f) next (fuse_limit f) k)
    by_form false k = cc

    by_links : (b : Bool) → (if b then Refused HasLinks else (if is_formed f then within_limits (fused_model f) (fuse_limit f) else Refused NotJoined)) ≡ Changed next → KeepsTasks f.model next
    by_links true k = cc
    by_links false k = by_form (is_formed f) k

pub fused_keeps_tasks : FusedKeepsTasks
fused_keeps_tasks m next name args sound h = go (task_named m.tasks name) refl (bounded_changed (fused_task m (task_named m.tasks name) args) next h)
  where
    by_parts : (c : Compound) → task_named m.tasks name ≡ Some (tasks.Compound c) → (one two : Option Task) → fused_parts m c args one two ≡ Changed next → KeepsTasks m next
    by_parts c e (Some (tasks.Repeated one)) (Some (tasks.Repeated two)) k =
        fused_keeps (record { model = m; compound = c; one = one; two = two; args = args }) next name sound e k
    by_parts c e (Some (tasks.Repeated one)) (Some (tasks.Elementary x)) k = cc
    by_parts c e (Some (tasks.Repeated one)) (Some (tasks.Compound x)) k = cc
    by_parts c e (Some (tasks.Repeated one)) None k = cc
    by_parts c e (Some (tasks.Elementary x)) two k = cc
    by_parts c e (Some (tasks.Compound x)) two k = cc
    by_parts c e None two k = cc

    by_joint : (c : Compound) → task_named m.tasks name ≡ Some (tasks.Compound c) → (b : Bool)
        → (if b then fused_parts m c args (task_of_part m.tasks c args.first) (task_of_part m.tasks c args.second) else Refused NotJoined) ≡ Changed next → KeepsTasks m next
    by_joint c e true k = by_parts c e (task_of_part m.tasks c args.first) (task_of_part m.tasks c args.second) k
    by_joint c e false k = cc

    go : (o : Option Task) → task_named m.tasks name ≡ o → fused_task m o args ≡ Changed next → KeepsTasks m next
    go None e k = cc
    go (Some (tasks.Elementary x)) e k = cc
    go (Some (tasks.Repeated t)) e k = cc
    go (Some (tasks.Compound c)) e k = by_joint c e (are_joined c args) k
