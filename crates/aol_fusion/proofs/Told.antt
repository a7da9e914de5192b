-- The old numbers are the map of a fusion.
use Rattle.std.proofs.Common.{◌≡◌, ℕ, List, Some, sym, ◌∙◌, ap, subst}
use Rattle.aol_model_types.specs.declared.document.Model.{Model}
use Rattle.aol_model_types.specs.declared.job.FuseArgs.{FuseArgs}
use Rattle.aol_model_types.specs.declared.task.Compound.{Compound}
use Rattle.aol_model_types.specs.declared.task.Repeated.{Repeated}
use Rattle.aol_model_types.specs.declared.task.Task.TheVariants as tasks
use Rattle.aol_model_types.specs.Rules.{task_named}
use Rattle.aol_flat.specs.Instance.{Instance}
use Rattle.aol_change.specs.Change.{KeepsTasks, IsMapOf}
use Rattle.aol_change.proofs.ChangedTasks.{bounded_changed}
use Rattle.aol_fusion_parts.specs.Fuse.{Fusing, fusing, fused_task, fused_model}
use Rattle.aol_fusion_parts.specs.Joined.{task_of_part}
use Rattle.aol_fusion_parts.proofs.Kept.{fused_keeps_tasks}
use Rattle.aol_fusion_rules.proofs.Sound.{IsFusing, MadeBy, made_by}
use Rattle.aol_fusion.specs.Map.{fuse_origin, fused_from, fused_from_parts}
use Rattle.aol_fusion.specs.Numbers.{fused_numbers}
use Rattle.aol_fusion.specs.Told.{AreTold, OldNumbersAreTold}
use Rattle.aol_fusion.proofs.MapMade.{map_is, alike_is}

same_fusing : (m : Model) (args : FuseArgs) (c d : Compound) (a b x y : Repeated) → c ≡ d → a ≡ b → x ≡ y → fusing m c a x args ≡ fusing m d b y args
same_fusing m args c d a b x y e f g = ap (λ k. fusing m k a x args) e ∙ (ap (λ k. fusing m d k x args) f ∙ ap (λ k. fusing m d b k args) g)

-- the origin, where the compound and its two parts are found
from_is : (m new : Model) (name : List ℕ) (args : FuseArgs) (c : Compound) (one two : Repeated) → task_named m.tasks name ≡ Some (tasks.Compound c) → task_of_part m.tasks c args.first ≡ Some (tasks.Repeated one)
    → task_of_part m.tasks c args.second ≡ Some (tasks.Repeated two) → (i : Instance) → fused_from (task_named m.tasks name) m args new i ≡ fuse_origin (fusing m c one two args) new i
from_is m new name args c one two e f g i =
    ap (λ x. fused_from x m args new i) e
    ∙ (ap (λ x. fused_from_parts m c args x (task_of_part m.tasks c args.second) new i) f ∙ ap (λ x. fused_from_parts m c args (Some (tasks.Repeated one)) x new i) g)

told_by : (m : Model) (name : List ℕ) (args : FuseArgs) (c : Compound) (one two : Repeated) → IsFusing (fusing m c one two args) → KeepsTasks m (fused_model (fusing m c one two args)) → task_named m.tasks name ≡ Some (tasks.Compound c)
    → AreTold m (fused_model (fusing m c one two args)) name args (fused_numbers (fusing m c one two args) (fused_model (fusing m c one two args)))
told_by m name args c one two h keeps found =
    let f : Fusing = fusing m c one two args in
    let map : IsMapOf m (fused_model f) (fuse_origin f (fused_model f)) (fused_numbers f (fused_model f)) = map_is f h in
    record {
      map = record { each = map.each; number = λ j i at. map.number j i at ∙ ap (λ x. Some x) (sym (from_is m (fused_model f) name args c one two found h.one h.two i)) };
      alike = alike_is f h keeps;
    }

pub old_numbers_are_told : OldNumbersAreTold
old_numbers_are_told m next name args c one two sound block picks few step found first second =
    let by : MadeBy m name args next = made_by m next name args sound block picks few (bounded_changed (fused_task m (task_named m.tasks name) args) next step) in
    let same : by.compound ≡ c = compounds by.compound c (sym by.found ∙ found) in
    let one_same : by.one ≡ one = repeated by.one one (sym by.known.one ∙ (ap (λ x. task_of_part m.tasks x args.first) same ∙ first)) in
    let two_same : by.two ≡ two = repeated by.two two (sym by.known.two ∙ (ap (λ x. task_of_part m.tasks x args.second) same ∙ second)) in
    let e : fusing m by.compound by.one by.two args ≡ fusing m c one two args = same_fusing m args by.compound c by.one one by.two two same one_same two_same in
    let made : fused_model (fusing m c one two args) ≡ next = ap fused_model (sym e) ∙ by.made in
    subst (λ n. AreTold m n name args (fused_numbers (fusing m c one two args) n)) made
    (told_by m name args c one two (subst IsFusing e by.known) (subst (KeepsTasks m) (sym made) (fused_keeps_tasks m next name args sound step)) found)
  where
    compounds : (x y : Compound) → Some (tasks.Compound x) ≡ Some (tasks.Compound y) → x ≡ y
    compounds x y k = cc

    repeated : (x y : Repeated) → Some (tasks.Repeated x) ≡ Some (tasks.Repeated y) → x ≡ y
    repeated x y k = cc
