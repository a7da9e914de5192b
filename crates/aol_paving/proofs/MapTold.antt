-- What is known of a step that has a paved model.
use Rattle.std.proofs.Common.{◌≡◌, ℕ, List, Some, sym, ◌∙◌, ap, subst}
use Rattle.aol_model_types.specs.declared.document.Model.{Model}
use Rattle.aol_model_types.specs.declared.task.Repeated.{Repeated}
use Rattle.aol_model_types.specs.declared.task.Task.{Task}
use Rattle.aol_model_types.specs.declared.task.Task.TheVariants as tasks
use Rattle.aol_model_types.specs.Rules.{task_named}
use Rattle.aol_flat.specs.Accept.{IsSound}
use Rattle.aol_flat.specs.Keep.{AreAlike}
use Rattle.aol_flat.proofs.Checked.{task_of}
use Rattle.aol_flat.proofs.Find.{found_name}
use Rattle.aol_flat.proofs.Real.{task_limits}
use Rattle.aol_change.specs.Change.{Changed, IsMapOf, KeepsTasks}
use Rattle.aol_change.specs.Unblocked.{old_numbers}
use Rattle.aol_change.specs.UnblockedParts.{HaveRank}
use Rattle.aol_paving.specs.Pave.{pave, paved_model, paved_from, pave_origin}
use Rattle.aol_paving.proofs.Kept.{is_paving, paved_keeps_tasks}
use Rattle.aol_paving.proofs.Origins.{paved_map, paved_alike}

-- what is paved is the task that is looked up
record IsOf (m next : Model) (name outer block : List ℕ) (t : Repeated) : Type 0 where
  inner : Repeated
  below : task_named m.tasks t.task ≡ Some (tasks.Repeated inner)
  rank : HaveRank t.space outer block
  is : next ≡ paved_model m t inner outer block

is_of : (m next : Model) (name outer block : List ℕ) (t : Repeated) → pave m name outer block ≡ Changed next → task_named m.tasks name ≡ Some (tasks.Repeated t) → IsOf m next name outer block t
is_of m next name outer block t h found =
    let s = is_paving m next name outer block h in
    let both : Some (tasks.Repeated s.task) ≡ Some (tasks.Repeated t) = sym s.found ∙ found in
    let same_task : s.task ≡ t = cc in
    subst (IsOf m next name outer block) same_task (record { inner = s.inner; below = s.below; rank = s.rank; is = s.is })

-- the old numbers are the map, and the models are alike
pub map_told : (m next : Model) (name outer block old_of : List ℕ) (t : Repeated) → IsSound m → IsSound next → pave m name outer block ≡ Changed next → task_named m.tasks name ≡ Some (tasks.Repeated t)
    → old_of ≡ old_numbers m t outer block → IsMapOf m next (paved_from (task_named m.tasks name) m block next) old_of × AreAlike m next old_of
map_told m next name outer block old_of t sound next_sound h found are =
    let s = is_of m next name outer block t h found in
    let paved : Model = paved_model m t s.inner outer block in
    let named : task_named m.tasks t.name ≡ Some (tasks.Repeated t) = found_name m name (tasks.Repeated t) found in
    let types = task_limits m sound (tasks.Repeated t) (task_of m (tasks.Repeated t) t.name sound.shapes named) in
    let new_sound : IsSound paved = subst IsSound s.is next_sound in
    let keeps : KeepsTasks m paved = subst (KeepsTasks m) s.is (paved_keeps_tasks m next name outer block sound h) in
    let map_is = paved_map m t s.inner outer block sound new_sound named s.below types.space.entry s.rank in
    let alike_is = paved_alike m t s.inner outer block sound new_sound named s.below types.space.entry s.rank keeps in (
      subst (λ o. IsMapOf m next (paved_from o m block next) old_of) (sym found)
          (subst (λ n. IsMapOf m n (pave_origin m t block n) old_of) (sym s.is) (subst (IsMapOf m paved (pave_origin m t block paved)) (sym are) map_is)),
      subst (λ n. AreAlike m n old_of) (sym s.is) (subst (AreAlike m paved) (sym are) alike_is),
    )

-- the repetition that is looked up in the list of tasks
pub found_told : (m model : Model) (ts : List Task) (name : List ℕ) (x : Task) (t : Repeated) → ts ≡ model.tasks → model ≡ m → Some x ≡ task_named ts name → x ≡ tasks.Repeated t → task_named m.tasks name ≡ Some (tasks.Repeated t)
found_told m model ts name x t listed is found known = ap (λ us. task_named us name) (sym (listed ∙ ap (λ (y : Model). y.tasks) is)) ∙ (sym found ∙ ap (λ y. Some y) known)
