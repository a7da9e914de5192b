-- What is known of a step that has a tiled model.
use Rattle.std.proofs.Common.{◌≡◌, ℕ, Bool, true, false, List, [], ◌∷◌, Option, Some, None, if◌then◌else◌, sym, ◌∙◌, ap, subst, refl}
use Rattle.aol_model_types.specs.declared.document.Model.{Model}
use Rattle.aol_model_types.specs.declared.task.Repeated.{Repeated}
use Rattle.aol_model_types.specs.declared.task.Task.{Task}
use Rattle.aol_model_types.specs.declared.task.Task.TheVariants as tasks
use Rattle.aol_model_types.specs.Rules.{task_named}
use Rattle.aol_flat.specs.Accept.{IsSound}
use Rattle.aol_flat.specs.Keep.{AreAlike}
use Rattle.aol_flat.proofs.Checked.{task_of}
use Rattle.aol_flat.proofs.Find.{found_name}
use Rattle.aol_flat.proofs.Real.{task_limits}
use Rattle.aol_change.specs.declared.refused.StepRefused.TheVariants.{HasLinks, Rank}
use Rattle.aol_change.specs.Change.{Changed, Refused, within_limits, has_links, have_rank, IsMapOf, KeepsTasks}
use Rattle.aol_change.specs.Unblocked.{old_numbers}
use Rattle.aol_change.specs.UnblockedParts.{HaveRank}
use Rattle.aol_change.proofs.ChangedTasks.{within_changed, bounded_changed}
use Rattle.aol_tiling.specs.Tile.{tile, tiled_model, tiled_task, tile_limit, tiled_from, tile_origin}
use Rattle.aol_tiling.proofs.Kept.{tiled_keeps_tasks}
use Rattle.aol_tiling.proofs.Old.{ranks}
use Rattle.aol_tiling.proofs.Origins.{tiled_map, tiled_alike}

-- the task is a repetition, the spaces have its rank, and the new model is the tiled one
pub record IsTiling (m next : Model) (name outer block : List ℕ) : Type 0 where
  pub task : Repeated
  pub found : task_named m.tasks name ≡ Some (tasks.Repeated task)
  pub rank : HaveRank task.space outer block
  pub is : next ≡ tiled_model m task outer block

pub is_tiling : (m next : Model) (name outer block : List ℕ) → tile m name outer block ≡ Changed next → IsTiling m next name outer block
is_tiling m next name outer block h = go (task_named m.tasks name) refl (bounded_changed (tiled_task m (task_named m.tasks name) outer block) next h)
  where
    by_rank : (t : Repeated) → task_named m.tasks name ≡ Some (tasks.Repeated t) → (b : Bool) → have_rank t outer block ≡ b
        → (if b then within_limits (tiled_model m t outer block) (tile_limit m t block) else Refused Rank) ≡ Changed next → IsTiling m next name outer block
    by_rank t e true r k =
        let both = ranks t outer block r in
        record { task = t; found = e; rank = record { outer_rank = both.0; block_rank = both.1 }; is = within_changed (tiled_model m t outer block) next (tile_limit m t block) k }
    by_rank t e false r k = cc

    by_links : (t : Repeated) → task_named m.tasks name ≡ Some (tasks.Repeated t) → (b : Bool)
        → (if b then Refused HasLinks else (if have_rank t outer block then within_limits (tiled_model m t outer block) (tile_limit m t block) else Refused Rank)) ≡ Changed next → IsTiling m next name outer block
    by_links t e true k = cc
    by_links t e false k = by_rank t e (have_rank t outer block) refl k

    go : (o : Option Task) → task_named m.tasks name ≡ o → tiled_task m o outer block ≡ Changed next → IsTiling m next name outer block
    go None e k = cc
    go (Some (tasks.Elementary x)) e k = cc
    go (Some (tasks.Compound c)) e k = cc
    go (Some (tasks.Repeated t)) e k = by_links t e (has_links t) k

-- the task of a tiling is the one that is looked up
pub task_told : (m next : Model) (name outer block : List ℕ) (t : Repeated) (s : IsTiling m next name outer block) → task_named m.tasks name ≡ Some (tasks.Repeated t) → s.task ≡ t
task_told m next name outer block t s h =
    let both : Some (tasks.Repeated s.task) ≡ Some (tasks.Repeated t) = sym s.found ∙ h in
    cc

pub rank_told : (m next : Model) (name outer block : List ℕ) (t : Repeated) → tile m name outer block ≡ Changed next → task_named m.tasks name ≡ Some (tasks.Repeated t) → HaveRank t.space outer block
rank_told m next name outer block t h found =
    let s = is_tiling m next name outer block h in
    subst (λ (x : Repeated). HaveRank x.space outer block) (task_told m next name outer block t s found) s.rank

-- the old numbers are the map, and the models are alike
pub map_told : (m next : Model) (name outer block old_of : List ℕ) (t : Repeated) → IsSound m → IsSound next → tile m name outer block ≡ Changed next → task_named m.tasks name ≡ Some (tasks.Repeated t)
    → old_of ≡ old_numbers m t outer block → IsMapOf m next (tiled_from (task_named m.tasks name) m block next) old_of × AreAlike m next old_of
map_told m next name outer block old_of t sound next_sound h found are =
    let s = is_tiling m next name outer block h in
    let is : next ≡ tiled_model m t outer block = s.is ∙ ap (λ x. tiled_model m x outer block) (task_told m next name outer block t s found) in
    let named : task_named m.tasks t.name ≡ Some (tasks.Repeated t) = found_name m name (tasks.Repeated t) found in
    let types = task_limits m sound (tasks.Repeated t) (task_of m (tasks.Repeated t) t.name sound.shapes named) in
    let new_sound : IsSound (tiled_model m t outer block) = subst IsSound is next_sound in
    let keeps : KeepsTasks m (tiled_model m t outer block) = subst (KeepsTasks m) is (tiled_keeps_tasks m next name outer block sound h) in
    let rank = rank_told m next name outer block t h found in
    let map_is = tiled_map m t outer block sound new_sound named types.space.entry rank in
    let alike_is = tiled_alike m t outer block sound new_sound named types.space.entry rank keeps in (
      subst (λ o. IsMapOf m next (tiled_from o m block next) old_of) (sym found)
          (subst (λ n. IsMapOf m n (tile_origin m t block n) old_of) (sym is) (subst (IsMapOf m (tiled_model m t outer block) (tile_origin m t block (tiled_model m t outer block))) (sym are) map_is)),
      subst (λ n. AreAlike m n old_of) (sym is) (subst (AreAlike m (tiled_model m t outer block)) (sym are) alike_is),
    )

-- the repetition that is looked up in the list of tasks
pub found_told : (m model : Model) (ts : List Task) (name : List ℕ) (x : Task) (t : Repeated) → ts ≡ model.tasks → model ≡ m → Some x ≡ task_named ts name → x ≡ tasks.Repeated t → task_named m.tasks name ≡ Some (tasks.Repeated t)
found_told m model ts name x t listed is found known = ap (λ us. task_named us name) (sym (listed ∙ ap (λ (y : Model). y.tasks) is)) ∙ (sym found ∙ ap (λ y. Some y) known)
