-- A paved model keeps the tasks.
use Rattle.std.proofs.Common.{◌≡◌, ℕ, ◌^◌, ◌<◌, Bool, true, false, ◌||◌, List, [], ◌∷◌, Option, Some, None, if◌then◌else◌, sym, ◌∙◌, ap, subst, refl, arith}
use Rattle.aol_shape.specs.Lists.{same}
use Rattle.aol_model_types.specs.declared.document.Model.{Model}
use Rattle.aol_model_types.specs.declared.task.Repeated.{Repeated}
use Rattle.aol_model_types.specs.declared.task.Task.{Task}
use Rattle.aol_model_types.specs.declared.task.Task.TheVariants as tasks
use Rattle.aol_model_types.specs.Rules.{task_named}
use Rattle.aol_flat.specs.Accept.{IsSound}
use Rattle.aol_change.specs.declared.refused.StepRefused.TheVariants.{HasLinks, Rank}
use Rattle.aol_change.specs.Change.{Changed, Refused, KeepsTasks, bounded, within_limits, new_name, has_links, have_rank}
use Rattle.aol_change.specs.UnblockedParts.{HaveRank}
use Rattle.aol_change.proofs.ChangedTasks.{within_changed, bounded_changed}
use Rattle.aol_change.proofs.KeptTasks.{apart_from_main, keeps_tasks}
use Rattle.aol_paving.specs.Pave.{pave, paved_model, paved_task, paved_levels, pave_limit, paved_inner, paved_outer, inner_name, PavedKeepsTasks}
use Rattle.aol_paving.proofs.Sound.{no_links, ranks}

-- the task is a repetition of repetitions without links, the spaces have its rank, and the new model is the paved one
pub record IsPaving (m next : Model) (name outer block : List ℕ) : Type 0 where
  pub task : Repeated
  pub inner : Repeated
  pub found : task_named m.tasks name ≡ Some (tasks.Repeated task)
  pub below : task_named m.tasks task.task ≡ Some (tasks.Repeated inner)
  pub plain : task.links ≡ []
  pub inner_plain : inner.links ≡ []
  pub rank : HaveRank task.space outer block
  pub is : next ≡ paved_model m task inner outer block

-- neither of both has links
pub neither_links : (t u : Repeated) → (has_links t || has_links u) ≡ false → (t.links ≡ []) × (u.links ≡ [])
neither_links t u h =
    let parts = neither (has_links t) (has_links u) h in
    (no_links t parts.0, no_links u parts.1)
  where
    neither : (a b : Bool) → (a || b) ≡ false → (a ≡ false) × (b ≡ false)
    neither true b h = cc
    neither false b h = (refl, h)

pub is_paving : (m next : Model) (name outer block : List ℕ) → pave m name outer block ≡ Changed next → IsPaving m next name outer block
is_paving m next name outer block h = go (task_named m.tasks name) refl (bounded_changed (paved_task m (task_named m.tasks name) outer block) next h)
  where
    by_rank : (t u : Repeated) → task_named m.tasks name ≡ Some (tasks.Repeated t) → task_named m.tasks t.task ≡ Some (tasks.Repeated u) → (has_links t || has_links u) ≡ false → (b : Bool) → have_rank t outer block ≡ b
        → (if b then within_limits (paved_model m t u outer block) (pave_limit m t u block) else Refused Rank) ≡ Changed next → IsPaving m next name outer block
    by_rank t u e f l true r k =
        let both = ranks t outer block r in
        let plain = neither_links t u l in
        record {
          task = t;
          inner = u;
          found = e;
          below = f;
          plain = plain.0;
          inner_plain = plain.1;
          rank = record { outer_rank = both.0; block_rank = both.1 };
          is = within_changed (paved_model m t u outer block) next (pave_limit m t u block) k;
        }
    by_rank t u e f l false r k = cc

    by_links : (t u : Repeated) → task_named m.tasks name ≡ Some (tasks.Repeated t) → task_named m.tasks t.task ≡ Some (tasks.Repeated u) → (b : Bool) → (has_links t || has_links u) ≡ b
        → (if b then Refused HasLinks else (if have_rank t outer block then within_limits (paved_model m t u outer block) (pave_limit m t u block) else Refused Rank)) ≡ Changed next → IsPaving m next name outer block
    by_links t u e f true l k = cc
    by_links t u e f false l k = by_rank t u e f l (have_rank t outer block) refl k

    by_levels : (t : Repeated) → task_named m.tasks name ≡ Some (tasks.Repeated t) → (o : Option Task) → task_named m.tasks t.task ≡ o → paved_levels m t o outer block ≡ Changed next → IsPaving m next name outer block
    by_levels t e None f k = cc
    by_levels t e (Some (tasks.Elementary x)) f k = cc
    by_levels t e (Some (tasks.Compound c)) f k = cc
    by_levels t e (Some (tasks.Repeated u)) f k = by_links t u e f (has_links t || has_links u) refl k

    go : (o : Option Task) → task_named m.tasks name ≡ o → paved_task m o outer block ≡ Changed next → IsPaving m next name outer block
    go None e k = cc
    go (Some (tasks.Elementary x)) e k = cc
    go (Some (tasks.Compound c)) e k = cc
    go (Some (tasks.Repeated t)) e k = by_levels t e (task_named m.tasks t.task) refl k

one_apart : (m : Model) (name : List ℕ) → IsSound m → (same (new_name m [] name) m.main || false) ≡ false
one_apart m name sound = let few : 0 < 2 ^ 32 = omega arith in ap (λ b. b || false) (apart_from_main m [] name sound few)

pub paved_keeps_tasks : PavedKeepsTasks
paved_keeps_tasks m next name outer block sound h =
    let p = is_paving m next name outer block h in
    let t : Repeated = p.task in
    let u : Repeated = p.inner in
    subst (KeepsTasks m) (sym p.is)
    (keeps_tasks m name (tasks.Repeated (paved_inner m t u block (inner_name m t)) ∷ []) (tasks.Repeated t)
    (tasks.Repeated (paved_outer m t u outer block (inner_name m t))) p.found refl (λ rest. refl) refl refl refl (one_apart m t.name sound))

-- so does the model that the code lays out
pub laid_keeps : (m model next laid : Model) (name outer block : List ℕ) → model ≡ m → IsSound m → paved_task model (task_named model.tasks name) outer block ≡ Changed next → laid ≡ next
    → bounded (Changed next) ≡ Changed next → KeepsTasks m laid
laid_keeps m model next laid name outer block same sound step is fits =
    paved_keeps_tasks m laid name outer block sound
    (ap bounded (ap (λ x. paved_task x (task_named x.tasks name) outer block) (sym same) ∙ step) ∙ (fits ∙ ap (λ x. Changed x) (sym is)))
