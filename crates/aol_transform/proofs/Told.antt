-- The maps of steps among those of all steps.
use Rattle.std.proofs.Common.{◌≡◌, sym, subst, ℕ, List, Result, Ok, Err, IfOk}
use Rattle.aol_model_types.specs.declared.document.Model.{Model}
use Rattle.aol_model_types.specs.declared.job.PaveArgs.{PaveArgs}
use Rattle.aol_model_types.specs.declared.job.Step.{Step}
use Rattle.aol_model_types.specs.declared.job.Step.TheVariants as steps
use Rattle.aol_model_types.specs.Rules.{task_named}
use Rattle.aol_flat.specs.Keep.{AreAlike}
use Rattle.aol_flat.specs.Laid.{Laid}
use Rattle.aol_change.specs.Change.{IsMapOf}
use Rattle.aol_change.specs.declared.refused.StepRefused.{StepRefused}
use Rattle.aol_change.specs.declared.remap.Remap.{Remap}
use Rattle.aol_tiling.specs.Tile.{tiled_from}
use Rattle.aol_paving.specs.Pave.{paved_from}
use Rattle.aol_transform.specs.declared.cause.StepCause.{StepCause}
use Rattle.aol_transform.specs.Steps.{IsStepMap}
use Rattle.aol_transform.specs.Told.{IsToldAs}

-- what holds of a result holds of it as it is told
told_ok : (P : Laid × Remap → Type 0) (a : Result (Laid × Remap) StepRefused) (r : Result (Laid × Remap) StepCause) → IsToldAs a r → IfOk a P → IfOk r P
told_ok P (Ok x) (Ok y) t h = subst P (sym t) h
told_ok P (Ok x) (Err e) t h = absurd t
told_ok P (Err e) (Ok y) t h = absurd t
told_ok P (Err e) (Err d) t h = tt

tiled_ok : (m : Model) (task outer block : List ℕ) (a : Result (Laid × Remap) StepRefused) → IfOk a (λ r. AreAlike m r.0.model r.1.old_of)
    → IfOk a (λ r. IsMapOf m r.0.model (tiled_from (task_named m.tasks task) m block r.0.model) r.1.old_of) → IfOk a (λ r. IsStepMap m (steps.Tile task outer block) r.0.model r.1.old_of)
tiled_ok m task outer block (Ok r) alike map = record { map = map; alike = alike }
tiled_ok m task outer block (Err e) alike map = tt

paved_ok : (m : Model) (task : List ℕ) (args : PaveArgs) (a : Result (Laid × Remap) StepRefused) → IfOk a (λ r. AreAlike m r.0.model r.1.old_of)
    → IfOk a (λ r. IsMapOf m r.0.model (paved_from (task_named m.tasks task) m args.block r.0.model) r.1.old_of) → IfOk a (λ r. IsStepMap m (steps.Pave task args) r.0.model r.1.old_of)
paved_ok m task args (Ok r) alike map = record { map = map; alike = alike }
paved_ok m task args (Err e) alike map = tt

-- the map of a tiling
pub tiled_map : (m : Model) (s : Step) (task outer block : List ℕ) (a : Result (Laid × Remap) StepRefused) (r : Result (Laid × Remap) StepCause) → s ≡ steps.Tile task outer block → IsToldAs a r
    → IfOk a (λ r. AreAlike m r.0.model r.1.old_of) → IfOk a (λ r. IsMapOf m r.0.model (tiled_from (task_named m.tasks task) m block r.0.model) r.1.old_of)
    → IfOk r (λ r. IsStepMap m s r.0.model r.1.old_of)
tiled_map m s task outer block a r is told alike map =
    told_ok (λ r. IsStepMap m s r.0.model r.1.old_of) a r told (subst (λ s. IfOk a (λ r. IsStepMap m s r.0.model r.1.old_of)) (sym is) (tiled_ok m task outer block a alike map))

-- the map of a change of paving
pub paved_map : (m : Model) (s : Step) (task : List ℕ) (args : PaveArgs) (a : Result (Laid × Remap) StepRefused) (r : Result (Laid × Remap) StepCause) → s ≡ steps.Pave task args → IsToldAs a r
    → IfOk a (λ r. AreAlike m r.0.model r.1.old_of) → IfOk a (λ r. IsMapOf m r.0.model (paved_from (task_named m.tasks task) m args.block r.0.model) r.1.old_of)
    → IfOk r (λ r. IsStepMap m s r.0.model r.1.old_of)
paved_map m s task args a r is told alike map =
    told_ok (λ r. IsStepMap m s r.0.model r.1.old_of) a r told (subst (λ s. IfOk a (λ r. IsStepMap m s r.0.model r.1.old_of)) (sym is) (paved_ok m task args a alike map))
