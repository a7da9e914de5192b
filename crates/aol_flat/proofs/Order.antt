-- Where the shapes of a model agree, each task is made of earlier ones.
use Rattle.std.proofs.Common.{◌≡◌, ℕ, zero, suc, ◌+◌, ◌<◌, Bool, true, false, List, [], ◌∷◌, ◌++◌, length, Some, sym, ◌∙◌, ap, refl, arith}
use Rattle.std.specs.List.{IsAmong}
use Rattle.aol_shape.specs.Lists.{same}
use Rattle.aol_model_types.specs.declared.document.Model.{Model}
use Rattle.aol_model_types.specs.declared.place.Key.TheVariants.{KParts}
use Rattle.aol_model_types.specs.declared.task.Part.{Part}
use Rattle.aol_model_types.specs.declared.task.Task.{Task}
use Rattle.aol_model_types.specs.declared.task.Task.TheVariants as tasks
use Rattle.aol_model_types.specs.Places.{to_key}
use Rattle.aol_model_types.specs.Rules.{ShapesAgree, part_checks, is_new_part, is_earlier_task, task_name}
use Rattle.aol_flat.specs.Numbered.{StandOnEarlier, inner_names, number_from}
use Rattle.aol_flat.proofs.Among.{among_map}
use Rattle.aol_flat.proofs.Checked.{IsTaskOf, task_numbered, member, of_compound, of_repeated}
use Rattle.aol_flat.proofs.Names.{both-true}

-- the number of a name that a task in front has
in_front : (from : ℕ) (front rest : List Task) (name : List ℕ) (j : ℕ) → is_earlier_task front name ≡ true → number_from from (front ++ rest) name ≡ Some j → j < from + length front
in_front from [] rest name j earlier h = cc
in_front from (t ∷ ts) rest name j earlier h = go (same (task_name t) name) refl (in_front (from + 1) ts rest name j)
  where
    go : (b : Bool) → same (task_name t) name ≡ b → (is_earlier_task ts name ≡ true → number_from (from + 1) (ts ++ rest) name ≡ Some j → j < (from + 1) + length ts) → j < from + length (t ∷ ts)
    go true e later = let k = rw e at h in let here : from ≡ j = cc in omega arith
    go false e later = omega (arith, later (rw e at earlier) (rw e at h))

-- the name of an inner task is that of an earlier one
earlier_inner : (before : List Task) (t : Task) (name : List ℕ) (m : Model) (r : IsTaskOf m t) → IsAmong (inner_names t) name → is_earlier_task r.before name ≡ true
earlier_inner before (tasks.Elementary e) name m r among = absurd (omega (arith, among.1.0))
earlier_inner before (tasks.Compound c) name m r among =
    let p = among_map (λ (q : Part). q.task) c.parts name among in
    let of_part = member (part_checks r.before) (to_key r.place KParts) c.parts p.0 (of_compound r.before r.place c r.holds).parts p.1 in
    let both = both-true (is_new_part of_part.before p.0) _ of_part.holds in
    ap (is_earlier_task r.before) p.2 ∙ (both-true (is_earlier_task r.before p.0.task) true both.1).0
earlier_inner before (tasks.Repeated t) name m r among =
    ap (is_earlier_task r.before) (only t.task name among) ∙ (of_repeated r.before r.place t r.holds).inner
  where
    only : (x y : List ℕ) → IsAmong (x ∷ []) y → y ≡ x
    only x y (zero, a) = a.1
    only x y (suc i, a) = absurd (omega (arith, a.0))

pub stand_on_earlier : (m : Model) → ShapesAgree m → StandOnEarlier m.tasks
stand_on_earlier m agree k j t name at among named =
    let r = task_numbered m t k agree at in
    let split : number_from 0 (r.0.before ++ t ∷ r.0.rest) name ≡ Some j = ap (λ ts. number_from 0 ts name) (sym r.0.split) ∙ named in
    omega (arith, in_front 0 r.0.before (t ∷ r.0.rest) name j (earlier_inner r.0.before t name m r.0 among) split, r.1)
