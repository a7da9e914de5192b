-- A changed model is as one that was read, where its new tasks are.
use Rattle.std.proofs.Common.{◌≡◌, ◌+◌, ◌^◌, ◌<◌, true, ◌&&◌, List, [], ◌∷◌, ◌++◌, length, Some, sym, ◌∙◌, ap, refl, arith, subst}
use Rattle.std.specs.List.{AllByRecursion, list_all, flat_map}
use Rattle.std.proofs.lemmas.List.{length-append}
use Rattle.std.proofs.lemmas.List.Folds.{list_all-append}
use Rattle.std.proofs.lemmas.List.Concat.{flat_map-cons}
use Rattle.aol_shape.specs.Texts.{is_name}
use Rattle.aol_model_types.specs.declared.document.Model.{Model}
use Rattle.aol_model_types.specs.declared.task.Task.{Task}
use Rattle.aol_model_types.specs.Rules.{task_name, task_named}
use Rattle.aol_model_types.specs.Types.{IsTask, IsReadTask, IsReadModel, HasOutput, names_in}
use Rattle.aol_flat.proofs.Names.{both-true}
use Rattle.aol_flat.proofs.Truth.{both}
use Rattle.aol_change.specs.Change.{changed_model, put_before}
use Rattle.aol_change.proofs.ChangedChecks.{placed}

pub all-both : {X : Type 0} (P : X → Type 0) (xs ys : List X) → AllByRecursion P xs → AllByRecursion P ys → AllByRecursion P (xs ++ ys)
all-both P [] ys h k = k
all-both P (x ∷ xs) ys h k = (h.0, all-both P xs ys h.1 k)

pub all-parts : {X : Type 0} (P : X → Type 0) (xs ys : List X) → AllByRecursion P (xs ++ ys) → AllByRecursion P xs × AllByRecursion P ys
all-parts P [] ys h = (tt, h)
all-parts P (x ∷ xs) ys h = let rest = all-parts P xs ys h.1 in ((h.0, rest.0), rest.1)

pub all-weaker : {X : Type 0} (P Q : X → Type 0) (xs : List X) → ((x : X) → P x → Q x) → AllByRecursion P xs → AllByRecursion Q xs
all-weaker P Q [] f h = tt
all-weaker P Q (x ∷ xs) f h = (f x h.0, all-weaker P Q xs f h.1)

-- what holds of all tasks holds of all of the changed list
all_put : (P : Task → Type 0) (before rest made : List Task) (t changed : Task) → AllByRecursion P (before ++ t ∷ rest) → AllByRecursion P (made ++ changed ∷ []) → AllByRecursion P (before ++ made ++ changed ∷ rest)
all_put P before rest made t changed h k =
    let old = all-parts P before (t ∷ rest) h in
    let new = all-parts P made (changed ∷ []) k in
    all-both P (before ++ made) (changed ∷ rest) (all-both P before made old.0 new.0) (new.1.0, old.1.1)

-- the names of some tasks are names
pub names_by_task : (ts : List Task) → list_all is_name (flat_map names_in ts) ≡ list_all (λ (t : Task). list_all is_name (names_in t)) ts
names_by_task [] = refl
names_by_task (t ∷ ts) =
    ap (list_all is_name) (flat_map-cons names_in t ts)
    ∙ (list_all-append is_name (names_in t) (flat_map names_in ts) ∙ ap (λ b. list_all is_name (names_in t) && b) (names_by_task ts))

all_names : (ts : List Task) → AllByRecursion (λ (t : Task). list_all is_name (names_in t) ≡ true) ts → list_all (λ (t : Task). list_all is_name (names_in t)) ts ≡ true
all_names [] h = refl
all_names (t ∷ ts) h = both (list_all is_name (names_in t)) (list_all (λ (t : Task). list_all is_name (names_in t)) ts) h.0 (all_names ts h.1)

pub each_name : (ts : List Task) → list_all (λ (t : Task). list_all is_name (names_in t)) ts ≡ true → AllByRecursion (λ (t : Task). list_all is_name (names_in t) ≡ true) ts
each_name [] h = tt
each_name (t ∷ ts) h = let parts = both-true (list_all is_name (names_in t)) (list_all (λ (t : Task). list_all is_name (names_in t)) ts) h in (parts.0, each_name ts parts.1)

pub read_changed : (m : Model) (t : Task) (made : List Task) (changed : Task) → task_named m.tasks (task_name t) ≡ Some t → AllByRecursion IsReadTask (made ++ changed ∷ [])
    → length m.tasks + length made < 2 ^ 32 → IsReadModel m → IsReadModel (changed_model m (task_name t) made changed)
read_changed m t made changed found new few read =
    let p = placed m.tasks (task_name t) t made changed found in
    let Named : Task → Type 0 = λ u. list_all is_name (names_in u) ≡ true in
    let split : (P : Task → Type 0) → AllByRecursion P m.tasks → AllByRecursion P (p.before ++ t ∷ p.rest) = λ P h. subst (AllByRecursion P) p.split h in
    let put : (P : Task → Type 0) → AllByRecursion P (p.before ++ made ++ changed ∷ p.rest) → AllByRecursion P (put_before m.tasks (task_name t) made changed) = λ P h. subst (AllByRecursion P) (sym p.put) h in
    record {
      model = record {
        tasks = put IsTask (all_put IsTask p.before p.rest made t changed (split IsTask read.model.tasks) (all-weaker IsReadTask IsTask (made ++ changed ∷ []) (λ u r. r.types) new));
        task_count = omega (arith, few, ap length p.split, ap length p.put, length-append p.before (t ∷ p.rest), length-append (p.before ++ made) (changed ∷ p.rest), length-append p.before made);
      };
      names =
          names_by_task (put_before m.tasks (task_name t) made changed)
          ∙ all_names (put_before m.tasks (task_name t) made changed)
          (put Named (all_put Named p.before p.rest made t changed (split Named (each_name m.tasks (sym (names_by_task m.tasks) ∙ read.names))) (all-weaker IsReadTask Named (made ++ changed ∷ []) (λ u r. r.names) new)));
      outputs = put HasOutput (all_put HasOutput p.before p.rest made t changed (split HasOutput read.outputs) (all-weaker IsReadTask HasOutput (made ++ changed ∷ []) (λ u r. r.output) new));
    }
