-- A changed model keeps the tasks of a sound one, where the new tasks have new names.
use Rattle.std.proofs.Common.{◌≡◌, ℕ, ◌+◌, ◌^◌, ◌<◌, Bool, true, false, cond, ◌||◌, List, [], ◌∷◌, ◌++◌, length, map, filter, find, is_some, Option, Some, unwrap_or, sym, ◌∙◌, ap, refl, arith}
use Rattle.std.specs.List.{list_any}
use Rattle.std.proofs.lemmas.List.{length-append, length-map}
use Rattle.std.proofs.lemmas.List.Folds.{list_any-append}
use Rattle.aol_shape.specs.Lists.{same}
use Rattle.aol_expr_tree.specs.declared.port.Port.{Port}
use Rattle.aol_model_types.specs.declared.document.Model.{Model}
use Rattle.aol_model_types.specs.declared.place.Key.TheVariants.{KModel, KTasks, KMain}
use Rattle.aol_model_types.specs.declared.task.Task.{Task}
use Rattle.aol_model_types.specs.Places.{to_key}
use Rattle.aol_model_types.specs.Rules.{ShapesAgree, check, each, task_checks, main_is_task, task_name, task_named, inputs_of, outputs_of}
use Rattle.aol_flat.specs.Tasks.{is_elementary}
use Rattle.aol_flat.specs.Accept.{IsSound}
use Rattle.aol_change.specs.Change.{changed_model, is_taken, taken_names, new_name, KeepsTasks}
use Rattle.aol_flat.proofs.Names.{same-equal, both-true}
use Rattle.aol_flat.proofs.Different.{hold-parts}
use Rattle.aol_flat.proofs.Find.{found_name}
use Rattle.aol_change.proofs.NewNames.{is_free}
use Rattle.aol_change.proofs.ChangedTasks.{filter_put, found_put}

-- the main task is there
pub main_there : (m : Model) → ShapesAgree m → is_some (task_named m.tasks m.main) ≡ true
main_there m agree =
    (both-true (main_is_task m) _ (hold-parts (each task_checks (to_key (to_key [] KModel) KTasks) m.tasks) (check (to_key (to_key [] KModel) KMain) 23 (main_is_task m) ∷ []) agree).1).0

-- the name of a task that is there is taken
there_taken : (ts : List Task) (name : List ℕ) → is_some (task_named ts name) ≡ true → is_taken (map task_name ts) name ≡ true
there_taken [] name h = cc
there_taken (t ∷ ts) name h = go (same (task_name t) name) h (there_taken ts name)
  where
    go : (b : Bool) → is_some (cond b (Some t) (task_named ts name)) ≡ true → (is_some (task_named ts name) ≡ true → is_taken (map task_name ts) name ≡ true)
        → (b || is_taken (map task_name ts) name) ≡ true
    go true h rest = refl
    go false h rest = rest h

-- a new name is none of the tasks' and of the others
pub new_is_free : (m : Model) (others : List (List ℕ)) (name : List ℕ) → IsSound m → length others < 2 ^ 32 → is_taken (taken_names m others) (new_name m others name) ≡ false
new_is_free m others name sound few =
    let count : length (taken_names m others) ≡ length m.tasks + length others =
    length-append (map task_name m.tasks) others ∙ ap (λ n. n + length others) (length-map m.tasks task_name) in
    let tasks_few : length m.tasks < 2 ^ 32 = sound.read.model.task_count in
    is_free (taken_names m others) name (omega (arith, count, tasks_few, few))

-- so it isn't that of the main task
pub apart_from_main : (m : Model) (others : List (List ℕ)) (name : List ℕ) → IsSound m → length others < 2 ^ 32 → same (new_name m others name) m.main ≡ false
apart_from_main m others name sound few = go (same (new_name m others name) m.main) refl
  where
    main_taken : is_taken (taken_names m others) m.main ≡ true
    main_taken =
        list_any-append (λ n. same n m.main) (map task_name m.tasks) others
        ∙ ap (λ b. b || is_taken others m.main) (there_taken m.tasks m.main (main_there m sound.shapes))

    go : (b : Bool) → same (new_name m others name) m.main ≡ b → same (new_name m others name) m.main ≡ false
    go false e = e
    go true e =
        let equal : new_name m others name ≡ m.main = same-equal (new_name m others name) m.main e in
        let clash : true ≡ false = sym main_taken ∙ (ap (is_taken (taken_names m others)) (sym equal) ∙ new_is_free m others name sound few) in
        cc

-- a task is looked up after those of other names
pub skipped : (made rest : List Task) (name : List ℕ) → list_any (λ u. same (task_name u) name) made ≡ false
    → find (λ u. same (task_name u) name) (made ++ rest) ≡ find (λ u. same (task_name u) name) rest
skipped [] rest name h = refl
skipped (t ∷ made) rest name h = go (same (task_name t) name) h (skipped made rest name)
  where
    go : (b : Bool) → (b || list_any (λ u. same (task_name u) name) made) ≡ false
        → (list_any (λ u. same (task_name u) name) made ≡ false → find (λ u. same (task_name u) name) (made ++ rest) ≡ find (λ u. same (task_name u) name) rest)
        → cond b (Some t) (find (λ u. same (task_name u) name) (made ++ rest)) ≡ find (λ u. same (task_name u) name) rest
    go true h k = cc
    go false h k = k h

-- a task that doesn't compute gives way to one with its name and ports, and tasks that don't compute and aren't the main one stand before it
pub keeps_tasks : (m : Model) (name : List ℕ) (made : List Task) (t changed : Task) → task_named m.tasks name ≡ Some t → is_elementary t ≡ false
    → ((rest : List Task) → filter is_elementary (made ++ changed ∷ rest) ≡ filter is_elementary rest)
    → task_name changed ≡ task_name t → inputs_of changed ≡ inputs_of t → outputs_of changed ≡ outputs_of t
    → list_any (λ u. same (task_name u) m.main) made ≡ false
    → KeepsTasks m (changed_model m (task_name t) made changed)
keeps_tasks m name made t changed found plain none named ins outs apart =
    let own : task_named m.tasks (task_name t) ≡ Some t = found_name m name t found in
    record {
      elementary = filter_put m.tasks (task_name t) made t changed own plain none;
      ins = ap (λ (o : Option (List Port)). unwrap_or o []) (found_put inputs_of m.tasks (task_name t) m.main made t changed own named ins (λ rest. skipped made rest m.main apart));
      outs = ap (λ (o : Option (List Port)). unwrap_or o []) (found_put outputs_of m.tasks (task_name t) m.main made t changed own named outs (λ rest. skipped made rest m.main apart));
    }
