-- Tasks in the front of a model's list, and after new ones.
use Rattle.std.proofs.Common.{◌≡◌, ℕ, ◌+◌, Bool, true, false, cond, List, [], ◌∷◌, ◌++◌, find, Option, Some, None, is_some, is_none, sym, ◌∙◌, ap, refl, subst}
use Rattle.std.specs.Option.{option_or}
use Rattle.std.specs.List.{position_or_len}
use Rattle.std.proofs.lemmas.List.Folds.{find-append, find_at}
use Rattle.aol_shape.specs.Lists.{same}
use Rattle.aol_model_types.specs.declared.document.Model.{Model}
use Rattle.aol_model_types.specs.declared.place.Key.TheVariants.{KModel, KTasks, KMain, KName}
use Rattle.aol_model_types.specs.declared.place.PlaceStep.{PlaceStep}
use Rattle.aol_model_types.specs.declared.task.Repeated.{Repeated}
use Rattle.aol_model_types.specs.declared.task.Task.{Task}
use Rattle.aol_model_types.specs.declared.task.Task.TheVariants as tasks
use Rattle.aol_model_types.specs.Places.{to_key, to_index}
use Rattle.aol_model_types.specs.Rules.{ShapesAgree, check, each, each_from, task_checks, kind_checks, is_new_task, main_is_task, task_name, task_named}
use Rattle.aol_flat.proofs.Checked.{member_at, of_repeated}
use Rattle.aol_flat.proofs.Different.{Hold, hold-parts}
use Rattle.aol_flat.proofs.Names.{both-true, same-self}
use Rattle.aol_flat.proofs.Once.{there}
use Rattle.aol_change.specs.Change.{is_taken}
use Rattle.aol_change.proofs.ChangedChecks.{each-split}
use Rattle.aol_change.proofs.Checks.{hold-both}
use Rattle.aol_change.proofs.KindChecks.{kind_moved, hold-one}
use Rattle.aol_change.proofs.StillThere.{stays_found}
use Rattle.aol_fusion_laws.specs.Rules.{KeepsRules, IsOld}

-- ---- the front of the list

-- the rules of the tasks in front hold
pub front_holds : (m : Model) (before rest : List Task) → ShapesAgree m → m.tasks ≡ before ++ rest → (at : List PlaceStep) × Hold (each task_checks at before)
front_holds m before rest agree split =
    let at : List PlaceStep = to_key (to_key [] KModel) KTasks in
    let all = hold-parts (each task_checks at m.tasks) (check (to_key (to_key [] KModel) KMain) 23 (main_is_task m) ∷ []) agree in
    let P : List Task → Type 0 = λ ts. Hold (each task_checks at ts) in
    (at, (each-split task_checks at 0 [] before rest (subst P split all.0)).0)

-- a task that is found there, with those before it
pub record StandsIn (before : List Task) (t : Task) : Type 0 where
  pub earlier : List Task
  pub later : List Task
  pub split : before ≡ earlier ++ t ∷ later
  pub rules : KeepsRules earlier t

pub stands_in : (before : List Task) (n : List ℕ) (t : Task) → (at : List PlaceStep) × Hold (each task_checks at before) → task_named before n ≡ Some t → StandsIn before t
stands_in before n t h found =
    let test : Task → Bool = λ u. same (task_name u) n in
    let r = member_at task_checks h.0 before t (position_or_len test before) h.1 (sym (find_at test before) ∙ found) in
    let own = both-true (is_new_task r.before t) _ r.holds in
    record { earlier = r.before; later = r.rest; split = r.split; rules = λ at. kind_moved [] r.before r.before (λ m. stays_found (is_taken [] m) (task_named r.before m)) r.place at t own.1 }

-- what is found in front of some tasks
pub found_left : (xs ys : List Task) (n : List ℕ) (t : Task) → task_named xs n ≡ Some t → task_named (xs ++ ys) n ≡ Some t
found_left xs ys n t h = let test : Task → Bool = λ u. same (task_name u) n in find-append test xs ys ∙ ap (λ o. option_or o (find test ys)) h

pub found_in : (before earlier later : List Task) (t : Task) (n : List ℕ) (u : Task) → before ≡ earlier ++ t ∷ later → task_named earlier n ≡ Some u → task_named before n ≡ Some u
found_in before earlier later t n u split h = ap (λ ts. task_named ts n) split ∙ found_left earlier (t ∷ later) n u h

-- a repetition of the front, with its inner task
pub record OldInner (before : List Task) (t : Repeated) : Type 0 where
  pub inner : Task
  pub found : task_named before t.task ≡ Some inner
  pub old : IsOld t inner

pub old_inner_of : (before : List Task) (n : List ℕ) (t : Repeated) → (at : List PlaceStep) × Hold (each task_checks at before) → task_named before n ≡ Some (tasks.Repeated t) → t.links ≡ [] → OldInner before t
old_inner_of before n t h found plain =
    let s = stands_in before n (tasks.Repeated t) h found in
    let u = there (task_named s.earlier t.task) (of_repeated s.earlier [] t (s.rules [])).inner in
    let here : task_named before t.task ≡ Some u.0 = found_in before s.earlier s.later (tasks.Repeated t) t.task u.0 s.split u.1 in
    let i = stands_in before t.task u.0 h here in
    record { inner = u.0; found = here; old = record { before = s.earlier; found = u.1; rules = s.rules; plain = plain; earlier = i.earlier; inner = i.rules } }

-- ---- one task more

pub more_kept : (ts : List Task) (x : Task) (n : List ℕ) (t : Task) → task_named ts n ≡ Some t → task_named (ts ++ x ∷ []) n ≡ Some t
more_kept ts x n t h = found_left ts (x ∷ []) n t h

none_of : (o : Option Task) → is_some o ≡ false → o ≡ None
none_of None h = refl
none_of (Some u) h = cc

pub more_own : (ts : List Task) (x : Task) → is_some (task_named ts (task_name x)) ≡ false → task_named (ts ++ x ∷ []) (task_name x) ≡ Some x
more_own ts x h =
    let test : Task → Bool = λ u. same (task_name u) (task_name x) in
    find-append test ts (x ∷ []) ∙ (ap (λ o. option_or o (find test (x ∷ []))) (none_of (task_named ts (task_name x)) h) ∙ ap (λ b. cond b (Some x) None) (same-self (task_name x)))

pub more_none : (ts : List Task) (x : Task) (n : List ℕ) → is_some (task_named ts n) ≡ false → same (task_name x) n ≡ false → is_some (task_named (ts ++ x ∷ []) n) ≡ false
more_none ts x n h k =
    let test : Task → Bool = λ u. same (task_name u) n in
    ap is_some (find-append test ts (x ∷ []) ∙ (ap (λ o. option_or o (find test (x ∷ []))) (none_of (task_named ts n) h) ∙ ap (λ b. cond b (Some x) None) k))

there_none : (o : Option Task) → is_some o ≡ false → is_none o ≡ true
there_none None h = refl
there_none (Some x) h = cc

-- its rules, and those of the rest
pub next_holds : (at : List PlaceStep) (k : ℕ) (ts : List Task) (x : Task) (xs : List Task) → is_some (task_named ts (task_name x)) ≡ false → KeepsRules ts x
    → Hold (each_from task_checks at (k + 1) (ts ++ x ∷ []) xs) → Hold (each_from task_checks at k ts (x ∷ xs))
next_holds at k ts x xs new rules rest =
    hold-both (task_checks (to_index at k) ts x) (each_from task_checks at (k + 1) (ts ++ x ∷ []) xs)
    (hold-both (check (to_key (to_index at k) KName) 1 (is_new_task ts x) ∷ []) (kind_checks ts (to_index at k) x)
    (hold-one (to_key (to_index at k) KName) 1 (is_new_task ts x) (there_none (task_named ts (task_name x)) new)) (rules (to_index at k))) rest
