-- Tasks by name.
use Rattle.std.proofs.Common.{◌≡◌, Bool, true, false, cond, List, [], ◌∷◌, ℕ, Some, None, Option, find, filter, option_and_then, slice_get, ◌∙◌, ap, refl, subst}
use Rattle.aol_shape.specs.Lists.{same}
use Rattle.aol_tiler.specs.Tiler.{integers}
use Rattle.aol_shape.specs.Vectors.{is_inside}
use Rattle.aol_model_types.specs.declared.document.Model.{Model}
use Rattle.aol_model_types.specs.declared.task.Part.{Part}
use Rattle.aol_model_types.specs.declared.task.Task.{Task}
use Rattle.aol_model_types.specs.declared.task.Task.TheVariants as tasks
use Rattle.aol_model_types.specs.Rules.{task_name, task_named}
use Rattle.aol_flat.specs.Tasks.{is_elementary, elementary_tasks}
use Rattle.aol_flat.specs.Place.{Place, Down, IntoPart, IntoRepetition, task_at, task_below}
use Rattle.aol_flat.proofs.Names.{same-equal}
use Rattle.aol_flat.proofs.Sites.{find-passes}

-- what passes a second test is also found among what passes it
filtered_here : {X : Type 0} (test keep : X → Bool) (x : X) (xs : List X) (y : X) → keep y ≡ true → cond (test x) (Some x) (find test xs) ≡ Some y
    → (find test xs ≡ Some y → find test (filter keep xs) ≡ Some y) → find test (cond (keep x) (x ∷ filter keep xs) (filter keep xs)) ≡ Some y
filtered_here test keep x xs y kept h later = go (test x) refl
  where
    when_passed : (c : Bool) → test x ≡ false → find test xs ≡ Some y → find test (cond c (x ∷ filter keep xs) (filter keep xs)) ≡ Some y
    when_passed true e k = rw e (later k)
    when_passed false e k = later k

    go : (b : Bool) → test x ≡ b → find test (cond (keep x) (x ∷ filter keep xs) (filter keep xs)) ≡ Some y
    go true e =
        let k = rw e at h in
        let f : x ≡ y = cc in
        let g : keep x ≡ true = ap keep f ∙ kept in
        rw g (rw e k)
    go false e = when_passed (keep x) e (rw e at h)

pub find_filtered : {X : Type 0} (test keep : X → Bool) (xs : List X) (y : X) → keep y ≡ true → find test xs ≡ Some y → find test (filter keep xs) ≡ Some y
find_filtered test keep [] y kept h = cc
find_filtered test keep (x ∷ xs) y kept h = filtered_here test keep x xs y kept h (find_filtered test keep xs y kept)

-- the name under which a task is found is its own
pub found_name : (m : Model) (n : List ℕ) (t : Task) → task_named m.tasks n ≡ Some t → task_named m.tasks (task_name t) ≡ Some t
found_name m n t h =
    let passes : same (task_name t) n ≡ true = find-passes (λ u. same (task_name u) n) m.tasks t h in
    let equal : task_name t ≡ n = same-equal (task_name t) n passes in
    ap (task_named m.tasks) equal ∙ h

-- an outcome of two look-ups
pub and_then_some : {X Y : Type 0} (f : X → Option Y) (o : Option X) (y : Y) → option_and_then f o ≡ Some y → (x : X) × (o ≡ Some x) × (f x ≡ Some y)
and_then_some f None y h = cc
and_then_some f (Some x) y h = (x, refl, h)

-- a task to which a step leads is one of the model
pub named_below : (m : Model) (t : Task) (d : Down) (u : Task) → task_below m t d ≡ Some u → (n : List ℕ) × (task_named m.tasks n ≡ Some u)
named_below m (tasks.Elementary e) d u h = cc
named_below m (tasks.Compound c) (IntoPart k) u h =
    let found = and_then_some (λ (p : Part). task_named m.tasks p.task) (slice_get c.parts k) u h in
    (found.0.task, found.2)
named_below m (tasks.Compound c) (IntoRepetition r) u h = cc
named_below m (tasks.Repeated t) (IntoPart k) u h = cc
named_below m (tasks.Repeated t) (IntoRepetition r) u h = go (is_inside t.space (integers r)) refl
  where
    go : (b : Bool) → is_inside t.space (integers r) ≡ b → (n : List ℕ) × (task_named m.tasks n ≡ Some u)
    go true e = (t.task, rw e at h)
    go false e = let k = rw e at h in cc

pub named_at : (m : Model) (place : Place) (t : Task) → task_at m place ≡ Some t → (n : List ℕ) × (task_named m.tasks n ≡ Some t)
named_at m [] t h = (m.main, h)
named_at m (d ∷ up) t h =
    let found = and_then_some (λ u. task_below m u d) (task_at m up) t h in
    named_below m found.0 d t found.2

-- a task at an instance is found under its own name
pub task_at_named : (m : Model) (place : Place) (t : Task) → task_at m place ≡ Some t → task_named m.tasks (task_name t) ≡ Some t
task_at_named m place t h = let n = named_at m place t h in found_name m n.0 t n.1

-- two models with the same elementary tasks have the same one under a name
pub same_elementary : (old new : Model) → elementary_tasks new ≡ elementary_tasks old → (place place' : Place) (t u : Task) → is_elementary t ≡ true → is_elementary u ≡ true
    → task_at old place ≡ Some t → task_at new place' ≡ Some u → task_name t ≡ task_name u → t ≡ u
same_elementary old new equal place place' t u et eu ht hu names =
    let in_old : find (λ x. same (task_name x) (task_name t)) (elementary_tasks old) ≡ Some t =
    find_filtered (λ x. same (task_name x) (task_name t)) is_elementary old.tasks t et (task_at_named old place t ht) in
    let in_new : find (λ x. same (task_name x) (task_name u)) (elementary_tasks new) ≡ Some u =
    find_filtered (λ x. same (task_name x) (task_name u)) is_elementary new.tasks u eu (task_at_named new place' u hu) in
    let P : List ℕ → Type 0 = λ n. find (λ x. same (task_name x) n) (elementary_tasks old) ≡ Some t in
    let Q : List Task → Type 0 = λ ts. find (λ x. same (task_name x) (task_name u)) ts ≡ Some u in
    let a : find (λ x. same (task_name x) (task_name u)) (elementary_tasks old) ≡ Some t = subst P names in_old in
    let b : find (λ x. same (task_name x) (task_name u)) (elementary_tasks old) ≡ Some u = subst Q equal in_new in
    cc
