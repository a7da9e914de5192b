-- The shapes of a changed model agree, where the rules of the new tasks and of the changed one hold.
use Rattle.std.proofs.Common.{◌≡◌, ℕ, suc, ◌+◌, Bool, true, false, cond, ◌||◌, List, [], ◌∷◌, ◌++◌, map, find, Option, Some, None, is_some, is_none, sym, ◌∙◌, ap, refl, arith, subst}
use Rattle.std.specs.List.{IsAmong}
use Rattle.std.proofs.lemmas.List.{append_assoc, append-nil}
use Rattle.aol_shape.specs.Lists.{same}
use Rattle.aol_model_types.specs.declared.document.Model.{Model}
use Rattle.aol_model_types.specs.declared.place.Key.TheVariants.{KModel, KTasks, KMain, KName}
use Rattle.aol_model_types.specs.declared.place.PlaceStep.{PlaceStep}
use Rattle.aol_model_types.specs.declared.task.Task.{Task}
use Rattle.aol_model_types.specs.Places.{to_key, to_index}
use Rattle.aol_model_types.specs.Rules.{ShapesAgree, Check, check, each, each_from, task_checks, kind_checks, is_new_task, is_earlier_task, main_is_task, task_name, task_named}
use Rattle.aol_flat.proofs.Inside.{among_left, among_right}
use Rattle.aol_flat.proofs.Different.{Hold, hold-parts}
use Rattle.aol_flat.proofs.Names.{both-true, same-equal}
use Rattle.aol_flat.proofs.Once.{found_among, there}
use Rattle.aol_flat.proofs.Sites.{find-passes}
use Rattle.aol_change.specs.Change.{put_before, changed_model, is_taken}
use Rattle.aol_change.specs.Step.{IsChange}
use Rattle.aol_change.proofs.Checks.{hold-both}
use Rattle.aol_change.proofs.KindChecks.{kind_moved, hold-one}
use Rattle.aol_change.proofs.StillThere.{StayThere, stay_more, stay_changed}

-- ---- where a task stands

-- the old list by the task that is found, and the list with the changed one in its place
pub record IsPlaced (ts : List Task) (name : List ℕ) (t : Task) (made : List Task) (changed : Task) : Type 0 where
  pub before : List Task
  pub rest : List Task
  pub split : ts ≡ before ++ t ∷ rest
  pub put : put_before ts name made changed ≡ before ++ made ++ changed ∷ rest

pub placed : (ts : List Task) (name : List ℕ) (t : Task) (made : List Task) (changed : Task) → task_named ts name ≡ Some t → IsPlaced ts name t made changed
placed [] name t made changed h = cc
placed (x ∷ ts) name t made changed h = go (same (task_name x) name) refl h (placed ts name t made changed)
  where
    go : (b : Bool) → same (task_name x) name ≡ b → cond b (Some x) (task_named ts name) ≡ Some t → (task_named ts name ≡ Some t → IsPlaced ts name t made changed) → IsPlaced (x ∷ ts) name t made changed
    go true e k rest =
        let is : x ≡ t = cc in
        record { before = []; rest = ts; split = ap (λ y. y ∷ ts) is; put = ap (λ b. cond b (made ++ changed ∷ ts) (x ∷ put_before ts name made changed)) e }
    go false e k rest =
        let r = rest k in
        record {
          before = x ∷ r.before;
          rest = r.rest;
          split = ap (λ ys. x ∷ ys) r.split;
          put = ap (λ b. cond b (made ++ changed ∷ ts) (x ∷ put_before ts name made changed)) e ∙ ap (λ ys. x ∷ ys) r.put;
        }

-- ---- checks of two lists one after the other

-- the checks of a list after some members, from one number on
pub record HoldAfter {A : Type 0} (f : List PlaceStep → List A → A → List Check) (at : List PlaceStep) (earlier xs : List A) : Type 0 where
  pub number : ℕ
  pub holds : Hold (each_from f at number earlier xs)

pub each-split : {A : Type 0} (f : List PlaceStep → List A → A → List Check) (at : List PlaceStep) (k : ℕ) (earlier xs ys : List A)
    → Hold (each_from f at k earlier (xs ++ ys)) → Hold (each_from f at k earlier xs) × HoldAfter f at (earlier ++ xs) ys
each-split {A = A} f at k earlier [] ys h =
    let P : List A → Type 0 = λ before. Hold (each_from f at k before ys) in
    (refl, record { number = k; holds = subst P (sym (append-nil earlier)) h })
each-split {A = A} f at k earlier (x ∷ xs) ys h =
    let parts = hold-parts (f (to_index at k) earlier x) (each_from f at (k + 1) (earlier ++ x ∷ []) (xs ++ ys)) h in
    let later = each-split f at (k + 1) (earlier ++ x ∷ []) xs ys parts.1 in
    let P : List A → Type 0 = λ before. Hold (each_from f at later.1.number before ys) in (
      hold-both (f (to_index at k) earlier x) (each_from f at (k + 1) (earlier ++ x ∷ []) xs) parts.0 later.0,
      record { number = later.1.number; holds = subst P (append_assoc earlier (x ∷ []) xs) later.1.holds },
    )

pub each-join : {A : Type 0} (f : List PlaceStep → List A → A → List Check) (at : List PlaceStep) (k : ℕ) (earlier xs ys : List A)
    → Hold (each_from f at k earlier xs) → ((j : ℕ) → Hold (each_from f at j (earlier ++ xs) ys)) → Hold (each_from f at k earlier (xs ++ ys))
each-join {A = A} f at k earlier [] ys h later =
    let P : List A → Type 0 = λ before. Hold (each_from f at k before ys) in
    subst P (append-nil earlier) (later k)
each-join {A = A} f at k earlier (x ∷ xs) ys h later =
    let parts = hold-parts (f (to_index at k) earlier x) (each_from f at (k + 1) (earlier ++ x ∷ []) xs) h in
    hold-both (f (to_index at k) earlier x) (each_from f at (k + 1) (earlier ++ x ∷ []) (xs ++ ys)) parts.0
    (each-join f at (k + 1) (earlier ++ x ∷ []) xs ys parts.1
    (λ j. let P : List A → Type 0 = λ before. Hold (each_from f at j before ys) in subst P (sym (append_assoc earlier (x ∷ []) xs)) (later j)))

-- ---- the tasks after the changed one

none_there : {X : Type 0} (o : Option X) → is_none o ≡ true → is_some o ≡ false
none_there None h = refl
none_there (Some x) h = cc

there_none : {X : Type 0} (o : Option X) → is_some o ≡ false → is_none o ≡ true
there_none None h = refl
there_none (Some x) h = cc

-- the rules of later tasks hold where the earlier ones stay there
rest_holds : (new : List (List ℕ)) (ts us xs : List Task) (at at' : List PlaceStep) (k k' : ℕ) → ((x : Task) → IsAmong xs x → is_taken new (task_name x) ≡ false)
    → StayThere new ts us → Hold (each_from task_checks at k ts xs) → Hold (each_from task_checks at' k' us xs)
rest_holds new ts us [] at at' k k' apart stay h = refl
rest_holds new ts us (x ∷ xs) at at' k k' apart stay h =
    let parts = hold-parts (task_checks (to_index at k) ts x) (each_from task_checks at (k + 1) (ts ++ x ∷ []) xs) h in
    let own = both-true (is_new_task ts x) _ parts.0 in
    let here : is_taken new (task_name x) ≡ false = apart x (0, (omega arith, refl)) in
    let unused : is_new_task us x ≡ true = there_none (task_named us (task_name x)) ((stay (task_name x)).none here (none_there (task_named ts (task_name x)) own.0)) in
    hold-both (task_checks (to_index at' k') us x) (each_from task_checks at' (k' + 1) (us ++ x ∷ []) xs)
    (hold-both (check (to_key (to_index at' k') KName) 1 (is_new_task us x) ∷ []) (kind_checks us (to_index at' k') x)
    (hold-one (to_key (to_index at' k') KName) 1 (is_new_task us x) unused) (kind_moved new ts us stay (to_index at k) (to_index at' k') x own.1))
    (rest_holds new (ts ++ x ∷ []) (us ++ x ∷ []) xs at at' (k + 1) (k' + 1) (λ y a. apart y (suc a.0, (omega (arith, a.1.0), a.1.1))) (stay_more new ts us x here stay) parts.1)

-- ---- the main task

main_stays : (m : Model) (name : List ℕ) (made : List Task) (changed : Task) → (t : Task) → task_named m.tasks name ≡ Some t → task_name changed ≡ task_name t
    → is_taken (map task_name made) m.main ≡ false → main_is_task m ≡ true → main_is_task (changed_model m name made changed) ≡ true
main_stays m name made changed t found named apart h = in_list m.tasks found h
  where
    flag : Option Task → Bool
    flag o = is_some o

    in_list : (ts : List Task) → task_named ts name ≡ Some t → is_some (task_named ts m.main) ≡ true → is_some (task_named (put_before ts name made changed) m.main) ≡ true
    in_list [] f k = cc
    in_list (x ∷ ts) f k = go (same (task_name x) name) refl f (in_list ts) k
      where
        past : (made us : List Task) → is_taken (map task_name made) m.main ≡ false → find (λ (u : Task). same (task_name u) m.main) (made ++ us) ≡ find (λ (u : Task). same (task_name u) m.main) us
        past [] us a = refl
        past (u ∷ made) us a = here (same (task_name u) m.main) a (past made us)
          where
            here : (b : Bool) → (b || is_taken (map task_name made) m.main) ≡ false
                → (is_taken (map task_name made) m.main ≡ false → find (λ (u : Task). same (task_name u) m.main) (made ++ us) ≡ find (λ (u : Task). same (task_name u) m.main) us)
                → cond b (Some u) (find (λ (u : Task). same (task_name u) m.main) (made ++ us)) ≡ find (λ (u : Task). same (task_name u) m.main) us
            here true a rest = cc
            here false a rest = rest a

        head_same : (b : Bool) (x y : Task) (o : Option Task) → is_some (cond b (Some x) o) ≡ true → is_some (cond b (Some y) o) ≡ true
        head_same true x y o k = refl
        head_same false x y o k = k

        head_kept : (b : Bool) (o p : Option Task) → (is_some o ≡ true → is_some p ≡ true) → is_some (cond b (Some x) o) ≡ true → is_some (cond b (Some x) p) ≡ true
        head_kept true o p rest k = refl
        head_kept false o p rest k = rest k

        go : (b : Bool) → same (task_name x) name ≡ b → cond b (Some x) (task_named ts name) ≡ Some t
            → (task_named ts name ≡ Some t → is_some (task_named ts m.main) ≡ true → is_some (task_named (put_before ts name made changed) m.main) ≡ true)
            → is_some (task_named (x ∷ ts) m.main) ≡ true
            → is_some (task_named (cond (same (task_name x) name) (made ++ changed ∷ ts) (x ∷ put_before ts name made changed)) m.main) ≡ true
        go true e f rest k =
            let is : x ≡ t = cc in
            let names : task_name changed ≡ task_name x = named ∙ ap task_name (sym is) in
            ap (λ b. is_some (task_named (cond b (made ++ changed ∷ ts) (x ∷ put_before ts name made changed)) m.main)) e
            ∙ (ap is_some (past made (changed ∷ ts) apart)
            ∙ head_same (same (task_name changed) m.main) x changed (task_named ts m.main) (ap (λ n. is_some (cond (same n m.main) (Some x) (task_named ts m.main))) names ∙ k))
        go false e f rest k =
            ap (λ b. is_some (task_named (cond b (made ++ changed ∷ ts) (x ∷ put_before ts name made changed)) m.main)) e
            ∙ head_kept (same (task_name x) m.main) (task_named ts m.main) (task_named (put_before ts name made changed) m.main) (rest f) k

-- ---- the changed model

-- the rules of the new tasks and of the changed one hold in its place
abbrev pub HoldInPlace : Model → Task → List Task → Task → Type 0
HoldInPlace m t made changed =
    (before rest : List Task) (at at' : List PlaceStep) (k : ℕ) → m.tasks ≡ before ++ t ∷ rest → is_new_task before t ≡ true → Hold (kind_checks before at t)
    → Hold (each_from task_checks at' k before (made ++ changed ∷ []))

pub shapes_changed : (m : Model) (t : Task) (made : List Task) (changed : Task) → task_named m.tasks (task_name t) ≡ Some t → IsChange m t made changed → HoldInPlace m t made changed
    → ShapesAgree m → ShapesAgree (changed_model m (task_name t) made changed)
shapes_changed m t made changed found change inside agree =
    let at : List PlaceStep = to_key (to_key [] KModel) KTasks in
    let main : List PlaceStep = to_key (to_key [] KModel) KMain in
    let all = hold-parts (each task_checks at m.tasks) (check main 23 (main_is_task m) ∷ []) agree in
    let p = placed m.tasks (task_name t) t made changed found in
    let P : List Task → Type 0 = λ ts. Hold (each task_checks at ts) in
    let old = each-split task_checks at 0 [] p.before (t ∷ p.rest) (subst P p.split all.0) in
    let here = hold-parts (task_checks (to_index at old.1.number) p.before t) (each_from task_checks at (old.1.number + 1) (p.before ++ t ∷ []) p.rest) old.1.holds in
    let own = both-true (is_new_task p.before t) _ here.0 in
    let up_to : (name : List ℕ) → is_earlier_task (p.before ++ t ∷ []) name ≡ true → is_taken (map task_name made) name ≡ false = earlier_apart p.before p.rest p.split in
    let stay : StayThere (map task_name made) (p.before ++ t ∷ []) (p.before ++ made ++ changed ∷ []) = stay_changed p.before made t changed change.named change.ins change.outs up_to in
    let later : (j : ℕ) → Hold (each_from task_checks at j (p.before ++ (made ++ changed ∷ [])) p.rest) = λ j.
    (let Q : List Task → Type 0 = λ ts. Hold (each_from task_checks at j ts p.rest) in
    subst Q (append_assoc p.before made (changed ∷ []))
    (rest_holds (map task_name made) (p.before ++ t ∷ []) (p.before ++ made ++ changed ∷ []) p.rest at at (old.1.number + 1) j (rest_apart p.before p.rest p.split) stay here.1)) in
    let middle : (j : ℕ) → Hold (each_from task_checks at j p.before ((made ++ changed ∷ []) ++ p.rest)) = λ j.
    each-join task_checks at j p.before (made ++ changed ∷ []) p.rest (inside p.before p.rest (to_index at old.1.number) at j p.split own.0 own.1) later in
    let new_list : put_before m.tasks (task_name t) made changed ≡ p.before ++ ((made ++ changed ∷ []) ++ p.rest) =
    p.put ∙ (append_assoc p.before made (changed ∷ p.rest) ∙ ap (λ ys. p.before ++ ys) (sym (append_assoc made (changed ∷ []) p.rest))) in
    hold-both (each task_checks at (put_before m.tasks (task_name t) made changed)) (check main 23 (main_is_task (changed_model m (task_name t) made changed)) ∷ [])
    (subst P (sym new_list) (each-join task_checks at 0 [] p.before ((made ++ changed ∷ []) ++ p.rest) old.0 middle))
    (hold-one main 23 (main_is_task (changed_model m (task_name t) made changed))
    (main_stays m (task_name t) made changed t found change.named (main_apart (both-true (main_is_task m) true all.1).0) (both-true (main_is_task m) true all.1).0))
  where
    among_found : (ts : List Task) (name : List ℕ) → ((u : Task) → IsAmong ts u → is_taken (map task_name made) (task_name u) ≡ false) → is_some (task_named ts name) ≡ true → is_taken (map task_name made) name ≡ false
    among_found ts name apart h =
        let u = there (task_named ts name) h in
        let test : Task → Bool = λ v. same (task_name v) name in
        ap (is_taken (map task_name made)) (sym (same-equal (task_name u.0) name (find-passes test ts u.0 u.1))) ∙ apart u.0 (found_among test ts u.0 u.1)

    in_all : (before rest : List Task) → m.tasks ≡ before ++ t ∷ rest → (u : Task) → IsAmong (before ++ t ∷ rest) u → is_taken (map task_name made) (task_name u) ≡ false
    in_all before rest split u a = let P : List Task → Type 0 = λ ts. IsAmong ts u in change.apart u (subst P (sym split) a)

    earlier_apart : (before rest : List Task) → m.tasks ≡ before ++ t ∷ rest → (name : List ℕ) → is_earlier_task (before ++ t ∷ []) name ≡ true → is_taken (map task_name made) name ≡ false
    earlier_apart before rest split name h =
        among_found (before ++ t ∷ []) name
        (λ u a. let P : List Task → Type 0 = λ ts. IsAmong ts u in in_all before rest split u (subst P (append_assoc before (t ∷ []) rest) (among_left (before ++ t ∷ []) rest u a))) h

    rest_apart : (before rest : List Task) → m.tasks ≡ before ++ t ∷ rest → (u : Task) → IsAmong rest u → is_taken (map task_name made) (task_name u) ≡ false
    rest_apart before rest split u a = in_all before rest split u (among_right before (t ∷ rest) u (suc a.0, (omega (arith, a.1.0), a.1.1)))

    main_apart : main_is_task m ≡ true → is_taken (map task_name made) m.main ≡ false
    main_apart h = among_found m.tasks m.main change.apart h
