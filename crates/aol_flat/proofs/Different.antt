-- Where the shapes of a model agree, the ports of its main task have different names.
use Rattle.std.proofs.Common.{◌≡◌, ℕ, zero, suc, ◌+◌, Bool, true, false, cond, List, [], ◌∷◌, ◌++◌, map, Some, is_none, find, slice_get, option_map, sym, ◌∙◌, ap, subst, refl}
use Rattle.std.specs.List.{list_all}
use Rattle.std.proofs.lemmas.List.{append-nil, append_assoc, map-append}
use Rattle.std.proofs.lemmas.List.Folds.{list_all-append}
use Rattle.std.proofs.lemmas.Simd.{map-map}
use Rattle.std.proofs.lemmas.Option.{none-some}
use Rattle.aol_shape.specs.Lists.{same}
use Rattle.aol_expr_tree.specs.declared.port.Port.{Port}
use Rattle.aol_model_types.specs.declared.place.PlaceStep.{PlaceStep}
use Rattle.aol_model_types.specs.declared.task.Elementary.{Elementary}
use Rattle.aol_model_types.specs.declared.task.OutPort.{OutPort}
use Rattle.aol_model_types.specs.declared.task.Task.{Task}
use Rattle.aol_model_types.specs.declared.task.Task.TheVariants as tasks
use Rattle.aol_model_types.specs.declared.place.Key.TheVariants.{KModel, KTasks, KMain, KIn, KOut}
use Rattle.aol_model_types.specs.Places.{to_key, to_index}
use Rattle.aol_model_types.specs.declared.document.Model.{Model}
use Rattle.aol_model_types.specs.Rules.{ShapesAgree, Check, check, each, each_from, task_checks, elementary_checks, port_checks, output_checks, is_new_port, is_new_task, task_name, main_is_task}
use Rattle.aol_flat.specs.Tasks.{main_task}
use Rattle.aol_flat.specs.ElementaryMain.{AreDifferent, port_names, MainPortsDiffer}
use Rattle.aol_flat.proofs.Names.{same-self, both-true, slice_get-left}

-- all these checks hold
abbrev pub Hold : List Check → Type 0
Hold cs = list_all (λ (c : Check). c.holds) cs ≡ true

pub hold-parts : (cs ds : List Check) → Hold (cs ++ ds) → Hold cs × Hold ds
hold-parts cs ds h =
    both-true (list_all (λ (c : Check). c.holds) cs) (list_all (λ (c : Check). c.holds) ds) (sym (list_all-append (λ (c : Check). c.holds) cs ds) ∙ h)

-- each port is new after the earlier ones
abbrev AreNew : List Port → List Port → Type 0
AreNew earlier [] = Unit {0}
AreNew earlier (p ∷ ps) = (is_new_port earlier p ≡ true) × AreNew (earlier ++ p ∷ []) ps

inputs-new : (at : List PlaceStep) (k : ℕ) (earlier ps : List Port) → Hold (each_from (port_checks []) at k earlier ps) → AreNew earlier ps
inputs-new at k earlier [] h = tt
inputs-new at k earlier (p ∷ ps) h =
    let parts = hold-parts (port_checks [] (to_index at k) earlier p) (each_from (port_checks []) at (k + 1) (earlier ++ p ∷ []) ps) h in
    ((both-true (is_new_port earlier p) true parts.0).0, inputs-new at (k + 1) (earlier ++ p ∷ []) ps parts.1)

outputs-new : (e : Elementary) (at : List PlaceStep) (k : ℕ) (earlier os : List OutPort) → Hold (each_from (output_checks e) at k earlier os)
    → AreNew (e.ins ++ map (λ (o : OutPort). o.port) earlier) (map (λ (o : OutPort). o.port) os)
outputs-new e at k earlier [] h = tt
outputs-new e at k earlier (o ∷ os) h =
    let parts = hold-parts (output_checks e (to_index at k) earlier o) (each_from (output_checks e) at (k + 1) (earlier ++ o ∷ []) os) h in
    let here : List Port = map (λ (q : OutPort). q.port) earlier in
    let one_more : e.ins ++ map (λ (q : OutPort). q.port) (earlier ++ o ∷ []) ≡ e.ins ++ here ++ o.port ∷ [] =
    ap (λ ps. e.ins ++ ps) (map-append (λ (q : OutPort). q.port) earlier (o ∷ [])) ∙ sym (append_assoc e.ins here (o.port ∷ [])) in
    let P : List Port → Type 0 = λ before. AreNew before (map (λ (q : OutPort). q.port) os) in
    ((both-true (is_new_port (e.ins ++ here) o.port) _ parts.0).0, subst P one_more (outputs-new e at (k + 1) (earlier ++ o ∷ []) os parts.1))

-- new ports after new ports are new
both-new : (earlier xs ys : List Port) → AreNew earlier xs → AreNew (earlier ++ xs) ys → AreNew earlier (xs ++ ys)
both-new earlier [] ys h k = let P : List Port → Type 0 = λ before. AreNew before ys in subst P (append-nil earlier) k
both-new earlier (x ∷ xs) ys h k =
    let P : List Port → Type 0 = λ before. AreNew before ys in
    (h.0, both-new (earlier ++ x ∷ []) xs ys h.1 (subst P (sym (append_assoc earlier (x ∷ []) xs)) k))

-- a port whose name an earlier one has isn't new
pub old_port : (earlier : List Port) (i : ℕ) (q p : Port) → slice_get earlier i ≡ Some q → q.name ≡ p.name → is_new_port earlier p ≡ true → ⊥
old_port [] i q p at e h = none-some q at
old_port (x ∷ earlier) zero q p at e h =
    let first : x ≡ q = cc in
    let found : same x.name p.name ≡ true = ap (λ (y : Port). same y.name p.name) first ∙ ap (λ name. same name p.name) e ∙ same-self p.name in
    let gone : false ≡ true = ap (λ b. is_none (option_map (λ (y : Port). y.shape) (cond b (Some x) (find (λ (y : Port). same y.name p.name) earlier)))) (sym found) ∙ h in
    cc
old_port (x ∷ earlier) (suc i) q p at e h = by_test (same x.name p.name) (old_port earlier i q p at e) h
  where
    by_test : (b : Bool) → (is_new_port earlier p ≡ true → ⊥)
        → is_none (option_map (λ (y : Port). y.shape) (cond b (Some x) (find (λ (y : Port). same y.name p.name) earlier))) ≡ true → ⊥
    by_test true rest g = cc
    by_test false rest g = rest g

later_new : (earlier ps : List Port) (i k : ℕ) (q p : Port) → AreNew earlier ps → slice_get earlier i ≡ Some q → slice_get ps k ≡ Some p → q.name ≡ p.name → ⊥
later_new earlier [] i k q p h a b e = none-some p b
later_new earlier (x ∷ ps) i zero q p h a b e =
    let first : x ≡ p = cc in
    old_port earlier i q x a (e ∙ ap (λ (y : Port). y.name) (sym first)) h.0
later_new earlier (x ∷ ps) i (suc k) q p h a b e = later_new (earlier ++ x ∷ []) ps i k q p h.1 (slice_get-left earlier (x ∷ []) i q a) b e

-- the last of an empty list is nothing, and of one more element it is there
at_end : {X : Type 0} (xs : List X) (x : X) → (i : ℕ) × (slice_get (xs ++ x ∷ []) i ≡ Some x)
at_end [] x = (0, refl)
at_end (y ∷ xs) x = let rest = at_end xs x in (suc rest.0, rest.1)

-- the name that stands at a place is that of the port there
name_at : (ps : List Port) (k : ℕ) (name : List ℕ) → slice_get (map (λ (p : Port). p.name) ps) k ≡ Some name → (p : Port) × (slice_get ps k ≡ Some p) × (p.name ≡ name)
name_at [] k name at = absurd (none-some name at)
name_at (p ∷ ps) zero name at = (p, refl, let h : p.name ≡ name = cc in h)
name_at (p ∷ ps) (suc k) name at = name_at ps k name at

-- new ports have different names
new_different : (earlier ps : List Port) → AreNew earlier ps → AreDifferent (map (λ (p : Port). p.name) ps)
new_different earlier [] h j k name a b = absurd (none-some name a)
new_different earlier (p ∷ ps) h zero zero name a b = refl
new_different earlier (p ∷ ps) h zero (suc k) name a b =
    let other = name_at ps k name b in
    let last = at_end earlier p in
    let first : p.name ≡ name = cc in
    absurd (later_new (earlier ++ p ∷ []) ps last.0 k p other.0 h.1 last.1 other.1 (first ∙ sym other.2))
new_different earlier (p ∷ ps) h (suc j) zero name a b =
    let other = name_at ps j name a in
    let last = at_end earlier p in
    let first : p.name ≡ name = cc in
    absurd (later_new (earlier ++ p ∷ []) ps last.0 j p other.0 h.1 last.1 other.1 (first ∙ sym other.2))
new_different earlier (p ∷ ps) h (suc j) (suc k) name a b = ap (λ i. suc i) (new_different (earlier ++ p ∷ []) ps h.1 j k name a b)

-- the names of the ports
names_are : (e : Elementary) → map (λ (p : Port). p.name) (e.ins ++ map (λ (o : OutPort). o.port) e.outs) ≡ port_names e
names_are e =
    map-append (λ (p : Port). p.name) e.ins (map (λ (o : OutPort). o.port) e.outs)
    ∙ ap (λ names. map (λ (p : Port). p.name) e.ins ++ names) (map-map (λ (p : Port). p.name) (λ (o : OutPort). o.port) e.outs)

-- the checks of an elementary task
pub elementary-different : (at : List PlaceStep) (e : Elementary) → Hold (elementary_checks at e) → AreDifferent (port_names e)
elementary-different at e h =
    let parts = hold-parts (each (port_checks []) (to_key at KIn) e.ins) (each (output_checks e) (to_key at KOut) e.outs) h in
    let outs : List Port = map (λ (o : OutPort). o.port) e.outs in
    let P : List Port → Type 0 = λ before. AreNew before outs in
    let new : AreNew [] (e.ins ++ outs) =
    both-new [] e.ins outs (inputs-new (to_key at KIn) 0 [] e.ins parts.0) (subst P (append-nil e.ins) (outputs-new e (to_key at KOut) 0 [] e.outs parts.1)) in
    subst AreDifferent (names_are e) (new_different [] (e.ins ++ outs) new)

-- an elementary task's own checks hold somewhere
abbrev pub IsChecked : Elementary → Type 0
IsChecked e = (at : List PlaceStep) × Hold (elementary_checks at e)

-- the checks of the task that is found
found-checked : (at : List PlaceStep) (k : ℕ) (earlier ts : List Task) (name : List ℕ) (e : Elementary) → Hold (each_from task_checks at k earlier ts)
    → find (λ t. same (task_name t) name) ts ≡ Some (tasks.Elementary e) → IsChecked e
found-checked at k earlier [] name e h f = absurd (none-some (tasks.Elementary e) f)
found-checked at k earlier (t ∷ ts) name e h f = by_test (same (task_name t) name) f (found-checked at (k + 1) (earlier ++ t ∷ []) ts name e parts.1)
  where
    parts : Hold (task_checks (to_index at k) earlier t) × Hold (each_from task_checks at (k + 1) (earlier ++ t ∷ []) ts)
    parts = hold-parts (task_checks (to_index at k) earlier t) (each_from task_checks at (k + 1) (earlier ++ t ∷ []) ts) h

    by_test : (b : Bool) → cond b (Some t) (find (λ u. same (task_name u) name) ts) ≡ Some (tasks.Elementary e)
        → (find (λ u. same (task_name u) name) ts ≡ Some (tasks.Elementary e) → IsChecked e) → IsChecked e
    by_test true g rest =
        let this : t ≡ tasks.Elementary e = cc in
        let P : Task → Type 0 = λ u. Hold (task_checks (to_index at k) earlier u) in
        (to_index at k, (both-true (is_new_task earlier (tasks.Elementary e)) _ (subst P this parts.0)).1)
    by_test false g rest = rest g

-- the checks of an elementary main task hold, where the shapes agree
pub main_checked : (m : Model) (e : Elementary) → ShapesAgree m → main_task m ≡ Some (tasks.Elementary e) → IsChecked e
main_checked m e agree main =
    found-checked (to_key (to_key [] KModel) KTasks) 0 [] m.tasks m.main e
    (hold-parts (each task_checks (to_key (to_key [] KModel) KTasks) m.tasks) (check (to_key (to_key [] KModel) KMain) 23 (main_is_task m) ∷ []) agree).0 main

pub main_ports_differ : MainPortsDiffer
main_ports_differ m e agree main = let checked = main_checked m e agree main in elementary-different checked.0 e checked.1
