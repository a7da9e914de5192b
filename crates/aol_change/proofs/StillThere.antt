-- A list of tasks in which the tasks of another are still there, with their ports, among new ones.
use Rattle.std.proofs.Common.{◌≡◌, ℕ, Bool, true, false, cond, ◌||◌, List, [], ◌∷◌, ◌++◌, map, find, Option, Some, None, is_some, sym, ◌∙◌, ap, refl, subst}
use Rattle.std.specs.Option.{option_or}
use Rattle.std.proofs.lemmas.List.Folds.{find-append}
use Rattle.aol_shape.specs.Lists.{same}
use Rattle.aol_model_types.specs.declared.task.Task.{Task}
use Rattle.aol_model_types.specs.Rules.{task_name, task_named, inputs_of, outputs_of, is_earlier_task}
use Rattle.aol_flat.proofs.Names.{same-equal}
use Rattle.aol_change.specs.Change.{is_taken}
use Rattle.aol_change.specs.Blocks.{inputs_in, outputs_in}

-- what is found first is still there, with its ports, and nothing else is but tasks of the new names
pub record StaysFound (new : Bool) (old now : Option Task) : Type 0 where
  pub there : is_some old ≡ true → is_some now ≡ true
  pub ins : is_some old ≡ true → inputs_in now ≡ inputs_in old
  pub outs : is_some old ≡ true → outputs_in now ≡ outputs_in old
  pub none : new ≡ false → is_some old ≡ false → is_some now ≡ false

-- so it is for each name
abbrev pub StayThere : List (List ℕ) → List Task → List Task → Type 0
StayThere new ts us = (name : List ℕ) → StaysFound (is_taken new name) (task_named ts name) (task_named us name)

pub stays_found : (new : Bool) (o : Option Task) → StaysFound new o o
stays_found new o = record { there = λ h. h; ins = λ h. refl; outs = λ h. refl; none = λ h k. k }

-- a later task, which isn't new
stays_more : (new : Bool) (old now later : Option Task) → StaysFound new old now → (is_some later ≡ true → new ≡ false) → StaysFound new (option_or old later) (option_or now later)
stays_more new (Some t) (Some u) later h known = record { there = λ k. refl; ins = h.ins; outs = h.outs; none = λ k l. let e : true ≡ false = l in cc }
stays_more new (Some t) None later h known = let e : false ≡ true = h.there refl in absurd (cc)
stays_more new None None later h known = stays_found new later
stays_more new None (Some u) None h known =
    record {
      there = λ k. refl;
      ins = λ k. let e : false ≡ true = k in absurd (cc);
      outs = λ k. let e : false ≡ true = k in absurd (cc);
      none = λ k l. let e : true ≡ false = h.none k refl in absurd (cc);
    }
stays_more new None (Some u) (Some v) h known = let e : true ≡ false = h.none (known refl) refl in absurd (cc)

-- one task more at the end of both
pub stay_more : (new : List (List ℕ)) (ts us : List Task) (t : Task) → is_taken new (task_name t) ≡ false → StayThere new ts us → StayThere new (ts ++ t ∷ []) (us ++ t ∷ [])
stay_more new ts us t apart stay name =
    let test : Task → Bool = λ u. same (task_name u) name in
    let P : Option Task → Option Task → Type 0 = λ a b. StaysFound (is_taken new name) a b in
    let both : StaysFound (is_taken new name) (option_or (find test ts) (find test (t ∷ []))) (option_or (find test us) (find test (t ∷ []))) =
    stays_more (is_taken new name) (find test ts) (find test us) (find test (t ∷ [])) (stay name) (own (same (task_name t) name) refl) in
    subst (λ a. P a (find test (us ++ t ∷ []))) (sym (find-append test ts (t ∷ [])))
    (subst (P (option_or (find test ts) (find test (t ∷ [])))) (sym (find-append test us (t ∷ []))) both)
  where
    own : (b : Bool) → same (task_name t) name ≡ b → is_some (cond b (Some t) None) ≡ true → is_taken new name ≡ false
    own true e h = ap (is_taken new) (sym (same-equal (task_name t) name e)) ∙ apart
    own false e h = let f : false ≡ true = h in absurd (cc)

-- a changed task in place of one, after others that are new
stays_changed : (new : Bool) (front made : Option Task) (t changed : Task) (b : Bool) → inputs_of changed ≡ inputs_of t → outputs_of changed ≡ outputs_of t
    → (new ≡ false → is_some made ≡ false) → (is_some (option_or front (cond b (Some t) None)) ≡ true → is_some made ≡ false)
    → StaysFound new (option_or front (cond b (Some t) None)) (option_or front (option_or made (cond b (Some changed) None)))
stays_changed new (Some u) made t changed b ins outs old apart = stays_found new (Some u)
stays_changed new None None t changed true ins outs old apart =
    record { there = λ h. refl; ins = λ h. ins; outs = λ h. outs; none = λ h k. let e : true ≡ false = k in absurd (cc) }
stays_changed new None None t changed false ins outs old apart = stays_found new None
stays_changed new None (Some u) t changed true ins outs old apart = let e : true ≡ false = apart refl in absurd (cc)
stays_changed new None (Some u) t changed false ins outs old apart =
    record {
      there = λ h. refl;
      ins = λ h. let e : false ≡ true = h in absurd (cc);
      outs = λ h. let e : false ≡ true = h in absurd (cc);
      none = λ h k. old h;
    }

-- none of the tasks has a name that isn't among their names
pub not_among : (made : List Task) (name : List ℕ) → is_taken (map task_name made) name ≡ false → is_some (task_named made name) ≡ false
not_among [] name h = refl
not_among (t ∷ made) name h = go (same (task_name t) name) h (not_among made name)
  where
    go : (b : Bool) → (b || is_taken (map task_name made) name) ≡ false → (is_taken (map task_name made) name ≡ false → is_some (task_named made name) ≡ false)
        → is_some (cond b (Some t) (task_named made name)) ≡ false
    go true k rest = cc
    go false k rest = rest k

-- the tasks up to a changed one, and the new ones before it
pub stay_changed : (before made : List Task) (t changed : Task) → task_name changed ≡ task_name t → inputs_of changed ≡ inputs_of t → outputs_of changed ≡ outputs_of t
    → ((name : List ℕ) → is_earlier_task (before ++ t ∷ []) name ≡ true → is_taken (map task_name made) name ≡ false)
    → StayThere (map task_name made) (before ++ t ∷ []) (before ++ made ++ changed ∷ [])
stay_changed before made t changed named ins outs apart name =
    let new : Bool = is_taken (map task_name made) name in
    let test : Task → Bool = λ u. same (task_name u) name in
    let P : Option Task → Option Task → Type 0 = λ a b. StaysFound new a b in
    let left : find test (before ++ t ∷ []) ≡ option_or (find test before) (cond (same (task_name t) name) (Some t) None) = find-append test before (t ∷ []) in
    let last : find test (changed ∷ []) ≡ cond (same (task_name t) name) (Some changed) None = ap (λ n. cond (same n name) (Some changed) None) named in
    let right : find test (before ++ made ++ changed ∷ []) ≡ option_or (find test before) (option_or (find test made) (cond (same (task_name t) name) (Some changed) None)) =
    regroup before made changed test
    ∙ ap (λ o. option_or (find test before) (option_or (find test made) o)) last in
    let core : StaysFound new (option_or (find test before) (cond (same (task_name t) name) (Some t) None)) (option_or (find test before) (option_or (find test made) (cond (same (task_name t) name) (Some changed) None))) =
    stays_changed new (find test before) (find test made) t changed (same (task_name t) name) ins outs (not_among made name)
    (λ h. not_among made name (apart name (ap is_some left ∙ h))) in
    subst (λ a. P a (find test (before ++ made ++ changed ∷ []))) (sym left)
    (subst (P (option_or (find test before) (cond (same (task_name t) name) (Some t) None))) (sym right) core)
  where
    regroup : (before made : List Task) (changed : Task) (test : Task → Bool) → find test (before ++ made ++ changed ∷ []) ≡ option_or (find test before) (option_or (find test made) (find test (changed ∷ [])))
    regroup before made changed test =
        find-append test (before ++ made) (changed ∷ [])
        ∙ (ap (λ o. option_or o (find test (changed ∷ []))) (find-append test before made) ∙ regrouped (find test before) (find test made) (find test (changed ∷ [])))
      where
        regrouped : (a b c : Option Task) → option_or (option_or a b) c ≡ option_or a (option_or b c)
        regrouped None b c = refl
        regrouped (Some x) b c = refl
