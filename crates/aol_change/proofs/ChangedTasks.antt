-- A changed model has the old elementary tasks and main ports.
use Rattle.std.proofs.Common.{◌≡◌, ℕ, Bool, true, false, cond, List, [], ◌∷◌, ◌++◌, filter, find, Option, Some, None, option_map, sym, ◌∙◌, ap, refl}
use Rattle.aol_shape.specs.Lists.{same}
use Rattle.aol_model_types.specs.declared.document.Model.{Model}
use Rattle.aol_model_types.specs.declared.task.Task.{Task}
use Rattle.aol_model_types.specs.Rules.{task_name}
use Rattle.aol_flat.specs.Tasks.{is_elementary}
use Rattle.aol_change.specs.Change.{Stepped, Changed, Refused, within_limits, bounded, model_limit, put_before}
use Rattle.aol_shape.specs.declared.limit.LimitName.{LimitName}

-- a step that has a result has this one
pub within_changed : (m next : Model) (limit : Option LimitName) → within_limits m limit ≡ Changed next → next ≡ m
within_changed m next None h = cc
within_changed m next (Some limit) h = cc

-- and has it before the limits of the hierarchy are looked at
pub bounded_changed : (step : Stepped) (next : Model) → bounded step ≡ Changed next → step ≡ Changed next
bounded_changed (Changed m) next h = ap (λ x. Changed x) (sym (within_changed m next (model_limit m) h))
bounded_changed (Refused cause) next h = h

-- the elementary tasks stay where the tasks in place of one have none
pub filter_put : (ts : List Task) (name : List ℕ) (made : List Task) (t changed : Task) → find (λ u. same (task_name u) name) ts ≡ Some t → is_elementary t ≡ false
    → ((rest : List Task) → filter is_elementary (made ++ changed ∷ rest) ≡ filter is_elementary rest)
    → filter is_elementary (put_before ts name made changed) ≡ filter is_elementary ts
filter_put [] name made t changed h plain none = refl
filter_put (x ∷ ts) name made t changed h plain none = go (same (task_name x) name) h (filter_put ts name made t changed)
  where
    go : (b : Bool) → cond b (Some x) (find (λ u. same (task_name u) name) ts) ≡ Some t
        → (find (λ u. same (task_name u) name) ts ≡ Some t → is_elementary t ≡ false
        → ((rest : List Task) → filter is_elementary (made ++ changed ∷ rest) ≡ filter is_elementary rest)
        → filter is_elementary (put_before ts name made changed) ≡ filter is_elementary ts)
        → filter is_elementary (cond b (made ++ changed ∷ ts) (x ∷ put_before ts name made changed)) ≡ cond (is_elementary x) (x ∷ filter is_elementary ts) (filter is_elementary ts)
    go true k rest =
        let e : x ≡ t = cc in
        let f : is_elementary x ≡ false = ap is_elementary e ∙ plain in
        none ts ∙ sym (ap (λ b. cond b (x ∷ filter is_elementary ts) (filter is_elementary ts)) f)
    go false k rest = ap (λ us. cond (is_elementary x) (x ∷ us) us) (rest k plain none)

-- what a task of another name has, as its ports, stays
pub found_put : {X : Type 0} (g : Task → X) (ts : List Task) (name other : List ℕ) (made : List Task) (t changed : Task)
    → find (λ u. same (task_name u) name) ts ≡ Some t → task_name changed ≡ task_name t → g changed ≡ g t
    → ((rest : List Task) → find (λ u. same (task_name u) other) (made ++ rest) ≡ find (λ u. same (task_name u) other) rest)
    → option_map g (find (λ u. same (task_name u) other) (put_before ts name made changed)) ≡ option_map g (find (λ u. same (task_name u) other) ts)
found_put g [] name other made t changed h named alike skips = refl
found_put {X = X} g (x ∷ ts) name other made t changed h named alike skips = go (same (task_name x) name) h (found_put g ts name other made t changed)
  where
    test : Task → Bool
    test u = same (task_name u) other

    go : (b : Bool) → cond b (Some x) (find (λ u. same (task_name u) name) ts) ≡ Some t
        → (find (λ u. same (task_name u) name) ts ≡ Some t → task_name changed ≡ task_name t → g changed ≡ g t
        → ((rest : List Task) → find (λ u. same (task_name u) other) (made ++ rest) ≡ find (λ u. same (task_name u) other) rest)
        → option_map g (find (λ u. same (task_name u) other) (put_before ts name made changed)) ≡ option_map g (find (λ u. same (task_name u) other) ts))
        → option_map g (find (λ u. same (task_name u) other) (cond b (made ++ changed ∷ ts) (x ∷ put_before ts name made changed)))
        ≡ option_map g (cond (same (task_name x) other) (Some x) (find (λ u. same (task_name u) other) ts))
    go true k rest =
        let e : t ≡ x = cc in
        let n : task_name changed ≡ task_name x = named ∙ ap task_name e in
        let a : g changed ≡ g x = alike ∙ ap g e in
        ap (option_map g) (skips (changed ∷ ts))
        ∙ ap (λ name. option_map g (cond (same name other) (Some changed) (find (λ u. same (task_name u) other) ts))) n
        ∙ here (same (task_name x) other) a
      where
        here : (b : Bool) → g changed ≡ g x
            → option_map g (cond b (Some changed) (find (λ u. same (task_name u) other) ts)) ≡ option_map g (cond b (Some x) (find (λ u. same (task_name u) other) ts))
        here true a = ap (λ y. Some y) a
        here false a = refl
    go false k rest = later (same (task_name x) other) (rest k named alike skips)
      where
        later : (b : Bool)
            → option_map g (find (λ u. same (task_name u) other) (put_before ts name made changed)) ≡ option_map g (find (λ u. same (task_name u) other) ts)
            → option_map g (cond b (Some x) (find (λ u. same (task_name u) other) (put_before ts name made changed)))
            ≡ option_map g (cond b (Some x) (find (λ u. same (task_name u) other) ts))
        later true r = refl
        later false r = r
