-- The paved model of a sound one is sound.
use Rattle.std.proofs.Common.{◌≡◌, ℕ, zero, suc, ◌+◌, ◌^◌, ◌<◌, Bool, true, false, cond, not, ◌||◌, ◌==◌, List, [], ◌∷◌, ◌++◌, length, map, Option, Some, None, is_some, is_none, sym, ◌∙◌, ap, refl, arith, subst}
use Rattle.std.specs.Option.{option_or}
use Rattle.std.specs.List.{IsAmong, AllByRecursion}
use Rattle.std.proofs.lemmas.Bool.{eqb-true}
use Rattle.std.proofs.lemmas.List.{length-append, length-map, append-nil}
use Rattle.std.proofs.lemmas.List.Folds.{find-append}
use Rattle.aol_shape.specs.declared.limit.LimitName.{LimitName}
use Rattle.aol_shape.specs.Lists.{same}
use Rattle.aol_shape.specs.Shape.{IsShape, IsEntry}
use Rattle.aol_shape.specs.Texts.{is_name}
use Rattle.aol_link.specs.declared.link.Interlink.{Interlink}
use Rattle.aol_model_types.specs.declared.document.Model.{Model}
use Rattle.aol_model_types.specs.declared.place.Key.TheVariants.{KName}
use Rattle.aol_model_types.specs.declared.task.Repeated.{Repeated}
use Rattle.aol_model_types.specs.declared.task.Task.{Task}
use Rattle.aol_model_types.specs.declared.task.Task.TheVariants as tasks
use Rattle.aol_model_types.specs.Places.{to_key, to_index}
use Rattle.aol_model_types.specs.Rules.{check, each_from, task_checks, kind_checks, task_name, task_named, inputs_named, outputs_named, is_new_task, is_earlier_task}
use Rattle.aol_model_types.specs.Types.{IsReadTask}
use Rattle.aol_flat.specs.Accept.{IsSound}
use Rattle.aol_flat.proofs.Among.{map_among}
use Rattle.aol_flat.proofs.Checked.{of_repeated, task_of}
use Rattle.aol_flat.proofs.Different.{Hold}
use Rattle.aol_flat.proofs.Names.{both-true, same-self, same-equal}
use Rattle.aol_flat.proofs.Once.{found_among}
use Rattle.aol_change.specs.Blocks.{inputs_in, outputs_in}
use Rattle.aol_change.specs.Change.{Changed, within_limits, is_taken, taken_names, name_limit, joined_limit, has_links, have_rank}
use Rattle.aol_change.specs.Step.{IsChange}
use Rattle.aol_change.proofs.ChangedChecks.{shapes_changed, HoldInPlace}
use Rattle.aol_change.proofs.ChangedRead.{read_changed, all-both}
use Rattle.aol_change.proofs.Checks.{hold-both}
use Rattle.aol_change.proofs.KeptTasks.{new_is_free}
use Rattle.aol_change.proofs.KindChecks.{hold-one, to_repeated}
use Rattle.aol_change.proofs.Room.{joined_fits, neither_limit}
use Rattle.aol_change.proofs.StillThere.{not_among}
use Rattle.aol_paving.specs.Crossings.{crossings, input_crossings, output_crossings}
use Rattle.aol_paving.specs.Pave.{inner_task, outer_task, inner_name, paved_inner, paved_outer, paved_model, pave_limit, tasks_limit, inner_limit, outer_limit}
use Rattle.aol_paving.proofs.Both.{inner_holds}
use Rattle.aol_paving.proofs.NewOuter.{outer_holds}
use Rattle.aol_paving.proofs.NewNames.{numbered_is_name, free_number_le}
use Rattle.aol_paving.proofs.NewRead.{inner_read, outer_read}
use Rattle.aol_paving.proofs.ReadPorts.{task_read, own_name}
use Rattle.aol_paving.proofs.Stack.{IsStack, stack}

-- ---- new names

-- a name that isn't taken is no task's
not_taken : (names : List (List ℕ)) (new name : List ℕ) → is_taken names new ≡ false → IsAmong names name → same new name ≡ false
not_taken [] new name h a = absurd (omega (arith, a.1.0))
not_taken (n ∷ names) new name h a = go (same n new) refl h a (not_taken names new name)
  where
    go : (b : Bool) → same n new ≡ b → (b || is_taken names new) ≡ false → IsAmong (n ∷ names) name → (is_taken names new ≡ false → IsAmong names name → same new name ≡ false) → same new name ≡ false
    go true e k b rest = cc
    go false e k (zero, b) rest = other (same new name) refl
      where
        other : (c : Bool) → same new name ≡ c → same new name ≡ false
        other false f = f
        other true f =
            let equal : new ≡ n = same-equal new name f ∙ b.1 in
            let clash : true ≡ false = sym (same-self n) ∙ (ap (same n) (sym equal) ∙ e) in
            absurd (cc)
    go false e k (suc i, b) rest = rest k (i, (omega (arith, b.0), b.1))

front_none : (a b : Option Task) → is_some (option_or a b) ≡ false → is_some a ≡ false
front_none None b h = refl
front_none (Some x) b h = h

none_there : (o : Option Task) → is_none o ≡ true → is_some o ≡ false
none_there None h = refl
none_there (Some x) h = cc

there_none : (o : Option Task) → is_some o ≡ false → is_none o ≡ true
there_none None h = refl
there_none (Some x) h = cc

-- ---- what the tests of the step say

pub no_links : (t : Repeated) → has_links t ≡ false → t.links ≡ []
no_links t h = go t.links refl (eqb-true (length t.links) 0 (holds (length t.links == 0) h))
  where
    holds : (b : Bool) → not b ≡ false → b ≡ true
    holds true k = refl
    holds false k = cc

    go : (ls : List Interlink) → t.links ≡ ls → length t.links ≡ 0 → t.links ≡ []
    go [] e k = e
    go (l ∷ ls) e k = absurd (omega (arith, ap length e, k))

pub ranks : (t : Repeated) (outer block : List ℕ) → have_rank t outer block ≡ true → (length outer ≡ length t.space) × (length block ≡ length t.space)
ranks t outer block h =
    let parts = both-true (length outer == length t.space) (length block == length t.space) h in
    (eqb-true (length outer) (length t.space) parts.0, eqb-true (length block) (length t.space) parts.1)

-- ---- the paved model

module _ (m : Model) (t u : Repeated) (outer block : List ℕ) (sound : IsSound m) (found : task_named m.tasks t.name ≡ Some (tasks.Repeated t)) (below : task_named m.tasks t.task ≡ Some (tasks.Repeated u)) (plain : t.links ≡ [])
    (inner_plain : u.links ≡ []) (rank : have_rank t outer block ≡ true) (outer_is : IsShape outer) (block_is : IsShape block) (within : pave_limit m t u block ≡ None) (few : length m.tasks + 1 < 2 ^ 32) where
  abbrev name : List ℕ
  name = inner_name m t

  abbrev space : List ℕ
  space = block ++ u.space

  abbrev one : Task
  one = tasks.Repeated (paved_inner m t u block name)

  abbrev all : Task
  all = tasks.Repeated (paved_outer m t u outer block name)

  free : is_taken (taken_names m []) name ≡ false
  free = let none : 0 < 2 ^ 32 = omega arith in new_is_free m [] t.name sound none

  free_names : is_taken (map task_name m.tasks) name ≡ false
  free_names = ap (λ ns. is_taken ns name) (sym (append-nil (map task_name m.tasks))) ∙ free

  no_task : is_some (task_named m.tasks name) ≡ false
  no_task = not_among m.tasks name free_names

  -- no part passes a limit
  record NoLimits : Type 0 where
    named : name_limit name ≡ None
    joined : joined_limit block u.space ≡ None
    inner : inner_limit space (input_crossings m t u) (output_crossings m t u) ≡ None
    ins : outer_limit block (input_crossings m t u) ≡ None
    outs : outer_limit block (output_crossings m t u) ≡ None

  limits : NoLimits
  limits =
      let a = neither_limit (name_limit name) (tasks_limit block u.space (input_crossings m t u) (output_crossings m t u)) within in
      let b = neither_limit (joined_limit block u.space) _ a.1 in
      let c = neither_limit (inner_limit space (input_crossings m t u) (output_crossings m t u)) _ b.1 in
      let d = neither_limit (outer_limit block (input_crossings m t u)) (outer_limit block (output_crossings m t u)) c.1 in
      record { named = a.0; joined = b.0; inner = c.0; ins = d.0; outs = d.1 }

  change : IsChange m (tasks.Repeated t) (one ∷ []) all
  change = record { named = refl; ins = refl; outs = refl; apart = λ v a. ap (λ b. b || false) (not_taken (map task_name m.tasks) name (task_name v) free_names (map_among task_name m.tasks v a)) }

  own_apart : same name t.name ≡ false
  own_apart = and_left (same name t.name) (change.apart (tasks.Repeated t) (found_among (λ v. same (task_name v) t.name) m.tasks (tasks.Repeated t) found))
    where
      and_left : (b : Bool) → (b || false) ≡ false → b ≡ false
      and_left true h = h
      and_left false h = refl

  -- both new tasks by what the earlier tasks say
  abbrev made_of : Option Task → Task
  made_of o = tasks.Repeated (inner_task u (crossings t u (inputs_in o)) (crossings t u (outputs_in o)) space name)

  abbrev all_of : Option Task → Task
  all_of o = tasks.Repeated (outer_task t (crossings t u (inputs_in o) ++ crossings t u (outputs_in o)) outer block name)

  same_innermost : (before : List Task) (s : IsStack m before t u) → task_named m.tasks u.task ≡ task_named before u.task
  same_innermost before s = s.innermost_in ∙ sym s.innermost

  -- the rules of both hold where the old one stood
  in_place : HoldInPlace m (tasks.Repeated t) (one ∷ []) all
  in_place before rest at at' k split new checks =
      let s = stack m before rest at t u sound.shapes split checks below plain inner_plain in
      let holds = of_repeated before at t checks in
      let o : Option Task = task_named before u.task in
      let fresh : is_earlier_task before name ≡ false =
      front_none (task_named before name) (task_named (tasks.Repeated t ∷ rest) name)
      (ap is_some (sym (find-append (λ v. same (task_name v) name) before (tasks.Repeated t ∷ rest))) ∙ (ap (λ ts. is_some (task_named ts name)) (sym split) ∙ no_task)) in
      let by : Repeated = inner_task u (crossings t u (inputs_in o)) (crossings t u (outputs_in o)) space name in
      let r = ranks t outer block rank in
      let first : Hold (task_checks (to_index at' k) before (tasks.Repeated by)) =
      hold-both (check (to_key (to_index at' k) KName) 1 (is_new_task before (tasks.Repeated by)) ∷ []) (kind_checks before (to_index at' k) (tasks.Repeated by))
      (hold-one (to_key (to_index at' k) KName) 1 (is_new_task before (tasks.Repeated by)) (there_none (task_named before name) fresh))
      (to_repeated before (to_index at' k) by (inner_holds before t u s.top s.low s.once s.apart space name (to_index at' k) (ap is_some s.innermost))) in
      let old_name : is_new_task (before ++ tasks.Repeated by ∷ []) (all_of o) ≡ true =
      there_none (task_named (before ++ tasks.Repeated by ∷ []) t.name)
      (ap is_some (find-append (λ v. same (task_name v) t.name) before (tasks.Repeated by ∷ []))
      ∙ (ap (λ b. is_some (option_or (task_named before t.name) (cond b (Some (tasks.Repeated by)) None))) own_apart ∙ both_none (task_named before t.name) (none_there (task_named before t.name) new))) in
      let second : Hold (task_checks (to_index at' (k + 1)) (before ++ tasks.Repeated by ∷ []) (all_of o)) =
      hold-both (check (to_key (to_index at' (k + 1)) KName) 1 (is_new_task (before ++ tasks.Repeated by ∷ []) (all_of o)) ∷ []) (kind_checks (before ++ tasks.Repeated by ∷ []) (to_index at' (k + 1)) (all_of o))
      (hold-one (to_key (to_index at' (k + 1)) KName) 1 (is_new_task (before ++ tasks.Repeated by ∷ []) (all_of o)) old_name)
      (to_repeated (before ++ tasks.Repeated by ∷ []) (to_index at' (k + 1)) (outer_task t (crossings t u (inputs_in o) ++ crossings t u (outputs_in o)) outer block name)
      (outer_holds before t u s.top s.low s.once s.apart at holds outer block name fresh r.0 r.1 (to_index at' (k + 1)))) in
      let Q : Option Task → Type 0 = λ o. Hold (each_from task_checks at' k before (made_of o ∷ all_of o ∷ [])) in
      subst Q (sym (same_innermost before s))
      (hold-both (task_checks (to_index at' k) before (tasks.Repeated by)) (each_from task_checks at' (k + 1) (before ++ tasks.Repeated by ∷ []) (all_of o ∷ [])) first
      (hold-both (task_checks (to_index at' (k + 1)) (before ++ tasks.Repeated by ∷ []) (all_of o)) [] second refl))
    where
      both_none : (o : Option Task) → is_some o ≡ false → is_some (option_or o None) ≡ false
      both_none None h = refl
      both_none (Some x) h = h

  space_is : IsShape space
  space_is =
      let inner = task_read m t.task (tasks.Repeated u) sound.read below in
      let shape : IsShape u.space = inner.types.space in
      let fits = joined_fits block u.space limits.joined in
      record { rank = omega (arith, fits.0, length-append block u.space); entry = all-both IsEntry block u.space block_is.entry shape.entry; points = fits.1 }

  -- both are as ones that were read
  both_read : AllByRecursion IsReadTask (one ∷ all ∷ [])
  both_read =
      let r = task_of m (tasks.Repeated t) t.name sound.shapes found in
      let s = stack m r.before r.rest r.place t u sound.shapes r.split r.holds below plain inner_plain in
      let old = task_read m t.name (tasks.Repeated t) sound.read found in
      let w = task_read m u.task s.task sound.read s.innermost_in in
      let is = same_innermost r.before s in
      let inner : inner_limit space (crossings t u (inputs_named r.before u.task)) (crossings t u (outputs_named r.before u.task)) ≡ None =
      ap (λ o. inner_limit space (crossings t u (inputs_in o)) (crossings t u (outputs_in o))) (sym is) ∙ limits.inner in
      let ins : outer_limit block (crossings t u (inputs_named r.before u.task)) ≡ None = ap (λ o. outer_limit block (crossings t u (inputs_in o))) (sym is) ∙ limits.ins in
      let outs : outer_limit block (crossings t u (outputs_named r.before u.task)) ≡ None = ap (λ o. outer_limit block (crossings t u (outputs_in o))) (sym is) ∙ limits.outs in
      let count : length (taken_names m []) ≡ length m.tasks + 0 = length-append (map task_name m.tasks) [] ∙ ap (λ n. n + 0) (length-map m.tasks task_name) in
      let number = free_number_le (taken_names m []) t.name (length (taken_names m [])) 1 in
      let named : is_name name ≡ true = numbered_is_name t.name _ (own_name (tasks.Repeated t) old) (omega (arith, number, count, few)) limits.named in
      let both = ranks t outer block rank in
      let P : Option Task → Type 0 = λ o. IsReadTask (made_of o) in
      let Q : Option Task → Type 0 = λ o. IsReadTask (all_of o) in (
        subst P (sym is) (inner_read m r.before t u s w old space space_is inner name named),
        (subst Q (sym is) (outer_read m r.before t u s w old space space_is inner outer block name outer_is refl both.0 both.1 ins outs), tt),
      )

  pub paved_sound : IsSound (paved_model m t u outer block)
  paved_sound = record {
    shapes = shapes_changed m (tasks.Repeated t) (one ∷ []) all found change in_place sound.shapes;
    read = read_changed m (tasks.Repeated t) (one ∷ []) all found both_read few sound.read;
  }

-- so a step that has a model has a sound one
pub step_sound : (m : Model) (t u : Repeated) (outer block : List ℕ) (next : Model) → IsSound m → task_named m.tasks t.name ≡ Some (tasks.Repeated t) → task_named m.tasks t.task ≡ Some (tasks.Repeated u) → t.links ≡ [] → u.links ≡ []
    → have_rank t outer block ≡ true → IsShape outer → IsShape block → length m.tasks + 1 < 2 ^ 32 → within_limits (paved_model m t u outer block) (pave_limit m t u block) ≡ Changed next → IsSound next
step_sound m t u outer block next sound found below plain inner_plain rank outer_is block_is few h = go (pave_limit m t u block) refl h
  where
    go : (o : Option LimitName) → pave_limit m t u block ≡ o → within_limits (paved_model m t u outer block) o ≡ Changed next → IsSound next
    go None e k =
        let is : paved_model m t u outer block ≡ next = cc in
        subst IsSound is (paved_sound m t u outer block sound found below plain inner_plain rank outer_is block_is e few)
    go (Some l) e k = cc
