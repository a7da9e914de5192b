-- The tiled model of a sound one is sound.
use Rattle.std.proofs.Common.{◌≡◌, ℕ, zero, suc, ◌+◌, ◌^◌, ◌<◌, Bool, true, false, cond, not, ◌||◌, ◌==◌, List, [], ◌∷◌, ◌++◌, length, map, Option, Some, None, is_some, is_none, sym, ◌∙◌, ap, refl, arith, subst}
use Rattle.std.specs.Option.{option_or}
use Rattle.std.specs.List.{IsAmong, AllByRecursion}
use Rattle.aol_model_types.specs.Types.{IsReadTask}
use Rattle.std.proofs.lemmas.Bool.{eqb-true}
use Rattle.std.proofs.lemmas.List.{length-append, length-map, append-nil}
use Rattle.std.proofs.lemmas.List.Folds.{find-append}
use Rattle.aol_shape.specs.declared.limit.LimitName.{LimitName}
use Rattle.aol_shape.specs.Lists.{same, or_else}
use Rattle.aol_shape.specs.Shape.{IsShape}
use Rattle.aol_shape.specs.Texts.{is_name}
use Rattle.aol_link.specs.declared.link.Interlink.{Interlink}
use Rattle.aol_model_types.specs.declared.document.Model.{Model}
use Rattle.aol_model_types.specs.declared.place.Key.TheVariants.{KName}
use Rattle.aol_model_types.specs.declared.place.PlaceStep.{PlaceStep}
use Rattle.aol_model_types.specs.declared.task.Repeated.{Repeated}
use Rattle.aol_model_types.specs.declared.task.Task.{Task}
use Rattle.aol_model_types.specs.declared.task.Task.TheVariants as tasks
use Rattle.aol_model_types.specs.Places.{to_key, to_index}
use Rattle.aol_model_types.specs.Rules.{check, each_from, task_checks, kind_checks, task_name, task_named, port_shape, is_new_task, is_earlier_task}
use Rattle.aol_flat.specs.Accept.{IsSound}
use Rattle.aol_flat.proofs.Checked.{HoldsOfRepeated, of_repeated, task_of, sides_apart, named_earlier}
use Rattle.aol_flat.proofs.Different.{Hold}
use Rattle.aol_flat.proofs.Names.{same-self, same-equal}
use Rattle.aol_flat.proofs.Among.{map_among}
use Rattle.aol_flat.proofs.Once.{there, found_among}
use Rattle.aol_change.specs.Blocks.{inputs_in, outputs_in, filled_block, block_task, block_name, block_limit, tilers_limit}
use Rattle.aol_change.specs.Change.{Changed, within_limits, is_taken, taken_names, name_limit, has_links, have_rank}
use Rattle.aol_change.specs.Step.{IsChange}
use Rattle.aol_change.proofs.ChangedChecks.{shapes_changed, HoldInPlace}
use Rattle.aol_change.proofs.ChangedRead.{read_changed}
use Rattle.aol_change.proofs.Checks.{hold-both}
use Rattle.aol_change.proofs.KeptTasks.{new_is_free}
use Rattle.aol_change.proofs.KindChecks.{hold-one, to_repeated}
use Rattle.aol_change.proofs.Room.{neither_limit}
use Rattle.aol_change.proofs.StillThere.{not_among}
use Rattle.aol_tiling.specs.Tile.{blocks_task, tiled_model, tile_limit, outer_limit}
use Rattle.aol_tiling.proofs.NewBlock.{block_holds}
use Rattle.aol_tiling.proofs.NewBlocks.{blocks_hold}
use Rattle.aol_tiling.proofs.NewNames.{numbered_is_name, free_number_le}
use Rattle.aol_tiling.proofs.NewRead.{block_read, blocks_read}
use Rattle.aol_tiling.proofs.Old.{inner_before, ranks}
use Rattle.aol_tiling.proofs.ReadPorts.{task_read, own_name}

-- ---- new names

-- a name that isn't taken is no task's
not_taken : (names : List (List ℕ)) (new name : List ℕ) → is_taken names new ≡ false → IsAmong names name → same new name ≡ false
not_taken [] new name h a = absurd (omega (arith, a.1.0))
not_taken (n ∷ names) new name h a = go (same n new) refl h a (not_taken names new name)
  where
    go : (b : Bool) → same n new ≡ b → (b || is_taken names new) ≡ false → IsAmong (n ∷ names) name → (is_taken names new ≡ false → IsAmong names name → same new name ≡ false) → same new name ≡ false
    go true e k b rest = cc
    go false e k (zero, b) rest = other (same new name) refl
      where
        other : (c : Bool) → same new name ≡ c → same new name ≡ false
        other false f = f
        other true f =
            let equal : new ≡ n = same-equal new name f ∙ b.1 in
            let clash : true ≡ false = sym (same-self n) ∙ (ap (same n) (sym equal) ∙ e) in
            absurd (cc)
    go false e k (suc i, b) rest = rest k (i, (omega (arith, b.0), b.1))

front_none : (a b : Option Task) → is_some (option_or a b) ≡ false → is_some a ≡ false
front_none None b h = refl
front_none (Some x) b h = h

none_there : (o : Option Task) → is_none o ≡ true → is_some o ≡ false
none_there None h = refl
none_there (Some x) h = cc

there_none : (o : Option Task) → is_some o ≡ false → is_none o ≡ true
there_none None h = refl
there_none (Some x) h = cc

pub no_links : (t : Repeated) → has_links t ≡ false → t.links ≡ []
no_links t h = go t.links refl (eqb-true (length t.links) 0 (holds (length t.links == 0) h))
  where
    holds : (b : Bool) → not b ≡ false → b ≡ true
    holds true k = refl
    holds false k = cc

    go : (ls : List Interlink) → t.links ≡ ls → length t.links ≡ 0 → t.links ≡ []
    go [] e k = e
    go (l ∷ ls) e k = absurd (omega (arith, ap length e, k))

-- ---- the tiled model

module _ (m : Model) (t : Repeated) (outer block : List ℕ) (sound : IsSound m) (found : task_named m.tasks t.name ≡ Some (tasks.Repeated t)) (plain : t.links ≡ []) (rank : have_rank t outer block ≡ true)
    (outer_is : IsShape outer) (block_is : IsShape block) (within : tile_limit m t block ≡ None) (few : length m.tasks + 1 < 2 ^ 32) where
  abbrev name : List ℕ
  name = block_name m t

  abbrev one : Task
  one = tasks.Repeated (block_task m t block name)

  abbrev all : Task
  all = tasks.Repeated (blocks_task t outer block name)

  free : is_taken (taken_names m []) name ≡ false
  free = let none : 0 < 2 ^ 32 = omega arith in new_is_free m [] t.name sound none

  free_names : is_taken (map task_name m.tasks) name ≡ false
  free_names = ap (λ ns. is_taken ns name) (sym (append-nil (map task_name m.tasks))) ∙ free

  no_task : is_some (task_named m.tasks name) ≡ false
  no_task = not_among m.tasks name free_names

  limits : (name_limit name ≡ None) × ((block_limit m t block ≡ None) × (outer_limit block t.tilers ≡ None))
  limits =
      let first = neither_limit (name_limit name) (or_else (block_limit m t block) (outer_limit block t.tilers)) within in
      (first.0, neither_limit (block_limit m t block) (outer_limit block t.tilers) first.1)

  change : IsChange m (tasks.Repeated t) (one ∷ []) all
  change = record { named = refl; ins = refl; outs = refl; apart = λ u a. ap (λ b. b || false) (not_taken (map task_name m.tasks) name (task_name u) free_names (map_among task_name m.tasks u a)) }

  own_apart : same name t.name ≡ false
  own_apart = and_left (same name t.name) (change.apart (tasks.Repeated t) (found_among (λ u. same (task_name u) t.name) m.tasks (tasks.Repeated t) found))
    where
      and_left : (b : Bool) → (b || false) ≡ false → b ≡ false
      and_left true h = h
      and_left false h = refl

  -- the inner task
  inner_found : (before rest : List Task) (place : List PlaceStep) → m.tasks ≡ before ++ tasks.Repeated t ∷ rest → HoldsOfRepeated before place t → (u : Task) × (task_named before t.task ≡ Some u) × (task_named m.tasks t.task ≡ Some u)
  inner_found before rest place split holds =
      let u = there (task_named before t.task) holds.inner in
      (u.0, u.1, named_earlier m before (tasks.Repeated t ∷ rest) t.task u.0 split u.1)

  inner_apart : (before : List Task) (u : Task) → task_named before t.task ≡ Some u → task_named m.tasks t.task ≡ Some u
      → (port : List ℕ) → is_some (port_shape (outputs_in (task_named before t.task)) port) ≡ true → is_some (port_shape (inputs_in (task_named before t.task)) port) ≡ false
  inner_apart before u here there port known =
      let r = task_of m u t.task sound.shapes there in
      ap (λ o. is_some (port_shape (inputs_in o) port)) here
      ∙ sides_apart r.before r.place u port r.holds (ap (λ o. is_some (port_shape (outputs_in o) port)) (sym here) ∙ known)

  -- the rules of both hold where the old one stood
  in_place : HoldInPlace m (tasks.Repeated t) (one ∷ []) all
  in_place before rest at at' k split new checks =
      let holds = of_repeated before at t checks in
      let u = inner_found before rest at split holds in
      let apart = inner_apart before u.0 u.1 u.2 in
      let fresh : is_earlier_task before name ≡ false =
      front_none (task_named before name) (task_named (tasks.Repeated t ∷ rest) name)
      (ap is_some (sym (find-append (λ v. same (task_name v) name) before (tasks.Repeated t ∷ rest))) ∙ (ap (λ ts. is_some (task_named ts name)) (sym split) ∙ no_task)) in
      let by : Repeated = filled_block (task_named before t.task) t.tilers block (record { name = name; ins = []; outs = []; space = block; task = t.task; tilers = []; links = [] }) in
      let r = ranks t outer block rank in
      let first : Hold (task_checks (to_index at' k) before (tasks.Repeated by)) =
      hold-both (check (to_key (to_index at' k) KName) 1 (is_new_task before (tasks.Repeated by)) ∷ []) (kind_checks before (to_index at' k) (tasks.Repeated by))
      (hold-one (to_key (to_index at' k) KName) 1 (is_new_task before (tasks.Repeated by)) (there_none (task_named before name) fresh))
      (to_repeated before (to_index at' k) by (block_holds before at t holds plain block name apart (to_index at' k))) in
      let old_name : is_new_task (before ++ tasks.Repeated by ∷ []) all ≡ true =
      there_none (task_named (before ++ tasks.Repeated by ∷ []) t.name)
      (ap is_some (find-append (λ v. same (task_name v) t.name) before (tasks.Repeated by ∷ []))
      ∙ (ap (λ b. is_some (option_or (task_named before t.name) (cond b (Some (tasks.Repeated by)) None))) own_apart
      ∙ both_none (task_named before t.name) (none_there (task_named before t.name) new))) in
      let second : Hold (task_checks (to_index at' (k + 1)) (before ++ tasks.Repeated by ∷ []) all) =
      hold-both (check (to_key (to_index at' (k + 1)) KName) 1 (is_new_task (before ++ tasks.Repeated by ∷ []) all) ∷ []) (kind_checks (before ++ tasks.Repeated by ∷ []) (to_index at' (k + 1)) all)
      (hold-one (to_key (to_index at' (k + 1)) KName) 1 (is_new_task (before ++ tasks.Repeated by ∷ []) all) old_name)
      (to_repeated (before ++ tasks.Repeated by ∷ []) (to_index at' (k + 1)) (blocks_task t outer block name)
      (blocks_hold before at t holds plain block name outer apart fresh r.0 r.1 (to_index at' (k + 1)))) in
      let Q : Option Task → Type 0 = λ o.
      Hold (each_from task_checks at' k before (tasks.Repeated (filled_block o t.tilers block (record { name = name; ins = []; outs = []; space = block; task = t.task; tilers = []; links = [] })) ∷ all ∷ [])) in
      subst Q (sym (inner_before m before rest t split holds.inner))
      (hold-both (task_checks (to_index at' k) before (tasks.Repeated by)) (each_from task_checks at' (k + 1) (before ++ tasks.Repeated by ∷ []) (all ∷ [])) first
      (hold-both (task_checks (to_index at' (k + 1)) (before ++ tasks.Repeated by ∷ []) all) [] second refl))
    where
      both_none : (o : Option Task) → is_some o ≡ false → is_some (option_or o None) ≡ false
      both_none None h = refl
      both_none (Some x) h = h

  -- both are as ones that were read
  both_read : AllByRecursion IsReadTask (one ∷ all ∷ [])
  both_read =
      let r = task_of m (tasks.Repeated t) t.name sound.shapes found in
      let holds = of_repeated r.before r.place t r.holds in
      let u = inner_found r.before r.rest r.place r.split holds in
      let old = task_read m t.name (tasks.Repeated t) sound.read found in
      let inner = inner_before m r.before r.rest t r.split holds.inner in
      let limit : tilers_limit (task_named r.before t.task) t.tilers block ≡ None = ap (λ i. tilers_limit i t.tilers block) (sym inner) ∙ limits.1.0 in
      let count : length (taken_names m []) ≡ length m.tasks + 0 = length-append (map task_name m.tasks) [] ∙ ap (λ n. n + 0) (length-map m.tasks task_name) in
      let number = free_number_le (taken_names m []) t.name (length (taken_names m [])) 1 in
      let is : is_name name ≡ true = numbered_is_name t.name _ (own_name (tasks.Repeated t) old) (omega (arith, number, count, few)) limits.0 in
      let Q : Option Task → Type 0 = λ o.
      IsReadTask (tasks.Repeated (filled_block o t.tilers block (record { name = name; ins = []; outs = []; space = block; task = t.task; tilers = []; links = [] }))) in (
        subst Q (sym inner) (block_read r.before r.place t holds block block_is u.0 u.1 (task_read m t.task u.0 sound.read u.2) old limit name is r.holds),
        (
          blocks_read r.before r.place t holds block block_is u.0 u.1 (task_read m t.task u.0 sound.read u.2) old limit outer name outer_is (ranks t outer block rank).1 limits.1.1,
          tt,
        ),
      )

  pub tiled_sound : IsSound (tiled_model m t outer block)
  tiled_sound = record {
    shapes = shapes_changed m (tasks.Repeated t) (one ∷ []) all found change in_place sound.shapes;
    read = read_changed m (tasks.Repeated t) (one ∷ []) all found both_read few sound.read;
  }

-- so a step that has a model has a sound one
pub step_sound : (m : Model) (t : Repeated) (outer block : List ℕ) (next : Model) → IsSound m → task_named m.tasks t.name ≡ Some (tasks.Repeated t) → t.links ≡ [] → have_rank t outer block ≡ true → IsShape outer → IsShape block
    → length m.tasks + 1 < 2 ^ 32 → within_limits (tiled_model m t outer block) (tile_limit m t block) ≡ Changed next → IsSound next
step_sound m t outer block next sound found plain rank outer_is block_is few h = go (tile_limit m t block) refl h
  where
    go : (o : Option LimitName) → tile_limit m t block ≡ o → within_limits (tiled_model m t outer block) o ≡ Changed next → IsSound next
    go None e k =
        let is : tiled_model m t outer block ≡ next = cc in
        subst IsSound is (tiled_sound m t outer block sound found plain rank outer_is block_is e few)
    go (Some l) e k = cc
