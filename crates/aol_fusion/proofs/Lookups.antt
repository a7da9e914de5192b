-- The tasks of the fused model by their names, and the parts of the changed compound by their numbers.
use Rattle.std.proofs.Common.{◌≡◌, ℕ, zero, suc, ◌+◌, ◌<◌, Bool, true, false, cond, not, ◌||◌, List, [], ◌∷◌, ◌++◌, length, map, flat_map, Option, Some, None, is_some, slice_get, sym, ◌∙◌, ap, refl, arith, subst, ◌⊎◌, inl, inr}
use Rattle.std.specs.Option.{option_or}
use Rattle.std.specs.List.{IsAmong, list_any, position_or_len}
use Rattle.std.proofs.lemmas.List.{length-map}
use Rattle.std.proofs.lemmas.List.Folds.{find-append}
use Rattle.std.proofs.lemmas.Option.{none-some}
use Rattle.aol_shape.specs.Lists.{same}
use Rattle.aol_model_types.specs.declared.document.Model.{Model}
use Rattle.aol_model_types.specs.declared.place.Key.TheVariants.{KModel, KTasks, KMain, KParts}
use Rattle.aol_model_types.specs.declared.place.PlaceStep.{PlaceStep}
use Rattle.aol_model_types.specs.declared.task.Compound.{Compound}
use Rattle.aol_model_types.specs.declared.task.Part.{Part}
use Rattle.aol_model_types.specs.declared.task.Repeated.{Repeated}
use Rattle.aol_model_types.specs.declared.task.Task.{Task}
use Rattle.aol_model_types.specs.declared.task.Task.TheVariants as tasks
use Rattle.aol_model_types.specs.Places.{to_key, to_index}
use Rattle.aol_model_types.specs.Rules.{ShapesAgree, check, each, each_from, task_checks, kind_checks, part_checks, is_new_task, is_new_part, is_earlier_task, main_is_task, task_name, task_named, inputs_of, outputs_of}
use Rattle.aol_flat.specs.Numbered.{inner_names}
use Rattle.aol_flat.specs.Tasks.{part_number}
use Rattle.aol_flat.proofs.Among.{among_map, get_among}
use Rattle.aol_flat.proofs.Checked.{HoldsOfCompound, of_compound, of_repeated, member, member_at, task_of, named_earlier}
use Rattle.aol_flat.proofs.Different.{Hold, hold-parts}
use Rattle.aol_flat.proofs.Names.{both-true, same-self, same-equal, slice_get-right}
use Rattle.aol_flat.proofs.Once.{there, found_among}
use Rattle.aol_change.specs.Change.{put_before}
use Rattle.aol_change.proofs.Below.{own_name}
use Rattle.aol_change.proofs.ChangedChecks.{each-split}
use Rattle.aol_fusion_parts.specs.Changed.{fused_compound}
use Rattle.aol_fusion_parts.specs.Fuse.{Fusing, fused_model, fused_ports, new_tasks}
use Rattle.aol_fusion_parts.specs.declared.ports.FusedNames.{FusedNames}
use Rattle.aol_fusion_parts.specs.Made.{fused_names, over_space, block_of_first, once_of_second, pair_of_both}
use Rattle.aol_fusion_parts.specs.Ports.{sources, tiled_ports, picked_ports, unpicked_ports, unjoined_ports}
use Rattle.aol_fusion_parts.specs.Whole.{fused_repetition}
use Rattle.aol_fusion_rules.proofs.Fronts.{found_left}
use Rattle.aol_fusion_rules.proofs.Names.{new_task_apart}
use Rattle.aol_fusion_rules.proofs.NewNumbers.{other_name}
use Rattle.aol_fusion_rules.proofs.Sound.{IsFusing, names_of_fusion, with_w, z, y, x, w, u, v, s, changed, kept_w, z_found, y_found, x_found, w_found, none_new, own_none, ports}
use Rattle.aol_fusion.specs.Map.{origins_from}
use Rattle.aol_fusion.specs.Closed.{AreThere}

-- ---- origins

-- a member in the place of another, by the number of that one
pub record Origin {X Y : Type 0} (change : X → List Y) (xs : List X) (k : ℕ) (y : Y) : Type 0 where
  pub number : ℕ
  pub old : X
  pub at : slice_get xs number ≡ Some old
  pub among : IsAmong (change old) y
  pub listed : slice_get (origins_from change 0 xs) k ≡ Some number

record OriginFrom {X Y : Type 0} (change : X → List Y) (from : ℕ) (xs : List X) (k : ℕ) (y : Y) : Type 0 where
  number : ℕ
  old : X
  at : slice_get xs number ≡ Some old
  among : IsAmong (change old) y
  listed : slice_get (origins_from change from xs) k ≡ Some (from + number)

pub before_or_after : (k n : ℕ) → (k < n) ⊎ ((j : ℕ) × (k ≡ n + j))
before_or_after zero zero = inr (0, refl)
before_or_after zero (suc n) = inl (omega arith)
before_or_after (suc k) zero = inr (suc k, omega arith)
before_or_after (suc k) (suc n) = elim (before_or_after k n) [ inl h ↦ inl (omega (arith, h)) | inr h ↦ inr (h.0, omega (arith, h.1)) ]

pub in_front : {X : Type 0} (xs ys : List X) (k : ℕ) → k < length xs → slice_get (xs ++ ys) k ≡ slice_get xs k
in_front [] ys k h = absurd (omega (arith, h))
in_front (x ∷ xs) ys zero h = refl
in_front (x ∷ xs) ys (suc k) h = in_front xs ys k (omega (arith, h))

all_same : {X : Type 0} (n k : ℕ) (xs : List X) → k < length xs → slice_get (map (λ (x : X). n) xs) k ≡ Some n
all_same n k [] h = absurd (omega (arith, h))
all_same n zero (x ∷ xs) h = refl
all_same n (suc k) (x ∷ xs) h = all_same n k xs (omega (arith, h))

origin_from : {X Y : Type 0} (change : X → List Y) (from : ℕ) (xs : List X) (k : ℕ) (y : Y) → slice_get (flat_map change xs) k ≡ Some y → OriginFrom change from xs k y
origin_from change from [] k y h = absurd (none-some y h)
origin_from {X = X} {Y = Y} change from (x ∷ xs) k y h = go (λ j e. origin_from change (from + 1) xs j y e) (before_or_after k (length (change x)))
  where
    go : ((j : ℕ) → slice_get (flat_map change xs) j ≡ Some y → OriginFrom change (from + 1) xs j y) → (k < length (change x)) ⊎ ((j : ℕ) × (k ≡ length (change x) + j)) → OriginFrom change from (x ∷ xs) k y
    go rec (inl low) =
        let here : slice_get (change x) k ≡ Some y = sym (in_front (change x) (flat_map change xs) k low) ∙ h in
        let n : from ≡ from + 0 = omega arith in
        record {
          number = 0;
          old = x;
          at = refl;
          among = get_among (change x) k y here;
          listed = in_front (map (λ (z : Y). from) (change x)) (origins_from change (from + 1) xs) k (omega (arith, low, length-map (change x) (λ (z : Y). from))) ∙ (all_same from k (change x) low ∙ ap (λ j. Some j) n);
        }
    go rec (inr later) =
        let r = rec later.0 (sym (slice_get-right (change x) (flat_map change xs) later.0) ∙ (ap (slice_get (change x ++ flat_map change xs)) (sym later.1) ∙ h)) in
        let n : from + 1 + r.number ≡ from + suc r.number = omega arith in
        let place : k ≡ length (map (λ (z : Y). from) (change x)) + later.0 = omega (arith, later.1, length-map (change x) (λ (z : Y). from)) in
        record {
          number = suc r.number;
          old = r.old;
          at = r.at;
          among = r.among;
          listed = ap (slice_get (map (λ (z : Y). from) (change x) ++ origins_from change (from + 1) xs)) place
              ∙ (slice_get-right (map (λ (z : Y). from) (change x)) (origins_from change (from + 1) xs) later.0 ∙ (r.listed ∙ ap (λ j. Some j) n));
        }

pub origin : {X Y : Type 0} (change : X → List Y) (xs : List X) (k : ℕ) (y : Y) → slice_get (flat_map change xs) k ≡ Some y → Origin change xs k y
origin change xs k y h =
    let r = origin_from change 0 xs k y h in
    let n : 0 + r.number ≡ r.number = omega arith in
    record { number = r.number; old = r.old; at = r.at; among = r.among; listed = r.listed ∙ ap (λ j. Some j) n }

-- ---- the number of a part

position_first : {X : Type 0} (test : X → Bool) (before rest : List X) (x : X) → list_any test before ≡ false → test x ≡ true → position_or_len test (before ++ x ∷ rest) ≡ length before
position_first test [] rest x h e = ap (λ b. cond (not b) (1 + position_or_len test rest) 0) e
position_first test (y ∷ before) rest x h e = go (test y) refl h (λ k. position_first test before rest x k e)
  where
    go : (b : Bool) → test y ≡ b → (b || list_any test before) ≡ false → (list_any test before ≡ false → position_or_len test (before ++ x ∷ rest) ≡ length before) → position_or_len test (y ∷ (before ++ x ∷ rest)) ≡ suc (length before)
    go true f k rec = cc
    go false f k rec =
        let z : position_or_len test (y ∷ (before ++ x ∷ rest)) ≡ 1 + position_or_len test (before ++ x ∷ rest) = ap (λ b. cond (not b) (1 + position_or_len test (before ++ x ∷ rest)) 0) f in
        omega (arith, z, rec k)

-- a part's number is its place
pub own_number : (ts : List Task) (place : List PlaceStep) (c : Compound) (k : ℕ) (p : Part) → HoldsOfCompound ts place c → slice_get c.parts k ≡ Some p → part_number c p.name ≡ k
own_number ts place c k p holds at =
    let r = member_at (part_checks ts) (to_key place KParts) c.parts p k holds.parts at in
    let new : list_any (λ (q : Part). same q.name p.name) r.before ≡ false = not_true (list_any (λ (q : Part). same q.name p.name) r.before) (both-true (is_new_part r.before p) _ r.holds).0 in
    ap (position_or_len (λ (q : Part). same q.name p.name)) r.split ∙ (position_first (λ (q : Part). same q.name p.name) r.before r.rest p new (same-self p.name) ∙ r.count)
  where
    not_true : (b : Bool) → not b ≡ true → b ≡ false
    not_true true h = cc
    not_true false h = refl

-- ---- tasks that others are made of

pub inner_there : (m : Model) → ShapesAgree m → AreThere m
inner_there m agree n inner t h a =
    let r = task_of m t n agree h in
    by_kind t r.before r.rest r.place r.split r.holds a
  where
    by_kind : (t : Task) (before rest : List Task) (place : List PlaceStep) → m.tasks ≡ before ++ t ∷ rest → Hold (kind_checks before place t) → IsAmong (inner_names t) inner → (v : Task) × (task_named m.tasks inner ≡ Some v)
    by_kind (tasks.Elementary e) before rest place split holds b = absurd (omega (arith, b.1.0))
    by_kind (tasks.Compound c) before rest place split holds b =
        let p = among_map (λ (q : Part). q.task) c.parts inner b in
        let r = member (part_checks before) (to_key place KParts) c.parts p.0 (of_compound before place c holds).parts p.1 in
        let earlier : is_earlier_task before p.0.task ≡ true = (both-true (is_earlier_task before p.0.task) true (both-true (is_new_part r.before p.0) _ r.holds).1).0 in
        let v = there (task_named before p.0.task) earlier in
        (v.0, ap (task_named m.tasks) p.2 ∙ named_earlier m before (tasks.Compound c ∷ rest) p.0.task v.0 split v.1)
    by_kind (tasks.Repeated r) before rest place split holds (zero, b) =
        let v = there (task_named before r.task) (of_repeated before place r holds).inner in
        (v.0, ap (task_named m.tasks) b.1 ∙ named_earlier m before (tasks.Repeated r ∷ rest) r.task v.0 split v.1)
    by_kind (tasks.Repeated r) before rest place split holds (suc i, b) = absurd (omega (arith, b.0))

-- ---- where a task stands

-- no task before it has its name
pub new_at : (m : Model) (before rest : List Task) (t : Task) → ShapesAgree m → m.tasks ≡ before ++ t ∷ rest → is_new_task before t ≡ true
new_at m before rest t agree split =
    let at : List PlaceStep = to_key (to_key [] KModel) KTasks in
    let all = hold-parts (each task_checks at m.tasks) (check (to_key (to_key [] KModel) KMain) 23 (main_is_task m) ∷ []) agree in
    let P : List Task → Type 0 = λ ts. Hold (each task_checks at ts) in
    let later = (each-split task_checks at 0 [] before (t ∷ rest) (subst P split all.0)).1 in
    let here = hold-parts (task_checks (to_index at later.number) before t) (each_from task_checks at (later.number + 1) (before ++ t ∷ []) rest) later.holds in
    (both-true (is_new_task before t) _ here.0).0

put_after : (before rest made : List Task) (t changed : Task) → is_some (task_named before (task_name t)) ≡ false → put_before (before ++ t ∷ rest) (task_name t) made changed ≡ before ++ made ++ changed ∷ rest
put_after [] rest made t changed none = ap (λ b. cond b (made ++ changed ∷ rest) (t ∷ put_before rest (task_name t) made changed)) (same-self (task_name t))
put_after (b ∷ before) rest made t changed none = go (same (task_name b) (task_name t)) refl none (put_after before rest made t changed)
  where
    go : (d : Bool) → same (task_name b) (task_name t) ≡ d → is_some (cond d (Some b) (task_named before (task_name t))) ≡ false
        → (is_some (task_named before (task_name t)) ≡ false → put_before (before ++ t ∷ rest) (task_name t) made changed ≡ before ++ made ++ changed ∷ rest)
        → cond (same (task_name b) (task_name t)) (made ++ changed ∷ (before ++ t ∷ rest)) (b ∷ put_before (before ++ t ∷ rest) (task_name t) made changed) ≡ b ∷ (before ++ made ++ changed ∷ rest)
    go true e k rec = cc
    go false e k rec = ap (λ d. cond d (made ++ changed ∷ (before ++ t ∷ rest)) (b ∷ put_before (before ++ t ∷ rest) (task_name t) made changed)) e ∙ ap (λ ts. b ∷ ts) (rec k)

-- ---- the fused model

module _ (f : Fusing) (h : IsFusing f) where
  abbrev pub before : List Task
  before = (task_of f.model (tasks.Compound f.compound) f.compound.name h.sound.shapes h.compound).before

  abbrev pub rest : List Task
  rest = (task_of f.model (tasks.Compound f.compound) f.compound.name h.sound.shapes h.compound).rest

  abbrev pub place : List PlaceStep
  place = (task_of f.model (tasks.Compound f.compound) f.compound.name h.sound.shapes h.compound).place

  pub split : f.model.tasks ≡ before ++ tasks.Compound f.compound ∷ rest
  split = (task_of f.model (tasks.Compound f.compound) f.compound.name h.sound.shapes h.compound).split

  pub holds : HoldsOfCompound before place f.compound
  holds = of_compound before place f.compound (task_of f.model (tasks.Compound f.compound) f.compound.name h.sound.shapes h.compound).holds

  abbrev pub next : Model
  next = fused_model f

  abbrev n : FusedNames
  n = fused_names f.model f.compound.name

  abbrev pub first_inner : Task
  first_inner = u f h before rest place split holds

  abbrev pub second_inner : Task
  second_inner = v f h before rest place split holds

  abbrev pub block_task : Task
  block_task = z f h before rest place split holds

  abbrev pub once_task : Task
  once_task = y f h before rest place split holds

  abbrev pub pair_task : Task
  pair_task = x f h before rest place split holds

  abbrev pub whole_task : Task
  whole_task = w f h before rest place split holds

  -- the repetitions and the compound that they are
  abbrev pub whole_of : Repeated
  whole_of = fused_repetition n.whole n.pair f.one f.two f.args.tiler (unjoined_ports f.args f.compound f.two.ins) (inputs_of first_inner) (unpicked_ports f.args f.compound f.two (inputs_of second_inner)) (tiled_ports f.two (outputs_of second_inner))

  abbrev pub block_of : Repeated
  block_of = block_of_first n.block f.args.block f.one.task (inputs_of first_inner) (sources f.args.picks (outputs_of first_inner))

  abbrev pub once_of : Repeated
  once_of = once_of_second n.once f.two.task f.args.block (outputs_of first_inner) f.args.picks (inputs_of second_inner) (tiled_ports f.two (outputs_of second_inner))

  abbrev pub pair_of : Compound
  pair_of =
      pair_of_both n f.args.picks (map (over_space f.args.block) (inputs_of first_inner)) (picked_ports f.args f.compound f.two (inputs_of second_inner)) (unpicked_ports f.args f.compound f.two (inputs_of second_inner))
      (tiled_ports f.two (outputs_of second_inner))

  abbrev pub changed_of : Compound
  changed_of = fused_compound f.args f.compound f.one f.two (unjoined_ports f.args f.compound f.two.ins) n.whole

  abbrev pub changed_task : Task
  changed_task = changed f h before rest place split holds

  abbrev all_new : List Task
  all_new = with_w f h before rest place split holds

  new_compound : is_new_task before (tasks.Compound f.compound) ≡ true
  new_compound = new_at f.model before rest (tasks.Compound f.compound) h.sound.shapes split

  none_before : is_some (task_named before f.compound.name) ≡ false
  none_before = own_none f h before rest place split holds new_compound

  abbrev made_tasks : List Task
  made_tasks = new_tasks f.args f.one f.two (fused_names f.model f.compound.name) (fused_ports f)

  abbrev made_changed : Task
  made_changed = tasks.Compound (fused_compound f.args f.compound f.one f.two (fused_ports f).unjoined (fused_names f.model f.compound.name).whole)

  -- its tasks
  tasks_are : next.tasks ≡ all_new ++ changed_task ∷ rest
  tasks_are =
      ap (λ ts. put_before ts f.compound.name made_tasks made_changed) split
      ∙ (put_after before rest made_tasks (tasks.Compound f.compound) made_changed none_before
      ∙ ap (λ p. before ++ new_tasks f.args f.one f.two (fused_names f.model f.compound.name) p ++ tasks.Compound (fused_compound f.args f.compound f.one f.two p.unjoined (fused_names f.model f.compound.name).whole) ∷ rest)
      (ports f h before rest place split holds)
      ∙ grouped before (z f h before rest place split holds) (y f h before rest place split holds) (x f h before rest place split holds) (w f h before rest place split holds) (changed_task ∷ rest))
    where
      grouped : (b : List Task) (p q r s : Task) (more : List Task) → b ++ (p ∷ q ∷ r ∷ s ∷ []) ++ more ≡ (((b ++ p ∷ []) ++ q ∷ []) ++ r ∷ []) ++ s ∷ [] ++ more
      grouped [] p q r s more = refl
      grouped (t ∷ b) p q r s more = ap (λ ts. t ∷ ts) (grouped b p q r s more)

  new_found : (n : List ℕ) (t : Task) → task_named all_new n ≡ Some t → task_named next.tasks n ≡ Some t
  new_found n t e = ap (λ ts. task_named ts n) tasks_are ∙ found_left all_new (changed_task ∷ rest) n t e

  pub block_found : task_named next.tasks (fused_names f.model f.compound.name).block ≡ Some block_task
  block_found = new_found (fused_names f.model f.compound.name).block block_task (z_found f h before rest place split holds)

  pub once_found : task_named next.tasks (fused_names f.model f.compound.name).once ≡ Some once_task
  once_found = new_found (fused_names f.model f.compound.name).once once_task (y_found f h before rest place split holds)

  pub pair_found : task_named next.tasks (fused_names f.model f.compound.name).pair ≡ Some pair_task
  pair_found = new_found (fused_names f.model f.compound.name).pair pair_task (x_found f h before rest place split holds)

  pub whole_found : task_named next.tasks (fused_names f.model f.compound.name).whole ≡ Some whole_task
  whole_found = new_found (fused_names f.model f.compound.name).whole whole_task (w_found f h before rest place split holds)

  -- no old task has a new name
  pub record IsOldName (n : List ℕ) : Type 0 where
    pub block : same (fused_names f.model f.compound.name).block n ≡ false
    pub once : same (fused_names f.model f.compound.name).once n ≡ false
    pub pair : same (fused_names f.model f.compound.name).pair n ≡ false
    pub whole : same (fused_names f.model f.compound.name).whole n ≡ false

  pub old_name : (t : Task) → IsAmong f.model.tasks t → IsOldName (task_name t)
  old_name t a =
      let n = fused_names f.model f.compound.name in
      let names = names_of_fusion f h in
      record {
        block = new_task_apart f.model [] n.block names.block t a;
        once = new_task_apart f.model (n.block ∷ []) n.once names.once t a;
        pair = new_task_apart f.model (n.block ∷ n.once ∷ []) n.pair names.pair t a;
        whole = new_task_apart f.model (n.block ∷ n.once ∷ n.pair ∷ []) n.whole names.whole t a;
      }

  pub old_name_of : (n : List ℕ) (t : Task) → task_named f.model.tasks n ≡ Some t → IsOldName (task_name t)
  old_name_of n t e = old_name t (found_among (λ (r : Task). same (task_name r) n) f.model.tasks t e)

  -- the task of an old name is the old one, or the changed compound
  pub in_next : (n : List ℕ) (t : Task) → task_named f.model.tasks n ≡ Some t → task_named next.tasks n ≡ Some (cond (same n f.compound.name) changed_task t)
  in_next n t e = ap (λ ts. task_named ts n) tasks_are ∙ (find-append test all_new (changed_task ∷ rest) ∙ by_front (task_named before n) refl)
    where
      test : Task → Bool
      test r = same (task_name r) n

      old : IsOldName n
      old = subst IsOldName (own_name f.model.tasks n t e) (old_name_of n t e)

      parts : option_or (task_named before n) (task_named (tasks.Compound f.compound ∷ rest) n) ≡ Some t
      parts = sym (find-append test before (tasks.Compound f.compound ∷ rest)) ∙ (ap (λ ts. task_named ts n) (sym split) ∙ e)

      not_compound : (r : Task) → task_named before n ≡ Some r → same n f.compound.name ≡ false
      not_compound r k = go (same n f.compound.name) refl
        where
          go : (b : Bool) → same n f.compound.name ≡ b → same n f.compound.name ≡ false
          go false g = g
          go true g =
              let clash : true ≡ false = sym (ap is_some (ap (task_named before) (sym (same-equal n f.compound.name g)) ∙ k)) ∙ none_before in
              absurd (cc)

      none_of : (o : Option Task) → is_some o ≡ false → o ≡ None
      none_of None g = refl
      none_of (Some r) g = cc

      at_compound : (b : Bool) → same f.compound.name n ≡ b → cond (same f.compound.name n) (Some (tasks.Compound f.compound)) (task_named rest n) ≡ Some t
          → cond (same f.compound.name n) (Some changed_task) (task_named rest n) ≡ Some (cond (same n f.compound.name) changed_task t)
      at_compound true g k =
          ap (λ b. cond b (Some changed_task) (task_named rest n)) g
          ∙ ap (λ b. Some (cond b changed_task t)) (sym (ap (λ m. same m f.compound.name) (sym (same-equal f.compound.name n g)) ∙ same-self f.compound.name))
      at_compound false g k =
          ap (λ b. cond b (Some changed_task) (task_named rest n)) g
          ∙ (sym (ap (λ b. cond b (Some (tasks.Compound f.compound)) (task_named rest n)) g) ∙ (k ∙ ap (λ b. Some (cond b changed_task t)) (sym (other_name f.compound.name n g))))

      by_front : (o : Option Task) → task_named before n ≡ o → option_or (task_named all_new n) (task_named (changed_task ∷ rest) n) ≡ Some (cond (same n f.compound.name) changed_task t)
      by_front (Some r) k =
          let both : Some r ≡ Some t = sym (ap (λ p. option_or p (task_named (tasks.Compound f.compound ∷ rest) n)) k) ∙ parts in
          ap (λ p. option_or p (task_named (changed_task ∷ rest) n)) (kept_w f h before rest place split holds n r k)
          ∙ (both ∙ ap (λ b. Some (cond b changed_task t)) (sym (not_compound r k)))
      by_front None k =
          let none : is_some (task_named all_new n) ≡ false = none_new f h before rest place split holds n (ap is_some k) old.block old.once old.pair old.whole in
          let left : task_named (tasks.Compound f.compound ∷ rest) n ≡ Some t = sym (ap (λ p. option_or p (task_named (tasks.Compound f.compound ∷ rest) n)) k) ∙ parts in
          ap (λ p. option_or p (task_named (changed_task ∷ rest) n)) (none_of (task_named all_new n) none) ∙ at_compound (same f.compound.name n) refl left
