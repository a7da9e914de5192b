-- After every schedule the memory is the settled one.
use Rattle.std.proofs.Common.{◌≡◌, ℕ, zero, suc, ◌+◌, ◌<◌, Bool, true, false, cond, List, [], ◌∷◌, ◌++◌, length, map, Some, sym, ◌∙◌, ap, refl, arith, ◌⊎◌, inl, inr, subst}
use Rattle.std.specs.Prelude.{slice_get, ◌==◌, ◌&&◌}
use Rattle.std.specs.List.{enumerate_from}
use Rattle.std.proofs.lemmas.Bool.{eqb-true}
use Rattle.std.proofs.Common.{eqb, eq-eqb}
use Rattle.aol_expr_tree.specs.declared.value.Val.{Val}
use Rattle.aol_flat.specs.Net.{Net, Memory, read_value, reads_at, writes_at, IsSettled, IsWritten}
use Rattle.aol_flat.specs.declared.view.Read.{Read}
use Rattle.aol_flat.specs.declared.view.Read.TheVariants.{Cell, Const}
use Rattle.aol_runner.specs.Schedule.{Event, Takes, Puts, Machine, value_taken, values_taken, with_taken, with_cell, takes, puts, happens, after, IsLevelSchedule, AreSchedules, after_levels, start, AreLevelled, EveryScheduleSettles}

some_injective : {X : Type 0} (a b : X) → Some a ≡ Some b → a ≡ b
some_injective a b h = cc

both_true : (a b : Bool) → (a && b) ≡ true → (a ≡ true) × (b ≡ true)
both_true true b h = (refl, h)
both_true false b h = cc

-- the place after a front is the next item's
get_after : {X : Type 0} (before : List X) (x : X) (rest : List X) → slice_get (before ++ x ∷ rest) (length before) ≡ Some x
get_after [] x rest = refl
get_after (y ∷ before) x rest = get_after before x rest

get_front : {X : Type 0} (before rest : List X) (i : ℕ) → i < length before → slice_get (before ++ rest) i ≡ slice_get before i
get_front [] rest i h = absurd (omega (arith, h))
get_front (y ∷ before) rest zero h = refl
get_front (y ∷ before) rest (suc i) h = get_front before rest i (omega (arith, h))

-- an item of a list with one more is one of the list, or the new one
get_more : {X : Type 0} (before : List X) (x : X) (i : ℕ) (y : X) → slice_get (before ++ x ∷ []) i ≡ Some y → (slice_get before i ≡ Some y) ⊎ (y ≡ x)
get_more [] x zero y h = inr (sym (some_injective x y h))
get_more [] x (suc i) y h = cc
get_more (z ∷ before) x zero y h = inl h
get_more (z ∷ before) x (suc i) y h = get_more before x i y h

-- an instance that took the settled values at its cells has the settled values
taken_values : (mem : Memory) (s : Machine) (j : ℕ) (k : ℕ) (rs : List Read)
    → ((n c : ℕ) → slice_get rs n ≡ Some (Cell c) → s.taken j (k + n) ≡ mem c) → map (value_taken s j) (enumerate_from k rs) ≡ map (read_value mem) rs
taken_values mem s j k [] h = refl
taken_values mem s j k (Cell c ∷ rs) h =
    let here : s.taken j (k + 0) ≡ mem c = h 0 c refl in
    let P : ℕ → Type 0 = λ n. s.taken j n ≡ mem c in
    let first : s.taken j k ≡ mem c = subst P (omega arith) here in
    let rest : map (value_taken s j) (enumerate_from (k + 1) rs) ≡ map (read_value mem) rs =
    taken_values mem s j (k + 1) rs (λ n d e. let Q : ℕ → Type 0 = λ i. s.taken j i ≡ mem d in subst Q (omega arith) (h (suc n) d e)) in
    cc
taken_values mem s j k (Const n ∷ rs) h =
    let rest : map (value_taken s j) (enumerate_from (k + 1) rs) ≡ map (read_value mem) rs =
    taken_values mem s j (k + 1) rs (λ i d e. let Q : ℕ → Type 0 = λ x. s.taken j x ≡ mem d in subst Q (omega arith) (h (suc i) d e)) in
    cc

module _ (net : Net) (mem : Memory) where
  -- what an event has settled
  Done : Machine → Event → Type 0
  Done s (Takes j k) = (c : ℕ) → slice_get (reads_at net j) k ≡ Some (Cell c) → s.taken j k ≡ mem c
  Done s (Puts j k) = (c : ℕ) → slice_get (writes_at net j) k ≡ Some c → s.memory c ≡ mem c

  -- a read of a settled cell, and a write of the settled value, undo nothing
  taken_after_take : (s : Machine) (j k : ℕ) (x : Val) → ((c : ℕ) → slice_get (reads_at net j) k ≡ Some (Cell c) → x ≡ mem c) → (i n c : ℕ) → slice_get (reads_at net i) n ≡ Some (Cell c) → s.taken i n ≡ mem c
      → (with_taken s j k x).taken i n ≡ mem c
  taken_after_take s j k x right i n c h d = go ((i == j) && (n == k)) refl
    where
      go : (b : Bool) → ((i == j) && (n == k)) ≡ b → cond b x (s.taken i n) ≡ mem c
      go true e =
          let parts = both_true (i == j) (n == k) e in
          let fi : i ≡ j = eqb-true i j parts.0 in
          let fn : n ≡ k = eqb-true n k parts.1 in
          let P : ℕ → Type 0 = λ a. slice_get (reads_at net a) n ≡ Some (Cell c) in
          let Q : ℕ → Type 0 = λ a. slice_get (reads_at net j) a ≡ Some (Cell c) in
          right c (subst Q fn (subst P fi h))
      go false e = d

  done_after_take : (s : Machine) (j k : ℕ) (x : Val) → ((c : ℕ) → slice_get (reads_at net j) k ≡ Some (Cell c) → x ≡ mem c) → (e : Event) → Done s e → Done (with_taken s j k x) e
  unfolding Done
  done_after_take s j k x right (Takes i n) d = λ c h. taken_after_take s j k x right i n c h (d c h)
  done_after_take s j k x right (Puts i n) d = d

  taken_here : (s : Machine) (j k : ℕ) (x : Val) → (with_taken s j k x).taken j k ≡ x
  taken_here s j k x =
      let f : eqb j j ≡ true = eq-eqb j j refl in
      let g : eqb k k ≡ true = eq-eqb k k refl in
      rw (f, g)

  cell_after_put : (s : Machine) (c : ℕ) (x : Val) → x ≡ mem c → (d : ℕ) → s.memory d ≡ mem d → (with_cell s c x).memory d ≡ mem d
  cell_after_put s c x right d h = go (d == c) refl
    where
      go : (b : Bool) → (d == c) ≡ b → cond b x (s.memory d) ≡ mem d
      go true e = let f : d ≡ c = eqb-true d c e in right ∙ ap mem (sym f)
      go false e = h

  done_after_put : (s : Machine) (c : ℕ) (x : Val) → x ≡ mem c → (e : Event) → Done s e → Done (with_cell s c x) e
  unfolding Done
  done_after_put s c x right (Takes i n) d = d
  done_after_put s c x right (Puts i n) d = λ a h. cell_after_put s c x right a (d a h)

  written_here : (s : Machine) (c : ℕ) (x : Val) → x ≡ mem c → (with_cell s c x).memory c ≡ mem c
  written_here s c x right = go (c == c) refl
    where
      go : (b : Bool) → (c == c) ≡ b → cond b x (s.memory c) ≡ mem c
      go true e = right
      go false e = let f : eqb c c ≡ true = eq-eqb c c refl in cc

  -- ---- one event

  -- a cell that is settled stays so, and what was done stays done
  record Preserved (s t : Machine) : Type 0 where
    cells : (c : ℕ) → s.memory c ≡ mem c → t.memory c ≡ mem c
    events : (e : Event) → Done s e → Done t e

  -- a read of a settled cell
  take_keeps : (s : Machine) (j k c : ℕ) → slice_get (reads_at net j) k ≡ Some (Cell c) → s.memory c ≡ mem c → Preserved s (happens net s (Takes j k)) × Done (happens net s (Takes j k)) (Takes j k)
  unfolding Done
  take_keeps s j k c h settled =
      let right : (d : ℕ) → slice_get (reads_at net j) k ≡ Some (Cell d) → s.memory c ≡ mem d =
      λ d g. let f : c ≡ d = cell_injective c d (some_injective (Cell c) (Cell d) (sym h ∙ g)) in settled ∙ ap mem f in
      let is : happens net s (Takes j k) ≡ with_taken s j k (s.memory c) = ap (takes s j k) h in
      let P : Machine → Type 0 = λ t. Preserved s t × Done t (Takes j k) in
      let made : P (with_taken s j k (s.memory c)) =
      (record { cells = λ d e. e; events = λ e d. done_after_take s j k (s.memory c) right e d }, λ d g. taken_here s j k (s.memory c) ∙ right d g) in
      subst P (sym is) made
    where
      cell_injective : (a b : ℕ) → ◌≡◌ {A = Read} (Cell a) (Cell b) → a ≡ b
      cell_injective a b e = cc

  -- a write by an instance that took the settled values
  put_keeps : (s : Machine) (j k c : ℕ) → IsSettled net mem → slice_get (writes_at net j) k ≡ Some c → ((n d : ℕ) → slice_get (reads_at net j) n ≡ Some (Cell d) → s.taken j n ≡ mem d)
      → Preserved s (happens net s (Puts j k)) × Done (happens net s (Puts j k)) (Puts j k)
  unfolding Done
  put_keeps s j k c settled h taken =
      let values : values_taken net s j ≡ map (read_value mem) (reads_at net j) =
      taken_values mem s j 0 (reads_at net j) (λ n d e. let Q : ℕ → Type 0 = λ i. s.taken j i ≡ mem d in subst Q (omega arith) (taken n d e)) in
      let gives : slice_get (net.gives j (values_taken net s j)) k ≡ Some (mem c) = ap (λ xs. slice_get (net.gives j xs) k) values ∙ settled j k c h in
      let is : happens net s (Puts j k) ≡ with_cell s c (mem c) = ap (λ o. puts s o (slice_get (net.gives j (values_taken net s j)) k)) h ∙ ap (puts s (Some c)) gives in
      let P : Machine → Type 0 = λ t. Preserved s t × Done t (Puts j k) in
      let made : P (with_cell s c (mem c)) = (
        record { cells = λ d e. cell_after_put s c (mem c) refl d e; events = λ e d. done_after_put s c (mem c) refl e d },
        λ d g. let f : c ≡ d = some_injective c d (sym h ∙ g) in subst (λ (x : ℕ). (with_cell s c (mem c)).memory x ≡ mem x) f (written_here s c (mem c) refl),
      ) in
      subst P (sym is) made

append_nil : {X : Type 0} (xs : List X) → xs ++ [] ≡ xs
append_nil [] = refl
append_nil (x ∷ xs) = ap (λ ys. x ∷ ys) (append_nil xs)

append_one : {X : Type 0} (xs : List X) (y : X) (zs : List X) → (xs ++ y ∷ []) ++ zs ≡ xs ++ y ∷ zs
append_one [] y zs = refl
append_one (x ∷ xs) y zs = ap (λ ys. x ∷ ys) (append_one xs y zs)

-- ---- one level

module _ (net : Net) (mem : Memory) (levels : List ℕ) (count : ℕ) (levelled : AreLevelled net levels count) (settled : IsSettled net mem) where
  -- the cells of the lower levels, and those that nothing writes
  record Lower (level : ℕ) (s : Machine) : Type 0 where
    written : (c j k l : ℕ) → slice_get (writes_at net j) k ≡ Some c → slice_get levels j ≡ Some l → l < level → s.memory c ≡ mem c
    never : (c : ℕ) → (IsWritten net c → ⊥) → s.memory c ≡ mem c

  lower_kept : (level : ℕ) (s t : Machine) → Preserved net mem s t → Lower level s → Lower level t
  lower_kept level s t k l = record { written = λ c j n m h g b. k.cells c (l.written c j n m h g b); never = λ c n. k.cells c (l.never c n) }

  -- the cell that an event of the level reads is settled
  read_settled : (level j k c : ℕ) (s : Machine) → Lower level s → slice_get levels j ≡ Some level → slice_get (reads_at net j) k ≡ Some (Cell c) → s.memory c ≡ mem c
  read_settled level j k c s lower at h =
      elim (levelled.known c) [
        | inl w ↦
            let l = levelled.level w.writer w.place c w.at in
            lower.written c w.writer w.place l.0 w.at l.1 (levelled.above j k c w.writer w.place level l.0 h w.at at l.1)
        | inr n ↦ lower.never c n
      ]

  -- what the events before the next one have done
  Past : List Event → Machine → Type 0
  Past before s = (i : ℕ) (e : Event) → slice_get before i ≡ Some e → Done net mem s e

  step_level : (level : ℕ) (es before rest : List Event) (e : Event) (s : Machine) → es ≡ before ++ e ∷ rest → IsLevelSchedule net levels level es → Lower level s → Past before s
      → Preserved net mem s (happens net s e) × Done net mem (happens net s e) e
  unfolding Past Done
  step_level level es before rest (Takes j k) s split schedule lower past =
      let at : slice_get es (length before) ≡ Some (Takes j k) = ap (λ xs. slice_get xs (length before)) split ∙ get_after before (Takes j k) rest in
      let event = schedule.only (length before) (Takes j k) at in
      take_keeps net mem s j k event.1 event.2 (read_settled level j k event.1 s lower event.0 event.2)
  step_level level es before rest (Puts j k) s split schedule lower past =
      let at : slice_get es (length before) ≡ Some (Puts j k) = ap (λ xs. slice_get xs (length before)) split ∙ get_after before (Puts j k) rest in
      let event = schedule.only (length before) (Puts j k) at in
      put_keeps net mem s j k event.1 settled event.2
      (λ n d h.
      let place = schedule.each (Takes j n) (event.0, d, h) in
      let earlier : place.0 < length before = schedule.order place.0 (length before) j n k place.1 at in
      let in_front : slice_get before place.0 ≡ Some (Takes j n) =
      sym (get_front before (Puts j k ∷ rest) place.0 earlier) ∙ (ap (λ xs. slice_get xs place.0) (sym split) ∙ place.1) in
      past place.0 (Takes j n) in_front d h)

  past_more : (before : List Event) (e : Event) (s t : Machine) → Preserved net mem s t → Done net mem t e → Past before s → Past (before ++ e ∷ []) t
  unfolding Past
  past_more before e s t k d past = λ i f h. go i f (get_more before e i f h)
    where
      go : (i : ℕ) (f : Event) → (slice_get before i ≡ Some f) ⊎ (f ≡ e) → Done net mem t f
      go i f (inl h) = k.events f (past i f h)
      go i f (inr h) = let P : Event → Type 0 = λ x. Done net mem t x in subst P (sym h) d

  run_level : (level : ℕ) (es before rest : List Event) (s : Machine) → es ≡ before ++ rest → IsLevelSchedule net levels level es → Lower level s → Past before s
      → Lower level (after net s rest) × Past es (after net s rest)
  unfolding Past
  run_level level es before [] s split schedule lower past =
      (lower, λ i e h. past i e (ap (λ xs. slice_get xs i) (sym (append_nil before)) ∙ (ap (λ xs. slice_get xs i) (sym split) ∙ h)))
  run_level level es before (e ∷ rest) s split schedule lower past =
      let step = step_level level es before rest e s split schedule lower past in
      run_level level es (before ++ e ∷ []) rest (happens net s e) (split ∙ sym (append_one before e rest)) schedule
      (lower_kept level s (happens net s e) step.0 lower) (past_more before e s (happens net s e) step.0 step.1 past)

  level_cases : (l level : ℕ) → l < level + 1 → (l < level) ⊎ (l ≡ level)
  level_cases l level h = grind arith

  lower_next : (level : ℕ) (es : List Event) (s : Machine) → IsLevelSchedule net levels level es → Lower level s → Past es s → Lower (level + 1) s
  unfolding Past Done
  lower_next level es s schedule lower past = record {
    written = λ c j k l h at below.
        elim (level_cases l level below) [
          | inl b ↦ lower.written c j k l h at b
          | inr f ↦
              let P : ℕ → Type 0 = λ x. slice_get levels j ≡ Some x in
              let place = schedule.each (Puts j k) (subst P f at, c, h) in
              past place.0 (Puts j k) place.1 c h
        ];
    never = lower.never;
  }

  nothing_past : (s : Machine) → Past [] s
  unfolding Past
  nothing_past s = λ i e h. cc

  run_levels : (by_level : List (List Event)) (level : ℕ) (s : Machine) → length by_level + level ≡ count → AreSchedules net levels level by_level → Lower level s → (c : ℕ) → (after_levels net s by_level).memory c ≡ mem c
  run_levels [] level s many schedules lower c =
      elim (levelled.known c) [
        | inl w ↦ let l = levelled.level w.writer w.place c w.at in lower.written c w.writer w.place l.0 w.at l.1 (omega (arith, l.2, many))
        | inr n ↦ lower.never c n
      ]
  run_levels (es ∷ by_level) level s many schedules lower c =
      let ran = run_level level es [] es s refl schedules.0 lower (nothing_past s) in
      run_levels by_level (level + 1) (after net s es) (omega (arith, many)) schedules.1 (lower_next level es (after net s es) schedules.0 ran.0 ran.1) c

pub every_schedule_settles : EveryScheduleSettles
every_schedule_settles net levels count levelled opening mem settled unwritten by_level many schedules c =
    run_levels net mem levels count levelled settled by_level 0 (start opening) (omega (arith, many)) schedules
    (record { written = λ d j k l h at below. absurd (omega (arith, below)); never = λ d n. sym (unwritten d n) }) c
