-- The nets of a model are alike, and their settled memory is one.
use Rattle.std.proofs.Common.{◌≡◌, ℕ, zero, suc, ◌<◌, List, [], ◌∷◌, length, map, slice_get, unwrap_or, Option, Some, None, sym, ◌∙◌, ap, refl, arith, ◌⊎◌, inl, inr}
use Rattle.std.specs.List.{AllZip}
use Rattle.aol_flat.specs.Place.{Element}
use Rattle.aol_flat.specs.Home.{home_of}
use Rattle.aol_flat.specs.Instance.{Instance, instances, read_elements, written_elements}
use Rattle.aol_flat.specs.InstanceNeed.{level_count}
use Rattle.aol_flat.specs.Laid.{Laid, IsLaid, AreHomes, IsCellOf, IsReadOf}
use Rattle.aol_flat.specs.Net.{Net, IsNetOf, Memory, read_value, reads_at, writes_at, IsWritten, opening}
use Rattle.aol_flat.specs.Accept.{IsSound}
use Rattle.aol_flat.specs.declared.view.Read.{Read}
use Rattle.aol_flat.specs.declared.view.Read.TheVariants.{Cell, Const}
use Rattle.aol_flat_laws.proofs.LaidHomes.{laid_cells_are_homes}
use Rattle.aol_runner.specs.Run.{SchedulesLeaveField, WorkersChangeNoValue, OutputsAreOne}
use Rattle.aol_runner.specs.Schedule.{AreLevelled, SettledOver}
use Rattle.aol_runner.proofs.Aligned.{some_injective, get_there}
use Rattle.aol_runner.proofs.Exists.{same_reads}
use Rattle.aol_runner.proofs.Held.{kept_injective, constant_injective, two_homes}
use Rattle.aol_runner.proofs.Settle.{every_schedule_settles}
use Rattle.aol_runner.proofs.Writers.{nets_are_levelled}

-- what is related to one thing alone makes one list
zip_one : {X Y : Type 0} (R : X → Y → Type 0) → ((x : X) (y z : Y) → R x y → R x z → y ≡ z) → (xs : List X) (ys zs : List Y) → AllZip R xs ys → AllZip R xs zs → ys ≡ zs
zip_one R one [] [] [] a b = refl
zip_one R one [] [] (z ∷ zs) a b = absurd b
zip_one R one [] (y ∷ ys) zs a b = absurd a
zip_one R one (x ∷ xs) [] zs a b = absurd a
zip_one R one (x ∷ xs) (y ∷ ys) [] a b = absurd b
zip_one R one (x ∷ xs) (y ∷ ys) (z ∷ zs) a b =
    let first : y ≡ z = one x y z a.0 b.0 in
    let rest : ys ≡ zs = zip_one R one xs ys zs a.1 b.1 in
    cc

none_there : {X Y : Type 0} (xs : List X) (ys : List Y) (j : ℕ) → length ys ≡ length xs → slice_get xs j ≡ None → slice_get ys j ≡ None
none_there [] [] j h at = refl
none_there [] (y ∷ ys) j h at = absurd (omega (arith, h))
none_there (x ∷ xs) [] j h at = refl
none_there (x ∷ xs) (y ∷ ys) zero h at = cc
none_there (x ∷ xs) (y ∷ ys) (suc j) h at = none_there xs ys j (omega (arith, h)) at

module _ (f : Laid) (sound : IsSound f.model) (laid : IsLaid f) where
  homes : AreHomes f
  homes = laid_cells_are_homes f sound.shapes laid

  one_cell : (e : Element) (c d : ℕ) → IsCellOf f e c → IsCellOf f e d → c ≡ d
  one_cell e c d a b =
      let same_home : a.home ≡ b.home = kept_injective a.home b.home (sym a.is_home ∙ b.is_home) in
      homes.once c d a.home a.at_cell (b.at_cell ∙ ap (λ h. Some h) (sym same_home))

  one_read : (e : Element) (r s : Read) → IsReadOf f e r → IsReadOf f e s → r ≡ s
  one_read e (Cell c) (Cell d) a b = ap (λ n. Cell n) (one_cell e c d a b)
  one_read e (Cell c) (Const n) a b = absurd (two_homes (home_of f.model e) a.home n a.is_home b)
  one_read e (Const n) (Cell c) a b = absurd (two_homes (home_of f.model e) b.home n b.is_home a)
  one_read e (Const n) (Const z) a b = ap (λ m. Const m) (constant_injective n z (sym a ∙ b))

  module _ (net other : Net) (is_net : IsNetOf f net) (is_other : IsNetOf f other) where
    reads_alike : (j : ℕ) → reads_at net j ≡ reads_at other j
    reads_alike j = go (slice_get (instances f.model) j) refl
      where
        go : (o : Option Instance) → slice_get (instances f.model) j ≡ o → reads_at net j ≡ reads_at other j
        go None e =
            ap (λ p. unwrap_or p []) (none_there (instances f.model) net.reads j is_net.many_reads e)
            ∙ sym (ap (λ p. unwrap_or p []) (none_there (instances f.model) other.reads j is_other.many_reads e))
        go (Some i) e =
            let a = get_there (instances f.model) net.reads j i is_net.many_reads e in
            let b = get_there (instances f.model) other.reads j i is_other.many_reads e in
            let same : a.0 ≡ b.0 = zip_one (IsReadOf f) one_read (read_elements f.model i) a.0 b.0 (is_net.reads j i a.0 e a.1) (is_other.reads j i b.0 e b.1) in
            ap (λ p. unwrap_or p []) a.1 ∙ (same ∙ sym (ap (λ p. unwrap_or p []) b.1))

    writes_alike : (j : ℕ) → writes_at net j ≡ writes_at other j
    writes_alike j = go (slice_get (instances f.model) j) refl
      where
        go : (o : Option Instance) → slice_get (instances f.model) j ≡ o → writes_at net j ≡ writes_at other j
        go None e =
            ap (λ p. unwrap_or p []) (none_there (instances f.model) net.writes j is_net.many_writes e)
            ∙ sym (ap (λ p. unwrap_or p []) (none_there (instances f.model) other.writes j is_other.many_writes e))
        go (Some i) e =
            let a = get_there (instances f.model) net.writes j i is_net.many_writes e in
            let b = get_there (instances f.model) other.writes j i is_other.many_writes e in
            let same : a.0 ≡ b.0 = zip_one (IsCellOf f) one_cell (written_elements f.model i) a.0 b.0 (is_net.writes j i a.0 e a.1) (is_other.writes j i b.0 e b.1) in
            ap (λ p. unwrap_or p []) a.1 ∙ (same ∙ sym (ap (λ p. unwrap_or p []) b.1))

    -- a memory that is settled in one is so in the other
    pub settled_alike : (first mem : Memory) → SettledOver net first mem → SettledOver other first mem
    settled_alike first mem over = record {
      settled = λ j k c h. go j k c h (slice_get (instances f.model) j) refl;
      others = λ c none. over.others c (λ w. none (record { writer = w.writer; place = w.place; at = sym (ap (λ cs. slice_get cs w.place) (writes_alike w.writer)) ∙ w.at }));
    }
      where
        go : (j k c : ℕ) → slice_get (writes_at other j) k ≡ Some c → (o : Option Instance) → slice_get (instances f.model) j ≡ o → slice_get (other.gives j (map (read_value mem) (reads_at other j))) k ≡ Some (mem c)
        go j k c h None e =
            let none : writes_at other j ≡ [] = ap (λ p. unwrap_or p []) (none_there (instances f.model) other.writes j is_other.many_writes e) in
            let no : slice_get [] k ≡ Some c = sym (ap (λ cs. slice_get cs k) none) ∙ h in
            cc
        go j k c h (Some i) e =
            let taken : map (read_value mem) (reads_at other j) ≡ map (read_value mem) (reads_at net j) = ap (map (read_value mem)) (sym (reads_alike j)) in
            let gave : other.gives j (map (read_value mem) (reads_at other j)) ≡ net.gives j (map (read_value mem) (reads_at net j)) =
            is_other.gives j i (map (read_value mem) (reads_at other j)) e ∙ (sym (is_net.gives j i (map (read_value mem) (reads_at other j)) e) ∙ ap (net.gives j) taken) in
            ap (λ xs. slice_get xs k) gave ∙ over.settled j k c (ap (λ cs. slice_get cs k) (writes_alike j) ∙ h)

-- ---- one settled memory

module _ (net : Net) (levels : List ℕ) (count : ℕ) (levelled : AreLevelled net levels count) (first mem mem' : Memory) (over : SettledOver net first mem) (over' : SettledOver net first mem') where
  below_agree : (n j k c l : ℕ) → slice_get (writes_at net j) k ≡ Some c → slice_get levels j ≡ Some l → l < n → mem c ≡ mem' c
  below_agree zero j k c l h at lt = absurd (omega (arith, lt))
  below_agree (suc n) j k c l h at lt =
      let same : map (read_value mem) (reads_at net j) ≡ map (read_value mem') (reads_at net j) = same_reads mem mem' (reads_at net j) (λ i d r. go (λ j' k' c' l' h' at' lt'. below_agree n j' k' c' l' h' at' lt') i d r (levelled.known d)) in
      some_injective (mem c) (mem' c) (sym (over.settled j k c h) ∙ (ap (λ xs. slice_get (net.gives j xs) k) same ∙ over'.settled j k c h))
    where
      go : ((j' k' c' l' : ℕ) → slice_get (writes_at net j') k' ≡ Some c' → slice_get levels j' ≡ Some l' → l' < n → mem c' ≡ mem' c') → (i d : ℕ) → slice_get (reads_at net j) i ≡ Some (Cell d)
          → IsWritten net d ⊎ (IsWritten net d → ⊥) → mem d ≡ mem' d
      go lower_agree i d r (inl w) =
          let m = levelled.level w.writer w.place d w.at in
          let lower = levelled.above j i d w.writer w.place l m.0 r w.at at m.1 in
          lower_agree w.writer w.place d m.0 w.at m.1 (omega (arith, lower, lt))
      go lower_agree i d r (inr none) = over.others d none ∙ sym (over'.others d none)

  pub memories_agree : (c : ℕ) → mem c ≡ mem' c
  memories_agree c = go (levelled.known c)
    where
      go : IsWritten net c ⊎ (IsWritten net c → ⊥) → mem c ≡ mem' c
      go (inl w) = let l = levelled.level w.writer w.place c w.at in below_agree (suc l.0) w.writer w.place c l.0 w.at l.1 (omega arith)
      go (inr none) = over.others c none ∙ sym (over'.others c none)

pub schedules_leave_field : SchedulesLeaveField
schedules_leave_field f workers levels inputs field net sound accepted laid is_net are run by_level many schedules c kept at =
    let over = settled_alike f sound laid run.net net run.is_net is_net (opening inputs) run.memory run.settled in
    let levelled = nets_are_levelled f net levels sound accepted laid is_net are in
    every_schedule_settles net levels (level_count levels) levelled (opening inputs) run.memory over.settled over.others by_level many schedules c ∙ sym (run.holds c kept at)

pub workers_change_no_value : WorkersChangeNoValue
workers_change_no_value f workers others levels inputs field other sound accepted laid are run run' c kept kept' at at' =
    let over = settled_alike f sound laid run'.net run.net run'.is_net run.is_net (opening inputs) run'.memory run'.settled in
    let levelled = nets_are_levelled f run.net levels sound accepted laid run.is_net are in
    run.holds c kept at ∙ (memories_agree run.net levels (level_count levels) levelled (opening inputs) run.memory run'.memory run.settled over c ∙ sym (run'.holds c kept' at'))

pub outputs_are_one : OutputsAreOne
outputs_are_one m inputs outputs others are are' = are.of_every are.exists.0 are.exists.1 ∙ sym (are'.of_every are.exists.0 are.exists.1)
