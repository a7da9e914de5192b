-- A run goes on by one level.
use Rattle.std.proofs.Common.{◌≡◌, ℕ, suc, ◌+◌, ◌<◌, List, [], ◌∷◌, length, map, Option, Some, get_or, slice_get, sym, ◌∙◌, ap, refl, arith, ◌⊎◌, inl, inr}
use Rattle.std.proofs.lemmas.Option.{slice_get_within, get_or_from_slice_get}
use Rattle.aol_flat.specs.InstanceNeed.{AreLevelsOf, level_count}
use Rattle.aol_flat.specs.Laid.{Laid, IsLaid}
use Rattle.aol_flat.specs.Net.{Net, IsNetOf, Memory, read_value, reads_at, writes_at, IsWritten}
use Rattle.aol_flat.specs.Accept.{IsSound, IsAccepted}
use Rattle.aol_flat.specs.declared.view.Read.{Read}
use Rattle.aol_flat.specs.declared.view.Read.TheVariants.{Cell, Const}
use Rattle.aol_scatter.specs.Cells.{cell}
use Rattle.aol_level.specs.Puts.{kept_by, value_in, value_held}
use Rattle.aol_level.specs.Round.{IsAfterOn}
use Rattle.aol_level.specs.declared.kept.Kept.{Kept}
use Rattle.aol_runner.specs.Order.{level_instances}
use Rattle.aol_runner.specs.Schedule.{AreLevelled, SettledOver}
use Rattle.aol_runner.specs.Through.{IsThrough}
use Rattle.aol_runner.proofs.Aligned.{some_injective}
use Rattle.aol_runner.proofs.AtOnce.{IsOfLevel, of_level, in_level, level_at}
use Rattle.aol_runner.proofs.Writers.{is_taken, nets_have_writers, nets_are_levelled}

-- what is taken from cells that hold the memory's values
held_reads : (cells : List (Option Kept)) (mem : Memory) (rs : List Read) → ((n d : ℕ) → slice_get rs n ≡ Some (Cell d) → value_in (cell cells d) ≡ mem d)
    → map (value_held cells) rs ≡ map (read_value mem) rs
held_reads cells mem [] h = refl
held_reads cells mem (Cell d ∷ rs) h =
    let first : value_in (cell cells d) ≡ mem d = h 0 d refl in
    let rest : map (value_held cells) rs ≡ map (read_value mem) rs = held_reads cells mem rs (λ n c e. h (suc n) c e) in
    cc
held_reads cells mem (Const z ∷ rs) h =
    let rest : map (value_held cells) rs ≡ map (read_value mem) rs = held_reads cells mem rs (λ n c e. h (suc n) c e) in
    cc

last_or_earlier : (l n : ℕ) → l < n + 1 → (l ≡ n) ⊎ (l < n)
last_or_earlier l n h = grind arith

module _ (f : Laid) (net : Net) (sound : IsSound f.model) (accepted : IsAccepted f.model) (laid : IsLaid f) (is_net : IsNetOf f net) (levels workers : List ℕ) (many : ℕ)
    (are : AreLevelsOf f.model levels) (placed : (j : ℕ) → j < length levels → get_or workers j 0 < many) (opening mem : Memory) (over : SettledOver net opening mem) where
  levelled : AreLevelled net levels (level_count levels)
  levelled = nets_are_levelled f net levels sound accepted laid is_net are

  one_writer : (i j k n c : ℕ) → slice_get (writes_at net i) k ≡ Some c → slice_get (writes_at net j) n ≡ Some c → i ≡ j
  one_writer i j k n c h h' =
      let writers = nets_have_writers f net sound accepted laid is_net in
      let pairs : Some (i, k) ≡ Some (j, n) = sym (writers.1.one c i k h) ∙ writers.1.one c j n h' in
      let pair : (i, k) ≡ (j, n) = some_injective (i, k) (j, n) pairs in
      ap (λ (p : ℕ × ℕ). p.0) pair

  module _ (level : ℕ) (old new : List (Option Kept)) (cells : length old ≡ length f.cells) (same : length new ≡ length old) (through : IsThrough net levels workers opening mem level old)
      (after : IsAfterOn net workers (level_instances levels workers many level) old new) where
    -- what an instance of the level reads is settled
    settled_read : (j k d : ℕ) → slice_get levels j ≡ Some level → slice_get (reads_at net j) k ≡ Some (Cell d) → value_in (cell old d) ≡ mem d
    settled_read j k d at r = go (levelled.known d)
      where
        go : IsWritten net d ⊎ (IsWritten net d → ⊥) → value_in (cell old d) ≡ mem d
        go (inl w) =
            let l = levelled.level w.writer w.place d w.at in
            let lower = levelled.above j k d w.writer w.place level l.0 r w.at at l.1 in
            ap value_in (through.written w.writer w.place d l.0 w.at l.1 lower)
        go (inr none) =
            let t = is_taken f net sound accepted laid is_net j k (Cell d) r in
            let within = slice_get_within f.cells d t.stands.home t.stands.at_cell in
            let held = through.others d (omega (arith, within, cells)) (λ i n l h a b. none (record { writer = i; place = n; at = h })) in
            ap value_in held ∙ sym (over.others d none)

    -- an instance of the level puts the settled values
    put_here : (j k c : ℕ) → slice_get (writes_at net j) k ≡ Some c → slice_get levels j ≡ Some level → cell new c ≡ Some (kept_by (get_or workers j 0) (mem c))
    put_here j k c h at =
        let within = slice_get_within levels j level at in
        let o : IsOfLevel levels workers many level j = record { within = within; here = get_or_from_slice_get levels j level 0 at } in
        let put = after.written j k c (in_level levels workers many level j o (placed j within)) h in
        let taken : map (value_held old) (reads_at net j) ≡ map (read_value mem) (reads_at net j) = held_reads old mem (reads_at net j) (λ n d r. settled_read j n d at r) in
        let gave : Some put.0 ≡ Some (mem c) = sym put.1 ∙ (ap (λ xs. slice_get (net.gives j xs) k) taken ∙ over.settled j k c h) in
        let value : put.0 ≡ mem c = some_injective put.0 (mem c) gave in
        put.2 ∙ ap (λ x. Some (kept_by (get_or workers j 0) x)) value

    -- the cells of lower levels stay
    put_before : (j k c l : ℕ) → slice_get (writes_at net j) k ≡ Some c → slice_get levels j ≡ Some l → l < level → cell new c ≡ Some (kept_by (get_or workers j 0) (mem c))
    put_before j k c l h at lower =
        after.others c
        (λ i n a h'.
        let one = one_writer i j n k c h' h in
        let level_there = level_at levels workers many level i (of_level levels workers many level i a) in
        let both : Some level ≡ Some l = sym level_there ∙ (ap (slice_get levels) one ∙ at) in
        let e : level ≡ l = some_injective level l both in
        omega (arith, lower, e))
        ∙ through.written j k c l h at lower

    pub through_more : IsThrough net levels workers opening mem (level + 1) new
    through_more = record {
      written = λ j k c l h at lower.
          elim (last_or_earlier l level lower) [
            | inl e ↦ put_here j k c h (at ∙ ap (λ n. Some n) e)
            | inr less ↦ put_before j k c l h at less
          ];
      others = λ c within none.
          after.others c (λ j k a h. none j k level h (level_at levels workers many level j (of_level levels workers many level j a)) (omega arith))
          ∙ through.others c (omega (arith, within, same)) (λ j k l h at lower. none j k l h at (omega (arith, lower)));
    }
