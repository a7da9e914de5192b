-- Levels and cycles by the cells are those of the model.
use Rattle.std.proofs.Common.{◌≡◌, ℕ, zero, suc, ◌+◌, ◌-◌, ◌<◌, ◌≤◌, List, [], ◌∷◌, length, sym, ◌∙◌, ap, refl, arith, ◌⊎◌, inl, inr}
use Rattle.std.specs.Prelude.{max, slice_index, Option}
use Rattle.std.specs.List.{IsAmong}
use Rattle.std.proofs.lemmas.Option.{slice_get_within}
use Rattle.std.proofs.Math.Nat.{le-max_left, le-max_right, sub-add-eq-max}
use Rattle.aol_flat.specs.Bridge.{LevelsAreOfModel, LoopsAreCycles}
use Rattle.aol_flat.specs.Instance.{instances}
use Rattle.aol_flat.specs.InstanceNeed.{AreLevelsOf, IsInCycle}
use Rattle.aol_flat.specs.Laid.{Laid}
use Rattle.aol_flat.specs.Level.{Reads, AreReads, needed_by, above_all, AreLevels, AreWriters, IsInLoop}
use Rattle.aol_flat.specs.Targets.{IsSingleAssignment}
use Rattle.aol_flat.specs.Accept.{IsSound}
use Rattle.aol_flat.proofs.Agree.{IsAmong-tail}
use Rattle.aol_flat_laws.proofs.Apart.{first_among}
use Rattle.aol_flat_laws.proofs.CellNeeds.{cell_need, need_cell}

-- ---- the greatest of some levels

pub above_each : (level ks : List ℕ) (k : ℕ) → IsAmong ks k → slice_index level k + 1 ≤ above_all level ks
above_each level [] k a = absurd (omega (arith, a.1.0))
above_each level (j ∷ ks) k (zero, a) =
    let e : slice_index level k ≡ slice_index level j = ap (slice_index level) a.1 in
    omega (arith, e, le-max_left (slice_index level j + 1) (above_all level ks))
above_each level (j ∷ ks) k (suc i, a) =
    omega (arith, above_each level ks k (i, (omega (arith, a.0), a.1)), le-max_right (slice_index level j + 1) (above_all level ks))

one_of_max : (a b : ℕ) → (max a b ≡ a) ⊎ (max a b ≡ b)
one_of_max a b = go (a - b) refl
  where
    go : (d : ℕ) → a - b ≡ d → (max a b ≡ a) ⊎ (max a b ≡ b)
    go zero e = inr (omega (arith, sub-add-eq-max a b, e))
    go (suc d) e = inl (omega (arith, sub-add-eq-max a b, e))

pub above_one : (level ks : List ℕ) → 0 < above_all level ks → (k : ℕ) × IsAmong ks k × (above_all level ks ≡ slice_index level k + 1)
above_one level [] h = absurd (omega (arith, h))
above_one level (j ∷ ks) h = go (one_of_max (slice_index level j + 1) (above_all level ks)) (above_one level ks)
  where
    go : (max (slice_index level j + 1) (above_all level ks) ≡ slice_index level j + 1) ⊎ (max (slice_index level j + 1) (above_all level ks) ≡ above_all level ks)
        → (0 < above_all level ks → (k : ℕ) × IsAmong ks k × (above_all level ks ≡ slice_index level k + 1))
        → (k : ℕ) × IsAmong (j ∷ ks) k × (max (slice_index level j + 1) (above_all level ks) ≡ slice_index level k + 1)
    go (inl e) rest = (j, first_among j ks, e)
    go (inr e) rest = let r = rest (omega (arith, h, e)) in (r.0, IsAmong-tail j ks r.0 r.1, e ∙ r.2)

-- what lies above each, and above one by one alone, is that
pub above_only : (level ks : List ℕ) (n : ℕ) → ((k : ℕ) → IsAmong ks k → slice_index level k < n) → (0 < n → (k : ℕ) × IsAmong ks k × (n ≡ slice_index level k + 1)) → n ≡ above_all level ks
above_only level ks zero above least = go (above_all level ks) refl
  where
    go : (a : ℕ) → above_all level ks ≡ a → 0 ≡ above_all level ks
    go zero e = sym e
    go (suc a) e = let k = above_one level ks (omega (arith, e)) in absurd (omega (arith, above k.0 k.1))
above_only level ks (suc n) above least =
    let k = least (omega arith) in
    let reached : slice_index level k.0 + 1 ≤ above_all level ks = above_each level ks k.0 k.1 in
    let r = above_one level ks (omega (arith, reached)) in
    omega (arith, reached, k.2, above r.0 r.1, r.2)

pub no_level : (level : List ℕ) (j : ℕ) → 0 < slice_index level j → j < length level
no_level [] j h = absurd (omega (arith, h))
no_level (x ∷ level) zero h = omega arith
no_level (x ∷ level) (suc j) h = omega (arith, no_level level j h)

module _ (f : Laid) (reads : Reads) (list : List (Option ℕ)) (sound : IsSound f.model) (are : AreReads f reads) (writers : AreWriters f list) (single : IsSingleAssignment f.model) where
  -- ---- levels

  of_cells : (level : List ℕ) → AreLevels reads list level → AreLevelsOf f.model level
  of_cells level h = record {
    many = h.many ∙ are.many;
    above = λ j k n.
        let under : j < length (instances f.model) = slice_get_within (instances f.model) j n.reader n.at_reader in
        let each : slice_index level j ≡ above_all level (needed_by reads list j) = h.each j (omega (arith, under, are.many)) in
        omega (arith, each, above_each level (needed_by reads list j) k (need_cell f reads list sound are writers single j k n));
    least = λ j some.
        let under : j < length level = no_level level j some in
        let each : slice_index level j ≡ above_all level (needed_by reads list j) = h.each j (omega (arith, under, h.many)) in
        let r = above_one level (needed_by reads list j) (omega (arith, each, some)) in
        (r.0, cell_need f reads list sound are writers single j r.0 r.1, each ∙ r.2);
  }

  of_model : (level : List ℕ) → AreLevelsOf f.model level → AreLevels reads list level
  of_model level h = record {
    many = h.many ∙ sym are.many;
    each = λ j under.
        above_only level (needed_by reads list j) (slice_index level j) (λ k a. h.above j k (cell_need f reads list sound are writers single j k a))
        (λ some. let r = h.least j some in (r.0, need_cell f reads list sound are writers single j r.0 r.1, r.2));
  }

  -- ---- cycles

  cycle_of : (j : ℕ) → IsInLoop reads list j → IsInCycle f.model j
  cycle_of j l = record { set = l.set; within = l.within; goes_on = λ i a. let r = l.goes_on i a in (r.0, r.1, cell_need f reads list sound are writers single i r.0 r.2) }

  loop_of : (j : ℕ) → IsInCycle f.model j → IsInLoop reads list j
  loop_of j l = record { set = l.set; within = l.within; goes_on = λ i a. let r = l.goes_on i a in (r.0, r.1, need_cell f reads list sound are writers single i r.0 r.2) }

pub levels_are_of_model : LevelsAreOfModel
levels_are_of_model f reads list sound are writers single level = (of_cells f reads list sound are writers single level, of_model f reads list sound are writers single level)

pub loops_are_cycles : LoopsAreCycles
loops_are_cycles f reads list sound are writers single j = (
  λ l. record { in_cycle = cycle_of f reads list sound are writers single j l.in_loop; first = λ i h c. l.first i h (loop_of f reads list sound are writers single i c) },
  λ c. record { in_loop = loop_of f reads list sound are writers single j c.in_cycle; first = λ i h l. c.first i h (cycle_of f reads list sound are writers single i l) },
)
