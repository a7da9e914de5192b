-- A sound model has one refusal, and an accepted one has none.
use Rattle.std.proofs.Common.{◌≡◌, ℕ, zero, suc, ◌<◌, ◌≤◌, List, [], ◌∷◌, slice_get, Some, refl, sym, ◌∙◌, ap, arith, ◌⊎◌, inl, inr}
use Rattle.std.specs.Prelude.{slice_index}
use Rattle.std.proofs.lemmas.Bool.{cases_order}
use Rattle.std.proofs.lemmas.List.{ext_get_or}
use Rattle.aol_shape.specs.declared.limit.LimitName.{LimitName}
use Rattle.aol_model_types.specs.declared.document.Model.{Model}
use Rattle.aol_model_types.specs.Places.{limit_text}
use Rattle.aol_flat.specs.Accept.{IsSound}
use Rattle.aol_flat.specs.InstanceNeed.{IsFirstInCycle, AreLevelsOf}
use Rattle.aol_flat.specs.Node.{Node, node_path}
use Rattle.aol_flat.specs.Reads.{Reading, readings, IsGiven, AllGiven, IsFirstFailing, IsFirstUnwritten}
use Rattle.aol_flat.specs.Targets.{Twice, first_twice, IsSingleAssignment}
use Rattle.aol_flat.proofs.Among.{get_among}
use Rattle.aol_flat.proofs.Readings.{readings_are_reads}
use Rattle.aol_flat.proofs.Real.{accepted_has_no_cycle}
use Rattle.aol_flat.proofs.Twice.{twice_is_found}
use Rattle.aol_lines.specs.declared.status.StatusKind.TheVariants as statuses
use Rattle.aol_lines.specs.Instance.{instance_text}
use Rattle.aol_program.specs.ModelAnswer.{limited, written_twice, unwritten, in_cycle}
use Rattle.aol_program.specs.OneRefusal.{OneRefusal, AcceptedIsNotRefused}
use Rattle.aol_lines.specs.Refused.{reading_words, twice_words}
use Rattle.aol_lines.specs.Reply.{refusal}
use Rattle.aol_program.proofs.OneFound.{one_found, not_both}

-- a list has one first member at which a fact fails
first_failing_one : {X : Type 0} (P : X → Type 0) (xs : List X) (x y : X) → IsFirstFailing P xs x → IsFirstFailing P xs y → x ≡ y
first_failing_one P xs x y a b = told (cases_order a.number b.number)
  where
    told : (a.number ≡ b.number) ⊎ ((a.number < b.number) ⊎ (b.number < a.number)) → x ≡ y
    told (inl e) = one_found (slice_get xs a.number) x y a.at (ap (slice_get xs) e ∙ b.at)
    told (inr (inl l)) = absurd (a.fails (b.before a.number x l a.at))
    told (inr (inr l)) = absurd (b.fails (a.before b.number y l b.at))

-- the least instance that needs itself is one
first_cycle_one : (m : Model) (i j : ℕ) → IsFirstInCycle m i → IsFirstInCycle m j → i ≡ j
first_cycle_one m i j a b = told (cases_order i j)
  where
    told : (i ≡ j) ⊎ ((i < j) ⊎ (j < i)) → i ≡ j
    told (inl e) = e
    told (inr (inl l)) = absurd (b.first i l a.in_cycle)
    told (inr (inr l)) = absurd (a.first j l b.in_cycle)

-- no point is found where nothing is written twice
none_twice : (m : Model) → IsSingleAssignment m → (t : Twice) → first_twice m ≡ Some t → ⊥
none_twice m single t h = not_both (first_twice m) t ((twice_is_found m).1 single) h

-- no reading fails where each element that is read is given
none_unwritten : (m : Model) → IsSound m → AllGiven m → (r : Reading) → IsFirstUnwritten m r → ⊥
none_unwritten m sound given r f =
    f.fails (given r.element ((readings_are_reads m sound r.element).1 (r, get_among (readings m) f.number r f.at, refl)))

pub one_refusal : OneRefusal
one_refusal m sound _ _ (limited at n h) (limited by k g) = ap (λ (x : Node × LimitName). refusal statuses.Limit (node_path m x.0 ∷ limit_text x.1 ∷ [])) (one_found _ (at, n) (by, k) h g)
one_refusal m sound _ _ (limited at n h) (written_twice b t g) = absurd (not_both _ (at, n) b h)
one_refusal m sound _ _ (limited at n h) (unwritten b s r g) = absurd (not_both _ (at, n) b h)
one_refusal m sound _ _ (limited at n h) (in_cycle b s a j g) = absurd (not_both _ (at, n) b h)
one_refusal m sound _ _ (written_twice b t h) (limited at n g) = absurd (not_both _ (at, n) b g)
one_refusal m sound _ _ (written_twice b t h) (written_twice c u g) = ap (λ (x : Twice). refusal statuses.Twice (twice_words m x)) (one_found _ t u h g)
one_refusal m sound _ _ (written_twice b t h) (unwritten c s r g) = absurd (none_twice m s t h)
one_refusal m sound _ _ (written_twice b t h) (in_cycle c s a j g) = absurd (none_twice m s t h)
one_refusal m sound _ _ (unwritten b s r h) (limited at n g) = absurd (not_both _ (at, n) b g)
one_refusal m sound _ _ (unwritten b s r h) (written_twice c t g) = absurd (none_twice m s t g)
one_refusal m sound _ _ (unwritten b s r h) (unwritten c u q g) =
    ap (λ (x : Reading). refusal statuses.Unwritten (reading_words m x.reader x.port x.rank)) (first_failing_one (λ (x : Reading). IsGiven m x.element) (readings m) r q h g)
one_refusal m sound _ _ (unwritten b s r h) (in_cycle c u a j g) = absurd (none_unwritten m sound a r h)
one_refusal m sound _ _ (in_cycle b s a j h) (limited at n g) = absurd (not_both _ (at, n) b g)
one_refusal m sound _ _ (in_cycle b s a j h) (written_twice c t g) = absurd (none_twice m s t g)
one_refusal m sound _ _ (in_cycle b s a j h) (unwritten c u r g) = absurd (none_unwritten m sound a r g)
one_refusal m sound _ _ (in_cycle b s a j h) (in_cycle c u d k g) = ap (λ x. refusal statuses.Cycle (instance_text m x ∷ [])) (first_cycle_one m j k h g)

pub accepted_not_refused : AcceptedIsNotRefused
accepted_not_refused m sound accepted _ (limited at n h) = not_both _ (at, n) accepted.limits h
accepted_not_refused m sound accepted _ (written_twice b t h) = none_twice m accepted.single t h
accepted_not_refused m sound accepted _ (unwritten b s r h) = none_unwritten m sound accepted.given r h
accepted_not_refused m sound accepted _ (in_cycle b s a j h) = accepted_has_no_cycle m sound accepted j h.in_cycle

-- ---- levels

-- each instance's level is at most what another list of levels has
level_most : (m : Model) (level other : List ℕ) → AreLevelsOf m level → AreLevelsOf m other → (n j : ℕ) → slice_index level j ≤ n → slice_index level j ≤ slice_index other j
level_most m level other a b zero j l = omega (arith, l)
level_most m level other a b (suc n) j l = told (cases_order 0 (slice_index level j)) (level_most m level other a b n)
  where
    told : (0 ≡ slice_index level j) ⊎ ((0 < slice_index level j) ⊎ (slice_index level j < 0)) → ((k : ℕ) → slice_index level k ≤ n → slice_index level k ≤ slice_index other k)
        → slice_index level j ≤ slice_index other j
    told (inl e) rest = omega (arith, e)
    told (inr (inl more)) rest =
        let k = a.least j more in
        omega (arith, k.2, rest k.0 (omega (arith, k.2, l)), b.above j k.0 k.1)
    told (inr (inr below)) rest = absurd (omega (arith, below))

-- two lists of levels of one model agree
pub levels_agree : (m : Model) (level other : List ℕ) → AreLevelsOf m level → AreLevelsOf m other → level ≡ other
levels_agree m level other a b =
    ext_get_or 0 level other (a.many ∙ sym b.many) (λ j l.
    let up = level_most m level other a b (slice_index level j) j (omega arith) in
    let down = level_most m other level b a (slice_index other j) j (omega arith) in
    omega (arith, up, down))
