-- Where no element needs itself, the instances have levels.
use Rattle.std.proofs.Common.{◌≡◌, ℕ, ◌<◌, Bool, true, false, ◌&&◌, ◌==◌, List, [], ◌∷◌, length, filter, Option, Some, None, slice_get, sym, ◌∙◌, ap, refl, arith, subst}
use Rattle.std.specs.Prelude.{slice_index}
use Rattle.std.specs.List.{IsAmong, list_any}
use Rattle.std.proofs.lemmas.Bool.{eqb-true, eq-eqb}
use Rattle.std.proofs.lemmas.Option.{slice_get_within}
use Rattle.aol_shape.specs.Lists.{same, numbers_below}
use Rattle.aol_model_types.specs.declared.document.Model.{Model}
use Rattle.aol_flat.specs.Place.{Place, Down, IntoPart, IntoRepetition, Element}
use Rattle.aol_flat.specs.Home.{Home, Kept, Constant, NoHome, home_of}
use Rattle.aol_flat.specs.Instance.{Instance, instances, read_elements, written_elements}
use Rattle.aol_flat.specs.InstanceNeed.{InstanceNeeds, AreLevelsOf, IsInCycle}
use Rattle.aol_flat.specs.Level.{above_all}
use Rattle.aol_flat.specs.Targets.{IsSingleAssignment}
use Rattle.aol_flat.specs.Accept.{IsSound, AcyclicIsLevelled}
use Rattle.aol_flat.proofs.Inside.{numbers_among}
use Rattle.aol_flat.proofs.Names.{both-true, same-self, same-equal}
use Rattle.aol_flat.proofs.Numbered.{agreeing_levels_are_acyclic}
use Rattle.aol_flat.proofs.Real.{sound_is_real, accepted_has_no_cycle}
use Rattle.aol_flat.proofs.SourceRight.{same_element}
use Rattle.aol_flat_laws.proofs.Apart.{filtered_among, among_filtered, number_above}
use Rattle.aol_flat_laws.proofs.LevelsBridge.{above_each, above_one, no_level}
use Rattle.aol_flat_laws.proofs.OneWriter.{reached_home, read_there, written_there, one_home}
use Rattle.aol_flat_laws.proofs.WrittenHome.{written_home}
use Rattle.aol_flat_laws.proofs.Rounds.{any_of, of_any, rounds_end}

-- ---- elements are compared

abbrev same_step : Down → Down → Bool
same_step (IntoPart j) (IntoPart k) = j == k
same_step (IntoPart j) (IntoRepetition r) = false
same_step (IntoRepetition r) (IntoPart k) = false
same_step (IntoRepetition r) (IntoRepetition s) = same r s

abbrev same_place : Place → Place → Bool
same_place [] [] = true
same_place [] (e ∷ q) = false
same_place (d ∷ p) [] = false
same_place (d ∷ p) (e ∷ q) = same_step d e && same_place p q

abbrev is_one : Element → Element → Bool
is_one a b = same_place a.place b.place && (same a.port b.port && same a.index b.index)

step_equal : (d e : Down) → same_step d e ≡ true → d ≡ e
step_equal (IntoPart j) (IntoPart k) h = ap (λ n. IntoPart n) (eqb-true j k h)
step_equal (IntoPart j) (IntoRepetition r) h = cc
step_equal (IntoRepetition r) (IntoPart k) h = cc
step_equal (IntoRepetition r) (IntoRepetition s) h = ap (λ n. IntoRepetition n) (same-equal r s h)

place_equal : (p q : Place) → same_place p q ≡ true → p ≡ q
place_equal [] [] h = refl
place_equal [] (e ∷ q) h = cc
place_equal (d ∷ p) [] h = cc
place_equal (d ∷ p) (e ∷ q) h =
    let parts = both-true (same_step d e) (same_place p q) h in
    let first : d ≡ e = step_equal d e parts.0 in
    let rest : p ≡ q = place_equal p q parts.1 in
    cc

one_equal : (a b : Element) → is_one a b ≡ true → a ≡ b
one_equal a b h =
    let first = both-true (same_place a.place b.place) (same a.port b.port && same a.index b.index) h in
    let rest = both-true (same a.port b.port) (same a.index b.index) first.1 in
    same_element a b (place_equal a.place b.place first.0) (same-equal a.port b.port rest.0) (same-equal a.index b.index rest.1)

step_self : (d : Down) → same_step d d ≡ true
step_self (IntoPart k) = eq-eqb k k refl
step_self (IntoRepetition r) = same-self r

place_self : (p : Place) → same_place p p ≡ true
place_self [] = refl
place_self (d ∷ p) = ap (λ b. b && same_place p p) (step_self d) ∙ place_self p

one_self : (a : Element) → is_one a a ≡ true
one_self a = ap (λ b. b && (same a.port a.port && same a.index a.index)) (place_self a.place) ∙ (ap (λ b. b && same a.index a.index) (same-self a.port) ∙ same-self a.index)

-- two homes are one element
abbrev one_place : Home → Home → Bool
one_place (Kept a) (Kept b) = is_one a b
one_place (Kept a) (Constant n) = false
one_place (Kept a) NoHome = false
one_place (Constant n) h = false
one_place NoHome h = false

kept_both : (a b : Home) → one_place a b ≡ true → (h : Element) × (a ≡ Kept h) × (b ≡ Kept h)
kept_both (Kept a) (Kept b) h = (a, refl, ap (λ x. Kept x) (sym (one_equal a b h)))
kept_both (Kept a) (Constant n) h = cc
kept_both (Kept a) NoHome h = cc
kept_both (Constant n) b h = cc
kept_both NoHome b h = cc

-- ---- needs are decided

abbrev of_instance : (Instance → List Element) → Option Instance → List Element
of_instance f None = []
of_instance f (Some i) = f i

of_some : (f : Instance → List Element) (o : Option Instance) (e : Element) → IsAmong (of_instance f o) e → (i : Instance) × (o ≡ Some i) × IsAmong (f i) e
of_some f None e a = absurd (omega (arith, a.1.0))
of_some f (Some i) e a = (i, refl, a)

module _ (m : Model) where
  abbrev reads_of : ℕ → List Element
  reads_of j = of_instance (read_elements m) (slice_get (instances m) j)

  abbrev writes_of : ℕ → List Element
  writes_of k = of_instance (written_elements m) (slice_get (instances m) k)

  abbrev is_needed : ℕ → ℕ → Bool
  is_needed j k = list_any (λ (p : Element). list_any (λ (e : Element). one_place (home_of m p) (home_of m e)) (writes_of k)) (reads_of j)

  abbrev needs : ℕ → List ℕ
  needs j = filter (is_needed j) (numbers_below (length (instances m)))

  needs_within : (j k : ℕ) → IsAmong (needs j) k → k < length (instances m)
  needs_within j k a =
      let r = number_above (length (instances m)) 0 k (filtered_among (is_needed j) (numbers_below (length (instances m))) k a).0 in
      omega (arith, r.1)

  module _ (sound : IsSound m) (single : IsSingleAssignment m) where
    need_of : (j k : ℕ) → IsAmong (needs j) k → InstanceNeeds m j k
    need_of j k a =
        let p = any_of (λ (x : Element). list_any (λ (e : Element). one_place (home_of m x) (home_of m e)) (writes_of k)) (reads_of j)
        (filtered_among (is_needed j) (numbers_below (length (instances m))) k a).1 in
        let e = any_of (λ (x : Element). one_place (home_of m p.0) (home_of m x)) (writes_of k) p.2 in
        let homes = kept_both (home_of m p.0) (home_of m e.0) e.2 in
        let reader = of_some (read_elements m) (slice_get (instances m) j) p.0 p.1 in
        let writer = of_some (written_elements m) (slice_get (instances m) k) e.0 e.1 in
        let there = written_there m sound single writer.0 (sound_is_real m sound k writer.0 writer.1) e.0 writer.2 in
        record {
          reader = reader.0;
          writer = writer.0;
          at_reader = reader.1;
          at_writer = writer.1;
          read = p.0;
          written = e.0;
          among_reads = reader.2;
          among_writes = writer.2;
          joined = one_home m sound single p.0 e.0 homes.0 (read_there m sound reader.0 (sound_is_real m sound j reader.0 reader.1) p.0 reader.2) there.0 there.1 homes.1 homes.2;
        }

    of_need : (j k : ℕ) → InstanceNeeds m j k → IsAmong (needs j) k
    of_need j k n =
        let P : Option Instance → Type 0 = λ o. IsAmong (of_instance (read_elements m) o) n.read in
        let Q : Option Instance → Type 0 = λ o. IsAmong (of_instance (written_elements m) o) n.written in
        let reads : IsAmong (reads_of j) n.read = subst P (sym n.at_reader) n.among_reads in
        let writes : IsAmong (writes_of k) n.written = subst Q (sym n.at_writer) n.among_writes in
        let kept = written_home m sound single n.writer (sound_is_real m sound k n.writer n.at_writer) n.written n.among_writes in
        let passes : one_place (home_of m n.read) (home_of m n.written) ≡ true =
        ap (λ h. one_place h (home_of m n.written)) (reached_home m sound n.read n.written n.joined ∙ kept.1) ∙ (ap (one_place (Kept kept.0)) kept.1 ∙ one_self kept.0) in
        let within : k < length (instances m) = slice_get_within (instances m) k n.writer n.at_writer in
        among_filtered (is_needed j) (numbers_below (length (instances m))) k (numbers_among (length (instances m)) 0 k (omega arith) (omega (arith, within)))
        (of_any (λ (x : Element). list_any (λ (e : Element). one_place (home_of m x) (home_of m e)) (writes_of k)) (reads_of j) n.read reads
        (of_any (λ (e : Element). one_place (home_of m n.read) (home_of m e)) (writes_of k) n.written writes passes))

    levels_of : ((j : ℕ) → IsInCycle m j → ⊥) → (level : List ℕ) × AreLevelsOf m level
    levels_of straight =
        let r = rounds_end (length (instances m)) needs needs_within
        (λ set j a on. straight j (record { set = set; within = a; goes_on = λ i b. let k = on i b in (k.0, k.1, need_of i k.0 k.2) })) in (
          r.0,
          record {
            many = r.1;
            above = λ j k n.
                let under : j < length (instances m) = slice_get_within (instances m) j n.reader n.at_reader in
                let each : slice_index r.0 j ≡ above_all r.0 (needs j) = r.2 j under in
                omega (arith, each, above_each r.0 (needs j) k (of_need j k n));
            least = λ j some.
                let under : j < length r.0 = no_level r.0 j some in
                let each : slice_index r.0 j ≡ above_all r.0 (needs j) = r.2 j (omega (arith, under, r.1)) in
                let k = above_one r.0 (needs j) (omega (arith, each, some)) in
                (k.0, need_of j k.0 k.1, each ∙ k.2);
          },
        )

pub acyclic_is_levelled : AcyclicIsLevelled
acyclic_is_levelled m sound limits single given = (
  λ acyclic. levels_of m sound single (accepted_has_no_cycle m sound (record { shapes = sound.shapes; limits = limits; single = single; given = given; acyclic = acyclic })),
  λ l. agreeing_levels_are_acyclic m sound.shapes l.0 l.1,
)
