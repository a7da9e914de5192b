-- The instances of a level can run at once.
use Rattle.std.proofs.Common.{◌≡◌, ◌≢◌, ℕ, zero, suc, ◌+◌, ◌<◌, ◌≤◌, ◌==◌, ◌&&◌, Bool, true, List, [], ◌∷◌, length, Some, get_or, slice_get, sym, ◌∙◌, ap, refl, arith, subst, eq-eqb}
use Rattle.std.specs.List.{IsAmong}
use Rattle.std.proofs.lemmas.Bool.{eqb-true}
use Rattle.std.proofs.lemmas.Option.{slice_get-get_or, none-some}
use Rattle.aol_shape.specs.Lists.{numbers_from, numbers_below}
use Rattle.aol_flat.specs.InstanceNeed.{AreLevelsOf}
use Rattle.aol_flat.specs.Laid.{Laid, IsLaid}
use Rattle.aol_flat.specs.Net.{Net, IsNetOf}
use Rattle.aol_flat.specs.Accept.{IsSound, IsAccepted}
use Rattle.aol_flat.proofs.Agree.{IsAmong-tail}
use Rattle.aol_flat.proofs.Among.{among_flat_map, get_among}
use Rattle.aol_flat.proofs.Inside.{flat_map_among, numbers_among}
use Rattle.aol_flat.proofs.Names.{both-true}
use Rattle.aol_flat_laws.proofs.Apart.{Apart, first_among, filtered_among, among_filtered, apart_filter, apart_flat_map, once_of_apart, number_above}
use Rattle.aol_level.specs.Round.{AreIndependent, CanRunAtOnce}
use Rattle.aol_runner.specs.Order.{instances_on, level_instances}
use Rattle.aol_runner.proofs.Aligned.{some_injective}
use Rattle.aol_runner.proofs.Nets.{net_exists}
use Rattle.aol_runner.proofs.Writers.{nets_have_writers, nets_are_levelled}

-- ---- related lists

-- what is related by less is so by more
apart_weaker : {X : Type 0} (S R : X → X → Type 0) (xs : List X) → Apart S xs → ((x y : X) → IsAmong xs x → IsAmong xs y → S x y → R x y) → Apart R xs
apart_weaker S R [] h k = tt
apart_weaker S R (x ∷ xs) h k = (λ y a. k x y (first_among x xs) (IsAmong-tail x xs y a) (h.0 y a), apart_weaker S R xs h.1 (λ y z a b. k y z (IsAmong-tail x xs y a) (IsAmong-tail x xs z b)))

-- what stands at two places in order is related
apart_at : {X : Type 0} (R : X → X → Type 0) (xs : List X) → Apart R xs → (i k : ℕ) (x y : X) → i < k → slice_get xs i ≡ Some x → slice_get xs k ≡ Some y → R x y
apart_at R [] h i k x y lt a b = absurd (none-some x a)
apart_at R (z ∷ xs) h i zero x y lt a b = absurd (omega (arith, lt))
apart_at R (z ∷ xs) h zero (suc k) x y lt a b =
    let e : z ≡ x = some_injective z x a in
    subst (λ w. R w y) e (h.0 y (get_among xs k y b))
apart_at R (z ∷ xs) h (suc i) (suc k) x y lt a b = apart_at R xs h.1 i k x y (omega (arith, lt)) a b

numbers_rise : (n a : ℕ) → Apart (λ (x y : ℕ). x < y) (numbers_from a n)
numbers_rise zero a = tt
numbers_rise (suc n) a = (λ j h. (let r = number_above n (a + 1) j h in omega (arith, r.0)), numbers_rise n (a + 1))

-- ---- the instances of a level

module _ (levels workers : List ℕ) (many level : ℕ) where
  abbrev keeps : ℕ → ℕ → Bool
  keeps w j = (get_or workers j 0 == w) && (get_or levels j 0 == level)

  pub record IsOfLevel (j : ℕ) : Type 0 where
    pub within : j < length levels
    pub here : get_or levels j 0 ≡ level

  on_worker : (w j : ℕ) → IsAmong (instances_on levels workers level w) j → (get_or workers j 0 ≡ w) × IsOfLevel j
  on_worker w j a =
      let k = filtered_among (keeps w) (numbers_below (length levels)) j a in
      let both = both-true (get_or workers j 0 == w) (get_or levels j 0 == level) k.1 in
      let under = (number_above (length levels) 0 j k.0).1 in
      (eqb-true (get_or workers j 0) w both.0, record { within = omega (arith, under); here = eqb-true (get_or levels j 0) level both.1 })

  pub of_level : (j : ℕ) → IsAmong (level_instances levels workers many level) j → IsOfLevel j
  of_level j a = let x = among_flat_map (instances_on levels workers level) (numbers_below many) j a in (on_worker x.0 j x.2).1

  pub in_level : (j : ℕ) → IsOfLevel j → get_or workers j 0 < many → IsAmong (level_instances levels workers many level) j
  in_level j o below =
      let w : ℕ = get_or workers j 0 in
      let kept : keeps w j ≡ true = ap (λ b. b && (get_or levels j 0 == level)) (eq-eqb w w refl) ∙ eq-eqb (get_or levels j 0) level o.here in
      flat_map_among (instances_on levels workers level) (numbers_below many) w j (numbers_among many 0 w (omega arith) (omega (arith, below)))
      (among_filtered (keeps w) (numbers_below (length levels)) j (numbers_among (length levels) 0 j (omega arith) (omega (arith, o.within))) kept)

  -- worker by worker, and each once
  abbrev Comes : ℕ → ℕ → Type 0
  Comes x y = (get_or workers x 0 ≤ get_or workers y 0) × (x ≢ y)

  rises_on : (w : ℕ) → Apart Comes (instances_on levels workers level w)
  rises_on w =
      apart_weaker (λ (x y : ℕ). x < y) Comes (instances_on levels workers level w) (apart_filter (λ (x y : ℕ). x < y) (keeps w) (numbers_below (length levels)) (numbers_rise (length levels) 0))
      (λ x y a b lt.
      let at = (on_worker w x a).0 in
      let at' = (on_worker w y b).0 in
      (omega (arith, at, at'), λ e. omega (arith, lt, e)))

  rises : Apart Comes (level_instances levels workers many level)
  rises =
      apart_flat_map (λ (v w : ℕ). v < w) Comes (instances_on levels workers level) (numbers_below many) (numbers_rise many 0) (λ w a. rises_on w)
      (λ v w i k lt x y a b.
      let at = (on_worker v x a).0 in
      let at' = (on_worker w y b).0 in
      (omega (arith, at, at', lt), λ e. (let same : get_or workers x 0 ≡ get_or workers y 0 = ap (λ j. get_or workers j 0) e in omega (arith, at, at', lt, same))))

  pub by_worker : (i j k : ℕ) → slice_get (level_instances levels workers many level) i ≡ Some j → slice_get (level_instances levels workers many level) (i + 1) ≡ Some k → get_or workers j 0 ≤ get_or workers k 0
  by_worker i j k a b = (apart_at Comes (level_instances levels workers many level) rises i (i + 1) j k (omega arith) a b).0

  pub stands_once : (i k j : ℕ) → slice_get (level_instances levels workers many level) i ≡ Some j → slice_get (level_instances levels workers many level) k ≡ Some j → i ≡ k
  stands_once i k j a b =
      once_of_apart (level_instances levels workers many level) (apart_weaker Comes (λ (x y : ℕ). x ≢ y) (level_instances levels workers many level) rises (λ x y c d both. both.1)) i k j a b

  pub level_at : (j : ℕ) → IsOfLevel j → slice_get levels j ≡ Some level
  level_at j o = slice_get-get_or levels j 0 o.within ∙ ap (λ l. Some l) o.here

module _ (f : Laid) (levels workers : List ℕ) (many level : ℕ) (sound : IsSound f.model) (accepted : IsAccepted f.model) (laid : IsLaid f) (are : AreLevelsOf f.model levels) where
  independent : (net : Net) → IsNetOf f net → AreIndependent net (level_instances levels workers many level)
  independent net is_net = record {
    one_writer = λ i j k n c a b h h'.
        let writers = nets_have_writers f net sound accepted laid is_net in
        let pairs : Some (i, k) ≡ Some (j, n) = sym (writers.1.one c i k h) ∙ writers.1.one c j n h' in
        let pair : (i, k) ≡ (j, n) = some_injective (i, k) (j, n) pairs in
        (ap (λ (p : ℕ × ℕ). p.0) pair, ap (λ (p : ℕ × ℕ). p.1) pair);
    unread = λ i j k n c a b r h.
        let levelled = nets_are_levelled f net levels sound accepted laid is_net are in
        let less = levelled.above i k c j n level level r h (level_at levels workers many level i (of_level levels workers many level i a)) (level_at levels workers many level j (of_level levels workers many level j b)) in
        omega (arith, less);
  }

  level_runs : CanRunAtOnce f workers (level_instances levels workers many level)
  level_runs =
      let net = net_exists f sound accepted laid in
      record {
        within = λ i j a. (let o = of_level levels workers many level j (get_among (level_instances levels workers many level) i j a) in omega (arith, o.within, are.many));
        once = stands_once levels workers many level;
        by_worker = by_worker levels workers many level;
        net = net.0;
        is_net = net.1;
        independent = independent net.0 net.1;
      }

  pub can_run : (at_once : List ℕ) → at_once ≡ level_instances levels workers many level → CanRunAtOnce f workers at_once
  can_run at_once is = let P : List ℕ → Type 0 = λ xs. CanRunAtOnce f workers xs in subst P (sym is) level_runs
