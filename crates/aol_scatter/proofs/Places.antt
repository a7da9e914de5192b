-- Lists of cells after a claim, a put and a settlement, and those of a whole field.
use Rattle.std.proofs.Common.{◌≡◌, ℕ, zero, suc, ◌+◌, ◌-◌, ◌<◌, ◌≤◌, ◌⊎◌, List, [], ◌∷◌, ◌++◌, map, length, get_or, set, replicate, Option, Some, None, Bool, true, false, eqb, ◌||◌, cond, refl, sym, ap, ◌∙◌, subst, arith, All, Contains}
use Rattle.std.proofs.lemmas.List.{get_or-set_same, get_or-set_other, get_or-replicate, length-map, length-replicate}
use Rattle.std.proofs.lemmas.Bool.{eq-eqb, eqb-true, ne_eqb, cases_eq, false≢true}
use mathlib.Core.Logic.{inl, inr}
use Rattle.core.specs.List.{cons_option}
use Rattle.aol_scatter.specs.Cells.{is_listed, AreDistinct, cell, IsHeld, IsWhole, HoldsOnly, without, without_from, picked, picked_from, later, merged, values_held, values_at}
use Rattle.aol_scatter.proofs.Memory.{held_within}

or_true : (x : Bool) → (x || true) ≡ true
or_true true = refl
or_true false = refl

same_either_way : {X : Type 0} (t : Bool) (x : X) → cond t x x ≡ x
same_either_way true x = refl
same_either_way false x = refl

listed : (ns : List ℕ) (j : ℕ) → j < length ns → is_listed (get_or ns j 0) ns ≡ true
listed [] j lt = absurd (omega arith)
listed (n ∷ ns) zero lt = ap (λ t. t || is_listed n ns) (eq-eqb n n refl)
listed (n ∷ ns) (suc j) lt = ap (λ t. eqb (get_or ns j 0) n || t) (listed ns j (omega arith)) ∙ or_true (eqb (get_or ns j 0) n)

pub any_default : (ks : List ℕ) (j a d : ℕ) → j < length ks → get_or ks j a ≡ get_or ks j d
any_default [] j a d lt = absurd (omega arith)
any_default (k ∷ ks) zero a d lt = refl
any_default (k ∷ ks) (suc j) a d lt = any_default ks j a d (omega arith)

pub contained : (k : ℕ) (ns : List ℕ) → is_listed k ns ≡ true → Contains ns k
contained k [] e = absurd (false≢true e)
contained k (n ∷ ns) e = goes (eqb k n) refl (contained k ns)
  where
    goes : (t : Bool) → eqb k n ≡ t → (is_listed k ns ≡ true → Contains ns k) → Contains (n ∷ ns) k
    goes true same later = (0, omega arith, sym (eqb-true k n same))
    goes false other later = let at = later (sym (ap (λ t. t || is_listed k ns) other) ∙ e) in (suc at.0, omega (arith, at.1), at.2)

pub listed_at : (k : ℕ) (ns : List ℕ) → Contains ns k → is_listed k ns ≡ true
listed_at k ns at = ap (λ i. is_listed i ns) (sym at.2 ∙ any_default ns at.0 k 0 at.1) ∙ listed ns at.0 at.1

pub unlisted : (k : ℕ) (ns : List ℕ) → ¬ Contains ns k → is_listed k ns ≡ false
unlisted k [] out = refl
unlisted k (n ∷ ns) out = ap (λ t. t || is_listed k ns) (ne_eqb k n (λ e. out (0, omega arith, sym e))) ∙ unlisted k ns (λ at. out (suc at.0, omega (arith, at.1), at.2))

distinct_rest : (k : ℕ) (ks : List ℕ) → AreDistinct (k ∷ ks) → AreDistinct ks
distinct_rest k ks apart = λ i j d lt inside. apart (suc i) (suc j) d (omega arith) (omega arith)

same_map : {Y : Type 0} (f g : ℕ → Y) (ks : List ℕ) → ((j : ℕ) → j < length ks → f (get_or ks j 0) ≡ g (get_or ks j 0)) → map f ks ≡ map g ks
same_map f g [] same = refl
same_map f g (k ∷ ks) same = ap (λ y. y ∷ map f ks) (same 0 (omega arith)) ∙ ap (λ l. g k ∷ l) (same_map f g ks (λ j lt. same (suc j) (omega arith)))

module _ {X : Type 0} where
  abbrev Holds : List (Option X) → List ℕ → Type 0
  Holds cs ks = All (λ k. IsHeld cs k) ks

  holds_rest : (cs : List (Option X)) (k : ℕ) (ks : List ℕ) → Holds cs (k ∷ ks) → Holds cs ks
  holds_rest cs k ks all = λ j d lt. all (suc j) d (omega arith)

  get_or-picked : (i : ℕ) (ns : List ℕ) (cs : List (Option X)) (k : ℕ) → cell (picked_from i ns cs) k ≡ cond (is_listed (i + k) ns) (cell cs k) None
  get_or-picked i ns [] k = sym (same_either_way (is_listed (i + k) ns) None)
  get_or-picked i ns (c ∷ cs) zero = let same : i ≡ i + 0 = omega arith in ap (λ m. cond (is_listed m ns) c None) same
  get_or-picked i ns (c ∷ cs) (suc k) = let same : i + 1 + k ≡ i + suc k = omega arith in get_or-picked (i + 1) ns cs k ∙ ap (λ m. cond (is_listed m ns) (cell cs k) None) same

  get_or-without : (i : ℕ) (ns : List ℕ) (cs : List (Option X)) (k : ℕ) → cell (without_from i ns cs) k ≡ cond (is_listed (i + k) ns) None (cell cs k)
  get_or-without i ns [] k = sym (same_either_way (is_listed (i + k) ns) None)
  get_or-without i ns (c ∷ cs) zero = let same : i ≡ i + 0 = omega arith in ap (λ m. cond (is_listed m ns) None c) same
  get_or-without i ns (c ∷ cs) (suc k) = let same : i + 1 + k ≡ i + suc k = omega arith in get_or-without (i + 1) ns cs k ∙ ap (λ m. cond (is_listed m ns) None (cell cs k)) same

  picked_at : (ns : List ℕ) (cs : List (Option X)) (k : ℕ) → cell (picked ns cs) k ≡ cond (is_listed k ns) (cell cs k) None
  picked_at ns cs k = let same : 0 + k ≡ k = omega arith in get_or-picked 0 ns cs k ∙ ap (λ m. cond (is_listed m ns) (cell cs k) None) same

  pub without_at : (ns : List ℕ) (cs : List (Option X)) (k : ℕ) → cell (without ns cs) k ≡ cond (is_listed k ns) None (cell cs k)
  without_at ns cs k = let same : 0 + k ≡ k = omega arith in get_or-without 0 ns cs k ∙ ap (λ m. cond (is_listed m ns) None (cell cs k)) same

  get_or-merged : (cs ds : List (Option X)) (k : ℕ) → length ds ≤ length cs → cell (merged cs ds) k ≡ later (cell cs k) (cell ds k)
  get_or-merged [] [] k le = refl
  get_or-merged [] (d ∷ ds) k le = absurd (omega arith)
  get_or-merged (c ∷ cs) [] k le = refl
  get_or-merged (c ∷ cs) (d ∷ ds) zero le = refl
  get_or-merged (c ∷ cs) (d ∷ ds) (suc k) le = get_or-merged cs ds k (omega arith)

  values_same : (cs ds : List (Option X)) (ks : List ℕ) → ((j : ℕ) → j < length ks → cell cs (get_or ks j 0) ≡ cell ds (get_or ks j 0)) → values_at cs ks ≡ values_at ds ks
  values_same cs ds [] same = refl
  values_same cs ds (k ∷ ks) same = ap (λ o. cons_option o (values_at cs ks)) (same 0 (omega arith)) ∙ ap (λ l. cons_option (cell ds k) l) (values_same cs ds ks (λ j lt. same (suc j) (omega arith)))

  map_values : (cs : List (Option X)) (ks : List ℕ) → Holds cs ks → map Some (values_at cs ks) ≡ map (λ k. cell cs k) ks
  map_values cs [] all = refl
  map_values cs (k ∷ ks) all =
      let here = all 0 0 (omega arith) in let x = here.0 in
      ap (λ o. map Some (cons_option o (values_at cs ks))) here.1 ∙ ap (λ l. Some x ∷ l) (map_values cs ks (holds_rest cs k ks all)) ∙ ap (λ o. o ∷ map (λ m. cell cs m) ks) (sym here.1)

  -- a share has as many values as cells
  pub length-values : (cs : List (Option X)) (ks : List ℕ) → Holds cs ks → length (values_at cs ks) ≡ length ks
  length-values cs ks all = sym (length-map (values_at cs ks) Some) ∙ ap length (map_values cs ks all) ∙ length-map ks (λ k. cell cs k)

  -- at a get of a share
  pub value_get : (cs : List (Option X)) (ks : List ℕ) (j : ℕ) (x d : X) → Holds cs ks → j < length ks → cell cs (get_or ks j 0) ≡ Some x → get_or (values_at cs ks) j d ≡ x
  value_get cs [] j x d all lt e = absurd (omega arith)
  value_get cs (k ∷ ks) zero x d all lt e = ap (λ o. get_or (cons_option o (values_at cs ks)) 0 d) e
  value_get cs (k ∷ ks) (suc j) x d all lt e = let here = all 0 0 (omega arith) in
      ap (λ o. get_or (cons_option o (values_at cs ks)) (suc j) d) here.1 ∙ value_get cs ks j x d (holds_rest cs k ks all) (omega arith) e

  -- at a put
  pub value_set : (cs : List (Option X)) (ks : List ℕ) (j : ℕ) (v : X) → AreDistinct ks → Holds cs ks → j < length ks → values_at (set cs (get_or ks j 0) (Some v)) ks ≡ set (values_at cs ks) j v
  value_set cs [] j v apart all lt = absurd (omega arith)
  value_set cs (k ∷ ks) zero v apart all lt =
      let here = all 0 0 (omega arith) in let rest = values_at cs ks in let ds = set cs k (Some v) in
      ap (λ o. cons_option o (values_at ds ks)) (get_or-set_same cs k (Some v) None (held_within cs k here.0 here.1))
      ∙ ap (λ l. v ∷ l) (values_same ds cs ks (λ i below. get_or-set_other cs k (get_or ks i 0) (Some v) None (λ e. apart 0 (suc i) 0 (omega arith) (omega arith) (sym e))))
      ∙ ap (λ o. set (cons_option o rest) 0 v) (sym here.1)
  value_set cs (k ∷ ks) (suc j) v apart all lt =
      let here = all 0 0 (omega arith) in let x = here.0 in let rest = values_at cs ks in let m = get_or ks j 0 in let ds = set cs m (Some v) in
      ap (λ o. cons_option o (values_at ds ks)) (get_or-set_other cs m k (Some v) None (apart 0 (suc j) 0 (omega arith) (omega arith)) ∙ here.1)
      ∙ ap (λ l. x ∷ l) (value_set cs ks j v (distinct_rest k ks apart) (holds_rest cs k ks all) (omega arith))
      ∙ ap (λ o. set (cons_option o rest) (suc j) v) (sym here.1)

  pub holds_set : (cs : List (Option X)) (ks : List ℕ) (m : ℕ) (v : X) → m < length cs → Holds cs ks → Holds (set cs m (Some v)) ks
  holds_set cs ks m v lt all = λ j d below. goes (get_or ks j d) (all j d below) (cases_eq (get_or ks j d) m)
    where
      goes : (k : ℕ) → IsHeld cs k → (k ≡ m) ⊎ (k ≡ m → ⊥) → IsHeld (set cs m (Some v)) k
      goes k held (inl e) = (v, ap (λ i. cell (set cs m (Some v)) i) e ∙ get_or-set_same cs m (Some v) None lt)
      goes k held (inr ne) = (held.0, get_or-set_other cs m k (Some v) None ne ∙ held.1)

  pub only_set : (cs : List (Option X)) (ks : List ℕ) (j : ℕ) (v : X) → j < length ks → HoldsOnly cs ks → HoldsOnly (set cs (get_or ks j 0) (Some v)) ks
  only_set cs ks j v lt only = λ k out. get_or-set_other cs (get_or ks j 0) k (Some v) None (λ e. false≢true (sym out ∙ ap (λ i. is_listed i ks) e ∙ listed ks j lt)) ∙ only k out

  -- at a claim
  picked_same : (cs : List (Option X)) (ks : List ℕ) (j : ℕ) → j < length ks → cell (picked ks cs) (get_or ks j 0) ≡ cell cs (get_or ks j 0)
  picked_same cs ks j lt = let k = get_or ks j 0 in picked_at ks cs k ∙ ap (λ t. cond t (cell cs k) None) (listed ks j lt)

  pub picked_holds : (cs : List (Option X)) (ks : List ℕ) → Holds cs ks → Holds (picked ks cs) ks
  picked_holds cs ks all = λ j d lt. let held = all j 0 lt in let here : IsHeld (picked ks cs) (get_or ks j 0) = (held.0, picked_same cs ks j lt ∙ held.1) in subst (λ k. IsHeld (picked ks cs) k) (any_default ks j 0 d lt) here

  pub picked_only : (cs : List (Option X)) (ks : List ℕ) → HoldsOnly (picked ks cs) ks
  picked_only cs ks = λ k out. picked_at ks cs k ∙ ap (λ t. cond t (cell cs k) None) out

  pub picked_values : (cs : List (Option X)) (ks : List ℕ) → Holds cs ks → map Some (values_at (picked ks cs) ks) ≡ map (λ k. cell cs k) ks
  picked_values cs ks all = ap (λ l. map Some l) (values_same (picked ks cs) cs ks (picked_same cs ks)) ∙ map_values cs ks all

  -- at a settlement
  pub merged_values : (cs ds : List (Option X)) (ks : List ℕ) → length ds ≤ length cs → Holds ds ks → map (λ k. cell (merged cs ds) k) ks ≡ map Some (values_at ds ks)
  merged_values cs ds ks le all =
      same_map (λ k. cell (merged cs ds) k) (λ k. cell ds k) ks (λ j lt. let k = get_or ks j 0 in let held = all j 0 lt in
      get_or-merged cs ds k le ∙ ap (λ o. later (cell cs k) o) held.1 ∙ sym held.1) ∙ sym (map_values ds ks all)

  pub merged_others : (cs ds : List (Option X)) (ks : List ℕ) → length ds ≤ length cs → HoldsOnly ds ks → (k : ℕ) → ¬ Contains ks k → cell (merged cs ds) k ≡ cell cs k
  merged_others cs ds ks le only k out = get_or-merged cs ds k le ∙ ap (λ o. later (cell cs k) o) (only k (unlisted k ks out))

  -- of a whole field
  whole_rest : (c : Option X) (cs : List (Option X)) → IsWhole (c ∷ cs) → IsWhole cs
  whole_rest c cs all = λ k lt. all (suc k) (omega arith)

  pub map_held : (cs : List (Option X)) → IsWhole cs → map Some (values_held cs) ≡ cs
  map_held [] all = refl
  map_held (c ∷ cs) all = let here = all 0 (omega arith) in
      ap (λ o. map Some (cons_option o (values_held cs))) here.1 ∙ ap (λ l. Some here.0 ∷ l) (map_held cs (whole_rest c cs all)) ∙ ap (λ o. o ∷ cs) (sym here.1)

  pub length-held : (cs : List (Option X)) → IsWhole cs → length (values_held cs) ≡ length cs
  length-held [] all = refl
  length-held (c ∷ cs) all = ap (λ o. length (cons_option o (values_held cs))) (all 0 (omega arith)).1 ∙ ap suc (length-held cs (whole_rest c cs all))

  pub get_or-held : (cs : List (Option X)) (k : ℕ) (x d : X) → IsWhole cs → cell cs k ≡ Some x → get_or (values_held cs) k d ≡ x
  get_or-held [] k x d all e = cc
  get_or-held (c ∷ cs) zero x d all e = ap (λ o. get_or (cons_option o (values_held cs)) 0 d) e
  get_or-held (c ∷ cs) (suc k) x d all e = ap (λ o. get_or (cons_option o (values_held cs)) (suc k) d) (all 0 (omega arith)).1 ∙ get_or-held cs k x d (whole_rest c cs all) e

  pub filled_whole : (n : ℕ) (x : X) → IsWhole (replicate n (Some x))
  filled_whole n x = λ k lt. (x, get_or-replicate n k (Some x) None (omega (arith, lt, length-replicate n (Some x))))

  pub filled_values : (n : ℕ) (x : X) → values_held (replicate n (Some x)) ≡ replicate n x
  filled_values zero x = refl
  filled_values (suc n) x = ap (λ l. x ∷ l) (filled_values n x)

  filled_more : (k m : ℕ) (a : X) → set (replicate k (Some a) ++ replicate (suc m) None) k (Some a) ≡ replicate (suc k) (Some a) ++ replicate m None
  filled_more zero m a = refl
  filled_more (suc k) m a = ap (λ l. Some a ∷ l) (filled_more k m a)

  pub filled_next : (k n : ℕ) (a : X) → k < n → set (replicate k (Some a) ++ replicate (n - k) None) k (Some a) ≡ replicate (k + 1) (Some a) ++ replicate (n - (k + 1)) None
  filled_next k n a lt =
      let left : n - k ≡ suc (n - (k + 1)) = omega arith in let next : suc k ≡ k + 1 = omega arith in
      ap (λ m. set (replicate k (Some a) ++ replicate m None) k (Some a)) left ∙ filled_more k (n - (k + 1)) a ∙ ap (λ i. replicate i (Some a) ++ replicate (n - (k + 1)) None) next
