-- Cells that are claimed list by list, and settled again.
use Rattle.std.proofs.Common.{◌≡◌, ℕ, suc, ◌+◌, ◌<◌, Bool, true, false, cond, List, [], ◌∷◌, ◌++◌, map, flat_map, length, get_or, slice_get, Option, Some, None, refl, sym, ◌∙◌, ap, subst, arith, All, Contains}
use Rattle.std.proofs.lemmas.Bool.{false≢true}
use Rattle.std.proofs.lemmas.List.{append_assoc, map-append}
use Rattle.aol_scatter.specs.Cells.{is_listed, cell, IsHeld, without, without_from}
use Rattle.aol_scatter.proofs.Places.{contained, listed_at, unlisted, without_at}
use Rattle.aol_level.specs.Claims.{without_all, CanClaim}
use Rattle.aol_level.proofs.Lists.{Has, StandsOnce, get_map, map_get, all_has, has_all, has_head, has_tail, has_left, has_right, has_flat, flat_has, contains_has, has_contains, once_left, once_right, once_apart, once_distinct}

module _ {X : Type 0} where
  length-without_from : (i : ℕ) (ns : List ℕ) (cs : List (Option X)) → length (without_from i ns cs) ≡ length cs
  length-without_from i ns [] = refl
  length-without_from i ns (c ∷ cs) = ap suc (length-without_from (i + 1) ns cs)

  pub length-without_all : (ls : List (List ℕ)) (cs : List (Option X)) → length (without_all ls cs) ≡ length cs
  length-without_all [] cs = refl
  length-without_all (l ∷ ls) cs = length-without_all ls (without l cs) ∙ length-without_from 0 l cs

  not_listed : (l : List ℕ) (cs : List (Option X)) (k : ℕ) → (Has l k → ⊥) → cell (without l cs) k ≡ cell cs k
  not_listed l cs k out = without_at l cs k ∙ ap (λ t. cond t None (cell cs k)) (unlisted k l (λ a. out (contains_has l k a)))

  -- a cell of no list is as it was
  pub without_none : (ls : List (List ℕ)) (cs : List (Option X)) (k : ℕ) → ((l : List ℕ) → Has ls l → Has l k → ⊥) → cell (without_all ls cs) k ≡ cell cs k
  without_none [] cs k out = refl
  without_none (l ∷ ls) cs k out = without_none ls (without l cs) k (λ m a. out m (has_tail l m ls a)) ∙ not_listed l cs k (out l (has_head l ls))

  -- lists without a number in common can be claimed, where their cells are held
  pub can_claim : {J : Type 0} (cells : J → List ℕ) (ps : List J) (cs : List (Option X)) → StandsOnce (flat_map cells ps) → ((c : ℕ) → Has (flat_map cells ps) c → IsHeld cs c) → CanClaim cs (map cells ps)
  can_claim cells [] cs once held = tt
  can_claim cells (p ∷ ps) cs once held = (
    once_distinct (cells p) (once_left (cells p) (flat_map cells ps) once),
    all_has (λ k. IsHeld cs k) (cells p) (λ k a. held k (has_left (cells p) (flat_map cells ps) k a)),
    can_claim cells ps (without (cells p) cs) (once_right (cells p) (flat_map cells ps) once)
        (λ c a.
        let there = held c (has_right (cells p) (flat_map cells ps) c a) in
        (there.0, not_listed (cells p) cs c (λ b. once_apart (cells p) (flat_map cells ps) once c b a) ∙ there.1)),
  )

-- after all jobs are settled
module _ {J X : Type 0} (cells : J → List ℕ) (values : J → List X) (js : List J) (old mid new : List (Option X)) (claimed : mid ≡ without_all (map cells js) old)
    (settled : All (λ j. map (λ k. cell new k) (cells j) ≡ map Some (values j)) js) (others : (k : ℕ) → All (λ j. ¬ Contains (cells j) k) js → cell new k ≡ cell mid k) where
  -- a cell of no job is as it was
  pub elsewhere : (c : ℕ) → ((j : J) → Has js j → Has (cells j) c → ⊥) → cell new c ≡ cell old c
  elsewhere c out =
      others c (all_has (λ j. ¬ Contains (cells j) c) js (λ j a b. out j a (contains_has (cells j) c b)))
      ∙ (ap (λ cs. cell cs c) claimed
      ∙ without_none (map cells js) old c (λ l a b. let j = map_get cells js a.0 l a.1 in out j.0 (a.0, j.1) (subst (λ m. Has m c) (sym j.2) b)))

  -- a cell of a job holds a value
  pub there : (j : J) → Has js j → (k c : ℕ) → slice_get (cells j) k ≡ Some c → (x : X) × (slice_get (values j) k ≡ Some x) × (cell new c ≡ Some x)
  there j a k c at =
      let same = has_all (λ i. map (λ n. cell new n) (cells i) ≡ map Some (values i)) js j settled a in
      let got : slice_get (map Some (values j)) k ≡ Some (cell new c) = ap (λ l. slice_get l k) (sym same) ∙ get_map (λ n. cell new n) (cells j) k c at in
      let x = map_get Some (values j) k (cell new c) got in
      (x.0, x.1, sym x.2)

  -- so every cell is held again
  pub whole_again : (n : ℕ) → ((c : ℕ) → c < n → IsHeld old c) → (c : ℕ) → c < n → IsHeld new c
  whole_again n held c lt = go (is_listed c (flat_map cells js)) refl
    where
      go : (t : Bool) → is_listed c (flat_map cells js) ≡ t → IsHeld new c
      go true e =
          let a = flat_has cells js c (contains_has (flat_map cells js) c (contained c (flat_map cells js) e)) in
          let x = there a.0 a.1 a.2.0 c a.2.1 in
          (x.0, x.2)
      go false e =
          let h = held c lt in
          (h.0, elsewhere c (λ j a b. false≢true (sym e ∙ listed_at c (flat_map cells js) (has_contains (flat_map cells js) c (has_flat cells js j c a b)))) ∙ h.1)

-- equal maps of two lists with the same items at each place
pub same_mapped : {A B : Type 0} (h : A → B) (xs ys : List A) → length ys ≡ length xs → ((k : ℕ) (d : A) → k < length xs → h (get_or ys k d) ≡ h (get_or xs k d)) → map h ys ≡ map h xs
same_mapped h [] [] many each = refl
same_mapped h [] (y ∷ ys) many each = absurd (omega (arith, many))
same_mapped h (x ∷ xs) [] many each = absurd (omega (arith, many))
same_mapped {B = B} h (x ∷ xs) (y ∷ ys) many each =
    ap (λ (b : B). b ∷ map h ys) (each 0 x (omega arith)) ∙ ap (λ (bs : List B). h x ∷ bs) (same_mapped h xs ys (omega (arith, many)) (λ k d lt. each (suc k) d (omega (arith, lt))))

-- one item more on the one side, and one less on the other
pub moved_over : {A B C : Type 0} (f : A → C) (g : B → C) (js more : List A) (ps less : List B) (j : A) (p : B) (all : List C) → more ≡ js ++ j ∷ [] → ps ≡ p ∷ less → f j ≡ g p → map f js ++ map g ps ≡ all
    → map f more ++ map g less ≡ all
moved_over {A} {B} {C} f g js more ps less j p all grown taken same was =
    ap (λ (xs : List A). map f xs ++ map g less) grown
    ∙ (ap (λ (xs : List C). xs ++ map g less) (map-append f js (j ∷ []))
    ∙ (append_assoc (map f js) (f j ∷ []) (map g less)
    ∙ (ap (λ (c : C). map f js ++ c ∷ map g less) same
    ∙ (ap (λ (xs : List B). map f js ++ map g xs) (sym taken) ∙ was))))

-- one list claimed
module _ {X B : Type 0} (cells : B → List ℕ) (ps less : List B) (p : B) (taken : ps ≡ p ∷ less) (now next : List (Option X)) (claimed : next ≡ without (cells p) now) where
  pub can_next : CanClaim now (map cells ps) → CanClaim next (map cells less)
  can_next can =
      let P : List B → Type 0 = λ xs. CanClaim now (map cells xs) in
      subst (λ cs. CanClaim cs (map cells less)) (sym claimed) (subst P taken can).2

  pub without_next : without_all (map cells less) next ≡ without_all (map cells ps) now
  without_next = ap (without_all (map cells less)) claimed ∙ sym (ap (λ (xs : List B). without_all (map cells xs) now) taken)
