-- One step of a search for levels.
use Rattle.std.proofs.Common.{◌≡◌, ◌≢◌, ℕ, zero, suc, ◌+◌, ◌<◌, ◌≤◌, max, List, [], ◌∷◌, ◌++◌, map, take, length, slice_get, set, get_or, Some, refl, sym, ◌∙◌, ap, subst, arith, ◌⊎◌, inl, inr, length-set, get_or-set_same}
use Rattle.std.specs.List.{IsAmong}
use Rattle.std.proofs.lemmas.Bool.{cases_eq}
use Rattle.std.proofs.lemmas.Option.{slice_get-get_or}
use Rattle.aol_flat.proofs.Agree.{IsAmong-tail}
use Rattle.aol_flat.proofs.Among.{among_map}
use Rattle.aol_flat.specs.Level.{above_all}
use Rattle.aol_depend.specs.declared.search.Mark.{Mark}
use Rattle.aol_depend.specs.declared.search.Mark.TheVariants.{Open, Ranked}
use Rattle.aol_depend.specs.declared.search.Visit.{Visit}
use Rattle.aol_depend.specs.Needs.{Rows, row}
use Rattle.aol_depend.specs.Search.{AreRanked, HasLevel, IsVisit, AreOpen, IsAt}

-- ---- lists

-- what stands at a place after a write there, and elsewhere
pub get-set_same : {X : Type 0} (xs : List X) (i : ℕ) (x : X) → i < length xs → slice_get (set xs i x) i ≡ Some x
get-set_same xs i x within = slice_get-get_or (set xs i x) i x (omega (arith, length-set xs i x)) ∙ ap Some (get_or-set_same xs i x x within)

pub get-set_other : {X : Type 0} (xs : List X) (i j : ℕ) (x : X) → j ≢ i → slice_get (set xs i x) j ≡ slice_get xs j
get-set_other [] i j x ne = refl
get-set_other (y ∷ ys) zero zero x ne = absurd (ne refl)
get-set_other (y ∷ ys) zero (suc j) x ne = refl
get-set_other (y ∷ ys) (suc i) zero x ne = refl
get-set_other (y ∷ ys) (suc i) (suc j) x ne = get-set_other ys i j x (λ e. ne (ap suc e))

-- a write of something else changes nothing of what stands there
pub get-set_stays : {X : Type 0} (xs : List X) (i j : ℕ) (x y z : X) → slice_get xs i ≡ Some y → slice_get xs j ≡ Some z → (y ≡ z → ⊥) → slice_get (set xs i x) j ≡ Some z
get-set_stays xs i j x y z at_i at_j apart =
    elim (cases_eq j i) [
      | inl e ↦ absurd (let there : Some y ≡ Some z = sym at_i ∙ ap (slice_get xs) (sym e) ∙ at_j in apart cc)
      | inr ne ↦ get-set_other xs i j x ne ∙ at_j
    ]

-- ---- levels

-- the greatest level of a list with one more
pub above_all-push : (levels ks : List ℕ) (k : ℕ) → above_all levels (ks ++ k ∷ []) ≡ max (above_all levels ks) (get_or levels k 0 + 1)
above_all-push levels [] k = omega arith
above_all-push levels (j ∷ ks) k = let later = above_all-push levels ks k in omega (arith, later)

-- levels that agree on a list are the same above it
pub above_all-same : (levels others ks : List ℕ) → ((k : ℕ) → IsAmong ks k → get_or others k 0 ≡ get_or levels k 0) → above_all others ks ≡ above_all levels ks
above_all-same levels others [] agree = refl
above_all-same levels others (k ∷ ks) agree =
    let here : get_or others k 0 ≡ get_or levels k 0 = agree k (0, (omega arith, refl)) in
    let later = above_all-same levels others ks (λ j h. agree j (IsAmong-tail k ks j h)) in
    omega (arith, here, later)

-- a bound on all levels bounds what is above them
pub above_all-low : (levels ks : List ℕ) (n : ℕ) → ((k : ℕ) → IsAmong ks k → get_or levels k 0 < n) → above_all levels ks ≤ n
above_all-low levels [] n low = omega arith
above_all-low levels (k ∷ ks) n low =
    let here : get_or levels k 0 < n = low k (0, (omega arith, refl)) in
    let later = above_all-low levels ks n (λ j h. low j (IsAmong-tail k ks j h)) in
    omega (arith, here, later)

-- each level of a list is below
pub above_all-over : (levels ks : List ℕ) (k : ℕ) → IsAmong ks k → get_or levels k 0 < above_all levels ks
above_all-over levels [] k h = absurd (omega (arith, h.1.0))
above_all-over levels (j ∷ ks) k (zero, h) = let e : k ≡ j = h.1 in let f : get_or levels k 0 ≡ get_or levels j 0 = ap (λ n. get_or levels n 0) e in omega (arith, f)
above_all-over levels (j ∷ ks) k (suc i, h) = let later = above_all-over levels ks k (i, (omega (arith, h.0), h.1)) in omega (arith, later)

-- ---- what stays

-- what has a level keeps it
pub record Grows (marks others : List Mark) (levels depths : List ℕ) : Type 0 where
  pub keeps : (j : ℕ) → slice_get marks j ≡ Some Ranked → (slice_get others j ≡ Some Ranked) × (get_or depths j 0 ≡ get_or levels j 0)

pub ranked_stay : {marks others : List Mark} {levels depths : List ℕ} → Grows marks others levels depths → (ks : List ℕ) → AreRanked marks ks → AreRanked others ks
ranked_stay g ks h k a = (g.keeps k (h k a)).0

pub level_same : {marks others : List Mark} {levels depths : List ℕ} → Grows marks others levels depths → (ks : List ℕ) → AreRanked marks ks → above_all depths ks ≡ above_all levels ks
level_same {marks} {others} {levels} {depths} g ks h = above_all-same levels depths ks (λ k a. (g.keeps k (h k a)).1)

pub level_stays : {marks others : List Mark} {levels depths : List ℕ} → Grows marks others levels depths → (needs : Rows) (j : ℕ) → HasLevel needs marks levels j → get_or depths j 0 ≡ get_or levels j 0 → HasLevel needs others depths j
level_stays g needs j h same = record {
  needed = ranked_stay g (row needs j) h.needed;
  level = same ∙ h.level ∙ sym (level_same g (row needs j) h.needed);
}

pub visit_stays : {marks others : List Mark} {levels depths : List ℕ} → Grows marks others levels depths → (needs : Rows) (v : Visit) → IsVisit needs marks levels v → slice_get others v.instance ≡ Some Open → IsVisit needs others depths v
visit_stays g needs v h still = record {
  entered = still;
  within = h.within;
  seen = ranked_stay g (take v.next (row needs v.instance)) h.seen;
  level = h.level ∙ sym (level_same g (take v.next (row needs v.instance)) h.seen);
}

-- the first of a list, or one of the rest
pub among_cases : {X : Type 0} (x : X) (xs : List X) (y : X) → IsAmong (x ∷ xs) y → (y ≡ x) ⊎ IsAmong xs y
among_cases x xs y (zero, h) = inl h.1
among_cases x xs y (suc i, h) = inr (i, (omega (arith, h.0), h.1))

pub open_stay : {marks others : List Mark} {levels depths : List ℕ} → Grows marks others levels depths → (needs : Rows) (vs : List Visit) → ((u : Visit) → IsAmong vs u → slice_get others u.instance ≡ Some Open)
    → AreOpen needs marks levels vs → AreOpen needs others depths vs
open_stay g needs [] still h = tt
open_stay g needs (v ∷ vs) still h =
    (visit_stays g needs v h.0 (still v (0, (omega arith, refl))), h.1, h.2, open_stay g needs vs (λ u a. still u (IsAmong-tail v vs u a)) h.3)

-- each open instance is marked so
pub open_at : (needs : Rows) (marks : List Mark) (levels : List ℕ) (vs : List Visit) → AreOpen needs marks levels vs → (u : Visit) → IsAmong vs u → slice_get marks u.instance ≡ Some Open
open_at needs marks levels [] h u a = absurd (omega (arith, a.1.0))
open_at needs marks levels (v ∷ vs) h u a =
    elim (among_cases v vs u a) [
      | inl e ↦ ap (λ (w : Visit). slice_get marks w.instance) e ∙ h.0.entered
      | inr later ↦ open_at needs marks levels vs h.3 u later
    ]

pub open_named : (needs : Rows) (marks : List Mark) (levels : List ℕ) (vs : List Visit) → AreOpen needs marks levels vs → (j : ℕ) → IsAmong (map (λ (v : Visit). v.instance) vs) j → slice_get marks j ≡ Some Open
open_named needs marks levels vs h j a =
    let r = among_map (λ (v : Visit). v.instance) vs j a in
    ap (slice_get marks) r.2 ∙ open_at needs marks levels vs h r.0 r.1

-- two marks are not one
pub unlike : (marks : List Mark) (j : ℕ) (a b : Mark) → slice_get marks j ≡ Some a → slice_get marks j ≡ Some b → a ≡ b
unlike marks j a b h k = let e : Some a ≡ Some b = sym h ∙ k in cc

-- a state by equal parts
pub at_equal : {needs : Rows} {marks others : List Mark} {levels depths : List ℕ} {count more : ℕ} {stack path : List Visit} → IsAt needs marks levels count stack → others ≡ marks → depths ≡ levels → more ≡ count → path ≡ stack
    → IsAt needs others depths more path
at_equal {needs} {marks} {others} {levels} {depths} {count} {more} {stack} {path} h a b c d =
    let P1 : List Mark → Type 0 = λ ms. IsAt needs ms levels count stack in
    let P2 : List ℕ → Type 0 = λ ls. IsAt needs others ls count stack in
    let P3 : ℕ → Type 0 = λ n. IsAt needs others depths n stack in
    let P4 : List Visit → Type 0 = λ vs. IsAt needs others depths more vs in
    subst P4 (sym d) (subst P3 (sym c) (subst P2 (sym b) (subst P1 (sym a) h)))
