-- The walk over the rules, part by part.
use Rattle.std.proofs.Common.{◌≡◌, ℕ, ◌+◌, ◌<◌, List, [], ◌∷◌, ◌++◌, length, take, drop, get_or, Bool, true, false, not, cond, ◌&&◌, Option, Some, None, option_map, Result, Ok, Err, MatchResult, refl, sym, ◌∙◌, ap, add-one}
use Rattle.std.proofs.Math.Seq.{drop-cons, take-suc}
use Rattle.std.specs.List.{find, list_all}
use Rattle.aol_model_types.specs.declared.place.PlaceStep.{PlaceStep}
use Rattle.aol_model_types.specs.declared.document.Misfit.{Misfit}
use Rattle.aol_model_types.specs.declared.document.Model.{Model}
use Rattle.aol_model_types.specs.Places.{to_index}
use Rattle.aol_model_types.specs.Rules.{Check, each, each_from, checks, first_misfit}
use Rattle.aol_rules.specs.Walk.{first_failing, misfit, Tells}

step_passed : (b : Bool) (m : Misfit) (r s t : Option Misfit) → (r ≡ None → s ≡ t) → cond b r (Some m) ≡ None → cond b s (Some m) ≡ t
step_passed true m r s t rest h = rest h
step_passed false m r s t rest h = cc

-- after checks that hold
pub passed : (xs ys : List Check) → first_failing xs ≡ None → first_failing (xs ++ ys) ≡ first_failing ys
passed [] ys h = refl
passed (c ∷ xs) ys h = step_passed c.holds (misfit c.steps c.rule) (first_failing xs) (first_failing (xs ++ ys)) (first_failing ys) (passed xs ys) h

step_failed : (b : Bool) (m n : Misfit) (r s : Option Misfit) → (r ≡ Some n → s ≡ Some n) → cond b r (Some m) ≡ Some n → cond b s (Some m) ≡ Some n
step_failed true m n r s rest h = rest h
step_failed false m n r s rest h = h

-- in front of others
pub failed : (xs ys : List Check) (m : Misfit) → first_failing xs ≡ Some m → first_failing (xs ++ ys) ≡ Some m
failed [] ys m h = cc
failed (c ∷ xs) ys m h = step_failed c.holds (misfit c.steps c.rule) m (first_failing xs) (first_failing (xs ++ ys)) (failed xs ys m) h

module _ {A : Type 0} (f : List PlaceStep → List A → A → List Check) (at : List PlaceStep) (xs : List A) where
  -- what the members from the k-th on fail
  abbrev pub behind : ℕ → Option Misfit
  behind k = first_failing (each_from f at k (take k xs) (drop k xs))

  -- the checks from a member on: its own, and those after it
  member_on : (k : ℕ) (d : A) → k < length xs
      → each_from f at k (take k xs) (drop k xs) ≡ f (to_index at k) (take k xs) (get_or xs k d) ++ each_from f at (k + 1) (take (k + 1) xs) (drop (k + 1) xs)
  member_on k d h = rw (drop-cons xs k d h, add-one, take-suc xs k d h) refl

  -- the k-th member at its place, after the earlier ones
  from_member : (k : ℕ) (p : List PlaceStep) (earlier : List A) (x : A) → k < length xs → p ≡ to_index at k → earlier ≡ take k xs → x ≡ get_or xs k x
      → behind k ≡ first_failing (f p earlier x ++ each_from f at (k + 1) (take (k + 1) xs) (drop (k + 1) xs))
  from_member k p earlier x lt place front is = rw (place, front) (ap first_failing (member_on k x lt) ∙ ap (λ (y : A). first_failing (f (to_index at k) (take k xs) y ++ each_from f at (k + 1) (take (k + 1) xs) (drop (k + 1) xs))) (sym is))

  -- a member that keeps its rules
  pub went_on : (k : ℕ) (p : List PlaceStep) (earlier : List A) (x : A) → first_failing (f p earlier x) ≡ None → first_failing (each f at xs) ≡ behind k
      → k < length xs → p ≡ to_index at k → earlier ≡ take k xs → x ≡ get_or xs k x → first_failing (each f at xs) ≡ behind (k + 1)
  went_on k p earlier x e so_far lt place front is = so_far ∙ from_member k p earlier x lt place front is ∙ passed (f p earlier x) _ e

  -- a member that breaks one
  pub stopped : (k : ℕ) (p : List PlaceStep) (earlier : List A) (x : A) (m : Misfit) → first_failing (f p earlier x) ≡ Some m → first_failing (each f at xs) ≡ behind k
      → k < length xs → p ≡ to_index at k → earlier ≡ take k xs → x ≡ get_or xs k x → first_failing (each f at xs) ≡ Some m
  stopped k p earlier x m e so_far lt place front is = so_far ∙ from_member k p earlier x lt place front is ∙ failed (f p earlier x) _ m e

step_found : (c : Check) (b : Bool) (o : Option Check) (r : Option Misfit) → option_map (λ d. misfit d.steps d.rule) o ≡ r
    → option_map (λ d. misfit d.steps d.rule) (cond (not b) (Some c) o) ≡ cond b r (Some (misfit c.steps c.rule))
step_found c true o r h = h
step_found c false o r h = refl

-- the first check that fails, in the words of the rules
pub first_found : (cs : List Check) → option_map (λ c. misfit c.steps c.rule) (find (λ c. not c.holds) cs) ≡ first_failing cs
first_found [] = refl
first_found (c ∷ cs) = step_found c c.holds (find (λ d. not d.holds) cs) (first_failing cs) (first_found cs)

step_holds : (b : Bool) (m : Misfit) (r : Option Misfit) (a : Bool) → (r ≡ None → a ≡ true) → cond b r (Some m) ≡ None → (b && a) ≡ true
step_holds true m r a rest h = rest h
step_holds false m r a rest h = cc

-- no check fails where all hold
pub all_hold : (cs : List Check) → first_failing cs ≡ None → list_all (λ c. c.holds) cs ≡ true
all_hold [] h = refl
all_hold (c ∷ cs) h = step_holds c.holds (misfit c.steps c.rule) (first_failing cs) (list_all (λ d. d.holds) cs) (all_hold cs) h

-- the answer in the words of the rules
pub told : {A : Type 0} (r : Result A Misfit) (m : Model) → Tells r (checks m) → MatchResult r (λ _. first_misfit m ≡ None) (λ e. first_misfit m ≡ Some e)
told (Ok _) m h = first_found (checks m) ∙ h
told (Err e) m h = first_found (checks m) ∙ h
