-- The numbers of tasks by their names.
use Rattle.std.proofs.Common.{◌≡◌, ℕ, suc, ◌+◌, ◌<◌, List, [], ◌∷◌, length, drop, get_or, Bool, true, false, cond, Option, Some, None, find, slice_get, sym, ◌∙◌, ap, refl, arith, add-one, nat_eq, subst}
use Rattle.std.specs.Str.{bytes_eq}
use Rattle.std.proofs.Math.Seq.{drop-cons}
use Rattle.std.proofs.lemmas.Bool.Decides.{nat_tests}
use Rattle.aol_shape.specs.Lists.{same}
use Rattle.aol_shape.proofs.SameTexts.{pointwise_same}
use Rattle.aol_model_types.specs.declared.task.Task.{Task}
use Rattle.aol_model_types.specs.Rules.{task_name, task_named}
use Rattle.aol_flat.specs.Numbered.{number_from, number_named}
use Rattle.aol_flat.proofs.Names.{same-equal}

nat_eq_sym : (x y : ℕ) → nat_eq x y ≡ nat_eq y x
nat_eq_sym x y = grind (arith, nat_tests)

same_sym : (a b : List ℕ) → same a b ≡ same b a
same_sym [] [] = refl
same_sym [] (y ∷ ys) = refl
same_sym (x ∷ xs) [] = refl
same_sym (x ∷ xs) (y ∷ ys) = rw (nat_eq_sym x y, same_sym xs ys) refl

-- std's test of two texts
test_same : (q n : List ℕ) → bytes_eq q n ≡ same n q
test_same q n = pointwise_same q n ∙ same_sym q n

-- one more task in front
pub number_more : (ts : List Task) (k : ℕ) (t : Task) (q name : List ℕ) (old new : Option ℕ) → k < length ts → t ≡ get_or ts k t → name ≡ task_name t
    → old ≡ number_from (k + 1) (drop (k + 1) ts) q → new ≡ cond (bytes_eq q name) (Some k) old → new ≡ number_from k (drop k ts) q
number_more ts k t q name old new lt is named found grown =
    let split : drop k ts ≡ t ∷ drop (k + 1) ts = drop-cons ts k t lt ∙ (ap (λ x. x ∷ drop (suc k) ts) (sym is) ∙ ap (λ n. t ∷ drop n ts) (sym (add-one k))) in
    let tested : bytes_eq q name ≡ same (task_name t) q = test_same q name ∙ ap (λ n. same n q) named in
    grown ∙ (ap (λ b. cond b (Some k) old) tested ∙ (ap (λ o. cond (same (task_name t) q) (Some k) o) found ∙ ap (λ ts. number_from k ts q) (sym split)))

-- ---- what is found

-- the task with the number that a name has
pub record IsFound (ts : List Task) (name : List ℕ) (j : ℕ) : Type 0 where
  pub task : Task
  pub at : slice_get ts j ≡ Some task
  pub within : j < length ts
  pub is : find (λ t. same (task_name t) name) ts ≡ Some task
  pub own_name : task_name task ≡ name

record IsFoundFrom (from : ℕ) (ts : List Task) (name : List ℕ) (j : ℕ) : Type 0 where
  number : ℕ
  shifted : j ≡ from + number
  found : IsFound ts name number

found_from : (from : ℕ) (ts : List Task) (name : List ℕ) (j : ℕ) → number_from from ts name ≡ Some j → IsFoundFrom from ts name j
found_from from [] name j h = cc
found_from from (t ∷ ts) name j h = go (same (task_name t) name) refl (found_from (from + 1) ts name j)
  where
    go : (b : Bool) → same (task_name t) name ≡ b → (number_from (from + 1) ts name ≡ Some j → IsFoundFrom (from + 1) ts name j) → IsFoundFrom from (t ∷ ts) name j
    go true e later =
        let k = rw e at h in
        let here : from ≡ j = cc in
        record { number = 0; shifted = omega arith; found = record { task = t; at = refl; within = omega arith; is = rw e refl; own_name = same-equal (task_name t) name e } }
    go false e later =
        let r = later (rw e at h) in
        record {
          number = suc r.number;
          shifted = omega (arith, r.shifted);
          found = record { task = r.found.task; at = r.found.at; within = omega (arith, r.found.within); is = rw e r.found.is; own_name = r.found.own_name };
        }

pub found : (ts : List Task) (name : List ℕ) (j : ℕ) → number_named ts name ≡ Some j → IsFound ts name j
found ts name j h =
    let r = found_from 0 ts name j h in
    let same_number : r.number ≡ j = omega (arith, r.shifted) in
    let P : ℕ → Type 0 = λ n. IsFound ts name n in
    subst P same_number r.found

-- it has that number under its own name
pub first_of_own : (ts : List Task) (name : List ℕ) (j : ℕ) (h : number_named ts name ≡ Some j) → number_named ts (task_name (found ts name j h).task) ≡ Some j
first_of_own ts name j h = ap (number_named ts) (found ts name j h).own_name ∙ h

-- no number, no task
pub none_from : (from : ℕ) (ts : List Task) (name : List ℕ) → number_from from ts name ≡ None → task_named ts name ≡ None
none_from from [] name h = refl
none_from from (t ∷ ts) name h = go (same (task_name t) name) refl (none_from (from + 1) ts name)
  where
    go : (b : Bool) → same (task_name t) name ≡ b → (number_from (from + 1) ts name ≡ None → task_named ts name ≡ None) → task_named (t ∷ ts) name ≡ None
    go true e later = let k = rw e at h in cc
    go false e later = rw e (later (rw e at h))
