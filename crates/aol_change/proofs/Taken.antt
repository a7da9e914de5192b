-- Which names are taken.
use Rattle.std.proofs.Common.{◌≡◌, ℕ, zero, suc, ◌+◌, ◌≤◌, true, false, cond, ◌||◌, ◌-◌, List, [], ◌∷◌, ◌++◌, map, sym, ◌∙◌, ap, refl, arith}
use Rattle.std.specs.List.{list_any}
use Rattle.std.proofs.lemmas.List.Folds.{list_any-append}
use Rattle.aol_shape.specs.Lists.{same}
use Rattle.aol_model_types.specs.declared.task.Task.{Task}
use Rattle.aol_model_types.specs.Rules.{task_name}
use Rattle.aol_change.specs.Change.{numbered, is_taken, free_number}

-- a name is one of the tasks'
pub any_name : (ts : List Task) (name : List ℕ) → list_any (λ (t : Task). same (task_name t) name) ts ≡ is_taken (map task_name ts) name
any_name [] name = refl
any_name (t ∷ ts) name = ap (λ b. same (task_name t) name || b) (any_name ts name)

-- or one of others
pub any_of_both : (ts : List Task) (others : List (List ℕ)) (name : List ℕ)
    → (list_any (λ (t : Task). same (task_name t) name) ts || is_taken others name) ≡ is_taken (map task_name ts ++ others) name
any_of_both ts others name = ap (λ b. b || is_taken others name) (any_name ts name) ∙ sym (list_any-append (λ n. same n name) (map task_name ts) others)

-- a number that is taken is not the one that is looked for
pub number_taken : (taken : List (List ℕ)) (name : List ℕ) (left number : ℕ) → 1 ≤ left → is_taken taken (numbered name number) ≡ true
    → free_number taken name left number ≡ free_number taken name (left - 1) (number + 1)
number_taken taken name zero number h e = absurd (omega (arith, h))
number_taken taken name (suc left) number h e =
    let l : suc left - 1 ≡ left = omega arith in
    ap (λ b. cond b (free_number taken name left (number + 1)) number) e ∙ ap (λ n. free_number taken name n (number + 1)) (sym l)

-- one that isn't is
pub number_free : (taken : List (List ℕ)) (name : List ℕ) (left number : ℕ) → is_taken taken (numbered name number) ≡ false
    → free_number taken name left number ≡ number
number_free taken name zero number e = refl
number_free taken name (suc left) number e = ap (λ b. cond b (free_number taken name left (number + 1)) number) e

-- where none is left, it is the next
pub number_last : (taken : List (List ℕ)) (name : List ℕ) (left number : ℕ) → left ≡ 0 → free_number taken name left number ≡ number
number_last taken name left number e = ap (λ n. free_number taken name n number) e
