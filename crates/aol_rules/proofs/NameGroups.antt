-- A test on the members of a name, at the places of that name alone.
use Rattle.std.proofs.Common.{◌≡◌, ℕ, zero, suc, ◌+◌, List, [], ◌∷◌, map, take, Bool, true, false, cond, ◌&&◌, ◌||◌, Option, Some, None, is_some, is_none, refl, sym, ◌∙◌, ap, arith}
use Rattle.std.specs.List.{fold, count_by, list_any}
use Rattle.std.specs.Option.{unwrap_or}
use Rattle.std.proofs.lemmas.List.Sums.{sum_by-cons}
use Rattle.aol_shape.specs.Lists.{same}
use Rattle.aol_model_types.specs.declared.task.Plain.{Plain}
use Rattle.aol_model_types.specs.declared.task.Copied.{Copied}
use Rattle.aol_model_types.specs.declared.task.Hook.{Hook}
use Rattle.aol_rules.specs.Names.{places, holds_at, part_of_link, part_of_reshape}
use Rattle.aol_model_types.specs.Rules.{same_part, same_hook, hands_up}

absent : (b : Bool) → (b ≡ true → false ≡ true) → b ≡ false
absent true h = sym (h refl)
absent false h = refl

-- ---- how many pass

sum_behind : (f : ℕ → ℕ) (a : ℕ) (ys : List ℕ) → fold (λ s k. s + f k) a (map suc ys) ≡ fold (λ s k. s + f (suc k)) a ys
sum_behind f a [] = refl
sum_behind f a (y ∷ ys) = sum_behind f (a + f (suc y)) ys

count_step : (b : Bool) (t : ℕ → Bool) (n : ℕ) (ys : List ℕ) → (t 0 ≡ true → b ≡ true) → n ≡ count_by (λ k. t (suc k)) ys
    → cond (t 0) 1 0 + n ≡ count_by t (cond b (0 ∷ map suc ys) (map suc ys))
count_step true t n ys known h =
    let value : ℕ → ℕ = λ k. cond (t k) 1 0 in
    ap (λ m. cond (t 0) 1 0 + m) (h ∙ sym (sum_behind value 0 ys)) ∙ sym (sum_by-cons value 0 (map suc ys))
count_step false t n ys known h =
    let none : 0 + n ≡ n = omega arith in
    rw (absent (t 0) known) (none ∙ h ∙ sym (sum_behind (λ k. cond (t k) 1 0) 0 ys))

-- what passes has the name
pub counted : {X : Type 0} (p : X → Bool) (key : X → List ℕ) (q : List ℕ) (xs : List X) → ((x : X) → p x ≡ true → same (key x) q ≡ true)
    → count_by p xs ≡ count_by (holds_at p xs) (places q (map key xs))
counted p key q [] known = refl
counted p key q (x ∷ xs) known =
    sum_by-cons (λ y. cond (p y) 1 0) x xs ∙ count_step (same (key x) q) (holds_at p (x ∷ xs)) (count_by p xs) (places q (map key xs)) (known x) (counted p key q xs known)

-- ---- whether one passes

any_behind : (t : ℕ → Bool) (ys : List ℕ) → list_any t (map suc ys) ≡ list_any (λ k. t (suc k)) ys
any_behind t [] = refl
any_behind t (y ∷ ys) = ap (λ b. t (suc y) || b) (any_behind t ys)

any_step : (b : Bool) (t : ℕ → Bool) (any : Bool) (ys : List ℕ) → (t 0 ≡ true → b ≡ true) → any ≡ list_any (λ k. t (suc k)) ys
    → (t 0 || any) ≡ list_any t (cond b (0 ∷ map suc ys) (map suc ys))
any_step true t any ys known h = ap (λ a. t 0 || a) (h ∙ sym (any_behind t ys))
any_step false t any ys known h = rw (absent (t 0) known) (h ∙ sym (any_behind t ys))

no_any : {X : Type 0} (p : X → Bool) (ys : List ℕ) → list_any (holds_at p []) ys ≡ false
no_any p [] = refl
no_any p (y ∷ ys) = no_any p ys

-- what passes in a front of the list has the name
pub any_in_front : {X : Type 0} (p : X → Bool) (key : X → List ℕ) (q : List ℕ) (xs : List X) (k : ℕ) → ((x : X) → p x ≡ true → same (key x) q ≡ true)
    → list_any p (take k xs) ≡ list_any (holds_at p (take k xs)) (places q (map key xs))
any_in_front p key q [] zero known = refl
any_in_front p key q [] (suc k) known = refl
any_in_front p key q (x ∷ xs) zero known = sym (no_any p (places q (map key (x ∷ xs))))
any_in_front p key q (x ∷ xs) (suc k) known =
    any_step (same (key x) q) (holds_at p (x ∷ take k xs)) (list_any p (take k xs)) (places q (map key xs)) (known x) (any_in_front p key q xs k known)

-- ---- links by their part

first_holds : (a b : Bool) → (a && b) ≡ true → a ≡ true
first_holds true b h = refl
first_holds false b h = h

at_part : (o : Option (List ℕ)) (r name : List ℕ) (b : Bool) → (same_part o (Some name) && b) ≡ true → same (unwrap_or o r) name ≡ true
at_part None r name b h = cc
at_part (Some part) r name b h = first_holds (same part name) b h

-- a link that ends at a part
pub link_at_part : (name port : List ℕ) (l : Plain) → same_hook l.to (record { part = Some name; port = port }) ≡ true → same (part_of_link l) name ≡ true
link_at_part name port l = at_part l.to.part (unwrap_or l.from.part []) name (same l.to.port port)

-- a reshape that ends at a part
pub reshape_at_part : (name port : List ℕ) (l : Copied) → same_hook l.to (record { part = Some name; port = port }) ≡ true → same (part_of_reshape l) name ≡ true
reshape_at_part name port l = at_part l.to.part [] name (same l.to.port port)

handed : (from to : Option (List ℕ)) (name : List ℕ) (b : Bool) → ((is_some from && is_none to) && (same_part from (Some name) && b)) ≡ true → same (unwrap_or to (unwrap_or from [])) name ≡ true
handed None None name b h = cc
handed None (Some to) name b h = cc
handed (Some from) None name b h = first_holds (same from name) b h
handed (Some from) (Some to) name b h = cc

-- a link that hands a part's output up
pub handed_from_part : (name : List ℕ) (hook : Hook) → hook.part ≡ Some name → (l : Plain) → (hands_up l && same_hook l.from hook) ≡ true → same (part_of_link l) name ≡ true
handed_from_part name hook is l h = handed l.from.part l.to.part name (same l.from.port hook.port) (rw (← is) h)
