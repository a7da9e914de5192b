-- Truth values of the rules.
use Rattle.std.proofs.Common.{◌≡◌, ℕ, Bool, true, false, not, ◌&&◌, ◌||◌, List, [], ◌∷◌, Option, Some, None, is_some, is_none, ◌∙◌, ap, refl, ◌⊎◌, inl, inr}
use Rattle.std.specs.List.{list_any}
use Rattle.aol_model_types.specs.Rules.{same_shapes}

pub both : (a b : Bool) → a ≡ true → b ≡ true → (a && b) ≡ true
both true b h k = k
both false b h k = cc

-- one of two tests holds
pub either : (a b : Bool) → (a || b) ≡ true → (a ≡ true) ⊎ (b ≡ true)
either true b h = inl refl
either false b h = inr h

pub not_none : {X : Type 0} (o : Option X) (b : Bool) → is_some o ≡ true → (is_none o || not b) ≡ true → b ≡ false
not_none None b h k = cc
not_none (Some x) true h k = cc
not_none (Some x) false h k = refl

pub not_both : (a b : Bool) → a ≡ true → (not a || not b) ≡ true → b ≡ false
not_both true true h k = cc
not_both true false h k = refl
not_both false b h k = cc

-- a test that a second one follows from
pub moved_in : (a s n : Bool) → (a ≡ true → s ≡ true) → (a && n) ≡ ((s && n) && a)
moved_in true true true h = refl
moved_in true true false h = refl
moved_in true false n h = let e : false ≡ true = h refl in cc
moved_in false true true h = refl
moved_in false true false h = refl
moved_in false false n h = refl

pub same_any : {X : Type 0} (f g : X → Bool) → ((x : X) → f x ≡ g x) → (xs : List X) → list_any f xs ≡ list_any g xs
same_any f g h [] = refl
same_any f g h (x ∷ xs) = ap (λ b. b || list_any f xs) (h x) ∙ ap (λ b. g x || b) (same_any f g h xs)

-- shapes that are equal are there
pub same_there : (a b : Option (List ℕ)) → same_shapes a b ≡ true → (is_some a ≡ true) × (is_some b ≡ true)
same_there None b h = cc
same_there (Some s) None h = cc
same_there (Some s) (Some t) h = (refl, refl)
