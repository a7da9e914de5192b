-- A list of open instances, the last one first.
use Rattle.std.proofs.Common.{◌≡◌, ℕ, List, [], ◌∷◌, ◌++◌, suc, reverse, ◌∙◌, ap, sym, subst, refl, arith}
use Rattle.std.specs.List.{IsAmong}
use Rattle.aol_depend.specs.declared.search.Visit.{Visit}
use Rattle.aol_depend.proofs.Entering.{first_visit}
use Rattle.std.proofs.lemmas.List.{reverse-append}

-- what is pushed last comes first
pub reversed_push : {X : Type 0} (xs ys : List X) (y : X) → ys ≡ xs ++ y ∷ [] → reverse ys ≡ y ∷ reverse xs
reversed_push xs ys y h = ap reverse h ∙ reverse-append xs (y ∷ [])

-- the first of a list is among it, and so is one of the rest
pub among_here : {X : Type 0} (x : X) (xs : List X) → IsAmong (x ∷ xs) x
among_here x xs = (0, (omega arith, refl))

pub among_later : {X : Type 0} (x : X) (xs : List X) (y : X) → IsAmong xs y → IsAmong (x ∷ xs) y
among_later x xs y h = (suc h.0, (omega (arith, h.1.0), h.1.1))

-- the same by an equation
pub in_reversed : {X : Type 0} (ys : List X) (x : X) (xs : List X) (y : X) → ys ≡ x ∷ xs → IsAmong (x ∷ xs) y → IsAmong ys y
in_reversed {X} ys x xs y e h = let P : List X → Type 0 = λ zs. IsAmong zs y in subst P (sym e) h

-- two visits that are pushed one after the other
pub pushed_twice : (path one : List Visit) (v : Visit) (k : ℕ) → one ≡ path ++ v ∷ [] → (two : List Visit) → two ≡ one ++ first_visit k ∷ [] → reverse two ≡ first_visit k ∷ v ∷ reverse path
pushed_twice path one v k first two second = reversed_push one two (first_visit k) second ∙ ap (λ vs. first_visit k ∷ vs) (reversed_push path one v first)
