-- By the words that are no names.
use Rattle.std.proofs.Common.{◌≡◌, ℕ, List, [], ◌∷◌, Bool, true, false, cond, eqb, Some, None, refl, sym, ◌∙◌, ap, subst}
use Rattle.std.specs.Prelude.{codes}
use Rattle.std.proofs.lemmas.Bool.{false≢true, and_parts, eqb-true}
use Rattle.aol_shape.specs.Lists.{same}
use Rattle.aol_expr_tree.specs.declared.op.ExprOp.TheVariants.{Min, Max}
use Rattle.aol_expr_tree.specs.declared.letters.Keyword.TheVariants.{Function, If, Sum}
use Rattle.aol_expr_tree.specs.Words.{word_of}

pub either : (P : Type 0) (b : Bool) → (b ≡ true → P) → (b ≡ false → P) → P
either P true f g = f refl
either P false f g = g refl

-- the same lists are equal
same_is : (x y : List ℕ) → same x y ≡ true → x ≡ y
same_is [] [] e = refl
same_is [] (b ∷ y) e = absurd (false≢true e)
same_is (a ∷ x) [] e = absurd (false≢true e)
same_is (a ∷ x) (b ∷ y) e = let p : (eqb a b ≡ true) × (same x y ≡ true) = and_parts (eqb a b) (same x y) e in ap (λ c. c ∷ x) (eqb-true a b p.0) ∙ ap (λ z. b ∷ z) (same_is x y p.1)

-- what holds of the four words holds of a name that is one; else it holds where there is no word
pub by_word : (P : List ℕ → Type 0) → P (codes "min") → P (codes "max") → P (codes "if") → P (codes "sum") → (x : List ℕ) → (word_of x ≡ None → P x) → P x
by_word P n m i s x other =
    let at : (y : List ℕ) → P y → same x y ≡ true → P x = λ y p e. subst P (sym (same_is x y e)) p in
    either (P x) (same x (codes "min")) (at (codes "min") n) (λ e1.
    either (P x) (same x (codes "max")) (at (codes "max") m) (λ e2.
    either (P x) (same x (codes "if")) (at (codes "if") i) (λ e3.
    either (P x) (same x (codes "sum")) (at (codes "sum") s) (λ e4. other (no_word (same x (codes "min")) (same x (codes "max")) (same x (codes "if")) (same x (codes "sum")) e1 e2 e3 e4)))))
  where
    no_word : (a b c d : Bool) → a ≡ false → b ≡ false → c ≡ false → d ≡ false → cond a (Some (Function Min)) (cond b (Some (Function Max)) (cond c (Some If) (cond d (Some Sum) None))) ≡ None
    no_word true b c d e f g h = absurd (false≢true (sym e))
    no_word false true c d e f g h = absurd (false≢true (sym f))
    no_word false false true d e f g h = absurd (false≢true (sym g))
    no_word false false false true e f g h = absurd (false≢true (sym h))
    no_word false false false false e f g h = refl
