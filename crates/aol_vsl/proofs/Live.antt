-- Each state that the recognizer reaches leads to an end.
use Rattle.std.proofs.Common.{◌≡◌, ℕ, zero, suc, List, [], ◌∷◌, ◌++◌, Bool, true, false, cond, eqb, Option, Some, None, refl, sym, ap, subst}
use Rattle.std.proofs.lemmas.Bool.{eq-eqb}
use Rattle.aol_shape.specs.Texts.{is_blank, is_digit}
use Rattle.aol_shape.specs.Machine.{behind}
use Rattle.aol_vsl.specs.Reading.{Goal, sign, tight, number, digit, digits, first_entry, next_entry, first_column, next_column, step, recognizer, begun, if_blank}
use Rattle.aol_vsl.proofs.Sound.{Ends}

-- entries come first
abbrev IsNext : List Goal → Type 0
IsNext (next_entry ∷ gs) = Unit {0}
IsNext _ = ⊥

-- numbers stand before entries alone
abbrev pub IsGood : List Goal → Type 0
IsGood [] = Unit {0}
IsGood (sign c ∷ gs) = IsGood gs
IsGood (tight c ∷ gs) = IsGood gs
IsGood (number ∷ gs) = IsNext gs × IsGood gs
IsGood (digit ∷ gs) = IsNext gs × IsGood gs
IsGood (digits n ∷ gs) = IsNext gs × IsGood gs
IsGood (first_entry ∷ gs) = IsGood gs
IsGood (next_entry ∷ gs) = IsGood gs
IsGood (first_column ∷ gs) = IsGood gs
IsGood (next_column ∷ gs) = IsGood gs

-- bytes that meet the goals
abbrev pub ending : List Goal → List ℕ
ending [] = []
ending (sign c ∷ gs) = c ∷ ending gs
ending (tight c ∷ gs) = c ∷ ending gs
ending (number ∷ gs) = 48 ∷ ending gs
ending (digit ∷ gs) = 48 ∷ ending gs
ending (digits n ∷ gs) = ending gs
ending (first_entry ∷ gs) = 125 ∷ ending gs
ending (next_entry ∷ gs) = 125 ∷ ending gs
ending (first_column ∷ gs) = 125 ∷ ending gs
ending (next_column ∷ gs) = 125 ∷ ending gs

same_byte : (start : List Goal) (c : ℕ) (gs : List Goal) (other : Option (List Goal)) → Ends start (Some gs) (ending gs) → Ends start (cond (eqb c c) (Some gs) other) (ending gs)
same_byte start c gs other h = subst (λ t. Ends start (cond t (Some gs) other) (ending gs)) (sym (eq-eqb c c refl)) h

behind_digits : (start : List Goal) (n : ℕ) (gs : List Goal) → Ends start (Some gs) (ending gs) → Ends start (Some (digits n ∷ next_entry ∷ gs)) (125 ∷ ending gs)
behind_digits start zero gs h = h
behind_digits start (suc n) gs h = h

digits_lead : (start : List Goal) (n : ℕ) (gs : List Goal) → IsNext gs → IsGood gs → Ends start (Some gs) (ending gs) → Ends start (Some (digits n ∷ gs)) (ending gs)
digits_lead start n [] i g h = absurd i
digits_lead start n (next_entry ∷ gs) i g h = behind_digits start n gs h
digits_lead start n (sign c ∷ gs) i g h = absurd i
digits_lead start n (tight c ∷ gs) i g h = absurd i
digits_lead start n (number ∷ gs) i g h = absurd i
digits_lead start n (digit ∷ gs) i g h = absurd i
digits_lead start n (digits m ∷ gs) i g h = absurd i
digits_lead start n (first_entry ∷ gs) i g h = absurd i
digits_lead start n (first_column ∷ gs) i g h = absurd i
digits_lead start n (next_column ∷ gs) i g h = absurd i

-- they do meet them
leads : (start gs : List Goal) → IsGood gs → Ends start (Some gs) (ending gs)
leads start [] g = refl
leads start (sign c ∷ gs) g = same_byte start c gs (if_blank c (sign c ∷ gs)) (leads start gs g)
leads start (tight c ∷ gs) g = same_byte start c gs None (leads start gs g)
leads start (number ∷ gs) g = digits_lead start 18 gs g.0 g.1 (leads start gs g.1)
leads start (digit ∷ gs) g = digits_lead start 18 gs g.0 g.1 (leads start gs g.1)
leads start (digits n ∷ gs) g = digits_lead start n gs g.0 g.1 (leads start gs g.1)
leads start (first_entry ∷ gs) g = leads start gs g
leads start (next_entry ∷ gs) g = leads start gs g
leads start (first_column ∷ gs) g = leads start gs g
leads start (next_column ∷ gs) g = leads start gs g

abbrev IsGoodStep : Option (List Goal) → Type 0
IsGoodStep None = Unit {0}
IsGoodStep (Some gs) = IsGood gs

either : (t : Bool) (x y : Option (List Goal)) → IsGoodStep x → IsGoodStep y → IsGoodStep (cond t x y)
either true x y h k = h
either false x y h k = k

begun_good : (b : ℕ) (gs : List Goal) (other : Option (List Goal)) → IsNext gs → IsGood gs → IsGoodStep other → IsGoodStep (begun b gs other)
begun_good b gs other i g h = either (is_digit b) (Some (digits 18 ∷ gs)) (cond (eqb b 45) (Some (digit ∷ gs)) other) (i, g) (either (eqb b 45) (Some (digit ∷ gs)) other (i, g) h)

-- a byte keeps the order of the goals
step_good : (gs : List Goal) (b : ℕ) → IsGood gs → IsGoodStep (step gs b)
step_good [] b g = either (is_blank b) (Some []) None tt tt
step_good (sign c ∷ gs) b g = either (eqb b c) (Some gs) (if_blank b (sign c ∷ gs)) g (either (is_blank b) (Some (sign c ∷ gs)) None g tt)
step_good (tight c ∷ gs) b g = either (eqb b c) (Some gs) None g tt
step_good (number ∷ gs) b g = begun_good b gs (if_blank b (number ∷ gs)) g.0 g.1 (either (is_blank b) (Some (number ∷ gs)) None g tt)
step_good (digit ∷ gs) b g = either (is_digit b) (Some (digits 18 ∷ gs)) None g tt
step_good (digits zero ∷ gs) b g = step_good gs b g.1
step_good (digits (suc n) ∷ gs) b g = either (is_digit b) (Some (digits n ∷ gs)) (step gs b) g (step_good gs b g.1)
step_good (first_entry ∷ gs) b g = either (eqb b 125) (Some gs) (begun b (next_entry ∷ gs) (if_blank b (first_entry ∷ gs))) g (begun_good b (next_entry ∷ gs) (if_blank b (first_entry ∷ gs)) tt g (either (is_blank b) (Some (first_entry ∷ gs)) None g tt))
step_good (next_entry ∷ gs) b g = either (eqb b 125) (Some gs) (cond (eqb b 44) (Some (number ∷ next_entry ∷ gs)) (if_blank b (next_entry ∷ gs))) g
    (either (eqb b 44) (Some (number ∷ next_entry ∷ gs)) (if_blank b (next_entry ∷ gs)) (tt, g) (either (is_blank b) (Some (next_entry ∷ gs)) None g tt))
step_good (first_column ∷ gs) b g = either (eqb b 125) (Some gs) (cond (eqb b 123) (Some (first_entry ∷ next_column ∷ gs)) (if_blank b (first_column ∷ gs))) g
    (either (eqb b 123) (Some (first_entry ∷ next_column ∷ gs)) (if_blank b (first_column ∷ gs)) g (either (is_blank b) (Some (first_column ∷ gs)) None g tt))
step_good (next_column ∷ gs) b g = either (eqb b 125) (Some gs) (cond (eqb b 44) (Some (sign 123 ∷ first_entry ∷ next_column ∷ gs)) (if_blank b (next_column ∷ gs))) g
    (either (eqb b 44) (Some (sign 123 ∷ first_entry ∷ next_column ∷ gs)) (if_blank b (next_column ∷ gs)) g (either (is_blank b) (Some (next_column ∷ gs)) None g tt))

reached-next : (start : List Goal) (front : List ℕ) → ((gs : List Goal) → IsGood gs → IsGoodStep (behind (recognizer start) (Some gs) front)) → (o : Option (List Goal)) → IsGoodStep o → IsGoodStep (behind (recognizer start) o front)
reached-next start front h None g = tt
reached-next start front h (Some gs) g = h gs g

reached : (start : List Goal) (front : List ℕ) (gs : List Goal) → IsGood gs → IsGoodStep (behind (recognizer start) (Some gs) front)
reached start [] gs g = g
reached start (b ∷ front) gs g = reached-next start front (λ hs k. reached start front hs k) (step gs b) (step_good gs b g)

-- from each state that is reached, some bytes lead to an end
pub live : (start : List Goal) → IsGood start → (front : List ℕ) (gs : List Goal) → behind (recognizer start) (Some start) front ≡ Some gs → (more : List ℕ) × Ends start (Some gs) more
live start g front gs e = (ending gs, leads start gs (subst IsGoodStep e (reached start front start g)))
