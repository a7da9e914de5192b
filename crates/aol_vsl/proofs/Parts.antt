-- Parts of the recognizer one after another.
use Rattle.std.proofs.Common.{◌≡◌, ℕ, zero, suc, ◌+◌, ◌<◌, ◌≤◌, List, [], ◌∷◌, ◌++◌, length, drop, get_or, Bool, true, false, cond, ◌&&◌, Some, None, Ok, Err, Result, Option, refl, sym, ◌∙◌, ap, subst, append_assoc, eqb, not, arith, add-zero}
use Rattle.std.proofs.lemmas.Bool.{false≢true, eqb-true, and_parts}
use Rattle.std.proofs.lemmas.List.{drop_more, drop_all, length-drop, get_or-drop}
use Rattle.std.specs.List.{list_all}
use Rattle.aol_shape.specs.Texts.{is_blank, is_letter}
use Rattle.aol_shape.specs.Machine.{stuck_from, stuck_here}
use Rattle.aol_vsl.specs.Reading.{Goal, sign, tight, step, if_blank}
use Rattle.aol_vsl.specs.Passing.{parts, Passes, Allows, part_of, literal_goals}

-- what meets the goals of a part and is then met by another meets the goals of both
pub passes_then : (p q : List Goal) (text : List ℕ) (a b : ℕ) (r : Result ℕ ℕ) → Passes p text a (Ok b) → Passes q text b r → Passes (p ++ q) text a r
passes_then p q text a b (Ok to) h k = λ gs. ap (λ g. stuck_from parts a (Some g) (drop a text)) (append_assoc p q gs) ∙ h (q ++ gs) ∙ k gs
passes_then p q text a b (Err byte) h k = λ gs. ap (λ g. stuck_from parts a (Some g) (drop a text)) (append_assoc p q gs) ∙ h (q ++ gs) ∙ k gs

-- a part that is stuck is stuck before others
pub passes_err : (p q : List Goal) (text : List ℕ) (a b : ℕ) → Passes p text a (Err b) → Passes (p ++ q) text a (Err b)
passes_err p q text a b h = λ gs. ap (λ g. stuck_from parts a (Some g) (drop a text)) (append_assoc p q gs) ∙ h (q ++ gs)

sign_allows_by : (c : ℕ) (gs : List Goal) (b : ℕ) (same : Bool) → eqb b c ≡ same → is_blank c ≡ false → is_blank b ≡ true → cond same (Some gs) (if_blank b (sign c ∷ gs)) ≡ Some (sign c ∷ gs)
sign_allows_by c gs b true e n h = absurd (false≢true (sym n ∙ ap is_blank (sym (eqb-true b c e)) ∙ h))
sign_allows_by c gs b false e n h = let other : Option (List Goal) = None in ap (λ t. cond t (Some (sign c ∷ gs)) other) h

-- a sign that is no blank allows blanks before it
pub sign_allows : (c : ℕ) (gs : List Goal) → is_blank c ≡ false → Allows (sign c ∷ gs)
sign_allows c gs n b h = sign_allows_by c gs b (eqb b c) refl n h

sign_step : (c b : ℕ) (gs : List Goal) → is_blank b ≡ false → step (sign c ∷ gs) b ≡ step (tight c ∷ gs) b
sign_step c b gs h = let none : Option (List Goal) = None in ap (λ t. cond (eqb b c) (Some gs) (cond t (Some (sign c ∷ gs)) none)) h

sign_at_once : (c k : ℕ) (gs : List Goal) (bs : List ℕ) → (0 < length bs → is_blank (get_or bs 0 0) ≡ false) → stuck_from parts k (Some (sign c ∷ gs)) bs ≡ stuck_from parts k (Some (tight c ∷ gs)) bs
sign_at_once c k gs [] h = refl
sign_at_once c k gs (b ∷ bs) h = ap (λ o. stuck_here k o (stuck_from parts (k + 1) o bs)) (sign_step c b gs (h (omega arith)))

sign_here : (text : List ℕ) (at c : ℕ) (gs : List Goal) → (at < length text → is_blank (get_or text at 0) ≡ false)
    → stuck_from parts at (Some (sign c ∷ gs)) (drop at text) ≡ stuck_from parts at (Some (tight c ∷ gs)) (drop at text)
sign_here text at c gs end = sign_at_once c at gs (drop at text) (λ h. ap is_blank (get_or-drop at text 0 0 ∙ ap (λ k. get_or text k 0) (add-zero at)) ∙ end (omega (arith, h, length-drop at text)))

-- the same for a byte at once, where it is no blank
pub passes_sign : (text : List ℕ) (start at c : ℕ) (r : Result ℕ ℕ) → is_blank c ≡ false
    → ((gs : List Goal) → Allows gs → stuck_from parts start (Some gs) (drop start text) ≡ stuck_from parts at (Some gs) (drop at text))
    → (at < length text → is_blank (get_or text at 0) ≡ false)
    → Passes (tight c ∷ []) text at r → Passes (sign c ∷ []) text start r
passes_sign text start at c (Ok to) n blanks end h = λ gs. blanks (sign c ∷ gs) (sign_allows c gs n) ∙ sign_here text at c gs end ∙ h gs
passes_sign text start at c (Err byte) n blanks end h = λ gs. blanks (sign c ∷ gs) (sign_allows c gs n) ∙ sign_here text at c gs end ∙ h gs

-- a literal from one of its bytes on
pub literal_more : (literal text : List ℕ) (i at : ℕ) (in_word : Bool) (r : Result ℕ ℕ) → i < length literal
    → Passes (part_of in_word (get_or literal i 0) ∷ literal_goals (is_letter (get_or literal i 0)) (drop (i + 1) literal)) text at r
    → Passes (literal_goals in_word (drop i literal)) text at r
literal_more literal text i at in_word r h p = let P : List ℕ → Type 0 = λ l. Passes (literal_goals in_word l) text at r in subst P (sym (drop_more literal i 0 h)) p

-- what holds of each byte holds of this one
pub list_all_get : (p : ℕ → Bool) (xs : List ℕ) (i : ℕ) → list_all p xs ≡ true → i < length xs → p (get_or xs i 0) ≡ true
list_all_get p [] i h k = absurd (omega (arith, k))
list_all_get p (x ∷ xs) zero h k = (and_parts (p x) (list_all p xs) h).0
list_all_get p (x ∷ xs) (suc i) h k = list_all_get p xs i (and_parts (p x) (list_all p xs) h).1 (omega (arith, k))

pub not_true : (b : Bool) → not b ≡ true → b ≡ false
not_true true h = sym h
not_true false h = refl

-- nothing is left after the last byte of a literal
pub literal_end : (literal text : List ℕ) (i at : ℕ) (in_word : Bool) → length literal ≤ i → Passes (literal_goals in_word (drop i literal)) text at (Ok at)
literal_end literal text i at in_word h = let P : List ℕ → Type 0 = λ l. Passes (literal_goals in_word l) text at (Ok at) in subst P (sym (drop_all i literal h)) (λ gs. refl)
