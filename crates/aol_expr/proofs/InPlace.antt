-- Bytes that change the mode at most.
use Rattle.std.proofs.Common.{◌≡◌, ℕ, List, Bool, true, false, Result, Ok, Err, IfOk, refl, sym, ◌∙◌, ap, subst}
use Rattle.aol_expr_tree.specs.declared.byte.Byte.{Byte}
use Rattle.aol_expr_tree.specs.declared.byte.Byte.TheVariants.{Blank, Digit, Letter}
use Rattle.aol_expr_tree.specs.declared.reader.Held.{Held}
use Rattle.aol_expr_tree.specs.declared.reader.Mode.{Mode}
use Rattle.aol_expr_tree.specs.declared.reader.Mode.TheVariants.{Digits, InWord}
use Rattle.aol_expr_tree.specs.declared.reader.Numeral.{Numeral}
use Rattle.aol_expr_tree.specs.Digits.{DigitsOf}
use Rattle.aol_expr_tree.specs.Reading.{stepped, in_digits, in_word, onward, to}
use Rattle.aol_expr.specs.States.{StaysAtBlank, AddsDigit, AddsLetter, Stays}

pub blank_stays : (m : Mode) (k : Byte) (b : ℕ) (r : Bool) → k ≡ Blank → StaysAtBlank m r → Stays m k b m r
blank_stays m k b true e s = λ h. subst (λ c. stepped h m c b ≡ to h m) (sym e) (s h b)
blank_stays m k b false e s = refl

-- a mode at two equal numbers
digits_mode : (s t : ℕ) (x y : Bool) (d : DigitsOf) → s ≡ t → x ≡ y
    → Digits (record { start = s; negative = x; digits = d }) ≡ Digits (record { start = t; negative = y; digits = d })
digits_mode s t x y d e f =
    ap (λ u. Digits (record { start = u; negative = x; digits = d })) e
    ∙ ap (λ u. Digits (record { start = t; negative = u; digits = d })) f

digits_on : (n m : Numeral) (b : ℕ) → AddsDigit n Digit b m true → (h : Held) → stepped h (Digits n) Digit b ≡ to h (Digits m)
unfolding stepped in_digits
digits_on n m b a h =
    ap (onward h (λ d. Digits (record n { digits = d }))) a.3
    ∙ ap (to h) (digits_mode n.start m.start n.negative m.negative m.digits (sym a.1) (sym a.2))

pub digit_stays : (old : Mode) (n m : Numeral) (k : Byte) (b : ℕ) (r : Bool) → old ≡ Digits n → AddsDigit n k b m r → Stays old k b (Digits m) r
digit_stays old n m k b true e a = λ h.
    subst (λ o. stepped h o k b ≡ to h (Digits m)) (sym e)
    (subst (λ c. stepped h (Digits n) c b ≡ to h (Digits m)) (sym a.0) (digits_on n m b (refl, a.1, a.2, a.3) h))
digit_stays old n m k b false e a = ap Digits a ∙ sym e

letters_on : (x y : List ℕ) (k : Byte) (b : ℕ) → AddsLetter x k b y true → (h : Held) → stepped h (InWord x) k b ≡ to h (InWord y)
unfolding stepped in_word
letters_on x y Letter b a h = ap (onward h InWord) a.1
letters_on x y Digit b a h = ap (onward h InWord) a.1
letters_on x y k b a h = absurd a.0

letter_stays : (old : Mode) (x y : List ℕ) (k : Byte) (b : ℕ) (r : Bool) → old ≡ InWord x → AddsLetter x k b y r → Stays old k b (InWord y) r
letter_stays old x y k b true e a = λ h. subst (λ o. stepped h o k b ≡ to h (InWord y)) (sym e) (letters_on x y k b a h)
letter_stays old x y k b false e a = ap InWord a ∙ sym e

pub letter_stays_ok : {E : Type 0} (old : Mode) (x y : List ℕ) (k : Byte) (b : ℕ) (r : Result Bool E) → old ≡ InWord x
    → IfOk r (AddsLetter x k b y) → IfOk r (Stays old k b (InWord y))
letter_stays_ok old x y k b (Ok r) e a = letter_stays old x y k b r e a
letter_stays_ok old x y k b (Err f) e a = tt
