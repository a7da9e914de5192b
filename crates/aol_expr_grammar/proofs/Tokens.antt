-- Reading tokens: numbers, indices, names, words and operators.
use Rattle.std.proofs.Common.{◌≡◌, ℕ, ◌+◌, ◌-◌, ◌*◌, ◌≤◌, ◌<◌, ℤ, pos, neg_ℤ, List, [], ◌∷◌, ◌++◌, length, Bool, true, false, cond, ◌&&◌, leb, eqb, Option, Some, None, option_map, refl, sym, ◌∙◌, ap, subst, arith}
use Rattle.std.specs.List.{list_all}
use Rattle.std.specs.Option.{is_some, unwrap_or}
use Rattle.std.proofs.lemmas.Bool.{and_parts, leb-true, lt-ltb, ne_eqb, eqb-true, false≢true}
use Rattle.aol_shape.specs.declared.limit.LimitName.{LimitName}
use Rattle.aol_shape.specs.declared.limit.LimitName.TheVariants.{Number}
use Rattle.aol_shape.specs.Lists.{or_else}
use Rattle.aol_shape.specs.Numbers.{fits_64}
use Rattle.aol_shape.specs.Texts.{is_blank, is_digit, is_numeral, numeral_value, are_digits, digits_value, digits_value_from}
use Rattle.aol_expr_tree.specs.declared.op.ExprOp.TheVariants.{Sub}
use Rattle.aol_expr_tree.specs.declared.byte.Byte.{Byte}
use Rattle.aol_expr_tree.specs.declared.byte.Byte.TheVariants.{Digit, Operator}
use Rattle.aol_expr_tree.specs.declared.reader.Numeral.{Numeral}
use Rattle.aol_expr_tree.specs.declared.reader.Held.{Held}
use Rattle.aol_expr_tree.specs.declared.reader.Mode.{Mode}
use Rattle.aol_expr_tree.specs.declared.reader.Mode.TheVariants.{Operand, Digits, Whole}
use Rattle.aol_expr_tree.specs.Tree.{num}
use Rattle.aol_expr_tree.specs.Decimals.{signed, in_64}
use Rattle.aol_expr_tree.specs.Parts.{seen}
use Rattle.aol_expr_tree.specs.Reading.{to, noted, begun, stepped, onward, after_operand, in_digits}
use Rattle.aol_expr_grammar.proofs.Goes.{held_at, reads, goes, elsewhere, skips, Acts, acts, follows, digit_kind}

pub or_else_none : {X : Type 0} (o : Option X) → or_else o None ≡ o
or_else_none None = refl
or_else_none (Some x) = refl

-- the first limit that is passed, with a token at this place
abbrev pub noted_token : Option (ℕ × LimitName) → ℕ → Option LimitName → Option (ℕ × LimitName)
noted_token passed k o = or_else passed (option_map (λ name. (k, name)) o)

-- what is held after such a token
abbrev pub marked : Held → ℕ → Option LimitName → Held
marked h k o = record h { passed = noted_token h.passed k o }

pub noted_is : (fits : Bool) (start : ℕ) (passed : LimitName) (h : Held) → noted fits start passed h ≡ marked h start (cond fits None (Some passed))
unfolding noted
noted_is true start passed h = ap (λ o. record h { passed = o }) (sym (or_else_none h.passed))
noted_is false start passed h = refl

-- ---- numbers

abbrev pub numeral_at : ℕ → Bool → ℕ → ℕ → Numeral
numeral_at start negative count value = record { start = start; negative = negative; digits = record { count = count; value = value } }

digits_on : (k : ℕ) (h : Held) (start : ℕ) (negative : Bool) (count value b : ℕ) → count < 19
    → stepped (held_at k h) (Digits (numeral_at start negative count value)) Digit b ≡ to (held_at k h) (Digits (numeral_at start negative (count + 1) (10 * value + (b - 48))))
unfolding stepped in_digits
digits_on k h start negative count value b few =
    ap (λ t. onward (held_at k h) (λ d. Digits (record { start = start; negative = negative; digits = d })) (cond t (Some (record { count = count + 1; value = 10 * value + (b - 48) })) None)) (lt-ltb count 19 few)

-- digits go on
pub read_digits : (h : Held) (mode : Numeral → Mode) (start : ℕ) (negative : Bool)
    → ((k count value b : ℕ) → count < 19 → stepped (held_at k h) (mode (numeral_at start negative count value)) Digit b ≡ to (held_at k h) (mode (numeral_at start negative (count + 1) (10 * value + (b - 48)))))
    → (ds bs : List ℕ) (k count value : ℕ) → list_all is_digit ds ≡ true → count + length ds ≤ 19
    → reads k h (mode (numeral_at start negative count value)) (ds ++ bs) ≡ reads (k + length ds) h (mode (numeral_at start negative (count + length ds) (digits_value_from value ds))) bs
read_digits h mode start negative on [] bs k count value e few =
    elsewhere k (k + 0) h (mode (numeral_at start negative count value)) bs (omega arith)
    ∙ ap (λ n. reads (k + 0) h (mode (numeral_at start negative n value)) bs) (let same : count ≡ count + 0 = omega arith in same)
read_digits h mode start negative on (d ∷ ds) bs k count value e few =
    let parts = and_parts (is_digit d) (list_all is_digit ds) e in
    let value_on : ℕ = 10 * value + (d - 48) in
    let count_on : count + 1 + length ds ≡ count + length (d ∷ ds) = omega arith in
    goes k h (mode (numeral_at start negative count value)) d (ds ++ bs) Digit (held_at k h) (mode (numeral_at start negative (count + 1) value_on)) (digit_kind d parts.0) (on k count value d (omega arith))
    ∙ read_digits h mode start negative on ds bs (k + 1) (count + 1) value_on parts.1 (omega arith)
    ∙ elsewhere (k + 1 + length ds) (k + length (d ∷ ds)) h (mode (numeral_at start negative (count + 1 + length ds) (digits_value_from value_on ds))) bs (omega arith)
    ∙ ap (λ n. reads (k + length (d ∷ ds)) h (mode (numeral_at start negative n (digits_value_from value_on ds))) bs) count_on

by_fits : (k : ℕ) (h : Held) (start : ℕ) (z : ℤ) (c : Byte) (t : Bool)
    → after_operand (noted (is_some (cond t (Some z) None)) start Number (held_at k h)) (seen (num (unwrap_or (cond t (Some z) None) (pos 0)))) c
    ≡ after_operand (held_at k (marked h start (cond t None (Some Number)))) (seen (num (cond t z (pos 0)))) c
by_fits k h start z c true = ap (λ s. after_operand s (seen (num z)) c) (noted_is true start Number (held_at k h))
by_fits k h start z c false = ap (λ s. after_operand s (seen (num (pos 0))) c) (noted_is false start Number (held_at k h))

-- the number that stands where a numeral is read
abbrev pub number_read : ℤ → ℤ
number_read z = cond (fits_64 z) z (pos 0)

number_acts : (k : ℕ) (h : Held) (start : ℕ) (negative : Bool) (count value : ℕ) → eqb count 0 ≡ false
    → let z : ℤ = signed negative (record { count = count; value = value }) in Acts k h (Digits (numeral_at start negative count value)) (marked h start (cond (fits_64 z) None (Some Number))) (seen (num (number_read z)))
unfolding stepped in_digits
number_acts k h start negative count value some Digit b f = absurd (false≢true f)
number_acts k h start negative count value some c b f =
    let z : ℤ = signed negative (record { count = count; value = value }) in
    ap (λ t. cond t None (after_operand (noted (is_some (in_64 z)) start Number (held_at k h)) (seen (num (unwrap_or (in_64 z) (pos 0)))) c)) some
    ∙ by_fits k h start z c (fits_64 z)

-- a token is read in front of what can stand after an operand
abbrev pub ReadsNumber : List ℕ → ℤ → Type 0
ReadsNumber t z = (k : ℕ) (h : Held) (gap bs : List ℕ) → list_all is_blank gap ≡ true → follows bs ≡ true
    → reads k h Operand (gap ++ (t ++ bs)) ≡ reads (k + length gap + length t) (marked h (k + length gap) (cond (fits_64 z) None (Some Number))) (Whole (seen (num (number_read z)))) bs

minus_read : (ds : List ℕ) → are_digits ds ≡ true → ReadsNumber (45 ∷ ds) (neg_ℤ (pos (digits_value ds)))
unfolding stepped begun
minus_read ds e k h gap bs blank f =
    let parts = and_parts (leb 1 (length ds) && leb (length ds) 19) (list_all is_digit ds) e in
    let range = and_parts (leb 1 (length ds)) (leb (length ds) 19) parts.0 in
    let some : 1 ≤ length ds = leb-true 1 (length ds) range.0 in
    let few : length ds ≤ 19 = leb-true (length ds) 19 range.1 in
    let start : ℕ = k + length gap in
    let none : eqb (0 + length ds) 0 ≡ false = ne_eqb (0 + length ds) 0 (λ q. absurd (omega (arith, q))) in
    skips h Operand (λ j b. refl) k gap (45 ∷ (ds ++ bs)) blank
    ∙ goes start h Operand 45 (ds ++ bs) (Operator Sub) (held_at start h) (Digits (numeral_at start true 0 0)) refl refl
    ∙ read_digits h Digits start true (λ j n v b. digits_on j h start true n v b) ds bs (start + 1) 0 0 parts.1 (omega arith)
    ∙ acts (start + 1 + length ds) h (Digits (numeral_at start true (0 + length ds) (digits_value ds))) (marked h start (cond (fits_64 (neg_ℤ (pos (digits_value ds)))) None (Some Number))) (seen (num (number_read (neg_ℤ (pos (digits_value ds))))))
    (number_acts (start + 1 + length ds) h start true (0 + length ds) (digits_value ds) none) bs f
    ∙ elsewhere (start + 1 + length ds) (k + length gap + length (45 ∷ ds)) (marked h start (cond (fits_64 (neg_ℤ (pos (digits_value ds)))) None (Some Number))) (Whole (seen (num (number_read (neg_ℤ (pos (digits_value ds))))))) bs (omega arith)

plain_read : (d : ℕ) (ds : List ℕ) → are_digits (d ∷ ds) ≡ true → ReadsNumber (d ∷ ds) (pos (digits_value_from (d - 48) ds))
unfolding stepped begun
plain_read d ds e k h gap bs blank f =
    let z : ℤ = pos (digits_value_from (d - 48) ds) in
    let parts = and_parts (leb 1 (length (d ∷ ds)) && leb (length (d ∷ ds)) 19) (list_all is_digit (d ∷ ds)) e in
    let range = and_parts (leb 1 (length (d ∷ ds))) (leb (length (d ∷ ds)) 19) parts.0 in
    let all = and_parts (is_digit d) (list_all is_digit ds) parts.1 in
    let few : length (d ∷ ds) ≤ 19 = leb-true (length (d ∷ ds)) 19 range.1 in
    let start : ℕ = k + length gap in
    let none : eqb (1 + length ds) 0 ≡ false = ne_eqb (1 + length ds) 0 (λ q. absurd (omega (arith, q))) in
    skips h Operand (λ j b. refl) k gap (d ∷ (ds ++ bs)) blank
    ∙ goes start h Operand d (ds ++ bs) Digit (held_at start h) (Digits (numeral_at start false 1 (d - 48))) (digit_kind d all.0) refl
    ∙ read_digits h Digits start false (λ j n v b. digits_on j h start false n v b) ds bs (start + 1) 1 (d - 48) all.1 (omega arith)
    ∙ acts (start + 1 + length ds) h (Digits (numeral_at start false (1 + length ds) (digits_value_from (d - 48) ds))) (marked h start (cond (fits_64 z) None (Some Number))) (seen (num (number_read z)))
    (number_acts (start + 1 + length ds) h start false (1 + length ds) (digits_value_from (d - 48) ds) none) bs f
    ∙ elsewhere (start + 1 + length ds) (k + length gap + length (d ∷ ds)) (marked h start (cond (fits_64 z) None (Some Number))) (Whole (seen (num (number_read z)))) bs (omega arith)

pub numeral_read : (t : List ℕ) → is_numeral t ≡ true → ReadsNumber t (numeral_value t)
numeral_read [] e = absurd (false≢true e)
numeral_read (d ∷ ds) e = by_minus (eqb d 45) refl
  where
    by_minus : (m : Bool) → eqb d 45 ≡ m → ReadsNumber (d ∷ ds) (numeral_value (d ∷ ds))
    by_minus true is =
        let byte : 45 ≡ d = sym (eqb-true d 45 is) in
        subst (λ b. ReadsNumber (b ∷ ds) (numeral_value (b ∷ ds))) byte (minus_read ds (ap (λ m. are_digits (cond m ds (d ∷ ds))) (sym is) ∙ e))
    by_minus false is =
        let from : d - 48 ≡ 10 * 0 + (d - 48) = omega arith in
        let value : pos (digits_value_from (d - 48) ds) ≡ numeral_value (d ∷ ds) =
        ap (λ v. pos (digits_value_from v ds)) from ∙ ap (λ m. cond m (neg_ℤ (pos (digits_value (cond m ds (d ∷ ds))))) (pos (digits_value (d ∷ ds)))) (sym is) in
        subst (ReadsNumber (d ∷ ds)) value (plain_read d ds (ap (λ m. are_digits (cond m ds (d ∷ ds))) (sym is) ∙ e))
