-- Reading goes on from a state with a byte, with blanks, and after an operand.
use Rattle.std.proofs.Common.{◌≡◌, ℕ, ◌+◌, ◌≤◌, List, [], ◌∷◌, ◌++◌, length, Bool, true, false, cond, leb, option_map, Result, refl, sym, ◌∙◌, ap, arith}
use Rattle.std.specs.List.{list_all}
use Rattle.std.proofs.lemmas.Bool.{and_parts, leb-true, ne_eqb, lt-leb, and_right, false≢true}
use Rattle.aol_shape.specs.Grammar.{TextFault}
use Rattle.aol_shape.specs.Texts.{is_blank, is_digit, is_letter}
use Rattle.aol_expr_tree.specs.declared.byte.Byte.{Byte}
use Rattle.aol_expr_tree.specs.declared.byte.Byte.TheVariants.{Blank, Digit, Letter, Operator, Less, Equals, Comma, Close, OpenBrace, CloseBrace}
use Rattle.aol_expr_tree.specs.declared.part.Part.{Part}
use Rattle.aol_expr_tree.specs.declared.reader.Held.{Held}
use Rattle.aol_expr_tree.specs.declared.reader.Mode.{Mode}
use Rattle.aol_expr_tree.specs.declared.reader.Mode.TheVariants.{Whole, Named}
use Rattle.aol_expr_tree.specs.declared.reader.Reader.{Reader}
use Rattle.aol_expr_tree.specs.Tree.{Tree, var}
use Rattle.aol_expr_tree.specs.Bytes.{byte_of, sign_of}
use Rattle.aol_expr_tree.specs.Parts.{seen}
use Rattle.aol_expr_tree.specs.Reading.{to, placed, step, stepped, finished, ending, after_name, after_operand, reading_from}
use Rattle.aol_expr_grammar.proofs.Bytewise.{goes_on, same_step, ends_at}

-- what is held, at this place
abbrev pub held_at : ℕ → Held → Held
held_at k h = record h { place = k }

-- what reading answers from this place, what is held there and this mode on
abbrev pub reads : ℕ → Held → Mode → List ℕ → Result Tree TextFault
reads k h m bytes = reading_from k (record { held = record h { place = k }; mode = m }) bytes

-- ---- kinds of bytes

pub blank_kind : (b : ℕ) → is_blank b ≡ true → byte_of b ≡ Blank
blank_kind b e = ap (λ t. cond t Blank (cond (is_digit b) Digit (cond (is_letter b) Letter (sign_of b)))) e

no_blank : (b : ℕ) → 33 ≤ b → is_blank b ≡ false
no_blank b h =
    let a : (b ≡ 32 → ⊥) = λ e. absurd (omega (arith, e)) in
    let c : (b ≡ 9 → ⊥) = λ e. absurd (omega (arith, e)) in
    let d : (b ≡ 10 → ⊥) = λ e. absurd (omega (arith, e)) in
    let f : (b ≡ 13 → ⊥) = λ e. absurd (omega (arith, e)) in
    rw (ne_eqb b 32 a, ne_eqb b 9 c, ne_eqb b 10 d, ne_eqb b 13 f) refl

pub digit_kind : (b : ℕ) → is_digit b ≡ true → byte_of b ≡ Digit
digit_kind b e =
    ap (λ t. cond t Blank (cond (is_digit b) Digit (cond (is_letter b) Letter (sign_of b)))) (no_blank b (omega (arith, leb-true 48 b (and_parts (leb 48 b) (leb b 57) e).0)))
    ∙ ap (λ t. cond t Digit (cond (is_letter b) Letter (sign_of b))) e

letter_above : (b : ℕ) → is_letter b ≡ true → 58 ≤ b
letter_above b e = grind arith

no_digit : (b : ℕ) → 58 ≤ b → is_digit b ≡ false
no_digit b h = and_right (leb 48 b) (leb b 57) (lt-leb b 57 (omega arith))

pub letter_kind : (b : ℕ) → is_letter b ≡ true → byte_of b ≡ Letter
letter_kind b e =
    let h : 58 ≤ b = letter_above b e in
    ap (λ t. cond t Blank (cond (is_digit b) Digit (cond (is_letter b) Letter (sign_of b)))) (no_blank b (omega arith))
    ∙ ap (λ t. cond t Digit (cond (is_letter b) Letter (sign_of b))) (no_digit b h)
    ∙ ap (λ t. cond t Letter (sign_of b)) e

-- a byte that can stand at once after an operand, and is no blank
abbrev pub is_later : Byte → Bool
is_later (Operator op) = true
is_later Less = true
is_later Equals = true
is_later Comma = true
is_later Close = true
is_later CloseBrace = true
is_later _ = false

-- one that is a blank, or such a byte
abbrev pub is_behind : Byte → Bool
is_behind Blank = true
is_behind (Operator op) = true
is_behind Less = true
is_behind Equals = true
is_behind Comma = true
is_behind Close = true
is_behind CloseBrace = true
is_behind _ = false

-- what can stand after an operand: blanks, and then the end or such a byte
abbrev pub follows : List ℕ → Bool
follows [] = true
follows (b ∷ bs) = cond (is_blank b) (follows bs) (is_later (byte_of b))

later_behind : (k : Byte) → is_later k ≡ true → is_behind k ≡ true
later_behind Blank e = refl
later_behind (Operator op) e = refl
later_behind Less e = refl
later_behind Equals e = refl
later_behind Comma e = refl
later_behind Close e = refl
later_behind CloseBrace e = refl
later_behind _ e = e

pub first_behind : (b : ℕ) (t more : Bool) → is_blank b ≡ t → cond t more (is_later (byte_of b)) ≡ true → is_behind (byte_of b) ≡ true
first_behind b true more e f = ap is_behind (blank_kind b e)
first_behind b false more e f = later_behind (byte_of b) f

-- ---- one byte

pub goes : (k : ℕ) (h : Held) (m : Mode) (b : ℕ) (bs : List ℕ) (c : Byte) (next : Held) (n : Mode) → byte_of b ≡ c → stepped (held_at k h) m c b ≡ to next n → reads k h m (b ∷ bs) ≡ reads (k + 1) next n bs
unfolding step
goes k h m b bs c next n e f =
    goes_on k (record { held = held_at k h; mode = m }) (record { held = held_at (k + 1) next; mode = n }) b bs
    (sym (ap (λ d. option_map (placed (k + 1)) (stepped (held_at k h) m d b)) e ∙ ap (option_map (placed (k + 1))) f))

pub elsewhere : (j k : ℕ) (h : Held) (m : Mode) (bs : List ℕ) → j ≡ k → reads j h m bs ≡ reads k h m bs
elsewhere j k h m bs e = ap (λ i. reads i h m bs) e

-- ---- blanks

-- a blank changes nothing
abbrev pub Stays : Held → Mode → Type 0
Stays h m = (k b : ℕ) → stepped (held_at k h) m Blank b ≡ to (held_at k h) m

pub skips : (h : Held) (m : Mode) → Stays h m → (k : ℕ) (gap bs : List ℕ) → list_all is_blank gap ≡ true → reads k h m (gap ++ bs) ≡ reads (k + length gap) h m bs
skips h m stays k [] bs blank = elsewhere k (k + 0) h m bs (omega arith)
skips h m stays k (b ∷ gap) bs blank =
    let parts = and_parts (is_blank b) (list_all is_blank gap) blank in
    goes k h m b (gap ++ bs) Blank (held_at k h) m (blank_kind b parts.0) (stays k b)
    ∙ skips h m stays (k + 1) gap bs parts.1
    ∙ elsewhere (k + 1 + length gap) (k + length (b ∷ gap)) h m bs (omega arith)

-- blanks, and then one byte
pub skips_to : (h : Held) (m : Mode) → Stays h m → (b : ℕ) (c : Byte) (next : Held) (n : Mode) → byte_of b ≡ c → ((k : ℕ) → stepped (held_at k h) m c b ≡ to (held_at k next) n)
    → (k : ℕ) (gap bs : List ℕ) → list_all is_blank gap ≡ true → reads k h m (gap ++ b ∷ bs) ≡ reads (k + length gap + 1) next n bs
skips_to h m stays b c next n e f k gap bs blank =
    skips h m stays k gap (b ∷ bs) blank ∙ goes (k + length gap) h m b bs c (held_at (k + length gap) next) n e (f (k + length gap))

-- ---- after an operand

same_finish : (r s : Reader) → stepped r.held r.mode Blank 32 ≡ stepped s.held s.mode Blank 32 → finished r ≡ finished s
unfolding finished
same_finish r s e = rw e refl

pub same_end : (k : ℕ) (h : Held) (m : Mode) (next : Held) (n : Mode) → stepped (held_at k h) m Blank 32 ≡ stepped (held_at k next) n Blank 32 → reads k h m [] ≡ reads k next n []
same_end k h m next n e =
    let r : Reader = record { held = held_at k h; mode = m } in
    let s : Reader = record { held = held_at k next; mode = n } in
    ends_at k r refl ∙ ap (ending k) (same_finish r s e) ∙ sym (ends_at k s refl)

pub same_front : (k : ℕ) (h : Held) (m : Mode) (next : Held) (n : Mode) (b : ℕ) (bs : List ℕ) → stepped (held_at k h) m (byte_of b) b ≡ stepped (held_at k next) n (byte_of b) b → reads k h m (b ∷ bs) ≡ reads k next n (b ∷ bs)
unfolding step
same_front k h m next n b bs e = same_step k (record { held = held_at k h; mode = m }) (record { held = held_at k next; mode = n }) b bs (ap (option_map (placed (k + 1))) e)

-- the same steps at bytes that stand after an operand
abbrev pub Acts : ℕ → Held → Mode → Held → Part → Type 0
Acts k h m next p = (c : Byte) (b : ℕ) → is_behind c ≡ true → stepped (held_at k h) m c b ≡ after_operand (held_at k next) p c

pub acts : (k : ℕ) (h : Held) (m : Mode) (next : Held) (p : Part) → Acts k h m next p → (bs : List ℕ) → follows bs ≡ true → reads k h m bs ≡ reads k next (Whole p) bs
unfolding stepped
acts k h m next p same [] f = same_end k h m next (Whole p) (same Blank 32 refl)
acts k h m next p same (b ∷ bs) f = same_front k h m next (Whole p) b bs (same (byte_of b) b (first_behind b (is_blank b) (follows bs) refl f))

-- ---- a name with blanks after it

later_named : (h : Held) (x : List ℕ) (c : Byte) → is_later c ≡ true → after_name h x c ≡ after_operand h (seen (var x)) c
unfolding after_name
later_named h x Blank e = absurd (false≢true e)
later_named h x OpenBrace e = absurd (false≢true e)
later_named h x _ e = refl

named_ends : (k : ℕ) (h : Held) (x : List ℕ) → finished (record { held = held_at k h; mode = Named x }) ≡ finished (record { held = held_at k h; mode = Whole (seen (var x)) })
unfolding finished stepped after_name after_operand
named_ends k h x = refl

blank_named : (k : ℕ) (h : Held) (x : List ℕ) (b : ℕ) (bs : List ℕ) → is_blank b ≡ true → reads k h (Named x) (b ∷ bs) ≡ reads (k + 1) h (Named x) bs
unfolding stepped after_name
blank_named k h x b bs e = goes k h (Named x) b bs Blank (held_at k h) (Named x) (blank_kind b e) refl

blank_whole : (k : ℕ) (h : Held) (p : Part) (b : ℕ) (bs : List ℕ) → is_blank b ≡ true → reads k h (Whole p) (b ∷ bs) ≡ reads (k + 1) h (Whole p) bs
unfolding stepped after_operand
blank_whole k h p b bs e = goes k h (Whole p) b bs Blank (held_at k h) (Whole p) (blank_kind b e) refl

later_step : (k : ℕ) (h : Held) (x : List ℕ) (b : ℕ) → is_later (byte_of b) ≡ true → step (record { held = held_at k h; mode = Named x }) b ≡ step (record { held = held_at k h; mode = Whole (seen (var x)) }) b
unfolding step stepped
later_step k h x b g = ap (option_map (placed (k + 1))) (later_named (held_at k h) x (byte_of b) g)

pub named_acts : (h : Held) (x : List ℕ) (k : ℕ) (bs : List ℕ) → follows bs ≡ true → reads k h (Named x) bs ≡ reads k h (Whole (seen (var x))) bs
named_acts h x k [] f =
    ends_at k (record { held = held_at k h; mode = Named x }) refl ∙ ap (ending k) (named_ends k h x) ∙ sym (ends_at k (record { held = held_at k h; mode = Whole (seen (var x)) }) refl)
named_acts h x k (b ∷ bs) f = by_blank (is_blank b) refl f (named_acts h x (k + 1) bs)
  where
    by_blank : (t : Bool) → is_blank b ≡ t → cond t (follows bs) (is_later (byte_of b)) ≡ true → (follows bs ≡ true → reads (k + 1) h (Named x) bs ≡ reads (k + 1) h (Whole (seen (var x))) bs)
        → reads k h (Named x) (b ∷ bs) ≡ reads k h (Whole (seen (var x))) (b ∷ bs)
    by_blank true e g later = blank_named k h x b bs e ∙ later g ∙ sym (blank_whole k h (seen (var x)) b bs e)
    by_blank false e g later = same_step k _ _ b bs (later_step k h x b g)
