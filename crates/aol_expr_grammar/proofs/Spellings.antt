-- Reading indices of the output point, names, words and operators.
use Rattle.std.proofs.Common.{◌≡◌, ℕ, ◌+◌, ◌-◌, ◌*◌, ◌≤◌, ◌<◌, List, [], ◌∷◌, ◌++◌, length, Bool, true, false, cond, ◌&&◌, ◌||◌, not, leb, Some, None, refl, sym, ◌∙◌, ap, arith, append_assoc, append-nil, codes, ◌⊎◌, inl, inr}
use Rattle.std.specs.List.{list_all}
use Rattle.std.specs.Option.{is_none}
use Rattle.std.proofs.lemmas.List.{length-append}
use Rattle.std.proofs.lemmas.Bool.{and_parts, leb-true, lt-ltb, or_parts, or_cases, not-true, false≢true}
use Rattle.aol_shape.specs.Lists.{same}
use Rattle.aol_shape.specs.Texts.{is_blank, is_digit, is_letter, is_name_byte, is_name, is_word, digits_value, max_name}
use Rattle.aol_expr_tree.specs.declared.op.ExprOp.{ExprOp}
use Rattle.aol_expr_tree.specs.declared.op.ExprOp.TheVariants.{Add, Sub, Mul, Div, Rem, Lt, Le, Eq, Min, Max}
use Rattle.aol_expr_tree.specs.declared.byte.Byte.{Byte}
use Rattle.aol_expr_tree.specs.declared.byte.Byte.TheVariants.{Blank, Digit, Letter, Dollar, Operator, Less, Equals, Open}
use Rattle.aol_expr_tree.specs.declared.letters.Keyword.{Keyword}
use Rattle.aol_expr_tree.specs.declared.part.Part.{Part}
use Rattle.aol_expr_tree.specs.declared.reader.Held.{Held}
use Rattle.aol_expr_tree.specs.declared.reader.Mode.{Mode}
use Rattle.aol_expr_tree.specs.declared.reader.Mode.TheVariants.{Operand, Index, InIndex, InWord, AfterWord, Named, Whole, Smaller, Equal}
use Rattle.aol_expr_tree.specs.Tree.{index, var}
use Rattle.aol_expr_tree.specs.Bytes.{byte_of}
use Rattle.aol_expr_tree.specs.Words.{word_of}
use Rattle.aol_expr_tree.specs.Parts.{seen}
use Rattle.aol_expr_tree.specs.Text.{op_text, strength, is_infix}
use Rattle.aol_expr_tree.specs.Reading.{to, has_room, begun, stepped, onward, after_operand, compared, smaller, equal, new_index, in_index, longer, word_opened, after_word, in_word}
use Rattle.aol_expr_grammar.proofs.Goes.{held_at, reads, goes, elsewhere, Stays, skips, skips_to, same_front, same_end, Acts, acts, named_acts, first_behind, follows, is_behind, digit_kind, letter_kind, blank_kind}

-- ---- indices of the output point

index_act : (k : ℕ) (h : Held) (n : ℕ) → Acts k h (InIndex n) h (seen (index n))
unfolding stepped in_index
index_act k h n Digit b f = absurd (false≢true f)
index_act k h n c b f = refl

pub dollar_read : (t : List ℕ) → (leb 1 (length t) && leb (length t) 2 && list_all is_digit t) ≡ true → (k : ℕ) (h : Held) (gap bs : List ℕ) → list_all is_blank gap ≡ true → follows bs ≡ true
    → reads k h Operand (gap ++ (36 ∷ t ++ bs)) ≡ reads (k + length gap + length (36 ∷ t)) h (Whole (seen (index (digits_value t)))) bs
unfolding stepped begun new_index in_index
dollar_read [] e k h gap bs blank f = absurd (false≢true e)
dollar_read (d ∷ []) e k h gap bs blank f =
    let all = and_parts (is_digit d) true (and_parts true (list_all is_digit (d ∷ [])) e).1 in
    let start : ℕ = k + length gap in
    let value : d - 48 ≡ 0 + (d - 48) = omega arith in
    skips h Operand (λ j b. refl) k gap (36 ∷ d ∷ bs) blank
    ∙ goes start h Operand 36 (d ∷ bs) Dollar (held_at start h) Index refl refl
    ∙ goes (start + 1) h Index d bs Digit (held_at (start + 1) h) (InIndex (d - 48)) (digit_kind d all.0) refl
    ∙ acts (start + 1 + 1) h (InIndex (d - 48)) h (seen (index (d - 48))) (index_act (start + 1 + 1) h (d - 48)) bs f
    ∙ elsewhere (start + 1 + 1) (k + length gap + 2) h (Whole (seen (index (d - 48)))) bs (omega arith)
    ∙ ap (λ n. reads (k + length gap + 2) h (Whole (seen (index n))) bs) value
dollar_read (d ∷ c ∷ []) e k h gap bs blank f =
    let all = and_parts (is_digit d) (list_all is_digit (c ∷ [])) (and_parts true (list_all is_digit (d ∷ c ∷ [])) e).1 in
    let last = and_parts (is_digit c) true all.1 in
    let start : ℕ = k + length gap in
    let value : 10 * (d - 48) + (c - 48) ≡ digits_value (d ∷ c ∷ []) = omega arith in
    skips h Operand (λ j b. refl) k gap (36 ∷ d ∷ c ∷ bs) blank
    ∙ goes start h Operand 36 (d ∷ c ∷ bs) Dollar (held_at start h) Index refl refl
    ∙ goes (start + 1) h Index d (c ∷ bs) Digit (held_at (start + 1) h) (InIndex (d - 48)) (digit_kind d all.0) refl
    ∙ goes (start + 1 + 1) h (InIndex (d - 48)) c bs Digit (held_at (start + 1 + 1) h) (Whole (seen (index (10 * (d - 48) + (c - 48))))) (digit_kind c last.0) refl
    ∙ elsewhere (start + 1 + 1 + 1) (k + length gap + 3) h (Whole (seen (index (10 * (d - 48) + (c - 48))))) bs (omega arith)
    ∙ ap (λ n. reads (k + length gap + 3) h (Whole (seen (index n))) bs) value
dollar_read (d ∷ c ∷ b ∷ t) e k h gap bs blank f =
    let range = and_parts (leb 1 (length (d ∷ c ∷ b ∷ t))) (leb (length (d ∷ c ∷ b ∷ t)) 2) (and_parts _ (list_all is_digit (d ∷ c ∷ b ∷ t)) e).0 in
    absurd (omega (arith, leb-true (length (d ∷ c ∷ b ∷ t)) 2 range.1))

-- ---- names and words

longer_is : (x : List ℕ) (b : ℕ) → length x < 64 → longer x b ≡ Some (x ++ b ∷ [])
longer_is x b h = ap (λ t. cond t (Some (x ++ b ∷ [])) None) (lt-ltb (length x) 64 h)

-- letters and digits go on
pub read_letters : (h : Held) (mode : List ℕ → Mode) → ((k : ℕ) (x : List ℕ) (b : ℕ) → stepped (held_at k h) (mode x) Letter b ≡ onward (held_at k h) mode (longer x b))
    → ((k : ℕ) (x : List ℕ) (b : ℕ) → stepped (held_at k h) (mode x) Digit b ≡ onward (held_at k h) mode (longer x b))
    → (cs x bs : List ℕ) (k : ℕ) → list_all is_name_byte cs ≡ true → length x + length cs ≤ 64 → reads k h (mode x) (cs ++ bs) ≡ reads (k + length cs) h (mode (x ++ cs)) bs
read_letters h mode letter digit [] x bs k e few =
    elsewhere k (k + 0) h (mode x) bs (omega arith) ∙ ap (λ y. reads (k + 0) h (mode y) bs) (sym (append-nil x))
read_letters h mode letter digit (c ∷ cs) x bs k e few =
    by_kind (or_cases (is_letter c) (is_digit c) parts.0)
    (read_letters h mode letter digit cs (x ++ c ∷ []) bs (k + 1) parts.1 (omega (arith, few, length-append x (c ∷ [])))
    ∙ elsewhere (k + 1 + length cs) (k + length (c ∷ cs)) h (mode ((x ++ c ∷ []) ++ cs)) bs (omega arith)
    ∙ ap (λ y. reads (k + length (c ∷ cs)) h (mode y) bs) (append_assoc x (c ∷ []) cs))
  where
    parts : (is_name_byte c ≡ true) × (list_all is_name_byte cs ≡ true)
    parts = and_parts (is_name_byte c) (list_all is_name_byte cs) e

    on : onward (held_at k h) mode (longer x c) ≡ to (held_at k h) (mode (x ++ c ∷ []))
    on = ap (onward (held_at k h) mode) (longer_is x c (omega (arith, few)))

    by_kind : (is_letter c ≡ true) ⊎ (is_digit c ≡ true) → reads (k + 1) h (mode (x ++ c ∷ [])) (cs ++ bs) ≡ reads (k + length (c ∷ cs)) h (mode (x ++ c ∷ cs)) bs
        → reads k h (mode x) (c ∷ (cs ++ bs)) ≡ reads (k + length (c ∷ cs)) h (mode (x ++ c ∷ cs)) bs
    by_kind (inl l) more = goes k h (mode x) c (cs ++ bs) Letter (held_at k h) (mode (x ++ c ∷ [])) (letter_kind c l) (letter k x c ∙ on) ∙ more
    by_kind (inr d) more = goes k h (mode x) c (cs ++ bs) Digit (held_at k h) (mode (x ++ c ∷ [])) (digit_kind c d) (digit k x c ∙ on) ∙ more

-- a byte that is no letter or digit
abbrev pub is_plain : Byte → Bool
is_plain Letter = false
is_plain Digit = false
is_plain _ = true

behind_plain : (c : Byte) → is_behind c ≡ true → is_plain c ≡ true
behind_plain Letter e = e
behind_plain Digit e = e
behind_plain _ e = refl

-- a name and a word end before such a byte
in_named : (h : Held) (x : List ℕ) (c : Byte) (b : ℕ) → word_of x ≡ None → is_plain c ≡ true → stepped h (InWord x) c b ≡ stepped h (Named x) c b
unfolding stepped in_word
in_named h x Letter b e f = absurd (false≢true f)
in_named h x Digit b e f = absurd (false≢true f)
in_named h x c b e f = rw e refl

in_worded : (h : Held) (x : List ℕ) (w : Keyword) (c : Byte) (b : ℕ) → word_of x ≡ Some w → is_plain c ≡ true → stepped h (InWord x) c b ≡ stepped h (AfterWord w) c b
unfolding stepped in_word
in_worded h x w Letter b e f = absurd (false≢true f)
in_worded h x w Digit b e f = absurd (false≢true f)
in_worded h x w c b e f = rw e refl

-- the first byte is no letter or digit
abbrev pub plain_front : List ℕ → Bool
plain_front [] = true
plain_front (b ∷ bs) = is_plain (byte_of b)

follows_plain : (bs : List ℕ) → follows bs ≡ true → plain_front bs ≡ true
follows_plain [] f = refl
follows_plain (b ∷ bs) f = behind_plain (byte_of b) (first_behind b (is_blank b) (follows bs) refl f)

pub gap_plain : (gap : List ℕ) (b : ℕ) (bs : List ℕ) → list_all is_blank gap ≡ true → is_plain (byte_of b) ≡ true → plain_front (gap ++ b ∷ bs) ≡ true
gap_plain [] b bs blank f = f
gap_plain (g ∷ gap) b bs blank f = ap is_plain (blank_kind g (and_parts (is_blank g) (list_all is_blank gap) blank).0)

name_ends : (k : ℕ) (h : Held) (x bs : List ℕ) → word_of x ≡ None → plain_front bs ≡ true → reads k h (InWord x) bs ≡ reads k h (Named x) bs
name_ends k h x [] e f = same_end k h (InWord x) h (Named x) (in_named (held_at k h) x Blank 32 e refl)
name_ends k h x (b ∷ bs) e f = same_front k h (InWord x) h (Named x) b bs (in_named (held_at k h) x (byte_of b) b e f)

word_ends : (k : ℕ) (h : Held) (x : List ℕ) (w : Keyword) (bs : List ℕ) → word_of x ≡ Some w → plain_front bs ≡ true → reads k h (InWord x) bs ≡ reads k h (AfterWord w) bs
word_ends k h x w [] e f = same_end k h (InWord x) h (AfterWord w) (in_worded (held_at k h) x w Blank 32 e refl)
word_ends k h x w (b ∷ bs) e f = same_front k h (InWord x) h (AfterWord w) b bs (in_worded (held_at k h) x w (byte_of b) b e f)

pub no_word : (x : List ℕ) → is_word x ≡ false → word_of x ≡ None
no_word x e =
    let a = or_parts (same x (codes "min") || same x (codes "max") || same x (codes "if")) (same x (codes "sum")) e in
    let b = or_parts (same x (codes "min") || same x (codes "max")) (same x (codes "if")) a.0 in
    let c = or_parts (same x (codes "min")) (same x (codes "max")) b.0 in
    rw (c.0, c.1, b.1, a.1) refl

-- what a name is
pub record IsNameOf (b : ℕ) (cs : List ℕ) : Type 0 where
  pub letter : is_letter b ≡ true
  pub bytes : list_all is_name_byte cs ≡ true
  pub short : length (b ∷ cs) ≤ 64
  pub no_word : word_of (b ∷ cs) ≡ None

pub name_is : (b : ℕ) (cs : List ℕ) → is_name (b ∷ cs) ≡ true → IsNameOf b cs
name_is b cs e =
    let x : List ℕ = b ∷ cs in
    let a = and_parts (is_letter b && list_all is_name_byte x && leb (length x) max_name) (not (is_word x)) e in
    let c = and_parts (is_letter b && list_all is_name_byte x) (leb (length x) max_name) a.0 in
    let d = and_parts (is_letter b) (list_all is_name_byte x) c.0 in
    record { letter = d.0; bytes = (and_parts (is_name_byte b) (list_all is_name_byte cs) d.1).1; short = leb-true (length x) max_name c.1; no_word = no_word x (not-true (is_word x) a.1) }

letters_begin : (b : ℕ) (cs : List ℕ) → is_letter b ≡ true → list_all is_name_byte cs ≡ true → length (b ∷ cs) ≤ 64 → (k : ℕ) (h : Held) (gap bs : List ℕ) → list_all is_blank gap ≡ true
    → reads k h Operand (gap ++ (b ∷ cs ++ bs)) ≡ reads (k + length gap + length (b ∷ cs)) h (InWord (b ∷ cs)) bs
unfolding stepped begun in_word
letters_begin b cs letter bytes short k h gap bs blank =
    skips h Operand (λ j c. refl) k gap (b ∷ cs ++ bs) blank
    ∙ goes (k + length gap) h Operand b (cs ++ bs) Letter (held_at (k + length gap) h) (InWord (b ∷ [])) (letter_kind b letter) refl
    ∙ read_letters h InWord (λ j x c. refl) (λ j x c. refl) cs (b ∷ []) bs (k + length gap + 1) bytes (omega (arith, short))
    ∙ elsewhere (k + length gap + 1 + length cs) (k + length gap + length (b ∷ cs)) h (InWord (b ∷ cs)) bs (omega arith)

-- a name after which its first byte is no letter or digit
pub name_read : (x : List ℕ) → is_name x ≡ true → (k : ℕ) (h : Held) (gap bs : List ℕ) → list_all is_blank gap ≡ true → plain_front bs ≡ true
    → reads k h Operand (gap ++ (x ++ bs)) ≡ reads (k + length gap + length x) h (Named x) bs
name_read [] e k h gap bs blank f = absurd (false≢true e)
name_read (b ∷ cs) e k h gap bs blank f =
    let is = name_is b cs e in
    letters_begin b cs is.letter is.bytes is.short k h gap bs blank ∙ name_ends (k + length gap + length (b ∷ cs)) h (b ∷ cs) bs is.no_word f

-- a variable
pub variable_read : (x : List ℕ) → is_name x ≡ true → (k : ℕ) (h : Held) (gap bs : List ℕ) → list_all is_blank gap ≡ true → follows bs ≡ true
    → reads k h Operand (gap ++ (x ++ bs)) ≡ reads (k + length gap + length x) h (Whole (seen (var x))) bs
variable_read x e k h gap bs blank f = name_read x e k h gap bs blank (follows_plain bs f) ∙ named_acts h x (k + length gap + length x) bs f

-- a word with its bracket
pub word_read : (b : ℕ) (cs : List ℕ) (w : Keyword) → is_letter b ≡ true → list_all is_name_byte cs ≡ true → length (b ∷ cs) ≤ 64 → word_of (b ∷ cs) ≡ Some w
    → (k : ℕ) (h next : Held) (n : Mode) (gap space bs : List ℕ) → list_all is_blank gap ≡ true → list_all is_blank space ≡ true → has_room h ≡ true
    → ((j : ℕ) → word_opened (held_at j h) w ≡ to (held_at j next) n)
    → reads k h Operand (gap ++ (b ∷ cs ++ (space ++ 40 ∷ bs))) ≡ reads (k + length gap + length (b ∷ cs) + length space + 1) next n bs
unfolding stepped after_word
word_read b cs w letter bytes short is k h next n gap space bs blank empty room opens =
    let j : ℕ = k + length gap + length (b ∷ cs) in
    letters_begin b cs letter bytes short k h gap (space ++ 40 ∷ bs) blank
    ∙ word_ends j h (b ∷ cs) w (space ++ 40 ∷ bs) is (gap_plain space 40 bs empty refl)
    ∙ skips_to h (AfterWord w) (λ i c. ap (λ t. cond t (to (held_at i h) (AfterWord w)) None) room) 40 Open next n refl opens j space bs empty

-- ---- operators between operands

-- a byte that isn't `=`
abbrev pub is_no_equals : Byte → Bool
is_no_equals Equals = false
is_no_equals _ = true

-- there is a first byte, and it isn't `=`
abbrev pub no_equals : List ℕ → Bool
no_equals [] = false
no_equals (b ∷ bs) = is_no_equals (byte_of b)

smaller_is : (h : Held) (p : Part) (c : Byte) (b : ℕ) → is_no_equals c ≡ true → stepped h (Smaller p) c b ≡ stepped (compared Lt h p) Operand c b
unfolding stepped smaller
smaller_is h p Equals b e = absurd (false≢true e)
smaller_is h p _ b e = refl

smaller_on : (k : ℕ) (h : Held) (p : Part) (bs : List ℕ) → no_equals bs ≡ true → reads k h (Smaller p) bs ≡ reads k (compared Lt h p) Operand bs
smaller_on k h p [] e = absurd (false≢true e)
smaller_on k h p (b ∷ bs) e = same_front k h (Smaller p) (compared Lt h p) Operand b bs (smaller_is (held_at k h) p (byte_of b) b e)

-- an operator is read after its left operand
abbrev pub ReadsOperator : ExprOp → Type 0
ReadsOperator op = (k : ℕ) (h : Held) (p : Part) (gap bs : List ℕ) → list_all is_blank gap ≡ true → (strength op ≡ 0 → h.waiting.comparison ≡ None) → no_equals bs ≡ true
    → reads k h (Whole p) (gap ++ (op_text op ++ bs)) ≡ reads (k + length gap + length (op_text op)) (compared op h p) Operand bs

pub whole_stays : (h : Held) (p : Part) → Stays h (Whole p)
unfolding stepped after_operand
whole_stays h p k b = refl

sign_read : (op : ExprOp) (c : ℕ) → byte_of c ≡ Operator op → op_text op ≡ c ∷ [] → ReadsOperator op
unfolding stepped after_operand
sign_read op c kind text k h p gap bs blank waits_none free =
    ap (λ t. reads k h (Whole p) (gap ++ (t ++ bs))) text
    ∙ skips_to h (Whole p) (whole_stays h p) c (Operator op) (compared op h p) Operand kind (λ j. refl) k gap bs blank
    ∙ ap (λ t. reads (k + length gap + length t) (compared op h p) Operand bs) (sym text)

less_on : (k : ℕ) (h : Held) (p : Part) → h.waiting.comparison ≡ None → stepped (held_at k h) (Whole p) Less 60 ≡ to (held_at k h) (Smaller p)
unfolding stepped after_operand
less_on k h p e = ap (λ o. cond (is_none o) (to (held_at k h) (Smaller p)) None) e

equals_on : (k : ℕ) (h : Held) (p : Part) → h.waiting.comparison ≡ None → stepped (held_at k h) (Whole p) Equals 61 ≡ to (held_at k h) (Equal p)
unfolding stepped after_operand
equals_on k h p e = ap (λ o. cond (is_none o) (to (held_at k h) (Equal p)) None) e

less_read : ReadsOperator Lt
less_read k h p gap bs blank free front =
    skips_to h (Whole p) (whole_stays h p) 60 Less h (Smaller p) refl (λ j. less_on j h p (free refl)) k gap bs blank
    ∙ smaller_on (k + length gap + 1) h p bs front

le_read : ReadsOperator Le
unfolding stepped smaller
le_read k h p gap bs blank free front =
    skips_to h (Whole p) (whole_stays h p) 60 Less h (Smaller p) refl (λ j. less_on j h p (free refl)) k gap (61 ∷ bs) blank
    ∙ goes (k + length gap + 1) h (Smaller p) 61 bs Equals (compared Le (held_at (k + length gap + 1) h) p) Operand refl refl
    ∙ elsewhere (k + length gap + 1 + 1) (k + length gap + 2) (compared Le h p) Operand bs (omega arith)

eq_read : ReadsOperator Eq
unfolding stepped equal
eq_read k h p gap bs blank free front =
    skips_to h (Whole p) (whole_stays h p) 61 Equals h (Equal p) refl (λ j. equals_on j h p (free refl)) k gap (61 ∷ bs) blank
    ∙ goes (k + length gap + 1) h (Equal p) 61 bs Equals (compared Eq (held_at (k + length gap + 1) h) p) Operand refl refl
    ∙ elsewhere (k + length gap + 1 + 1) (k + length gap + 2) (compared Eq h p) Operand bs (omega arith)

pub operator_read : (op : ExprOp) → is_infix op ≡ true → ReadsOperator op
operator_read Add e = sign_read Add 43 refl refl
operator_read Sub e = sign_read Sub 45 refl refl
operator_read Mul e = sign_read Mul 42 refl refl
operator_read Div e = sign_read Div 47 refl refl
operator_read Rem e = sign_read Rem 37 refl refl
operator_read Lt e = less_read
operator_read Le e = le_read
operator_read Eq e = eq_read
operator_read Min e = absurd (false≢true e)
operator_read Max e = absurd (false≢true e)
