-- Tokens of a spaced text one by one, with the first limit that they pass.
use Rattle.std.proofs.Common.{◌≡◌, ℕ, ◌+◌, List, [], ◌∷◌, ◌++◌, length, Bool, true, false, cond, Option, Some, None, refl, sym, ◌∙◌, ap, subst, append_assoc}
use Rattle.std.specs.List.{list_all}
use Rattle.std.proofs.lemmas.Bool.{and_parts, false≢true}
use Rattle.aol_shape.specs.declared.limit.LimitName.{LimitName}
use Rattle.aol_shape.specs.Texts.{is_blank}
use Rattle.aol_shape.specs.Tokens.{Token, plain, sign, separated, IsSpaced}
use Rattle.aol_expr_tree.specs.declared.byte.Byte.{Byte}
use Rattle.aol_expr_tree.specs.declared.byte.Byte.TheVariants.{Digit, Letter, Dollar, Operator, Equals, Open}
use Rattle.aol_expr_tree.specs.declared.op.ExprOp.TheVariants.{Sub}
use Rattle.aol_expr_tree.specs.declared.reader.Held.{Held}
use Rattle.aol_expr_tree.specs.declared.reader.Mode.TheVariants.{Operand, FirstIndex}
use Rattle.aol_expr_tree.specs.Bytes.{byte_of}
use Rattle.aol_expr_tree.specs.Reading.{stepped, begun, first_index}
use Rattle.aol_expr_grammar.proofs.Goes.{held_at, reads, skips, same_front, is_later, follows, blank_kind}
use Rattle.aol_expr_grammar.proofs.Spellings.{is_no_equals, no_equals}
use Rattle.aol_expr_grammar.proofs.Tokens.{noted_token, or_else_none}

-- the first limit that is passed after all tokens, from this place and what is passed before on
abbrev pub first_passed : Option (ℕ × LimitName) → ℕ → (bytes : List ℕ) → (ts : List Token) → IsSpaced bytes ts → Option (ℕ × LimitName)
first_passed passed k bytes [] s = passed
first_passed passed k bytes (t ∷ ts) s = first_passed (noted_token passed (k + length s.0) t.passes) (k + length s.0 + length t.text) s.1 ts s.4

-- the first token with the blanks before it, and what is left
pub record Consumed (passed : Option (ℕ × LimitName)) (k : ℕ) (bytes : List ℕ) (us : List Token) (s : IsSpaced bytes us) (t : Token) (ts : List Token) : Type 0 where
  pub gap : List ℕ
  pub mid : List ℕ
  pub is : bytes ≡ gap ++ (t.text ++ mid)
  pub blank : list_all is_blank gap ≡ true
  pub left : IsSpaced mid ts
  pub same : first_passed passed k bytes us s ≡ first_passed (noted_token passed (k + length gap) t.passes) (k + length gap + length t.text) mid ts left

pub consume : (passed : Option (ℕ × LimitName)) (k : ℕ) (bytes : List ℕ) (us : List Token) (s : IsSpaced bytes us) (t : Token) (ts : List Token) → us ≡ t ∷ ts → Consumed passed k bytes us s t ts
consume passed k bytes us s t ts e =
    subst (λ vs. (r : IsSpaced bytes vs) → Consumed passed k bytes vs r t ts) (sym e)
    (λ r. record { gap = r.0; mid = r.1; is = r.2 ∙ append_assoc r.0 t.text r.1; blank = r.3; left = r.4; same = refl }) s

-- a first token that passes no limit
pub record Plain (passed : Option (ℕ × LimitName)) (k : ℕ) (bytes : List ℕ) (us : List Token) (s : IsSpaced bytes us) (text : List ℕ) (ts : List Token) : Type 0 where
  pub gap : List ℕ
  pub mid : List ℕ
  pub is : bytes ≡ gap ++ (text ++ mid)
  pub blank : list_all is_blank gap ≡ true
  pub left : IsSpaced mid ts
  pub same : first_passed passed k bytes us s ≡ first_passed passed (k + length gap + length text) mid ts left

pub consume_plain : (passed : Option (ℕ × LimitName)) (k : ℕ) (bytes : List ℕ) (us : List Token) (s : IsSpaced bytes us) (text : List ℕ) (ts : List Token) → us ≡ plain text ∷ ts → Plain passed k bytes us s text ts
consume_plain passed k bytes us s text ts e =
    let c = consume passed k bytes us s (plain text) ts e in
    record { gap = c.gap; mid = c.mid; is = c.is; blank = c.blank; left = c.left; same = c.same ∙ ap (λ p. first_passed p (k + length c.gap + length text) c.mid ts c.left) (or_else_none passed) }

pub noted_none : (passed : Option (ℕ × LimitName)) (k : ℕ) (o : Option LimitName) → noted_token passed k o ≡ None → (passed ≡ None) × (o ≡ None)
noted_none None k None e = (refl, refl)
noted_none None k (Some x) e = absurd (cc)
noted_none (Some y) k o e = absurd (cc)

-- ---- what can follow an operand

abbrev later_text : List ℕ → Bool
later_text [] = false
later_text (b ∷ bs) = is_later (byte_of b)

-- the next token, if there is one, can stand after an operand
abbrev pub can_follow : List Token → Bool
can_follow [] = true
can_follow (t ∷ ts) = later_text t.text

blanks_follow : (bs : List ℕ) → list_all is_blank bs ≡ true → follows bs ≡ true
blanks_follow [] e = refl
blanks_follow (b ∷ bs) e =
    let parts = and_parts (is_blank b) (list_all is_blank bs) e in
    ap (λ t. cond t (follows bs) (is_later (byte_of b))) parts.0 ∙ blanks_follow bs parts.1

later_no_blank : (b : ℕ) (t : Bool) → is_blank b ≡ t → is_later (byte_of b) ≡ true → is_blank b ≡ false
later_no_blank b true e f = absurd (false≢true (sym (ap is_later (blank_kind b e)) ∙ f))
later_no_blank b false e f = e

gap_follow : (gap : List ℕ) (b : ℕ) (bs : List ℕ) → list_all is_blank gap ≡ true → is_later (byte_of b) ≡ true → follows (gap ++ b ∷ bs) ≡ true
gap_follow [] b bs e f = ap (λ t. cond t (follows bs) (is_later (byte_of b))) (later_no_blank b (is_blank b) refl f) ∙ f
gap_follow (g ∷ gap) b bs e f =
    let parts = and_parts (is_blank g) (list_all is_blank gap) e in
    ap (λ t. cond t (follows (gap ++ b ∷ bs)) (is_later (byte_of g))) parts.0 ∙ gap_follow gap b bs parts.1 f

text_follow : (gap text mid : List ℕ) → list_all is_blank gap ≡ true → later_text text ≡ true → follows (gap ++ (text ++ mid)) ≡ true
text_follow gap [] mid e f = absurd (false≢true f)
text_follow gap (b ∷ bs) mid e f = gap_follow gap b (bs ++ mid) e f

pub left_follows : (rest : List ℕ) (ts : List Token) → IsSpaced rest ts → can_follow ts ≡ true → follows rest ≡ true
left_follows rest [] s f = blanks_follow rest s
left_follows rest (t ∷ ts) s f = ap follows (s.2 ∙ append_assoc s.0 t.text s.1) ∙ text_follow s.0 t.text s.1 s.3 f

-- ---- what an operand begins with

abbrev pub is_first : Byte → Bool
is_first Digit = true
is_first (Operator Sub) = true
is_first Dollar = true
is_first Letter = true
is_first Open = true
is_first _ = false

-- the first token of some begins so
pub record Begins (us : List Token) : Type 0 where
  pub token : Token
  pub more : List Token
  pub byte : ℕ
  pub bytes : List ℕ
  pub is : us ≡ token ∷ more
  pub text : token.text ≡ byte ∷ bytes
  pub first : is_first (byte_of byte) ≡ true

pub begins_more : (us ts : List Token) → Begins us → Begins (us ++ ts)
begins_more us ts b = record { token = b.token; more = b.more ++ ts; byte = b.byte; bytes = b.bytes; is = ap (λ vs. vs ++ ts) b.is; text = b.text; first = b.first }

first_no_equals : (c : Byte) → is_first c ≡ true → is_no_equals c ≡ true
first_no_equals Equals e = e
first_no_equals _ e = refl

gap_no_equals : (gap : List ℕ) (b : ℕ) (bs : List ℕ) → list_all is_blank gap ≡ true → is_first (byte_of b) ≡ true → no_equals (gap ++ b ∷ bs) ≡ true
gap_no_equals [] b bs e f = first_no_equals (byte_of b) f
gap_no_equals (g ∷ gap) b bs e f = ap is_no_equals (blank_kind g (and_parts (is_blank g) (list_all is_blank gap) e).0)

-- where the first token begins
spaced_front : (bytes : List ℕ) (us : List Token) → IsSpaced bytes us → Begins us → (gap : List ℕ) × (b : ℕ) × (bs : List ℕ) × (bytes ≡ gap ++ b ∷ bs) × (list_all is_blank gap ≡ true) × (is_first (byte_of b) ≡ true)
spaced_front bytes us s b =
    let c = consume None 0 bytes us s b.token b.more b.is in
    (c.gap, b.byte, b.bytes ++ c.mid, c.is ∙ ap (λ t. c.gap ++ (t ++ c.mid)) b.text, c.blank, b.first)

pub operand_no_equals : (bytes : List ℕ) (us : List Token) → IsSpaced bytes us → Begins us → no_equals bytes ≡ true
operand_no_equals bytes us s b = let f = spaced_front bytes us s b in ap no_equals f.3 ∙ gap_no_equals f.0 f.1 f.2 f.4 f.5

first_same : (h : Held) (c : Byte) (b : ℕ) → is_first c ≡ true → stepped h FirstIndex c b ≡ stepped h Operand c b
unfolding stepped first_index begun
first_same h Digit b e = refl
first_same h (Operator Sub) b e = refl
first_same h Dollar b e = refl
first_same h Letter b e = refl
first_same h Open b e = refl
first_same h _ b e = absurd (false≢true e)

first_on : (k : ℕ) (h : Held) (gap : List ℕ) (b : ℕ) (bs : List ℕ) → list_all is_blank gap ≡ true → is_first (byte_of b) ≡ true → reads k h FirstIndex (gap ++ b ∷ bs) ≡ reads k h Operand (gap ++ b ∷ bs)
unfolding stepped first_index begun
first_on k h gap b bs e f =
    skips h FirstIndex (λ j c. refl) k gap (b ∷ bs) e
    ∙ same_front (k + length gap) h FirstIndex h Operand b bs (first_same (held_at (k + length gap) h) (byte_of b) b f)
    ∙ sym (skips h Operand (λ j c. refl) k gap (b ∷ bs) e)

-- a first index is an operand
pub first_operand : (k : ℕ) (h : Held) (bytes : List ℕ) (us : List Token) → IsSpaced bytes us → Begins us → reads k h FirstIndex bytes ≡ reads k h Operand bytes
first_operand k h bytes us s b =
    let f = spaced_front bytes us s b in
    ap (reads k h FirstIndex) f.3 ∙ first_on k h f.0 f.1 f.2 f.4 f.5 ∙ sym (ap (reads k h Operand) f.3)

-- ---- arguments

-- members with commas before them, and a closing brace
abbrev pub tail_tokens : List (List Token) → List Token → List Token
tail_tokens [] ts = sign 125 ∷ ts
tail_tokens (m ∷ ms) ts = sign 44 ∷ (m ++ tail_tokens ms ts)

pub separated_tail : (m : List Token) (ms : List (List Token)) (ts : List Token) → (separated (m ∷ ms) ++ sign 125 ∷ []) ++ ts ≡ m ++ tail_tokens ms ts
separated_tail m [] ts = append_assoc m (sign 125 ∷ []) ts
separated_tail m (n ∷ ms) ts =
    ap (λ vs. vs ++ ts) (append_assoc m (sign 44 ∷ separated (n ∷ ms)) (sign 125 ∷ []))
    ∙ append_assoc m (sign 44 ∷ (separated (n ∷ ms) ++ sign 125 ∷ [])) ts
    ∙ ap (λ vs. m ++ sign 44 ∷ vs) (separated_tail n ms ts)

pub one_argument : (m ts : List Token) → (m ++ sign 41 ∷ []) ++ ts ≡ m ++ (sign 41 ∷ ts)
one_argument m ts = append_assoc m (sign 41 ∷ []) ts

pub two_arguments : (m n ts : List Token) → ((m ++ sign 44 ∷ n) ++ sign 41 ∷ []) ++ ts ≡ m ++ (sign 44 ∷ (n ++ (sign 41 ∷ ts)))
two_arguments m n ts = simp append_assoc

pub three_arguments : (m n o ts : List Token) → ((m ++ sign 44 ∷ (n ++ sign 44 ∷ o)) ++ sign 41 ∷ []) ++ ts ≡ m ++ (sign 44 ∷ (n ++ (sign 44 ∷ (o ++ (sign 41 ∷ ts)))))
three_arguments m n o ts = simp append_assoc
