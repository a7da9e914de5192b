-- Reading what is written: the state after it, by its parts.
use Rattle.std.proofs.Common.{◌≡◌, ℕ, ◌+◌, ◌≤◌, ◌<◌, ℤ, pos, List, [], ◌∷◌, ◌++◌, length, Bool, true, false, cond, ◌&&◌, leb, Option, Some, None, refl, sym, ◌∙◌, ap, arith}
use Rattle.std.specs.List.{list_all}
use Rattle.aol_shape.specs.declared.limit.LimitName.{LimitName}
use Rattle.aol_shape.specs.declared.limit.LimitName.TheVariants.{Number}
use Rattle.aol_shape.specs.Numbers.{fits_64}
use Rattle.aol_shape.specs.Texts.{is_blank, is_letter, is_name_byte, is_name, is_numeral, numeral_value, is_digit, digits_value}
use Rattle.aol_shape.specs.Tokens.{Token, plain, sign, IsSpaced}
use Rattle.aol_expr_tree.specs.declared.op.ExprOp.{ExprOp}
use Rattle.aol_expr_tree.specs.declared.byte.Byte.{Byte}
use Rattle.aol_expr_tree.specs.declared.letters.Keyword.{Keyword}
use Rattle.aol_expr_tree.specs.declared.part.Part.{Part}
use Rattle.aol_expr_tree.specs.declared.reader.Waiting.{Waiting}
use Rattle.aol_expr_tree.specs.declared.reader.Held.{Held}
use Rattle.aol_expr_tree.specs.declared.reader.Mode.{Mode}
use Rattle.aol_expr_tree.specs.declared.reader.Mode.TheVariants.{Operand, Whole}
use Rattle.aol_expr_tree.specs.Tree.{Tree, num, index, var, bin}
use Rattle.aol_expr_tree.specs.Text.{numeral_token, op_text, strength, is_infix}
use Rattle.aol_expr_tree.specs.Bytes.{byte_of}
use Rattle.aol_expr_tree.specs.Words.{word_of}
use Rattle.aol_expr_tree.specs.Parts.{seen}
use Rattle.aol_expr_tree.specs.Reading.{to, stepped, waits, has_room, word_opened, compared}
use Rattle.aol_expr_grammar.proofs.Goes.{held_at, reads, skips_to, follows}
use Rattle.aol_expr_grammar.proofs.Grouping.{IsFree, Alike, same_alike, alike_waits, waits_free, group}
use Rattle.aol_expr_grammar.proofs.Tokens.{noted_token, or_else_none, marked, number_read, numeral_read}
use Rattle.aol_expr_grammar.proofs.Spellings.{no_equals, dollar_read, variable_read, word_read, operator_read, whole_stays}
use Rattle.aol_expr_grammar.proofs.Evidence.{first_passed, consume, consume_plain, noted_none, can_follow, left_follows}

-- what is held with this passed and waiting
abbrev pub holding : Held → Option (ℕ × LimitName) → Waiting → Held
holding h passed waiting = record h { passed = passed; waiting = waiting }

-- an operand is read that stands for the tree and binds so tightly; where a token passes a limit, another tree may stand for it
pub record After (k : ℕ) (h : Held) (bytes : List ℕ) (us : List Token) (s : IsSpaced bytes us) (ts : List Token) (tight : ℕ) (tree : Tree) : Type 0 where
  pub place : ℕ
  pub passed : Option (ℕ × LimitName)
  pub waiting : Waiting
  pub part : Part
  pub rest : List ℕ
  pub left : IsSpaced rest ts
  pub stands : Tree
  pub alike : Alike tight waiting part h.waiting (seen stands)
  pub exact : passed ≡ None → (h.passed ≡ None) × (stands ≡ tree)
  pub same : first_passed h.passed k bytes us s ≡ first_passed passed place rest ts left
  pub on : reads k h Operand bytes ≡ reads place (holding h passed waiting) (Whole part) rest

-- one token
pub leaf : (k : ℕ) (h : Held) (bytes : List ℕ) (us : List Token) (s : IsSpaced bytes us) (ts : List Token) (tight : ℕ) (tree stands : Tree) (t : Token) → us ≡ t ∷ ts → can_follow ts ≡ true → (t.passes ≡ None → stands ≡ tree)
    → ((gap bs : List ℕ) → list_all is_blank gap ≡ true → follows bs ≡ true → reads k h Operand (gap ++ (t.text ++ bs)) ≡ reads (k + length gap + length t.text) (marked h (k + length gap) t.passes) (Whole (seen stands)) bs)
    → After k h bytes us s ts tight tree
leaf k h bytes us s ts tight tree stands t e f exact on =
    let c = consume h.passed k bytes us s t ts e in
    record {
      place = k + length c.gap + length t.text;
      passed = noted_token h.passed (k + length c.gap) t.passes;
      waiting = h.waiting;
      part = seen stands;
      rest = c.mid;
      left = c.left;
      stands = stands;
      alike = same_alike tight h.waiting (seen stands);
      exact = λ q. let n = noted_none h.passed (k + length c.gap) t.passes q in (n.0, exact n.1);
      same = c.same;
      on = ap (reads k h Operand) c.is ∙ on c.gap c.mid c.blank (left_follows c.mid ts c.left f);
    }

unmarked : (k j : ℕ) (h : Held) (m : Mode) (bs : List ℕ) → reads j h m bs ≡ reads j (marked h k None) m bs
unmarked k j h m bs = ap (λ p. reads j (record h { passed = p }) m bs) (sym (or_else_none h.passed))

number_exact : (z : ℤ) (b : Bool) → fits_64 z ≡ b → cond b None (Some Number) ≡ None → number_read z ≡ z
number_exact z true e f = ap (λ t. cond t z (pos 0)) e
number_exact z false e f = absurd (cc)

pub numeral_leaf : (k : ℕ) (h : Held) (bytes : List ℕ) (us : List Token) (s : IsSpaced bytes us) (ts : List Token) (t : List ℕ) → us ≡ numeral_token t ∷ ts → can_follow ts ≡ true → is_numeral t ≡ true → After k h bytes us s ts 3 (num (numeral_value t))
numeral_leaf k h bytes us s ts t e f well =
    leaf k h bytes us s ts 3 (num (numeral_value t)) (num (number_read (numeral_value t))) (numeral_token t) e f (λ q. ap num (number_exact (numeral_value t) (fits_64 (numeral_value t)) refl q))
    (λ gap bs blank g. numeral_read t well k h gap bs blank g)

pub dollar_leaf : (k : ℕ) (h : Held) (bytes : List ℕ) (us : List Token) (s : IsSpaced bytes us) (ts : List Token) (t : List ℕ) → us ≡ plain (36 ∷ t) ∷ ts → can_follow ts ≡ true → (leb 1 (length t) && leb (length t) 2 && list_all is_digit t) ≡ true → After k h bytes us s ts 3 (index (digits_value t))
dollar_leaf k h bytes us s ts t e f well =
    leaf k h bytes us s ts 3 (index (digits_value t)) (index (digits_value t)) (plain (36 ∷ t)) e f (λ q. refl)
    (λ gap bs blank g. dollar_read t well k h gap bs blank g ∙ unmarked (k + length gap) (k + length gap + length (36 ∷ t)) h (Whole (seen (index (digits_value t)))) bs)

pub name_leaf : (k : ℕ) (h : Held) (bytes : List ℕ) (us : List Token) (s : IsSpaced bytes us) (ts : List Token) (x : List ℕ) → us ≡ plain x ∷ ts → can_follow ts ≡ true → is_name x ≡ true → After k h bytes us s ts 3 (var x)
name_leaf k h bytes us s ts x e f well =
    leaf k h bytes us s ts 3 (var x) (var x) (plain x) e f (λ q. refl)
    (λ gap bs blank g. variable_read x well k h gap bs blank g ∙ unmarked (k + length gap) (k + length gap + length x) h (Whole (seen (var x))) bs)

-- after one more token without a limit, in this state
pub record Further (k : ℕ) (h : Held) (m : Mode) (bytes : List ℕ) (us : List Token) (s : IsSpaced bytes us) (ts : List Token) (next : Held) (n : Mode) : Type 0 where
  pub place : ℕ
  pub rest : List ℕ
  pub left : IsSpaced rest ts
  pub same : first_passed h.passed k bytes us s ≡ first_passed h.passed place rest ts left
  pub on : reads k h m bytes ≡ reads place next n rest

-- one byte after an operand
pub sign_further : (k : ℕ) (h : Held) (p : Part) (bytes : List ℕ) (us : List Token) (s : IsSpaced bytes us) (ts : List Token) (next : Held) (n : Mode) (b : ℕ) (c : Byte) → us ≡ sign b ∷ ts → byte_of b ≡ c
    → ((j : ℕ) → stepped (held_at j h) (Whole p) c b ≡ to (held_at j next) n) → Further k h (Whole p) bytes us s ts next n
sign_further k h p bytes us s ts next n b c e kind steps =
    let t = consume_plain h.passed k bytes us s (b ∷ []) ts e in
    record {
      place = k + length t.gap + 1;
      rest = t.mid;
      left = t.left;
      same = t.same;
      on = ap (reads k h (Whole p)) t.is ∙ skips_to h (Whole p) (whole_stays h p) b c next n kind steps k t.gap t.mid t.blank;
    }

-- a word with its bracket
pub word_further : (k : ℕ) (h : Held) (bytes : List ℕ) (us : List Token) (s : IsSpaced bytes us) (ts : List Token) (next : Held) (n : Mode) (b : ℕ) (cs : List ℕ) (w : Keyword) → us ≡ plain (b ∷ cs) ∷ sign 40 ∷ ts
    → is_letter b ≡ true → list_all is_name_byte cs ≡ true → length (b ∷ cs) ≤ 64 → word_of (b ∷ cs) ≡ Some w → has_room h ≡ true → ((j : ℕ) → word_opened (held_at j h) w ≡ to (held_at j next) n)
    → Further k h Operand bytes us s ts next n
word_further k h bytes us s ts next n b cs w e letter more short is room opens =
    let t = consume_plain h.passed k bytes us s (b ∷ cs) (sign 40 ∷ ts) e in
    let o = consume_plain h.passed (k + length t.gap + length (b ∷ cs)) t.mid (sign 40 ∷ ts) t.left (40 ∷ []) ts refl in
    record {
      place = k + length t.gap + length (b ∷ cs) + length o.gap + 1;
      rest = o.mid;
      left = o.left;
      same = t.same ∙ o.same;
      on = ap (reads k h Operand) (t.is ∙ ap (λ mid. t.gap ++ (b ∷ cs ++ mid)) o.is) ∙ word_read b cs w letter more short is k h next n t.gap o.gap o.mid t.blank o.blank room opens;
    }

-- the operator between two operands
pub operator_further : (op : ExprOp) (k : ℕ) (h : Held) (p : Part) (bytes : List ℕ) (us : List Token) (s : IsSpaced bytes us) (ts : List Token) → is_infix op ≡ true → us ≡ plain (op_text op) ∷ ts → (strength op ≡ 0 → h.waiting.comparison ≡ None)
    → ((mid : List ℕ) → IsSpaced mid ts → no_equals mid ≡ true) → Further k h (Whole p) bytes us s ts (compared op h p) Operand
operator_further op k h p bytes us s ts infix_op e free front =
    let t = consume_plain h.passed k bytes us s (op_text op) ts e in
    record {
      place = k + length t.gap + length (op_text op);
      rest = t.mid;
      left = t.left;
      same = t.same;
      on = ap (reads k h (Whole p)) t.is ∙ operator_read op infix_op k h p t.gap t.mid t.blank free (front t.mid t.left);
    }

-- an operand after an operator's left operand
pub infix_after : (op : ExprOp) (k : ℕ) (h : Held) (bytes : List ℕ) (us : List Token) (s : IsSpaced bytes us) (ts : List Token) (tl tr : ℕ) (l r : Tree) (right : List Token) → is_infix op ≡ true → strength op ≤ tl → 1 ≤ tl → strength op < tr → IsFree (strength op) h.waiting
    → ((mid : List ℕ) → IsSpaced mid (right ++ ts) → no_equals mid ≡ true)
    → After k h bytes us s (plain (op_text op) ∷ (right ++ ts)) tl l
    → ((j : ℕ) (g : Held) (mid : List ℕ) (m : IsSpaced mid (right ++ ts)) → g.levels ≡ h.levels → g.around ≡ h.around → (g.passed ≡ None → h.passed ≡ None) → IsFree tr g.waiting → After j g mid (right ++ ts) m ts tr r)
    → After k h bytes us s ts (strength op) (bin op l r)
infix_after op k h bytes us s ts tl tr l r right infix_op looser some tighter free front a second =
    let held : Held = holding h a.passed a.waiting in
    let comparison : strength op ≡ 0 → a.waiting.comparison ≡ None = λ z. (a.alike.sum some).0 ∙ free.comparison (omega (arith, z)) in
    let o = operator_further op a.place held a.part a.rest (plain (op_text op) ∷ (right ++ ts)) a.left (right ++ ts) infix_op refl comparison front in
    let waiting : Waiting = waits op h.waiting (seen a.stands) in
    let is : waits op a.waiting a.part ≡ waiting = alike_waits op tl a.waiting h.waiting a.part (seen a.stands) infix_op looser a.alike in
    let next : Held = holding h a.passed waiting in
    let b = second o.place next o.rest o.left refl refl (λ q. (a.exact q).0) (waits_free op tr h.waiting (seen a.stands) infix_op tighter free) in
    record {
      place = b.place;
      passed = b.passed;
      waiting = b.waiting;
      part = b.part;
      rest = b.rest;
      left = b.left;
      stands = bin op a.stands b.stands;
      alike = group op tr b.waiting h.waiting b.part a.stands b.stands infix_op tighter free b.alike;
      exact = λ q. let y = b.exact q in let x = a.exact y.0 in (x.0, ap (λ t. bin op t b.stands) x.1 ∙ ap (bin op l) y.1);
      same = a.same ∙ o.same ∙ b.same;
      on = a.on ∙ o.on ∙ ap (λ v. reads o.place (holding h a.passed v) Operand o.rest) is ∙ b.on;
    }

-- an argument with the sign after it
pub argument_on : (k : ℕ) (h : Held) (bytes : List ℕ) (us : List Token) (s : IsSpaced bytes us) (ts : List Token) (tight : ℕ) (tree : Tree) (b : ℕ) (c : Byte) (a : After k h bytes us s (sign b ∷ ts) tight tree) (next : Held) (n : Mode) → byte_of b ≡ c
    → ((j : ℕ) → stepped (held_at j (holding h a.passed a.waiting)) (Whole a.part) c b ≡ to (held_at j next) n) → Further a.place (holding h a.passed a.waiting) (Whole a.part) a.rest (sign b ∷ ts) a.left ts next n
argument_on k h bytes us s ts tight tree b c a next n kind steps = sign_further a.place (holding h a.passed a.waiting) a.part a.rest (sign b ∷ ts) a.left ts next n b c refl kind steps
