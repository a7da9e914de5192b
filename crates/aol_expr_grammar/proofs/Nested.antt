-- Reading operators between operands, brackets, functions and choices.
use Rattle.std.proofs.Common.{◌≡◌, ℕ, ◌+◌, ◌≤◌, ◌<◌, max, List, [], ◌∷◌, ◌++◌, length, Bool, true, false, cond, ◌&&◌, ◌==◌, eqb, leb, ltb, Option, Some, None, refl, sym, ◌∙◌, ap, subst, arith, append_assoc, codes}
use Rattle.std.specs.List.{list_all}
use Rattle.std.proofs.lemmas.Bool.{and_parts, false≢true, leb-true, lt-ltb, ltb-true, eqb-true}
use Rattle.aol_shape.specs.declared.limit.LimitName.{LimitName}
use Rattle.aol_shape.specs.Texts.{is_blank, is_letter, is_name_byte, is_name, is_numeral, is_digit, has_minus, without_minus}
use Rattle.aol_shape.specs.Tokens.{Token, plain, sign, IsSpaced}
use Rattle.aol_expr_tree.specs.declared.op.ExprOp.{ExprOp}
use Rattle.aol_expr_tree.specs.declared.op.ExprOp.TheVariants.{Add, Sub, Mul, Div, Rem, Lt, Le, Eq, Min, Max}
use Rattle.aol_expr_tree.specs.declared.byte.Byte.TheVariants.{Open, Comma, Close}
use Rattle.aol_expr_tree.specs.declared.letters.Keyword.TheVariants.{Function, If}
use Rattle.aol_expr_tree.specs.declared.part.Part.{Part}
use Rattle.aol_expr_tree.specs.declared.reader.Waiting.{Waiting}
use Rattle.aol_expr_tree.specs.declared.reader.Bracket.{Bracket}
use Rattle.aol_expr_tree.specs.declared.reader.Bracket.TheVariants.{Parens, First, Second, Condition, Chosen, Other}
use Rattle.aol_expr_tree.specs.declared.reader.Held.{Held}
use Rattle.aol_expr_tree.specs.declared.reader.Mode.{Mode}
use Rattle.aol_expr_tree.specs.declared.reader.Mode.TheVariants.{Operand, Whole}
use Rattle.aol_expr_tree.specs.Tree.{Tree, bin, if_else, max_brackets}
use Rattle.aol_expr_tree.specs.Text.{Written, numeral, dollar, name, indexed, infix_of, function_of, choice, summed, parens, op_text, strength, is_infix, alone, written_strength, groups_left, brackets, is_well, tokens_in, tree_written}
use Rattle.aol_expr_tree.specs.Bytes.{byte_of}
use Rattle.aol_expr_tree.specs.Words.{word_of}
use Rattle.aol_expr_tree.specs.Parts.{seen, over_two, over_three}
use Rattle.aol_expr_tree.specs.Reading.{to, stepped, begun, nothing_waits, grouped, has_room, inside, opened, after_operand, left, closed, continued, next_argument}
use Rattle.aol_expr_grammar.proofs.Goes.{held_at, reads, skips_to, letter_kind, digit_kind}
use Rattle.aol_expr_grammar.proofs.Grouping.{IsFree, nothing_free, freer, Alike, same_alike, groups, over_two_seen, over_three_seen}
use Rattle.aol_expr_grammar.proofs.Spellings.{name_is}
use Rattle.aol_expr_grammar.proofs.Evidence.{first_passed, consume_plain, can_follow, is_first, Begins, begins_more, operand_no_equals, one_argument, two_arguments, three_arguments}
use Rattle.aol_expr_grammar.proofs.Operands.{holding, After, Further, word_further, infix_after, argument_on}

-- where no limit is passed the terms of the sums around are known
abbrev pub Agrees : Held → ℕ → Type 0
Agrees h around = h.passed ≡ None → (h.around ≡ around) × (1 ≤ around)

-- wherever an operand can stand, what is written is read as its tree
abbrev pub ReadsAs : Written → Type 0
ReadsAs w = (around k : ℕ) (h : Held) (bytes : List ℕ) (us : List Token) (s : IsSpaced bytes us) (ts : List Token) → us ≡ tokens_in around w ++ ts → can_follow ts ≡ true → length h.levels + brackets w ≤ 100 → Agrees h around
    → IsFree (written_strength w) h.waiting → After k h bytes us s ts (written_strength w) (tree_written w)

-- ---- what operands begin with

op_begins : (op : ExprOp) → (strength op == alone) ≡ true → (ts : List Token) → Begins (plain (op_text op) ∷ ts)
op_begins Min e ts = record { token = plain (op_text Min); more = ts; byte = 109; bytes = 105 ∷ 110 ∷ []; is = refl; text = refl; first = refl }
op_begins Max e ts = record { token = plain (op_text Max); more = ts; byte = 109; bytes = 97 ∷ 120 ∷ []; is = refl; text = refl; first = refl }
op_begins Add e ts = absurd (false≢true e)
op_begins Sub e ts = absurd (false≢true e)
op_begins Mul e ts = absurd (false≢true e)
op_begins Div e ts = absurd (false≢true e)
op_begins Rem e ts = absurd (false≢true e)
op_begins Lt e ts = absurd (false≢true e)
op_begins Le e ts = absurd (false≢true e)
op_begins Eq e ts = absurd (false≢true e)

name_begins : (x : List ℕ) (t : Token) (ts : List Token) → t.text ≡ x → is_name x ≡ true → Begins (t ∷ ts)
name_begins [] t ts e h = absurd (false≢true h)
name_begins (b ∷ bs) t ts e h = record { token = t; more = ts; byte = b; bytes = bs; is = refl; text = e; first = ap is_first (letter_kind b (name_is b bs h).letter) }

pub numeral_first : (b : ℕ) (bs : List ℕ) (m : Bool) → eqb b 45 ≡ m → is_numeral (b ∷ bs) ≡ true → is_first (byte_of b) ≡ true
numeral_first b bs true e h = ap (λ c. is_first (byte_of c)) (eqb-true b 45 e)
numeral_first b bs false e h =
    let all = and_parts _ (list_all is_digit (b ∷ bs)) (ap (λ m. Rattle.aol_shape.specs.Texts.are_digits (cond m bs (b ∷ bs))) (sym e) ∙ h) in
    ap is_first (digit_kind b (and_parts (is_digit b) (list_all is_digit bs) all.1).0)

numeral_begins : (t : List ℕ) (u : Token) (ts : List Token) → u.text ≡ t → is_numeral t ≡ true → Begins (u ∷ ts)
numeral_begins [] u ts e h = absurd (false≢true h)
numeral_begins (b ∷ bs) u ts e h = record { token = u; more = ts; byte = b; bytes = bs; is = refl; text = e; first = numeral_first b bs (eqb b 45) refl h }

pub begins : (around : ℕ) (w : Written) → is_well w ≡ true → Begins (tokens_in around w)
begins around (numeral t) h = numeral_begins t _ [] refl h
begins around (dollar t) h = record { token = plain (36 ∷ t); more = []; byte = 36; bytes = t; is = refl; text = refl; first = refl }
begins around (name x) h = name_begins x (plain x) [] refl h
begins around (indexed p at) h = name_begins p (plain p) _ refl (and_parts (is_name p) _ h).0
begins around (infix_of op l r) h =
    let front = and_parts (groups_left op l r && is_well l) (is_well r) h in
    begins_more (tokens_in around l) _ (begins around l (and_parts (groups_left op l r) (is_well l) front.0).1)
begins around (function_of op l r) h =
    let front = and_parts ((strength op == alone) && is_well l) (is_well r) h in
    op_begins op (and_parts (strength op == alone) (is_well l) front.0).0 _
begins around (choice c a b) h = record { token = plain (codes "if"); more = _; byte = 105; bytes = 102 ∷ []; is = refl; text = refl; first = refl }
begins around (summed x n e) h = record { token = plain (codes "sum"); more = _; byte = 115; bytes = 117 ∷ 109 ∷ []; is = refl; text = refl; first = refl }
begins around (parens w) h = record { token = sign 40; more = _; byte = 40; bytes = []; is = refl; text = refl; first = refl }

-- ---- operators between operands

op_follows : (op : ExprOp) (ts : List Token) → is_infix op ≡ true → can_follow (plain (op_text op) ∷ ts) ≡ true
op_follows Add ts e = refl
op_follows Sub ts e = refl
op_follows Mul ts e = refl
op_follows Div ts e = refl
op_follows Rem ts e = refl
op_follows Lt ts e = refl
op_follows Le ts e = refl
op_follows Eq ts e = refl
op_follows Min ts e = absurd (false≢true e)
op_follows Max ts e = absurd (false≢true e)

pub infix_read : (op : ExprOp) (l r : Written) → groups_left op l r ≡ true → is_well r ≡ true → ReadsAs l → ReadsAs r → ReadsAs (infix_of op l r)
infix_read op l r g well reads_l reads_r around k h bytes us s ts e f room agrees free =
    let tl : ℕ = written_strength l in
    let tr : ℕ = written_strength r in
    let parts = and_parts (is_infix op && leb (max 1 (strength op)) tl) (ltb (strength op) tr) g in
    let front = and_parts (is_infix op) (leb (max 1 (strength op)) tl) parts.0 in
    let looser : max 1 (strength op) ≤ tl = leb-true (max 1 (strength op)) tl front.1 in
    let tighter : strength op < tr = ltb-true (strength op) tr parts.1 in
    let right : List Token = tokens_in around r in
    infix_after op k h bytes us s ts tl tr (tree_written l) (tree_written r) right front.0 (omega arith) (omega arith) tighter free
    (λ mid m. operand_no_equals mid (right ++ ts) m (begins_more right ts (begins around r well)))
    (reads_l around k h bytes us s (plain (op_text op) ∷ (right ++ ts)) (e ∙ append_assoc (tokens_in around l) (plain (op_text op) ∷ right) ts) (op_follows op (right ++ ts) front.0) (omega arith) agrees (freer (strength op) tl h.waiting (omega arith) free))
    (λ j i mid m ls ar none free_r. reads_r around j i mid (right ++ ts) m ts refl f (let same = ap length ls in omega arith) (λ q. let a = agrees (none q) in (ar ∙ a.0, a.1)) free_r)

-- ---- brackets

-- what is held after an opening bracket
abbrev pub within : Held → Option (ℕ × LimitName) → Bracket → ℕ → Held
within h passed k around = record { place = h.place; passed = passed; levels = record { bracket = k; waiting = h.waiting; around = h.around } ∷ h.levels; waiting = nothing_waits; around = around }

pub room_for : (h : Held) (n : ℕ) → length h.levels + (1 + n) ≤ 100 → has_room h ≡ true
room_for h n e = lt-ltb (length h.levels) max_brackets (omega arith)

pub opens : (h : Held) (k : Bracket) (m : Mode) → has_room h ≡ true → opened h k m ≡ to (within h h.passed k h.around) m
unfolding opened inside
opens h k m room = ap (λ t. cond t (to (within h h.passed k h.around) m) None) room

-- a last argument with its closing sign, where what comes before it is read
pub closing : (k : ℕ) (h : Held) (bytes : List ℕ) (us : List Token) (s : IsSpaced bytes us) (ts : List Token) (tree stands : Tree) (j : ℕ) (inner : Held) (mid : List ℕ) (vs : List Token) (m : IsSpaced mid vs) (b tight : ℕ) (argument : Tree)
    (a : After j inner mid vs m (sign b ∷ ts) tight argument) (q : Part)
    → reads k h Operand bytes ≡ reads j inner Operand mid → first_passed h.passed k bytes us s ≡ first_passed inner.passed j mid vs m → (a.passed ≡ None → (h.passed ≡ None) × (stands ≡ tree)) → q ≡ seen stands
    → Further a.place (holding inner a.passed a.waiting) (Whole a.part) a.rest (sign b ∷ ts) a.left ts (holding h a.passed h.waiting) (Whole q)
    → After k h bytes us s ts 3 tree
closing k h bytes us s ts tree stands j inner mid vs m b tight argument a q start same exact is f = record {
  place = f.place;
  passed = a.passed;
  waiting = h.waiting;
  part = q;
  rest = f.rest;
  left = f.left;
  stands = stands;
  alike = subst (λ p. Alike 3 h.waiting p h.waiting (seen stands)) (sym is) (same_alike 3 h.waiting (seen stands));
  exact = exact;
  same = same ∙ a.same ∙ f.same;
  on = start ∙ a.on ∙ f.on;
}

paren_further : (k : ℕ) (h : Held) (bytes : List ℕ) (us : List Token) (s : IsSpaced bytes us) (ts : List Token) → us ≡ sign 40 ∷ ts → has_room h ≡ true → Further k h Operand bytes us s ts (within h h.passed Parens h.around) Operand
unfolding stepped begun
paren_further k h bytes us s ts e room =
    let t = consume_plain h.passed k bytes us s (40 ∷ []) ts e in
    record {
      place = k + length t.gap + 1;
      rest = t.mid;
      left = t.left;
      same = t.same;
      on = ap (reads k h Operand) t.is ∙ skips_to h Operand (λ j c. refl) 40 Open (within h h.passed Parens h.around) Operand refl (λ j. opens (held_at j h) Parens Operand room) k t.gap t.mid t.blank;
    }

paren_closes : (h : Held) (passed : Option (ℕ × LimitName)) (waiting : Waiting) (p : Part) (j : ℕ) → stepped (held_at j (holding (within h h.passed Parens h.around) passed waiting)) (Whole p) Close 41 ≡ to (held_at j (holding h passed h.waiting)) (Whole (grouped waiting p))
unfolding stepped after_operand left closed
paren_closes h passed waiting p j = refl

pub parens_read : (w : Written) → ReadsAs w → ReadsAs (parens w)
parens_read w reads_w around k h bytes us s ts e f room agrees free =
    let o = paren_further k h bytes us s (tokens_in around w ++ (sign 41 ∷ ts)) (e ∙ ap (λ vs. sign 40 ∷ vs) (one_argument (tokens_in around w) ts)) (room_for h (brackets w) room) in
    let inner : Held = within h h.passed Parens h.around in
    let a = reads_w around o.place inner o.rest (tokens_in around w ++ (sign 41 ∷ ts)) o.left (sign 41 ∷ ts) refl refl (omega arith) agrees (nothing_free (written_strength w)) in
    closing k h bytes us s ts (tree_written w) a.stands o.place inner o.rest (tokens_in around w ++ (sign 41 ∷ ts)) o.left 41 (written_strength w) (tree_written w) a (grouped a.waiting a.part)
    o.on o.same a.exact (groups (written_strength w) a.waiting a.part a.stands a.alike)
    (argument_on o.place inner o.rest (tokens_in around w ++ (sign 41 ∷ ts)) o.left ts (written_strength w) (tree_written w) 41 Close a (holding h a.passed h.waiting) (Whole (grouped a.waiting a.part)) refl (λ j. paren_closes h a.passed a.waiting a.part j))

-- ---- functions

-- the letters of a function
record IsFunction (op : ExprOp) : Type 0 where
  byte : ℕ
  bytes : List ℕ
  text : op_text op ≡ byte ∷ bytes
  letter : is_letter byte ≡ true
  more : list_all is_name_byte bytes ≡ true
  short : length (byte ∷ bytes) ≤ 64
  is : word_of (byte ∷ bytes) ≡ Some (Function op)

function_word : (op : ExprOp) → (strength op == alone) ≡ true → IsFunction op
function_word Min e = record { byte = 109; bytes = 105 ∷ 110 ∷ []; text = refl; letter = refl; more = refl; short = omega arith; is = refl }
function_word Max e = record { byte = 109; bytes = 97 ∷ 120 ∷ []; text = refl; letter = refl; more = refl; short = omega arith; is = refl }
function_word Add e = absurd (false≢true e)
function_word Sub e = absurd (false≢true e)
function_word Mul e = absurd (false≢true e)
function_word Div e = absurd (false≢true e)
function_word Rem e = absurd (false≢true e)
function_word Lt e = absurd (false≢true e)
function_word Le e = absurd (false≢true e)
function_word Eq e = absurd (false≢true e)

-- a comma after an argument
pub comma_on : (h : Held) (old new : Option (ℕ × LimitName)) (b : Bracket) (waiting : Waiting) (p : Part) (next : Bracket) → next_argument b (grouped waiting p) ≡ Some next → (j : ℕ)
    → stepped (held_at j (holding (within h old b h.around) new waiting)) (Whole p) Comma 44 ≡ to (held_at j (within h new next h.around)) Operand
unfolding stepped after_operand continued
comma_on h old new b waiting p next e j = rw e refl

-- a closing parenthesis after an argument
pub close_on : (h : Held) (old new : Option (ℕ × LimitName)) (b : Bracket) (around : ℕ) (waiting : Waiting) (p q : Part) → closed b (grouped waiting p) ≡ Some q → (j : ℕ)
    → stepped (held_at j (holding (within h old b around) new waiting)) (Whole p) Close 41 ≡ to (held_at j (holding h new h.waiting)) (Whole q)
unfolding stepped after_operand left
close_on h old new b around waiting p q e j = rw e refl

pub function_read : (op : ExprOp) (l r : Written) → (strength op == alone) ≡ true → ReadsAs l → ReadsAs r → ReadsAs (function_of op l r)
unfolding next_argument closed
function_read op l r well reads_l reads_r around k h bytes us s ts e f room agrees free =
    let w = function_word op well in
    let last : List Token = tokens_in around r ++ (sign 41 ∷ ts) in
    let rest : List Token = tokens_in around l ++ (sign 44 ∷ last) in
    let tokens : us ≡ plain (w.byte ∷ w.bytes) ∷ sign 40 ∷ rest = e ∙ ap (λ vs. plain (op_text op) ∷ sign 40 ∷ vs) (two_arguments (tokens_in around l) (tokens_in around r) ts) ∙ ap (λ t. plain t ∷ sign 40 ∷ rest) w.text in
    let outer : Held = within h h.passed (First op) h.around in
    let has : has_room h ≡ true = room_for h (max (brackets l) (brackets r)) room in
    let o = word_further k h bytes us s rest outer Operand w.byte w.bytes (Function op) tokens w.letter w.more w.short w.is has (λ j. opens (held_at j h) (First op) Operand has) in
    let a = reads_l around o.place outer o.rest rest o.left (sign 44 ∷ last) refl refl (omega arith) agrees (nothing_free (written_strength l)) in
    let first : grouped a.waiting a.part ≡ seen a.stands = groups (written_strength l) a.waiting a.part a.stands a.alike in
    let inner : Held = within h a.passed (Second op (seen a.stands)) h.around in
    let c = argument_on o.place outer o.rest rest o.left last (written_strength l) (tree_written l) 44 Comma a inner Operand refl
    (comma_on h h.passed a.passed (First op) a.waiting a.part (Second op (seen a.stands)) (ap (λ p. Some (Second op p)) first)) in
    let b = reads_r around c.place inner c.rest last c.left (sign 41 ∷ ts) refl refl (omega arith) (λ q. agrees (a.exact q).0) (nothing_free (written_strength r)) in
    let second : grouped b.waiting b.part ≡ seen b.stands = groups (written_strength r) b.waiting b.part b.stands b.alike in
    let part : Part = over_two (bin op) (seen a.stands) (seen b.stands) in
    let d = argument_on c.place inner c.rest last c.left ts (written_strength r) (tree_written r) 41 Close b (holding h b.passed h.waiting) (Whole part) refl
    (close_on h a.passed b.passed (Second op (seen a.stands)) h.around b.waiting b.part part (ap (λ p. Some (over_two (bin op) (seen a.stands) p)) second)) in
    closing k h bytes us s ts (bin op (tree_written l) (tree_written r)) (bin op a.stands b.stands) c.place inner c.rest last c.left 41 (written_strength r) (tree_written r) b part
    (o.on ∙ a.on ∙ c.on) (o.same ∙ a.same ∙ c.same) (λ q. let y = b.exact q in let x = a.exact y.0 in (x.0, ap (λ t. bin op t b.stands) x.1 ∙ ap (bin op (tree_written l)) y.1)) (over_two_seen op a.stands b.stands) d

-- the last argument of a choice
choice_last : (x y z : Written) (around k : ℕ) (h : Held) (bytes : List ℕ) (us : List Token) (s : IsSpaced bytes us) (ts : List Token) (j : ℕ) (passed : Option (ℕ × LimitName)) (c a : Tree) (mid : List ℕ)
    (m : IsSpaced mid (tokens_in around z ++ (sign 41 ∷ ts))) → ReadsAs z → length h.levels + (1 + brackets z) ≤ 100 → Agrees h around → (passed ≡ None → (h.passed ≡ None) × (c ≡ tree_written x) × (a ≡ tree_written y))
    → reads k h Operand bytes ≡ reads j (within h passed (Other (seen c) (seen a)) h.around) Operand mid → first_passed h.passed k bytes us s ≡ first_passed passed j mid (tokens_in around z ++ (sign 41 ∷ ts)) m
    → After k h bytes us s ts 3 (tree_written (choice x y z))
unfolding closed
choice_last x y z around k h bytes us s ts j passed c a mid m reads_z room agrees exact start same =
    let last : List Token = tokens_in around z ++ (sign 41 ∷ ts) in
    let inner : Held = within h passed (Other (seen c) (seen a)) h.around in
    let g = reads_z around j inner mid last m (sign 41 ∷ ts) refl refl (omega arith) (λ q. agrees (exact q).0) (nothing_free (written_strength z)) in
    let third : grouped g.waiting g.part ≡ seen g.stands = groups (written_strength z) g.waiting g.part g.stands g.alike in
    let part : Part = over_three if_else (seen c) (seen a) (seen g.stands) in
    let i = argument_on j inner mid last m ts (written_strength z) (tree_written z) 41 Close g (holding h g.passed h.waiting) (Whole part) refl
    (close_on h passed g.passed (Other (seen c) (seen a)) h.around g.waiting g.part part (ap (λ p. Some (over_three if_else (seen c) (seen a) p)) third)) in
    closing k h bytes us s ts (if_else (tree_written x) (tree_written y) (tree_written z)) (if_else c a g.stands) j inner mid last m 41 (written_strength z) (tree_written z) g part
    start same
    (λ q. let v = g.exact q in let u = exact v.0 in
    (u.0, ap (λ n. if_else n a g.stands) u.1 ∙ ap (λ n. if_else (tree_written x) n g.stands) u.2 ∙ ap (if_else (tree_written x) (tree_written y)) v.1)) (over_three_seen c a g.stands) i

-- the last two
choice_more : (x y z : Written) (around k : ℕ) (h : Held) (bytes : List ℕ) (us : List Token) (s : IsSpaced bytes us) (ts : List Token) (j : ℕ) (passed : Option (ℕ × LimitName)) (c : Tree) (mid : List ℕ)
    (m : IsSpaced mid (tokens_in around y ++ (sign 44 ∷ (tokens_in around z ++ (sign 41 ∷ ts))))) → ReadsAs y → ReadsAs z → length h.levels + (1 + max (brackets y) (brackets z)) ≤ 100 → Agrees h around → (passed ≡ None → (h.passed ≡ None) × (c ≡ tree_written x))
    → reads k h Operand bytes ≡ reads j (within h passed (Chosen (seen c)) h.around) Operand mid → first_passed h.passed k bytes us s ≡ first_passed passed j mid (tokens_in around y ++ (sign 44 ∷ (tokens_in around z ++ (sign 41 ∷ ts)))) m
    → After k h bytes us s ts 3 (tree_written (choice x y z))
unfolding next_argument
choice_more x y z around k h bytes us s ts j passed c mid m reads_y reads_z room agrees exact start same =
    let last : List Token = tokens_in around z ++ (sign 41 ∷ ts) in
    let middle : List Token = tokens_in around y ++ (sign 44 ∷ last) in
    let chosen : Held = within h passed (Chosen (seen c)) h.around in
    let b = reads_y around j chosen mid middle m (sign 44 ∷ last) refl refl (omega arith) (λ q. agrees (exact q).0) (nothing_free (written_strength y)) in
    let second : grouped b.waiting b.part ≡ seen b.stands = groups (written_strength y) b.waiting b.part b.stands b.alike in
    let d = argument_on j chosen mid middle m last (written_strength y) (tree_written y) 44 Comma b (within h b.passed (Other (seen c) (seen b.stands)) h.around) Operand refl
    (comma_on h passed b.passed (Chosen (seen c)) b.waiting b.part (Other (seen c) (seen b.stands)) (ap (λ p. Some (Other (seen c) p)) second)) in
    choice_last x y z around k h bytes us s ts d.place b.passed c b.stands d.rest d.left reads_z (omega arith) agrees (λ q. let v = b.exact q in let u = exact v.0 in (u.0, u.1, v.1))
    (start ∙ b.on ∙ d.on) (same ∙ b.same ∙ d.same)

pub choice_read : (x y z : Written) → ReadsAs x → ReadsAs y → ReadsAs z → ReadsAs (choice x y z)
unfolding next_argument
choice_read x y z reads_x reads_y reads_z around k h bytes us s ts e f room agrees free =
    let middle : List Token = tokens_in around y ++ (sign 44 ∷ (tokens_in around z ++ (sign 41 ∷ ts))) in
    let rest : List Token = tokens_in around x ++ (sign 44 ∷ middle) in
    let tokens : us ≡ plain (codes "if") ∷ sign 40 ∷ rest = e ∙ ap (λ vs. plain (codes "if") ∷ sign 40 ∷ vs) (three_arguments (tokens_in around x) (tokens_in around y) (tokens_in around z) ts) in
    let outer : Held = within h h.passed Condition h.around in
    let has : has_room h ≡ true = room_for h (max (brackets x) (max (brackets y) (brackets z))) room in
    let o = word_further k h bytes us s rest outer Operand 105 (102 ∷ []) If tokens refl refl (omega arith) refl has (λ j. opens (held_at j h) Condition Operand has) in
    let a = reads_x around o.place outer o.rest rest o.left (sign 44 ∷ middle) refl refl (omega arith) agrees (nothing_free (written_strength x)) in
    let first : grouped a.waiting a.part ≡ seen a.stands = groups (written_strength x) a.waiting a.part a.stands a.alike in
    let c = argument_on o.place outer o.rest rest o.left middle (written_strength x) (tree_written x) 44 Comma a (within h a.passed (Chosen (seen a.stands)) h.around) Operand refl
    (comma_on h h.passed a.passed Condition a.waiting a.part (Chosen (seen a.stands)) (ap (λ p. Some (Chosen p)) first)) in
    choice_more x y z around k h bytes us s ts c.place a.passed a.stands c.rest c.left reads_y reads_z (omega arith) agrees a.exact (o.on ∙ a.on ∙ c.on) (o.same ∙ a.same ∙ c.same)
