-- What is written is a token, something in brackets with a word before, or an operator between operands.
use Rattle.std.proofs.Common.{◌≡◌, ℕ, ◌+◌, ◌<◌, ◌≤◌, max, List, [], ◌∷◌, length, Bool, true, false, cond, not, ◌&&◌, ◌||◌, eqb, leb, ltb, refl, sym, ◌∙◌, ap, subst, arith}
use Rattle.std.specs.Prelude.{codes}
use Rattle.std.specs.List.{list_all}
use Rattle.std.proofs.lemmas.Bool.{and_parts, eqb-true, leb-true, ltb-true, ne_eqb, false≢true}
use Rattle.aol_shape.specs.Texts.{is_letter, is_digit, is_name_byte, is_name, is_word, are_digits, is_numeral}
use Rattle.aol_expr_tree.specs.declared.op.ExprOp.{ExprOp}
use Rattle.aol_expr_tree.specs.declared.op.ExprOp.TheVariants.{Min, Max}
use Rattle.aol_expr_tree.specs.Text.{Written, WrittenList, no_written, written_and, numeral, dollar, name, indexed, infix_of, function_of, choice, summed, parens, strength, alone, is_infix, groups_left, written_strength, is_well, are_well, op_text}
use Rattle.aol_expr_grammar.proofs.WordCases.{either}
use Rattle.aol_expr_grammar.proofs.Backwards.{onto, back, back_all, back_more}
use Rattle.aol_expr_grammar.proofs.Solid.{digit_bytes, name_bytes, digits_bytes}
use Rattle.aol_expr_grammar.proofs.Prefixes.{head, tail, IsFinal, names_final}

abbrev mutual
  pub size : Written → ℕ
  size (numeral t) = 1
  size (dollar t) = 1
  size (name x) = 1
  size (indexed p at) = 1 + size_all at
  size (infix_of op l r) = 1 + size l + size r
  size (function_of op l r) = 1 + size l + size r
  size (choice c a b) = 1 + size c + size a + size b
  size (summed x n e) = 3 + size e
  size (parens w) = 1 + size w

  pub size_all : WrittenList → ℕ
  size_all no_written = 0
  size_all (written_and w ws) = size w + size_all ws

-- ---- tokens

pub data Mark : Type 0 where
  bare : Mark
  minus : Mark
  money : Mark

abbrev pub mark_text : Mark → List ℕ → List ℕ
mark_text bare k = k
mark_text minus k = 45 ∷ k
mark_text money k = 36 ∷ k

abbrev rebuilt_token : Mark → List ℕ → Written
rebuilt_token bare t = cond (is_letter (head t)) (name t) (numeral t)
rebuilt_token minus t = numeral (45 ∷ t)
rebuilt_token money t = dollar t

pub record IsToken (w : Written) : Type 0 where
  pub mark : Mark
  pub core : List ℕ
  pub names : list_all is_name_byte core ≡ true
  pub some : 1 ≤ length core
  pub back_is : (k : List ℕ) → back w k ≡ onto core (mark_text mark k)
  pub rebuilt : w ≡ rebuilt_token mark core
  pub alone_is : written_strength w ≡ 3

-- ---- what is in brackets

pub data End : Type 0 where
  round_end : End
  curly_end : End

abbrev pub closing : End → ℕ
closing round_end = 41
closing curly_end = 125

abbrev pub opening_byte : End → ℕ
opening_byte round_end = 40
opening_byte curly_end = 123

-- arguments, the last one first
abbrev pub back_args : List Written → List ℕ → List ℕ
back_args [] k = k
back_args (w ∷ []) k = back w k
back_args (w ∷ v ∷ ws) k = back w (44 ∷ back_args (v ∷ ws) k)

abbrev pub sizes : List Written → ℕ
sizes [] = 0
sizes (w ∷ ws) = size w + sizes ws

abbrev pub AreWell : List Written → Type 0
AreWell [] = Unit {0}
AreWell (w ∷ ws) = (is_well w ≡ true) × AreWell ws

abbrev listed : List Written → WrittenList → WrittenList
listed [] more = more
listed (w ∷ ws) more = listed ws (written_and w more)

abbrev token_of : Written → List ℕ
token_of (numeral t) = t
token_of (name x) = x
token_of w = []

-- what the word and the arguments are
abbrev rebuilt_call : End → List ℕ → List Written → Written
rebuilt_call curly_end h ws = indexed h (listed ws no_written)
rebuilt_call round_end h [] = numeral []
rebuilt_call round_end h (w ∷ []) = parens w
rebuilt_call round_end h (r ∷ l ∷ []) = function_of (cond (eqb (head (tail h)) 105) Min Max) l r
rebuilt_call round_end h (e ∷ n ∷ x ∷ ws) = cond (eqb (head h) 105) (choice x n e) (summed (token_of x) (token_of n) e)

pub record IsCall (w : Written) : Type 0 where
  pub end : End
  pub word : List ℕ
  pub names : list_all is_name_byte word ≡ true
  pub args : List Written
  pub well : AreWell args
  pub small : sizes args < size w
  pub back_is : (k : List ℕ) → back w k ≡ closing end ∷ back_args args (opening_byte end ∷ onto word k)
  pub rebuilt : w ≡ rebuilt_call end word args
  pub alone_is : written_strength w ≡ 3

-- the same token, or the same word and arguments, is the same
pub same_token : (v w : Written) (s : IsToken v) (t : IsToken w) → s.mark ≡ t.mark → s.core ≡ t.core → v ≡ w
same_token v w s t e f = s.rebuilt ∙ ap (λ m. rebuilt_token m s.core) e ∙ ap (rebuilt_token t.mark) f ∙ sym t.rebuilt

pub same_call : (v w : Written) (s : IsCall v) (t : IsCall w) → s.end ≡ t.end → s.word ≡ t.word → s.args ≡ t.args → v ≡ w
same_call v w s t e f g = s.rebuilt ∙ ap (λ m. rebuilt_call m s.word s.args) e ∙ ap (λ h. rebuilt_call t.end h s.args) f ∙ ap (rebuilt_call t.end t.word) g ∙ sym t.rebuilt

-- ---- an operator between operands

pub record IsJoint (w : Written) : Type 0 where
  pub op : ExprOp
  pub left : Written
  pub right : Written
  pub is : w ≡ infix_of op left right
  pub infix_is : is_infix op ≡ true
  pub left_binds : strength op ≤ written_strength left
  pub right_binds : strength op < written_strength right
  pub left_well : is_well left ≡ true
  pub right_well : is_well right ≡ true

pub data View (w : Written) : Type 0 where
  token : IsToken w → View w
  call : IsCall w → View w
  joint : IsJoint w → View w

-- ---- each is one of the three

digit_no_letter : (b : ℕ) → is_digit b ≡ true → is_letter b ≡ false
digit_no_letter b h =
    let most : b ≤ 57 = leb-true b 57 (and_parts (leb 48 b) (leb b 57) h).1 in
    no_letter (leb 65 b) (leb 97 b) (eqb b 95) (leb b 90) (leb b 122) (λ e. omega (arith, leb-true 65 b e, most)) (λ e. omega (arith, leb-true 97 b e, most)) (λ e. omega (arith, eqb-true b 95 e, most))
  where
    no_letter : (a c d x y : Bool) → (a ≡ true → ⊥) → (c ≡ true → ⊥) → (d ≡ true → ⊥) → (((a && x) || (c && y)) || d) ≡ false
    no_letter true c d x y f g i = absurd (f refl)
    no_letter false true d x y f g i = absurd (g refl)
    no_letter false false true x y f g i = absurd (i refl)
    no_letter false false false x y f g i = refl

some_digits : (t : List ℕ) → are_digits t ≡ true → 1 ≤ length t
some_digits t h = leb-true 1 (length t) (and_parts (leb 1 (length t)) (leb (length t) 19) (and_parts (leb 1 (length t) && leb (length t) 19) (list_all is_digit t) h).0).0

first_digit : (b : ℕ) (t : List ℕ) → are_digits (b ∷ t) ≡ true → is_digit b ≡ true
first_digit b t h = (and_parts (is_digit b) (list_all is_digit t) (and_parts (leb 1 (length (b ∷ t)) && leb (length (b ∷ t)) 19) (list_all is_digit (b ∷ t)) h).1).0

numeral_token : (t : List ℕ) → is_numeral t ≡ true → IsToken (numeral t)
numeral_token [] h = absurd (false≢true h)
numeral_token (b ∷ t) h = either (IsToken (numeral (b ∷ t))) (eqb b 45)
    (λ e. let d : are_digits t ≡ true = sym (ap (λ c. are_digits (cond c t (b ∷ t))) e) ∙ h in
    subst (λ c. IsToken (numeral (c ∷ t))) (sym (eqb-true b 45 e)) (record { mark = minus; core = t; names = digits_bytes t d; some = some_digits t d; back_is = λ k. refl; rebuilt = refl; alone_is = refl }))
    (λ e. let d : are_digits (b ∷ t) ≡ true = sym (ap (λ c. are_digits (cond c t (b ∷ t))) e) ∙ h in
    record { mark = bare; core = b ∷ t; names = digits_bytes (b ∷ t) d; some = omega arith; back_is = λ k. refl; rebuilt = ap (λ c. cond c (name (b ∷ t)) (numeral (b ∷ t))) (sym (digit_no_letter b (first_digit b t d))); alone_is = refl })

name_token : (x : List ℕ) → is_name x ≡ true → IsToken (name x)
name_token [] h = absurd (false≢true h)
name_token (b ∷ x) h =
    let p = and_parts (is_letter b && list_all is_name_byte (b ∷ x) && leb (length (b ∷ x)) 64) (not (is_word (b ∷ x))) h in
    let q = and_parts (is_letter b && list_all is_name_byte (b ∷ x)) (leb (length (b ∷ x)) 64) p.0 in
    let r = and_parts (is_letter b) (list_all is_name_byte (b ∷ x)) q.0 in
    record { mark = bare; core = b ∷ x; names = r.1; some = omega arith; back_is = λ k. refl; rebuilt = ap (λ c. cond c (name (b ∷ x)) (numeral (b ∷ x))) (sym r.0); alone_is = refl }

dollar_token : (t : List ℕ) → is_well (dollar t) ≡ true → IsToken (dollar t)
dollar_token t h =
    let p = and_parts (leb 1 (length t) && leb (length t) 2) (list_all is_digit t) h in
    record { mark = money; core = t; names = digit_bytes t p.1; some = leb-true 1 (length t) (and_parts (leb 1 (length t)) (leb (length t) 2) p.0).0; back_is = λ k. refl; rebuilt = refl; alone_is = refl }

-- arguments of a port, the last one first
abbrev backwards : WrittenList → List Written → List Written
backwards no_written before = before
backwards (written_and w ws) before = backwards ws (w ∷ before)

listed_backwards : (ws : WrittenList) (before : List Written) → listed (backwards ws before) no_written ≡ listed before ws
listed_backwards no_written before = refl
listed_backwards (written_and w ws) before = listed_backwards ws (w ∷ before)

more_backwards : (ws : WrittenList) (v : Written) (before : List Written) (k : List ℕ) → back_more ws (back_args (v ∷ before) k) ≡ back_args (backwards ws (v ∷ before)) k
more_backwards no_written v before k = refl
more_backwards (written_and w ws) v before k = more_backwards ws w (v ∷ before) k

all_backwards : (ws : WrittenList) (k : List ℕ) → back_all ws k ≡ back_args (backwards ws []) k
all_backwards no_written k = refl
all_backwards (written_and w ws) k = more_backwards ws w [] k

sizes_backwards : (ws : WrittenList) (before : List Written) → sizes (backwards ws before) ≡ sizes before + size_all ws
sizes_backwards no_written before = omega arith
sizes_backwards (written_and w ws) before = omega (arith, sizes_backwards ws (w ∷ before))

well_backwards : (ws : WrittenList) (before : List Written) → are_well ws ≡ true → AreWell before → AreWell (backwards ws before)
well_backwards no_written before h k = k
well_backwards (written_and w ws) before h k = let p = and_parts (is_well w) (are_well ws) h in well_backwards ws (w ∷ before) p.1 (p.0, k)

numeral_of_digits : (n : List ℕ) → are_digits n ≡ true → is_numeral n ≡ true
numeral_of_digits [] h = h
numeral_of_digits (b ∷ n) h =
    let least : 48 ≤ b = leb-true 48 b (and_parts (leb 48 b) (leb b 57) (first_digit b n h)).0 in
    ap (λ c. are_digits (cond c n (b ∷ n))) (ne_eqb b 45 (λ e. absurd (omega (arith, e, least)))) ∙ h

function_call : (op : ExprOp) (l r : Written) → eqb (strength op) alone ≡ true → is_well l ≡ true → is_well r ≡ true → IsCall (function_of op l r)
function_call Min l r e h k = record { end = round_end; word = codes "min"; names = refl; args = r ∷ l ∷ []; well = (k, (h, tt)); small = omega arith; back_is = λ m. refl; rebuilt = refl; alone_is = refl }
function_call Max l r e h k = record { end = round_end; word = codes "max"; names = refl; args = r ∷ l ∷ []; well = (k, (h, tt)); small = omega arith; back_is = λ m. refl; rebuilt = refl; alone_is = refl }
function_call op l r e h k = absurd (false≢true e)

pub view : (w : Written) → is_well w ≡ true → View w
view (numeral t) h = token (numeral_token t h)
view (dollar t) h = token (dollar_token t h)
view (name x) h = token (name_token x h)
view (indexed p at) h =
    let q = and_parts (is_name p) (are_well at) h in
    call (record {
      end = curly_end;
      word = p;
      names = name_bytes p q.0;
      args = backwards at [];
      well = well_backwards at [] q.1 tt;
      small = omega (arith, sizes_backwards at []);
      back_is = λ k. ap (λ m. 125 ∷ m) (all_backwards at (123 ∷ onto p k));
      rebuilt = ap (indexed p) (sym (listed_backwards at []));
      alone_is = refl;
    })
view (infix_of op l r) h =
    let p = and_parts (groups_left op l r && is_well l) (is_well r) h in
    let q = and_parts (groups_left op l r) (is_well l) p.0 in
    let g = and_parts (is_infix op && leb (max 1 (strength op)) (written_strength l)) (ltb (strength op) (written_strength r)) q.0 in
    let i = and_parts (is_infix op) (leb (max 1 (strength op)) (written_strength l)) g.0 in
    joint (record {
      op = op;
      left = l;
      right = r;
      is = refl;
      infix_is = i.0;
      left_binds = omega (arith, leb-true (max 1 (strength op)) (written_strength l) i.1);
      right_binds = ltb-true (strength op) (written_strength r) g.1;
      left_well = q.1;
      right_well = p.1;
    })
view (function_of op l r) h =
    let p = and_parts (eqb (strength op) alone && is_well l) (is_well r) h in
    let q = and_parts (eqb (strength op) alone) (is_well l) p.0 in
    call (function_call op l r q.0 q.1 p.1)
view (choice c a b) h =
    let p = and_parts (is_well c && is_well a) (is_well b) h in
    let q = and_parts (is_well c) (is_well a) p.0 in
    call (record { end = round_end; word = codes "if"; names = refl; args = b ∷ a ∷ c ∷ []; well = (p.1, (q.1, (q.0, tt))); small = omega arith; back_is = λ m. refl; rebuilt = refl; alone_is = refl })
view (summed x n e) h =
    let p = and_parts (is_name x && are_digits n) (is_well e) h in
    let q = and_parts (is_name x) (are_digits n) p.0 in
    call (record { end = round_end; word = codes "sum"; names = refl; args = e ∷ numeral n ∷ name x ∷ []; well = (p.1, (numeral_of_digits n q.1, (q.0, tt))); small = omega arith; back_is = λ m. refl; rebuilt = refl; alone_is = refl })
view (parens w) h = call (record { end = round_end; word = []; names = refl; args = w ∷ []; well = (h, tt); small = omega arith; back_is = λ m. refl; rebuilt = refl; alone_is = refl })

token_final : (w : Written) → IsToken w → (k : List ℕ) → IsFinal (back w k)
token_final w t k = subst IsFinal (sym (t.back_is k)) (core_final t.core t.names t.some)
  where
    core_final : (x : List ℕ) → list_all is_name_byte x ≡ true → 1 ≤ length x → IsFinal (onto x (mark_text t.mark k))
    core_final [] h s = absurd (omega (arith, s))
    core_final (b ∷ x) h s = names_final b x (mark_text t.mark k) h

-- what is written ends in the last byte of an operand
pub back_final : (w : Written) → is_well w ≡ true → (k : List ℕ) → IsFinal (back w k)
back_final (numeral t) h k = token_final (numeral t) (numeral_token t h) k
back_final (dollar t) h k = token_final (dollar t) (dollar_token t h) k
back_final (name x) h k = token_final (name x) (name_token x h) k
back_final (indexed p at) h k = refl
back_final (infix_of op l r) h k = back_final r (and_parts (groups_left op l r && is_well l) (is_well r) h).1 (onto (op_text op) (back l k))
back_final (function_of op l r) h k = refl
back_final (choice c a b) h k = refl
back_final (summed x n e) h k = refl
back_final (parens w) h k = refl
