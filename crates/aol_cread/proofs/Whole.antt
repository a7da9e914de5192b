-- Reading a whole text.
use Rattle.std.specs.Prelude.{◌≡◌, ℕ, suc, ◌+◌, ◌-◌, ◌^◌, ◌<◌, ◌≤◌, ◌==◌, Bool, true, false, not, ℤ, pos, negsuc, List, [], ◌∷◌, ◌++◌, length, codes, decimal, nat_lt, if◌then◌else◌, Some, None, option_map, option_and_then}
use Rattle.std.specs.List.{list_all}
use Rattle.std.proofs.Common.{subst, sym, refl, ap, arith, ◌∙◌, append_assoc, length-append}
use Rattle.std.proofs.lemmas.List.{append-nil}
use Rattle.aol_csyn.specs.declared.program.COp.{COp}
use Rattle.aol_csyn.specs.declared.program.COp.TheVariants.{Add, Sub, Mul, Div, Rem, Lt, Le, Eq}
use Rattle.aol_csyn.specs.Tree.{Expr, num, var, tab, cell_v, cell_f, bin, Program}
use Rattle.aol_csyn.specs.Form.{expr_formed}
use Rattle.aol_csyn.specs.Text.{number_text, op_text, expr_text, indexed, numbers_text, further_text}
use Rattle.aol_csyn.proofs.Numbers.{AreDigits, is_digit, decimal_digits, bounds, bounds_below}
use Rattle.aol_cread.specs.Bytes.{found}
use Rattle.aol_cread.specs.Lines.{Line, head_line, type_line, table_line, v_line, f_line, step_line, var_line, set_line, put_v_line, put_f_line, if_line, else_line, for_line, close_line, run_line, call_line, onto, read_line}
use Rattle.aol_cread.specs.States.{State, room_in, program_in}
use Rattle.aol_cread.specs.Next.{next, nothing_read}
use Rattle.aol_cread.specs.Step.{taken, Takes}
use Rattle.aol_cread.specs.Wrong.{IsTextOf, BeginsProgram, IsLine, AreLines, in_front, IsFirstWrongLine}
use Rattle.aol_cread.specs.declared.building.Phase.TheVariants.{Ended}
use Rattle.aol_shape.specs.Numbers.{fits_64}
use Rattle.aol_cread.proofs.Exprs.{left_true, right_true, both_true}
use Rattle.aol_cread.proofs.Formats.{split, split_map, some_pair}
use Rattle.aol_cread.proofs.OneLine.{FitsLine, sound_line, complete_line}
use Rattle.aol_cread.proofs.Shown.{program_lines}
use Rattle.aol_cread.proofs.Complete.{Goes, goes_on}
use Rattle.aol_cread.proofs.Sound.{Reached}
use Rattle.aol_cread.proofs.Inside.{reached_next, reached_none, ended}
use Rattle.aol_cread.proofs.Programs.{program_ends}
use Rattle.aol_cread.proofs.Live.{lives}
use Rattle.aol_cread.proofs.Texts.{texts, texts_both, program_texts}

-- ---- lines have one line feed

abbrev Plain : List ℕ → Type 0
Plain xs = list_all (λ b. not (b == 10)) xs ≡ true

plain_both : (xs ys : List ℕ) → Plain xs → Plain ys → Plain (xs ++ ys)
plain_both [] ys h k = k
plain_both (x ∷ xs) ys h k = both_true (not (x == 10)) (list_all (λ b. not (b == 10)) (xs ++ ys)) (left_true (not (x == 10)) (list_all (λ b. not (b == 10)) xs) h) (plain_both xs ys (right_true (not (x == 10)) (list_all (λ b. not (b == 10)) xs) h) k)

digit_plain : (b : ℕ) → is_digit b ≡ true → not (b == 10) ≡ true
digit_plain b h = grind (arith, h)

digits_plain : (ds : List ℕ) → AreDigits ds → Plain ds
digits_plain [] h = refl
digits_plain (d ∷ ds) h = both_true (not (d == 10)) (list_all (λ b. not (b == 10)) ds) (digit_plain d h.0) (digits_plain ds h.1)

decimal_plain : (n : ℕ) → n < 2 ^ 64 → Plain (decimal n)
decimal_plain n h = digits_plain (decimal n) (decimal_digits n h)

either_plain : (d : Bool) (xs ys : List ℕ) → Plain xs → Plain ys → Plain (if d then xs else ys)
either_plain true xs ys h k = h
either_plain false xs ys h k = k

number_plain : (z : ℤ) → fits_64 z ≡ true → Plain (number_text z)
number_plain (pos n) h = let low = bounds n h in plain_both (decimal n) (codes "LL") (decimal_plain n (omega (arith, low))) refl
number_plain (negsuc n) h =
    let low = bounds_below n h in
    either_plain (n == 2 ^ 63 - 1) (codes "(-9223372036854775807LL - 1LL)") (codes "(-" ++ decimal (n + 1) ++ codes "LL)") refl
    (plain_both (codes "(-" ++ decimal (n + 1)) (codes "LL)") (plain_both (codes "(-") (decimal (n + 1)) refl (decimal_plain (n + 1) (omega (arith, low)))) refl)

op_plain : (op : COp) → Plain (op_text op)
op_plain Add = refl
op_plain Sub = refl
op_plain Mul = refl
op_plain Div = refl
op_plain Rem = refl
op_plain Lt = refl
op_plain Le = refl
op_plain Eq = refl

index_plain : (xs : List ℕ) → Plain xs → Plain (indexed xs)
index_plain xs h = plain_both (codes "[" ++ xs) (codes "]") (plain_both (codes "[") xs refl h) refl

small_is : (n : ℕ) → nat_lt n (2 ^ 32) ≡ true → n < 2 ^ 64
small_is n h = grind (arith, h)

expr_plain : (e : Expr) → expr_formed (2 ^ 32) (2 ^ 32) e ≡ true → Plain (expr_text e)
expr_plain (num z) h = number_plain z h
expr_plain (var k) h = plain_both (codes "a") (decimal k) refl (decimal_plain k (small_is k h))
expr_plain (tab t i) h =
    plain_both (codes "T" ++ decimal t) (indexed (expr_text i)) (plain_both (codes "T") (decimal t) refl (decimal_plain t (small_is t (left_true (nat_lt t (2 ^ 32)) (expr_formed (2 ^ 32) (2 ^ 32) i) h))))
    (index_plain (expr_text i) (expr_plain i (right_true (nat_lt t (2 ^ 32)) (expr_formed (2 ^ 32) (2 ^ 32) i) h)))
expr_plain (cell_v i) h = plain_both (codes "V") (indexed (expr_text i)) refl (index_plain (expr_text i) (expr_plain i h))
expr_plain (cell_f i) h = plain_both (codes "F") (indexed (expr_text i)) refl (index_plain (expr_text i) (expr_plain i h))
expr_plain (bin op a b) h =
    let x = expr_plain a (left_true (expr_formed (2 ^ 32) (2 ^ 32) a) (expr_formed (2 ^ 32) (2 ^ 32) b) h) in
    let y = expr_plain b (right_true (expr_formed (2 ^ 32) (2 ^ 32) a) (expr_formed (2 ^ 32) (2 ^ 32) b) h) in
    plain_both (codes "(" ++ expr_text a ++ op_text op ++ expr_text b) (codes ")")
    (plain_both (codes "(" ++ expr_text a ++ op_text op) (expr_text b) (plain_both (codes "(" ++ expr_text a) (op_text op) (plain_both (codes "(") (expr_text a) refl x) (op_plain op)) y) refl

further_plain : (zs : List ℤ) → list_all fits_64 zs ≡ true → Plain (further_text zs)
further_plain [] h = refl
further_plain (z ∷ zs) h =
    plain_both (codes "," ++ number_text z) (further_text zs) (plain_both (codes ",") (number_text z) refl (number_plain z (left_true (fits_64 z) (list_all fits_64 zs) h))) (further_plain zs (right_true (fits_64 z) (list_all fits_64 zs) h))

numbers_plain : (zs : List ℤ) → list_all fits_64 zs ≡ true → Plain (numbers_text zs)
numbers_plain [] h = refl
numbers_plain (z ∷ zs) h = plain_both (number_text z) (further_text zs) (number_plain z (left_true (fits_64 z) (list_all fits_64 zs) h)) (further_plain zs (right_true (fits_64 z) (list_all fits_64 zs) h))

-- what is put in front of something ends with its one line feed
record EndsSo (f : List ℕ → List ℕ) : Type 0 where
  body : List ℕ
  plain : Plain body
  same : (r : List ℕ) → f r ≡ body ++ (10 ∷ r)

with_front : (xs : List ℕ) (f : List ℕ → List ℕ) → Plain xs → EndsSo f → EndsSo (λ r. xs ++ f r)
with_front xs f h e = record { body = xs ++ e.body; plain = plain_both xs e.body h e.plain; same = λ r. ap (λ z. xs ++ z) (e.same r) ∙ sym (append_assoc xs e.body (10 ∷ r)) }

ends : (body : List ℕ) (f : List ℕ → List ℕ) → Plain body → ((r : List ℕ) → f r ≡ body ++ (10 ∷ r)) → EndsSo f
ends body f h same = record { body = body; plain = h; same = same }

small : (n : ℕ) → n < 2 ^ 32 → Plain (decimal n)
small n h = decimal_plain n (omega (arith, h))

line_ends : (room : ℕ) (l : Line) → FitsLine room l → EndsSo (onto l)
line_ends room head_line h = ends (codes "/* AOL-C/1 */") _ refl (λ r. refl)
line_ends room type_line h = ends (codes "typedef long long i64;") _ refl (λ r. refl)
line_ends room (table_line t zs) h =
    with_front (codes "static const i64 T") _ refl (with_front (decimal t) _ (small t h.name) (with_front (codes "[") _ refl (with_front (decimal (length zs)) _ (small (length zs) h.many) (with_front (codes "] = {") _ refl (with_front (numbers_text zs) _ (numbers_plain zs h.fit) (ends (codes "};") _ refl (λ r. refl)))))))
line_ends room (v_line c) h = with_front (codes "i64 V[") _ refl (with_front (decimal c) _ (small c h) (ends (codes "];") _ refl (λ r. refl)))
line_ends room (f_line c) h = with_front (codes "i64 F[") _ refl (with_front (decimal c) _ (small c h) (ends (codes "];") _ refl (λ r. refl)))
line_ends room (step_line l w) h = with_front (codes "void step_") _ refl (with_front (decimal l) _ (small l h.0) (with_front (codes "_") _ refl (with_front (decimal w) _ (small w h.1) (ends (codes "(void) {") _ refl (λ r. refl)))))
line_ends room (var_line k) h = with_front (codes "i64 a") _ refl (with_front (decimal k) _ (small k h) (ends (codes " = 0LL;") _ refl (λ r. refl)))
line_ends room (set_line k e) h = let s = h.1 in with_front (codes "a") _ refl (with_front (decimal k) _ (small k h.0) (with_front (codes " = ") _ refl (with_front (expr_text e) _ (expr_plain e s.formed) (ends (codes ";") _ refl (λ r. refl)))))
line_ends room (put_v_line at e) h = let s = h.0 in let t = h.1 in with_front (codes "V[") _ refl (with_front (expr_text at) _ (expr_plain at s.formed) (with_front (codes "] = ") _ refl (with_front (expr_text e) _ (expr_plain e t.formed) (ends (codes ";") _ refl (λ r. refl)))))
line_ends room (put_f_line at e) h = let s = h.0 in let t = h.1 in with_front (codes "F[") _ refl (with_front (expr_text at) _ (expr_plain at s.formed) (with_front (codes "] = ") _ refl (with_front (expr_text e) _ (expr_plain e t.formed) (ends (codes ";") _ refl (λ r. refl)))))
line_ends room (if_line e) h = with_front (codes "if (") _ refl (with_front (expr_text e) _ (expr_plain e h.formed) (ends (codes ") {") _ refl (λ r. refl)))
line_ends room else_line h = ends (codes "} else {") _ refl (λ r. refl)
line_ends room (for_line k a b) h =
    with_front (codes "for (a") _ refl (with_front (decimal k) _ (small k h.0) (with_front (codes " = ") _ refl (with_front (number_text a) _ (number_plain a h.1) (with_front (codes "; a") _ refl (with_front (decimal k) _ (small k h.0)
    (with_front (codes " < ") _ refl (with_front (number_text b) _ (number_plain b h.2) (with_front (codes "; a") _ refl (with_front (decimal k) _ (small k h.0) (with_front (codes " = a") _ refl (with_front (decimal k) _ (small k h.0) (ends (codes " + 1LL) {") _ refl (λ r. refl)))))))))))))
line_ends room close_line h = ends (codes "}") _ refl (λ r. refl)
line_ends room run_line h = ends (codes "void run(void) {") _ refl (λ r. refl)
line_ends room (call_line l w) h = with_front (codes "step_") _ refl (with_front (decimal l) _ (small l h.0) (with_front (codes "_") _ refl (with_front (decimal w) _ (small w h.1) (ends (codes "();") _ refl (λ r. refl)))))

not_nil : (xs r : List ℕ) → xs ++ (10 ∷ r) ≡ [] → ⊥
not_nil [] r h = absurd (cc)
not_nil (x ∷ xs) r h = absurd (cc)

not_feed : (d : Bool) → d ≡ true → not d ≡ true → ⊥
not_feed true h k = absurd (cc)
not_feed false h k = absurd (cc)

feed_is : (x : ℕ) → x ≡ 10 → (x == 10) ≡ true
feed_is x h = grind (arith, h)

-- a text has one first line
one_body : (xs ys r s : List ℕ) → Plain xs → Plain ys → xs ++ (10 ∷ r) ≡ ys ++ (10 ∷ s) → xs ≡ ys
one_body [] [] r s h k e = refl
one_body [] (y ∷ ys) r s h k e = let same : 10 ≡ y = cc in absurd (not_feed (y == 10) (feed_is y (sym same)) (left_true (not (y == 10)) (list_all (λ b. not (b == 10)) ys) k))
one_body (x ∷ xs) [] r s h k e = let same : x ≡ 10 = cc in absurd (not_feed (x == 10) (feed_is x same) (left_true (not (x == 10)) (list_all (λ b. not (b == 10)) xs) h))
one_body (x ∷ xs) (y ∷ ys) r s h k e =
    let same : x ≡ y = cc in let rest : xs ++ (10 ∷ r) ≡ ys ++ (10 ∷ s) = cc in
    let more = one_body xs ys r s (right_true (not (x == 10)) (list_all (λ b. not (b == 10)) xs) h) (right_true (not (y == 10)) (list_all (λ b. not (b == 10)) ys) k) rest in cc

-- ---- what was read

line_texts : List Line → List (List ℕ)
line_texts [] = []
line_texts (l ∷ ls) = onto l [] ∷ line_texts ls

long_lines : (ls : List Line) → length (line_texts ls) ≡ length ls
unfolding line_texts
long_lines [] = refl
long_lines (l ∷ ls) = ap (λ n. suc n) (long_lines ls)

apart : (room : ℕ) (l : Line) (r : List ℕ) → FitsLine room l → onto l r ≡ onto l [] ++ r
apart room l r h = let e = line_ends room l h in e.same r ∙ (sym (append_assoc e.body (10 ∷ []) r) ∙ ap (λ z. z ++ r) (sym (e.same [])))

are_lines : (ls : List Line) (s t : State) → Goes s ls t → AreLines (line_texts ls)
unfolding line_texts
are_lines [] s t g = tt
are_lines (l ∷ ls) s t g = let e = line_ends (room_in s) l g.2 in (record { body = e.body; plain = e.plain; whole = e.same [] }, are_lines ls g.0 t g.3)

lines_same : (ls : List Line) (s t : State) (r : List ℕ) → Goes s ls t → in_front (line_texts ls) r ≡ texts ls r
unfolding line_texts
lines_same [] s t r g = refl
lines_same (l ∷ ls) s t r g = ap (λ z. onto l [] ++ z) (lines_same ls g.0 t r g.3) ∙ sym (apart (room_in s) l (texts ls r) g.2)

front_apart : (xs : List (List ℕ)) (r q : List ℕ) → in_front xs r ++ q ≡ in_front xs (r ++ q)
front_apart [] r q = refl
front_apart (x ∷ xs) r q = append_assoc x (in_front xs r) q ∙ ap (λ z. x ++ z) (front_apart xs r q)

reached_goes : (ls ks : List Line) (s t : State) → Goes s ls t → Reached s ks → Reached t (ks ++ ls)
reached_goes [] ks s t g r = subst (λ x. Reached x (ks ++ [])) g (subst (Reached s) (sym (append-nil ks)) r)
reached_goes (l ∷ ls) ks s t g r = subst (Reached t) (append_assoc ks (l ∷ []) ls) (reached_goes ls (ks ++ l ∷ []) g.0 t g.3 (reached_next s g.0 l ks g.1 g.2 r))

-- two lines that lead on, of one text
record Rest (t e : State) (left : List ℕ) : Type 0 where
  tail : List Line
  goes : Goes t tail e
  text : texts tail [] ≡ left

some_first : {l m : Line} {r q : List ℕ} → found l r ≡ found m q → l ≡ m
some_first h = let both = some_pair h in both.0

some_second : {l m : Line} {r q : List ℕ} → found l r ≡ found m q → r ≡ q
some_second h = let both = some_pair h in both.1

peel : (ls ms : List Line) (s t e : State) (left : List ℕ) → Goes s ls t → Goes s ms e → texts ms [] ≡ texts ls left → Rest t e left
peel [] ms s t e left g h same = record { tail = ms; goes = subst (λ x. Goes x ms e) g h; text = same }
peel (l ∷ ls) [] s t e left g h same = let b = line_ends (room_in s) l g.2 in absurd (not_nil b.body (texts ls left) (sym (same ∙ b.same (texts ls left))))
peel (l ∷ ls) (m ∷ ms) s t e left g h same =
    let both : found m (texts ms []) ≡ found l (texts ls left) = sym (complete_line (room_in s) m (texts ms []) h.2) ∙ (ap (read_line (room_in s)) same ∙ complete_line (room_in s) l (texts ls left) g.2) in
    let one : m ≡ l = some_first both in let rest : texts ms [] ≡ texts ls left = some_second both in
    let here : Some h.0 ≡ Some g.0 = sym h.1 ∙ (ap (next s) one ∙ g.1) in
    let state : h.0 ≡ g.0 = cc in
    peel ls ms g.0 t e left g.3 (subst (λ x. Goes x ms e) state h.3) rest

-- what is read so far
pub record IsRead (text : List ℕ) (s : State) (left : List ℕ) (line : ℕ) : Type 0 where
  pub lines : List Line
  pub goes : Goes nothing_read lines s
  pub cut : text ≡ texts lines left
  pub counted : length lines + 1 ≡ line
  pub short : length lines + length left ≤ length text

pub nothing_is_read : (text : List ℕ) → IsRead text nothing_read text 1
nothing_is_read text = record { lines = []; goes = refl; cut = refl; counted = refl; short = omega arith }

one_long : (ls : List Line) (l : Line) → length (ls ++ l ∷ []) ≡ length ls + 1
one_long ls l = let long = length-append ls (l ∷ []) in omega (arith, long)

pub read_more : (text : List ℕ) (s u : State) (left r : List ℕ) (line : ℕ) → IsRead text s left line → taken s left ≡ Some (u, r) → IsRead text u r (line + 1) × (length r < length left)
read_more text s u left r line b h =
    let c = split (λ (p : Line × List ℕ). option_map (λ (x : State). (x, p.1)) (next s p.0)) (read_line (room_in s) left) (u, r) h in
    let l = c.value.0 in
    let m = split_map (λ (x : State). (x, c.value.1)) (next s l) (u, r) c.gives in
    let state : m.value ≡ u = ap (λ (p : State × List ℕ). p.0) m.gives in
    let rest : c.value.1 ≡ r = ap (λ (p : State × List ℕ). p.1) m.gives in
    let s1 = sound_line (room_in s) left l c.value.1 c.is in
    let e = line_ends (room_in s) l s1.1 in
    let cut : left ≡ onto l r = s1.0 ∙ ap (onto l) rest in
    let long : length left ≡ length e.body + suc (length r) = ap (λ (xs : List ℕ). length xs) (cut ∙ e.same r) ∙ length-append e.body (10 ∷ r) in
    let more = one_long b.lines l in let counted = b.counted in let short = b.short in (
      record {
        lines = b.lines ++ l ∷ [];
        goes = goes_on b.lines (l ∷ []) nothing_read s u b.goes (u, m.is ∙ ap (λ (x : State). Some x) state, s1.1, refl);
        cut = b.cut ∙ (ap (texts b.lines) cut ∙ sym (texts_both b.lines (l ∷ []) r));
        counted = omega (arith, more, counted);
        short = omega (arith, more, short, long);
      },
      omega (arith, long),
    )

-- ---- the end

module _ (text : List ℕ) (s : State) (line : ℕ) where
  pub read_all : IsRead text s [] line → s.phase ≡ Ended → IsTextOf (program_in s) text
  read_all b ph =
      let r = reached_goes b.lines [] nothing_read s b.goes reached_none in
      let e = ended s b.lines ph r in
      record { formed = e.0; whole = program_texts (program_in s) ∙ (ap (λ ls. texts ls []) (sym e.1) ∙ sym b.cut) }

  module _ (left : List ℕ) (b : IsRead text s left line) (none : taken s left ≡ None) (over : left ≡ [] → s.phase ≡ Ended → ⊥) where
    first_taken : (m : Line) (ms : List Line) (e : State) (more : List ℕ) → Goes s (m ∷ ms) e → left ≡ onto m more → ⊥
    first_taken m ms e more g is =
        let some : taken s left ≡ Some (g.0, more) =
        ap (taken s) is ∙ (ap (option_and_then (λ (p : Line × List ℕ). option_map (λ (x : State). (x, p.1)) (next s p.0))) (complete_line (room_in s) m more g.2) ∙ ap (option_map (λ (x : State). (x, more))) g.1) in
        let both : None ≡ Some (g.0, more) = sym none ∙ some in absurd (cc)

    no_tail : (tail : List Line) (e : State) → Goes s tail e → texts tail [] ≡ left → e.phase ≡ Ended → ⊥
    no_tail [] e g same ph = over (sym same) (ap (λ (x : State). x.phase) g ∙ ph)
    no_tail (m ∷ ms) e g same ph = first_taken m ms e (texts ms []) g (sym same)

    no_program : (p : Program) → IsTextOf p text → ⊥
    no_program p h =
        let e = program_ends p h.formed in
        let r = peel b.lines (program_lines p) nothing_read s e.last left b.goes e.goes (sym (program_texts p) ∙ (h.whole ∙ b.cut)) in
        no_tail r.tail e.last r.goes r.text e.phase

    no_next : (tail : List Line) (e : State) (this more q : List ℕ) → Goes s tail e → IsLine this → left ≡ this ++ more → texts tail [] ≡ this ++ q → ⊥
    no_next [] e this more q g i cut same = not_nil i.body q (sym (same ∙ (ap (λ z. z ++ q) i.whole ∙ append_assoc i.body (10 ∷ []) q)))
    no_next (m ∷ ms) e this more q g i cut same =
        let f = line_ends (room_in s) m g.2 in
        let bodies = one_body f.body i.body (texts ms []) q f.plain i.plain (sym (f.same (texts ms [])) ∙ (same ∙ (ap (λ z. z ++ q) i.whole ∙ append_assoc i.body (10 ∷ []) q))) in
        first_taken m ms e more g (cut ∙ (ap (λ z. z ++ more) i.whole ∙ (append_assoc i.body (10 ∷ []) more ∙ (ap (λ z. z ++ (10 ∷ more)) (sym bodies) ∙ sym (f.same more)))))

    stops : (this more : List ℕ) → IsLine this → left ≡ this ++ more → BeginsProgram (in_front (line_texts b.lines) this) → ⊥
    stops this more i cut h =
        let e = program_ends h.program h.formed in
        let r = peel b.lines (program_lines h.program) nothing_read s e.last (this ++ h.rest) b.goes e.goes
        (sym (program_texts h.program) ∙ (h.whole ∙ (front_apart (line_texts b.lines) this h.rest ∙ lines_same b.lines nothing_read s (this ++ h.rest) b.goes))) in
        no_next r.tail e.last this more h.rest r.goes i cut r.text

    pub refused : IsFirstWrongLine text line
    refused =
        let v = lives s b.lines (reached_goes b.lines [] nothing_read s b.goes reached_none) in
        let counted = b.counted in let long = long_lines b.lines in
        record {
          no_program = no_program;
          lines = line_texts b.lines;
          whole = are_lines b.lines nothing_read s b.goes;
          counted = omega (arith, counted, long);
          rest = left;
          cut = b.cut ∙ sym (lines_same b.lines nothing_read s left b.goes);
          begins = record {
            program = v.program;
            formed = v.formed;
            rest = texts v.more [];
            whole = program_texts v.program ∙ (ap (λ ls. texts ls []) v.lines ∙ (texts_both b.lines v.more [] ∙ (sym (lines_same b.lines nothing_read s (texts v.more []) b.goes) ∙ sym (front_apart (line_texts b.lines) [] (texts v.more [])))));
          };
          stops = stops;
        }

-- ---- as the code tells it

pub refused_at : (b : Bool) (s u : State) (t r : List ℕ) → Takes s t b u r → b ≡ false → taken s t ≡ None
refused_at false s u t r h is = h
refused_at true s u t r h is = absurd (cc)

pub taken_at : (b : Bool) (s u : State) (t r : List ℕ) → Takes s t b u r → b ≡ true → taken s t ≡ Some (u, r)
taken_at true s u t r h is = h
taken_at false s u t r h is = absurd (cc)

pub nothing_taken : (s : State) → taken s [] ≡ None
unfolding Rattle.aol_cread.specs.Lines.read_line Rattle.aol_cread.specs.Bytes.expect
nothing_taken s = refl

pub no_bytes : (t : List ℕ) → length t ≡ 0 → t ≡ []
no_bytes [] h = refl
no_bytes (b ∷ t) h = absurd (omega (arith, h))

pub some_bytes : (t : List ℕ) → t ≡ [] → 0 < length t → ⊥
some_bytes t h some = let n = ap (λ (xs : List ℕ). length xs) h in omega (arith, n, some)
