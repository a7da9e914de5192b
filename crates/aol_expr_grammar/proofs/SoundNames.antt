-- What is read stays so in words and names.
use Rattle.std.proofs.Common.{◌≡◌, ℕ, ◌<◌, List, [], ◌∷◌, ◌++◌, length, Bool, true, false, cond, not, ◌&&◌, ◌||◌, leb, Some, None, refl, sym, ◌∙◌, ap, subst, arith, append_assoc}
use Rattle.std.specs.Prelude.{ltb, codes}
use Rattle.std.specs.List.{list_all}
use Rattle.std.proofs.lemmas.Bool.{and_from, ltb-true, le-leb}
use Rattle.std.proofs.lemmas.List.{length-append}
use Rattle.aol_shape.specs.Lists.{same}
use Rattle.aol_shape.specs.Texts.{is_letter, is_digit, is_name_byte, is_name, is_word}
use Rattle.aol_expr_tree.specs.declared.op.ExprOp.TheVariants.{Min, Max}
use Rattle.aol_expr_tree.specs.declared.byte.Byte.{Byte}
use Rattle.aol_expr_tree.specs.declared.byte.Byte.TheVariants.{Blank, Digit, Letter, Open, OpenBrace, CloseBrace}
use Rattle.aol_expr_tree.specs.declared.letters.Keyword.{Keyword}
use Rattle.aol_expr_tree.specs.declared.letters.Keyword.TheVariants.{Function, If, Sum}
use Rattle.aol_expr_tree.specs.declared.part.Part.{Part}
use Rattle.aol_expr_tree.specs.declared.reader.Waiting.{Waiting}
use Rattle.aol_expr_tree.specs.declared.reader.Bracket.{Bracket}
use Rattle.aol_expr_tree.specs.declared.reader.Bracket.TheVariants as brackets
use Rattle.aol_expr_tree.specs.declared.reader.Level.{Level}
use Rattle.aol_expr_tree.specs.declared.reader.Held.{Held}
use Rattle.aol_expr_tree.specs.declared.reader.Mode.TheVariants.{InWord, AfterWord, FirstIndex}
use Rattle.aol_expr_tree.specs.Text.{name, op_text}
use Rattle.aol_expr_tree.specs.Words.{word_of}
use Rattle.aol_expr_tree.specs.Reading.{opened, inside, has_room, after_word, after_name, in_word, first_index, left, unindexed, nothing_waits}
use Rattle.aol_expr_grammar.proofs.Gaps.{Spaced, spaced_text, all_more}
use Rattle.aol_expr_grammar.proofs.ByteKinds.{Says, added, spaced_added}
use Rattle.aol_expr_grammar.proofs.OpenBrackets.{function_opens, condition_opens, indices_open, no_indices}
use Rattle.aol_expr_grammar.proofs.Contexts.{Before, before_inside}
use Rattle.aol_expr_grammar.proofs.States.{IsAt, Wholed, NamedAt, Unfilled, Ending, AreLetters, keyword_text, IsKeyword, IsRead, Fits}
use Rattle.aol_expr_grammar.proofs.SoundBrackets.{fits_when, byte_behind}
use Rattle.aol_expr_grammar.proofs.SoundOperands.{after_fits, begun_fits, opened_fits}
use Rattle.aol_expr_grammar.proofs.SoundNumbers.{grown, onward_when}
use Rattle.aol_expr_grammar.proofs.WordCases.{by_word}

-- ---- letters

pub letters_more : (x : List ℕ) (b : ℕ) → is_name_byte b ≡ true → length x < 64 → AreLetters x → AreLetters (x ++ b ∷ [])
letters_more [] b e k l = absurd l
letters_more (c ∷ x) b e k l = (l.0, all_more is_name_byte (c ∷ x) b l.1 e, omega (arith, length-append (c ∷ x) (b ∷ []), k))

pub letter_is : (b : ℕ) → is_letter b ≡ true → is_name_byte b ≡ true
letter_is b e = ap (λ t. t || is_digit b) e

or_true : (t : Bool) → (t || true) ≡ true
or_true true = refl
or_true false = refl

pub digit_is : (b : ℕ) → is_digit b ≡ true → is_name_byte b ≡ true
digit_is b e = ap (λ t. is_letter b || t) e ∙ or_true (is_letter b)

-- where there is no word, letters are a name
no_word : (x : List ℕ) → word_of x ≡ None → not (is_word x) ≡ true
no_word x e = by_tests (same x (codes "min")) (same x (codes "max")) (same x (codes "if")) (same x (codes "sum")) e
  where
    by_tests : (a b c d : Bool) → cond a (Some (Function Min)) (cond b (Some (Function Max)) (cond c (Some If) (cond d (Some Sum) None))) ≡ None → not (((a || b) || c) || d) ≡ true
    by_tests true b c d h = cc
    by_tests false true c d h = cc
    by_tests false false true d h = cc
    by_tests false false false true h = cc
    by_tests false false false false h = refl

pub name_right : (x : List ℕ) → AreLetters x → word_of x ≡ None → is_name x ≡ true
name_right [] l e = absurd l
name_right (b ∷ x) l e = and_from (is_letter b && list_all is_name_byte (b ∷ x) && leb (length (b ∷ x)) 64) (not (is_word (b ∷ x)))
    (and_from (is_letter b && list_all is_name_byte (b ∷ x)) (leb (length (b ∷ x)) 64) (and_from (is_letter b) (list_all is_name_byte (b ∷ x)) l.0 l.1) (le-leb (length (b ∷ x)) 64 l.2)) (no_word (b ∷ x) e)

-- ---- words

-- a word is there, which may have no room for its bracket
abbrev WordAt : Keyword → Held → List ℕ → Type 0
WordAt k h f = (ts : List (List ℕ)) × Before h.levels h.waiting ts × Spaced f (ts ++ keyword_text k ∷ []) × IsKeyword k

bracket_behind : (ts : List (List ℕ)) (t : List ℕ) (f : List ℕ) (b c : ℕ) → b ≡ c → Spaced f (ts ++ t ∷ []) → Spaced (f ++ b ∷ []) (ts ++ t ∷ (c ∷ []) ∷ [])
bracket_behind ts t f b c e s = subst (Spaced (f ++ b ∷ [])) (append_assoc ts (t ∷ []) ((c ∷ []) ∷ [])) (byte_behind (ts ++ t ∷ []) f b c e s)

after_word_fits : (last : Bool) (h : Held) (w : Keyword) (k : Byte) (b : ℕ) (f : List ℕ) → Says k b → WordAt w h f → Fits (after_word h w k) (f ++ added last k b)
unfolding after_word
after_word_fits last h (Function op) Open b f s r = opened_fits h (brackets.First op) (f ++ b ∷ []) r.0 (op_text op ∷ (40 ∷ []) ∷ []) r.1 (function_opens (length h.levels) op r.3) (bracket_behind r.0 (op_text op) f b 40 s r.2)
after_word_fits last h If Open b f s r = opened_fits h brackets.Condition (f ++ b ∷ []) r.0 (codes "if" ∷ (40 ∷ []) ∷ []) r.1 (condition_opens (length h.levels)) (bracket_behind r.0 (codes "if") f b 40 s r.2)
after_word_fits last h Sum Open b f s r = fits_when (has_room h) _ None (f ++ b ∷ []) (λ e. record { texts = r.0; before = r.1; room = ltb-true (length h.levels) 100 e; spaced = bracket_behind r.0 (codes "sum") f b 40 s r.2 }) (λ e. tt)
after_word_fits last h w Blank b f s r = fits_when (has_room h) _ None (f ++ added last Blank b) (λ e. (record { texts = r.0; before = r.1; room = ltb-true (length h.levels) 100 e; spaced = spaced_added last (r.0 ++ keyword_text w ∷ []) f b r.2 s }, r.3)) (λ e. tt)
after_word_fits last h w k b f s r = tt

pub word_fits : (last : Bool) (h : Held) (w : Keyword) (k : Byte) (b : ℕ) (f : List ℕ) → Says k b → IsRead h.levels h.waiting (AfterWord w) f → Fits (after_word h w k) (f ++ added last k b)
word_fits last h w k b f s r = after_word_fits last h w k b f s (r.0.texts, r.0.before, r.0.spaced, r.1)

-- ---- names

pub name_whole : (ls : List Level) (w : Waiting) (x : List ℕ) (f : List ℕ) → NamedAt x ls w f → Wholed ls w f
name_whole ls w x f r = record {
  texts = r.texts;
  operand = x ∷ [];
  before = r.before;
  spells = record { written = name x; well = r.right; few = omega (arith, r.before.few); binds = omega arith; texts_are = λ around. refl };
  spaced = r.spaced;
}

indices_fit : (h : Held) (x : List ℕ) (p : Part) (b : ℕ) (f : List ℕ) → b ≡ 123 → NamedAt x h.levels h.waiting f → Fits (opened h (brackets.Indices p) FirstIndex) (f ++ b ∷ [])
unfolding opened inside
indices_fit h x p b f s r = fits_when (has_room h) _ None (f ++ b ∷ []) (λ e.
    let room : length h.levels < 100 = ltb-true (length h.levels) 100 e in
    let own : List (List ℕ) = x ∷ (123 ∷ []) ∷ [] in
    let spaced : Spaced (f ++ b ∷ []) (r.texts ++ x ∷ (123 ∷ []) ∷ []) = bracket_behind r.texts x f b 123 s r.spaced in
    let at : IsAt (record { bracket = brackets.Indices p; waiting = h.waiting; around = h.around } ∷ h.levels) nothing_waits (f ++ b ∷ []) =
    record { texts = r.texts ++ own; before = before_inside (brackets.Indices p) h.around own room r.before (indices_open (length h.levels) p x r.right); spaced = spaced } in
    (at, (r.texts, own, r.before, no_indices (length h.levels) x room r.right, spaced))) (λ e. tt)

pub name_fits : (last : Bool) (h : Held) (x : List ℕ) (k : Byte) (b : ℕ) (f : List ℕ) → Says k b → NamedAt x h.levels h.waiting f → Fits (after_name h x k) (f ++ added last k b)
unfolding after_name
name_fits last h x OpenBrace b f s r = indices_fit h x _ b f s r
name_fits last h x Blank b f s r = record { texts = r.texts; before = r.before; right = r.right; spaced = spaced_added last (r.texts ++ x ∷ []) f b r.spaced s }
name_fits last h x k b f s r = after_fits last h _ k b f s (name_whole h.levels h.waiting x f r)

-- ---- within a word or a name

token_spaced : {P : List ℕ → Type 0} (ts : List (List ℕ)) (t f : List ℕ) (e : Ending P t f) → Spaced e.front ts → Spaced f (ts ++ t ∷ [])
token_spaced ts t f e s = subst (λ g. Spaced g (ts ++ t ∷ [])) (sym e.split) (spaced_text ts e.front t s)

named_at : {ls : List Level} {w : Waiting} (x f : List ℕ) → Ending (IsAt ls w) x f → is_name x ≡ true → NamedAt x ls w f
named_at x f e h = record { texts = e.before.texts; before = e.before.before; right = h; spaced = token_spaced e.before.texts x f e e.before.spaced }

-- neither a letter nor a digit
abbrev Ends : Byte → Type 0
Ends Letter = ⊥
Ends Digit = ⊥
Ends k = Unit {0}

name_ends : (h : Held) (x : List ℕ) (k : Byte) (b : ℕ) → Ends k → word_of x ≡ None → after_name h x k ≡ in_word h x k b
unfolding in_word
name_ends h x Letter b i e = absurd i
name_ends h x Digit b i e = absurd i
name_ends h x k b i e = rw e refl

keyword_ends : (h : Held) (x : List ℕ) (w : Keyword) (k : Byte) (b : ℕ) → Ends k → word_of x ≡ Some w → after_word h w k ≡ in_word h x k b
unfolding in_word
keyword_ends h x w Letter b i e = absurd i
keyword_ends h x w Digit b i e = absurd i
keyword_ends h x w k b i e = rw e refl

word_ends : (last : Bool) (h : Held) (x : List ℕ) (k : Byte) (b : ℕ) (f : List ℕ) → Ends k → Says k b → Ending (IsAt h.levels h.waiting) x f → AreLetters x → Fits (in_word h x k b) (f ++ added last k b)
word_ends last h x k b f i s r l =
    by_word (λ y. Ending (IsAt h.levels h.waiting) y f → AreLetters y → Fits (in_word h y k b) (f ++ added last k b))
    (keyword (Function Min) refl refl) (keyword (Function Max) refl refl) (keyword If refl tt) (keyword Sum refl tt) x
    (λ e q m. subst (λ o. Fits o (f ++ added last k b)) (name_ends h x k b i e) (name_fits last h x k b f s (named_at x f q (name_right x m e)))) r l
  where
    keyword : (w : Keyword) → word_of (keyword_text w) ≡ Some w → IsKeyword w → Ending (IsAt h.levels h.waiting) (keyword_text w) f → AreLetters (keyword_text w) → Fits (in_word h (keyword_text w) k b) (f ++ added last k b)
    keyword w e c q m = subst (λ o. Fits o (f ++ added last k b)) (keyword_ends h (keyword_text w) w k b i e)
        (after_word_fits last h w k b f s (q.before.texts, q.before.before, token_spaced q.before.texts (keyword_text w) f q q.before.spaced, c))

pub in_word_fits : (last : Bool) (h : Held) (x : List ℕ) (k : Byte) (b : ℕ) (f : List ℕ) → Says k b → IsRead h.levels h.waiting (InWord x) f → Fits (in_word h x k b) (f ++ added last k b)
unfolding in_word
in_word_fits last h x Letter b f s r = onward_when h InWord (ltb (length x) 64) (x ++ b ∷ []) (f ++ b ∷ []) (λ e. (grown b r.0, letters_more x b (letter_is b s) (ltb-true (length x) 64 e) r.1))
in_word_fits last h x Digit b f s r = onward_when h InWord (ltb (length x) 64) (x ++ b ∷ []) (f ++ b ∷ []) (λ e. (grown b r.0, letters_more x b (digit_is b s) (ltb-true (length x) 64 e) r.1))
in_word_fits last h x k b f s r = word_ends last h x k b f tt s r.0 r.1

-- ---- a first index

unindexed_by : (h : Held) (k : Bracket) (v : Waiting) (n : ℕ) (ls : List Level) (b : ℕ) (f : List ℕ) → b ≡ 125 → let l : Level = record { bracket = k; waiting = v; around = n } in Unfilled (l ∷ ls) f → Fits (left h unindexed (l ∷ ls)) (f ++ b ∷ [])
unfolding left
unindexed_by h (brackets.Indices p) v n ls b f s u = record {
  texts = u.0;
  operand = u.1 ++ (125 ∷ []) ∷ [];
  before = u.2;
  spells = u.3;
  spaced = subst (Spaced (f ++ b ∷ [])) (append_assoc u.0 u.1 ((125 ∷ []) ∷ [])) (byte_behind (u.0 ++ u.1) f b 125 s u.4);
}
unindexed_by h k v n ls b f s u = tt

unindexed_fits : (h : Held) (ls : List Level) (b : ℕ) (f : List ℕ) → b ≡ 125 → Unfilled ls f → Fits (left h unindexed ls) (f ++ b ∷ [])
unfolding left
unindexed_fits h [] b f s u = tt
unindexed_fits h (l ∷ ls) b f s u = unindexed_by h l.bracket l.waiting l.around ls b f s u

pub first_fits : (last : Bool) (h : Held) (k : Byte) (b : ℕ) (f : List ℕ) → Says k b → IsRead h.levels h.waiting FirstIndex f → Fits (first_index h k b) (f ++ added last k b)
unfolding first_index
first_fits last h CloseBrace b f s r = unindexed_fits h h.levels b f s r.1
first_fits last h k b f s r = begun_fits last h true k b f s r.0 (λ e. r.1)
