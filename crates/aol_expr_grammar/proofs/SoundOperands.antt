-- What is read stays so after an operand, and where an operand begins.
use Rattle.std.proofs.Common.{◌≡◌, ℕ, List, [], ◌∷◌, ◌++◌, length, Bool, true, false, ◌||◌, Option, Some, None, refl, sym, ap, arith}
use Rattle.std.specs.Option.{is_none}
use Rattle.std.proofs.lemmas.Bool.{and_from, ltb-true, false≢true}
use Rattle.aol_shape.specs.Texts.{is_blank, is_digit, is_letter}
use Rattle.aol_expr_tree.specs.declared.op.ExprOp.TheVariants.{Sub}
use Rattle.aol_expr_tree.specs.declared.byte.Byte.{Byte}
use Rattle.aol_expr_tree.specs.declared.byte.Byte.TheVariants.{Blank, Digit, Letter, Dollar, Operator, Less, Equals, Comma, Open, Close, OpenBrace, CloseBrace, Other}
use Rattle.aol_expr_tree.specs.declared.part.Part.{Part}
use Rattle.aol_expr_tree.specs.declared.reader.Left.{Left}
use Rattle.aol_expr_tree.specs.declared.reader.Waiting.{Waiting}
use Rattle.aol_expr_tree.specs.declared.reader.Bracket.{Bracket}
use Rattle.aol_expr_tree.specs.declared.reader.Bracket.TheVariants as brackets
use Rattle.aol_expr_tree.specs.declared.reader.Level.{Level}
use Rattle.aol_expr_tree.specs.declared.reader.Held.{Held}
use Rattle.aol_expr_tree.specs.declared.reader.Mode.TheVariants.{Operand}
use Rattle.aol_expr_tree.specs.Text.{op_text}
use Rattle.aol_expr_tree.specs.Reading.{waits, after_operand, begun, opened, inside, has_room}
use Rattle.aol_expr_grammar.proofs.Gaps.{Spaced}
use Rattle.aol_expr_grammar.proofs.ByteKinds.{Says, added, spaced_added}
use Rattle.aol_expr_grammar.proofs.Combined.{plain_waits}
use Rattle.aol_expr_grammar.proofs.OpenBrackets.{IsOpen, parens_open}
use Rattle.aol_expr_grammar.proofs.Contexts.{Before, before_inside}
use Rattle.aol_expr_grammar.proofs.SoundBrackets.{fits_when, byte_behind, right_comes, continued_fits, closed_fits, braced_fits}
use Rattle.aol_expr_grammar.proofs.States.{IsAt, Wholed, Unfilled, AreLetters, Fits}

blank_at : {ls : List Level} {w : Waiting} {f : List ℕ} (last : Bool) (b : ℕ) → is_blank b ≡ true → IsAt ls w f → IsAt ls w (f ++ added last Blank b)
blank_at {f = f} last b e a = record { texts = a.texts; before = a.before; spaced = spaced_added last a.texts f b a.spaced e }

unfilled_blank : (last : Bool) (ls : List Level) (f : List ℕ) (b : ℕ) → is_blank b ≡ true → Unfilled ls f → Unfilled ls (f ++ added last Blank b)
unfilled_blank last [] f b e u = tt
unfilled_blank last (l ∷ ls) f b e u = (u.0, u.1, u.2, u.3, spaced_added last (u.0 ++ u.1) f b u.4 e)

-- ---- after an operand

none_is : (o : Option Left) → is_none o ≡ true → o ≡ None
none_is None e = refl
none_is (Some l) e = absurd (false≢true e)

-- after an operand
pub after_fits : (last : Bool) (h : Held) (p : Part) (k : Byte) (b : ℕ) (f : List ℕ) → Says k b → Wholed h.levels h.waiting f → Fits (after_operand h p k) (f ++ added last k b)
unfolding after_operand
after_fits last h p Blank b f e a = record { texts = a.texts; operand = a.operand; before = a.before; spells = a.spells; spaced = spaced_added last (a.texts ++ a.operand) f b a.spaced e }
after_fits last h p (Operator op) b f e a = right_comes (waits op h.waiting p) (b ∷ []) (op_text op) (sym e.0) a (λ ts w. plain_waits op p e.1 w a.spells)
after_fits last h p Less b f e a = fits_when (is_none h.waiting.comparison) _ None (f ++ b ∷ []) (λ n. (record { front = f; split = ap (λ c. f ++ c ∷ []) e; before = a }, none_is h.waiting.comparison n)) (λ n. tt)
after_fits last h p Equals b f e a = fits_when (is_none h.waiting.comparison) _ None (f ++ b ∷ []) (λ n. (record { front = f; split = ap (λ c. f ++ c ∷ []) e; before = a }, none_is h.waiting.comparison n)) (λ n. tt)
after_fits last h p Comma b f e a = continued_fits h _ h.levels f b e a
after_fits last h p Close b f e a = closed_fits h _ h.levels f b e a
after_fits last h p CloseBrace b f e a = braced_fits h _ h.levels f b e a
after_fits last h p Digit b f e a = tt
after_fits last h p Letter b f e a = tt
after_fits last h p Dollar b f e a = tt
after_fits last h p Open b f e a = tt
after_fits last h p OpenBrace b f e a = tt
after_fits last h p Other b f e a = tt

-- ---- where an operand begins

-- a bracket opens
pub opened_fits : (h : Held) (k : Bracket) (f : List ℕ) (ts own : List (List ℕ)) → Before h.levels h.waiting ts → IsOpen (length h.levels) k own → Spaced f (ts ++ own) → Fits (opened h k Operand) f
unfolding opened inside
opened_fits h k f ts own b o s = fits_when (has_room h) _ None f (λ e. record { texts = ts ++ own; before = before_inside k h.around own (ltb-true (length h.levels) 100 e) b o; spaced = s }) (λ e. tt)

pub letter_begins : (b : ℕ) → is_letter b ≡ true → AreLetters (b ∷ [])
letter_begins b e = (e, and_from (is_letter b || is_digit b) true (ap (λ t. t || is_digit b) e) refl, omega arith)

-- where an operand may begin
pub begun_fits : (last : Bool) (h : Held) (first : Bool) (k : Byte) (b : ℕ) (f : List ℕ) → Says k b → IsAt h.levels h.waiting f → (first ≡ true → Unfilled h.levels f) → Fits (begun h first k b) (f ++ added last k b)
unfolding begun
begun_fits last h true Blank b f e a u = (blank_at last b e a, unfilled_blank last h.levels f b e (u refl))
begun_fits last h false Blank b f e a u = blank_at last b e a
begun_fits last h first Digit b f e a u = (b ∷ [], record { front = f; split = refl; before = a }, record { each = and_from (is_digit b) true e refl; counted = refl; most = omega arith })
begun_fits last h first (Operator Sub) b f e a u = ([], record { front = f; split = ap (λ t. f ++ t) (sym e.0); before = a }, record { each = refl; counted = refl; most = omega arith })
begun_fits last h first Dollar b f e a u = record { front = f; split = ap (λ c. f ++ c ∷ []) e; before = a }
begun_fits last h first Letter b f e a u = (record { front = f; split = refl; before = a }, letter_begins b e)
begun_fits last h first Open b f e a u = opened_fits h brackets.Parens (f ++ b ∷ []) a.texts ((40 ∷ []) ∷ []) a.before (parens_open (length h.levels)) (byte_behind a.texts f b 40 e a.spaced)
begun_fits last h first (Operator op) b f e a u = tt
begun_fits last h first k b f e a u = tt
