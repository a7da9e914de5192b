-- What a byte is.
use Rattle.std.proofs.Common.{◌≡◌, ℕ, List, [], ◌∷◌, ◌++◌, Bool, true, false, cond, eqb, refl, sym, ap, subst}
use Rattle.std.proofs.lemmas.Bool.{eqb-true}
use Rattle.std.proofs.lemmas.List.{append-nil}
use Rattle.aol_shape.specs.Texts.{is_blank, is_digit, is_letter}
use Rattle.aol_expr_tree.specs.declared.op.ExprOp.{ExprOp}
use Rattle.aol_expr_tree.specs.declared.op.ExprOp.TheVariants.{Add, Sub, Mul, Div, Rem}
use Rattle.aol_expr_tree.specs.declared.byte.Byte.{Byte}
use Rattle.aol_expr_tree.specs.declared.byte.Byte.TheVariants.{Blank, Digit, Letter, Dollar, Operator, Less, Equals, Comma, Open, Close, OpenBrace, CloseBrace, Other}
use Rattle.aol_expr_tree.specs.Bytes.{byte_of, sign_of}
use Rattle.aol_expr_tree.specs.Text.{op_text}
use Rattle.aol_expr_grammar.proofs.Gaps.{Spaced, spaced_blank}

-- an operator of one byte that is no comparison
abbrev pub IsPlain : ExprOp → Type 0
IsPlain Add = Unit {0}
IsPlain Sub = Unit {0}
IsPlain Mul = Unit {0}
IsPlain Div = Unit {0}
IsPlain Rem = Unit {0}
IsPlain op = ⊥

-- the bytes of a step: none where the end of the text is read as a blank
abbrev pub added : Bool → Byte → ℕ → List ℕ
added last Blank b = cond last [] (b ∷ [])
added last k b = b ∷ []

pub added_one : (k : Byte) (b : ℕ) → added false k b ≡ b ∷ []
added_one Blank b = refl
added_one k b = refl

-- a blank, or the end of the text
pub spaced_added : (last : Bool) (ts : List (List ℕ)) (f : List ℕ) (b : ℕ) → Spaced f ts → is_blank b ≡ true → Spaced (f ++ added last Blank b) ts
spaced_added true ts f b s e = subst (λ g. Spaced g ts) (sym (append-nil f)) s
spaced_added false ts f b s e = spaced_blank ts f b s e

-- what a byte of the kind is
abbrev pub Says : Byte → ℕ → Type 0
Says Blank b = is_blank b ≡ true
Says Digit b = is_digit b ≡ true
Says Letter b = is_letter b ≡ true
Says Dollar b = b ≡ 36
Says (Operator op) b = (op_text op ≡ b ∷ []) × IsPlain op
Says Less b = b ≡ 60
Says Equals b = b ≡ 61
Says Comma b = b ≡ 44
Says Open b = b ≡ 40
Says Close b = b ≡ 41
Says OpenBrace b = b ≡ 123
Says CloseBrace b = b ≡ 125
Says Other b = Unit {0}

by_test : (t : Bool) (x y : Byte) (b : ℕ) → (t ≡ true → Says x b) → Says y b → Says (cond t x y) b
by_test true x y b h k = h refl
by_test false x y b h k = k

by_sign : (n : ℕ) (x y : Byte) (b : ℕ) → (b ≡ n → Says x b) → Says y b → Says (cond (eqb b n) x y) b
by_sign n x y b h k = by_test (eqb b n) x y b (λ e. h (eqb-true b n e)) k

one : (b n : ℕ) → b ≡ n → n ∷ [] ≡ b ∷ []
one b n e = ap (λ c. c ∷ []) (sym e)

sign_says : (b : ℕ) → Says (sign_of b) b
sign_says b =
    by_sign 36 Dollar _ b (λ e. e) (by_sign 43 (Operator Add) _ b (λ e. (one b 43 e, tt)) (by_sign 45 (Operator Sub) _ b (λ e. (one b 45 e, tt))
    (by_sign 42 (Operator Mul) _ b (λ e. (one b 42 e, tt)) (by_sign 47 (Operator Div) _ b (λ e. (one b 47 e, tt)) (by_sign 37 (Operator Rem) _ b (λ e. (one b 37 e, tt))
    (by_sign 60 Less _ b (λ e. e) (by_sign 61 Equals _ b (λ e. e) (by_sign 44 Comma _ b (λ e. e) (by_sign 40 Open _ b (λ e. e) (by_sign 41 Close _ b (λ e. e)
    (by_sign 123 OpenBrace _ b (λ e. e) (by_sign 125 CloseBrace Other b (λ e. e) tt))))))))))))

-- each byte is what it is
pub byte_says : (b : ℕ) → Says (byte_of b) b
byte_says b = by_test (is_blank b) Blank _ b (λ e. e) (by_test (is_digit b) Digit _ b (λ e. e) (by_test (is_letter b) Letter _ b (λ e. e) (sign_says b)))
