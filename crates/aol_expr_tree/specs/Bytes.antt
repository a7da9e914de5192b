-- What the bytes of an expression's text are.
use Rattle.std.specs.Prelude.{ℕ, ◌≤◌, ◌<◌, ◌==◌, if◌then◌else◌}
use Rattle.aol_shape.specs.Texts.{is_blank, is_digit, is_letter}
use Rattle.aol_expr_tree.specs.declared.op.ExprOp.TheVariants.{Add, Sub, Mul, Div, Rem}
use Rattle.aol_expr_tree.specs.declared.byte.Byte.{Byte}
use Rattle.aol_expr_tree.specs.declared.byte.Byte.TheVariants.{Blank, Digit, Letter, Dollar, Operator, Less, Equals, Comma, Open, Close, OpenBrace, CloseBrace, Other}

-- a sign, where the byte is no blank, digit or letter
abbrev pub sign_of : ℕ → Byte
sign_of b = if b == 36 then Dollar
    else (if b == 43 then Operator Add else (if b == 45 then Operator Sub else (if b == 42 then Operator Mul else (if b == 47 then Operator Div else (if b == 37 then Operator Rem
    else (if b == 60 then Less else (if b == 61 then Equals else (if b == 44 then Comma
    else (if b == 40 then Open else (if b == 41 then Close else (if b == 123 then OpenBrace else (if b == 125 then CloseBrace else Other))))))))))))

-- what the byte is
abbrev pub byte_of : ℕ → Byte
byte_of b = if is_blank b then Blank else (if is_digit b then Digit else (if is_letter b then Letter else sign_of b))

-- a digit is from `0` to `9`, and a letter is ASCII
abbrev pub IsByte : Byte → ℕ → Type 0
IsByte Digit b = (48 ≤ b) × (b ≤ 57)
IsByte Letter b = b < 128
IsByte _ b = Unit {0}
