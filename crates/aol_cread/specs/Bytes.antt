-- How numbers and expressions are read from the front of a text.
use Rattle.std.specs.Prelude.{◌≡◌, ℕ, zero, suc, ◌+◌, ◌*◌, ◌-◌, ◌^◌, nat_lt, nat_le, ◌==◌, Bool, true, false, ◌&&◌, ℤ, pos, negsuc, List, [], ◌∷◌, codes, Option, Some, None, option_map, option_and_then, if◌then◌else◌}
use Rattle.aol_csyn.specs.declared.program.COp.{COp}
use Rattle.aol_csyn.specs.declared.program.COp.TheVariants.{Add, Sub, Mul, Div, Rem, Lt, Le, Eq}
use Rattle.aol_csyn.specs.Tree.{Expr, num, var, tab, cell_v, cell_f, bin}

-- what is read from the front, with the rest
abbrev pub Read : Type 0 → Type 0
Read A = Option (A × List ℕ)

-- what such a reader answers and leaves
abbrev pub Yields : {A : Type 0} → Read A → Option A → List ℕ → Type 0
Yields r (Some a) rest = r ≡ Some (a, rest)
Yields r None rest = r ≡ None

-- this was read, and this is left
abbrev pub found : {A : Type 0} → A → List ℕ → Read A
found a r = Some (a, r)

-- the text after these bytes, where it begins with them
unfoldable pub expect : List ℕ → List ℕ → Option (List ℕ)
expect [] t = Some t
expect (x ∷ xs) [] = None
expect (x ∷ xs) (b ∷ t) = if b == x then expect xs t else None

-- one way where there is something, else another
abbrev pub choose : {A B : Type 0} → Option A → (A → B) → B → B
choose (Some a) f other = f a
choose None f other = other

-- these bytes, and then what is read after them
abbrev pub after : {A : Type 0} → List ℕ → (List ℕ → Read A) → List ℕ → Read A
after xs f t = option_and_then f (expect xs t)

-- what is read, and then these bytes
abbrev pub before : {A : Type 0} → (List ℕ → Read A) → List ℕ → List ℕ → Read A
before f xs t = option_and_then (λ (a, r). option_map (λ q. (a, q)) (expect xs r)) (f t)

-- two things read, with these bytes between them
abbrev pub between : {A B : Type 0} → (List ℕ → Read A) → List ℕ → (List ℕ → Read B) → List ℕ → Read (A × B)
between f xs g t = option_and_then (λ (a, r). option_map (λ (b, q). ((a, b), q)) (after xs g r)) (f t)

-- what is read, seen in another way
abbrev pub mapped : {A B : Type 0} → (A → B) → (List ℕ → Read A) → List ℕ → Read B
mapped f read t = option_map (λ (a, r). (f a, r)) (read t)

-- a decimal digit
abbrev pub is_digit : ℕ → Bool
is_digit b = nat_le 48 b && nat_le b 57

-- no digit comes next
abbrev pub is_clear : List ℕ → Bool
is_clear [] = true
is_clear (b ∷ t) = if is_digit b then false else true

-- the further digits of a number below a limit
unfoldable pub more_digits : ℕ → ℕ → List ℕ → Read ℕ
more_digits limit n [] = Some (n, [])
more_digits limit n (b ∷ t) =
    if is_digit b then (if nat_lt (10 * n + (b - 48)) limit then more_digits limit (10 * n + (b - 48)) t else None) else Some (n, b ∷ t)

-- a number below a limit, in decimal digits with no leading zero
unfoldable pub read_count : ℕ → List ℕ → Read ℕ
read_count limit [] = None
read_count limit (b ∷ t) =
    if b == 48 then (if is_clear t then Some (0, t) else None) else (if is_digit b then more_digits limit (b - 48) t else None)

-- a negative number, from the bytes after `(-` and its size on
abbrev pub negative_from : ℕ → List ℕ → Read ℤ
negative_from n t =
    choose (expect (codes "LL)") t) (λ r. if n == 0 then None else Some (negsuc (n - 1), r))
    (if n == 2 ^ 63 - 1 then option_map (λ r. (negsuc n, r)) (expect (codes "LL - 1LL)") t) else None)

-- a negative number, after `(-`
abbrev pub read_negative : List ℕ → Read ℤ
read_negative t = option_and_then (λ (n, r). negative_from n r) (read_count (2 ^ 63) t)

-- a number from 0 up
abbrev pub read_positive : List ℕ → Read ℤ
read_positive = mapped (λ n. pos n) (before (read_count (2 ^ 63)) (codes "LL"))

-- a number
unfoldable pub read_number : List ℕ → Read ℤ
read_number t = choose (expect (codes "(-") t) read_negative (read_positive t)

-- an operator between two blanks
unfoldable pub read_op : List ℕ → Read COp
read_op t =
    choose (expect (codes " + ") t) (λ r. Some (Add, r))
    (choose (expect (codes " - ") t) (λ r. Some (Sub, r))
    (choose (expect (codes " * ") t) (λ r. Some (Mul, r))
    (choose (expect (codes " / ") t) (λ r. Some (Div, r))
    (choose (expect (codes " % ") t) (λ r. Some (Rem, r))
    (choose (expect (codes " < ") t) (λ r. Some (Lt, r))
    (choose (expect (codes " <= ") t) (λ r. Some (Le, r))
    (choose (expect (codes " == ") t) (λ r. Some (Eq, r)) None)))))))

-- two operands, an operator between them, and the closing bracket
abbrev pub read_bin : (List ℕ → Read Expr) → List ℕ → Read Expr
read_bin operand t =
    option_and_then (λ (a, r). option_and_then (λ (op, q). mapped (bin op a) (before operand (codes ")")) q) (read_op r)) (operand t)

-- an entry of a table, after `T`
abbrev pub read_entry : (List ℕ → Read Expr) → List ℕ → Read Expr
read_entry inner = mapped (λ (k, e). tab k e) (between (read_count (2 ^ 32)) (codes "[") (before inner (codes "]")))

-- an expression, with a reader for the expressions inside it
abbrev pub read_deeper : (List ℕ → Read Expr) → List ℕ → Read Expr
read_deeper inner t =
    choose (expect (codes "a") t) (mapped (λ k. var k) (read_count (2 ^ 32)))
    (choose (expect (codes "V[") t) (mapped (λ e. cell_v e) (before inner (codes "]")))
    (choose (expect (codes "F[") t) (mapped (λ e. cell_f e) (before inner (codes "]")))
    (choose (expect (codes "T") t) (read_entry inner)
    (choose (expect (codes "(-") t) (mapped (λ z. num z) read_negative)
    (choose (expect (codes "(") t) (read_bin inner)
    (mapped (λ z. num z) read_positive t))))))

-- an expression of at most so many levels
unfoldable pub read_expr : ℕ → List ℕ → Read Expr
read_expr zero t = None
read_expr (suc room) t = read_deeper (read_expr room) t
