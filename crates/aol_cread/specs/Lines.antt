-- The lines of a program.
use Rattle.std.specs.Prelude.{ℕ, zero, suc, ◌^◌, ◌==◌, ◌&&◌, ℤ, List, [], ◌∷◌, ◌++◌, length, codes, decimal, None, option_and_then, if◌then◌else◌}
use Rattle.aol_csyn.specs.Tree.{Expr}
use Rattle.aol_csyn.specs.Text.{number_text, expr_text, numbers_text}
use Rattle.aol_cread.specs.Bytes.{Read, found, expect, choose, after, before, between, mapped, read_count, read_number, read_expr}

-- one line of a program
pub data Line : Type 0 where
  head_line : Line
  type_line : Line
  table_line : ℕ → List ℤ → Line
  v_line : ℕ → Line
  f_line : ℕ → Line
  step_line : ℕ → ℕ → Line
  var_line : ℕ → Line
  set_line : ℕ → Expr → Line
  put_v_line : Expr → Expr → Line
  put_f_line : Expr → Expr → Line
  if_line : Expr → Line
  else_line : Line
  for_line : ℕ → ℤ → ℤ → Line
  close_line : Line
  run_line : Line
  call_line : ℕ → ℕ → Line

-- its text, in front of something
abbrev pub onto : Line → List ℕ → List ℕ
onto head_line r = codes "/* AOL-C/1 */\n" ++ r
onto type_line r = codes "typedef long long i64;\n" ++ r
onto (table_line t numbers) r = codes "static const i64 T" ++ (decimal t ++ (codes "[" ++ (decimal (length numbers) ++ (codes "] = {" ++ (numbers_text numbers ++ (codes "};\n" ++ r))))))
onto (v_line cells) r = codes "i64 V[" ++ (decimal cells ++ (codes "];\n" ++ r))
onto (f_line cells) r = codes "i64 F[" ++ (decimal cells ++ (codes "];\n" ++ r))
onto (step_line level worker) r = codes "void step_" ++ (decimal level ++ (codes "_" ++ (decimal worker ++ (codes "(void) {\n" ++ r))))
onto (var_line k) r = codes "i64 a" ++ (decimal k ++ (codes " = 0LL;\n" ++ r))
onto (set_line k e) r = codes "a" ++ (decimal k ++ (codes " = " ++ (expr_text e ++ (codes ";\n" ++ r))))
onto (put_v_line at e) r = codes "V[" ++ (expr_text at ++ (codes "] = " ++ (expr_text e ++ (codes ";\n" ++ r))))
onto (put_f_line at e) r = codes "F[" ++ (expr_text at ++ (codes "] = " ++ (expr_text e ++ (codes ";\n" ++ r))))
onto (if_line e) r = codes "if (" ++ (expr_text e ++ (codes ") {\n" ++ r))
onto else_line r = codes "} else {\n" ++ r
onto (for_line k a b) r =
    codes "for (a" ++ (decimal k ++ (codes " = " ++ (number_text a ++ (codes "; a" ++ (decimal k ++ (codes " < " ++ (number_text b
    ++ (codes "; a" ++ (decimal k ++ (codes " = a" ++ (decimal k ++ (codes " + 1LL) {\n" ++ r))))))))))))
onto close_line r = codes "}\n" ++ r
onto run_line r = codes "void run(void) {\n" ++ r
onto (call_line level worker) r = codes "step_" ++ (decimal level ++ (codes "_" ++ (decimal worker ++ (codes "();\n" ++ r))))

-- so many numbers, each after a comma
unfoldable pub read_further : ℕ → List ℕ → Read (List ℤ)
read_further zero t = found [] t
read_further (suc n) t = option_and_then (λ (z, r). mapped (λ zs. z ∷ zs) (read_further n) r) (after (codes ",") read_number t)

-- so many numbers with commas between them, at least one
unfoldable pub read_numbers : ℕ → List ℕ → Read (List ℤ)
read_numbers zero t = None
read_numbers (suc n) t = option_and_then (λ (z, r). mapped (λ zs. z ∷ zs) (read_further n) r) (read_number t)

-- the number of a table or a variable, a level, a worker, or how many cells there are
abbrev pub read_small : List ℕ → Read ℕ
read_small = read_count (2 ^ 32)

-- the rest of a table's line, after its number and how many numbers it has
abbrev pub table_from : ℕ × ℕ → List ℕ → Read Line
table_from p r = mapped (λ numbers. table_line p.0 numbers) (before (read_numbers p.1) (codes "};\n")) r

-- a table's line, after `static const i64 T`
abbrev pub read_table : List ℕ → Read Line
read_table t = option_and_then (λ (p, r). table_from p r) (between read_small (codes "[") (before read_small (codes "] = {")) t)

-- the parts of the first line of a `for`: its variable is named four times
abbrev pub ForParts : Type 0
ForParts = ℕ × (ℤ × (ℕ × (ℤ × (ℕ × ℕ))))

-- the parts, after `for (a`
abbrev pub read_for_parts : List ℕ → Read ForParts
read_for_parts =
    between read_small (codes " = ") (between read_number (codes "; a") (between read_small (codes " < ") (between read_number (codes "; a")
    (between read_small (codes " = a") (before read_small (codes " + 1LL) {\n"))))))

-- the line that has these parts, where they name one variable
abbrev pub for_of : ForParts → List ℕ → Read Line
for_of (k, (a, (l, (b, (m, n))))) r = if k == l && k == m && k == n then found (for_line k a b) r else None

-- the first line of a `for`, after `for (a`
abbrev pub read_for : List ℕ → Read Line
read_for t = option_and_then (λ (p, r). for_of p r) (read_for_parts t)

-- a line before the steps, or the first line of `run`
abbrev pub read_outer : List ℕ → Read Line
read_outer t =
    choose (expect (codes "static const i64 T") t) read_table
    (choose (expect (codes "i64 V[") t) (mapped (λ c. v_line c) (before read_small (codes "];\n")))
    (choose (expect (codes "i64 F[") t) (mapped (λ c. f_line c) (before read_small (codes "];\n")))
    (choose (expect (codes "/* AOL-C/1 */\n") t) (found head_line)
    (choose (expect (codes "typedef long long i64;\n") t) (found type_line)
    (choose (expect (codes "void run(void) {\n") t) (found run_line) None)))))

-- a line round statements, or one before the steps
abbrev pub read_round : List ℕ → Read Line
read_round t =
    choose (expect (codes "}\n") t) (found close_line)
    (choose (expect (codes "} else {\n") t) (found else_line)
    (choose (expect (codes "i64 a") t) (mapped (λ k. var_line k) (before read_small (codes " = 0LL;\n")))
    (choose (expect (codes "void step_") t) (mapped (λ (l, w). step_line l w) (between read_small (codes "_") (before read_small (codes "(void) {\n"))))
    (choose (expect (codes "step_") t) (mapped (λ (l, w). call_line l w) (between read_small (codes "_") (before read_small (codes "();\n"))))
    (read_outer t)))))

-- one line, with expressions of at most so many levels
unfoldable pub read_line : ℕ → List ℕ → Read Line
read_line room t =
    choose (expect (codes "a") t) (mapped (λ (k, e). set_line k e) (between read_small (codes " = ") (before (read_expr room) (codes ";\n"))))
    (choose (expect (codes "V[") t) (mapped (λ (at, e). put_v_line at e) (between (read_expr room) (codes "] = ") (before (read_expr room) (codes ";\n"))))
    (choose (expect (codes "F[") t) (mapped (λ (at, e). put_f_line at e) (between (read_expr room) (codes "] = ") (before (read_expr room) (codes ";\n"))))
    (choose (expect (codes "if (") t) (mapped (λ e. if_line e) (before (read_expr room) (codes ") {\n")))
    (choose (expect (codes "for (a") t) read_for
    (read_round t)))))
