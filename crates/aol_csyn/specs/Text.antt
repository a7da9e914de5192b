-- The text of a program. Each line ends with a line feed, and there is no indentation.
use Rattle.std.specs.Prelude.{ℕ, zero, suc, ◌+◌, ◌-◌, ◌^◌, ℤ, pos, negsuc, List, [], ◌∷◌, ◌++◌, length, codes, decimal, ◌==◌, if◌then◌else◌}
use Rattle.aol_csyn.specs.declared.program.COp.{COp}
use Rattle.aol_csyn.specs.declared.program.COp.TheVariants.{Add, Sub, Mul, Div, Rem, Lt, Le, Eq}
use Rattle.aol_csyn.specs.Tree.{Expr, num, var, tab, cell_v, cell_f, bin, Stmt, set_var, put_v, put_f, if_else, for_each, Stmts, no_stmts, stmt_and, Step, Program}

-- a number; C has no literal for the least one
abbrev pub number_text : ℤ → List ℕ
number_text (pos n) = decimal n ++ codes "LL"
number_text (negsuc n) =
    if n == 2 ^ 63 - 1 then codes "(-9223372036854775807LL - 1LL)" else codes "(-" ++ decimal (n + 1) ++ codes "LL)"

-- an operator between two blanks
abbrev pub op_text : COp → List ℕ
op_text Add = codes " + "
op_text Sub = codes " - "
op_text Mul = codes " * "
op_text Div = codes " / "
op_text Rem = codes " % "
op_text Lt = codes " < "
op_text Le = codes " <= "
op_text Eq = codes " == "

-- an index in brackets
abbrev pub indexed : List ℕ → List ℕ
indexed index = codes "[" ++ index ++ codes "]"

-- an expression
abbrev pub expr_text : Expr → List ℕ
expr_text (num z) = number_text z
expr_text (var k) = codes "a" ++ decimal k
expr_text (tab t index) = (codes "T" ++ decimal t) ++ indexed (expr_text index)
expr_text (cell_v index) = codes "V" ++ indexed (expr_text index)
expr_text (cell_f index) = codes "F" ++ indexed (expr_text index)
expr_text (bin op a b) = codes "(" ++ expr_text a ++ op_text op ++ expr_text b ++ codes ")"

-- ` = E;`, at the end of a line
abbrev pub assigned : Expr → List ℕ
assigned e = codes " = " ++ expr_text e ++ codes ";\n"

-- the first line of a `for`
abbrev pub for_line : ℕ → ℤ → ℤ → List ℕ
for_line k a b =
    (codes "for (a" ++ decimal k) ++ (codes " = " ++ number_text a) ++ (codes "; a" ++ decimal k) ++ (codes " < " ++ number_text b)
    ++ (codes "; a" ++ decimal k) ++ (codes " = a" ++ decimal k) ++ codes " + 1LL) {\n"

abbrev mutual
  -- the lines of a statement
  pub stmt_text : Stmt → List ℕ
  stmt_text (set_var k e) = (codes "a" ++ decimal k) ++ assigned e
  stmt_text (put_v at e) = (codes "V" ++ indexed (expr_text at)) ++ assigned e
  stmt_text (put_f at e) = (codes "F" ++ indexed (expr_text at)) ++ assigned e
  stmt_text (if_else e first second) =
      codes "if (" ++ expr_text e ++ codes ") {\n" ++ stmts_text first ++ codes "} else {\n" ++ stmts_text second ++ codes "}\n"
  stmt_text (for_each k a b body) = for_line k a b ++ stmts_text body ++ codes "}\n"

  -- the lines of statements one after another
  pub stmts_text : Stmts → List ℕ
  stmts_text no_stmts = []
  stmts_text (stmt_and st rest) = stmt_text st ++ stmts_text rest

-- numbers, each after a comma
abbrev pub further_text : List ℤ → List ℕ
further_text [] = []
further_text (n ∷ ns) = (codes "," ++ number_text n) ++ further_text ns

-- numbers separated by commas
abbrev pub numbers_text : List ℤ → List ℕ
numbers_text [] = []
numbers_text (n ∷ ns) = number_text n ++ further_text ns

-- a table with its number
abbrev pub table_text : ℕ → List ℤ → List ℕ
table_text t numbers =
    (codes "static const i64 T" ++ decimal t) ++ (codes "[" ++ decimal (length numbers)) ++ codes "] = {" ++ numbers_text numbers ++ codes "};\n"

-- the tables from a number on
abbrev pub tables_text : ℕ → List (List ℤ) → List ℕ
tables_text t [] = []
tables_text t (numbers ∷ tables) = table_text t numbers ++ tables_text (t + 1) tables

-- the two arrays
abbrev pub arrays_text : ℕ → List ℕ
arrays_text cells = (codes "i64 V[" ++ decimal cells) ++ (codes "];\ni64 F[" ++ decimal cells) ++ codes "];\n"

-- the name of a step
abbrev pub step_name : ℕ → ℕ → List ℕ
step_name level worker = (codes "step_" ++ decimal level) ++ (codes "_" ++ decimal worker)

-- the line of a variable
abbrev pub var_line : ℕ → List ℕ
var_line k = (codes "i64 a" ++ decimal k) ++ codes " = 0LL;\n"

-- a line for each of so many variables, from a number on
abbrev pub vars_text : ℕ → ℕ → List ℕ
vars_text k zero = []
vars_text k (suc n) = var_line k ++ vars_text (k + 1) n

-- a step of a level and a worker
abbrev pub step_text : ℕ → ℕ → Step → List ℕ
step_text level worker s =
    codes "void " ++ step_name level worker ++ codes "(void) {\n" ++ vars_text 0 s.vars ++ stmts_text s.body ++ codes "}\n"

-- the steps, the first of them of this level and worker
abbrev pub steps_text : ℕ → ℕ → ℕ → List Step → List ℕ
steps_text workers level worker [] = []
steps_text workers level worker (s ∷ steps) =
    step_text level worker s
    ++ (if worker + 1 == workers then steps_text workers (level + 1) 0 steps else steps_text workers level (worker + 1) steps)

-- the line that calls a step
abbrev pub call_text : ℕ → ℕ → List ℕ
call_text level worker = step_name level worker ++ codes "();\n"

-- a call of each step
abbrev pub calls_text : ℕ → ℕ → ℕ → List Step → List ℕ
calls_text workers level worker [] = []
calls_text workers level worker (s ∷ steps) =
    call_text level worker
    ++ (if worker + 1 == workers then calls_text workers (level + 1) 0 steps else calls_text workers level (worker + 1) steps)

-- a program
abbrev pub program_text : Program → List ℕ
program_text p =
    codes "/* AOL-C/1 */\ntypedef long long i64;\n" ++ tables_text 0 p.tables
    ++ arrays_text p.cells
    ++ steps_text p.workers 0 0 p.steps
    ++ codes "void run(void) {\n" ++ calls_text p.workers 0 0 p.steps ++ codes "}\n"
