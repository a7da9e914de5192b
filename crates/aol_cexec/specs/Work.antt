-- How much work a program's run has at most.
use Rattle.std.specs.Prelude.{ℕ, ℤ, ◌+◌, ◌*◌, ◌-◌, ◌^◌, min, map, sum}
use Rattle.aol_csyn.specs.Tree.{Expr, num, var, tab, cell_v, cell_f, bin, Stmt, set_var, put_v, put_f, if_else, for_each, Stmts, no_stmts, stmt_and, Step, Program}
use Rattle.aol_csyn.specs.Meaning.{turn_count}

-- 1 for a number or a variable, and for any other expression 1 more than its parts
abbrev pub expr_work : Expr → ℕ
expr_work (num z) = 1
expr_work (var k) = 1
expr_work (tab t index) = 1 + expr_work index
expr_work (cell_v index) = 1 + expr_work index
expr_work (cell_f index) = 1 + expr_work index
expr_work (bin op a b) = 1 + expr_work a + expr_work b

-- the work of a `For` whose body has so much: 1 more than its body for each turn, and 1
abbrev pub for_work : ℤ → ℤ → ℕ → ℕ
for_work a b body = 1 + turn_count a b * (1 + body)

abbrev mutual
  -- 1 more than the parts, where an `If` counts both bodies
  pub stmt_work : Stmt → ℕ
  stmt_work (set_var k e) = 1 + expr_work e
  stmt_work (put_v at e) = 1 + expr_work at + expr_work e
  stmt_work (put_f at e) = 1 + expr_work at + expr_work e
  stmt_work (if_else e first second) = 1 + expr_work e + stmts_work first + stmts_work second
  stmt_work (for_each k a b body) = for_work a b (stmts_work body)

  -- the work of all statements
  pub stmts_work : Stmts → ℕ
  stmts_work no_stmts = 0
  stmts_work (stmt_and st rest) = stmt_work st + stmts_work rest

-- the work of a step
abbrev pub step_work : Step → ℕ
step_work s = stmts_work s.body

-- the work of all steps
abbrev pub program_work : Program → ℕ
program_work p = sum (map step_work p.steps)

-- a number, or the greatest one of 64 bits where that is less
abbrev pub saturated : ℕ → ℕ
saturated n = min n (2 ^ 64 - 1)

-- what is answered
abbrev pub counted_work : Program → ℕ
counted_work p = saturated (program_work p)
