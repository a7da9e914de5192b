-- Which programs are well formed.
use Rattle.std.specs.Prelude.{◌≡◌, ℕ, ◌+◌, ◌*◌, ◌<◌, ◌^◌, max, ℤ, int_le, Bool, true, false, ◌&&◌, ◌||◌, not, List, length, nat_lt, nat_le, ◌==◌}
use Rattle.std.specs.List.{list_all}
use Rattle.aol_shape.specs.Numbers.{fits_64}
use Rattle.aol_csyn.specs.Tree.{Expr, num, var, tab, cell_v, cell_f, bin, Stmt, set_var, put_v, put_f, if_else, for_each, Stmts, no_stmts, stmt_and, Step, Program}

-- the deepest that a statement or an expression may stand
abbrev pub max_depth : ℕ
max_depth = 1024

-- how deep an expression goes, the expression itself being 1
abbrev pub expr_depth : Expr → ℕ
expr_depth (num z) = 1
expr_depth (var k) = 1
expr_depth (tab t index) = expr_depth index + 1
expr_depth (cell_v index) = expr_depth index + 1
expr_depth (cell_f index) = expr_depth index + 1
expr_depth (bin op a b) = max (expr_depth a) (expr_depth b) + 1

abbrev mutual
  -- how deep a statement goes; the bounds of a `for` are no expressions
  pub stmt_depth : Stmt → ℕ
  stmt_depth (set_var k e) = expr_depth e + 1
  stmt_depth (put_v at e) = max (expr_depth at) (expr_depth e) + 1
  stmt_depth (put_f at e) = max (expr_depth at) (expr_depth e) + 1
  stmt_depth (if_else e first second) = max (expr_depth e) (max (stmts_depth first) (stmts_depth second)) + 1
  stmt_depth (for_each k a b body) = stmts_depth body + 1

  -- the deepest of statements
  pub stmts_depth : Stmts → ℕ
  stmts_depth no_stmts = 0
  stmts_depth (stmt_and st rest) = max (stmt_depth st) (stmts_depth rest)

-- each variable and table exists, among so many, and each number has 64 bits
abbrev pub expr_formed : ℕ → ℕ → Expr → Bool
expr_formed vars tables (num z) = fits_64 z
expr_formed vars tables (var k) = nat_lt k vars
expr_formed vars tables (tab t index) = nat_lt t tables && expr_formed vars tables index
expr_formed vars tables (cell_v index) = expr_formed vars tables index
expr_formed vars tables (cell_f index) = expr_formed vars tables index
expr_formed vars tables (bin op a b) = expr_formed vars tables a && expr_formed vars tables b

abbrev mutual
  -- the statement sets the variable, or one inside it does
  pub sets : ℕ → Stmt → Bool
  sets k (set_var j e) = j == k
  sets k (put_v at e) = false
  sets k (put_f at e) = false
  sets k (if_else e first second) = any_sets k first || any_sets k second
  sets k (for_each j a b body) = j == k || any_sets k body

  -- one of the statements sets the variable
  pub any_sets : ℕ → Stmts → Bool
  any_sets k no_stmts = false
  any_sets k (stmt_and st rest) = sets k st || any_sets k rest

abbrev mutual
  -- its parts are well formed; the bounds of a `for` are in order, and nothing inside sets its variable
  pub stmt_formed : ℕ → ℕ → Stmt → Bool
  stmt_formed vars tables (set_var k e) = nat_lt k vars && expr_formed vars tables e
  stmt_formed vars tables (put_v at e) = expr_formed vars tables at && expr_formed vars tables e
  stmt_formed vars tables (put_f at e) = expr_formed vars tables at && expr_formed vars tables e
  stmt_formed vars tables (if_else e first second) = expr_formed vars tables e && stmts_formed vars tables first && stmts_formed vars tables second
  stmt_formed vars tables (for_each k a b body) =
      nat_lt k vars && fits_64 a && fits_64 b && int_le a b && not (any_sets k body) && stmts_formed vars tables body

  -- all statements are well formed
  pub stmts_formed : ℕ → ℕ → Stmts → Bool
  stmts_formed vars tables no_stmts = true
  stmts_formed vars tables (stmt_and st rest) = stmt_formed vars tables st && stmts_formed vars tables rest

-- a step, where there are so many tables
abbrev pub step_formed : ℕ → Step → Bool
step_formed tables s = nat_lt s.vars (2 ^ 32) && stmts_formed s.vars tables s.body && nat_le (stmts_depth s.body) max_depth

-- a table is not empty, and its numbers have 64 bits
abbrev pub table_formed : List ℤ → Bool
table_formed numbers = not (length numbers == 0) && nat_lt (length numbers) (2 ^ 32) && list_all fits_64 numbers

-- a well formed program
pub record IsWellFormed (p : Program) : Type 0 where
  pub count : length p.steps ≡ p.levels * p.workers
  pub some_cell : 0 < p.cells
  pub cells_fit : p.cells < 2 ^ 32
  pub some_level : 0 < p.levels
  pub levels_fit : p.levels < 2 ^ 32
  pub some_worker : 0 < p.workers
  pub workers_fit : p.workers < 2 ^ 32
  pub tables_fit : length p.tables < 2 ^ 32
  pub tables : list_all table_formed p.tables ≡ true
  pub steps : list_all (step_formed (length p.tables)) p.steps ≡ true
