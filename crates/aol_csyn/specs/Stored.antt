-- The program that stored values stand for.
use Rattle.std.specs.Prelude.{ℤ, List, map}
use Rattle.aol_csyn.specs.declared.program.CExpr.{CExpr}
use Rattle.aol_csyn.specs.declared.program.CExpr.TheOpen.{CExpr-F}
use Rattle.aol_csyn.specs.declared.program.CExpr.TheFolds.{fold-CExpr}
use Rattle.aol_csyn.specs.declared.program.CStmt.{CStmt}
use Rattle.aol_csyn.specs.declared.program.CStmt.TheOpen.{CStmt-F}
use Rattle.aol_csyn.specs.declared.program.CStmt.TheFolds.{fold-CStmt}
use Rattle.aol_csyn.specs.declared.program.CStep.{CStep}
use Rattle.aol_csyn.specs.declared.program.Table.{Table}
use Rattle.aol_csyn.specs.declared.program.CProgram.{CProgram}
use Rattle.aol_csyn.specs.Tree.{Expr, num, var, tab, cell_v, cell_f, bin, Stmt, set_var, put_v, put_f, if_else, for_each, Stmts, stmts, Step, Program}

-- one level of an expression, with each expression inside already seen as its tree
abbrev pub level_expr : CExpr-F Expr → Expr
level_expr (CExpr-F.Num n) = num n
level_expr (CExpr-F.Var k) = var k
level_expr (CExpr-F.Tab t index) = tab t index.value
level_expr (CExpr-F.V index) = cell_v index.value
level_expr (CExpr-F.F index) = cell_f index.value
level_expr (CExpr-F.Bin op a b) = bin op a.value b.value

-- the tree of an expression
abbrev pub expr_of : CExpr → Expr
expr_of = fold-CExpr Expr level_expr

-- one level of a statement
abbrev pub level_stmt : CStmt-F Stmt → Stmt
level_stmt (CStmt-F.Set k e) = set_var k (expr_of e)
level_stmt (CStmt-F.PutV at e) = put_v (expr_of at) (expr_of e)
level_stmt (CStmt-F.PutF at e) = put_f (expr_of at) (expr_of e)
level_stmt (CStmt-F.If e first second) = if_else (expr_of e) (stmts first) (stmts second)
level_stmt (CStmt-F.For k a b body) = for_each k a b (stmts body)

-- the tree of a statement
abbrev pub stmt_of : CStmt → Stmt
stmt_of = fold-CStmt Stmt level_stmt

-- the trees of statements
abbrev pub stmts_of : List CStmt → Stmts
stmts_of body = stmts (map stmt_of body)

-- the numbers of each table
abbrev pub tables_of : List Table → List (List ℤ)
tables_of tables = map (λ (t : Table). t.nums) tables

-- a step
abbrev pub step_of : CStep → Step
step_of s = record { vars = s.vars; body = stmts_of s.body }

-- a program
abbrev pub program_of : CProgram → Program
program_of p = record { tables = tables_of p.tables; cells = p.cells; levels = p.levels; workers = p.workers; steps = map step_of p.steps }
