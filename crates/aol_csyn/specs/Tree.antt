-- Programs as trees, apart from how they are stored.
use Rattle.std.specs.Prelude.{ℕ, ℤ, List, [], ◌∷◌}
use Rattle.aol_csyn.specs.declared.program.COp.{COp}

-- a number, a variable, an entry of a table, of V or of F, or an operator between two expressions
pub data Expr : Type 0 where
  num : ℤ → Expr
  var : ℕ → Expr
  tab : ℕ → Expr → Expr
  cell_v : Expr → Expr
  cell_f : Expr → Expr
  bin : COp → Expr → Expr → Expr

mutual
  -- a variable, an entry of V or of F takes a value; one of two bodies; a body for each number from one bound to below the other
  pub data Stmt : Type 0 where
    set_var : ℕ → Expr → Stmt
    put_v : Expr → Expr → Stmt
    put_f : Expr → Expr → Stmt
    if_else : Expr → Stmts → Stmts → Stmt
    for_each : ℕ → ℤ → ℤ → Stmts → Stmt

  -- statements one after another
  pub data Stmts : Type 0 where
    no_stmts : Stmts
    stmt_and : Stmt → Stmts → Stmts

-- statements one after another
abbrev pub stmts : List Stmt → Stmts
stmts [] = no_stmts
stmts (st ∷ rest) = stmt_and st (stmts rest)

-- the variables and the statements of one worker in one level
pub record Step : Type 0 where
  pub vars : ℕ
  pub body : Stmts

-- a program, its steps level by level
pub record Program : Type 0 where
  pub tables : List (List ℤ)
  pub cells : ℕ
  pub levels : ℕ
  pub workers : ℕ
  pub steps : List Step
