-- Laws of the texts and the meaning of programs.
use Rattle.std.specs.Prelude.{◌≡◌, ℕ, ℤ, List, ◌++◌, Some, option_and_then}
use Rattle.aol_csyn.specs.Tree.{Stmt, stmts, Program}
use Rattle.aol_csyn.specs.Form.{IsWellFormed}
use Rattle.aol_csyn.specs.Meaning.{State, run_all}
use Rattle.aol_csyn.specs.Text.{program_text}

-- two well formed programs with one text are equal
abbrev pub OneProgram : Type 0
OneProgram = (p q : Program) → IsWellFormed p → IsWellFormed q → program_text p ≡ program_text q → p ≡ q

-- what statements do is what their first part does and then the rest
abbrev pub PartsFollow : Type 0
PartsFollow = (tables : List (List ℤ)) (first rest : List Stmt) (s : State)
    → run_all tables (stmts (first ++ rest)) s ≡ option_and_then (run_all tables (stmts rest)) (run_all tables (stmts first) s)
