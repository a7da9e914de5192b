-- Which statements put nothing into the arrays.
use Rattle.std.specs.Prelude.{Bool, true, false, ◌&&◌}
use Rattle.aol_csyn.specs.Tree.{Stmt, set_var, put_v, put_f, if_else, for_each, Stmts, no_stmts, stmt_and}

abbrev mutual
  -- no part of it puts a number
  pub is_quiet : Stmt → Bool
  is_quiet (set_var k e) = true
  is_quiet (put_v at e) = false
  is_quiet (put_f at e) = false
  is_quiet (if_else e first second) = all_quiet first && all_quiet second
  is_quiet (for_each k a b body) = all_quiet body

  -- none of the statements does
  pub all_quiet : Stmts → Bool
  all_quiet no_stmts = true
  all_quiet (stmt_and st rest) = is_quiet st && all_quiet rest
