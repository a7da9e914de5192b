-- The statements of a group of instances.
use Rattle.std.specs.Prelude.{ℕ, pos, List, ◌∷◌}
use Rattle.aol_csyn.specs.declared.program.COp.TheVariants.{Add as Plus, Mul as Times}
use Rattle.aol_csyn.specs.Tree.{Expr, num as number, var as variable, bin as between, Stmt, set_var, for_each, stmts}
use Rattle.aol_cinstance.specs.declared.layout.TheConstants.{INSTANCE, READS, CELLS}
use Rattle.aol_cstep.specs.declared.group.Group.{Group}

-- a place behind so many for each instance before
abbrev pub place : ℕ → ℕ → Expr
place first each = between Plus (number (pos first)) (between Times (variable INSTANCE) (number (pos each)))

-- one turn
abbrev pub turn : Group → List Stmt → List Stmt
turn g body = set_var READS (place g.from g.reads) ∷ set_var CELLS (place g.at g.cells) ∷ body

-- all instances
abbrev pub group_loop : Group → List Stmt → Stmt
group_loop g body = for_each INSTANCE (pos 0) (pos g.count) (stmts (turn g body))
