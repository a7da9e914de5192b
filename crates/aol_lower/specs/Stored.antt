-- What stored comparisons, scopes and settings stand for.
use Rattle.std.specs.Prelude.{ℕ, List, [], ◌∷◌, map}
use Rattle.aol_csyn.specs.declared.program.CStmt.{CStmt}
use Rattle.aol_csyn.specs.Stored.{stmt_of}
use Rattle.aol_csyn.specs.Tree.{Expr, num as number, var as variable, bin as between, Stmt}
use Rattle.aol_lower.specs.declared.comparison.Side.{Side}
use Rattle.aol_lower.specs.declared.comparison.Side.TheVariants.{Number, Variable, Limit}
use Rattle.aol_lower.specs.declared.comparison.Comparison.{Comparison}
use Rattle.aol_lower.specs.declared.scope.Scope.{Scope}
use Rattle.aol_lower.specs.declared.scope.Scope.TheOpen.{Scope-F}
use Rattle.aol_lower.specs.declared.scope.Scope.TheFolds.{fold-Scope}
use Rattle.aol_lower.specs.declared.scope.Inside.{Inside}
use Rattle.aol_lower.specs.Lowered.{Setting}

-- one side of a comparison
abbrev pub side_of : Side → Expr
side_of (Number n) = number n
side_of (Variable k) = variable k
side_of (Limit op n k) = between op (number n) (variable k)

-- a comparison
abbrev pub comparison_of : Comparison → Expr
comparison_of t = between t.op (side_of t.left) (side_of t.right)

-- the trees of statements
abbrev pub trees_of : List CStmt → List Stmt
trees_of body = map stmt_of body

-- one bound name, with those around it already seen as pairs
abbrev pub level_scope : Scope-F (List (List ℕ × ℕ)) → List (List ℕ × ℕ)
level_scope Scope-F.Outermost = []
level_scope (Scope-F.Bound x k outer) = (x.now, k) ∷ outer.now

-- each bound name with its variable, the innermost first
abbrev pub scope_of : Scope → List (List ℕ × ℕ)
scope_of = fold-Scope (List (List ℕ × ℕ)) level_scope

-- what all parts of an expression share, without references
abbrev pub setting_of : Inside → Setting
setting_of i = record { reads = i.reads; ins = i.ins.now; rank = i.rank }
