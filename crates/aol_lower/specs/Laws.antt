-- The law of lowered expressions.
use Rattle.std.specs.Prelude.{◌≡◌, ℕ, ◌+◌, ◌≤◌, ℤ, List, [], length}
use Rattle.aol_expr_tree.specs.Tree.{Tree}
use Rattle.aol_expr_tree.specs.Meaning.{Given, value}
use Rattle.aol_csyn.specs.Meaning.{State}
use Rattle.aol_lower.specs.Effect.{Leaves, AreShapes, IsGiven}
use Rattle.aol_lower.specs.Lowered.{Setting, lowered}
use Rattle.aol_lower.specs.Small.{room, IsSmall}

-- from each state that holds what an expression is evaluated with, its statements leave its value
abbrev pub LoweredLeavesTheValue : Type 0
LoweredLeavesTheValue =
    (c : Setting) (d : ℕ) (e : Tree) → IsSmall e → AreShapes c.ins → (tables : List (List ℤ)) (g : Given) (s : State) → c.ins ≡ g.ins → c.rank ≡ length g.at → IsGiven tables c.reads g d s
    → d + room e ≤ length s.vars → Leaves tables (lowered c [] d e) d s (value g [] e)
