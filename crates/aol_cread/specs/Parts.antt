-- Parts of lines.
use Rattle.std.specs.Prelude.{ℕ, List, codes}
use Rattle.aol_csyn.specs.Tree.{Expr}
use Rattle.aol_cread.specs.Bytes.{Read, before, between, mapped, read_expr}
use Rattle.aol_cread.specs.Lines.{Line, set_line, read_small}

-- two expressions of an array's entry that takes a value, after its first bracket
abbrev pub read_pair : ℕ → List ℕ → Read (Expr × Expr)
read_pair room = between (read_expr room) (codes "] = ") (before (read_expr room) (codes ";\n"))

-- a variable that takes a value, after `a`
abbrev pub read_set : ℕ → List ℕ → Read Line
read_set room = mapped (λ (k, e). set_line k e) (between read_small (codes " = ") (before (read_expr room) (codes ";\n")))
