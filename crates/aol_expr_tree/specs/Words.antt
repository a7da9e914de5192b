-- The words that are no names.
use Rattle.std.specs.Prelude.{ℕ, List, codes, Option, Some, None, if◌then◌else◌}
use Rattle.aol_shape.specs.Lists.{same}
use Rattle.aol_expr_tree.specs.declared.op.ExprOp.TheVariants.{Min, Max}
use Rattle.aol_expr_tree.specs.declared.letters.Keyword.{Keyword}
use Rattle.aol_expr_tree.specs.declared.letters.Keyword.TheVariants.{Function, If, Sum}

-- the word that the bytes are, where they are one
abbrev pub word_of : List ℕ → Option Keyword
word_of text = if same text (codes "min") then Some (Function Min) else (if same text (codes "max") then Some (Function Max)
    else (if same text (codes "if") then Some If else (if same text (codes "sum") then Some Sum else None)))
