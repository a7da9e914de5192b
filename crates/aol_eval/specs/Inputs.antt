-- What the code evaluates an expression with.
use Rattle.aol_eval.specs.declared.inputs.Inputs.{Inputs}
use Rattle.aol_expr_tree.specs.Meaning.{Given}

-- the same without references
abbrev pub given_of : Inputs → Given
given_of i = record { ins = i.ins.now; nums = i.nums.now; at = i.at.now }
