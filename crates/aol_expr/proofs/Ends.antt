-- What is answered where the text ends.
use Rattle.std.proofs.Common.{◌≡◌, ℕ, List, [], Result, refl, sym, ◌∙◌, subst}
use Rattle.aol_expr_tree.specs.declared.expr.ExprRefused.{ExprRefused}
use Rattle.aol_expr_tree.specs.declared.reader.Reader.{Reader}
use Rattle.aol_expr_tree.specs.Tree.{Tree}
use Rattle.aol_expr_tree.specs.Answers.{Gives}
use Rattle.aol_expr_tree.specs.Reading.{reading_from, ending, finished}
use Rattle.aol_expr_grammar.proofs.Bytewise.{ends_at}

-- the answer at the end is the answer to the bytes before it
pub answered_at_end : (k : ℕ) (s r : Reader) (bytes : List ℕ) (result : Result Tree ExprRefused)
    → reading_from k s bytes ≡ reading_from r.held.place r []
    → Gives result (ending r.held.place (finished r)) → Gives result (reading_from k s bytes)
answered_at_end k s r bytes result e g = subst (Gives result) (sym (e ∙ ends_at r.held.place r refl)) g
