-- Texts with commas between them, one after another.
use Rattle.std.proofs.Common.{◌≡◌, ℕ, ◌+◌, ◌<◌, ◌≤◌, List, [], ◌∷◌, ◌++◌, length, take, get_or, sym, ◌∙◌, ap, append_assoc}
use Rattle.std.proofs.lemmas.List.{take_more, take_all, append-nil}
use Rattle.std.specs.List.{join_with_byte}
use Rattle.aol_expr_tree.specs.declared.node.ExprNode.{ExprNode}
use Rattle.aol_expr_tree.specs.Node.{tree_of, trees_of}
use Rattle.aol_expr_tree.specs.Writing.{expr_text, expr_texts}

-- the text of a node
abbrev pub node_text : ExprNode → List ℕ
node_text e = expr_text (tree_of e)

-- each after a comma
abbrev pub after_commas : List ExprNode → List ℕ
after_commas [] = []
after_commas (e ∷ es) = 44 ∷ (node_text e ++ after_commas es)

commas_more : (es : List ExprNode) (e : ExprNode) → after_commas (es ++ e ∷ []) ≡ after_commas es ++ 44 ∷ node_text e
commas_more [] e = ap (λ bs. 44 ∷ bs) (append-nil (node_text e))
commas_more (d ∷ es) e = ap (λ bs. 44 ∷ (node_text d ++ bs)) (commas_more es e) ∙ ap (λ bs. 44 ∷ bs) (sym (append_assoc (node_text d) (after_commas es) (44 ∷ node_text e)))

-- one more after a comma
pub one_more : (es : List ExprNode) (i : ℕ) (e : ExprNode) (old : List ℕ) → i < length es → e ≡ get_or es i e → old ++ after_commas (take (i + 1) es) ≡ ((old ++ after_commas (take i es)) ++ 44 ∷ []) ++ node_text e
one_more es i e old h is =
    ap (λ ds. old ++ after_commas ds) (take_more es i e h)
    ∙ ap (λ d. old ++ after_commas (take i es ++ d ∷ [])) (sym is)
    ∙ ap (λ bs. old ++ bs) (commas_more (take i es) e)
    ∙ sym (append_assoc (old ++ after_commas (take i es)) (44 ∷ []) (node_text e) ∙ append_assoc old (after_commas (take i es)) (44 ∷ node_text e))

-- all of them
pub joined_nodes : (e : ExprNode) (es : List ExprNode) → join_with_byte 44 (expr_texts (trees_of (e ∷ es))) ≡ node_text e ++ after_commas es
joined_nodes e [] = sym (append-nil (node_text e))
joined_nodes e (d ∷ es) = ap (λ bs. node_text e ++ 44 ∷ bs) (joined_nodes d es)

-- after the first node, all of them are appended
pub all_appended : (whole es : List ExprNode) (e : ExprNode) (i : ℕ) (old mid end : List ℕ) → whole ≡ e ∷ es → length es ≤ i → mid ≡ old ++ node_text e → end ≡ mid ++ after_commas (take i es) → end ≡ old ++ join_with_byte 44 (expr_texts (trees_of whole))
all_appended whole es e i old mid end is all first others =
    others
    ∙ ap (λ ds. mid ++ after_commas ds) (take_all i es all)
    ∙ ap (λ bs. bs ++ after_commas es) first
    ∙ append_assoc old (node_text e) (after_commas es)
    ∙ ap (λ bs. old ++ bs) (sym (joined_nodes e es))
    ∙ ap (λ ds. old ++ join_with_byte 44 (expr_texts (trees_of ds))) (sym is)
