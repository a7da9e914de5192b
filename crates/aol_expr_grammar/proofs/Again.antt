-- What is written is read again.
use Rattle.std.proofs.Common.{◌≡◌, ℕ, ◌+◌, ◌≤◌, List, [], ◌∷◌, length, cond, leb, Some, None, option_map, Ok, refl, ◌∙◌, ap, subst, arith}
use Rattle.std.proofs.lemmas.Bool.{and_from, le-leb}
use Rattle.aol_shape.specs.declared.limit.LimitName.TheVariants.{Expression, Depth}
use Rattle.aol_shape.specs.Lists.{or_else}
use Rattle.aol_shape.specs.Grammar.{Reads, IsTextOf, IsWithinLimits}
use Rattle.aol_shape.specs.Tokens.{Token, IsSpaced, first_passing_from}
use Rattle.aol_expr_tree.specs.Tree.{Tree, IsExpr, nodes, depth, max_nodes, max_depth, max_brackets}
use Rattle.aol_expr_tree.specs.Text.{Written, brackets, is_well, tokens_in, tree_written, tree_limit, expr_grammar}
use Rattle.aol_expr_tree.specs.Parts.{seen}
use Rattle.aol_expr_tree.specs.Writing.{expr_text}
use Rattle.aol_expr_tree.specs.Reading.{answered, expr_reading}
use Rattle.aol_expr_grammar.proofs.Tokens.{noted_token}
use Rattle.aol_expr_grammar.proofs.Grouping.{seen_kept, small_from}
use Rattle.aol_expr_grammar.proofs.Evidence.{first_passed}
use Rattle.aol_expr_grammar.proofs.Whole.{read_as}
use Rattle.aol_expr_grammar.proofs.Canonical.{canonical, canonical_text, joined_spaced, canonical_well, canonical_brackets, canonical_tree, AllPass, canonical_passes}

none_passed : (k : ℕ) (bytes : List ℕ) (ts : List Token) (s : IsSpaced bytes ts) → AllPass ts → first_passed None k bytes ts s ≡ None
none_passed k bytes [] s h = refl
none_passed k bytes (t ∷ ts) s h =
    ap (λ o. first_passed (noted_token None (k + length s.0) o) (k + length s.0 + length t.text) s.1 ts s.4) h.0
    ∙ none_passed (k + length s.0 + length t.text) s.1 ts s.4 h.1

-- the canonical text as tokens
pub canonical_spaced : (e : Tree) → IsSpaced (expr_text e) (tokens_in 1 (canonical e))
canonical_spaced e = subst (λ bs. IsSpaced bs (tokens_in 1 (canonical e))) (canonical_text 1 e) (joined_spaced (tokens_in 1 (canonical e)))

answered_kept : (t : Tree) → nodes t ≤ 10000 → depth t ≤ 100 → answered None (seen t) ≡ Ok t
unfolding answered
answered_kept t h k = ap (answered None) (seen_kept t (small_from t h k))

pub read_again : (e : Tree) → IsExpr e → expr_reading (expr_text e) ≡ Ok e
read_again e is =
    let w = canonical e in
    let s = canonical_spaced e in
    let r = read_as (expr_text e) w (canonical_well 1 e (omega arith) is.spelled) (omega (arith, canonical_brackets e, is.shallow)) s in
    let none = none_passed 0 (expr_text e) (tokens_in 1 w) s (canonical_passes 1 e (omega arith) is.spelled) in
    r.answer ∙ ap (λ o. answered o (seen r.stands)) none ∙ ap (λ t. answered None (seen t)) (r.exact none ∙ canonical_tree 1 e (omega arith) is.spelled) ∙ answered_kept e is.small is.shallow

-- ---- what is written is spelled by the grammar

none_passing : (k : ℕ) (ts : List Token) → AllPass ts → first_passing_from k ts ≡ None
none_passing k [] h = refl
none_passing k (t ∷ ts) h = ap (λ o. or_else (option_map (λ name. (k, name)) o) (first_passing_from (k + 1) ts)) h.0 ∙ none_passing (k + 1) ts h.1

whole_none : (e : Tree) → nodes e ≤ 10000 → depth e ≤ 100 → tree_limit e ≡ None
whole_none e h k =
    ap (λ t. cond t (cond (leb (depth e) max_depth) None (Some Depth)) (Some Expression)) (le-leb (nodes e) max_nodes h)
    ∙ ap (λ t. cond t None (Some Depth)) (le-leb (depth e) max_depth k)

pub canonical_right : (e : Tree) → IsExpr e → Reads expr_grammar (expr_text e) (Ok e)
canonical_right e is =
    let w : Written = canonical e in
    let tree : tree_written w ≡ e = canonical_tree 1 e (omega arith) is.spelled in
    let few : brackets w ≤ max_brackets = omega (arith, canonical_brackets e, is.shallow) in
    let text : IsTextOf expr_grammar (expr_text e) w = record {
      well = and_from (is_well w) (leb (brackets w) max_brackets) (canonical_well 1 e (omega arith) is.spelled) (le-leb (brackets w) max_brackets few);
      spaced = canonical_spaced e;
    } in
    let limits : IsWithinLimits expr_grammar w = record {
      tokens = none_passing 0 (tokens_in 1 w) (canonical_passes 1 e (omega arith) is.spelled);
      whole = ap tree_limit tree ∙ whole_none e is.small is.shallow;
    } in
    (w, text, limits, tree)
