use Rattle.std.specs.Prelude.{◌≡◌, codes}
use Rattle.std.proofs.Common.{rules, refl, sym, ap, ◌∙◌}
use Rattle.aol_csyn.specs.declared.program.CExpr.TheVariants.{rolls-Bin}
use Rattle.aol_csyn.specs.declared.program.CExpr.TheOpen.{CExpr-F}
use Rattle.aol_csyn.specs.declared.program.CExpr.TheFolds.{fold-CExpr, fold-roll-CExpr}
use Rattle.aol_csyn.specs.Stored.{expr_of, level_expr}
use Rattle.aol_csyn.specs.Text.{op_text, expr_text}
use Rattle.aol_csyn.specs.Tree.{Expr, bin}
use Rattle.aol_csyn.proofs.Written.{adds_both, adds_as}
use Rattle.aol_csyn.proofs.writing.+expression.Goals as goal

pub put_tab-returns : goal.put_tab-returns
put_tab-returns g t c = adds_both c.put_count.ensures c.put_index.ensures

pub put_cell-returns : goal.put_cell-returns
put_cell-returns g t c = adds_both c.put.ensures c.put_index.ensures

pub put_index-returns : goal.put_index-returns
put_index-returns g t c = adds_both (adds_both c.put.ensures c.put_expr.ensures) c.put-2.ensures

pub put_expr-returns-in-Bin : goal.put_expr-returns-in-Bin
put_expr-returns-in-Bin g t c =
    let e = c.in-Bin in
    let tree : expr_of c.args.e.now ≡ bin e.op (expr_of e.left.value) (expr_of e.right.value) =
    ap expr_of e.is ∙ (ap (fold-CExpr Expr level_expr) (sym (rolls-Bin e.op e.left e.right)) ∙ fold-roll-CExpr Expr level_expr (CExpr-F.Bin e.op e.left e.right)) in
    let opened = adds_as (codes "(") refl c.put.ensures in
    let left = adds_as (expr_text (expr_of e.left.value)) (ap (λ x. expr_text (expr_of x)) c.deref-in-Bin.ensures) c.put_expr.ensures in
    let sign = adds_as (op_text e.op) c.op_text.ensures c.put-in-Bin.ensures in
    let right = adds_as (expr_text (expr_of e.right.value)) (ap (λ x. expr_text (expr_of x)) c.deref-in-Bin-2.ensures) c.put_expr-in-Bin.ensures in
    let close = adds_as (codes ")") refl c.put-in-Bin-2.ensures in
    adds_as (expr_text (expr_of c.args.e.now)) (ap expr_text (sym tree)) (adds_both (adds_both (adds_both (adds_both opened left) sign) right) close)
