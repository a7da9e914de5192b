use Rattle.std.specs.Prelude.{◌≡◌, codes}
use Rattle.std.proofs.Common.{rules, arith, refl, sym, ap, ◌∙◌, w64, to_z, of_z, FitsSigned}
use Rattle.std.proofs.lemmas.Int.{to_z-of_z}
use Rattle.aol_csyn.specs.declared.program.CStmt.TheVariants.{rolls-If}
use Rattle.aol_csyn.specs.declared.program.CStmt.TheOpen.{CStmt-F}
use Rattle.aol_csyn.specs.declared.program.CStmt.TheFolds.{fold-CStmt, fold-roll-CStmt}
use Rattle.aol_csyn.specs.Stored.{expr_of, level_stmt, stmt_of, stmts_of}
use Rattle.aol_csyn.specs.Text.{expr_text, for_line, stmt_text, stmts_text}
use Rattle.aol_csyn.specs.Tree.{Stmt, if_else}
use Rattle.aol_csyn.proofs.Written.{adds_both, adds_as, adds_then, begun_none, begun_item, begun_end}
use Rattle.aol_csyn.proofs.writing.+statement.Goals as goal

pub put_stmt-returns-in-If : goal.put_stmt-returns-in-If
put_stmt-returns-in-If g t c =
    let e = c.in-If in
    let tree : stmt_of c.args.stmt.now ≡ if_else (expr_of e.e) (stmts_of e.first) (stmts_of e.second) =
    ap stmt_of e.is ∙ (ap (fold-CStmt Stmt level_stmt) (sym (rolls-If e.e e.first e.second)) ∙ fold-roll-CStmt Stmt level_stmt (CStmt-F.If e.e e.first e.second)) in
    let opened = adds_as (codes "if (") refl c.put.ensures in
    let test = adds_as (expr_text (expr_of e.e)) refl c.put_expr.ensures in
    let then = adds_as (codes ") {\n") refl c.put-in-If.ensures in
    let first = adds_as (stmts_text (stmts_of e.first)) (ap (λ b. stmts_text (stmts_of b)) c.as_slice.ensures) c.put_stmts.ensures in
    let between = adds_as (codes "} else {\n") refl c.put-in-If-2.ensures in
    let second = adds_as (stmts_text (stmts_of e.second)) (ap (λ b. stmts_text (stmts_of b)) c.as_slice-in-If.ensures) c.put_stmts-in-If.ensures in
    let close = adds_as (codes "}\n") refl c.put-in-If-3.ensures in
    adds_as (stmt_text (stmt_of c.args.stmt.now)) (ap stmt_text (sym tree)) (adds_both (adds_both (adds_both (adds_both (adds_both (adds_both opened test) then) first) between) second) close)

pub put_for-returns : goal.put_for-returns
put_for-returns g t c =
    let fits_a : FitsSigned w64 c.args.a = search rules in
    let fits_b : FitsSigned w64 c.args.b = search rules in
    let first = adds_then c.put_for_line.ensures (ap (λ a. for_line c.args.k a (to_z w64 (of_z w64 c.args.b))) (to_z-of_z w64 c.args.a fits_a)) in
    let line = adds_as (for_line c.args.k c.args.a c.args.b) (ap (λ b. for_line c.args.k c.args.a b) (to_z-of_z w64 c.args.b fits_b)) first in
    adds_both (adds_both line c.put_stmts.ensures) c.put.ensures

pub put_stmts-loop-stmt-init : goal.put_stmts-loop-stmt-init
put_stmts-loop-stmt-init g t c = begun_none _ (stmts_text (stmts_of c.args.body.now))

pub put_stmts-loop-stmt-preserved : goal.put_stmts-loop-stmt-preserved
put_stmts-loop-stmt-preserved g t c =
    begun_item (λ i xs. stmts_text (stmts_of xs)) (λ i x. stmt_text (stmt_of x)) (λ i x xs. refl) c.args.body.now c.loop-stmt.stmt-index c.stmt-item.result
    c.loop-stmt-test.true c.stmt-item.is c.loop-stmt.invariant c.put_stmt.ensures

pub put_stmts-returns : goal.put_stmts-returns
put_stmts-returns g t c = begun_end (λ xs. stmts_text (stmts_of xs)) c.args.body.now c.loop-stmt.stmt-index (omega arith) refl c.loop-stmt.invariant
