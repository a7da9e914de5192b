-- The text of a program, line by line.
use Rattle.std.specs.Prelude.{◌≡◌, ℕ, zero, suc, ◌+◌, ◌==◌, Bool, true, false, ℤ, List, [], ◌∷◌, ◌++◌, length, codes, decimal, if◌then◌else◌}
use Rattle.std.proofs.Common.{sym, refl, ap, ◌∙◌, append_assoc}
use Rattle.std.proofs.lemmas.List.{append-nil}
use Rattle.aol_csyn.specs.Tree.{Expr, Stmt, set_var, put_v, put_f, if_else, for_each, Stmts, no_stmts, stmt_and, Step, Program}
use Rattle.aol_csyn.specs.Text.{number_text, expr_text, indexed, assigned, for_line, stmt_text, stmts_text, table_text, tables_text, numbers_text, arrays_text, step_name, var_line, vars_text, step_text, steps_text, call_text, calls_text, program_text}
use Rattle.aol_csyn.proofs.Joined.{joined}
use Rattle.aol_cread.specs.Lines as lines
use Rattle.aol_cread.specs.Lines.{Line, onto}
use Rattle.aol_cread.proofs.Shown.{stmt_lines, stmts_lines, tables_lines, vars_lines, step_lines, steps_lines, calls_lines, front_lines, program_lines}

abbrev pub texts : List Line → List ℕ → List ℕ
texts [] r = r
texts (l ∷ ls) r = onto l (texts ls r)

pub texts_both : (ls ms : List Line) (r : List ℕ) → texts (ls ++ ms) r ≡ texts ls (texts ms r)
texts_both [] ms r = refl
texts_both (l ∷ ls) ms r = ap (onto l) (texts_both ls ms r)

index_text : (a i r : List ℕ) → (a ++ indexed i) ++ r ≡ a ++ (codes "[" ++ (i ++ (codes "]" ++ r)))
index_text a i r = append_assoc a (indexed i) r ∙ ap (λ z. a ++ z) (joined (codes "[") (i ∷ codes "]" ∷ []) r)

assigned_text : (e : Expr) (r : List ℕ) → assigned e ++ r ≡ codes " = " ++ (expr_text e ++ (codes ";\n" ++ r))
assigned_text e r = joined (codes " = ") (expr_text e ∷ codes ";\n" ∷ []) r

for_text : (k : ℕ) (a b : ℤ) (r : List ℕ) → for_line k a b ++ r ≡ onto (lines.for_line k a b) r
for_text k a b r =
    joined (codes "for (a" ++ decimal k) ((codes " = " ++ number_text a) ∷ (codes "; a" ++ decimal k) ∷ (codes " < " ++ number_text b) ∷ (codes "; a" ++ decimal k) ∷ (codes " = a" ++ decimal k) ∷ codes " + 1LL) {\n" ∷ []) r
    ∙ (append_assoc (codes "for (a") (decimal k) _ ∙ ap (λ z. codes "for (a" ++ (decimal k ++ z))
    (append_assoc (codes " = ") (number_text a) _ ∙ ap (λ z. codes " = " ++ (number_text a ++ z))
    (append_assoc (codes "; a") (decimal k) _ ∙ ap (λ z. codes "; a" ++ (decimal k ++ z))
    (append_assoc (codes " < ") (number_text b) _ ∙ ap (λ z. codes " < " ++ (number_text b ++ z))
    (append_assoc (codes "; a") (decimal k) _ ∙ ap (λ z. codes "; a" ++ (decimal k ++ z))
    (append_assoc (codes " = a") (decimal k) _))))))

mutual
  stmt_texts : (st : Stmt) (r : List ℕ) → stmt_text st ++ r ≡ texts (stmt_lines st) r
  stmt_texts (set_var k e) r = append_assoc (codes "a" ++ decimal k) (assigned e) r ∙ (append_assoc (codes "a") (decimal k) (assigned e ++ r) ∙ ap (λ z. codes "a" ++ (decimal k ++ z)) (assigned_text e r))
  stmt_texts (put_v at e) r = append_assoc (codes "V" ++ indexed (expr_text at)) (assigned e) r ∙ (index_text (codes "V") (expr_text at) (assigned e ++ r) ∙ ap (λ z. codes "V[" ++ (expr_text at ++ (codes "]" ++ z))) (assigned_text e r))
  stmt_texts (put_f at e) r = append_assoc (codes "F" ++ indexed (expr_text at)) (assigned e) r ∙ (index_text (codes "F") (expr_text at) (assigned e ++ r) ∙ ap (λ z. codes "F[" ++ (expr_text at ++ (codes "]" ++ z))) (assigned_text e r))
  stmt_texts (if_else e first second) r =
      let rest = codes "} else {\n" ++ (stmts_text second ++ (codes "}\n" ++ r)) in
      joined (codes "if (") (expr_text e ∷ codes ") {\n" ∷ stmts_text first ∷ codes "} else {\n" ∷ stmts_text second ∷ codes "}\n" ∷ []) r
      ∙ ap (λ z. codes "if (" ++ (expr_text e ++ (codes ") {\n" ++ z)))
      (ap (λ z. stmts_text first ++ (codes "} else {\n" ++ z)) (stmts_texts second (codes "}\n" ++ r) ∙ sym (texts_both (stmts_lines second) (lines.close_line ∷ []) r))
      ∙ (stmts_texts first (texts (lines.else_line ∷ (stmts_lines second ++ lines.close_line ∷ [])) r) ∙ sym (texts_both (stmts_lines first) (lines.else_line ∷ (stmts_lines second ++ lines.close_line ∷ [])) r)))
  stmt_texts (for_each k a b body) r =
      joined (for_line k a b) (stmts_text body ∷ codes "}\n" ∷ []) r
      ∙ (for_text k a b (stmts_text body ++ (codes "}\n" ++ r)) ∙ ap (onto (lines.for_line k a b)) (stmts_texts body (codes "}\n" ++ r) ∙ sym (texts_both (stmts_lines body) (lines.close_line ∷ []) r)))

  stmts_texts : (sts : Stmts) (r : List ℕ) → stmts_text sts ++ r ≡ texts (stmts_lines sts) r
  stmts_texts no_stmts r = refl
  stmts_texts (stmt_and st rest) r = append_assoc (stmt_text st) (stmts_text rest) r ∙ (stmt_texts st (stmts_text rest ++ r) ∙ (ap (texts (stmt_lines st)) (stmts_texts rest r) ∙ sym (texts_both (stmt_lines st) (stmts_lines rest) r)))

table_texts : (t : ℕ) (numbers : List ℤ) (r : List ℕ) → table_text t numbers ++ r ≡ onto (lines.table_line t numbers) r
table_texts t numbers r =
    joined (codes "static const i64 T" ++ decimal t) ((codes "[" ++ decimal (length numbers)) ∷ codes "] = {" ∷ numbers_text numbers ∷ codes "};\n" ∷ []) r
    ∙ (append_assoc (codes "static const i64 T") (decimal t) _ ∙ ap (λ z. codes "static const i64 T" ++ (decimal t ++ z)) (append_assoc (codes "[") (decimal (length numbers)) _))

tables_texts : (ts : List (List ℤ)) (t : ℕ) (r : List ℕ) → tables_text t ts ++ r ≡ texts (tables_lines t ts) r
tables_texts [] t r = refl
tables_texts (x ∷ ts) t r = append_assoc (table_text t x) (tables_text (t + 1) ts) r ∙ (table_texts t x (tables_text (t + 1) ts ++ r) ∙ ap (onto (lines.table_line t x)) (tables_texts ts (t + 1) r))

arrays_texts : (c : ℕ) (r : List ℕ) → arrays_text c ++ r ≡ onto (lines.v_line c) (onto (lines.f_line c) r)
arrays_texts c r =
    joined (codes "i64 V[" ++ decimal c) ((codes "];\ni64 F[" ++ decimal c) ∷ codes "];\n" ∷ []) r
    ∙ (append_assoc (codes "i64 V[") (decimal c) _ ∙ ap (λ z. codes "i64 V[" ++ (decimal c ++ z)) (append_assoc (codes "];\ni64 F[") (decimal c) _))

vars_texts : (n k : ℕ) (r : List ℕ) → vars_text k n ++ r ≡ texts (vars_lines k n) r
vars_texts zero k r = refl
vars_texts (suc n) k r =
    append_assoc (var_line k) (vars_text (k + 1) n) r
    ∙ (append_assoc (codes "i64 a" ++ decimal k) (codes " = 0LL;\n") (vars_text (k + 1) n ++ r) ∙ (append_assoc (codes "i64 a") (decimal k) (codes " = 0LL;\n" ++ (vars_text (k + 1) n ++ r))
    ∙ ap (onto (lines.var_line k)) (vars_texts n (k + 1) r)))

name_text : (front : List ℕ) (l w : ℕ) (r : List ℕ) → front ++ (step_name l w ++ r) ≡ front ++ (codes "step_" ++ (decimal l ++ (codes "_" ++ (decimal w ++ r))))
name_text front l w r = ap (λ z. front ++ z) (append_assoc (codes "step_" ++ decimal l) (codes "_" ++ decimal w) r ∙ (append_assoc (codes "step_") (decimal l) ((codes "_" ++ decimal w) ++ r) ∙ ap (λ z. codes "step_" ++ (decimal l ++ z)) (append_assoc (codes "_") (decimal w) r)))

step_texts : (l w : ℕ) (st : Step) (r : List ℕ) → step_text l w st ++ r ≡ texts (step_lines l w st) r
step_texts l w st r =
    let rest = vars_text 0 st.vars ++ (stmts_text st.body ++ (codes "}\n" ++ r)) in
    joined (codes "void ") (step_name l w ∷ codes "(void) {\n" ∷ vars_text 0 st.vars ∷ stmts_text st.body ∷ codes "}\n" ∷ []) r
    ∙ (name_text (codes "void ") l w (codes "(void) {\n" ++ rest)
    ∙ ap (onto (lines.step_line l w)) (vars_texts st.vars 0 (stmts_text st.body ++ (codes "}\n" ++ r)) ∙ (ap (texts (vars_lines 0 st.vars)) (stmts_texts st.body (codes "}\n" ++ r) ∙ sym (texts_both (stmts_lines st.body) (lines.close_line ∷ []) r))
    ∙ sym (texts_both (vars_lines 0 st.vars) (stmts_lines st.body ++ lines.close_line ∷ []) r))))

steps_by : (d : Bool) (w l k : ℕ) (st : Step) (xs : List Step) (r : List ℕ) → ((l k : ℕ) → steps_text w l k xs ++ r ≡ texts (steps_lines w l k xs) r)
    → (step_text l k st ++ (if d then steps_text w (l + 1) 0 xs else steps_text w l (k + 1) xs)) ++ r ≡ texts (step_lines l k st ++ (if d then steps_lines w (l + 1) 0 xs else steps_lines w l (k + 1) xs)) r
steps_by true w l k st xs r again = append_assoc (step_text l k st) (steps_text w (l + 1) 0 xs) r ∙ (step_texts l k st (steps_text w (l + 1) 0 xs ++ r) ∙ (ap (texts (step_lines l k st)) (again (l + 1) 0) ∙ sym (texts_both (step_lines l k st) (steps_lines w (l + 1) 0 xs) r)))
steps_by false w l k st xs r again = append_assoc (step_text l k st) (steps_text w l (k + 1) xs) r ∙ (step_texts l k st (steps_text w l (k + 1) xs ++ r) ∙ (ap (texts (step_lines l k st)) (again l (k + 1)) ∙ sym (texts_both (step_lines l k st) (steps_lines w l (k + 1) xs) r)))

steps_texts : (w : ℕ) (xs : List Step) (r : List ℕ) (l k : ℕ) → steps_text w l k xs ++ r ≡ texts (steps_lines w l k xs) r
steps_texts w [] r l k = refl
steps_texts w (st ∷ xs) r l k = steps_by (k + 1 == w) w l k st xs r (λ l k. steps_texts w xs r l k)

call_texts : (l w : ℕ) (r : List ℕ) → call_text l w ++ r ≡ onto (lines.call_line l w) r
call_texts l w r = append_assoc (step_name l w) (codes "();\n") r ∙ name_text [] l w (codes "();\n" ++ r)

calls_by : (d : Bool) (w l k : ℕ) (xs : List Step) (r : List ℕ) → ((l k : ℕ) → calls_text w l k xs ++ r ≡ texts (calls_lines w l k (length xs)) r)
    → (call_text l k ++ (if d then calls_text w (l + 1) 0 xs else calls_text w l (k + 1) xs)) ++ r ≡ onto (lines.call_line l k) (texts (if d then calls_lines w (l + 1) 0 (length xs) else calls_lines w l (k + 1) (length xs)) r)
calls_by true w l k xs r again = append_assoc (call_text l k) (calls_text w (l + 1) 0 xs) r ∙ (call_texts l k (calls_text w (l + 1) 0 xs ++ r) ∙ ap (onto (lines.call_line l k)) (again (l + 1) 0))
calls_by false w l k xs r again = append_assoc (call_text l k) (calls_text w l (k + 1) xs) r ∙ (call_texts l k (calls_text w l (k + 1) xs ++ r) ∙ ap (onto (lines.call_line l k)) (again l (k + 1)))

calls_texts : (w : ℕ) (xs : List Step) (r : List ℕ) (l k : ℕ) → calls_text w l k xs ++ r ≡ texts (calls_lines w l k (length xs)) r
calls_texts w [] r l k = refl
calls_texts w (st ∷ xs) r l k = calls_by (k + 1 == w) w l k xs r (λ l k. calls_texts w xs r l k)

-- the text of a program is that of its lines
pub program_texts : (p : Program) → program_text p ≡ texts (program_lines p) []
program_texts p =
    let last = lines.run_line ∷ (calls_lines p.workers 0 0 (length p.steps) ++ lines.close_line ∷ []) in
    let end : codes "void run(void) {\n" ++ (calls_text p.workers 0 0 p.steps ++ (codes "}\n" ++ [])) ≡ texts last [] =
    ap (onto lines.run_line) (calls_texts p.workers p.steps (codes "}\n") 0 0 ∙ sym (texts_both (calls_lines p.workers 0 0 (length p.steps)) (lines.close_line ∷ []) [])) in
    sym (append-nil (program_text p))
    ∙ (joined (codes "/* AOL-C/1 */\ntypedef long long i64;\n") (tables_text 0 p.tables ∷ arrays_text p.cells ∷ steps_text p.workers 0 0 p.steps ∷ codes "void run(void) {\n" ∷ calls_text p.workers 0 0 p.steps ∷ codes "}\n" ∷ []) []
    ∙ (ap (λ z. codes "/* AOL-C/1 */\ntypedef long long i64;\n" ++ z)
    (ap (λ z. tables_text 0 p.tables ++ (arrays_text p.cells ++ (steps_text p.workers 0 0 p.steps ++ z))) end
    ∙ (ap (λ z. tables_text 0 p.tables ++ (arrays_text p.cells ++ z)) (steps_texts p.workers p.steps (texts last []) 0 0)
    ∙ (ap (λ z. tables_text 0 p.tables ++ z) (arrays_texts p.cells (texts (steps_lines p.workers 0 0 p.steps) (texts last [])))
    ∙ tables_texts p.tables 0 (onto (lines.v_line p.cells) (onto (lines.f_line p.cells) (texts (steps_lines p.workers 0 0 p.steps) (texts last [])))))))
    ∙ (sym (texts_both (lines.head_line ∷ lines.type_line ∷ tables_lines 0 p.tables) (lines.v_line p.cells ∷ lines.f_line p.cells ∷ []) (texts (steps_lines p.workers 0 0 p.steps) (texts last [])))
    ∙ (sym (texts_both (front_lines p.tables p.cells) (steps_lines p.workers 0 0 p.steps) (texts last [])) ∙ sym (texts_both (front_lines p.tables p.cells ++ steps_lines p.workers 0 0 p.steps) last [])))))
