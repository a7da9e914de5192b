-- That the lines of a well formed program lead to its end.
use Rattle.std.specs.Prelude.{◌≡◌, ℕ, ◌+◌, ◌^◌, ◌<◌, ◌≤◌, nat_lt, ◌==◌, int_le, Bool, true, false, ◌&&◌, ◌||◌, not, List, [], ◌∷◌, ◌++◌, length, Some}
use Rattle.std.proofs.Common.{subst, sym, refl, ap, arith, ◌∙◌, append_assoc}
use Rattle.std.proofs.lemmas.List.{append-nil}
use Rattle.aol_shape.specs.Numbers.{fits_64}
use Rattle.aol_csyn.specs.Tree.{Expr, num, var, tab, cell_v, cell_f, bin, Stmt, set_var, put_v, put_f, if_else, for_each, Stmts, no_stmts, stmt_and, stmts}
use Rattle.aol_csyn.specs.Form.{expr_depth, expr_formed, stmts_depth, sets, any_sets, stmt_formed, stmts_formed}
use Rattle.aol_cread.specs.Lines.{Line, set_line, put_v_line, put_f_line, if_line, else_line, for_line, close_line}
use Rattle.aol_cread.specs.States.{Frame, in_for, in_first, in_second, State, is_held, room_in}
use Rattle.aol_cread.specs.Next.{where_true, with_stmt, with_frame, fits_here, after_inside, after_phase, next}
use Rattle.aol_cread.specs.declared.building.Phase.{Phase}
use Rattle.aol_cread.specs.declared.building.Phase.TheVariants.{Inside}
use Rattle.aol_cread.proofs.Exprs.{both_true, left_true, right_true, Sized}
use Rattle.aol_cread.proofs.OneLine.{FitsLine}
use Rattle.aol_cread.proofs.Shown.{stmt_lines, stmts_lines, StmtFits}

-- ---- lines that lead on

abbrev pub Goes : State → List Line → State → Type 0
Goes s [] t = s ≡ t
Goes s (l ∷ ls) t = (u : State) × (next s l ≡ Some u) × FitsLine (room_in s) l × Goes u ls t

pub goes_on : (ls ms : List Line) (s t u : State) → Goes s ls t → Goes t ms u → Goes s (ls ++ ms) u
goes_on [] ms s t u g h = subst (λ x. Goes x ms u) (sym g) h
goes_on (l ∷ ls) ms s t u g h = (g.0, g.1, g.2, goes_on ls ms g.0 t u g.3 h)

pub goes_to : (ls : List Line) (s t u : State) → t ≡ u → Goes s ls t → Goes s ls u
goes_to ls s t u h g = subst (λ x. Goes s ls x) h g

pub next_in : (ph : Phase) (s : State) (l : Line) (u : State) → s.phase ≡ ph → after_phase ph s l ≡ Some u → next s l ≡ Some u
unfolding next
next_in ph s l u is h = ap (λ p. after_phase p s l) is ∙ h

pub where_holds : (b : Bool) (s : State) → b ≡ true → where_true b s ≡ Some s
where_holds b s h = ap (λ t. where_true t s) h

pub under : (a b : ℕ) → a < b → nat_lt a b ≡ true
under a b h = grind (arith, h)

pub below : (a b : ℕ) → nat_lt a b ≡ true → a < b
below a b h = grind (arith, h)

pub self : (a : ℕ) → (a == a) ≡ true
self a = grind arith

-- ---- expressions

wider : (e : Expr) (vars tables : ℕ) → vars ≤ 2 ^ 32 → tables ≤ 2 ^ 32 → expr_formed vars tables e ≡ true → expr_formed (2 ^ 32) (2 ^ 32) e ≡ true
wider (num z) vars tables h k f = f
wider (var n) vars tables h k f = let low = below n vars f in under n (2 ^ 32) (omega (arith, h, low))
wider (tab t i) vars tables h k f =
    let low = below t tables (left_true (nat_lt t tables) (expr_formed vars tables i) f) in
    both_true (nat_lt t (2 ^ 32)) (expr_formed (2 ^ 32) (2 ^ 32) i) (under t (2 ^ 32) (omega (arith, k, low))) (wider i vars tables h k (right_true (nat_lt t tables) (expr_formed vars tables i) f))
wider (cell_v i) vars tables h k f = wider i vars tables h k f
wider (cell_f i) vars tables h k f = wider i vars tables h k f
wider (bin op a b) vars tables h k f =
    both_true (expr_formed (2 ^ 32) (2 ^ 32) a) (expr_formed (2 ^ 32) (2 ^ 32) b) (wider a vars tables h k (left_true (expr_formed vars tables a) (expr_formed vars tables b) f)) (wider b vars tables h k (right_true (expr_formed vars tables a) (expr_formed vars tables b) f))

-- ---- statements

pub record Open (s : State) : Type 0 where
  pub phase : s.phase ≡ Inside
  pub vars : s.vars < 2 ^ 32
  pub tables : length s.tables < 2 ^ 32

sized : (s : State) (e : Expr) → Open s → fits_here s e ≡ true → expr_depth e + 1 + length s.frames ≤ 1024 → Sized (room_in s) e
sized s e o f h =
    let few = o.vars in let many = o.tables in
    record { formed = wider e s.vars (length s.tables) (omega (arith, few)) (omega (arith, many)) f; depth = omega (arith, h) }

abbrev pub list_of : Stmts → List Stmt
list_of no_stmts = []
list_of (stmt_and st rest) = st ∷ list_of rest

pub listed : (sts : Stmts) → stmts (list_of sts) ≡ sts
listed no_stmts = refl
listed (stmt_and st rest) = ap (λ r. stmt_and st r) (listed rest)

pub record StmtsFit (vars tables : ℕ) (fs : List Frame) (sts : Stmts) : Type 0 where
  pub formed : stmts_formed vars tables sts ≡ true
  pub depth : stmts_depth sts + length fs ≤ 1024
  pub free : (k : ℕ) → is_held k fs ≡ true → any_sets k sts ≡ false

left_false : (a b : Bool) → (a || b) ≡ false → a ≡ false
left_false true b h = absurd (cc)
left_false false b h = refl

right_false : (a b : Bool) → (a || b) ≡ false → b ≡ false
right_false true b h = absurd (cc)
right_false false b h = h

not_is : (a : Bool) → a ≡ false → not a ≡ true
not_is a h = ap not h

is_not : (a : Bool) → not a ≡ true → a ≡ false
is_not true h = absurd (cc)
is_not false h = refl

first_fits : (vars tables : ℕ) (fs : List Frame) (st : Stmt) (rest : Stmts) → StmtsFit vars tables fs (stmt_and st rest) → StmtFits vars tables fs st
first_fits vars tables fs st rest f =
    let low = f.depth in
    record { formed = left_true (stmt_formed vars tables st) (stmts_formed vars tables rest) f.formed; depth = omega (arith, low); free = λ k h. left_false (sets k st) (any_sets k rest) (f.free k h) }

rest_fits : (vars tables : ℕ) (fs : List Frame) (st : Stmt) (rest : Stmts) → StmtsFit vars tables fs (stmt_and st rest) → StmtsFit vars tables fs rest
rest_fits vars tables fs st rest f =
    let low = f.depth in
    record { formed = right_true (stmt_formed vars tables st) (stmts_formed vars tables rest) f.formed; depth = omega (arith, low); free = λ k h. right_false (sets k st) (any_sets k rest) (f.free k h) }

not_held_by : (d : Bool) (k : ℕ) (fs : List Frame) (st : Stmt) → is_held k fs ≡ d → sets k st ≡ true → (is_held k fs ≡ true → sets k st ≡ false) → d ≡ false
not_held_by false k fs st is h free = refl
not_held_by true k fs st is h free = let no = free is in absurd (cc)

not_held : (k : ℕ) (fs : List Frame) (st : Stmt) → sets k st ≡ true → (is_held k fs ≡ true → sets k st ≡ false) → is_held k fs ≡ false
not_held k fs st h free = not_held_by (is_held k fs) k fs st refl h free

one_line : (s u : State) (l : Line) → s.phase ≡ Inside → after_inside s l ≡ Some u → FitsLine (room_in s) l → Goes s (l ∷ []) u
one_line s u l is h fit = (u, next_in Inside s l u is h, fit, refl)

for_free : (d : Bool) (j k : ℕ) (fs : List Frame) (body : Stmts) → (k == j) ≡ d → (d || is_held j fs) ≡ true → any_sets k body ≡ false → (is_held j fs ≡ true → any_sets j body ≡ false) → any_sets j body ≡ false
for_free true j k fs body is h own others = let same : k ≡ j = grind (arith, is) in subst (λ n. any_sets n body ≡ false) same own
for_free false j k fs body is h own others = others h

or_true : (a b : Bool) → a ≡ true → (a || b) ≡ true
or_true true b h = refl
or_true false b h = absurd (cc)

mutual
  pub stmt_goes : (st : Stmt) (s : State) → Open s → StmtFits s.vars (length s.tables) s.frames st → Goes s (stmt_lines st) (with_stmt s st)
  stmt_goes (set_var k e) s o f =
      let a = nat_lt k s.vars in let b = fits_here s e in let c = not (is_held k s.frames) in
      let name = left_true a b f.formed in let formed = right_true a b f.formed in
      let free = not_held k s.frames (set_var k e) (self k) (f.free k) in
      let low = below k s.vars name in let few = o.vars in
      one_line s (with_stmt s (set_var k e)) (set_line k e) o.phase (where_holds (a && b && c) (with_stmt s (set_var k e)) (both_true (a && b) c f.formed (not_is (is_held k s.frames) free))) (omega (arith, low, few), sized s e o formed f.depth)
  stmt_goes (put_v at e) s o f =
      let a = fits_here s at in let b = fits_here s e in let low = f.depth in
      one_line s (with_stmt s (put_v at e)) (put_v_line at e) o.phase (where_holds (a && b) (with_stmt s (put_v at e)) f.formed) (sized s at o (left_true a b f.formed) (omega (arith, low)), sized s e o (right_true a b f.formed) (omega (arith, low)))
  stmt_goes (put_f at e) s o f =
      let a = fits_here s at in let b = fits_here s e in let low = f.depth in
      one_line s (with_stmt s (put_f at e)) (put_f_line at e) o.phase (where_holds (a && b) (with_stmt s (put_f at e)) f.formed) (sized s at o (left_true a b f.formed) (omega (arith, low)), sized s e o (right_true a b f.formed) (omega (arith, low)))
  stmt_goes (if_else e first second) s o f =
      let vars = s.vars in let tables = length s.tables in
      let a = fits_here s e in let b = stmts_formed vars tables first in let c = stmts_formed vars tables second in
      let ab = left_true (a && b) c f.formed in let low = f.depth in
      let f1 = in_first e s.here in let s1 = with_frame s f1 in let o1 : Open s1 = record { phase = o.phase; vars = o.vars; tables = o.tables } in
      let s2 = record s1 { here = [] ++ list_of first } in
      let s3 = record s2 { frames = in_second e ([] ++ list_of first) s.here ∷ s.frames; here = [] } in let o3 : Open s3 = record { phase = o.phase; vars = o.vars; tables = o.tables } in
      let s4 = record s3 { here = [] ++ list_of second } in
      let s5 = record s4 { frames = s.frames; here = s.here ++ if_else e (stmts ([] ++ list_of first)) (stmts ([] ++ list_of second)) ∷ [] } in
      let in_one : StmtsFit vars tables s1.frames first = record { formed = right_true a b ab; depth = omega (arith, low); free = λ k h. left_false (any_sets k first) (any_sets k second) (f.free k h) } in
      let in_two : StmtsFit vars tables s3.frames second = record { formed = right_true (a && b) c f.formed; depth = omega (arith, low); free = λ k h. right_false (any_sets k first) (any_sets k second) (f.free k h) } in
      let close : Goes s4 (close_line ∷ []) s5 = one_line s4 s5 close_line o.phase refl tt in
      let same : s5 ≡ with_stmt s (if_else e first second) = ap (λ x. with_stmt s (if_else e x (stmts (list_of second)))) (listed first) ∙ ap (λ x. with_stmt s (if_else e first x)) (listed second) in (
        s1,
        next_in Inside s (if_line e) s1 o.phase (where_holds a s1 (left_true a b ab)),
        sized s e o (left_true a b ab) (omega (arith, low)),
        goes_on (stmts_lines first) (else_line ∷ (stmts_lines second ++ close_line ∷ [])) s1 s2 (with_stmt s (if_else e first second)) (stmts_goes first s1 o1 in_one)
            (s3, next_in Inside s2 else_line s3 o.phase refl, tt, goes_on (stmts_lines second) (close_line ∷ []) s3 s4 (with_stmt s (if_else e first second)) (stmts_goes second s3 o3 in_two) (goes_to (close_line ∷ []) s4 s5 (with_stmt s (if_else e first second)) same close)),
      )
  stmt_goes (for_each k x y body) s o f =
      let vars = s.vars in let tables = length s.tables in
      let a = nat_lt k vars in let b = fits_64 x in let c = fits_64 y in let d = int_le x y in let e = not (any_sets k body) in let g = stmts_formed vars tables body in
      let abcde = left_true (a && b && c && d && e) g f.formed in let abcd = left_true (a && b && c && d) e abcde in let abc = left_true (a && b && c) d abcd in let ab = left_true (a && b) c abc in
      let own = is_not (any_sets k body) (right_true (a && b && c && d) e abcde) in
      let name = left_true a b ab in let few = o.vars in let small = below k vars name in let low = f.depth in
      let free = not_held k s.frames (for_each k x y body) (or_true (k == k) (any_sets k body) (self k)) (f.free k) in
      let u = not (is_held k s.frames) in let v = nat_lt (length s.frames) 1024 in
      let f1 = in_for k x y s.here in let s1 = with_frame s f1 in let o1 : Open s1 = record { phase = o.phase; vars = o.vars; tables = o.tables } in
      let s2 = record s1 { here = [] ++ list_of body } in
      let s3 = record s2 { frames = s.frames; here = s.here ++ for_each k x y (stmts ([] ++ list_of body)) ∷ [] } in
      let inside : StmtsFit vars tables s1.frames body = record {
        formed = right_true (a && b && c && d && e) g f.formed;
        depth = omega (arith, low);
        free = λ j h. for_free (k == j) j k s.frames body refl h own (λ i. right_false (k == j) (any_sets j body) (f.free j i));
      } in
      let close : Goes s2 (close_line ∷ []) s3 = one_line s2 s3 close_line o.phase refl tt in (
        s1,
        next_in Inside s (for_line k x y) s1 o.phase (where_holds (a && d && u && v) s1 (both_true (a && d && u) v (both_true (a && d) u (both_true a d name (right_true (a && b && c) d abcd)) (not_is (is_held k s.frames) free)) (under (length s.frames) 1024 (omega (arith, low))))),
        (omega (arith, small, few), right_true a b ab, right_true (a && b) c abc),
        goes_on (stmts_lines body) (close_line ∷ []) s1 s2 (with_stmt s (for_each k x y body)) (stmts_goes body s1 o1 inside) (goes_to (close_line ∷ []) s2 s3 (with_stmt s (for_each k x y body)) (ap (λ z. with_stmt s (for_each k x y z)) (listed body)) close),
      )

  pub stmts_goes : (sts : Stmts) (s : State) → Open s → StmtsFit s.vars (length s.tables) s.frames sts → Goes s (stmts_lines sts) (record s { here = s.here ++ list_of sts })
  stmts_goes no_stmts s o f = ap (λ h. record s { here = h }) (sym (append-nil s.here))
  stmts_goes (stmt_and st rest) s o f =
      let s1 = with_stmt s st in let o1 : Open s1 = record { phase = o.phase; vars = o.vars; tables = o.tables } in
      let s2 = record s1 { here = (s.here ++ st ∷ []) ++ list_of rest } in
      goes_on (stmt_lines st) (stmts_lines rest) s s1 (record s { here = s.here ++ (st ∷ list_of rest) }) (stmt_goes st s o (first_fits s.vars (length s.tables) s.frames st rest f))
      (goes_to (stmts_lines rest) s1 s2 (record s { here = s.here ++ (st ∷ list_of rest) }) (ap (λ h. record s { here = h }) (append_assoc s.here (st ∷ []) (list_of rest))) (stmts_goes rest s1 o1 (rest_fits s.vars (length s.tables) s.frames st rest f)))
