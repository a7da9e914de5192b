-- Two programs with one text are equal.
use Rattle.std.specs.Prelude.{◌≡◌, ℕ, zero, suc, ◌+◌, ◌*◌, ◌/◌, ◌^◌, ◌<◌, Bool, true, false, ◌&&◌, not, nat_lt, nat_le, ◌==◌, List, [], ◌∷◌, ◌++◌, length, codes, decimal, ℤ, if◌then◌else◌}
use Rattle.std.specs.List.{list_all}
use Rattle.std.proofs.Common.{sym, refl, ap, arith, ◌∙◌, append_assoc, suc-mul}
use Rattle.std.proofs.Math.Nat.{mul-div_cancel_left, mul_comm}
use Rattle.std.proofs.lemmas.Nat.{mul-lt}
use Rattle.aol_shape.specs.Numbers.{fits_64}
use Rattle.aol_csyn.specs.Tree.{Stmts, no_stmts, stmt_and, Step, Program}
use Rattle.aol_csyn.specs.Form.{stmts_formed, stmts_depth, max_depth, step_formed, table_formed, IsWellFormed}
use Rattle.aol_csyn.specs.Text.{number_text, further_text, numbers_text, table_text, tables_text, arrays_text, var_line, vars_text, step_name, step_text, steps_text, call_text, calls_text, stmt_text, stmts_text, program_text}
use Rattle.aol_csyn.specs.Laws.{OneProgram}
use Rattle.aol_csyn.proofs.Joined.{joined}
use Rattle.aol_csyn.proofs.Numbers.{decimal_one, number_one, same_front}
use Rattle.aol_csyn.proofs.Expressions.{and_left, and_right, lt_true, rest_of}
use Rattle.aol_csyn.proofs.Statements.{three, not_variable, stmts_one}

-- texts with different first bytes differ
clash : (a b : ℕ) (r s : List ℕ) → (a ≡ b → ⊥) → a ∷ r ≡ b ∷ s → ⊥
clash a b r s differ e = let same : a ≡ b = cc in differ same

-- ---- tables

further_before : (n : ℤ) (ns : List ℤ) (r : List ℕ) → further_text (n ∷ ns) ++ r ≡ 44 ∷ (number_text n ++ (further_text ns ++ r))
further_before n ns r = joined (codes ",") (number_text n ∷ further_text ns ∷ []) r

-- the numbers after the first one, up to the end of a table
further_agree : (ns ms : List ℤ) → list_all fits_64 ns ≡ true → list_all fits_64 ms ≡ true → (r s : List ℕ) → further_text ns ++ (125 ∷ r) ≡ further_text ms ++ (125 ∷ s) → (ns ≡ ms) × (r ≡ s)
further_agree [] [] h g r s e = (refl, rest_of e)
further_agree [] (m ∷ ms) h g r s e = absurd (clash 125 44 _ _ (λ q. omega (arith, q)) (e ∙ further_before m ms (125 ∷ s)))
further_agree (n ∷ ns) [] h g r s e = absurd (clash 44 125 _ _ (λ q. omega (arith, q)) (sym (further_before n ns (125 ∷ r)) ∙ e))
further_agree (n ∷ ns) (m ∷ ms) h g r s e =
    let one = number_one n m _ _ (and_left (fits_64 n) (list_all fits_64 ns) h) (and_left (fits_64 m) (list_all fits_64 ms) g) (rest_of (sym (further_before n ns (125 ∷ r)) ∙ (e ∙ further_before m ms (125 ∷ s)))) in
    let rest = further_agree ns ms (and_right (fits_64 n) (list_all fits_64 ns) h) (and_right (fits_64 m) (list_all fits_64 ms) g) r s one.1 in
    (ap (λ z. z ∷ ns) one.0 ∙ ap (λ z. m ∷ z) rest.0, rest.1)

-- where there is a number at all
numbers_agree : (ns ms : List ℤ) → not (length ns == 0) ≡ true → not (length ms == 0) ≡ true → list_all fits_64 ns ≡ true → list_all fits_64 ms ≡ true → (r s : List ℕ) → numbers_text ns ++ (125 ∷ r) ≡ numbers_text ms ++ (125 ∷ s) → (ns ≡ ms) × (r ≡ s)
numbers_agree [] ms h g a b r s e = absurd (cc)
numbers_agree (n ∷ ns) [] h g a b r s e = absurd (cc)
numbers_agree (n ∷ ns) (m ∷ ms) h g a b r s e =
    let one = number_one n m _ _ (and_left (fits_64 n) (list_all fits_64 ns) a) (and_left (fits_64 m) (list_all fits_64 ms) b)
    (sym (append_assoc (number_text n) (further_text ns) (125 ∷ r)) ∙ (e ∙ append_assoc (number_text m) (further_text ms) (125 ∷ s))) in
    let rest = further_agree ns ms (and_right (fits_64 n) (list_all fits_64 ns) a) (and_right (fits_64 m) (list_all fits_64 ms) b) r s one.1 in
    (ap (λ z. z ∷ ns) one.0 ∙ ap (λ z. m ∷ z) rest.0, rest.1)

table_before : (k : ℕ) (t : List ℤ) (r : List ℕ) → table_text k t ++ r ≡ codes "static const i64 T" ++ (decimal k ++ (91 ∷ (decimal (length t) ++ (93 ∷ 32 ∷ 61 ∷ 32 ∷ 123 ∷ (numbers_text t ++ (125 ∷ 59 ∷ 10 ∷ r))))))
table_before k t r =
    joined (codes "static const i64 T" ++ decimal k) ((codes "[" ++ decimal (length t)) ∷ codes "] = {" ∷ numbers_text t ∷ codes "};\n" ∷ []) r
    ∙ append_assoc (codes "static const i64 T") (decimal k) ((codes "[" ++ decimal (length t)) ++ (codes "] = {" ++ (numbers_text t ++ (codes "};\n" ++ r))))

table_agree : (k : ℕ) (t u : List ℤ) → table_formed t ≡ true → table_formed u ≡ true → (r s : List ℕ) → table_text k t ++ r ≡ table_text k u ++ s → (t ≡ u) × (r ≡ s)
table_agree k t u h g r s e =
    let f = three (not (length t == 0)) (nat_lt (length t) (2 ^ 32)) (list_all fits_64 t) h in
    let i = three (not (length u == 0)) (nat_lt (length u) (2 ^ 32)) (list_all fits_64 u) g in
    let short = lt_true (length t) (2 ^ 32) f.1 in let short_too = lt_true (length u) (2 ^ 32) i.1 in
    let named = same_front (codes "static const i64 T") _ _ (sym (table_before k t r) ∙ (e ∙ table_before k u s)) in
    let counted = decimal_one (length t) (length u) 93 93 _ _ (omega (arith, short)) (omega (arith, short_too)) refl refl (rest_of (same_front (decimal k) _ _ named)) in
    let all = numbers_agree t u f.0 i.0 f.2 i.2 (59 ∷ 10 ∷ r) (59 ∷ 10 ∷ s) (same_front (93 ∷ 32 ∷ 61 ∷ 32 ∷ 123 ∷ []) _ _ counted.1) in
    (all.0, rest_of (rest_of all.1))

tables_agree : (k : ℕ) (xs ys : List (List ℤ)) → list_all table_formed xs ≡ true → list_all table_formed ys ≡ true → (r s : List ℕ) → tables_text k xs ++ (105 ∷ r) ≡ tables_text k ys ++ (105 ∷ s) → (xs ≡ ys) × (r ≡ s)
tables_agree k [] [] h g r s e = (refl, rest_of e)
tables_agree k [] (y ∷ ys) h g r s e = absurd (clash 105 115 _ _ (λ q. omega (arith, q)) (e ∙ (append_assoc (table_text k y) (tables_text (k + 1) ys) (105 ∷ s) ∙ table_before k y (tables_text (k + 1) ys ++ (105 ∷ s)))))
tables_agree k (x ∷ xs) [] h g r s e = absurd (clash 105 115 _ _ (λ q. omega (arith, q)) (sym e ∙ (append_assoc (table_text k x) (tables_text (k + 1) xs) (105 ∷ r) ∙ table_before k x (tables_text (k + 1) xs ++ (105 ∷ r)))))
tables_agree k (x ∷ xs) (y ∷ ys) h g r s e =
    let one = table_agree k x y (and_left (table_formed x) (list_all table_formed xs) h) (and_left (table_formed y) (list_all table_formed ys) g) _ _
    (sym (append_assoc (table_text k x) (tables_text (k + 1) xs) (105 ∷ r)) ∙ (e ∙ append_assoc (table_text k y) (tables_text (k + 1) ys) (105 ∷ s))) in
    let rest = tables_agree (k + 1) xs ys (and_right (table_formed x) (list_all table_formed xs) h) (and_right (table_formed y) (list_all table_formed ys) g) r s one.1 in
    (ap (λ z. z ∷ xs) one.0 ∙ ap (λ z. y ∷ z) rest.0, rest.1)

-- ---- a step

-- what doesn't begin as the line of a variable
abbrev NoVariable : List ℕ → Type 0
NoVariable r = (u : List ℕ) → r ≡ 105 ∷ 54 ∷ u → ⊥

vars_agree : (n m k : ℕ) (r s : List ℕ) → NoVariable r → NoVariable s → vars_text k n ++ r ≡ vars_text k m ++ s → (n ≡ m) × (r ≡ s)
vars_agree zero zero k r s h g e = (refl, e)
vars_agree zero (suc m) k r s h g e = absurd (h _ e)
vars_agree (suc n) zero k r s h g e = absurd (g _ (sym e))
vars_agree (suc n) (suc m) k r s h g e =
    let rest = vars_agree n m (k + 1) r s h g (same_front (var_line k) _ _ (sym (append_assoc (var_line k) (vars_text (k + 1) n) r) ∙ (e ∙ append_assoc (var_line k) (vars_text (k + 1) m) s))) in
    (ap (λ z. suc z) rest.0, rest.1)

no_variable : (body : Stmts) (r : List ℕ) → NoVariable (stmts_text body ++ (125 ∷ r))
no_variable no_stmts r u e = clash 125 105 _ _ (λ q. omega (arith, q)) e
no_variable (stmt_and x xs) r u e = not_variable x (stmts_text xs ++ (125 ∷ r)) u (sym (append_assoc (stmt_text x) (stmts_text xs) (125 ∷ r)) ∙ e)

abbrev after_name : Step → List ℕ → List ℕ
after_name s r = codes "(void) {\n" ++ (vars_text 0 s.vars ++ (stmts_text s.body ++ (125 ∷ 10 ∷ r)))

name_before : (level worker : ℕ) (r : List ℕ) → step_name level worker ++ r ≡ codes "step_" ++ (decimal level ++ (95 ∷ (decimal worker ++ r)))
name_before level worker r =
    joined (codes "step_" ++ decimal level) ((codes "_" ++ decimal worker) ∷ []) r ∙ append_assoc (codes "step_") (decimal level) (95 ∷ (decimal worker ++ r))

text_of_step : (level worker : ℕ) (s : Step) (r : List ℕ) → step_text level worker s ++ r ≡ codes "void step_" ++ (decimal level ++ (95 ∷ (decimal worker ++ after_name s r)))
text_of_step level worker s r =
    joined (codes "void ") (step_name level worker ∷ codes "(void) {\n" ∷ vars_text 0 s.vars ∷ stmts_text s.body ∷ codes "}\n" ∷ []) r
    ∙ ap (λ z. codes "void " ++ z) (name_before level worker (after_name s r))

test_true : (k w : ℕ) → (k + 1 == w) ≡ true → k + 1 ≡ w
test_true k w h = grind (arith, h)

test_false : (k w : ℕ) → (k + 1 == w) ≡ false → k + 1 ≡ w → ⊥
test_false k w h e = grind (arith, h, e)

-- the worker whose turn it is after some steps
abbrev turn : ℕ → ℕ → List Step → ℕ
turn w k [] = k
turn w k (x ∷ xs) = if k + 1 == w then turn w 0 xs else turn w (k + 1) xs

-- what comes after the last step
abbrev end : List ℕ → List ℕ
end r = codes "void r" ++ r

module _ (m1 m2 : ℕ) (hm1 : m1 < 2 ^ 32) (hm2 : m2 < 2 ^ 32) where
  step_agree : (level worker : ℕ) (x y : Step) → step_formed m1 x ≡ true → step_formed m2 y ≡ true → (r s : List ℕ) → step_text level worker x ++ r ≡ step_text level worker y ++ s → (x ≡ y) × (r ≡ s)
  step_agree level worker x y h g r s e =
      let f = three (nat_lt x.vars (2 ^ 32)) (stmts_formed x.vars m1 x.body) (nat_le (stmts_depth x.body) max_depth) h in
      let i = three (nat_lt y.vars (2 ^ 32)) (stmts_formed y.vars m2 y.body) (nat_le (stmts_depth y.body) max_depth) g in
      let after_level = same_front (decimal level) _ _ (same_front (codes "void step_") _ _ (sym (text_of_step level worker x r) ∙ (e ∙ text_of_step level worker y s))) in
      let after_worker = same_front (decimal worker) (after_name x r) (after_name y s) (rest_of after_level) in
      let vars = vars_agree x.vars y.vars 0 (stmts_text x.body ++ (125 ∷ 10 ∷ r)) (stmts_text y.body ++ (125 ∷ 10 ∷ s)) (no_variable x.body (10 ∷ r)) (no_variable y.body (10 ∷ s)) (same_front (codes "(void) {\n") _ _ after_worker) in
      let body = stmts_one x.vars m1 y.vars m2 (lt_true x.vars (2 ^ 32) f.0) hm1 (lt_true y.vars (2 ^ 32) i.0) hm2 x.body y.body f.1 i.1 (10 ∷ r) (10 ∷ s) vars.1 in
      (ap (λ z. record { vars = z; body = x.body }) vars.0 ∙ ap (λ z. record { vars = y.vars; body = z }) body.0, rest_of body.1)

  -- ---- the steps

  -- the text of the steps after one
  abbrev later : ℕ → ℕ → ℕ → List Step → Bool → List ℕ
  later w l k xs last = if last then steps_text w (l + 1) 0 xs else steps_text w l (k + 1) xs

  one_step : (w l k : ℕ) (x : Step) (xs : List Step) (r : List ℕ) → steps_text w l k (x ∷ xs) ++ end r ≡ step_text l k x ++ (later w l k xs (k + 1 == w) ++ end r)
  one_step w l k x xs r = append_assoc (step_text l k x) (later w l k xs (k + 1 == w)) (end r)

  no_step : (w l k : ℕ) (x : Step) (xs : List Step) (r s : List ℕ) → end r ≡ steps_text w l k (x ∷ xs) ++ end s → ⊥
  no_step w l k x xs r s e =
      clash 114 115 _ _ (λ q. omega (arith, q)) (same_front (codes "void ") _ _ (e ∙ (one_step w l k x xs s ∙ text_of_step l k x (later w l k xs (k + 1 == w) ++ end s))))

  -- a level that ends in one program ends in the other
  no_mismatch : (xs ys : List Step) (w v l k : ℕ) (r s : List ℕ) → l + 1 < 2 ^ 64 → turn v (k + 1) ys ≡ 0 → steps_text w (l + 1) 0 xs ++ end r ≡ steps_text v l (k + 1) ys ++ end s → ⊥
  no_mismatch [] [] w v l k r s small t e = omega (arith, t)
  no_mismatch [] (y ∷ ys) w v l k r s small t e = no_step v l (k + 1) y ys r s e
  no_mismatch (x ∷ xs) [] w v l k r s small t e = no_step w (l + 1) 0 x xs s r (sym e)
  no_mismatch (x ∷ xs) (y ∷ ys) w v l k r s small t e =
      let a = sym (one_step w (l + 1) 0 x xs r ∙ text_of_step (l + 1) 0 x (later w (l + 1) 0 xs (0 + 1 == w) ++ end r)) in
      let b = one_step v l (k + 1) y ys s ∙ text_of_step l (k + 1) y (later v l (k + 1) ys (k + 1 + 1 == v) ++ end s) in
      let names = decimal_one (l + 1) l 95 95 _ _ small (omega (arith, small)) refl refl (same_front (codes "void step_") _ _ (a ∙ (e ∙ b))) in
      omega (arith, names.0)

  -- the two programs' steps from a level and a worker on
  abbrev StepsAgree : List Step → List Step → ℕ → ℕ → Type 0
  StepsAgree xs ys w v = (xs ≡ ys) × (0 < length xs → w ≡ v)

  last_same : (k w v : ℕ) → k + 1 ≡ w → k + 1 ≡ v → w ≡ v
  last_same k w v h g = sym h ∙ g

  not_empty : (xs : List Step) (w v k : ℕ) → turn w (k + 1) xs ≡ 0 → (0 < length xs → w ≡ v) → w ≡ v
  not_empty [] w v k t h = absurd (omega (arith, t))
  not_empty (x ∷ xs) w v k t h = h (omega arith)

  -- after one step of each, where the rest is done by `again`
  by_tests : (xs ys : List Step) (w v l k : ℕ) (r s : List ℕ)
      → ((l k : ℕ) → l + length xs < 2 ^ 64 → l + length ys < 2 ^ 64 → turn w k xs ≡ 0 → turn v k ys ≡ 0 → steps_text w l k xs ++ end r ≡ steps_text v l k ys ++ end s → StepsAgree xs ys w v)
      → (p q : Bool) → (k + 1 == w) ≡ p → (k + 1 == v) ≡ q → l + 1 + length xs < 2 ^ 64 → l + 1 + length ys < 2 ^ 64
      → (if p then turn w 0 xs else turn w (k + 1) xs) ≡ 0 → (if q then turn v 0 ys else turn v (k + 1) ys) ≡ 0 → later w l k xs p ++ end r ≡ later v l k ys q ++ end s → (xs ≡ ys) × (w ≡ v)
  by_tests xs ys w v l k r s again true true hp hq a b t u e =
      let rest = again (l + 1) 0 a b t u e in (rest.0, last_same k w v (test_true k w hp) (test_true k v hq))
  by_tests xs ys w v l k r s again false false hp hq a b t u e =
      let rest = again l (k + 1) (omega (arith, a)) (omega (arith, b)) t u e in (rest.0, not_empty xs w v k t rest.1)
  by_tests xs ys w v l k r s again true false hp hq a b t u e = absurd (no_mismatch xs ys w v l k r s (omega (arith, a)) u e)
  by_tests xs ys w v l k r s again false true hp hq a b t u e = absurd (no_mismatch ys xs v w l k s r (omega (arith, b)) t (sym e))

  steps_agree : (xs ys : List Step) (w v l k : ℕ) (r s : List ℕ) → list_all (step_formed m1) xs ≡ true → list_all (step_formed m2) ys ≡ true → l + length xs < 2 ^ 64 → l + length ys < 2 ^ 64
      → turn w k xs ≡ 0 → turn v k ys ≡ 0 → steps_text w l k xs ++ end r ≡ steps_text v l k ys ++ end s → StepsAgree xs ys w v
  steps_agree [] [] w v l k r s h g a b t u e = (refl, λ n. absurd (omega (arith, n)))
  steps_agree [] (y ∷ ys) w v l k r s h g a b t u e = absurd (no_step v l k y ys r s e)
  steps_agree (x ∷ xs) [] w v l k r s h g a b t u e = absurd (no_step w l k x xs s r (sym e))
  steps_agree (x ∷ xs) (y ∷ ys) w v l k r s h g a b t u e =
      let one = step_agree l k x y (and_left (step_formed m1 x) (list_all (step_formed m1) xs) h) (and_left (step_formed m2 y) (list_all (step_formed m2) ys) g) _ _ (sym (one_step w l k x xs r) ∙ (e ∙ one_step v l k y ys s)) in
      let rest = by_tests xs ys w v l k r s
      (λ l k. steps_agree xs ys w v l k r s (and_right (step_formed m1 x) (list_all (step_formed m1) xs) h) (and_right (step_formed m2 y) (list_all (step_formed m2) ys) g))
      (k + 1 == w) (k + 1 == v) refl refl (omega (arith, a)) (omega (arith, b)) t u one.1 in
      (ap (λ z. z ∷ xs) one.0 ∙ ap (λ z. y ∷ z) rest.0, λ n. rest.1)

-- ---- the whole

small_multiple : (n k w : ℕ) → k < w → k ≡ n * w → k ≡ 0
small_multiple zero k w h e = omega (arith, e)
small_multiple (suc n) k w h e = let wide : suc n * w ≡ n * w + w = suc-mul n w in omega (arith, h, e, wide)

-- whole levels leave the turn to the first worker
turn_by : (xs : List Step) (k w : ℕ) → k < w → ((n k : ℕ) → k < w → k + length xs ≡ n * w → turn w k xs ≡ 0)
    → (t : Bool) → (k + 1 == w) ≡ t → (n : ℕ) → k + 1 + length xs ≡ n * w → (if t then turn w 0 xs else turn w (k + 1) xs) ≡ 0
turn_by xs k w h again true same zero e = absurd (omega (arith, e))
turn_by xs k w h again true same (suc n) e =
    let last = test_true k w same in let wide : suc n * w ≡ n * w + w = suc-mul n w in again n 0 (omega (arith, h)) (omega (arith, e, wide, last))
turn_by xs k w h again false same n e = let more = test_false k w same in again n (k + 1) (omega (arith, h, more)) (omega (arith, e))

turn_ends : (xs : List Step) (n k w : ℕ) → k < w → k + length xs ≡ n * w → turn w k xs ≡ 0
turn_ends [] n k w h e = small_multiple n k w h (omega (arith, e))
turn_ends (x ∷ xs) n k w h e = turn_by xs k w h (λ n k. turn_ends xs n k w) (k + 1 == w) refl n (omega (arith, e))

positive : (a b : ℕ) → 0 < a → 0 < b → 0 < a * b
positive a b h g = let more = mul-lt 0 0 a b h g in omega (arith, more)

same_factor : (a b w : ℕ) → 0 < w → a * w ≡ b * w → a ≡ b
same_factor a b w h e = sym (mul-div_cancel_left a h) ∙ (ap (λ z. z / w) (mul_comm w a ∙ (e ∙ mul_comm b w)) ∙ mul-div_cancel_left b h)

made : List (List ℤ) → ℕ → ℕ → ℕ → List Step → Program
made t a c f x = record { tables = t; cells = a; levels = c; workers = f; steps = x }

made_same : (t u : List (List ℤ)) (a b c d f g : ℕ) (x y : List Step) → t ≡ u → a ≡ b → c ≡ d → f ≡ g → x ≡ y → made t a c f x ≡ made u b d g y
made_same t u a b c d f g x y h i j k l = cc

arrays_before : (cells : ℕ) (r : List ℕ) → arrays_text cells ++ r ≡ codes "i64 V[" ++ (decimal cells ++ (codes "];\ni64 F[" ++ (decimal cells ++ (93 ∷ 59 ∷ 10 ∷ r))))
arrays_before cells r =
    joined (codes "i64 V[" ++ decimal cells) ((codes "];\ni64 F[" ++ decimal cells) ∷ codes "];\n" ∷ []) r
    ∙ append_assoc (codes "i64 V[") (decimal cells) ((codes "];\ni64 F[" ++ decimal cells) ++ (93 ∷ 59 ∷ 10 ∷ r))

abbrev after_steps : Program → List ℕ
after_steps p = codes "un(void) {\n" ++ (calls_text p.workers 0 0 p.steps ++ (codes "}\n" ++ []))

abbrev after_tables : Program → List ℕ
after_tables p = codes "64 V[" ++ (decimal p.cells ++ (codes "];\ni64 F[" ++ (decimal p.cells ++ (93 ∷ 59 ∷ 10 ∷ (steps_text p.workers 0 0 p.steps ++ end (after_steps p))))))

abbrev header : List ℕ
header = codes "/* AOL-C/1 */\ntypedef long long i64;\n"

text_of_program : (p : Program) → program_text p ++ [] ≡ header ++ (tables_text 0 p.tables ++ (105 ∷ after_tables p))
text_of_program p =
    joined header (tables_text 0 p.tables ∷ arrays_text p.cells ∷ steps_text p.workers 0 0 p.steps ∷ codes "void run(void) {\n" ∷ calls_text p.workers 0 0 p.steps ∷ codes "}\n" ∷ []) []
    ∙ ap (λ z. header ++ (tables_text 0 p.tables ++ z)) (arrays_before p.cells (steps_text p.workers 0 0 p.steps ++ end (after_steps p)))

few_steps : (p : Program) → IsWellFormed p → length p.steps < 2 ^ 64
few_steps p h = let fits = mul-lt p.levels p.workers (2 ^ 32) (2 ^ 32) h.levels_fit h.workers_fit in omega (arith, fits, h.count)

programs_agree : (p q : Program) → IsWellFormed p → IsWellFormed q → program_text p ≡ program_text q → p ≡ q
unfolding made
programs_agree p q h g e =
    let whole : program_text p ++ [] ≡ program_text q ++ [] = ap (λ t. t ++ []) e in
    let lines = same_front header _ _ (sym (text_of_program p) ∙ (whole ∙ text_of_program q)) in
    let tables = tables_agree 0 p.tables q.tables h.tables g.tables (after_tables p) (after_tables q) lines in
    let small_p = h.cells_fit in let small_q = g.cells_fit in
    let cells = decimal_one p.cells q.cells 93 93 _ _ (omega (arith, small_p)) (omega (arith, small_q)) refl refl (same_front (codes "64 V[") _ _ tables.1) in
    let again = decimal_one p.cells q.cells 93 93 _ _ (omega (arith, small_p)) (omega (arith, small_q)) refl refl (same_front (codes "];\ni64 F[") _ _ cells.1) in
    let count_p = h.count in let count_q = g.count in
    let few_p = few_steps p h in let few_q = few_steps q g in
    let steps = steps_agree (length p.tables) (length q.tables) h.tables_fit g.tables_fit p.steps q.steps p.workers q.workers 0 0 (after_steps p) (after_steps q) h.steps g.steps (omega (arith, few_p)) (omega (arith, few_q))
    (turn_ends p.steps p.levels 0 p.workers h.some_worker (omega (arith, count_p))) (turn_ends q.steps q.levels 0 q.workers g.some_worker (omega (arith, count_q))) (same_front (93 ∷ 59 ∷ 10 ∷ []) _ _ again.1) in
    let some = positive p.levels p.workers h.some_level h.some_worker in
    let workers = steps.1 (omega (arith, some, h.count)) in
    let many : p.levels * p.workers ≡ q.levels * p.workers = sym h.count ∙ (ap length steps.0 ∙ (g.count ∙ ap (λ z. q.levels * z) (sym workers))) in
    let levels = same_factor p.levels q.levels p.workers h.some_worker many in
    made_same p.tables q.tables p.cells q.cells p.levels q.levels p.workers q.workers p.steps q.steps tables.0 cells.0 levels workers steps.0

pub one_program : OneProgram
one_program p q h g e = programs_agree p q h g e
