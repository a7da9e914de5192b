-- The text of a statement says which one it is, and where it ends.
use Rattle.std.specs.Prelude.{◌≡◌, ℕ, ◌^◌, ◌<◌, Bool, true, false, ◌&&◌, not, nat_lt, int_le, List, [], ◌∷◌, ◌++◌, codes, decimal, ℤ}
use Rattle.std.proofs.Common.{sym, refl, ap, arith, ◌∙◌, append_assoc}
use Rattle.aol_shape.specs.Numbers.{fits_64}
use Rattle.aol_csyn.specs.Tree.{Expr, Stmt, set_var, put_v, put_f, if_else, for_each, Stmts, no_stmts, stmt_and}
use Rattle.aol_csyn.specs.Form.{expr_formed, any_sets, stmt_formed, stmts_formed}
use Rattle.aol_csyn.specs.Text.{number_text, indexed, expr_text, assigned, for_line, stmt_text, stmts_text}
use Rattle.aol_csyn.proofs.Joined.{joined}
use Rattle.aol_csyn.proofs.Numbers.{is_digit, decimal_one, number_one, same_front}
use Rattle.aol_csyn.proofs.Expressions.{and_left, and_right, lt_true, rest_of, heads, expr_one}

-- ---- the texts, before something

assigned_before : (x : Expr) (r : List ℕ) → assigned x ++ r ≡ 32 ∷ 61 ∷ 32 ∷ (expr_text x ++ (59 ∷ 10 ∷ r))
assigned_before x r = joined (codes " = ") (expr_text x ∷ codes ";\n" ∷ []) r

indexed_before : (i r : List ℕ) → indexed i ++ r ≡ 91 ∷ (i ++ (93 ∷ r))
indexed_before i r = joined (codes "[") (i ∷ codes "]" ∷ []) r

pub text_set : (k : ℕ) (x : Expr) (r : List ℕ) → stmt_text (set_var k x) ++ r ≡ 97 ∷ (decimal k ++ (32 ∷ 61 ∷ 32 ∷ (expr_text x ++ (59 ∷ 10 ∷ r))))
text_set k x r = append_assoc (codes "a" ++ decimal k) (assigned x) r ∙ ap (λ z. 97 ∷ (decimal k ++ z)) (assigned_before x r)

entry_before : (array : List ℕ) (at x : Expr) (r : List ℕ) → ((array ++ indexed (expr_text at)) ++ assigned x) ++ r ≡ array ++ (91 ∷ (expr_text at ++ (93 ∷ 32 ∷ 61 ∷ 32 ∷ (expr_text x ++ (59 ∷ 10 ∷ r)))))
entry_before array at x r =
    joined array (indexed (expr_text at) ∷ assigned x ∷ []) r
    ∙ ap (λ z. array ++ (indexed (expr_text at) ++ z)) (assigned_before x r)
    ∙ ap (λ z. array ++ z) (indexed_before (expr_text at) (32 ∷ 61 ∷ 32 ∷ (expr_text x ++ (59 ∷ 10 ∷ r))))

pub text_put_v : (at x : Expr) (r : List ℕ) → stmt_text (put_v at x) ++ r ≡ 86 ∷ 91 ∷ (expr_text at ++ (93 ∷ 32 ∷ 61 ∷ 32 ∷ (expr_text x ++ (59 ∷ 10 ∷ r))))
text_put_v at x r = entry_before (codes "V") at x r

pub text_put_f : (at x : Expr) (r : List ℕ) → stmt_text (put_f at x) ++ r ≡ 70 ∷ 91 ∷ (expr_text at ++ (93 ∷ 32 ∷ 61 ∷ 32 ∷ (expr_text x ++ (59 ∷ 10 ∷ r))))
text_put_f at x r = entry_before (codes "F") at x r

pub text_if : (x : Expr) (a b : Stmts) (r : List ℕ) → stmt_text (if_else x a b) ++ r
    ≡ 105 ∷ 102 ∷ 32 ∷ 40 ∷ (expr_text x ++ (41 ∷ 32 ∷ 123 ∷ 10 ∷ (stmts_text a ++ (125 ∷ 32 ∷ 101 ∷ 108 ∷ 115 ∷ 101 ∷ 32 ∷ 123 ∷ 10 ∷ (stmts_text b ++ (125 ∷ 10 ∷ r))))))
text_if x a b r = joined (codes "if (") (expr_text x ∷ codes ") {\n" ∷ stmts_text a ∷ codes "} else {\n" ∷ stmts_text b ∷ codes "}\n" ∷ []) r

for_before : (k a b r : List ℕ) → ((codes "for (a" ++ k) ++ (codes " = " ++ a) ++ (codes "; a" ++ k) ++ (codes " < " ++ b) ++ (codes "; a" ++ k) ++ (codes " = a" ++ k) ++ codes " + 1LL) {\n") ++ r
    ≡ 102 ∷ 111 ∷ 114 ∷ 32 ∷ 40 ∷ 97 ∷ (k ++ (32 ∷ 61 ∷ 32 ∷ (a ++ (59 ∷ 32 ∷ 97 ∷ (k ++ (32 ∷ 60 ∷ 32 ∷ (b ++ (59 ∷ 32 ∷ 97 ∷ (k ++ (32 ∷ 61 ∷ 32 ∷ 97 ∷ (k ++ (32 ∷ 43 ∷ 32 ∷ 49 ∷ 76 ∷ 76 ∷ 41 ∷ 32 ∷ 123 ∷ 10 ∷ r))))))))))))
for_before k a b r =
    joined (codes "for (a" ++ k) ((codes " = " ++ a) ∷ (codes "; a" ++ k) ∷ (codes " < " ++ b) ∷ (codes "; a" ++ k) ∷ (codes " = a" ++ k) ∷ codes " + 1LL) {\n" ∷ []) r
    ∙ simp (append_assoc) refl

pub text_for : (k : ℕ) (a b : ℤ) (body : Stmts) (r : List ℕ) → stmt_text (for_each k a b body) ++ r
    ≡ 102 ∷ 111 ∷ 114 ∷ 32 ∷ 40 ∷ 97 ∷ (decimal k ++ (32 ∷ 61 ∷ 32 ∷ (number_text a ++ (59 ∷ 32 ∷ 97 ∷ (decimal k ++ (32 ∷ 60 ∷ 32 ∷ (number_text b ++ (59 ∷ 32 ∷ 97 ∷ (decimal k ++ (32 ∷ 61 ∷ 32 ∷ 97 ∷ (decimal k ++ (32 ∷ 43 ∷ 32 ∷ 49 ∷ 76 ∷ 76 ∷ 41 ∷ 32 ∷ 123 ∷ 10 ∷ (stmts_text body ++ (125 ∷ 10 ∷ r))))))))))))))
text_for k a b body r = joined (for_line k a b) (stmts_text body ∷ codes "}\n" ∷ []) r ∙ for_before (decimal k) (number_text a) (number_text b) (stmts_text body ++ (125 ∷ 10 ∷ r))

-- ---- what is asked of a well formed statement

pub three : (a b c : Bool) → a && b && c ≡ true → (a ≡ true) × (b ≡ true) × (c ≡ true)
three false b c h = absurd (cc)
three true false c h = absurd (cc)
three true true false h = absurd (cc)
three true true true h = (refl, refl, refl)

six : (a b c d e f : Bool) → a && b && c && d && e && f ≡ true → (a ≡ true) × (b ≡ true) × (c ≡ true) × (f ≡ true)
six false b c d e f h = absurd (cc)
six true false c d e f h = absurd (cc)
six true true false d e f h = absurd (cc)
six true true true false e f h = absurd (cc)
six true true true true false f h = absurd (cc)
six true true true true true false h = absurd (cc)
six true true true true true true h = (refl, refl, refl, refl)

module _ (vars tables : ℕ) where
  formed_for : (k : ℕ) (a b : ℤ) (body : Stmts) → stmt_formed vars tables (for_each k a b body) ≡ true → (k < vars) × (fits_64 a ≡ true) × (fits_64 b ≡ true) × (stmts_formed vars tables body ≡ true)
  formed_for k a b body h =
      let all = six (nat_lt k vars) (fits_64 a) (fits_64 b) (int_le a b) (not (any_sets k body)) (stmts_formed vars tables body) h in
      (lt_true k vars all.0, all.1, all.2, all.3)

-- ---- first bytes

first : List ℕ → ℕ
first [] = 0
first (b ∷ t) = b

-- the first byte of a statement
abbrev first_of : Stmt → ℕ
first_of (set_var k x) = 97
first_of (put_v at x) = 86
first_of (put_f at x) = 70
first_of (if_else x a b) = 105
first_of (for_each k a b body) = 102

first_is : (x : Stmt) (r : List ℕ) → first (stmt_text x ++ r) ≡ first_of x
unfolding first
first_is (set_var k x) r = ap first (text_set k x r)
first_is (put_v at x) r = ap first (text_put_v at x r)
first_is (put_f at x) r = ap first (text_put_f at x r)
first_is (if_else x a b) r = ap first (text_if x a b r)
first_is (for_each k a b body) r = ap first (text_for k a b body r)

first_125 : (s : List ℕ) → first (125 ∷ s) ≡ 125
unfolding first
first_125 s = refl

first_105 : (s : List ℕ) → first (105 ∷ s) ≡ 105
unfolding first
first_105 s = refl

-- no statement begins as the end of a block does
not_end : (x : Stmt) (r s : List ℕ) → stmt_text x ++ r ≡ 125 ∷ s → ⊥
not_end x r s e = last x (sym (first_is x r) ∙ (ap first e ∙ first_125 s))
  where
    last : (x : Stmt) → first_of x ≡ 125 → ⊥
    last (set_var k x) q = omega (arith, q)
    last (put_v at x) q = omega (arith, q)
    last (put_f at x) q = omega (arith, q)
    last (if_else x a b) q = omega (arith, q)
    last (for_each k a b body) q = omega (arith, q)

-- a statement that begins with an i is no line of a variable
not_variable_by : (x : Stmt) (r s : List ℕ) → first_of x ≡ 105 → stmt_text x ++ r ≡ 105 ∷ 54 ∷ s → ⊥
not_variable_by (set_var k x) r s q e = omega (arith, q)
not_variable_by (put_v at x) r s q e = omega (arith, q)
not_variable_by (put_f at x) r s q e = omega (arith, q)
not_variable_by (if_else x a b) r s q e = omega (arith, heads (rest_of (sym (text_if x a b r) ∙ e)))
not_variable_by (for_each k a b body) r s q e = omega (arith, q)

pub not_variable : (x : Stmt) (r s : List ℕ) → stmt_text x ++ r ≡ 105 ∷ 54 ∷ s → ⊥
not_variable x r s e = not_variable_by x r s (sym (first_is x r) ∙ (ap first e ∙ first_105 (54 ∷ s))) e

-- ---- one text, one statement

module _ (v1 m1 v2 m2 : ℕ) (hv1 : v1 < 2 ^ 32) (hm1 : m1 < 2 ^ 32) (hv2 : v2 < 2 ^ 32) (hm2 : m2 < 2 ^ 32) where
  abbrev Agree : Stmt → Stmt → Type 0
  Agree x y = stmt_formed v1 m1 x ≡ true → stmt_formed v2 m2 y ≡ true → (r s : List ℕ) → stmt_text x ++ r ≡ stmt_text y ++ s → (x ≡ y) × (r ≡ s)

  -- up to the end of the block
  abbrev AgreeAll : Stmts → Stmts → Type 0
  AgreeAll xs ys = stmts_formed v1 m1 xs ≡ true → stmts_formed v2 m2 ys ≡ true → (r s : List ℕ) → stmts_text xs ++ (125 ∷ r) ≡ stmts_text ys ++ (125 ∷ s) → (xs ≡ ys) × (r ≡ s)

  apart : (x y : Stmt) → (first_of x ≡ first_of y → ⊥) → Agree x y
  apart x y differ h g r s e = absurd (differ (sym (first_is x r) ∙ (ap first e ∙ first_is y s)))

  expr_same : (x y : Expr) → expr_formed v1 m1 x ≡ true → expr_formed v2 m2 y ≡ true → (c : ℕ) (r s : List ℕ) → is_digit c ≡ false → expr_text x ++ (c ∷ r) ≡ expr_text y ++ (c ∷ s) → (x ≡ y) × (r ≡ s)
  expr_same x y h k c r s hc e = let both = expr_one v1 m1 v2 m2 hv1 hm1 hv2 hm2 x y h k c c r s hc hc e in (both.0, rest_of both.1)

  name_same : (j k : ℕ) → j < v1 → k < v2 → (r s : List ℕ) → decimal j ++ (32 ∷ r) ≡ decimal k ++ (32 ∷ s) → (j ≡ k) × (r ≡ s)
  name_same j k h g r s e = let both = decimal_one j k 32 32 r s (omega (arith, h, hv1)) (omega (arith, g, hv2)) refl refl e in (both.0, rest_of both.1)

  agree_set : (j k : ℕ) (x y : Expr) → Agree (set_var j x) (set_var k y)
  agree_set j k x y h g r s e =
      let a = lt_true j v1 (and_left (nat_lt j v1) (expr_formed v1 m1 x) h) in let b = lt_true k v2 (and_left (nat_lt k v2) (expr_formed v2 m2 y) g) in
      let name = name_same j k a b (61 ∷ 32 ∷ (expr_text x ++ (59 ∷ 10 ∷ r))) (61 ∷ 32 ∷ (expr_text y ++ (59 ∷ 10 ∷ s))) (rest_of (sym (text_set j x r) ∙ (e ∙ text_set k y s))) in
      let value = expr_same x y (and_right (nat_lt j v1) (expr_formed v1 m1 x) h) (and_right (nat_lt k v2) (expr_formed v2 m2 y) g) 59 (10 ∷ r) (10 ∷ s) refl (rest_of (rest_of name.1)) in
      (ap (λ z. set_var z x) name.0 ∙ ap (λ z. set_var k z) value.0, rest_of value.1)

  -- an entry of an array takes a value
  entry_same : (i j x y : Expr) → expr_formed v1 m1 i && expr_formed v1 m1 x ≡ true → expr_formed v2 m2 j && expr_formed v2 m2 y ≡ true → (r s : List ℕ)
      → expr_text i ++ (93 ∷ 32 ∷ 61 ∷ 32 ∷ (expr_text x ++ (59 ∷ 10 ∷ r))) ≡ expr_text j ++ (93 ∷ 32 ∷ 61 ∷ 32 ∷ (expr_text y ++ (59 ∷ 10 ∷ s))) → (i ≡ j) × (x ≡ y) × (r ≡ s)
  entry_same i j x y h g r s e =
      let at = expr_same i j (and_left (expr_formed v1 m1 i) (expr_formed v1 m1 x) h) (and_left (expr_formed v2 m2 j) (expr_formed v2 m2 y) g) 93 (32 ∷ 61 ∷ 32 ∷ (expr_text x ++ (59 ∷ 10 ∷ r))) (32 ∷ 61 ∷ 32 ∷ (expr_text y ++ (59 ∷ 10 ∷ s))) refl e in
      let value = expr_same x y (and_right (expr_formed v1 m1 i) (expr_formed v1 m1 x) h) (and_right (expr_formed v2 m2 j) (expr_formed v2 m2 y) g) 59 (10 ∷ r) (10 ∷ s) refl (rest_of (rest_of (rest_of at.1))) in
      (at.0, value.0, rest_of value.1)

  agree_put_v : (i j x y : Expr) → Agree (put_v i x) (put_v j y)
  agree_put_v i j x y h g r s e =
      let all = entry_same i j x y h g r s (rest_of (rest_of (sym (text_put_v i x r) ∙ (e ∙ text_put_v j y s)))) in
      (ap (λ z. put_v z x) all.0 ∙ ap (λ z. put_v j z) all.1, all.2)

  agree_put_f : (i j x y : Expr) → Agree (put_f i x) (put_f j y)
  agree_put_f i j x y h g r s e =
      let all = entry_same i j x y h g r s (rest_of (rest_of (sym (text_put_f i x r) ∙ (e ∙ text_put_f j y s)))) in
      (ap (λ z. put_f z x) all.0 ∙ ap (λ z. put_f j z) all.1, all.2)

  agree_if : (x y : Expr) (a b c d : Stmts) → AgreeAll a c → AgreeAll b d → Agree (if_else x a b) (if_else y c d)
  agree_if x y a b c d again_a again_b h g r s e =
      let f = three (expr_formed v1 m1 x) (stmts_formed v1 m1 a) (stmts_formed v1 m1 b) h in let i = three (expr_formed v2 m2 y) (stmts_formed v2 m2 c) (stmts_formed v2 m2 d) g in
      let test = expr_same x y f.0 i.0 41 (32 ∷ 123 ∷ 10 ∷ (stmts_text a ++ (125 ∷ 32 ∷ 101 ∷ 108 ∷ 115 ∷ 101 ∷ 32 ∷ 123 ∷ 10 ∷ (stmts_text b ++ (125 ∷ 10 ∷ r))))) (32 ∷ 123 ∷ 10 ∷ (stmts_text c ++ (125 ∷ 32 ∷ 101 ∷ 108 ∷ 115 ∷ 101 ∷ 32 ∷ 123 ∷ 10 ∷ (stmts_text d ++ (125 ∷ 10 ∷ s))))) refl
      (same_front (105 ∷ 102 ∷ 32 ∷ 40 ∷ []) _ _ (sym (text_if x a b r) ∙ (e ∙ text_if y c d s))) in
      let one = again_a f.1 i.1 (32 ∷ 101 ∷ 108 ∷ 115 ∷ 101 ∷ 32 ∷ 123 ∷ 10 ∷ (stmts_text b ++ (125 ∷ 10 ∷ r))) (32 ∷ 101 ∷ 108 ∷ 115 ∷ 101 ∷ 32 ∷ 123 ∷ 10 ∷ (stmts_text d ++ (125 ∷ 10 ∷ s))) (same_front (32 ∷ 123 ∷ 10 ∷ []) _ _ test.1) in
      let two = again_b f.2 i.2 (10 ∷ r) (10 ∷ s) (same_front (32 ∷ 101 ∷ 108 ∷ 115 ∷ 101 ∷ 32 ∷ 123 ∷ 10 ∷ []) _ _ one.1) in
      (ap (λ z. if_else z a b) test.0 ∙ (ap (λ z. if_else y z b) one.0 ∙ ap (λ z. if_else y c z) two.0), rest_of two.1)

  agree_for : (j k : ℕ) (a b c d : ℤ) (xs ys : Stmts) → AgreeAll xs ys → Agree (for_each j a b xs) (for_each k c d ys)
  agree_for j k a b c d xs ys again h g r s e =
      let f = formed_for v1 m1 j a b xs h in let i = formed_for v2 m2 k c d ys g in
      let name = name_same j k f.0 i.0 _ _ (same_front (102 ∷ 111 ∷ 114 ∷ 32 ∷ 40 ∷ 97 ∷ []) _ _ (sym (text_for j a b xs r) ∙ (e ∙ text_for k c d ys s))) in
      let low = number_one a c _ _ f.1 i.1 (same_front (61 ∷ 32 ∷ []) _ _ name.1) in
      let name_two = name_same j k f.0 i.0 _ _ (same_front (59 ∷ 32 ∷ 97 ∷ []) _ _ low.1) in
      let high = number_one b d _ _ f.2 i.2 (same_front (60 ∷ 32 ∷ []) _ _ name_two.1) in
      let name_three = name_same j k f.0 i.0 _ _ (same_front (59 ∷ 32 ∷ 97 ∷ []) _ _ high.1) in
      let name_four = name_same j k f.0 i.0 _ _ (same_front (61 ∷ 32 ∷ 97 ∷ []) _ _ name_three.1) in
      let body = again f.3 i.3 (10 ∷ r) (10 ∷ s) (same_front (43 ∷ 32 ∷ 49 ∷ 76 ∷ 76 ∷ 41 ∷ 32 ∷ 123 ∷ 10 ∷ []) _ _ name_four.1) in
      (ap (λ z. for_each z a b xs) name.0 ∙ (ap (λ z. for_each k z b xs) low.0 ∙ (ap (λ z. for_each k c z xs) high.0 ∙ ap (λ z. for_each k c d z) body.0)), rest_of body.1)

  -- a first statement and the rest
  agree_more : (x y : Stmt) (xs ys : Stmts) → Agree x y → AgreeAll xs ys → AgreeAll (stmt_and x xs) (stmt_and y ys)
  agree_more x y xs ys one all h k r s e =
      let first = one (and_left (stmt_formed v1 m1 x) (stmts_formed v1 m1 xs) h) (and_left (stmt_formed v2 m2 y) (stmts_formed v2 m2 ys) k) (stmts_text xs ++ (125 ∷ r)) (stmts_text ys ++ (125 ∷ s))
      (sym (append_assoc (stmt_text x) (stmts_text xs) (125 ∷ r)) ∙ (e ∙ append_assoc (stmt_text y) (stmts_text ys) (125 ∷ s))) in
      let rest = all (and_right (stmt_formed v1 m1 x) (stmts_formed v1 m1 xs) h) (and_right (stmt_formed v2 m2 y) (stmts_formed v2 m2 ys) k) r s first.1 in
      (ap (λ z. stmt_and z xs) first.0 ∙ ap (λ z. stmt_and y z) rest.0, rest.1)

  mutual
    stmt_one : (x y : Stmt) → Agree x y
    stmt_one (set_var j x) (set_var k y) h g r s e = agree_set j k x y h g r s e
    stmt_one (put_v i x) (put_v j y) h g r s e = agree_put_v i j x y h g r s e
    stmt_one (put_f i x) (put_f j y) h g r s e = agree_put_f i j x y h g r s e
    stmt_one (if_else x a b) (if_else y c d) h g r s e = agree_if x y a b c d (stmts_one a c) (stmts_one b d) h g r s e
    stmt_one (for_each j a b xs) (for_each k c d ys) h g r s e = agree_for j k a b c d xs ys (stmts_one xs ys) h g r s e
    stmt_one (set_var j x) y h g r s e = apart (set_var j x) y (λ q. omega (arith, q)) h g r s e
    stmt_one (put_v i x) y h g r s e = apart (put_v i x) y (λ q. omega (arith, q)) h g r s e
    stmt_one (put_f i x) y h g r s e = apart (put_f i x) y (λ q. omega (arith, q)) h g r s e
    stmt_one (if_else x a b) y h g r s e = apart (if_else x a b) y (λ q. omega (arith, q)) h g r s e
    stmt_one (for_each j a b xs) y h g r s e = apart (for_each j a b xs) y (λ q. omega (arith, q)) h g r s e

    pub stmts_one : (xs ys : Stmts) → AgreeAll xs ys
    stmts_one no_stmts no_stmts h k r s e = (refl, rest_of e)
    stmts_one no_stmts (stmt_and y ys) h k r s e = absurd (not_end y (stmts_text ys ++ (125 ∷ s)) r (sym (append_assoc (stmt_text y) (stmts_text ys) (125 ∷ s)) ∙ sym e))
    stmts_one (stmt_and x xs) no_stmts h k r s e = absurd (not_end x (stmts_text xs ++ (125 ∷ r)) s (sym (append_assoc (stmt_text x) (stmts_text xs) (125 ∷ r)) ∙ e))
    stmts_one (stmt_and x xs) (stmt_and y ys) h k r s e = agree_more x y xs ys (stmt_one x y) (stmts_one xs ys) h k r s e
