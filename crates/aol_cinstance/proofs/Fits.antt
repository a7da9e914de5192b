-- When the statements of an instance are well formed.
use Rattle.std.specs.Prelude.{◌≡◌, ℕ, ◌+◌, ◌<◌, ◌≤◌, ◌^◌, pos, int_le, Bool, true, false, ◌&&◌, ◌||◌, not, ◌==◌, nat_lt, List, [], ◌∷◌, ◌++◌}
use Rattle.std.proofs.Common.{refl, sym, subst, arith, ◌∙◌}
use Rattle.std.proofs.Math.Dec.{leb-zero}
use Rattle.std.proofs.lemmas.Bool.{lt-ltb, eqb-true}
use Rattle.aol_shape.specs.Numbers.{fits_64}
use Rattle.aol_csyn.specs.declared.program.COp.{COp}
use Rattle.aol_csyn.specs.Tree.{Expr, num as number, var as variable, tab, bin as between, Stmt, set_var, put_v, put_f, for_each, stmts}
use Rattle.aol_csyn.specs.Form.{expr_depth, expr_formed, stmts_depth, stmt_formed, stmts_formed, sets, any_sets}
use Rattle.aol_lower.specs.Contract.{AreFormed}
use Rattle.aol_lower.specs.Lowered.{either}

not_equal : (a b : ℕ) → (a ≡ b → ⊥) → (a == b) ≡ false
not_equal a b h = none (a == b) (λ e. h (eqb-true a b e))
  where
    none : (t : Bool) → (t ≡ true → ⊥) → t ≡ false
    none true f = absurd (f refl)
    none false f = refl

pub both_true : (a b : Bool) → a ≡ true → b ≡ true → a && b ≡ true
both_true a b h k = rw (h, k) refl

both_false : (a b : Bool) → a ≡ false → b ≡ false → a || b ≡ false
both_false a b h k = rw (h, k) refl

or_nothing : (a : Bool) → a || false ≡ a
or_nothing true = refl
or_nothing false = refl

and_nothing : (a : Bool) → a && true ≡ a
and_nothing true = refl
and_nothing false = refl

left_true : (a b : Bool) → a && b ≡ true → a ≡ true
left_true true b h = refl
left_true false b h = absurd (cc)

right_true : (a b : Bool) → a && b ≡ true → b ≡ true
right_true true b h = h
right_true false b h = absurd (cc)

left_false : (a b : Bool) → a || b ≡ false → a ≡ false
left_false true b h = absurd (cc)
left_false false b h = refl

right_false : (a b : Bool) → a || b ≡ false → b ≡ false
right_false true b h = absurd (cc)
right_false false b h = h

module _ (vars tables : ℕ) where
  pub var_fits : (k : ℕ) → k < vars → expr_formed vars tables (variable k) ≡ true
  var_fits k h = lt-ltb k vars h

  pub number_fits : (n : ℕ) → n < 2 ^ 63 → expr_formed vars tables (number (pos n)) ≡ true
  number_fits n h = lt-ltb n (2 ^ 63) h

  pub between_fits : (op : COp) (a b : Expr) → expr_formed vars tables a ≡ true → expr_formed vars tables b ≡ true → expr_formed vars tables (between op a b) ≡ true
  between_fits op a b h k = both_true (expr_formed vars tables a) (expr_formed vars tables b) h k

  pub tab_fits : (n : ℕ) (e : Expr) → n < tables → expr_formed vars tables e ≡ true → expr_formed vars tables (tab n e) ≡ true
  tab_fits n e inside h = both_true (nat_lt n tables) (expr_formed vars tables e) (lt-ltb n tables inside) h

  -- they are well formed, go at most so deep, and set no variable of these
  pub record Fit (n : ℕ) (Q : ℕ → Type 0) (body : List Stmt) : Type 0 where
    pub formed : stmts_formed vars tables (stmts body) ≡ true
    pub depth : stmts_depth (stmts body) ≤ n
    pub sets : (k : ℕ) → Q k → any_sets k (stmts body) ≡ false

  module _ (Q : ℕ → Type 0) where
    pub nothing_fits : (n : ℕ) → Fit n Q []
    nothing_fits n = record { formed = refl; depth = omega arith; sets = λ k q. refl }

    pub append_fits : (n : ℕ) (xs ys : List Stmt) → Fit n Q xs → Fit n Q ys → Fit n Q (xs ++ ys)
    append_fits n [] ys h g = g
    append_fits n (x ∷ xs) ys h g =
        let a = stmt_formed vars tables x in let b = stmts_formed vars tables (stmts xs) in
        let deep = h.depth in
        let rest = append_fits n xs ys (record {
          formed = right_true a b h.formed;
          depth = omega (arith, deep);
          sets = λ k q. right_false (sets k x) (any_sets k (stmts xs)) (h.sets k q);
        }) g in
        let low = rest.depth in
        record {
          formed = both_true a (stmts_formed vars tables (stmts (xs ++ ys))) (left_true a b h.formed) rest.formed;
          depth = omega (arith, deep, low);
          sets = λ k q. both_false (sets k x) (any_sets k (stmts (xs ++ ys))) (left_false (sets k x) (any_sets k (stmts xs)) (h.sets k q)) (rest.sets k q);
        }

    pub deeper : (n m : ℕ) (body : List Stmt) → n ≤ m → Fit n Q body → Fit m Q body
    deeper n m body le h = let low = h.depth in record { formed = h.formed; depth = omega (arith, le, low); sets = h.sets }

    pub set_fits : (n k : ℕ) (e : Expr) → k < vars → expr_formed vars tables e ≡ true → expr_depth e < n → (Q k → ⊥) → Fit n Q (set_var k e ∷ [])
    set_fits n k e inside formed low own = record {
      formed = and_nothing (nat_lt k vars && expr_formed vars tables e) ∙ both_true (nat_lt k vars) (expr_formed vars tables e) (lt-ltb k vars inside) formed;
      depth = omega (arith, low);
      sets = λ j q. or_nothing (k == j) ∙ not_equal k j (λ e. own (subst Q (sym e) q));
    }

    pub put_v_fits : (n : ℕ) (at e : Expr) → expr_formed vars tables at ≡ true → expr_formed vars tables e ≡ true → expr_depth at < n → expr_depth e < n → Fit n Q (put_v at e ∷ [])
    put_v_fits n at e h g low less = record {
      formed = and_nothing (expr_formed vars tables at && expr_formed vars tables e) ∙ both_true (expr_formed vars tables at) (expr_formed vars tables e) h g;
      depth = omega (arith, low, less);
      sets = λ j q. refl;
    }

    pub put_f_fits : (n : ℕ) (at e : Expr) → expr_formed vars tables at ≡ true → expr_formed vars tables e ≡ true → expr_depth at < n → expr_depth e < n → Fit n Q (put_f at e ∷ [])
    put_f_fits n at e h g low less = record {
      formed = and_nothing (expr_formed vars tables at && expr_formed vars tables e) ∙ both_true (expr_formed vars tables at) (expr_formed vars tables e) h g;
      depth = omega (arith, low, less);
      sets = λ j q. refl;
    }

    pub either_fits : (n : ℕ) (test : Expr) (first second : List Stmt) → expr_formed vars tables test ≡ true → expr_depth test ≤ n → Fit n Q first → Fit n Q second → Fit (n + 1) Q (either test first second)
    either_fits n test first second formed low h g = record {
      formed = and_nothing (expr_formed vars tables test && stmts_formed vars tables (stmts first) && stmts_formed vars tables (stmts second))
          ∙ both_true (expr_formed vars tables test && stmts_formed vars tables (stmts first)) (stmts_formed vars tables (stmts second))
          (both_true (expr_formed vars tables test) (stmts_formed vars tables (stmts first)) formed h.formed) g.formed;
      depth = let a = h.depth in let b = g.depth in omega (arith, low, a, b);
      sets = λ k q. or_nothing (any_sets k (stmts first) || any_sets k (stmts second)) ∙ both_false (any_sets k (stmts first)) (any_sets k (stmts second)) (h.sets k q) (g.sets k q);
    }

    -- a loop whose body doesn't set its variable
    pub for_fits : (n k m : ℕ) (body : List Stmt) → k < vars → m < 2 ^ 63 → (Q k → ⊥) → any_sets k (stmts body) ≡ false → Fit n Q body → Fit (n + 1) Q (for_each k (pos 0) (pos m) (stmts body) ∷ [])
    for_fits n k m body inside small own free h = record {
      formed = and_nothing (nat_lt k vars && true && fits_64 (pos m) && int_le (pos 0) (pos m) && not (any_sets k (stmts body)) && stmts_formed vars tables (stmts body))
          ∙ rw (lt-ltb k vars inside, lt-ltb m (2 ^ 63) small, leb-zero m, free) h.formed;
      depth = let a = h.depth in omega (arith, a);
      sets = λ j q. or_nothing ((k == j) || any_sets j (stmts body)) ∙ both_false (k == j) (any_sets j (stmts body)) (not_equal k j (λ e. own (subst Q (sym e) q))) (h.sets j q);
    }

    -- statements of an expression, which set none of these variables
    pub lowered_fits : (n d : ℕ) (body : List Stmt) → ((k : ℕ) → Q k → (0 < k) × (k < d)) → AreFormed vars tables n d body → Fit n Q body
    lowered_fits n d body inside h = record { formed = h.formed; depth = h.depth; sets = λ k q. h.sets k (inside k q).0 (inside k q).1 }

  -- fewer variables
  pub fewer : (n : ℕ) (Q R : ℕ → Type 0) (body : List Stmt) → ((k : ℕ) → R k → Q k) → Fit n Q body → Fit n R body
  fewer n Q R body inside h = record { formed = h.formed; depth = h.depth; sets = λ k r. h.sets k (inside k r) }
