-- Expressions: what is written is read, and what is read was written.
use Rattle.std.specs.Prelude.{◌≡◌, ℕ, zero, suc, ◌^◌, ◌<◌, ◌≤◌, nat_lt, ◌==◌, Bool, true, false, ◌&&◌, List, [], ◌∷◌, ◌++◌, length, codes, decimal, ℤ, pos, negsuc, Option, Some, None, option_map, option_and_then, if◌then◌else◌}
use Rattle.std.proofs.Common.{subst, sym, refl, ap, arith, ◌∙◌}
use Rattle.aol_csyn.specs.declared.program.COp.{COp}
use Rattle.aol_csyn.specs.Tree.{Expr, num, var, tab, cell_v, cell_f, bin}
use Rattle.aol_csyn.specs.Form.{expr_depth, expr_formed}
use Rattle.aol_csyn.specs.Text.{number_text, op_text, expr_text}
use Rattle.aol_csyn.proofs.Numbers.{pos_text, bounds, bounds_below, AreDigits, decimal_digits, nonempty}
use Rattle.aol_csyn.proofs.Expressions.{text_tab, text_cell_v, text_cell_f, text_bin}
use Rattle.aol_cread.specs.Bytes.{Read, expect, choose, after, before, between, mapped, is_clear, read_count, read_negative, read_positive, read_op, read_bin, read_expr}
use Rattle.aol_cread.proofs.Formats.{split, split_map, expect_is, expect_sound, Sound, Complete, sound_before, sound_choose, sound_mapped, complete_mapped, sound_between, sound_form, sound_joined}
use Rattle.aol_cread.proofs.Counts.{sound_count, complete_count}
use Rattle.aol_cread.proofs.Values.{counts_onto, number_onto, Fits, sound_positive, complete_positive, sound_negative, complete_negative, first_byte, no_front, sound_op, complete_op, op_clear}

abbrev pub expr_onto : Expr → List ℕ → List ℕ
expr_onto e r = expr_text e ++ r

-- no deeper than this, with names below 2 ^ 32 and numbers of 64 bits
pub record Sized (room : ℕ) (e : Expr) : Type 0 where
  pub formed : expr_formed (2 ^ 32) (2 ^ 32) e ≡ true
  pub depth : expr_depth e ≤ room

abbrev pub Small : ℕ → Type 0
Small n = n < 2 ^ 32

pub both_true : (a b : Bool) → a ≡ true → b ≡ true → (a && b) ≡ true
both_true true b h k = k
both_true false b h k = absurd (cc)

pub left_true : (a b : Bool) → (a && b) ≡ true → a ≡ true
left_true true b h = refl
left_true false b h = absurd (cc)

pub right_true : (a b : Bool) → (a && b) ≡ true → b ≡ true
right_true true b h = h
right_true false b h = absurd (cc)

small_is : (n : ℕ) → n < 2 ^ 32 → nat_lt n (2 ^ 32) ≡ true
small_is n h = grind (arith, h)

is_small : (n : ℕ) → nat_lt n (2 ^ 32) ≡ true → n < 2 ^ 32
is_small n h = grind (arith, h)

module _ (room : ℕ) where
  sized_var : (k : ℕ) → Small k → Sized (suc room) (var k)
  sized_var k h = record { formed = small_is k h; depth = omega arith }

  sized_num : (z : ℤ) → Fits z → Sized (suc room) (num z)
  sized_num z h = record { formed = h; depth = omega arith }

  sized_v : (e : Expr) → Sized room e → Sized (suc room) (cell_v e)
  sized_v e s = let low = s.depth in record { formed = s.formed; depth = omega (arith, low) }

  sized_f : (e : Expr) → Sized room e → Sized (suc room) (cell_f e)
  sized_f e s = let low = s.depth in record { formed = s.formed; depth = omega (arith, low) }

  sized_tab : (p : ℕ × Expr) → Small p.0 × Sized room p.1 → Sized (suc room) (tab p.0 p.1)
  sized_tab p s = let two = s.1 in let low = two.depth in record { formed = both_true (nat_lt p.0 (2 ^ 32)) (expr_formed (2 ^ 32) (2 ^ 32) p.1) (small_is p.0 s.0) two.formed; depth = omega (arith, low) }

  sized_bin : (op : COp) (a b : Expr) → Sized room a → Sized room b → Sized (suc room) (bin op a b)
  sized_bin op a b s t =
      let low = s.depth in let high = t.depth in
      record { formed = both_true (expr_formed (2 ^ 32) (2 ^ 32) a) (expr_formed (2 ^ 32) (2 ^ 32) b) s.formed t.formed; depth = omega (arith, low, high) }

  -- ---- what is read was written

  module _ (own : Sound (read_expr room) expr_onto (Sized room)) where
    closed : (xs : List ℕ) → Sound (before (read_expr room) xs) (λ e r. expr_onto e (xs ++ r)) (Sized room)
    closed xs = sound_before (read_expr room) expr_onto (Sized room) xs own

    bin_spelled : Sound (after (codes "(") (read_bin (read_expr room))) expr_onto (Sized (suc room))
    bin_spelled t e r h =
        let s = split (read_bin (read_expr room)) (expect (codes "(") t) (e, r) h in
        let first = split (λ (p : Expr × List ℕ). option_and_then (λ (q : COp × List ℕ). mapped (bin q.0 p.0) (before (read_expr room) (codes ")")) q.1) (read_op p.1)) (read_expr room s.value) (e, r) s.gives in
        let a = first.value.0 in
        let sign = split (λ (q : COp × List ℕ). mapped (bin q.0 a) (before (read_expr room) (codes ")")) q.1) (read_op first.value.1) (e, r) first.gives in
        let op = sign.value.0 in
        let last = split_map (λ (q : Expr × List ℕ). (bin op a q.0, q.1)) (before (read_expr room) (codes ")") sign.value.1) (e, r) sign.gives in
        let b = last.value.0 in
        let is : bin op a b ≡ e = ap (λ (p : Expr × List ℕ). p.0) last.gives in
        let left : last.value.1 ≡ r = ap (λ (p : Expr × List ℕ). p.1) last.gives in
        let one = own s.value a first.value.1 first.is in
        let two = sound_op first.value.1 op sign.value.1 sign.is in
        let three = closed (codes ")") sign.value.1 b last.value.1 last.is in (
          expect_sound (codes "(") t s.value s.is
              ∙ (ap (λ z. 40 ∷ z) (one.0 ∙ ap (λ z. expr_text a ++ z) (two ∙ ap (λ z. op_text op ++ z) three.0))
              ∙ (sym (text_bin op a b last.value.1) ∙ (ap (λ x. expr_text x ++ last.value.1) is ∙ ap (λ z. expr_text e ++ z) left))),
          subst (Sized (suc room)) is (sized_bin op a b one.1 three.1),
        )

    deeper : Sound (read_expr (suc room)) expr_onto (Sized (suc room))
    unfolding read_expr
    deeper =
        let S = Sized (suc room) in
        sound_choose (mapped (λ k. var k) (read_count (2 ^ 32))) expr_onto S (codes "a") _
        (sound_form (read_count (2 ^ 32)) counts_onto Small (λ k. var k) expr_onto S (codes "a") (λ k r. refl) sized_var (sound_count (2 ^ 32) (omega arith) (omega arith)))
        (sound_choose (mapped (λ e. cell_v e) (before (read_expr room) (codes "]"))) expr_onto S (codes "V[") _
        (sound_form (before (read_expr room) (codes "]")) (λ e r. expr_onto e (codes "]" ++ r)) (Sized room) (λ e. cell_v e) expr_onto S (codes "V[") (λ e r. sym (text_cell_v e r)) sized_v (closed (codes "]")))
        (sound_choose (mapped (λ e. cell_f e) (before (read_expr room) (codes "]"))) expr_onto S (codes "F[") _
        (sound_form (before (read_expr room) (codes "]")) (λ e r. expr_onto e (codes "]" ++ r)) (Sized room) (λ e. cell_f e) expr_onto S (codes "F[") (λ e r. sym (text_cell_f e r)) sized_f (closed (codes "]")))
        (sound_choose (mapped (λ (p : ℕ × Expr). tab p.0 p.1) (between (read_count (2 ^ 32)) (codes "[") (before (read_expr room) (codes "]")))) expr_onto S (codes "T") _
        (sound_form (between (read_count (2 ^ 32)) (codes "[") (before (read_expr room) (codes "]"))) (λ (p : ℕ × Expr) r. decimal p.0 ++ (codes "[" ++ (expr_text p.1 ++ (codes "]" ++ r)))) (λ (p : ℕ × Expr). Small p.0 × Sized room p.1)
        (λ (p : ℕ × Expr). tab p.0 p.1) expr_onto S (codes "T") (λ p r. sym (text_tab p.0 p.1 r)) sized_tab
        (sound_between (read_count (2 ^ 32)) (before (read_expr room) (codes "]")) counts_onto (λ e r. expr_text e ++ (codes "]" ++ r)) Small (Sized room) (codes "[") (sound_count (2 ^ 32) (omega arith) (omega arith)) (closed (codes "]"))))
        (sound_choose (mapped (λ z. num z) read_negative) expr_onto S (codes "(-") _
        (sound_joined read_negative number_onto Fits (λ z. num z) expr_onto S (codes "(-") (λ z r. refl) sized_num sound_negative)
        (sound_choose (read_bin (read_expr room)) expr_onto S (codes "(") _ bin_spelled
        (sound_mapped read_positive number_onto Fits (λ z. num z) expr_onto S (λ z r. refl) sized_num sound_positive))))))

nothing_read : Sound (read_expr zero) expr_onto (Sized zero)
unfolding read_expr
nothing_read t e r h = absurd (cc)

pub sound_expr : (room : ℕ) → Sound (read_expr room) expr_onto (Sized room)
sound_expr zero = nothing_read
sound_expr (suc room) = deeper room (sound_expr room)

-- ---- what is written is read

digits_of : (n : ℕ) → n < 2 ^ 63 → AreDigits (decimal n)
digits_of n h = decimal_digits n (omega (arith, h))

some_digits : (n : ℕ) → n < 2 ^ 63 → 0 < length (decimal n)
some_digits n h = nonempty n (omega (arith, h))

choose_none : {A B : Type 0} (o : Option A) (f : A → B) (other : B) → o ≡ None → choose o f other ≡ other
choose_none o f other h = ap (λ o. choose o f other) h

-- an expression that begins with a digit is a number
pub read_digit : (room b : ℕ) (u : List ℕ) → 48 ≤ b → b ≤ 57 → read_expr (suc room) (b ∷ u) ≡ mapped (λ z. num z) read_positive (b ∷ u)
unfolding read_expr
read_digit room b u low high =
    let t = b ∷ u in
    choose_none _ _ _ (no_front b 97 [] u (grind (arith, high)))
    ∙ (choose_none _ _ _ (no_front b 86 (91 ∷ []) u (grind (arith, high)))
    ∙ (choose_none _ _ _ (no_front b 70 (91 ∷ []) u (grind (arith, high)))
    ∙ (choose_none _ _ _ (no_front b 84 [] u (grind (arith, high)))
    ∙ (choose_none _ _ _ (no_front b 40 (45 ∷ []) u (grind (arith, low)))
    ∙ choose_none _ _ _ (no_front b 40 [] u (grind (arith, low)))))))

read_minus : (room : ℕ) (u : List ℕ) → read_expr (suc room) (40 ∷ 45 ∷ u) ≡ mapped (λ z. num z) read_negative u
unfolding read_expr expect
read_minus room u = refl

read_bracket : (room b : ℕ) (u : List ℕ) → (b == 45) ≡ false → read_expr (suc room) (40 ∷ b ∷ u) ≡ read_bin (read_expr room) (b ∷ u)
unfolding read_expr expect
read_bracket room b u h = ap (λ (t : Bool). choose (if t then Some u else None) (mapped (λ z. num z) read_negative) (read_bin (read_expr room) (b ∷ u))) h

-- what an expression's text begins with
pub record Begins (e : Expr) (r : List ℕ) : Type 0 where
  pub byte : ℕ
  pub rest : List ℕ
  pub is : expr_text e ++ r ≡ byte ∷ rest
  pub no_minus : (byte == 45) ≡ false

pub begins : (room : ℕ) (e : Expr) (r : List ℕ) → Sized room e → Begins e r
begins room (num (pos n)) r s =
    let f = first_byte (decimal n) (76 ∷ 76 ∷ r) (digits_of n (bounds n s.formed)) (some_digits n (bounds n s.formed)) in
    let low = f.3 in
    record { byte = f.0; rest = f.1; is = pos_text n r ∙ f.2; no_minus = grind (arith, low) }
begins room (num (negsuc n)) r s =
    let f = complete_negative n r (bounds_below n s.formed) in
    record { byte = 40; rest = 45 ∷ f.0; is = f.1; no_minus = refl }
begins room (var k) r s = record { byte = 97; rest = decimal k ++ r; is = refl; no_minus = refl }
begins room (tab t i) r s = record { byte = 84; rest = _; is = text_tab t i r; no_minus = refl }
begins room (cell_v i) r s = record { byte = 86; rest = _; is = text_cell_v i r; no_minus = refl }
begins room (cell_f i) r s = record { byte = 70; rest = _; is = text_cell_f i r; no_minus = refl }
begins room (bin op a b) r s = record { byte = 40; rest = _; is = text_bin op a b r; no_minus = refl }

no_room : (e : Expr) → expr_depth e ≤ 0 → ⊥
no_room (num z) h = omega (arith, h)
no_room (var k) h = omega (arith, h)
no_room (tab t i) h = omega (arith, h)
no_room (cell_v i) h = omega (arith, h)
no_room (cell_f i) h = omega (arith, h)
no_room (bin op a b) h = omega (arith, h)

module _ (room : ℕ) where
  part_v : (e : Expr) → Sized (suc room) (cell_v e) → Sized room e
  part_v e s = let low = s.depth in record { formed = s.formed; depth = omega (arith, low) }

  part_f : (e : Expr) → Sized (suc room) (cell_f e) → Sized room e
  part_f e s = let low = s.depth in record { formed = s.formed; depth = omega (arith, low) }

  part_tab : (t : ℕ) (e : Expr) → Sized (suc room) (tab t e) → Sized room e
  part_tab t e s = let low = s.depth in record { formed = right_true (nat_lt t (2 ^ 32)) (expr_formed (2 ^ 32) (2 ^ 32) e) s.formed; depth = omega (arith, low) }

  part_left : (op : COp) (a b : Expr) → Sized (suc room) (bin op a b) → Sized room a
  part_left op a b s = let low = s.depth in record { formed = left_true (expr_formed (2 ^ 32) (2 ^ 32) a) (expr_formed (2 ^ 32) (2 ^ 32) b) s.formed; depth = omega (arith, low) }

  part_right : (op : COp) (a b : Expr) → Sized (suc room) (bin op a b) → Sized room b
  part_right op a b s = let low = s.depth in record { formed = right_true (expr_formed (2 ^ 32) (2 ^ 32) a) (expr_formed (2 ^ 32) (2 ^ 32) b) s.formed; depth = omega (arith, low) }

-- a part of an expression
abbrev ReadBack : ℕ → Expr → Type 0
ReadBack room e = (r : List ℕ) → is_clear r ≡ true → read_expr room (expr_text e ++ r) ≡ Some (e, r)

module _ (room : ℕ) where
  closed_back : (xs : List ℕ) → ((r : List ℕ) → is_clear (xs ++ r) ≡ true) → (e : Expr) → ReadBack room e → (r : List ℕ) → before (read_expr room) xs (expr_text e ++ (xs ++ r)) ≡ Some (e, r)
  closed_back xs clear e own r =
      ap (option_and_then (λ (p : Expr × List ℕ). option_map (λ (q : List ℕ). (p.0, q)) (expect xs p.1))) (own (xs ++ r) (clear r))
      ∙ ap (option_map (λ (q : List ℕ). (e, q))) (expect_is xs r)

  back_var : (k : ℕ) (r : List ℕ) → k < 2 ^ 32 → is_clear r ≡ true → read_expr (suc room) (97 ∷ (decimal k ++ r)) ≡ Some (var k, r)
  unfolding read_expr expect
  back_var k r h clear = complete_mapped (read_count (2 ^ 32)) counts_onto Small (λ k. var k) (complete_count (2 ^ 32) (omega arith)) k r h clear

  back_v : (e : Expr) (r : List ℕ) → ReadBack room e → read_expr (suc room) (86 ∷ 91 ∷ (expr_text e ++ (93 ∷ r))) ≡ Some (cell_v e, r)
  unfolding read_expr expect
  back_v e r own = ap (option_map (λ (p : Expr × List ℕ). (cell_v p.0, p.1))) (closed_back (codes "]") (λ r. refl) e own r)

  back_f : (e : Expr) (r : List ℕ) → ReadBack room e → read_expr (suc room) (70 ∷ 91 ∷ (expr_text e ++ (93 ∷ r))) ≡ Some (cell_f e, r)
  unfolding read_expr expect
  back_f e r own = ap (option_map (λ (p : Expr × List ℕ). (cell_f p.0, p.1))) (closed_back (codes "]") (λ r. refl) e own r)

  back_tab : (k : ℕ) (e : Expr) (r : List ℕ) → k < 2 ^ 32 → ReadBack room e → read_expr (suc room) (84 ∷ (decimal k ++ (91 ∷ (expr_text e ++ (93 ∷ r))))) ≡ Some (tab k e, r)
  unfolding read_expr expect
  back_tab k e r h own =
      let rest = expr_text e ++ (93 ∷ r) in
      ap (λ (o : Read ℕ). option_map (λ (p : (ℕ × Expr) × List ℕ). (tab p.0.0 p.0.1, p.1)) (option_and_then (λ (p : ℕ × List ℕ). option_map (λ (q : Expr × List ℕ). ((p.0, q.0), q.1)) (after (codes "[") (before (read_expr room) (codes "]")) p.1)) o))
      (complete_count (2 ^ 32) (omega arith) k (91 ∷ rest) h refl)
      ∙ ap (λ (o : Read Expr). option_map (λ (p : (ℕ × Expr) × List ℕ). (tab p.0.0 p.0.1, p.1)) (option_map (λ (q : Expr × List ℕ). ((k, q.0), q.1)) o)) (closed_back (codes "]") (λ r. refl) e own r)

  back_bin : (op : COp) (a b : Expr) (r : List ℕ) → ReadBack room a → ReadBack room b → read_bin (read_expr room) (expr_text a ++ (op_text op ++ (expr_text b ++ (41 ∷ r)))) ≡ Some (bin op a b, r)
  back_bin op a b r first second =
      ap (option_and_then (λ (p : Expr × List ℕ). option_and_then (λ (q : COp × List ℕ). mapped (bin q.0 p.0) (before (read_expr room) (codes ")")) q.1) (read_op p.1))) (first (op_text op ++ (expr_text b ++ (41 ∷ r))) (op_clear op (expr_text b ++ (41 ∷ r))))
      ∙ (ap (option_and_then (λ (q : COp × List ℕ). mapped (bin q.0 a) (before (read_expr room) (codes ")")) q.1)) (complete_op op (expr_text b ++ (41 ∷ r)))
      ∙ ap (option_map (λ (q : Expr × List ℕ). (bin op a q.0, q.1))) (closed_back (codes ")") (λ r. refl) b second r))

  back_pos : (n : ℕ) (r : List ℕ) → n < 2 ^ 63 → is_clear r ≡ true → read_expr (suc room) (number_text (pos n) ++ r) ≡ Some (num (pos n), r)
  back_pos n r h clear =
      let f = first_byte (decimal n) (76 ∷ 76 ∷ r) (digits_of n h) (some_digits n h) in
      let text : number_text (pos n) ++ r ≡ f.0 ∷ f.1 = pos_text n r ∙ f.2 in
      ap (read_expr (suc room)) text ∙ (read_digit room f.0 f.1 f.3 f.4 ∙ (ap (mapped (λ z. num z) read_positive) (sym text)
      ∙ ap (option_map (λ (p : ℤ × List ℕ). (num p.0, p.1))) (complete_positive n r h clear)))

  back_neg : (n : ℕ) (r : List ℕ) → n < 2 ^ 63 → read_expr (suc room) (number_text (negsuc n) ++ r) ≡ Some (num (negsuc n), r)
  back_neg n r h =
      let f = complete_negative n r h in
      ap (read_expr (suc room)) f.1 ∙ (read_minus room f.0 ∙ ap (option_map (λ (p : ℤ × List ℕ). (num p.0, p.1))) f.2)

  back_bracket : (op : COp) (a b : Expr) (r : List ℕ) → Sized room a → ReadBack room a → ReadBack room b → read_expr (suc room) (expr_text (bin op a b) ++ r) ≡ Some (bin op a b, r)
  back_bracket op a b r s first second =
      let rest = op_text op ++ (expr_text b ++ (41 ∷ r)) in
      let f = begins room a rest s in
      ap (read_expr (suc room)) (text_bin op a b r ∙ ap (λ z. 40 ∷ z) f.is)
      ∙ (read_bracket room f.byte f.rest f.no_minus ∙ (ap (read_bin (read_expr room)) (sym f.is) ∙ back_bin op a b r first second))

complete_at : (e : Expr) (room : ℕ) → Sized room e → ReadBack room e
complete_at e zero s r clear = let low = s.depth in absurd (no_room e low)
complete_at (num (pos n)) (suc room) s r clear = back_pos room n r (bounds n s.formed) clear
complete_at (num (negsuc n)) (suc room) s r clear = back_neg room n r (bounds_below n s.formed)
complete_at (var k) (suc room) s r clear = back_var room k r (is_small k s.formed) clear
complete_at (tab t i) (suc room) s r clear =
    ap (read_expr (suc room)) (text_tab t i r) ∙ back_tab room t i r (is_small t (left_true (nat_lt t (2 ^ 32)) (expr_formed (2 ^ 32) (2 ^ 32) i) s.formed)) (complete_at i room (part_tab room t i s))
complete_at (cell_v i) (suc room) s r clear = ap (read_expr (suc room)) (text_cell_v i r) ∙ back_v room i r (complete_at i room (part_v room i s))
complete_at (cell_f i) (suc room) s r clear = ap (read_expr (suc room)) (text_cell_f i r) ∙ back_f room i r (complete_at i room (part_f room i s))
complete_at (bin op a b) (suc room) s r clear = back_bracket room op a b r (part_left room op a b s) (complete_at a room (part_left room op a b s)) (complete_at b room (part_right room op a b s))

pub complete_expr : (room : ℕ) → Complete (read_expr room) expr_onto (Sized room)
complete_expr room e r s clear = complete_at e room s r clear
