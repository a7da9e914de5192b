-- A text spells one expression at most.
use Rattle.std.proofs.Common.{◌≡◌, ℕ, zero, suc, ◌+◌, ◌<◌, ◌≤◌, List, [], ◌∷◌, Bool, true, false, leb, ltb, length, refl, sym, ◌∙◌, ap, subst, arith}
use Rattle.std.specs.List.{list_all}
use Rattle.std.proofs.lemmas.Bool.{and_parts, false≢true, ltb-true, ltb-false}
use Rattle.aol_shape.specs.Texts.{is_name_byte}
use Rattle.aol_shape.specs.Grammar.{IsTextOf}
use Rattle.aol_expr_tree.specs.declared.op.ExprOp.TheVariants.{Sub}
use Rattle.aol_expr_tree.specs.Text.{Written, numeral, dollar, name, infix_of, strength, written_strength, is_well, brackets, op_text, tree_written, expr_grammar}
use Rattle.aol_expr_grammar.proofs.Backwards.{onto, back}
use Rattle.aol_expr_grammar.proofs.Solid.{text_back}
use Rattle.aol_expr_grammar.proofs.Prefixes.{head, tail, IsFinal, Sep, round, comma, curly, Prefix, nothing, opening, operator, not_final, looser, op_cancel, op_head, op_no_money, binds_less, IsBlocked, prefix_blocked, names_cancel, names_head}
use Rattle.aol_expr_grammar.proofs.Views.{size, Mark, bare, minus, money, mark_text, IsToken, End, round_end, curly_end, closing, opening_byte, back_args, sizes, AreWell, IsCall, same_token, same_call, IsJoint, View, token, call, joint, view, back_final}

-- ---- tokens

mark_blocked : {n : ℕ} (m : Mark) (a : List ℕ) → Prefix n a → IsBlocked (mark_text m a)
mark_blocked bare a p = prefix_blocked a p
mark_blocked minus a p = refl
mark_blocked money a p = refl

-- an operator's byte before a number is no sign of it
no_sign : {n m : ℕ} (a b : List ℕ) → Prefix n a → Prefix m b → a ≡ 45 ∷ b → ⊥
no_sign a b (nothing e) q h = let f : [] ≡ 45 ∷ b = sym e ∙ h in cc
no_sign a b (opening c k e round) q h = omega (arith, ap head (sym e ∙ h))
no_sign a b (opening c k e comma) q h = omega (arith, ap head (sym e ∙ h))
no_sign a b (opening c k e curly) q h = omega (arith, ap head (sym e ∙ h))
no_sign a b (operator op k e i l f) q h = not_final b q (subst IsFinal (op_cancel op Sub k b i refl (sym e ∙ h)).1 f)

abbrev Marked : Mark → Mark → List ℕ → List ℕ → Type 0
Marked s t a b = (s ≡ t) × (a ≡ b)

money_not : {n : ℕ} (a b : List ℕ) → Prefix n a → a ≡ 36 ∷ b → ⊥
money_not a b (nothing e) h = let f : [] ≡ 36 ∷ b = sym e ∙ h in cc
money_not a b (opening c k e round) h = omega (arith, ap head (sym e ∙ h))
money_not a b (opening c k e comma) h = omega (arith, ap head (sym e ∙ h))
money_not a b (opening c k e curly) h = omega (arith, ap head (sym e ∙ h))
money_not a b (operator op k e i l f) h = op_no_money op (sym (op_head op k i) ∙ ap head (sym e ∙ h))

marks_cancel : {n m : ℕ} (s t : Mark) (a b : List ℕ) → Prefix n a → Prefix m b → mark_text s a ≡ mark_text t b → Marked s t a b
marks_cancel bare bare a b p q e = (refl, e)
marks_cancel bare minus a b p q e = absurd (no_sign a b p q e)
marks_cancel bare money a b p q e = absurd (money_not a b p e)
marks_cancel minus bare a b p q e = absurd (no_sign b a q p (sym e))
marks_cancel minus minus a b p q e = (refl, ap tail e)
marks_cancel minus money a b p q e = absurd (omega (arith, ap head e))
marks_cancel money bare a b p q e = absurd (money_not b a q (sym e))
marks_cancel money minus a b p q e = absurd (omega (arith, ap head e))
marks_cancel money money a b p q e = (refl, ap tail e)

-- ---- each claim, for what is no larger than a number

abbrev Same : Written → Written → List ℕ → List ℕ → Type 0
Same v w a b = (v ≡ w) × (a ≡ b)

-- the same bytes after what may stand before operands are the same operand after the same
abbrev Claim : ℕ → Type 0
Claim m = (n : ℕ) (v w : Written) (a b : List ℕ) → size v + size w ≤ m → is_well v ≡ true → is_well w ≡ true → n ≤ written_strength v → n ≤ written_strength w → Prefix n a → Prefix n b → back v a ≡ back w b → Same v w a b

two_tokens : {n : ℕ} (v w : Written) (a b : List ℕ) → IsToken v → IsToken w → Prefix n a → Prefix n b → back v a ≡ back w b → Same v w a b
two_tokens v w a b s t p q e =
    let cores = names_cancel s.core t.core (mark_text s.mark a) (mark_text t.mark b) s.names t.names (mark_blocked s.mark a p) (mark_blocked t.mark b q) (sym (s.back_is a) ∙ e ∙ t.back_is b) in
    let marks : Marked s.mark t.mark a b = marks_cancel s.mark t.mark a b p q cores.1 in
    (same_token v w s t marks.0 cores.0, marks.1)

opening_sep : (e : End) → Sep (opening_byte e)
opening_sep round_end = round
opening_sep curly_end = curly

opening_no_comma : (e : End) → opening_byte e ≡ 44 → ⊥
opening_no_comma round_end h = omega (arith, h)
opening_no_comma curly_end h = omega (arith, h)

opening_not_final : (e : End) (k : List ℕ) → IsFinal (opening_byte e ∷ k) → ⊥
opening_not_final round_end k h = false≢true h
opening_not_final curly_end k h = false≢true h

args_final : (w : Written) (ws : List Written) (k : List ℕ) → is_well w ≡ true → IsFinal (back_args (w ∷ ws) k)
args_final w [] k h = back_final w h k
args_final w (v ∷ ws) k h = back_final w h (44 ∷ back_args (v ∷ ws) k)

module _ (m : ℕ) (below : Claim m) (e : End) (a b : List ℕ) where
  abbrev Before : List ℕ → List ℕ
  Before k = opening_byte e ∷ k

  at_end : (k : List ℕ) → Prefix 0 (opening_byte e ∷ k)
  at_end k = opening (opening_byte e) k refl (opening_sep e)

  at_comma : (k : List ℕ) → Prefix 0 (44 ∷ k)
  at_comma k = opening 44 k refl comma

  args_cancel : (vs ws : List Written) → sizes vs + sizes ws ≤ m → AreWell vs → AreWell ws → back_args vs (opening_byte e ∷ a) ≡ back_args ws (opening_byte e ∷ b) → (vs ≡ ws) × (a ≡ b)
  args_cancel [] [] s h k f = (refl, ap tail f)
  args_cancel [] (w ∷ ws) s h k f = absurd (opening_not_final e a (subst IsFinal (sym f) (args_final w ws (opening_byte e ∷ b) k.0)))
  args_cancel (v ∷ vs) [] s h k f = absurd (opening_not_final e b (subst IsFinal f (args_final v vs (opening_byte e ∷ a) h.0)))
  args_cancel (v ∷ []) (w ∷ []) s h k f =
      let r = below 0 v w (opening_byte e ∷ a) (opening_byte e ∷ b) (omega (arith, s)) h.0 k.0 (omega arith) (omega arith) (at_end a) (at_end b) f in
      (ap (λ x. x ∷ []) r.0, ap tail r.1)
  args_cancel (v ∷ []) (w ∷ w' ∷ ws) s h k f =
      let r = below 0 v w (opening_byte e ∷ a) (44 ∷ back_args (w' ∷ ws) (opening_byte e ∷ b)) (omega (arith, s)) h.0 k.0 (omega arith) (omega arith) (at_end a) (at_comma _) f in
      absurd (opening_no_comma e (ap head r.1))
  args_cancel (v ∷ v' ∷ vs) (w ∷ []) s h k f =
      let r = below 0 v w (44 ∷ back_args (v' ∷ vs) (opening_byte e ∷ a)) (opening_byte e ∷ b) (omega (arith, s)) h.0 k.0 (omega arith) (omega arith) (at_comma _) (at_end b) f in
      absurd (opening_no_comma e (ap head (sym r.1)))
  args_cancel (v ∷ v' ∷ vs) (w ∷ w' ∷ ws) s h k f =
      let r = below 0 v w (44 ∷ back_args (v' ∷ vs) (opening_byte e ∷ a)) (44 ∷ back_args (w' ∷ ws) (opening_byte e ∷ b)) (omega (arith, s)) h.0 k.0 (omega arith) (omega arith) (at_comma _) (at_comma _) f in
      let more = args_cancel (v' ∷ vs) (w' ∷ ws) (omega (arith, s)) h.1 k.1 (ap tail r.1) in
      (ap (λ x. x ∷ v' ∷ vs) r.0 ∙ ap (λ xs. w ∷ xs) more.0, more.1)

closing_same : (s t : End) → closing s ≡ closing t → s ≡ t
closing_same round_end round_end h = refl
closing_same round_end curly_end h = absurd (omega (arith, h))
closing_same curly_end round_end h = absurd (omega (arith, h))
closing_same curly_end curly_end h = refl

two_calls : {n : ℕ} (m : ℕ) → Claim m → (v w : Written) (a b : List ℕ) → size v + size w ≤ suc m → IsCall v → IsCall w → Prefix n a → Prefix n b → back v a ≡ back w b → Same v w a b
two_calls m below v w a b s f g p q h =
    let whole : closing f.end ∷ back_args f.args (opening_byte f.end ∷ onto f.word a) ≡ closing g.end ∷ back_args g.args (opening_byte g.end ∷ onto g.word b) = sym (f.back_is a) ∙ h ∙ g.back_is b in
    let end : f.end ≡ g.end = closing_same f.end g.end (ap head whole) in
    let rest : back_args f.args (opening_byte f.end ∷ onto f.word a) ≡ back_args g.args (opening_byte f.end ∷ onto g.word b) = ap tail whole ∙ ap (λ e. back_args g.args (opening_byte e ∷ onto g.word b)) (sym end) in
    let args = args_cancel m below f.end (onto f.word a) (onto g.word b) f.args g.args (omega (arith, s, f.small, g.small)) f.well g.well rest in
    let words = names_cancel f.word g.word a b f.names g.names (prefix_blocked a p) (prefix_blocked b q) args.1 in
    (same_call v w f g end words.0 args.0, words.1)

closing_no_name : (e : End) → is_name_byte (closing e) ≡ false
closing_no_name round_end = refl
closing_no_name curly_end = refl

-- a token doesn't end as a call
token_call : (v w : Written) (a b : List ℕ) → IsToken v → IsCall w → back v a ≡ back w b → ⊥
token_call v w a b s g h = by_core s.core s.names s.some (sym (s.back_is a) ∙ h ∙ g.back_is b)
  where
    by_core : (x : List ℕ) → list_all is_name_byte x ≡ true → 1 ≤ length x → onto x (mark_text s.mark a) ≡ closing g.end ∷ back_args g.args (opening_byte g.end ∷ onto g.word b) → ⊥
    by_core [] i j k = omega (arith, j)
    by_core (c ∷ x) i j k = false≢true (sym (closing_no_name g.end) ∙ names_head c x (mark_text s.mark a) (closing g.end) _ i k)

-- ---- an operator

-- before the right operand of an operator
right_prefix : (w : Written) (j : IsJoint w) (b : List ℕ) → Prefix (suc (strength j.op)) (onto (op_text j.op) (back j.left b))
right_prefix w j b = operator j.op (back j.left b) refl j.infix_is (omega arith) (back_final j.left j.left_well b)

joint_back : (w : Written) (j : IsJoint w) (b : List ℕ) → back w b ≡ back j.right (onto (op_text j.op) (back j.left b))
joint_back w j b = ap (λ x. back x b) j.is

joint_size : (w : Written) (j : IsJoint w) → size w ≡ 1 + size j.left + size j.right
joint_size w j = ap size j.is

joint_binds : (w : Written) (j : IsJoint w) → written_strength w ≡ strength j.op
joint_binds w j = ap written_strength j.is

-- what binds more tightly than an operator can't stand in its place
tighter : {n : ℕ} (m : ℕ) → Claim m → (v w : Written) (a b : List ℕ) → size v + size w ≤ suc m → is_well v ≡ true → (j : IsJoint w) → strength j.op < written_strength v → n ≤ strength j.op → Prefix n a → back v a ≡ back w b → ⊥
tighter {n} m below v w a b s h j l k p e =
    let r = below (suc (strength j.op)) v j.right a (onto (op_text j.op) (back j.left b)) (omega (arith, s, joint_size w j)) h j.right_well l j.right_binds (looser (suc (strength j.op)) a (omega (arith, k)) p) (right_prefix w j b) (e ∙ joint_back w j b) in
    let less : strength j.op < n = binds_less a j.op (back j.left b) p j.infix_is r.1 in
    omega (arith, less, k)

two_joints : {n : ℕ} (m : ℕ) → Claim m → (v w : Written) (a b : List ℕ) → size v + size w ≤ suc m → (i : IsJoint v) (j : IsJoint w) → strength i.op ≡ strength j.op → n ≤ strength i.op → Prefix n a → Prefix n b → back v a ≡ back w b → Same v w a b
two_joints {n} m below v w a b s i j same k p q e =
    let rights = below (suc (strength i.op)) i.right j.right (onto (op_text i.op) (back i.left a)) (onto (op_text j.op) (back j.left b)) (omega (arith, s, joint_size v i, joint_size w j)) i.right_well j.right_well i.right_binds (omega (arith, same, j.right_binds))
    (right_prefix v i a) (subst (λ t. Prefix (suc t) (onto (op_text j.op) (back j.left b))) (sym same) (right_prefix w j b)) (sym (joint_back v i a) ∙ e ∙ joint_back w j b) in
    let ops = op_cancel i.op j.op (back i.left a) (back j.left b) i.infix_is j.infix_is rights.1 in
    let lefts = below n i.left j.left a b (omega (arith, s, joint_size v i, joint_size w j)) i.left_well j.left_well (omega (arith, k, i.left_binds)) (omega (arith, k, same, j.left_binds)) p q ops.1 in
    let whole : infix_of i.op i.left i.right ≡ infix_of j.op j.left j.right = ap (λ o. infix_of o i.left i.right) ops.0 ∙ ap (λ l. infix_of j.op l i.right) lefts.0 ∙ ap (infix_of j.op j.left) rights.0 in
    (i.is ∙ whole ∙ sym j.is, lefts.1)

-- ---- all

by_order : (P : Type 0) (x y : ℕ) → (x < y → P) → (y < x → P) → (x ≡ y → P) → P
by_order P x y f g h = by_tests (ltb x y) refl (ltb y x) refl
  where
    by_tests : (s : Bool) → ltb x y ≡ s → (t : Bool) → ltb y x ≡ t → P
    by_tests true e t d = f (ltb-true x y e)
    by_tests false e true d = g (ltb-true y x d)
    by_tests false e false d = h (omega (arith, ltb-false x y e, ltb-false y x d))

module _ (m : ℕ) (below : Claim m) (n : ℕ) (v w : Written) (a b : List ℕ) (s : size v + size w ≤ suc m) (h : is_well v ≡ true) (k : is_well w ≡ true) (x : n ≤ written_strength v) (y : n ≤ written_strength w) (p : Prefix n a) (q : Prefix n b) (e : back v a ≡ back w b) where
  right_joint : (j : IsJoint w) → written_strength v ≡ 3 → Same v w a b
  right_joint j l = absurd (tighter m below v w a b s h j (omega (arith, l, ltb-true (strength j.op) 3 j.infix_is)) (omega (arith, y, joint_binds w j)) p e)

  left_joint : (j : IsJoint v) → written_strength w ≡ 3 → Same v w a b
  left_joint j l = absurd (tighter m below w v b a (omega (arith, s)) k j (omega (arith, l, ltb-true (strength j.op) 3 j.infix_is)) (omega (arith, x, joint_binds v j)) q (sym e))

  by_views : View v → View w → Same v w a b
  by_views (token f) (token g) = two_tokens v w a b f g p q e
  by_views (token f) (call g) = absurd (token_call v w a b f g e)
  by_views (call f) (token g) = absurd (token_call w v b a g f (sym e))
  by_views (call f) (call g) = two_calls m below v w a b s f g p q e
  by_views (token f) (joint j) = right_joint j f.alone_is
  by_views (call f) (joint j) = right_joint j f.alone_is
  by_views (joint i) (token g) = left_joint i g.alone_is
  by_views (joint i) (call g) = left_joint i g.alone_is
  by_views (joint i) (joint j) = by_order (Same v w a b) (strength i.op) (strength j.op)
      (λ l. absurd (tighter m below w v b a (omega (arith, s)) k i (omega (arith, l, joint_binds w j)) (omega (arith, x, joint_binds v i)) q (sym e)))
      (λ l. absurd (tighter m below v w a b s h j (omega (arith, l, joint_binds v i)) (omega (arith, y, joint_binds w j)) p e))
      (λ same. two_joints m below v w a b s i j same (omega (arith, x, joint_binds v i)) p q e)

size_some : (w : Written) → is_well w ≡ true → 1 ≤ size w
size_some (numeral t) h = omega arith
size_some (dollar t) h = omega arith
size_some (name x) h = omega arith
size_some w h = omega arith

claim : (m : ℕ) → Claim m
claim zero n v w a b s h k x y p q e = absurd (omega (arith, s, size_some v h))
claim (suc m) n v w a b s h k x y p q e = by_views m (claim m) n v w a b s h k x y p q e (view v h) (view w k)

-- a text spells one expression at most
pub one_written : (text : List ℕ) (v w : Written) → IsTextOf expr_grammar text v → IsTextOf expr_grammar text w → v ≡ w
one_written text v w s t =
    let h : is_well v ≡ true = (and_parts (is_well v) (leb (brackets v) 100) s.well).0 in
    let k : is_well w ≡ true = (and_parts (is_well w) (leb (brackets w) 100) t.well).0 in
    (claim (size v + size w) 0 v w [] [] (omega arith) h k (omega arith) (omega arith) (nothing refl) (nothing refl) (sym (text_back text v h s.spaced) ∙ text_back text w k t.spaced)).0

-- and one tree
pub one_tree : (text : List ℕ) (v w : Written) → IsTextOf expr_grammar text v → IsTextOf expr_grammar text w → tree_written v ≡ tree_written w
one_tree text v w s t = ap tree_written (one_written text v w s t)
