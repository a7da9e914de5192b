-- The canonical text of an expression spells it.
use Rattle.std.proofs.Common.{◌≡◌, ℕ, suc, ◌+◌, ◌-◌, ◌*◌, ◌%◌, ◌^◌, ◌<◌, ◌≤◌, max, ℤ, pos, negsuc, neg_ℤ, List, [], ◌∷◌, ◌++◌, length, map, Bool, true, false, cond, ◌&&◌, ◌==◌, eqb, leb, ltb, decimal, Some, None, refl, sym, ◌∙◌, ap, subst, arith, append_assoc, codes, ◌⊎◌, inl, inr}
use Rattle.std.specs.Fmt.{signed_decimal}
use Rattle.std.specs.List.{list_all, join_with_byte}
use Rattle.std.proofs.lemmas.Bool.{and_from, and_parts, or_parts, le-leb, lt-ltb, leb-true, leb-false, ltb-true, ltb-false, eqb-false, eqb-true, ne_eqb, and_cases}
use Rattle.std.proofs.Math.Nat.{mul-le-mul_right}
use Rattle.std.proofs.lemmas.List.{length-append, append-nil}
use Rattle.std.proofs.lemmas.Fmt.{decimal_by_steps, length-decimal-le}
use Rattle.aol_shape.specs.declared.limit.LimitName.TheVariants.{Number, Sums}
use Rattle.aol_shape.specs.Numbers.{fits_64}
use Rattle.aol_shape.specs.Texts.{is_digit, are_digits, digits_value, digits_value_from, is_numeral, numeral_value, is_name}
use Rattle.aol_shape.specs.Tokens.{Token, plain, sign, separated, IsSpaced, joined_text}
use Rattle.aol_shape.proofs.Numerals.{all_both, Says, decimal_says, decimal_digits, IsNumeralOf, plain_numeral, signed_numeral}
use Rattle.aol_expr_tree.specs.declared.op.ExprOp.{ExprOp}
use Rattle.aol_expr_tree.specs.declared.op.ExprOp.TheVariants.{Add, Sub, Mul, Div, Rem, Lt, Le, Eq, Min, Max}
use Rattle.aol_expr_tree.specs.Tree.{Tree, num, index, var, read, bin, if_else, sum, Trees, no_trees, tree_and, depth, depth_of, is_spelled, are_spelled, is_bound}
use Rattle.aol_expr_tree.specs.Text.{Written, numeral, dollar, name, indexed, infix_of, function_of, choice, summed, parens, WrittenList, no_written, written_and, strength, is_infix, alone, written_strength, groups_left, brackets, brackets_of, is_well, are_well, op_text, bound_token, tokens_in, token_lists, tree_written, trees_written}
use Rattle.aol_expr_tree.specs.Writing.{tree_strength, left_needs, right_needs, called, guarded, expr_text, expr_texts}

-- in parentheses, where they are needed
abbrev guard : Bool → Written → Written
guard needs w = cond needs (parens w) w

abbrev mutual
  -- what the canonical text writes
  pub canonical : Tree → Written
  canonical (num z) = numeral (signed_decimal z)
  canonical (index k) = dollar (decimal k)
  canonical (var x) = name x
  canonical (read p at) = indexed p (canonicals at)
  canonical (bin op l r) = cond (is_infix op) (infix_of op (guard (left_needs op l) (canonical l)) (guard (right_needs op r) (canonical r))) (function_of op (canonical l) (canonical r))
  canonical (if_else c a b) = choice (canonical c) (canonical a) (canonical b)
  canonical (sum x n e) = summed x (decimal n) (canonical e)

  pub canonicals : Trees → WrittenList
  canonicals no_trees = no_written
  canonicals (tree_and t ts) = written_and (canonical t) (canonicals ts)

-- ---- numbers

index_well : (k : ℕ) → k < 100 → is_well (dollar (decimal k)) ≡ true
index_well k h =
    let s : Says k (decimal k) = decimal_says k (omega (arith, h)) in
    let few : length (decimal k) ≤ 2 = length-decimal-le 2 k (omega arith) (omega (arith, h)) (omega (arith, h)) in
    and_from (leb 1 (length (decimal k)) && leb (length (decimal k)) 2) (list_all is_digit (decimal k)) (and_from (leb 1 (length (decimal k))) (leb (length (decimal k)) 2) (le-leb 1 (length (decimal k)) s.1) (le-leb (length (decimal k)) 2 few)) s.0

-- ---- texts

joined_append : (xs ys : List Token) → joined_text (xs ++ ys) ≡ joined_text xs ++ joined_text ys
joined_append [] ys = refl
joined_append (t ∷ xs) ys = ap (λ bs. t.text ++ bs) (joined_append xs ys) ∙ sym (append_assoc t.text (joined_text xs) (joined_text ys))

joined_separated : (ms : List (List Token)) → joined_text (separated ms) ≡ join_with_byte 44 (map joined_text ms)
joined_separated [] = refl
joined_separated (m ∷ []) = refl
joined_separated (m ∷ n ∷ ms) = joined_append m (sign 44 ∷ separated (n ∷ ms)) ∙ ap (λ bs. joined_text m ++ 44 ∷ bs) (joined_separated (n ∷ ms))

-- members after a word, in brackets
joined_members : (word : List ℕ) (open_byte close_byte : ℕ) (ms : List (List Token)) → joined_text (plain word ∷ sign open_byte ∷ (separated ms ++ sign close_byte ∷ [])) ≡ word ++ (open_byte ∷ (join_with_byte 44 (map joined_text ms) ++ close_byte ∷ []))
joined_members word open_byte close_byte ms = ap (λ bs. word ++ (open_byte ∷ bs)) (joined_append (separated ms) (sign close_byte ∷ []) ∙ ap (λ bs. bs ++ close_byte ∷ []) (joined_separated ms))

joined_guard : (around : ℕ) (needs : Bool) (w : Written) → joined_text (tokens_in around (guard needs w)) ≡ guarded needs (joined_text (tokens_in around w))
joined_guard around true w = ap (λ bs. 40 ∷ bs) (joined_append (tokens_in around w) (sign 41 ∷ []))
joined_guard around false w = sym (append-nil (joined_text (tokens_in around w)))

-- an operator between its operands, or before them
joined_infix : (around : ℕ) (op : ExprOp) (b c : Bool) (l r : Written) (x y : List ℕ) → joined_text (tokens_in around l) ≡ x → joined_text (tokens_in around r) ≡ y
    → joined_text (tokens_in around (infix_of op (guard b l) (guard c r))) ≡ guarded b x ++ op_text op ++ guarded c y
joined_infix around op b c l r x y e f =
    joined_append (tokens_in around (guard b l)) (plain (op_text op) ∷ tokens_in around (guard c r))
    ∙ ap (λ bs. bs ++ (op_text op ++ joined_text (tokens_in around (guard c r)))) (joined_guard around b l ∙ ap (guarded b) e)
    ∙ ap (λ bs. guarded b x ++ (op_text op ++ bs)) (joined_guard around c r ∙ ap (guarded c) f)
    ∙ sym (append_assoc (guarded b x) (op_text op) (guarded c y))

by_infix : (around : ℕ) (op : ExprOp) (i b c : Bool) (l r : Written) (x y : List ℕ) → joined_text (tokens_in around l) ≡ x → joined_text (tokens_in around r) ≡ y
    → joined_text (tokens_in around (cond i (infix_of op (guard b l) (guard c r)) (function_of op l r))) ≡ cond i (guarded b x ++ op_text op ++ guarded c y) (called (op_text op) (x ∷ y ∷ []))
by_infix around op true b c l r x y e f = joined_infix around op b c l r x y e f
by_infix around op false b c l r x y e f =
    joined_members (op_text op) 40 41 (tokens_in around l ∷ tokens_in around r ∷ []) ∙ ap (λ z. op_text op ++ (40 ∷ (join_with_byte 44 (z ∷ joined_text (tokens_in around r) ∷ []) ++ 41 ∷ []))) e ∙ ap (λ z. op_text op ++ (40 ∷ (join_with_byte 44 (x ∷ z ∷ []) ++ 41 ∷ []))) f
    ∙ sym (append_assoc (op_text op) (40 ∷ join_with_byte 44 (x ∷ y ∷ [])) (41 ∷ []))

mutual
  -- the tokens of what is canonical are its text
  pub canonical_text : (around : ℕ) (t : Tree) → joined_text (tokens_in around (canonical t)) ≡ expr_text t
  canonical_text around (num z) = append-nil (signed_decimal z)
  canonical_text around (index k) = append-nil (36 ∷ decimal k)
  canonical_text around (var x) = append-nil x
  canonical_text around (read p at) =
      joined_members p 123 125 (token_lists around (canonicals at)) ∙ ap (λ ms. p ++ (123 ∷ (join_with_byte 44 ms ++ 125 ∷ []))) (canonical_texts around at)
      ∙ sym (append_assoc p (123 ∷ join_with_byte 44 (expr_texts at)) (125 ∷ []))
  canonical_text around (bin op l r) = by_infix around op (is_infix op) (left_needs op l) (right_needs op r) (canonical l) (canonical r) (expr_text l) (expr_text r) (canonical_text around l) (canonical_text around r)
  canonical_text around (if_else c a b) =
      joined_members (codes "if") 40 41 (tokens_in around (canonical c) ∷ tokens_in around (canonical a) ∷ tokens_in around (canonical b) ∷ [])
      ∙ ap (λ z. called (codes "if") (z ∷ joined_text (tokens_in around (canonical a)) ∷ joined_text (tokens_in around (canonical b)) ∷ [])) (canonical_text around c)
      ∙ ap (λ z. called (codes "if") (expr_text c ∷ z ∷ joined_text (tokens_in around (canonical b)) ∷ [])) (canonical_text around a)
      ∙ ap (λ z. called (codes "if") (expr_text c ∷ expr_text a ∷ z ∷ [])) (canonical_text around b)
  canonical_text around (sum x n e) =
      let v : ℕ = around * digits_value (decimal n) in
      joined_members (codes "sum") 40 41 ((plain x ∷ []) ∷ (bound_token around (decimal n) ∷ []) ∷ tokens_in v (canonical e) ∷ [])
      ∙ ap (λ z. called (codes "sum") (z ∷ (decimal n ++ []) ∷ joined_text (tokens_in v (canonical e)) ∷ [])) (append-nil x)
      ∙ ap (λ z. called (codes "sum") (x ∷ z ∷ joined_text (tokens_in v (canonical e)) ∷ [])) (append-nil (decimal n))
      ∙ ap (λ z. called (codes "sum") (x ∷ decimal n ∷ z ∷ [])) (canonical_text v e)

  canonical_texts : (around : ℕ) (ts : Trees) → map joined_text (token_lists around (canonicals ts)) ≡ expr_texts ts
  canonical_texts around no_trees = refl
  canonical_texts around (tree_and t ts) = ap (λ x. x ∷ map joined_text (token_lists around (canonicals ts))) (canonical_text around t) ∙ ap (λ xs. expr_text t ∷ xs) (canonical_texts around ts)

-- tokens with no blanks between them
pub joined_spaced : (ts : List Token) → IsSpaced (joined_text ts) ts
joined_spaced [] = refl
joined_spaced (t ∷ ts) = ([], joined_text ts, refl, refl, joined_spaced ts)

-- ---- what is canonical is well written

by_kind : (op : ExprOp) → (is_infix op ≡ true) ⊎ ((is_infix op ≡ false) × ((strength op == alone) ≡ true))
by_kind Add = inl refl
by_kind Sub = inl refl
by_kind Mul = inl refl
by_kind Div = inl refl
by_kind Rem = inl refl
by_kind Lt = inl refl
by_kind Le = inl refl
by_kind Eq = inl refl
by_kind Min = inr (refl, refl)
by_kind Max = inr (refl, refl)

canonical_strength : (t : Tree) → written_strength (canonical t) ≡ tree_strength t
canonical_strength (num z) = refl
canonical_strength (index k) = refl
canonical_strength (var x) = refl
canonical_strength (read p at) = refl
canonical_strength (bin op l r) = by_op (by_kind op)
  where
    by_op : (is_infix op ≡ true) ⊎ ((is_infix op ≡ false) × ((strength op == alone) ≡ true)) → written_strength (canonical (bin op l r)) ≡ strength op
    by_op (inl e) = ap (λ i. written_strength (cond i (infix_of op (guard (left_needs op l) (canonical l)) (guard (right_needs op r) (canonical r))) (function_of op (canonical l) (canonical r)))) e
    by_op (inr e) = ap (λ i. written_strength (cond i (infix_of op (guard (left_needs op l) (canonical l)) (guard (right_needs op r) (canonical r))) (function_of op (canonical l) (canonical r)))) e.0 ∙ sym (eqb-true (strength op) alone e.1)
canonical_strength (if_else c a b) = refl
canonical_strength (sum x n e) = refl

-- guarded operands bind tightly enough
left_tight : (op : ExprOp) (l : Tree) (needs : Bool) → is_infix op ≡ true → left_needs op l ≡ needs → max 1 (strength op) ≤ written_strength (guard needs (canonical l))
left_tight op l true i e = omega (arith, ltb-true (strength op) alone i)
left_tight op l false i e =
    let parts = or_parts (ltb (tree_strength l) (strength op)) ((strength op == 0) && (tree_strength l == 0)) e in
    let least : strength op ≤ tree_strength l = ltb-false (tree_strength l) (strength op) parts.0 in
    let is = canonical_strength l in
    by_zero (and_cases (strength op == 0) (tree_strength l == 0) parts.1) least is
  where
    by_zero : ((strength op == 0) ≡ false) ⊎ ((tree_strength l == 0) ≡ false) → strength op ≤ tree_strength l → written_strength (canonical l) ≡ tree_strength l → max 1 (strength op) ≤ written_strength (canonical l)
    by_zero (inl z) least is = let n : strength op ≡ 0 → ⊥ = eqb-false (strength op) 0 z in omega arith
    by_zero (inr z) least is = let n : tree_strength l ≡ 0 → ⊥ = eqb-false (tree_strength l) 0 z in omega arith

right_tight : (op : ExprOp) (r : Tree) (needs : Bool) → is_infix op ≡ true → right_needs op r ≡ needs → strength op < written_strength (guard needs (canonical r))
right_tight op r true i e = omega (arith, ltb-true (strength op) alone i)
right_tight op r false i e = let least = leb-false (tree_strength r) (strength op) e in omega (arith, least, canonical_strength r)

guard_well : (needs : Bool) (w : Written) → is_well w ≡ true → is_well (guard needs w) ≡ true
guard_well true w h = h
guard_well false w h = h

bin_well : (op : ExprOp) (l r : Tree) → is_well (canonical l) ≡ true → is_well (canonical r) ≡ true → is_well (canonical (bin op l r)) ≡ true
bin_well op l r h k = by_op (by_kind op)
  where
    by_op : (is_infix op ≡ true) ⊎ ((is_infix op ≡ false) × ((strength op == alone) ≡ true)) → is_well (canonical (bin op l r)) ≡ true
    by_op (inl i) =
        let wl = guard (left_needs op l) (canonical l) in
        let wr = guard (right_needs op r) (canonical r) in
        let left = le-leb (max 1 (strength op)) (written_strength wl) (left_tight op l (left_needs op l) i refl) in
        let right = lt-ltb (strength op) (written_strength wr) (right_tight op r (right_needs op r) i refl) in
        let groups = and_from (is_infix op && leb (max 1 (strength op)) (written_strength wl)) (ltb (strength op) (written_strength wr)) (and_from (is_infix op) (leb (max 1 (strength op)) (written_strength wl)) i left) right in
        ap (λ t. is_well (cond t (infix_of op wl wr) (function_of op (canonical l) (canonical r)))) i
        ∙ and_from (groups_left op wl wr && is_well wl) (is_well wr) (and_from (groups_left op wl wr) (is_well wl) groups (guard_well (left_needs op l) (canonical l) h)) (guard_well (right_needs op r) (canonical r) k)
    by_op (inr e) =
        ap (λ t. is_well (cond t (infix_of op (guard (left_needs op l) (canonical l)) (guard (right_needs op r) (canonical r))) (function_of op (canonical l) (canonical r)))) e.0
        ∙ and_from ((strength op == alone) && is_well (canonical l)) (is_well (canonical r)) (and_from (strength op == alone) (is_well (canonical l)) e.1 h) k

bound_small : (around n : ℕ) → 1 ≤ around → around * n ≤ 1048576 → n ≤ 1048576
bound_small around n h most = let own : 1 * n ≤ around * n = mul-le-mul_right n h in omega arith

positive : (a n : ℕ) → 1 ≤ a → 1 ≤ n → 1 ≤ a * n
positive a n h k = let own : 1 * n ≤ a * n = mul-le-mul_right n h in omega arith

mutual
  pub canonical_well : (around : ℕ) (t : Tree) → 1 ≤ around → is_spelled around t ≡ true → is_well (canonical t) ≡ true
  canonical_well around (num z) few h = (signed_numeral z h).0
  canonical_well around (index k) few h = index_well k (ltb-true k 100 h)
  canonical_well around (var x) few h = h
  canonical_well around (read p at) few h =
      let parts = and_parts (is_name p) (are_spelled around at) h in
      and_from (is_name p) (are_well (canonicals at)) parts.0 (canonicals_well around at few parts.1)
  canonical_well around (bin op l r) few h =
      let parts = and_parts (is_spelled around l) (is_spelled around r) h in
      bin_well op l r (canonical_well around l few parts.0) (canonical_well around r few parts.1)
  canonical_well around (if_else c a b) few h =
      let last = and_parts (is_spelled around c && is_spelled around a) (is_spelled around b) h in
      let front = and_parts (is_spelled around c) (is_spelled around a) last.0 in
      and_from (is_well (canonical c) && is_well (canonical a)) (is_well (canonical b)) (and_from (is_well (canonical c)) (is_well (canonical a)) (canonical_well around c few front.0) (canonical_well around a few front.1)) (canonical_well around b few last.1)
  canonical_well around (sum x n e) few h =
      let last = and_parts (is_name x && is_bound around n) (is_spelled (around * n) e) h in
      let front = and_parts (is_name x) (is_bound around n) last.0 in
      let range = and_parts (leb 1 n) (leb (around * n) 1048576) front.1 in
      let most = leb-true (around * n) 1048576 range.1 in
      and_from (is_name x && are_digits (decimal n)) (is_well (canonical e)) (and_from (is_name x) (are_digits (decimal n)) front.0 (decimal_digits n (omega (arith, bound_small around n few most)))) (canonical_well (around * n) e (positive around n few (leb-true 1 n range.0)) last.1)

  canonicals_well : (around : ℕ) (ts : Trees) → 1 ≤ around → are_spelled around ts ≡ true → are_well (canonicals ts) ≡ true
  canonicals_well around no_trees few h = refl
  canonicals_well around (tree_and t ts) few h =
      let parts = and_parts (is_spelled around t) (are_spelled around ts) h in
      and_from (is_well (canonical t)) (are_well (canonicals ts)) (canonical_well around t few parts.0) (canonicals_well around ts few parts.1)

-- ---- brackets

guard_brackets : (needs : Bool) (w : Written) → brackets (guard needs w) ≤ 1 + brackets w
guard_brackets true w = omega arith
guard_brackets false w = omega arith

bin_brackets : (op : ExprOp) (l r : Tree) (i : Bool) → brackets (cond i (infix_of op (guard (left_needs op l) (canonical l)) (guard (right_needs op r) (canonical r))) (function_of op (canonical l) (canonical r))) ≤ 1 + max (brackets (canonical l)) (brackets (canonical r))
bin_brackets op l r true = omega (arith, guard_brackets (left_needs op l) (canonical l), guard_brackets (right_needs op r) (canonical r))
bin_brackets op l r false = omega arith

mutual
  -- brackets nest no deeper than the tree
  pub canonical_brackets : (t : Tree) → brackets (canonical t) ≤ depth t
  canonical_brackets (num z) = omega arith
  canonical_brackets (index k) = omega arith
  canonical_brackets (var x) = omega arith
  canonical_brackets (read p at) = omega (arith, canonicals_brackets at)
  canonical_brackets (bin op l r) = omega (arith, bin_brackets op l r (is_infix op), canonical_brackets l, canonical_brackets r)
  canonical_brackets (if_else c a b) = omega (arith, canonical_brackets c, canonical_brackets a, canonical_brackets b)
  canonical_brackets (sum x n e) = omega (arith, canonical_brackets e)

  canonicals_brackets : (ts : Trees) → brackets_of (canonicals ts) ≤ depth_of ts
  canonicals_brackets no_trees = omega arith
  canonicals_brackets (tree_and t ts) = omega (arith, canonical_brackets t, canonicals_brackets ts)

-- ---- the tree

guard_tree : (needs : Bool) (w : Written) → tree_written (guard needs w) ≡ tree_written w
guard_tree true w = refl
guard_tree false w = refl

bin_tree : (op : ExprOp) (l r : Tree) (i : Bool) → tree_written (canonical l) ≡ l → tree_written (canonical r) ≡ r
    → tree_written (cond i (infix_of op (guard (left_needs op l) (canonical l)) (guard (right_needs op r) (canonical r))) (function_of op (canonical l) (canonical r))) ≡ bin op l r
bin_tree op l r true e f =
    ap (λ t. bin op t (tree_written (guard (right_needs op r) (canonical r)))) (guard_tree (left_needs op l) (canonical l) ∙ e)
    ∙ ap (bin op l) (guard_tree (right_needs op r) (canonical r) ∙ f)
bin_tree op l r false e f = ap (λ t. bin op t (tree_written (canonical r))) e ∙ ap (bin op l) f

-- small numbers are in 64 bits
terms_says : (a n : ℕ) → 1 ≤ a → is_bound a n ≡ true → digits_value (decimal n) ≡ n
terms_says a n h e =
    let most = leb-true (a * n) 1048576 (and_parts (leb 1 n) (leb (a * n) 1048576) e).1 in
    (decimal_says n (omega (arith, bound_small a n h most))).2

mutual
  pub canonical_tree : (around : ℕ) (t : Tree) → 1 ≤ around → is_spelled around t ≡ true → tree_written (canonical t) ≡ t
  canonical_tree around (num z) few h = ap num (signed_numeral z h).1
  canonical_tree around (index k) few h = ap index (decimal_says k (omega (arith, ltb-true k 100 h))).2
  canonical_tree around (var x) few h = refl
  canonical_tree around (read p at) few h = ap (read p) (canonicals_tree around at few (and_parts (is_name p) (are_spelled around at) h).1)
  canonical_tree around (bin op l r) few h =
      let parts = and_parts (is_spelled around l) (is_spelled around r) h in
      bin_tree op l r (is_infix op) (canonical_tree around l few parts.0) (canonical_tree around r few parts.1)
  canonical_tree around (if_else c a b) few h =
      let last = and_parts (is_spelled around c && is_spelled around a) (is_spelled around b) h in
      let front = and_parts (is_spelled around c) (is_spelled around a) last.0 in
      ap (λ t. if_else t (tree_written (canonical a)) (tree_written (canonical b))) (canonical_tree around c few front.0)
      ∙ ap (λ t. if_else c t (tree_written (canonical b))) (canonical_tree around a few front.1)
      ∙ ap (if_else c a) (canonical_tree around b few last.1)
  canonical_tree around (sum x n e) few h =
      let last = and_parts (is_name x && is_bound around n) (is_spelled (around * n) e) h in
      let front = and_parts (is_name x) (is_bound around n) last.0 in
      let least = leb-true 1 n (and_parts (leb 1 n) (leb (around * n) 1048576) front.1).0 in
      ap (λ m. sum x m (tree_written (canonical e))) (terms_says around n few front.1) ∙ ap (sum x n) (canonical_tree (around * n) e (positive around n few least) last.1)

  canonicals_tree : (around : ℕ) (ts : Trees) → 1 ≤ around → are_spelled around ts ≡ true → trees_written (canonicals ts) ≡ ts
  canonicals_tree around no_trees few h = refl
  canonicals_tree around (tree_and t ts) few h =
      let parts = and_parts (is_spelled around t) (are_spelled around ts) h in
      ap (λ u. tree_and u (trees_written (canonicals ts))) (canonical_tree around t few parts.0) ∙ ap (tree_and t) (canonicals_tree around ts few parts.1)

-- ---- no token passes a limit

abbrev pub AllPass : List Token → Type 0
AllPass [] = Unit {0}
AllPass (t ∷ ts) = (t.passes ≡ None) × AllPass ts

pass_both : (xs ys : List Token) → AllPass xs → AllPass ys → AllPass (xs ++ ys)
pass_both [] ys h k = k
pass_both (x ∷ xs) ys h k = (h.0, pass_both xs ys h.1 k)

abbrev AllMembers : List (List Token) → Type 0
AllMembers [] = Unit {0}
AllMembers (m ∷ ms) = AllPass m × AllMembers ms

pass_separated : (ms : List (List Token)) → AllMembers ms → AllPass (separated ms)
pass_separated [] h = tt
pass_separated (m ∷ []) h = h.0
pass_separated (m ∷ n ∷ ms) h = pass_both m (sign 44 ∷ separated (n ∷ ms)) h.0 (refl, pass_separated (n ∷ ms) h.1)

pass_called : (word : List ℕ) (a b : ℕ) (ms : List (List Token)) → AllMembers ms → AllPass (plain word ∷ sign a ∷ (separated ms ++ sign b ∷ []))
pass_called word a b ms h = (refl, (refl, pass_both (separated ms) (sign b ∷ []) (pass_separated ms h) (refl, tt)))

pass_guard : (around : ℕ) (needs : Bool) (w : Written) → AllPass (tokens_in around w) → AllPass (tokens_in around (guard needs w))
pass_guard around true w h = (refl, pass_both (tokens_in around w) (sign 41 ∷ []) h (refl, tt))
pass_guard around false w h = h

pass_bin : (around : ℕ) (op : ExprOp) (l r : Tree) (i : Bool) → AllPass (tokens_in around (canonical l)) → AllPass (tokens_in around (canonical r))
    → AllPass (tokens_in around (cond i (infix_of op (guard (left_needs op l) (canonical l)) (guard (right_needs op r) (canonical r))) (function_of op (canonical l) (canonical r))))
pass_bin around op l r true h k =
    pass_both (tokens_in around (guard (left_needs op l) (canonical l))) (plain (op_text op) ∷ tokens_in around (guard (right_needs op r) (canonical r))) (pass_guard around (left_needs op l) (canonical l) h)
    (refl, pass_guard around (right_needs op r) (canonical r) k)
pass_bin around op l r false h k = pass_called (op_text op) 40 41 (tokens_in around (canonical l) ∷ tokens_in around (canonical r) ∷ []) (h, (k, tt))

mutual
  pub canonical_passes : (around : ℕ) (t : Tree) → 1 ≤ around → is_spelled around t ≡ true → AllPass (tokens_in around (canonical t))
  canonical_passes around (num z) few h = (ap (λ v. cond (fits_64 v) None (Some Number)) (signed_numeral z h).1 ∙ ap (λ b. cond b None (Some Number)) h, tt)
  canonical_passes around (index k) few h = (refl, tt)
  canonical_passes around (var x) few h = (refl, tt)
  canonical_passes around (read p at) few h = pass_called p 123 125 (token_lists around (canonicals at)) (canonicals_pass around at few (and_parts (is_name p) (are_spelled around at) h).1)
  canonical_passes around (bin op l r) few h =
      let parts = and_parts (is_spelled around l) (is_spelled around r) h in
      pass_bin around op l r (is_infix op) (canonical_passes around l few parts.0) (canonical_passes around r few parts.1)
  canonical_passes around (if_else c a b) few h =
      let last = and_parts (is_spelled around c && is_spelled around a) (is_spelled around b) h in
      let front = and_parts (is_spelled around c) (is_spelled around a) last.0 in
      pass_called (codes "if") 40 41 (tokens_in around (canonical c) ∷ tokens_in around (canonical a) ∷ tokens_in around (canonical b) ∷ []) (canonical_passes around c few front.0, (canonical_passes around a few front.1, (canonical_passes around b few last.1, tt)))
  canonical_passes around (sum x n e) few h =
      let last = and_parts (is_name x && is_bound around n) (is_spelled (around * n) e) h in
      let front = and_parts (is_name x) (is_bound around n) last.0 in
      let least = leb-true 1 n (and_parts (leb 1 n) (leb (around * n) 1048576) front.1).0 in
      let is = terms_says around n few front.1 in
      pass_called (codes "sum") 40 41 ((plain x ∷ []) ∷ (bound_token around (decimal n) ∷ []) ∷ tokens_in (around * digits_value (decimal n)) (canonical e) ∷ []) (
        (refl, tt),
        (
          (ap (λ v. cond (is_bound around v) None (Some Sums)) is ∙ ap (λ b. cond b None (Some Sums)) front.1, tt),
          (subst (λ v. AllPass (tokens_in (around * v) (canonical e))) (sym is) (canonical_passes (around * n) e (positive around n few least) last.1), tt),
        ),
      )

  canonicals_pass : (around : ℕ) (ts : Trees) → 1 ≤ around → are_spelled around ts ≡ true → AllMembers (token_lists around (canonicals ts))
  canonicals_pass around no_trees few h = tt
  canonicals_pass around (tree_and t ts) few h =
      let parts = and_parts (is_spelled around t) (are_spelled around ts) h in
      (canonical_passes around t few parts.0, canonicals_pass around ts few parts.1)
